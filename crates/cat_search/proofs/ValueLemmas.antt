-- Something is admitted where each term has a value.
use Rattle.std.proofs.Common.{false, IsTrue, List, Option, Some, None, slice_get}
use Rattle.std.proofs.Common.{refl, sym, subst}
use Rattle.std.specs.List.{list_all}
use Rattle.cat_value.proofs.Exported.{found, list_all_at}
use Rattle.cat_num.specs.Frac.{gcd}
use Rattle.cat_region.specs.declared.dim.Dim.{Dim}
use Rattle.cat_region.specs.declared.dim.Dim.TheVariants as dim
use Rattle.cat_region.specs.declared.point.Point.{Point}
use Rattle.cat_region.specs.declared.point.Point.TheVariants as point
use Rattle.cat_region.specs.Points.{is_point, default_point}
use Rattle.cat_region.specs.Regions.{IsInhabited, IsValuation, is_point_of}
use Rattle.cat_guard.specs.declared.table.Term.{Term}
use Rattle.cat_guard.specs.Valuations.{dims_of}
use Rattle.cat_search.specs.Searched.{everything, has_value}

default_is : (d : Dim) → IsTrue (has_value d) → IsTrue (is_point d (default_point d))
unfolding gcd
default_is dim.Whole has = refl
default_is dim.Money has = refl
default_is dim.Day has = refl
default_is dim.Decimal has = refl
default_is dim.Truth has = refl
default_is (dim.Cases n) has = has

abbrev default_of : Option Dim → Point
default_of None = point.Truth false
default_of (Some d) = default_point d

defaults : (dims : List Dim) → IsTrue (list_all has_value dims) → IsValuation dims (λ i. default_of (slice_get dims i))
defaults dims all i within =
    let one = found dims i within in
    subst (λ (o : Option Dim). IsTrue (is_point_of o (default_of o))) (sym one.1)
    (default_is one.0 (list_all_at has_value dims i one.0 all one.1))

pub something : (terms : List Term) → IsTrue (list_all has_value (dims_of terms)) → IsInhabited (everything terms)
something terms all = (∣ (
  λ i. default_of (slice_get (dims_of terms) i),
  record { valuation = defaults (dims_of terms) all; agreeing = refl },
) ∣₁)

pub ruleset whole = (something)
