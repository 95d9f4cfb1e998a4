-- What doesn't hang on the room of a region, and what is so before its last narrowing.
use Rattle.std.proofs.Common.{◌≡◌, ℕ, true, false, IsTrue, List, [], ◌∷◌, ◌++◌, sym, ap, ◌∙◌, subst, refl}
use Rattle.std.proofs.Math.Logic.{∥∥₁_elim}
use Rattle.std.proofs.Props.{props}
use Rattle.std.proofs.lemmas.Bool.{and_parts}
use Rattle.std.proofs.lemmas.List.Folds.{list_all-append}
use Rattle.std.specs.List.{list_all}
use Rattle.cat_region.specs.declared.dim.Dim.{Dim}
use Rattle.cat_region.specs.declared.cut.Cut.{Cut}
use Rattle.cat_region.specs.declared.narrowing.Narrowing.{Narrowing}
use Rattle.cat_region.specs.Regions.{Constraints, Valuation, IsRegion, IsInhabited, Admits, IsValuation}
use Rattle.cat_region.specs.Regions.{with_narrowing, narrowed_to, is_cut_at, is_dim, agrees}
use Rattle.cat_region.specs.Decided.{admits_none, decided_at}
use Rattle.cat_region.proofs.DecisionLaws.{Admits-with_narrowing}

-- ---- regions that differ in room alone

pub none_alike : (region other : Constraints) → region.dims ≡ other.dims → region.narrowings ≡ other.narrowings
    → admits_none region ≡ admits_none other
unfolding admits_none
none_alike region other dims narrowings =
    ap (λ ds. admits_none (record { dims = ds; narrowings = region.narrowings; room = 0 })) dims
    ∙ ap (λ ns. admits_none (record { dims = other.dims; narrowings = ns; room = 0 })) narrowings

pub decided_alike : (region other : Constraints) (i : ℕ) (c : Cut) → region.dims ≡ other.dims
    → region.narrowings ≡ other.narrowings → decided_at region i c ≡ decided_at other i c
unfolding decided_at
decided_alike region other i c dims narrowings =
    let same : (n : Narrowing) → admits_none (with_narrowing region n) ≡ admits_none (with_narrowing other n) =
    λ n. none_alike (with_narrowing region n) (with_narrowing other n) dims (ap (λ ns. ns ++ n ∷ []) narrowings) in
    rw (none_alike region other dims narrowings, same (narrowed_to i c false), same (narrowed_to i c true)) refl

pub region_alike : (region other : Constraints) → region.dims ≡ other.dims → region.narrowings ≡ other.narrowings
    → IsRegion region → IsRegion other
region_alike region other dims narrowings is = record {
  dims = subst (λ (ds : List Dim). IsTrue (list_all is_dim ds)) dims is.dims;
  narrowings = subst (λ (ns : List Narrowing). IsTrue (list_all (λ n. is_cut_at other.dims n.dim n.cut) ns)) narrowings
      (subst (λ (ds : List Dim). IsTrue (list_all (λ n. is_cut_at ds n.dim n.cut) region.narrowings)) dims
      is.narrowings);
}

pub admits_alike : (region other : Constraints) (v : Valuation) → region.dims ≡ other.dims
    → region.narrowings ≡ other.narrowings → Admits other v → Admits region v
admits_alike region other v dims narrowings admits = record {
  valuation = subst (λ (ds : List Dim). IsValuation ds v) (sym dims) admits.valuation;
  agreeing =
      subst (λ (ns : List Narrowing). IsTrue (list_all (λ n. agrees (v n.dim) n) ns)) (sym narrowings)
      admits.agreeing;
}

pub inhabited_alike : (region other : Constraints) → region.dims ≡ other.dims → region.narrowings ≡ other.narrowings
    → IsInhabited region → IsInhabited other
inhabited_alike region other dims narrowings some = ∥∥₁_elim some (hlevel props) (λ found.
    ∣ (found.0, admits_alike other region found.0 (sym dims) (sym narrowings) found.1) ∣₁)

-- ---- before the last narrowing

-- there was a region, of which it is a cut
pub region_before : (region : Constraints) (n : Narrowing) → IsRegion (with_narrowing region n)
    → IsRegion region × IsTrue (is_cut_at region.dims n.dim n.cut)
region_before region n is =
    let test = λ (m : Narrowing). is_cut_at region.dims m.dim m.cut in
    let parts = and_parts (list_all test region.narrowings) (list_all test (n ∷ []))
    (sym (list_all-append test region.narrowings (n ∷ [])) ∙ is.narrowings) in
    (record { dims = is.dims; narrowings = parts.0 }, (and_parts (test n) true parts.1).0)

pub some_before : (region : Constraints) (n : Narrowing) → IsInhabited (with_narrowing region n) → IsInhabited region
some_before region n some = ∥∥₁_elim some (hlevel props) (λ found.
    ∣ (found.0, ((Admits-with_narrowing region n found.0).0 found.1).0) ∣₁)
