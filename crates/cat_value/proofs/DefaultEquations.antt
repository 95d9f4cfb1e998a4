-- The equations of `default_to`, one a variant.
use Rattle.std.proofs.Common.{◌≡◌, ℕ, zero, suc, ◌-◌, ◌<◌, false, pos, [], None, Some, slice_get, rules, arith, refl}
use Rattle.std.proofs.Common.{sub-one, ap, ◌∙◌}
use Rattle.cat_num.specs.Frac.{lowest, gcd}
use Rattle.cat_date.specs.Calendar.{first_day}
use Rattle.cat_value.specs.declared.ty.Ty.{Ty}
use Rattle.cat_value.specs.declared.ty.Ty.TheVariants as flat_ty
use Rattle.cat_value.specs.declared.ty.Ty.TheViews as ty
use Rattle.cat_value.specs.declared.value.Value.TheVariants as flat
use Rattle.cat_value.specs.declared.value.Value.TheViews as value
use Rattle.cat_value.specs.declared.declaration.Structure.{Structure}
use Rattle.cat_value.specs.declared.declaration.Case.{Case}
use Rattle.cat_value.specs.declared.declaration.Enumeration.{Enumeration}
use Rattle.cat_value.specs.declared.decls.Decls.{Decls}
use Rattle.cat_value.specs.Entries.{content_of}
use Rattle.cat_value.specs.Defaults.{default_to, default_at, default_fields, default_case}

pub default_step : (ds : Decls) (k : ℕ) (t : Ty) → 0 < k → default_to ds k t ≡ default_at ds (default_to ds (k - 1))
    (ty.out-Ty t)
unfolding default_to
default_step ds zero t h = absurd (omega arith)
default_step ds (suc k) t h = rw sub-one refl

pub default_Boolean : (ds : Decls) (k : ℕ) → 0 < k → default_to ds k flat_ty.Boolean ≡ flat.Boolean false
default_Boolean ds k h = search (rules, ty.the_lemmas, default_step)

pub default_Integer : (ds : Decls) (k : ℕ) → 0 < k → default_to ds k flat_ty.Integer ≡ flat.Integer (pos 0)
default_Integer ds k h = search (rules, ty.the_lemmas, default_step)

pub default_Decimal : (ds : Decls) (k : ℕ) → 0 < k → default_to ds k flat_ty.Decimal ≡ flat.Decimal
    (record { num = pos 0; den = 1 })
default_Decimal ds k h = search (rules, ty.the_lemmas, default_step)

pub default_Money : (ds : Decls) (k : ℕ) → 0 < k → default_to ds k flat_ty.Money ≡ flat.Money (pos 0)
default_Money ds k h = search (rules, ty.the_lemmas, default_step)

pub default_Date : (ds : Decls) (k : ℕ) → 0 < k → default_to ds k flat_ty.Date ≡ flat.Date first_day
default_Date ds k h = search (rules, ty.the_lemmas, default_step)

pub default_Duration : (ds : Decls) (k : ℕ) → 0 < k → default_to ds k flat_ty.Duration ≡ flat.Duration
    (record { months = pos 0; days = pos 0 })
default_Duration ds k h = search (rules, ty.the_lemmas, default_step)

pub default_List : (ds : Decls) (k : ℕ) (t : Ty) → 0 < k → default_to ds k (ty.List t) ≡ value.List []
default_List ds k t h = search (rules, ty.the_lemmas, default_step)

pub default_Structure : (ds : Decls) (k n : ℕ) (s : Structure) → 0 < k → slice_get ds.structures n ≡ Some s
    → default_to ds k (flat_ty.Structure n) ≡ value.Structure (default_fields (default_to ds (k - 1)) s.fields)
default_Structure ds k n s h e = search (rules, ty.the_lemmas, default_step)

content_is : (ds : Decls) (n : ℕ) (d : Enumeration) (c : Case) → slice_get ds.enumerations n ≡ Some d
    → slice_get d.cases 0 ≡ Some c → content_of ds n 0 ≡ Some c.content
content_is ds n d c e f = rw (e, f) refl

default_first : (ds : Decls) (k n : ℕ) (d : Enumeration) (c : Case) → 0 < k → slice_get ds.enumerations n ≡ Some d
    → slice_get d.cases 0 ≡ Some c
    → default_to ds k (flat_ty.Enumeration n) ≡ default_case (default_to ds (k - 1)) (Some c.content)
default_first ds k n d c h e f = search (rules, ty.the_lemmas, default_step, content_is)

pub default_Enumeration_None : (ds : Decls) (k n : ℕ) (d : Enumeration) (c : Case) → 0 < k → slice_get ds.enumerations n
    ≡ Some d → slice_get d.cases 0 ≡ Some c → c.content ≡ None
    → default_to ds k (flat_ty.Enumeration n) ≡ value.Case 0 None
default_Enumeration_None ds k n d c h e f g =
    default_first ds k n d c h e f ∙ ap (λ content. default_case (default_to ds (k - 1)) (Some content)) g

pub default_Enumeration_Some : (ds : Decls) (k n : ℕ) (d : Enumeration) (c : Case) (t : Ty) → 0 < k
    → slice_get ds.enumerations n ≡ Some d → slice_get d.cases 0 ≡ Some c → c.content ≡ Some t
    → default_to ds k (flat_ty.Enumeration n) ≡ value.Case 0 (Some (default_to ds (k - 1) t))
default_Enumeration_Some ds k n d c t h e f g =
    default_first ds k n d c h e f ∙ ap (λ content. default_case (default_to ds (k - 1)) (Some content)) g

pub zero_in_lowest_terms : lowest (pos 0) 1 ≡ record { num = pos 0; den = 1 }
unfolding lowest gcd
zero_in_lowest_terms = refl

pub ruleset defaults = (
  default_Boolean,
  default_Integer,
  default_Decimal,
  default_Money,
  default_Date,
  default_Duration,
  default_List,
  default_Structure,
  default_Enumeration_None,
  default_Enumeration_Some,
  zero_in_lowest_terms,
)
