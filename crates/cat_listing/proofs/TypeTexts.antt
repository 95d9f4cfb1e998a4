-- The text of a type, one equation a variant.
use Rattle.std.proofs.Common.{◌≡◌, ◌++◌, ℕ, rules, codes, slice_get}
use Rattle.cat_value.specs.declared.ty.Ty.{Ty}
use Rattle.cat_value.specs.declared.ty.Ty.TheFolds.{fold_out-Ty}
use Rattle.cat_value.specs.declared.ty.Ty.TheVariants as flat
use Rattle.cat_value.specs.declared.ty.Ty.TheViews as ty
use Rattle.cat_value.specs.declared.declaration.Structure.{Structure}
use Rattle.cat_value.specs.declared.declaration.Enumeration.{Enumeration}
use Rattle.cat_value.specs.declared.decls.Decls.{Decls}
use Rattle.cat_listing.specs.Texts.{Text, name_at, type_by, type_text}

pub type_text-Boolean : (ds : Decls) → type_text ds flat.Boolean ≡ codes "boolean"
unfolding type_text
type_text-Boolean ds = search (rules, ty.the_lemmas, fold_out-Ty Text (type_by ds))

pub type_text-Integer : (ds : Decls) → type_text ds flat.Integer ≡ codes "integer"
unfolding type_text
type_text-Integer ds = search (rules, ty.the_lemmas, fold_out-Ty Text (type_by ds))

pub type_text-Decimal : (ds : Decls) → type_text ds flat.Decimal ≡ codes "decimal"
unfolding type_text
type_text-Decimal ds = search (rules, ty.the_lemmas, fold_out-Ty Text (type_by ds))

pub type_text-Money : (ds : Decls) → type_text ds flat.Money ≡ codes "money"
unfolding type_text
type_text-Money ds = search (rules, ty.the_lemmas, fold_out-Ty Text (type_by ds))

pub type_text-Date : (ds : Decls) → type_text ds flat.Date ≡ codes "date"
unfolding type_text
type_text-Date ds = search (rules, ty.the_lemmas, fold_out-Ty Text (type_by ds))

pub type_text-Duration : (ds : Decls) → type_text ds flat.Duration ≡ codes "duration"
unfolding type_text
type_text-Duration ds = search (rules, ty.the_lemmas, fold_out-Ty Text (type_by ds))

pub type_text-List : (ds : Decls) (t : Ty) → type_text ds (ty.List t) ≡ codes "list of " ++ type_text ds t
unfolding type_text
type_text-List ds t = search (rules, ty.the_lemmas, fold_out-Ty Text (type_by ds))

pub type_text-Structure : (ds : Decls) (n : ℕ)
    → type_text ds (flat.Structure n) ≡ name_at (λ (s : Structure). s.name) (slice_get ds.structures n)
unfolding type_text
type_text-Structure ds n = search (rules, ty.the_lemmas, fold_out-Ty Text (type_by ds))

pub type_text-Enumeration : (ds : Decls) (n : ℕ)
    → type_text ds (flat.Enumeration n) ≡ name_at (λ (e : Enumeration). e.name) (slice_get ds.enumerations n)
unfolding type_text
type_text-Enumeration ds n = search (rules, ty.the_lemmas, fold_out-Ty Text (type_by ds))

-- the text of a type by its variant
pub ruleset types = (
  type_text-Boolean,
  type_text-Integer,
  type_text-Decimal,
  type_text-Money,
  type_text-Date,
  type_text-Duration,
  type_text-List,
  type_text-Structure,
  type_text-Enumeration,
)
