-- Types that are too high.
use Rattle.std.specs.Prelude.{◌<◌, ◌≤◌, ◌+◌, ℕ, List, ◌∷◌, Option, Some, None}
use Rattle.cat_scope.specs.Names.{AllHave, IsOneOf}
use Rattle.cat_value.specs.declared.ty.Ty.{Ty}
use Rattle.cat_value.specs.declared.declaration.Field.{Field}
use Rattle.cat_value.specs.declared.declaration.Structure.{Structure}
use Rattle.cat_value.specs.declared.declaration.Case.{Case}
use Rattle.cat_value.specs.declared.declaration.Enumeration.{Enumeration}
use Rattle.cat_value.specs.declared.declaration.ItemDecl.{ItemDecl}
use Rattle.cat_value.specs.declared.declaration.Scope.{Scope}
use Rattle.cat_value.specs.Declarations.{highest}
use Rattle.cat_value.specs.Heights.{height_to}
use Rattle.cat_value.specs.Table.{AreHeights}
use Rattle.cat_verify_tables.specs.declared.heights.Measures.{Measures}
use Rattle.cat_verify_tables.specs.inside.Causes.{IsFaulty}

-- heights of the structures and enumerations that are measured
abbrev pub AreMeasures : Measures → Type 0
AreMeasures m = AreHeights m.structures.now m.enumerations.now m.heights

abbrev pub height_in : Measures → Ty → ℕ
height_in m t = height_to m.structures.now m.enumerations.now highest t

-- ---- parts, which are lower than the highest type

abbrev pub IsLowPart : Measures → Ty → Type 0
IsLowPart m t = height_in m t < highest

abbrev pub IsLowContent : Measures → Option Ty → Type 0
IsLowContent m None = Unit {0}
IsLowContent m (Some t) = IsLowPart m t

abbrev pub IsHighPart : Measures → Ty → Type 0
IsHighPart m t = highest ≤ height_in m t

abbrev pub IsHighContent : Measures → Option Ty → Type 0
IsHighContent m None = ⊥
IsHighContent m (Some t) = IsHighPart m t

abbrev pub AreLowFields : Measures → Structure → Type 0
AreLowFields m s = AllHave (λ (f : Field). IsLowPart m f.ty) s.fields

abbrev pub HasHighField : Measures → Structure → ℕ → ℕ → Type 0
HasHighField m s first line = IsFaulty (λ _ (f : Field). IsHighPart m f.ty) (first + 1) s.fields line

abbrev pub AreLowCases : Measures → Enumeration → Type 0
AreLowCases m e = AllHave (λ (c : Case). IsLowContent m c.content) e.cases

abbrev pub HasHighCase : Measures → Enumeration → ℕ → ℕ → Type 0
HasHighCase m e first line = IsFaulty (λ _ (c : Case). IsHighContent m c.content) (first + 1) e.cases line

-- ---- items, whose types are no higher than the highest

abbrev pub IsLowType : Measures → Ty → Type 0
IsLowType m t = height_in m t ≤ highest

abbrev pub IsHighType : Measures → Ty → Type 0
IsHighType m t = highest < height_in m t

-- one of some types that is too high
pub record HasHighType (m : Measures) (types : List Ty) : Type 0 where
  pub ty : Ty
  pub one : IsOneOf ty types
  pub high : IsHighType m ty

pub record IsLowItem (m : Measures) (item : ItemDecl) : Type 0 where
  pub ty : IsLowType m item.ty
  pub params : AllHave (IsLowType m) item.params

abbrev pub IsHighItem : Measures → ItemDecl → Type 0
IsHighItem m item = HasHighType m (item.ty ∷ item.params)

abbrev pub AreLowItems : Measures → Scope → Type 0
AreLowItems m s = AllHave (IsLowItem m) s.items

abbrev pub HasHighItem : Measures → Scope → ℕ → ℕ → Type 0
HasHighItem m s first line = IsFaulty (λ _. IsHighItem m) (first + 1) s.items line
