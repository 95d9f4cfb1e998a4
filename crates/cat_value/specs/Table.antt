-- A table of the heights of declared types.
use Rattle.std.specs.Prelude.{◌≡◌, ℕ, List, slice_get}
use Rattle.std.specs.Option.{unwrap_or}
use Rattle.cat_value.specs.declared.ty.Ty.TheVariants as flat
use Rattle.cat_value.specs.declared.declaration.Structure.{Structure}
use Rattle.cat_value.specs.declared.declaration.Enumeration.{Enumeration}
use Rattle.cat_value.specs.Heights.{height_to}
use Rattle.cat_value.specs.Declarations.{highest}
use Rattle.cat_value.specs.declared.table.TypeHeights.{TypeHeights}

-- the height of that number in a list; what isn't there has no parts
abbrev pub height_in : List ℕ → ℕ → ℕ
height_in heights n = unwrap_or (slice_get heights n) 1

-- a table has the height of each structure and each enumeration, where k + 1 stands for each height above k
pub record AreHeightsTo (ss : List Structure) (es : List Enumeration) (k : ℕ) (heights : TypeHeights) : Type 0 where
  pub structures : (n : ℕ) → height_in heights.structures n ≡ height_to ss es k (flat.Structure n)
  pub enumerations : (n : ℕ) → height_in heights.enumerations n ≡ height_to ss es k (flat.Enumeration n)

-- the heights of declared types, as far as the highest that may be declared is passed
abbrev pub AreHeights : List Structure → List Enumeration → TypeHeights → Type 0
AreHeights ss es heights = AreHeightsTo ss es highest heights
