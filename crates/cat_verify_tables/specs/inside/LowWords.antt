-- Declarations whose types are low.
use Rattle.std.specs.Prelude.{◌≡◌, ℕ}
use Rattle.cat_scope.specs.Names.{AllHave}
use Rattle.cat_value.specs.declared.table.TypeHeights.{TypeHeights}
use Rattle.cat_verify_tables.specs.declared.declared.Headers.{Headers}
use Rattle.cat_verify_tables.specs.declared.declared.Declaring.{Declaring}
use Rattle.cat_verify_tables.specs.declared.heights.Measures.{Measures}
use Rattle.cat_verify_tables.specs.inside.Causes.{IsFaultyIn}
use Rattle.cat_verify_tables.specs.inside.HighWords.{AreMeasures, AreLowFields, AreLowCases, AreLowItems}
use Rattle.cat_verify_tables.specs.inside.HighWords.{HasHighField, HasHighCase, HasHighItem}
use Rattle.cat_verify_tables.specs.inside.Ordering.{fields_of, cases_of, items_of}

-- the heights of what is declared
pub record AreMeasuresOf (parts : Declaring) (m : Measures) : Type 0 where
  pub structures : m.structures.now ≡ parts.structures
  pub enumerations : m.enumerations.now ≡ parts.enumerations
  pub heights : AreMeasures m

-- no type is too high by these heights
pub record AreLow (parts : Declaring) (heights : TypeHeights) : Type 0 where
  pub measures : Measures
  pub are : AreMeasuresOf parts measures
  pub heights_are : measures.heights ≡ heights
  pub structures : AllHave (AreLowFields measures) parts.structures
  pub enumerations : AllHave (AreLowCases measures) parts.enumerations
  pub scopes : AllHave (AreLowItems measures) parts.scopes

-- the line of a part or an item that is too high
pub data HasHighPart (parts : Declaring) (headers : Headers) (first line : ℕ) : Type 0 where
  structure : (m : Measures) → AreMeasuresOf parts m
      → IsFaultyIn fields_of (λ _. HasHighField m) first parts.structures line → HasHighPart parts headers first line
  enumeration : (m : Measures) → AreMeasuresOf parts m
      → IsFaultyIn cases_of (λ _. HasHighCase m) headers.enumerations parts.enumerations line
      → HasHighPart parts headers first line
  scope : (m : Measures) → AreMeasuresOf parts m
      → IsFaultyIn items_of (λ _. HasHighItem m) headers.scopes parts.scopes line → HasHighPart parts headers first line
