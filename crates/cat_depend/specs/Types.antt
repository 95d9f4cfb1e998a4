-- Types whose dependencies are told.
use Rattle.std.specs.Prelude.{◌<◌, ◌+◌, ◌^◌, IsTrue, List, length}
use Rattle.std.specs.List.{list_all}
use Rattle.cat_value.specs.declared.declaration.Structure.{Structure}
use Rattle.cat_value.specs.declared.declaration.Enumeration.{Enumeration}
use Rattle.cat_value.specs.Declarations.{field_is_sound, case_is_sound}

-- each type names what is there, and a u32 numbers all of it
pub record AreThere (ss : List Structure) (es : List Enumeration) : Type 0 where
  pub structures : IsTrue (list_all (λ s. list_all (field_is_sound ss es) s.fields) ss)
  pub enumerations : IsTrue (list_all (λ e. list_all (case_is_sound ss es) e.cases) es)
  pub few : length ss + length es < 2 ^ 32
