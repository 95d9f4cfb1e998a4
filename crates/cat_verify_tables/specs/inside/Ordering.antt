-- Structures and enumerations that may be put in order.
use Rattle.std.specs.Prelude.{◌≡◌, ℕ, ◌+◌, IsTrue, List, length, take, slice_get, Some}
use Rattle.cat_order.specs.Order.{is_listed}
use Rattle.cat_value.specs.declared.declaration.Field.{Field}
use Rattle.cat_value.specs.declared.declaration.Structure.{Structure}
use Rattle.cat_value.specs.declared.declaration.Case.{Case}
use Rattle.cat_value.specs.declared.declaration.Enumeration.{Enumeration}
use Rattle.cat_value.specs.declared.declaration.Scope.{Scope}
use Rattle.cat_value.specs.Dependencies.{named_by, named_by_content, type_dependencies}
use Rattle.cat_depend.specs.CycleWays.{IsNextOnCycle}
use Rattle.cat_verify_tables.specs.inside.Causes.{lines_in}

-- how many parts there are
abbrev pub fields_of : Structure → ℕ
fields_of s = length s.fields

abbrev pub cases_of : Enumeration → ℕ
cases_of e = length e.cases

abbrev pub items_of : Scope → ℕ
items_of s = length s.items

-- the field of that index names a structure or an enumeration of that number
pub record NamesAt (structures : ℕ) (fields : List Field) (number index : ℕ) : Type 0 where
  pub field : Field
  pub at : slice_get fields index ≡ Some field
  pub names : IsTrue (is_listed (named_by structures field.ty) number)

-- the case of that index has a content that does
pub record HasNamingAt (structures : ℕ) (cases : List Case) (number index : ℕ) : Type 0 where
  pub case : Case
  pub at : slice_get cases index ≡ Some case
  pub names : IsTrue (is_listed (named_by_content structures case.content) number)

-- the line of a part of one structure or enumeration that names another one, where the first structure has line `first`
pub data IsPartLine (ss : List Structure) (es : List Enumeration) (first number part line : ℕ) : Type 0 where
  field : (s : Structure) (index : ℕ) → slice_get ss number ≡ Some s → NamesAt (length ss) s.fields part index
      → line ≡ first + lines_in fields_of (take number ss) + 1 + index → IsPartLine ss es first number part line
  content : (n : ℕ) (e : Enumeration) (index : ℕ) → number ≡ length ss + n → slice_get es n ≡ Some e
      → HasNamingAt (length ss) e.cases part index
      → line ≡ first + lines_in fields_of ss + lines_in cases_of (take n es) + 1 + index
      → IsPartLine ss es first number part line

-- the line of a part that leads back to what it is a part of
pub record ClosesAt (ss : List Structure) (es : List Enumeration) (first line : ℕ) : Type 0 where
  pub number : ℕ
  pub part : ℕ
  pub round : IsNextOnCycle (type_dependencies ss es) number part
  pub at : IsPartLine ss es first number part line
