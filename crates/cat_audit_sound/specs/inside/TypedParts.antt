-- What the code tells of each part of an input that it makes.
use Rattle.std.specs.Prelude.{◌≡◌, IsTrue, List, Option, Some, None}
use Rattle.cat_value.specs.declared.decls.Decls.{Decls}
use Rattle.cat_value.specs.declared.declaration.Field.{Field}
use Rattle.cat_value.specs.declared.declaration.ItemDecl.{ItemDecl}
use Rattle.cat_value.specs.Inputs.{is_given_for, are_given_for}
use Rattle.cat_value.specs.declared.ty.Ty.{Ty}
use Rattle.cat_value.specs.declared.value.Value.{Value}
use Rattle.cat_value.specs.Typing.{has_type, fields_have_types}

-- a value is the one that is meant, and of its type
pub record IsPart (ds : Decls) (t : Ty) (meant : Value) (value : Value) : Type 0 where
  pub is : value ≡ meant
  pub typed : IsTrue (has_type ds value t)

-- the same of a value that may be missing
abbrev pub IsPartOr : Decls → Ty → Option Value → Option Value → Type 0
IsPartOr ds t meant None = meant ≡ None
IsPartOr ds t meant (Some v) = (meant ≡ Some v) × IsTrue (has_type ds v t)

-- the same of the values of fields
pub record AreParts (ds : Decls) (fields : List Field) (meant : List Value) (values : List Value) : Type 0 where
  pub are : values ≡ meant
  pub typed : IsTrue (fields_have_types ds values fields)

-- an item is given what is meant, and that is one that it may be given
pub record IsGiven (ds : Decls) (item : ItemDecl) (meant : Option Value) (given : Option Value) : Type 0 where
  pub is : given ≡ meant
  pub typed : IsTrue (is_given_for ds item given)

-- the same of items
pub record AreGiven (ds : Decls) (items : List ItemDecl) (meant : List (Option Value)) (input : List (Option Value))
    : Type 0 where
  pub are : input ≡ meant
  pub typed : IsTrue (are_given_for ds items input)
