-- What holds of what an expression means: the words of the laws.
use Rattle.std.specs.Prelude.{IsTrue, List, Option, Some, None, Ok, Err}
use Rattle.std.specs.Option.{is_some}
use Rattle.cat_value.specs.declared.ty.Ty.{Ty}
use Rattle.cat_value.specs.declared.decls.Decls.{Decls}
use Rattle.cat_value.specs.Typing.{is_type}
use Rattle.cat_scope.specs.Names.{Names, AllHave}
use Rattle.cat_scope.specs.HasType.{HasType}
use Rattle.cat_scope.specs.Expected.{lists_placed}
use Rattle.cat_names.specs.declared.typed.Typed.{Typed}
use Rattle.cat_names.specs.declared.typed.Local.{Local}
use Rattle.cat_names.specs.Found.{Found}
use Rattle.cat_names.specs.Types.{is_as_expected}
use Rattle.cat_names.specs.Lookup.{types_of}

-- what holds of an answer, where there is one
abbrev pub OnFound : {A : Type 0} → (A → Type 0) → Found A → Type 0
OnFound P (Ok a) = P a
OnFound P (Err faults) = Unit {0}

-- bound names have declared types
abbrev pub AreDeclared : Decls → List Local → Type 0
AreDeclared ds locals = AllHave (λ l. IsTrue (is_type ds l.ty)) locals

-- an expected type is a declared one
abbrev pub IsExpected : Decls → Option Ty → Type 0
IsExpected ds None = Unit {0}
IsExpected ds (Some t) = IsTrue (is_type ds t)

-- an expression has the type that is told, which is a declared one, and each `[]` in it stands where a type is expected
pub record HasItsType (ns : Names) (locals : List Local) (expected : Option Ty) (x : Typed) : Type 0 where
  pub typed : HasType ns (types_of locals) x.expr x.ty
  pub placed : IsTrue (lists_placed x.expr (is_some expected))
  pub declared : IsTrue (is_type ns.decls x.ty)

-- and that type is the expected one
pub record IsTyped (ns : Names) (locals : List Local) (expected : Option Ty) (x : Typed) : Type 0 where
  pub has : HasItsType ns locals expected x
  pub fit : IsTrue (is_as_expected expected x.ty)
