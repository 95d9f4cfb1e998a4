-- What a name must name for its type: an item, an output of a called scope, a function, an output of a scope, a target.
use Rattle.std.specs.Prelude.{◌≡◌, ℕ, ◌&&◌, Bool, not, IsTrue, List, [], Option, Some, None, slice_get}
use Rattle.cat_value.specs.declared.ty.Ty.{Ty}
use Rattle.cat_value.specs.declared.decls.Decls.{Decls}
use Rattle.cat_value.specs.declared.declaration.Kind.TheVariants as kind
use Rattle.cat_value.specs.declared.declaration.ItemDecl.{ItemDecl}
use Rattle.cat_value.specs.Inputs.{must_be_given, may_be_given}
use Rattle.cat_scope.specs.Names.{Names, is_called, is_function, scope_items, output_at}

-- an item of a list that passes a test has a type
abbrev pub IsItem : (ItemDecl → Bool) → List ItemDecl → ℕ → Ty → Type 0
IsItem passes items k t = (i : ItemDecl) × (slice_get items k ≡ Some i) × IsTrue (passes i) × (t ≡ i.ty)

-- an item is a called scope, whose output k has a type
pub record IsCalledOutput (names : Names) (item : ℕ) (k : ℕ) (t : Ty) : Type 0 where
  pub called : ItemDecl
  pub scope : ℕ
  pub output : ItemDecl
  pub called_is : slice_get names.items item ≡ Some called
  pub kind_is : called.kind ≡ kind.Called scope
  pub output_is : output_at names.decls scope k ≡ Some output
  pub ty_is : t ≡ output.ty

-- a function has parameters and a type
pub record IsFunction (names : Names) (item : ℕ) (params : List Ty) (t : Ty) : Type 0 where
  pub decl : ItemDecl
  pub decl_is : slice_get names.items item ≡ Some decl
  pub function : IsTrue (is_function decl)
  pub params_are : params ≡ decl.params
  pub ty_is : t ≡ decl.ty

-- output k of a scope has a type
abbrev pub IsOutput : Decls → ℕ → ℕ → Ty → Type 0
IsOutput ds scope k t = (o : ItemDecl) × (output_at ds scope k ≡ Some o) × (t ≡ o.ty)

-- a variable that definitions may be of
abbrev pub is_defined : ItemDecl → Bool
is_defined item = not (is_called item.kind) && not (must_be_given item.kind)

-- a variable of the scope, with its parameters and its type
pub record IsOwn (names : Names) (item : ℕ) (params : List Ty) (t : Ty) : Type 0 where
  pub decl : ItemDecl
  pub decl_is : slice_get names.items item ≡ Some decl
  pub defined : IsTrue (is_defined decl)
  pub params_are : params ≡ decl.params
  pub ty_is : t ≡ decl.ty

-- an input or a context of a called scope, which has no parameters, with its type
pub record IsInner (names : Names) (item : ℕ) (inner : ℕ) (params : List Ty) (t : Ty) : Type 0 where
  pub called : ItemDecl
  pub scope : ℕ
  pub decl : ItemDecl
  pub called_is : slice_get names.items item ≡ Some called
  pub kind_is : called.kind ≡ kind.Called scope
  pub decl_is : slice_get (scope_items names.decls scope) inner ≡ Some decl
  pub given : IsTrue (may_be_given decl.kind)
  pub params_are : params ≡ []
  pub ty_is : t ≡ decl.ty

-- a target has parameters and a type: a variable of the scope, or an input or a context of a called scope
abbrev pub IsTargetAt : Names → ℕ → Option ℕ → List Ty → Ty → Type 0
IsTargetAt names item None params t = IsOwn names item params t
IsTargetAt names item (Some inner) params t = IsInner names item inner params t
