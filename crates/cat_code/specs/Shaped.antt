-- Shaped code: each instruction that a run may come to has a shape, and leads only to places whose shapes are met.
use Rattle.std.specs.Prelude.{◌≡◌, ℕ, ◌+◌, List, [], ◌∷◌, map, Option, Some, None, slice_get}
use Rattle.cat_value.specs.declared.declaration.ItemDecl.{ItemDecl}
use Rattle.cat_value.specs.declared.declaration.Scope.{Scope}
use Rattle.cat_value.specs.Inputs.{must_be_given}
use Rattle.cat_scope.specs.Names.{AllHave}
use Rattle.cat_code.specs.declared.instr.Instr.{Instr}
use Rattle.cat_code.specs.declared.code.Tables.{Tables}
use Rattle.cat_code.specs.Shapes.{Shape, Meets}
use Rattle.cat_code.specs.Flow.{flow}

-- the shape of each place of the code; there is none at a place to which no run comes
abbrev pub Shapes : Type 0
Shapes = List (Option Shape)

-- a place has a shape, and what is left meets it
pub record IsMet (shapes : Shapes) (place : ℕ) (left : Shape) : Type 0 where
  pub shape : Shape
  pub is : slice_get shapes place ≡ Some (Some shape)
  pub meets : Meets left shape

-- an instruction goes on from a shape, and only to places whose shapes it meets
pub record IsFine (tables : Tables) (code : List Instr) (shapes : Shapes) (i : Instr) (p : ℕ) (s : Shape) : Type 0 where
  pub to : List (ℕ × Shape)
  pub flows : flow tables code i p s ≡ Some to
  pub met : AllHave (λ next. IsMet shapes next.0 next.1) to

-- an instruction is fine where its place has a shape
abbrev pub FineAt : Tables → List Instr → Shapes → Instr → ℕ → Option Shape → Type 0
FineAt tables code shapes i p None = Unit {0}
FineAt tables code shapes i p (Some s) = IsFine tables code shapes i p s

-- each instruction from place p on is fine, and has an entry in the list of shapes
abbrev pub AreFine : Tables → List Instr → Shapes → ℕ → List Instr → Shapes → Type 0
AreFine tables code shapes p [] [] = Unit {0}
AreFine tables code shapes p [] (s ∷ ss) = ⊥
AreFine tables code shapes p (i ∷ is) [] = ⊥
AreFine tables code shapes p (i ∷ is) (s ∷ ss) =
    FineAt tables code shapes i p s × AreFine tables code shapes (p + 1) is ss

-- at the entry of a scope its inputs are there, and nothing else
abbrev pub scope_entry : ℕ → List ItemDecl → Shape
scope_entry n items = record {
  owner = record { scope = n; function = None };
  operands = [];
  locals = [];
  filled = map (λ item. must_be_given item.kind) items;
  defaults = [];
  loops = [];
  pending = [];
}

-- each scope from number n on begins at a place whose shape its entry meets
abbrev pub AreEntries : Shapes → ℕ → List Scope → List ℕ → Type 0
AreEntries shapes n [] [] = Unit {0}
AreEntries shapes n [] (e ∷ es) = ⊥
AreEntries shapes n (scope ∷ scopes) [] = ⊥
AreEntries shapes n (scope ∷ scopes) (e ∷ es) =
    IsMet shapes e (scope_entry n scope.items) × AreEntries shapes (n + 1) scopes es

-- code is shaped by these shapes
pub record IsShapedBy (tables : Tables) (code : List Instr) (shapes : Shapes) : Type 0 where
  pub entries : AreEntries shapes 0 tables.decls.scopes tables.scopes
  pub fine : AreFine tables code shapes 0 code shapes

-- some shapes fit the code
abbrev pub IsShaped : Tables → List Instr → Type 0
IsShaped tables code = (shapes : Shapes) × IsShapedBy tables code shapes
