-- What is known while places are looked at, in an order in which each place stands in front of those to which it leads.
use Rattle.std.specs.Prelude.{◌≡◌, ◌<◌, ℕ, List, [], ◌∷◌, ◌++◌, length, Option, Some, None, slice_get, Result, Ok, Err}
use Rattle.cat_value.specs.declared.declaration.Scope.{Scope}
use Rattle.cat_scope.specs.Names.{IsOneOf}
use Rattle.cat_code.specs.declared.instr.Instr.{Instr}
use Rattle.cat_code.specs.declared.instr.Instr.TheVariants as instr
use Rattle.cat_code.specs.declared.code.Tables.{Tables}
use Rattle.cat_code.specs.Shapes as meant
use Rattle.cat_code.specs.Shaped.{Shapes, IsMet, IsShapedBy, scope_entry}
use Rattle.cat_verify_shapes.specs.Belonging.{Begins, Calls, MayRun, MayComeTo}
use Rattle.cat_verify_shapes.specs.Unshaped.{IsUnshaped, HasCause}
use Rattle.cat_verify_shapes.specs.declared.owner.OwnerPlaces.{OwnerPlaces}
use Rattle.cat_verify_shapes.specs.declared.refusal.ShapeRefusal.{ShapeRefusal}
use Rattle.cat_verify_shapes.specs.declared.refusal.ShapeRefusal.TheVariants as refusal
use Rattle.cat_verify_shapes.specs.declared.leads.Stuck.{Stuck}
use Rattle.cat_verify_shapes.specs.declared.leads.Stuck.TheVariants as stuck
use Rattle.cat_verify_shapes.specs.declared.forms.Forms.{Forms}
use Rattle.cat_verify_shapes.specs.declared.shape.Shape.{Shape}
use Rattle.cat_verify_shapes.specs.declared.found.Spot.{Spot}
use Rattle.cat_verify_shapes.specs.declared.found.Spot.TheVariants as spot
use Rattle.cat_verify_shapes.specs.inside.Senses.{Senses, AreSenses, IsTable}
use Rattle.cat_verify_shapes.specs.inside.Told.{shape_of}
use Rattle.cat_verify_shapes.specs.inside.Looking.{IsLooked, AreSoFar}
use Rattle.cat_verify_shapes.specs.inside.Turns.{HaveTurns}

-- a place was looked at
abbrev pub LookedAt : List Spot → ℕ → Type 0
LookedAt found q = (at : Spot) × (slice_get found q ≡ Some at) × IsLooked at

-- the shape that is kept at a spot
abbrev pub kept_at : Spot → Option Shape
kept_at (spot.Open s) = Some s
kept_at (spot.Turn s) = Some s
kept_at _ = None

-- each shape that is kept meets the one that any shapes which fit the code have there
abbrev pub AreBound : Tables → List Instr → Senses → List Spot → Type 0
AreBound tables code d found = (fit : Shapes) → IsShapedBy tables code fit → (p : ℕ) (at : Spot) (s : Shape)
    → slice_get found p ≡ Some at → kept_at at ≡ Some s → IsMet fit p (shape_of d s)

-- these places are left, each in front of all to which it leads but what a jump goes back to
abbrev pub AreInOrder : Tables → List Instr → List ℕ → Type 0
AreInOrder tables code [] = Unit {0}
AreInOrder tables code (p ∷ left) =
    (IsOneOf p left → ⊥)
    × ((owner : meant.Owner) (q : ℕ) → MayComeTo tables code owner p → MayComeTo tables code owner q → p < q
    → q < length code → IsOneOf q left)
    × ((caller called : meant.Owner) (q : ℕ) → MayRun tables code caller → Calls tables code p caller called
    → Begins tables called q → q < length code → IsOneOf q left)
    × AreInOrder tables code left

-- what is known of the spots by shapes so far: places wait only where they are left, and all others were looked at
pub record IsKnown (tables : Tables) (code : List Instr) (d : Senses) (found : List Spot) (but : ℕ) (left : List ℕ)
    (shapes : Shapes) : Type 0 where
  pub long : length found ≡ length code
  pub so_far : AreSoFar tables code d found but shapes
  pub turns : (p : ℕ) (s : meant.Shape) → slice_get shapes p ≡ Some (Some s) → HaveTurns shapes (LookedAt found) p s
  pub bound : AreBound tables code d found
  pub run : (p : ℕ) (s : meant.Shape) → slice_get shapes p ≡ Some (Some s) → MayRun tables code s.owner
  pub passed : (p t : ℕ) → slice_get found p ≡ Some spot.Done → slice_get code p ≡ Some (instr.Next t)
      → slice_get shapes p ≡ Some None
  pub waiting : (p : ℕ) (s : Shape) → slice_get found p ≡ Some (spot.Open s) → IsOneOf p left
  pub fresh : (p : ℕ) → IsOneOf p left → LookedAt found p → ⊥
  pub done : (owner : meant.Owner) (q : ℕ) → MayComeTo tables code owner q → q < length code
      → (IsOneOf q left → ⊥) → LookedAt found q

-- the places of some owners, one behind the other
abbrev pub all_places : List OwnerPlaces → List ℕ
all_places [] = []
all_places (one ∷ more) = one.places ++ all_places more

-- the first n scopes are entered
abbrev pub AreMet : Tables → ℕ → Shapes → Type 0
AreMet tables n shapes = (k : ℕ) (scope : Scope) (e : ℕ) → k < n → slice_get tables.decls.scopes k ≡ Some scope
    → slice_get tables.scopes k ≡ Some e → IsMet shapes e (scope_entry k scope.items)

-- what is known by what numbers stand for, whatever that is
pub record IsState (tables : Tables) (code : List Instr) (forms : Forms) (found : List Spot) (n : ℕ) (left : List ℕ)
    : Type 0 where
  pub table : IsTable tables.decls forms
  pub known : (d : Senses) → AreSenses tables.decls forms d
      → (shapes : Shapes) × IsKnown tables code d found (length code) left shapes × AreMet tables n shapes

-- the refusal at a place
abbrev pub refused : Stuck → ℕ → ShapeRefusal
refused stuck.Bad p = refusal.BadShape p
refused stuck.Memory p = refusal.Memory

-- a place was looked at, or no shapes exist
abbrev pub LooksAt : Tables → List Instr → Forms → List Spot → List ℕ → ℕ → Result (Unit {0}) Stuck → Type 0
LooksAt tables code forms found left p (Ok done) = IsState tables code forms found (length tables.decls.scopes) left
LooksAt tables code forms found left p (Err stuck.Bad) = IsUnshaped tables code p
LooksAt tables code forms found left p (Err stuck.Memory) = Unit {0}

-- places were looked at, or there is a cause to refuse
abbrev pub LooksAtAll : Tables → List Instr → Forms → List Spot → ℕ → List ℕ → Result (Unit {0}) ShapeRefusal → Type 0
LooksAtAll tables code forms found n left (Ok done) = IsState tables code forms found n left
LooksAtAll tables code forms found n left (Err why) = HasCause tables code why
