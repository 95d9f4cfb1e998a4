-- What is known while places are looked at.
use Rattle.std.specs.Prelude.{◌≡◌, ◌⊎◌, ℕ, false, List, length, Option, Some, None, slice_get, slice_set, Result, Ok}
use Rattle.std.specs.Prelude.{Err}
use Rattle.cat_code.specs.declared.instr.Instr.{Instr}
use Rattle.cat_code.specs.declared.code.Tables.{Tables}
use Rattle.cat_code.specs.Shapes as meant
use Rattle.cat_code.specs.Shaped.{Shapes, IsFine}
use Rattle.cat_code.specs.Tame.{is_next}
use Rattle.cat_verify_shapes.specs.Belonging.{Belongs}
use Rattle.cat_verify_shapes.specs.declared.shape.Shape.{Shape}
use Rattle.cat_verify_shapes.specs.declared.leads.Leads.{Leads}
use Rattle.cat_verify_shapes.specs.declared.leads.Leads.TheVariants as leads
use Rattle.cat_verify_shapes.specs.declared.leads.Stuck.{Stuck}
use Rattle.cat_verify_shapes.specs.declared.leads.Stuck.TheVariants as stuck
use Rattle.cat_verify_shapes.specs.declared.found.Spot.{Spot}
use Rattle.cat_verify_shapes.specs.declared.found.Spot.TheVariants as spot
use Rattle.cat_verify_shapes.specs.inside.Senses.{Senses}
use Rattle.cat_verify_shapes.specs.inside.Told.{shape_of}
use Rattle.cat_verify_shapes.specs.inside.Alike.{AreAlike, HasNoFewer, common}

-- what is kept at a place is its shape so far
abbrev pub Agrees : Senses → Spot → Option meant.Shape → Type 0
Agrees d spot.Unmet o = o ≡ None
Agrees d (spot.Open s) o = o ≡ Some (shape_of d s)
Agrees d (spot.Turn s) o = o ≡ Some (shape_of d s)
Agrees d spot.Done o = Unit {0}

-- a place was looked at
abbrev pub IsLooked : Spot → Type 0
IsLooked spot.Unmet = ⊥
IsLooked (spot.Open s) = ⊥
IsLooked (spot.Turn s) = Unit {0}
IsLooked spot.Done = Unit {0}

-- shapes so far: those that are kept, each of an owner to which its place belongs; what was looked at is fine by them,
-- but for one place
pub record AreSoFar (tables : Tables) (code : List Instr) (d : Senses) (found : List Spot) (but : ℕ) (shapes : Shapes)
    : Type 0 where
  pub long : length shapes ≡ length found
  pub agrees : (p : ℕ) (at : Spot) (o : Option meant.Shape) → slice_get found p ≡ Some at → slice_get shapes p ≡ Some o
      → Agrees d at o
  pub fine : (p : ℕ) (at : Spot) (i : Instr) (s : meant.Shape) → (p ≡ but → ⊥) → slice_get found p ≡ Some at
      → IsLooked at
      → slice_get code p ≡ Some i → slice_get shapes p ≡ Some (Some s) → IsFine tables code shapes i p s
  pub owned : (p : ℕ) (s : meant.Shape) → slice_get shapes p ≡ Some (Some s) → Belongs tables code s.owner p

-- a shape comes to a place at which something is known: what is known from now on
abbrev pub MetBy : Spot → Shape → Spot → Type 0
MetBy spot.Unmet s after = after ≡ spot.Open s
MetBy (spot.Open known) s after = AreAlike known s × (after ≡ spot.Open (common known s))
MetBy (spot.Turn turn) s after = AreAlike s turn × HasNoFewer s turn × (after ≡ spot.Turn turn)
MetBy spot.Done s after = ⊥

-- why none is
abbrev pub IsUnlike : Spot → Shape → Type 0
IsUnlike spot.Unmet s = ⊥
IsUnlike (spot.Open known) s = AreAlike known s → ⊥
IsUnlike (spot.Turn turn) s = AreAlike s turn → HasNoFewer s turn → ⊥
IsUnlike spot.Done s = Unit {0}

abbrev pub Meeting : Spot → Shape → Result Spot Stuck → Type 0
Meeting at s (Ok after) = MetBy at s after
Meeting at s (Err stuck.Bad) = IsUnlike at s
Meeting at s (Err stuck.Memory) = Unit {0}

-- a shape came to a place
pub record Arrives (found after : List Spot) (place : ℕ) (s : Shape) : Type 0 where
  pub at : Spot
  pub then_at : Spot
  pub at_is : slice_get found place ≡ Some at
  pub met : MetBy at s then_at
  pub after_is : after ≡ slice_set found place then_at

-- shapes came to the places to which an instruction leads
abbrev pub ArriveAll : List Spot → Leads → List Spot → Type 0
ArriveAll found leads.Nowhere after = after ≡ found
ArriveAll found (leads.One p s) after = Arrives found after p s
ArriveAll found (leads.Two p s q t) after =
    (between : List Spot) × Arrives found between p s × Arrives between after q t

-- a shape can't come to a place
abbrev pub IsShut : List Spot → ℕ → Shape → Type 0
IsShut found p s = (at : Spot) → slice_get found p ≡ Some at → IsUnlike at s

-- one of the shapes can't
abbrev pub IsOneShut : List Spot → Leads → Type 0
IsOneShut found leads.Nowhere = ⊥
IsOneShut found (leads.One p s) = IsShut found p s
IsOneShut found (leads.Two p s q t) =
    IsShut found p s ⊎ ((between : List Spot) × Arrives found between p s × IsShut between q t)

-- shapes come to places, or one of them can't
abbrev pub Arriving : List Spot → List Spot → ℕ → Shape → Result (Unit {0}) Stuck → Type 0
Arriving found after p s (Ok done) = Arrives found after p s
Arriving found after p s (Err stuck.Bad) = IsShut found p s
Arriving found after p s (Err stuck.Memory) = Unit {0}

abbrev pub ArrivingAll : List Spot → List Spot → Leads → Result (Unit {0}) Stuck → Type 0
ArrivingAll found after to (Ok done) = ArriveAll found to after
ArrivingAll found after to (Err stuck.Bad) = IsOneShut found to
ArrivingAll found after to (Err stuck.Memory) = Unit {0}

-- a place to which nothing leads is done when its turn is over: what leads back to it finds no shape there
abbrev pub passed : Spot → Spot
passed spot.Unmet = spot.Done
passed at = at

-- a place is taken up at which a shape is open, or none is: that of a `next` stays
abbrev pub IsOpened : List Spot → List Spot → ℕ → Instr → Option Shape → Type 0
IsOpened found after place i None =
    (at : Spot) × (slice_get found place ≡ Some at) × ((s : Shape) → at ≡ spot.Open s → ⊥)
    × (after ≡ slice_set found place (passed at))
IsOpened found after place i (Some s) = (then_at : Spot) × (slice_get found place ≡ Some (spot.Open s))
    × (((then_at ≡ spot.Done) × (is_next (Some i) ≡ false)) ⊎ (then_at ≡ spot.Turn s))
    × (after ≡ slice_set found place then_at)
