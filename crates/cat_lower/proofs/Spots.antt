-- The places of code that is laid: the shape of each, and whether one may jump there; and what each instruction keeps
-- to.
use Rattle.std.proofs.Common.{◌≡◌, ℕ, ◌+◌, ◌-◌, nat_lt, ◌||◌, Bool, true, false, IsTrue, List, [], ◌∷◌, Option}
use Rattle.std.proofs.Common.{Some, None, slice_get, refl}
use Rattle.cat_value.specs.Typing.{has_type}
use Rattle.cat_scope.specs.Names.{AllHave}
use Rattle.cat_sound.specs.LowTypes.{IsLow}
use Rattle.cat_code.specs.declared.instr.Instr.{Instr}
use Rattle.cat_code.specs.declared.instr.Instr.TheVariants as instr
use Rattle.cat_code.specs.declared.code.Constant.{Constant}
use Rattle.cat_code.specs.declared.code.TargetEntry.{TargetEntry}
use Rattle.cat_code.specs.declared.code.Tables.{Tables}
use Rattle.cat_code.specs.Forms.{Form}
use Rattle.cat_code.specs.Shapes.{Owner, Shape, Meets}
use Rattle.cat_code.specs.Places.{target_form}
use Rattle.cat_code.specs.Flow.{flow}
use Rattle.cat_code.specs.Jumps.{jump_of, called_by}
use Rattle.cat_code.specs.Tame.{may_go_back}
use Rattle.cat_code.specs.Valid.{keeps_rules}
use Rattle.cat_code.proofs.MeetingLaws.{meets_same, meets_then}

-- a place: its shape, and whether one may jump there
pub record Spot : Type 0 where
  pub shape : Shape
  pub free : Bool

abbrev pub Spots : Type 0
Spots = List Spot

-- where one may jump to, and where one may not
abbrev pub open_at : Shape → Spot
open_at s = record { shape = s; free = true }

abbrev pub shut_at : Shape → Spot
shut_at s = record { shape = s; free = false }

-- what is left meets the shape of a place
pub record Meeting (all : Spots) (place : ℕ) (left : Shape) : Type 0 where
  pub spot : Spot
  pub is : slice_get all place ≡ Some spot
  pub meets : Meets left spot.shape

-- one may jump to a place, or one may not
pub record Marked (free : Bool) (all : Spots) (place : ℕ) : Type 0 where
  pub spot : Spot
  pub is : slice_get all place ≡ Some spot
  pub marked : spot.free ≡ free

-- a place that one may jump to with what is left
abbrev pub Arrives : Spots → ℕ → Shape → Type 0
Arrives all place left = Meeting all place left × Marked true all place

pub meets_here : (all : Spots) (p : ℕ) (spot : Spot) → slice_get all p ≡ Some spot → Meeting all p spot.shape
meets_here all p spot is = record { spot = spot; is = is; meets = meets_same spot.shape }

pub arrives_here : (all : Spots) (p : ℕ) (s : Shape) → slice_get all p ≡ Some (open_at s) → Arrives all p s
arrives_here all p s is = (meets_here all p (open_at s) is, record { spot = open_at s; is = is; marked = refl })

-- what meets a shape is met where that is
pub met_by : (all : Spots) (p : ℕ) (s t : Shape) → Meets s t → Meeting all p t → Meeting all p s
met_by all p s t h m = record { spot = m.spot; is = m.is; meets = meets_then s t m.spot.shape h m.meets }

pub arrives_by : (all : Spots) (p : ℕ) (s t : Shape) → Meets s t → Arrives all p t → Arrives all p s
arrives_by all p s t h a = (met_by all p s t h a.0, a.1)

module _ (tables : Tables) (code : List Instr) (Calls : Owner → Owner → Type 0) (entry : ℕ → Shape) where
  -- a jump goes to a place that is open, and forward, or back to a `next`
  abbrev pub Jumps : Spots → ℕ → Instr → Option ℕ → Type 0
  Jumps all p i None = Unit {0}
  Jumps all p i (Some t) = Marked true all t × IsTrue (nat_lt p t || may_go_back code i)

  -- the last four of five instructions that end with `content` are no places to jump to
  abbrev pub Shut : Spots → ℕ → Instr → Type 0
  Shut all p instr.Content =
      Marked false all (p - 3) × (Marked false all (p - 2) × (Marked false all (p - 1) × Marked false all p))
  Shut all p _ = Unit {0}

  -- a call is of what may be called
  abbrev pub MayCall : Owner → Option Owner → Type 0
  MayCall caller None = Unit {0}
  MayCall caller (Some called) = Calls caller called

  -- what an instruction keeps to beside its flow
  abbrev pub Keeps : Spots → Instr → ℕ → Shape → Type 0
  Keeps all i p s =
      Jumps all p i (jump_of i)
      × (IsTrue (keeps_rules tables code [] p i) × (Shut all p i × MayCall s.owner (called_by s.owner i)))

  -- an instruction at a place with a shape flows, only to places whose shapes it meets, and keeps to the rest
  pub record IsKept (all : Spots) (i : Instr) (p : ℕ) (s : Shape) : Type 0 where
    pub to : List (ℕ × Shape)
    pub flows : flow tables code i p s ≡ Some to
    pub met : AllHave (λ next. Meeting all next.0 next.1) to
    pub keeps : Keeps all i p s

  -- the instructions from a place on, each with its spot
  abbrev pub AreKept : Spots → ℕ → List Instr → Spots → Type 0
  AreKept all p [] [] = Unit {0}
  AreKept all p [] (s ∷ ss) = ⊥
  AreKept all p (i ∷ is) [] = ⊥
  AreKept all p (i ∷ is) (s ∷ ss) = IsKept all i p s.shape × AreKept all (p + 1) is ss

  -- functions begin with the shapes of their entries
  abbrev pub AreEntered : Spots → Type 0
  AreEntered all = (f place : ℕ) → slice_get tables.functions f ≡ Some place → Meeting all place (entry f)

-- a constant of its type, which may stand in a declaration, and an entry of a target that is there
abbrev pub IsConstant : Tables → Constant → Type 0
IsConstant tables c = IsLow tables.decls c.ty × IsTrue (has_type tables.decls c.value c.ty)

abbrev pub IsTargetEntry : Tables → TargetEntry → Type 0
IsTargetEntry tables e = (t : Form) × (target_form tables.decls e.target ≡ Some t)
