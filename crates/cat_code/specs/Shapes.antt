-- What is known of a state at a place of the code, whatever run comes there.
use Rattle.std.specs.Prelude.{◌≡◌, ℕ, Bool, true, List, [], ◌∷◌, Option}
use Rattle.cat_code.specs.Forms.{Form}

-- to what an instruction belongs: a scope, or a function with its number
pub record Owner : Type 0 where
  pub scope : ℕ
  pub function : Option ℕ

-- a default frame: the place of its beginning, with which comes the type of its values, and whether it was checked
-- since it last took an entry
pub record FrameShape : Type 0 where
  pub begun : ℕ
  pub holds : Form
  pub checked : Bool

-- a loop: the place of its beginning, with which come the types of its elements and of what it collects, and how many
-- default frames and pending frames stood there
pub record LoopShape : Type 0 where
  pub begun : ℕ
  pub element : Form
  pub collected : Option Form
  pub frames : ℕ
  pub pending : ℕ

-- a scope that is not entered yet, and which of its slots something was passed to
pub record PendingShape : Type 0 where
  pub scope : ℕ
  pub passed : List Bool

-- of operands, default frames, loops and pending frames those that were made since the present frame was entered; the
-- types of operands and locals, and which slots are filled
pub record Shape : Type 0 where
  pub owner : Owner
  pub operands : List Form
  pub locals : List Form
  pub filled : List Bool
  pub defaults : List FrameShape
  pub loops : List LoopShape
  pub pending : List PendingShape

-- no more is so than in a second list of the same length
abbrev pub AreFewer : List Bool → List Bool → Type 0
AreFewer [] [] = Unit {0}
AreFewer [] (b ∷ bs) = ⊥
AreFewer (a ∷ more) [] = ⊥
AreFewer (true ∷ more) (b ∷ bs) = (b ≡ true) × AreFewer more bs
AreFewer (_ ∷ more) (b ∷ bs) = AreFewer more bs

-- a frame that began at the same place, which is checked where that is asked
pub record MeetsFrame (left frame : FrameShape) : Type 0 where
  pub begun : left.begun ≡ frame.begun
  pub holds : left.holds ≡ frame.holds
  pub checked : AreFewer (frame.checked ∷ []) (left.checked ∷ [])

-- a pending frame of the same scope, to which is passed what is asked
pub record MeetsPending (left pending : PendingShape) : Type 0 where
  pub scope : left.scope ≡ pending.scope
  pub passed : AreFewer pending.passed left.passed

-- elements of two lists that belong to each other, one by one
abbrev pub AllMeet : {A : Type 0} → (A → A → Type 0) → List A → List A → Type 0
AllMeet Meets [] [] = Unit {0}
AllMeet Meets [] (y ∷ ys) = ⊥
AllMeet Meets (x ∷ xs) [] = ⊥
AllMeet Meets (x ∷ xs) (y ∷ ys) = Meets x y × AllMeet Meets xs ys

-- what is left meets a shape: it has the same types, default frames and loops, and no fewer filled slots, passed slots
-- and checked frames
pub record Meets (left shape : Shape) : Type 0 where
  pub owner : left.owner ≡ shape.owner
  pub operands : left.operands ≡ shape.operands
  pub locals : left.locals ≡ shape.locals
  pub filled : AreFewer shape.filled left.filled
  pub defaults : AllMeet MeetsFrame left.defaults shape.defaults
  pub loops : left.loops ≡ shape.loops
  pub pending : AllMeet MeetsPending left.pending shape.pending
