-- Loops that are open: each has a turn with a shape, inside of which everything stays as it was there.
use Rattle.std.specs.Prelude.{◌≡◌, ◌≤◌, ◌⊎◌, ℕ, ◌+◌, List, ◌∷◌, ◌++◌, length, Some, slice_get}
use Rattle.cat_scope.specs.Names.{AllHave}
use Rattle.cat_code.specs.Shapes.{FrameShape, LoopShape, PendingShape, Shape, AreFewer}
use Rattle.cat_code.specs.Shaped.{Shapes}

-- a shape inside a turn: all that stood there is below what was made since, by loops that began since too
pub record IsInside (turn s : Shape) : Type 0 where
  pub tops : List FrameShape
  pub frames : s.defaults ≡ tops ++ turn.defaults
  pub waits : List PendingShape
  pub pending : s.pending ≡ waits ++ turn.pending
  pub filled : AreFewer turn.filled s.filled
  pub inners : List LoopShape
  pub loops : s.loops ≡ inners ++ turn.loops
  pub above : AllHave (λ l. (length turn.defaults ≤ l.frames) × (length turn.pending ≤ l.pending)) inners

-- the turn of a loop, and that it was looked at, but where the shape stands there itself
pub record HasTurn (shapes : Shapes) (Looked : ℕ → Type 0) (p : ℕ) (s : Shape) (l : LoopShape) (ls : List LoopShape)
    : Type 0 where
  pub turn : Shape
  pub is : slice_get shapes (l.begun + 1) ≡ Some (Some turn)
  pub loops : turn.loops ≡ l ∷ ls
  pub frames : length turn.defaults ≡ l.frames
  pub pending : length turn.pending ≡ l.pending
  pub inside : IsInside turn s
  pub here : (p ≡ l.begun + 1) ⊎ Looked (l.begun + 1)

-- each open loop has one
abbrev pub HaveTurns : Shapes → (ℕ → Type 0) → ℕ → Shape → Type 0
HaveTurns shapes Looked p s = (inners : List LoopShape) (l : LoopShape) (ls : List LoopShape)
    → s.loops ≡ inners ++ l ∷ ls → HasTurn shapes Looked p s l ls
