-- What holds of each machine: its references are those of nodes.
use Rattle.std.specs.Prelude.{◌≡◌, ◌<◌, ℕ, Bool, true, false, List, [], ◌∷◌, length, Option, Some, None}
use Rattle.cat_value.specs.declared.value.Value.TheVariants as flat
use Rattle.cat_code.specs.declared.code.Tables.{Tables}
use Rattle.cat_pool.specs.Nodes.{Standing, AreBelow, IsWithin, at, in_range, kept_parts, seen_at, values}
use Rattle.cat_machine.specs.declared.machine.Machine.{Machine}
use Rattle.cat_machine.specs.declared.machine.LoopHead.{LoopHead}
use Rattle.cat_machine.specs.declared.machine.Return.{Return}
use Rattle.cat_machine.specs.declared.machine.HeldRef.{HeldRef}
use Rattle.cat_machine.specs.Running.{constant_values}

-- each of the lists, one on the other, is one of references below a number
abbrev pub LayersBelow : {H : Type 0} → ℕ → List (H × List ℕ) → Type 0
LayersBelow n [] = Unit {0}
LayersBelow n (l ∷ ls) = AreBelow n l.1 × LayersBelow n ls

-- each slot that is filled
abbrev pub SlotsBelow : ℕ → List (Option ℕ) → Type 0
SlotsBelow n [] = Unit {0}
SlotsBelow n (None ∷ rs) = SlotsBelow n rs
SlotsBelow n (Some r ∷ rs) = (r < n) × SlotsBelow n rs

-- each slot that is filled, of lists one on the other
abbrev pub SlotLayersBelow : {H : Type 0} → ℕ → List (H × List (Option ℕ)) → Type 0
SlotLayersBelow n [] = Unit {0}
SlotLayersBelow n (l ∷ ls) = SlotsBelow n l.1 × SlotLayersBelow n ls

-- each definition that holds is one of the tables
abbrev pub HeldBelow : Tables → ℕ → List HeldRef → Type 0
HeldBelow tables n [] = Unit {0}
HeldBelow tables n (h ∷ hs) = (h.value < n) × (h.definition < length tables.definitions) × HeldBelow tables n hs

-- each definition that default frames hold
abbrev pub DefaultsBelow : Tables → ℕ → List (Option ℕ × List HeldRef) → Type 0
DefaultsBelow tables n [] = Unit {0}
DefaultsBelow tables n (f ∷ fs) = HeldBelow tables n f.1 × DefaultsBelow tables n fs

-- the elements that a loop has left lie in the pool
pub record LoopWithin (nodes : List Standing) (l : LoopHead) : Type 0 where
  pub within : IsWithin nodes l.left
  pub below : AreBelow (length nodes) (in_range (kept_parts nodes) l.left)

-- the elements that loops have left
abbrev pub LoopsWithin : List Standing → List (LoopHead × List ℕ) → Type 0
LoopsWithin nodes [] = Unit {0}
LoopsWithin nodes (l ∷ ls) = LoopWithin nodes l.0 × LoopsWithin nodes ls

-- a truth value's node, once there is one
abbrev pub IsTruth : List Standing → Bool → Option ℕ → Type 0
IsTruth nodes b None = Unit {0}
IsTruth nodes b (Some r) = (r < length nodes) × (at (values nodes) r ≡ flat.Boolean b)

-- the first of the frames has no way back
abbrev pub AreFrames : List (Option Return × List ℕ) → Type 0
AreFrames [] = ⊥
AreFrames ((None, here) ∷ ls) = Unit {0}
AreFrames ((Some r, here) ∷ ls) = AreFrames ls

-- a machine over tables: each reference that it holds is one of a node
pub record IsMachine (tables : Tables) (m : Machine) : Type 0 where
  pub operands : AreBelow (length m.pool) m.operands
  pub locals : LayersBelow (length m.pool) m.locals
  pub framed : AreFrames m.locals
  pub slots : SlotLayersBelow (length m.pool) m.slots
  pub defaults : DefaultsBelow tables (length m.pool) m.defaults
  pub loops : LoopsWithin m.pool m.loops
  pub collected : LayersBelow (length m.pool) m.loops
  pub pending : SlotLayersBelow (length m.pool) m.pending
  pub constants : seen_at m.pool m.constants ≡ constant_values tables.constants
  pub constants_below : AreBelow (length m.pool) m.constants
  pub yes : IsTruth m.pool true m.truths.yes
  pub no : IsTruth m.pool false m.truths.no
