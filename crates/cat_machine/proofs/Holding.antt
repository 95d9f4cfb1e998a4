-- The references of a machine stay those of nodes as one of its stacks changes.
use Rattle.std.proofs.Common.{◌≡◌, ℕ, zero, suc, ◌-◌, ◌<◌, List, [], ◌∷◌, ◌++◌, length, reverse}
use Rattle.std.proofs.Common.{Option, Some, None}
use Rattle.std.proofs.Common.{slice_get, get_or, sym, ap, subst, arith}
use Rattle.std.proofs.lemmas.List.{reverse-append}
use Rattle.cat_code.specs.declared.code.Tables.{Tables}
use Rattle.cat_pool.specs.Nodes.{Standing, AreBelow}
use Rattle.cat_pool.proofs.Exported.{below-append, below-take}
use Rattle.cat_machine.specs.declared.machine.Machine.{Machine}
use Rattle.cat_machine.specs.declared.machine.Return.{Return}
use Rattle.cat_machine.specs.declared.machine.LoopHead.{LoopHead}
use Rattle.cat_machine.specs.declared.machine.HeldRef.{HeldRef}
use Rattle.cat_machine.specs.Layers.{extended, rest_of, shortened, with_at, with_item}
use Rattle.cat_machine.specs.inside.Machines.{AreFrames, DefaultsBelow, IsMachine, LayersBelow, LoopsWithin}
use Rattle.cat_machine.specs.inside.Machines.{SlotLayersBelow, SlotsBelow}

-- ---- items of lists

pub get_at : {A : Type 0} (xs : List A) (k : ℕ) (x other : A) → k < length xs → x ≡ get_or xs k other
    → slice_get xs k ≡ Some x
get_at [] k x other below is = absurd (omega (arith, below))
get_at (y ∷ xs) zero x other below is = ap Some (sym is)
get_at (y ∷ xs) (suc k) x other below is = get_at xs k x other (omega (arith, below)) is

pub get_below : {A : Type 0} (xs : List A) (k : ℕ) (x : A) → slice_get xs k ≡ Some x → k < length xs
get_below [] k x is = absurd (cc is)
get_below (y ∷ xs) zero x is = omega arith
get_below (y ∷ xs) (suc k) x is = let rest = get_below xs k x is in omega (arith, rest)

pub below_at : (n : ℕ) (refs : List ℕ) (k r : ℕ) → AreBelow n refs → slice_get refs k ≡ Some r → r < n
below_at n [] k r below is = absurd (cc is)
below_at n (q ∷ refs) zero r below is = let same : q ≡ r = cc is in subst (λ k. k < n) same below.0
below_at n (q ∷ refs) (suc k) r below is = below_at n refs k r below.1 is

pub slot_below_at : (n : ℕ) (refs : List (Option ℕ)) (i r : ℕ) → SlotsBelow n refs → slice_get refs i ≡ Some (Some r)
    → r < n
slot_below_at n [] i r below is = absurd (cc is)
slot_below_at n (None ∷ refs) zero r below is = absurd (cc is)
slot_below_at n (Some q ∷ refs) zero r below is = let same : q ≡ r = cc is in subst (λ k. k < n) same below.0
slot_below_at n (None ∷ refs) (suc i) r below is = slot_below_at n refs i r below is
slot_below_at n (Some q ∷ refs) (suc i) r below is = slot_below_at n refs i r below.1 is

-- the operand on top, and the others
pub below_split : (n : ℕ) (refs : List ℕ) (r : ℕ) (rest : List ℕ) → refs ≡ r ∷ rest → AreBelow n refs
    → (r < n) × AreBelow n rest
below_split n refs r rest is below = subst (λ (l : List ℕ). AreBelow n l) is below

pub below_reverse : (n : ℕ) (rs : List ℕ) → AreBelow n rs → AreBelow n (reverse rs)
below_reverse n [] below = tt
below_reverse n (r ∷ rs) below =
    subst (λ (l : List ℕ). AreBelow n l) (sym (reverse-append (r ∷ []) rs))
    (below-append n (reverse rs) (r ∷ []) (below_reverse n rs below.1) (below.0, tt))

-- ---- lists that lie one on the other

pub layers_extended : {H : Type 0} (n : ℕ) (more : List ℕ) (ls : List (H × List ℕ)) → LayersBelow n ls → AreBelow n more
    → LayersBelow n (extended more ls)
layers_extended n more [] below others = tt
layers_extended n more (l ∷ ls) below others = (below-append n l.1 more below.0 others, below.1)

pub layers_shortened : {H : Type 0} (n k : ℕ) (ls : List (H × List ℕ)) → LayersBelow n ls
    → LayersBelow n (shortened k ls)
layers_shortened n k [] below = tt
layers_shortened n k (l ∷ ls) below = (below-take n (length l.1 - k) l.1 below.0, below.1)

pub layers_rest : {H : Type 0} (n : ℕ) (ls : List (H × List ℕ)) → LayersBelow n ls → LayersBelow n (rest_of ls)
layers_rest n [] below = tt
layers_rest n (l ∷ ls) below = below.1

slots_set : (n i r : ℕ) (refs : List (Option ℕ)) → r < n → SlotsBelow n refs → SlotsBelow n (with_at i (Some r) refs)
slots_set n i r [] lt below = tt
slots_set n zero r (None ∷ refs) lt below = (lt, below)
slots_set n zero r (Some q ∷ refs) lt below = (lt, below.1)
slots_set n (suc i) r (None ∷ refs) lt below = slots_set n i r refs lt below
slots_set n (suc i) r (Some q ∷ refs) lt below = (below.0, slots_set n i r refs lt below.1)

pub slot_layers_set : {H : Type 0} (n i r : ℕ) (ls : List (H × List (Option ℕ))) → r < n → SlotLayersBelow n ls
    → SlotLayersBelow n (with_item i (Some r) ls)
slot_layers_set n i r [] lt below = tt
slot_layers_set n i r (l ∷ ls) lt below = (slots_set n i r l.1 lt below.0, below.1)

pub slots_joined : (n : ℕ) (refs more : List (Option ℕ)) → SlotsBelow n refs → SlotsBelow n more
    → SlotsBelow n (refs ++ more)
slots_joined n [] more below others = others
slots_joined n (None ∷ refs) more below others = slots_joined n refs more below others
slots_joined n (Some r ∷ refs) more below others = (below.0, slots_joined n refs more below.1 others)

pub frames_extended : (more : List ℕ) (ls : List (Option Return × List ℕ)) → AreFrames ls → AreFrames (extended more ls)
frames_extended more [] are = are
frames_extended more ((None, here) ∷ ls) are = are
frames_extended more ((Some r, here) ∷ ls) are = are

pub frames_shortened : (k : ℕ) (ls : List (Option Return × List ℕ)) → AreFrames ls → AreFrames (shortened k ls)
frames_shortened k [] are = are
frames_shortened k ((None, here) ∷ ls) are = are
frames_shortened k ((Some r, here) ∷ ls) are = are

pub loops_extended : (nodes : List Standing) (more : List ℕ) (ls : List (LoopHead × List ℕ)) → LoopsWithin nodes ls
    → LoopsWithin nodes (extended more ls)
loops_extended nodes more [] within = tt
loops_extended nodes more (l ∷ ls) within = within

pub loops_rest : (nodes : List Standing) (ls : List (LoopHead × List ℕ)) → LoopsWithin nodes ls
    → LoopsWithin nodes (rest_of ls)
loops_rest nodes [] within = tt
loops_rest nodes (l ∷ ls) within = within.1

-- ---- a machine with another stack

module _ (tables : Tables) (m : Machine) (is : IsMachine tables m) where
  pub with_operands : (operands : List ℕ) → AreBelow (length m.pool) operands
      → IsMachine tables (record m { operands = operands })
  with_operands operands below = record {
    operands = below;
    locals = is.locals;
    framed = is.framed;
    slots = is.slots;
    defaults = is.defaults;
    loops = is.loops;
    collected = is.collected;
    pending = is.pending;
    constants = is.constants;
    constants_below = is.constants_below;
    yes = is.yes;
    no = is.no;
  }

  pub with_locals : (locals : List (Option Return × List ℕ)) → LayersBelow (length m.pool) locals → AreFrames locals
      → IsMachine tables (record m { locals = locals })
  with_locals locals below framed = record {
    operands = is.operands;
    locals = below;
    framed = framed;
    slots = is.slots;
    defaults = is.defaults;
    loops = is.loops;
    collected = is.collected;
    pending = is.pending;
    constants = is.constants;
    constants_below = is.constants_below;
    yes = is.yes;
    no = is.no;
  }

  pub with_slots : (slots : List (Unit {0} × List (Option ℕ))) → SlotLayersBelow (length m.pool) slots
      → IsMachine tables (record m { slots = slots })
  with_slots slots below = record {
    operands = is.operands;
    locals = is.locals;
    framed = is.framed;
    slots = below;
    defaults = is.defaults;
    loops = is.loops;
    collected = is.collected;
    pending = is.pending;
    constants = is.constants;
    constants_below = is.constants_below;
    yes = is.yes;
    no = is.no;
  }

  pub with_defaults : (defaults : List (Option ℕ × List HeldRef)) → DefaultsBelow tables (length m.pool) defaults
      → IsMachine tables (record m { defaults = defaults })
  with_defaults defaults below = record {
    operands = is.operands;
    locals = is.locals;
    framed = is.framed;
    slots = is.slots;
    defaults = below;
    loops = is.loops;
    collected = is.collected;
    pending = is.pending;
    constants = is.constants;
    constants_below = is.constants_below;
    yes = is.yes;
    no = is.no;
  }

  pub with_loops : (loops : List (LoopHead × List ℕ)) → LoopsWithin m.pool loops → LayersBelow (length m.pool) loops
      → IsMachine tables (record m { loops = loops })
  with_loops loops within below = record {
    operands = is.operands;
    locals = is.locals;
    framed = is.framed;
    slots = is.slots;
    defaults = is.defaults;
    loops = within;
    collected = below;
    pending = is.pending;
    constants = is.constants;
    constants_below = is.constants_below;
    yes = is.yes;
    no = is.no;
  }

  pub with_pending : (pending : List (ℕ × List (Option ℕ))) → SlotLayersBelow (length m.pool) pending
      → IsMachine tables (record m { pending = pending })
  with_pending pending below = record {
    operands = is.operands;
    locals = is.locals;
    framed = is.framed;
    slots = is.slots;
    defaults = is.defaults;
    loops = is.loops;
    collected = is.collected;
    pending = below;
    constants = is.constants;
    constants_below = is.constants_below;
    yes = is.yes;
    no = is.no;
  }

  -- one operand more
  pub with_operand : (r : ℕ) (operands : List ℕ) → r < length m.pool → operands ≡ r ∷ m.operands
      → IsMachine tables (record m { operands = operands })
  with_operand r operands below is_so =
      with_operands operands (subst (λ (l : List ℕ). AreBelow (length m.pool) l) (sym is_so) (below, is.operands))

  -- one operand less
  pub without_operand : (r : ℕ) (operands : List ℕ) → m.operands ≡ r ∷ operands
      → IsMachine tables (record m { operands = operands })
  without_operand r operands is_so =
      with_operands operands (below_split (length m.pool) m.operands r operands is_so is.operands).1
