-- A machine stands for the same state in a pool that has more nodes behind.
use Rattle.std.proofs.Common.{◌≡◌, ℕ, ◌<◌, ◌≤◌, Bool, true, false, List, [], ◌∷◌, ◌++◌, length, map, Option, Some, None}
use Rattle.std.proofs.Common.{refl, sym, ap, ◌∙◌, subst, arith}
use Rattle.std.proofs.Common.{length-append}
use Rattle.cat_value.specs.declared.value.Value.{Value}
use Rattle.cat_scope.specs.Judging.{Held}
use Rattle.cat_scope.specs.Calls.{Items}
use Rattle.cat_code.specs.declared.code.Tables.{Tables}
use Rattle.cat_code.specs.States.{Frame, Loop, DefaultFrame, Pending, State}
use Rattle.cat_pool.specs.Nodes.{Standing, AreBelow, IsWithin, at, in_range, kept_parts, seen_at, values}
use Rattle.cat_pool.specs.Loading.{Extends}
use Rattle.cat_pool.proofs.Exported.{at-front, at-last, below-more, extends_itself, extends_more, in_range-append}
use Rattle.cat_pool.proofs.Exported.{kept_parts-append}
use Rattle.cat_pool.proofs.Exported.{length-values, seen_at-front, values-append}
use Rattle.cat_machine.specs.declared.machine.Machine.{Machine}
use Rattle.cat_machine.specs.declared.machine.Return.{Return}
use Rattle.cat_machine.specs.declared.machine.LoopHead.{LoopHead}
use Rattle.cat_machine.specs.declared.machine.HeldRef.{HeldRef}
use Rattle.cat_machine.specs.Layers.{rest_of, top_items}
use Rattle.cat_machine.specs.States.{collected_of, default_of, frames_of, held_of, loop_of, own_slots, pending_of}
use Rattle.cat_machine.specs.States.{slots_below, slots_of, state_at}
use Rattle.cat_machine.specs.Steps.{OneMore}
use Rattle.cat_machine.specs.inside.Machines.{DefaultsBelow, HeldBelow, IsMachine, IsTruth, LayersBelow, LoopsWithin}
use Rattle.cat_machine.specs.inside.Machines.{SlotLayersBelow, SlotsBelow}
use Rattle.cat_machine.proofs.Holding.{with_operand}

-- ---- references stay below

pub layers_more : {H : Type 0} (n m : ℕ) (ls : List (H × List ℕ)) → n ≤ m → LayersBelow n ls → LayersBelow m ls
layers_more n m [] le below = tt
layers_more n m (l ∷ ls) le below = (below-more n m l.1 le below.0, layers_more n m ls le below.1)

pub slots_more : (n m : ℕ) (rs : List (Option ℕ)) → n ≤ m → SlotsBelow n rs → SlotsBelow m rs
slots_more n m [] le below = tt
slots_more n m (None ∷ rs) le below = slots_more n m rs le below
slots_more n m (Some r ∷ rs) le below = (let lt = below.0 in omega (arith, lt, le), slots_more n m rs le below.1)

pub slot_layers_more : {H : Type 0} (n m : ℕ) (ls : List (H × List (Option ℕ))) → n ≤ m → SlotLayersBelow n ls
    → SlotLayersBelow m ls
slot_layers_more n m [] le below = tt
slot_layers_more n m (l ∷ ls) le below = (slots_more n m l.1 le below.0, slot_layers_more n m ls le below.1)

pub held_more : (tables : Tables) (n m : ℕ) (hs : List HeldRef) → n ≤ m → HeldBelow tables n hs → HeldBelow tables m hs
held_more tables n m [] le below = tt
held_more tables n m (h ∷ hs) le below =
    (let lt = below.0 in omega (arith, lt, le), below.1, held_more tables n m hs le below.2)

pub defaults_more : (tables : Tables) (n m : ℕ) (fs : List (Option ℕ × List HeldRef)) → n ≤ m
    → DefaultsBelow tables n fs → DefaultsBelow tables m fs
defaults_more tables n m [] le below = tt
defaults_more tables n m (f ∷ fs) le below =
    (held_more tables n m f.1 le below.0, defaults_more tables n m fs le below.1)

within_more : (nodes more : List Standing) (l : LoopHead) → IsWithin nodes l.left → IsWithin (nodes ++ more) l.left
within_more nodes more l within = (
  within.0,
  (let end = within.1 in
      omega (arith, end, ap length (kept_parts-append nodes more), length-append (kept_parts nodes) (kept_parts more))),
)

-- the elements that a loop has left
left_front : (nodes more : List Standing) (l : LoopHead) → IsWithin nodes l.left
    → in_range (kept_parts (nodes ++ more)) l.left ≡ in_range (kept_parts nodes) l.left
left_front nodes more l within =
    ap (λ (k : List ℕ). in_range k l.left) (kept_parts-append nodes more)
    ∙ in_range-append (kept_parts nodes) (kept_parts more) l.left within.0 within.1

pub loops_more : (nodes more : List Standing) (ls : List (LoopHead × List ℕ)) → LoopsWithin nodes ls
    → LoopsWithin (nodes ++ more) ls
loops_more nodes more [] within = tt
loops_more nodes more (l ∷ ls) within = (
  record {
    within = within_more nodes more l.0 within.0.within;
    below =
        subst (λ (k : List ℕ). AreBelow (length (nodes ++ more)) k) (sym (left_front nodes more l.0 within.0.within))
        (below-more (length nodes) (length (nodes ++ more)) (in_range (kept_parts nodes) l.0.left)
        (omega (arith, length-append nodes more)) within.0.below);
  },
  loops_more nodes more ls within.1,
)

-- ---- values stay

pub at_more : (nodes more : List Standing) (r : ℕ) → r < length nodes
    → at (values (nodes ++ more)) r ≡ at (values nodes) r
at_more nodes more r below =
    ap (λ (vs : List Value). at vs r) (values-append nodes more)
    ∙ at-front (values nodes) (values more) r (subst (λ n. r < n) (sym (length-values nodes)) below)

pub slots_front : (nodes more : List Standing) (rs : List (Option ℕ)) → SlotsBelow (length nodes) rs
    → slots_of (nodes ++ more) rs ≡ slots_of nodes rs
slots_front nodes more [] below = refl
slots_front nodes more (None ∷ rs) below = ap (λ (l : Items). None ∷ l) (slots_front nodes more rs below)
slots_front nodes more (Some r ∷ rs) below =
    ap (λ (v : Value). Some v ∷ slots_of (nodes ++ more) rs) (at_more nodes more r below.0)
    ∙ ap (λ (l : Items). Some (at (values nodes) r) ∷ l) (slots_front nodes more rs below.1)

pub held_front : (tables : Tables) (nodes more : List Standing) (hs : List HeldRef) → HeldBelow tables (length nodes) hs
    → map (held_of tables (values (nodes ++ more))) hs ≡ map (held_of tables (values nodes)) hs
held_front tables nodes more [] below = refl
held_front tables nodes more (h ∷ hs) below =
    ap (λ (v : Value). record (held_of tables (values nodes) h) { value = v } ∷ map
    (held_of tables (values (nodes ++ more))) hs)
    (at_more nodes more h.value below.0)
    ∙ ap (λ (l : List (Held Value)). held_of tables (values nodes) h ∷ l) (held_front tables nodes more hs below.2)

defaults_front : (tables : Tables) (nodes more : List Standing) (fs : List (Option ℕ × List HeldRef))
    → DefaultsBelow tables (length nodes) fs
    → map (default_of tables (nodes ++ more)) fs ≡ map (default_of tables nodes) fs
defaults_front tables nodes more [] below = refl
defaults_front tables nodes more (f ∷ fs) below =
    ap (λ (hs : List (Held Value)). record { checked = f.0; held = hs } ∷ map (default_of tables (nodes ++ more)) fs)
    (held_front tables nodes more f.1 below.0)
    ∙ ap (λ (l : List DefaultFrame). default_of tables nodes f ∷ l) (defaults_front tables nodes more fs below.1)

pending_front : (nodes more : List Standing) (ps : List (ℕ × List (Option ℕ))) → SlotLayersBelow (length nodes) ps
    → map (pending_of (nodes ++ more)) ps ≡ map (pending_of nodes) ps
pending_front nodes more [] below = refl
pending_front nodes more (p ∷ ps) below =
    ap (λ (vs : Items). record { scope = p.0; slots = vs } ∷ map (pending_of (nodes ++ more)) ps)
    (slots_front nodes more p.1 below.0)
    ∙ ap (λ (l : List Pending). pending_of nodes p ∷ l) (pending_front nodes more ps below.1)

pub top_below : {H : Type 0} (n : ℕ) (ls : List (H × List ℕ)) → LayersBelow n ls → AreBelow n (top_items ls)
top_below n [] below = tt
top_below n (l ∷ ls) below = below.0

pub top_slots_below : {H : Type 0} (n : ℕ) (ls : List (H × List (Option ℕ))) → SlotLayersBelow n ls
    → SlotsBelow n (top_items ls)
top_slots_below n [] below = tt
top_slots_below n (l ∷ ls) below = below.0

pub rest_slots_below : {H : Type 0} (n : ℕ) (ls : List (H × List (Option ℕ))) → SlotLayersBelow n ls
    → SlotLayersBelow n (rest_of ls)
rest_slots_below n [] below = tt
rest_slots_below n (l ∷ ls) below = below.1

slots_below_below : (n : ℕ) (own : Bool) (ls : List (Unit {0} × List (Option ℕ))) → SlotLayersBelow n ls
    → SlotLayersBelow n (slots_below own ls)
slots_below_below n false ls below = below
slots_below_below n true ls below = rest_slots_below n ls below

frames_front : (nodes more : List Standing) (locals : List (Option Return × List ℕ))
    (slots : List (Unit {0} × List (Option ℕ)))
    → LayersBelow (length nodes) locals → SlotLayersBelow (length nodes) slots
    → frames_of (nodes ++ more) locals slots ≡ frames_of nodes locals slots
frames_front nodes more [] slots below slotted = refl
frames_front nodes more ((None, here) ∷ locals) slots below slotted = refl
frames_front nodes more ((Some r, here) ∷ locals) slots below slotted =
    ap (λ (vs : Items). record {
      slots = own_slots r.own vs;
      locals = seen_at (nodes ++ more) (top_items locals);
      back =
          r.back;
    }
    ∷ frames_of (nodes ++ more) locals (slots_below r.own slots))
    (slots_front nodes more (top_items (rest_of slots))
    (top_slots_below (length nodes) (rest_of slots) (rest_slots_below (length nodes) slots slotted)))
    ∙ ap (λ (vs : List Value). record {
      slots = own_slots r.own (slots_of nodes (top_items (rest_of slots)));
      locals =
          vs;
      back = r.back;
    }
    ∷ frames_of (nodes ++ more) locals (slots_below r.own slots))
    (seen_at-front nodes more (top_items locals) (top_below (length nodes) locals below.1))
    ∙ ap (λ (fs : List Frame). record {
      slots = own_slots r.own (slots_of nodes (top_items (rest_of slots)));
      locals = seen_at nodes (top_items locals);
      back = r.back;
    } ∷ fs)
    (frames_front nodes more locals (slots_below r.own slots) below.1
    (slots_below_below (length nodes) r.own slots slotted))

loops_front : (nodes more : List Standing) (ls : List (LoopHead × List ℕ)) → LoopsWithin nodes ls
    → LayersBelow (length nodes) ls
    → map (loop_of (nodes ++ more)) ls ≡ map (loop_of nodes) ls
loops_front nodes more [] within below = refl
loops_front nodes more (l ∷ ls) within below =
    ap (λ (vs : List Value). record { left = vs; collected = collected_of l.0.collects (seen_at (nodes ++ more) l.1) }
    ∷ map (loop_of (nodes ++ more)) ls)
    (ap (seen_at (nodes ++ more)) (left_front nodes more l.0 within.0.within)
    ∙ seen_at-front nodes more (in_range (kept_parts nodes) l.0.left) within.0.below)
    ∙ ap (λ (vs : List Value). record {
      left = seen_at nodes (in_range (kept_parts nodes) l.0.left);
      collected =
          collected_of l.0.collects vs;
    }
    ∷ map (loop_of (nodes ++ more)) ls)
    (seen_at-front nodes more l.1 below.0)
    ∙ ap (λ (l' : List Loop). loop_of nodes l ∷ l') (loops_front nodes more ls within.1 below.1)

-- ---- the whole machine

pub truth_more : (nodes more : List Standing) (b : Bool) (r : Option ℕ) → IsTruth nodes b r
    → IsTruth (nodes ++ more) b r
truth_more nodes more b None is = tt
truth_more nodes more b (Some r) is =
    (let lt = is.0 in omega (arith, lt, length-append nodes more), at_more nodes more r is.0 ∙ is.1)

module _ (tables : Tables) (m : Machine) (more : List Standing) (is : IsMachine tables m) where
  abbrev pub grown : Machine
  grown = record m { pool = m.pool ++ more }

  longer : length m.pool ≤ length (m.pool ++ more)
  longer = omega (arith, length-append m.pool more)

  pub machine_grown : IsMachine tables grown
  machine_grown = record {
    operands = below-more (length m.pool) (length (m.pool ++ more)) m.operands longer is.operands;
    locals = layers_more (length m.pool) (length (m.pool ++ more)) m.locals longer is.locals;
    framed = is.framed;
    slots = slot_layers_more (length m.pool) (length (m.pool ++ more)) m.slots longer is.slots;
    defaults = defaults_more tables (length m.pool) (length (m.pool ++ more)) m.defaults longer is.defaults;
    loops = loops_more m.pool more m.loops is.loops;
    collected = layers_more (length m.pool) (length (m.pool ++ more)) m.loops longer is.collected;
    pending = slot_layers_more (length m.pool) (length (m.pool ++ more)) m.pending longer is.pending;
    constants = seen_at-front m.pool more m.constants is.constants_below ∙ is.constants;
    constants_below = below-more (length m.pool) (length (m.pool ++ more)) m.constants longer is.constants_below;
    yes = truth_more m.pool more true m.truths.yes is.yes;
    no = truth_more m.pool more false m.truths.no is.no;
  }

  -- it stands for the same state at each place
  pub state_grown : (place : ℕ) → state_at tables place grown ≡ state_at tables place m
  state_grown place =
      ap (λ (vs : List Value). record (state_at tables place grown) { operands = vs })
      (seen_at-front m.pool more m.operands is.operands)
      ∙ ap (λ (fs : List DefaultFrame). record (state_at tables place grown) {
        operands =
            seen_at m.pool m.operands;
        defaults = fs;
      })
      (defaults_front tables m.pool more m.defaults is.defaults)
      ∙ ap (λ (ls : List Loop). record (state_at tables place grown) {
        operands = seen_at m.pool m.operands;
        defaults = map (default_of tables m.pool) m.defaults;
        loops = ls;
      }) (loops_front m.pool more m.loops is.loops is.collected)
      ∙ ap (λ (vs : Items). record (state_at tables place m) {
        slots = vs;
        locals = seen_at (m.pool ++ more) (top_items m.locals);
        pending = map (pending_of (m.pool ++ more)) m.pending;
        frames = frames_of (m.pool ++ more) m.locals m.slots;
      }) (slots_front m.pool more (top_items m.slots) (top_slots_below (length m.pool) m.slots is.slots))
      ∙ ap (λ (vs : List Value). record (state_at tables place m) {
        locals = vs;
        pending = map (pending_of (m.pool ++ more)) m.pending;
        frames = frames_of (m.pool ++ more) m.locals m.slots;
      }) (seen_at-front m.pool more (top_items m.locals) (top_below (length m.pool) m.locals is.locals))
      ∙ ap (λ (ps : List Pending). record (state_at tables place m) {
        pending = ps;
        frames = frames_of (m.pool ++ more) m.locals m.slots;
      }) (pending_front m.pool more m.pending is.pending)
      ∙ ap (λ (fs : List Frame). record (state_at tables place m) { frames = fs })
      (frames_front m.pool more m.locals m.slots is.locals is.slots)

-- ---- one node more

-- none is new
pub no_more : (nodes : List Standing) → OneMore nodes nodes
no_more nodes = record { stay = extends_itself nodes; few = omega arith }

-- one is new
pub one_more : (nodes new : List Standing) (node : Standing) → new ≡ nodes ++ node ∷ [] → OneMore nodes new
one_more nodes new node is = record {
  stay = subst (λ (l : List Standing). Extends nodes l) (sym is) (extends_more nodes (node ∷ []));
  few = omega (arith, ap length is, length-append nodes (node ∷ []));
}

pub ruleset staying = (no_more, one_more)

module _ (tables : Tables) (m : Machine) (node : Standing) (r : ℕ) (pool : List Standing) (operands : List ℕ)
    (is : IsMachine tables m) (put : pool ≡ m.pool ++ node ∷ []) (place_is : r ≡ length m.pool)
    (pushed : operands ≡ r ∷ m.operands) where
  grown_exactly : record m { pool = m.pool ++ node ∷ []; operands = r ∷ m.operands }
      ≡ record m { pool = pool; operands = operands }
  grown_exactly =
      ap (λ (l : List Standing). record m { pool = l; operands = r ∷ m.operands }) (sym put)
      ∙ ap (λ (refs : List ℕ). record m { pool = pool; operands = refs }) (sym pushed)

  -- a machine over a node more, with its reference on top
  pub machine_put : IsMachine tables (record m { pool = pool; operands = operands })
  machine_put =
      let all = machine_grown tables m (node ∷ []) is in
      let here : r < length (m.pool ++ node ∷ []) = omega (arith, place_is, length-append m.pool (node ∷ [])) in
      subst (λ (n : Machine). IsMachine tables n) grown_exactly
      (with_operand tables (grown tables m (node ∷ []) is) all r (r ∷ m.operands) here refl)

  -- it stands for the state with the value on top
  pub state_put : (place : ℕ) → record (state_at tables place m) { operands = node.value ∷ seen_at m.pool m.operands }
      ≡ state_at tables place (record m { pool = pool; operands = operands })
  state_put place =
      ap (λ (s : State). record s { operands = node.value ∷ s.operands })
      (sym (state_grown tables m (node ∷ []) is place))
      ∙ ap (λ (v : Value). record (state_at tables place (grown tables m (node ∷ []) is)) {
        operands =
            v ∷ seen_at (m.pool ++ node ∷ []) m.operands;
      })
      (sym (ap (λ (vs : List Value). at vs r) (values-append m.pool (node ∷ []))
      ∙ at-last (values m.pool) node.value r (place_is ∙ sym (length-values m.pool))))
      ∙ ap (λ (n : Machine). state_at tables place n) grown_exactly
