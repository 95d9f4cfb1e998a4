-- The state of the table that a machine stands for: values in the place of references.
use Rattle.std.specs.Prelude.{ℕ, Bool, true, false, List, [], ◌∷◌, ◌++◌, map, Option, Some, None, slice_get}
use Rattle.cat_pos.specs.declared.pos.Pos.{Pos}
use Rattle.cat_value.specs.declared.value.Value.{Value}
use Rattle.cat_scope.specs.Judging.{Held}
use Rattle.cat_scope.specs.Calls.{Items}
use Rattle.cat_scope.specs.Runs.{Decider}
use Rattle.cat_code.specs.declared.code.TargetEntry.{TargetEntry}
use Rattle.cat_code.specs.declared.code.Tables.{Tables}
use Rattle.cat_code.specs.States.{Frame, Loop, DefaultFrame, Pending, State}
use Rattle.cat_pool.specs.Nodes.{Standing, at, in_range, kept_parts, seen_at, values}
use Rattle.cat_machine.specs.declared.log.LogEntry.{LogEntry}
use Rattle.cat_machine.specs.declared.machine.Machine.{Machine}
use Rattle.cat_machine.specs.declared.machine.Return.{Return}
use Rattle.cat_machine.specs.declared.machine.LoopHead.{LoopHead}
use Rattle.cat_machine.specs.declared.machine.HeldRef.{HeldRef}
use Rattle.cat_machine.specs.Layers.{rest_of, top_items}

-- the position at a number, where there is one
abbrev pub position_or : Option Pos → Pos
position_or None = record { line = 0; place = 0 }
position_or (Some p) = p

-- the value of a slot
abbrev pub slot : List Value → Option ℕ → Option Value
slot vs None = None
slot vs (Some r) = Some (at vs r)

-- the values of slots
abbrev pub slots_of : List Standing → List (Option ℕ) → Items
slots_of nodes refs = map (slot (values nodes)) refs

-- a definition that holds
abbrev pub held_of : Tables → List Value → HeldRef → Held Value
held_of tables vs h = record {
  number = h.definition;
  pos = position_or (slice_get tables.definitions h.definition);
  value = at vs h.value;
}

-- a default frame
abbrev pub default_of : Tables → List Standing → (Option ℕ × List HeldRef) → DefaultFrame
default_of tables nodes f = record { checked = f.0; held = map (held_of tables (values nodes)) f.1 }

-- what a loop collected, where it does
abbrev pub collected_of : Bool → List Value → Option (List Value)
collected_of false vs = None
collected_of true vs = Some vs

-- a loop
abbrev pub loop_of : List Standing → (LoopHead × List ℕ) → Loop
loop_of nodes l = record {
  left = seen_at nodes (in_range (kept_parts nodes) l.0.left);
  collected = collected_of l.0.collects (seen_at nodes l.1);
}

-- a scope that is not entered yet
abbrev pub pending_of : List Standing → (ℕ × List (Option ℕ)) → Pending
pending_of nodes p = record { scope = p.0; slots = slots_of nodes p.1 }

-- the slots of a frame that has its own
abbrev pub own_slots : Bool → Items → Option Items
own_slots false slots = None
own_slots true slots = Some slots

-- the slots of the frames below one that has its own, or that shares them
abbrev pub slots_below : Bool → List (Unit {0} × List (Option ℕ)) → List (Unit {0} × List (Option ℕ))
slots_below false slots = slots
slots_below true slots = rest_of slots

-- the frames that wait, by the locals and the slots of all frames
abbrev pub frames_of : List Standing → List (Option Return × List ℕ) → List (Unit {0} × List (Option ℕ)) → List Frame
frames_of nodes [] slots = []
frames_of nodes ((None, here) ∷ locals) slots = []
frames_of nodes ((Some r, here) ∷ locals) slots =
    record {
      slots = own_slots r.own (slots_of nodes (top_items (rest_of slots)));
      locals = seen_at nodes (top_items locals);
      back = r.back;
    } ∷ frames_of nodes locals (slots_below r.own slots)

-- the state at a place
abbrev pub state_at : Tables → ℕ → Machine → State
state_at tables place m = record {
  place = place;
  operands = seen_at m.pool m.operands;
  defaults = map (default_of tables m.pool) m.defaults;
  loops = map (loop_of m.pool) m.loops;
  slots = slots_of m.pool (top_items m.slots);
  locals = seen_at m.pool (top_items m.locals);
  pending = map (pending_of m.pool) m.pending;
  frames = frames_of m.pool m.locals m.slots;
}

-- the position of a definition that holds, where one does
abbrev pub position_by : Tables → Option ℕ → Option Pos
position_by tables None = None
position_by tables (Some d) = slice_get tables.definitions d

-- an entry of a log, where its target is in the tables
abbrev pub decider_of : Tables → Option TargetEntry → Option ℕ → List Decider
decider_of tables None by = []
decider_of tables (Some entry) by = record { target = entry.target; by = position_by tables by } ∷ []

-- a log, read through the tables
abbrev pub decided : Tables → List LogEntry → List Decider
decided tables [] = []
decided tables (l ∷ ls) = decider_of tables (slice_get tables.targets l.target) l.definition ++ decided tables ls
