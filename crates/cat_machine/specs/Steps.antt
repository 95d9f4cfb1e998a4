-- What steps lead to.
use Rattle.std.specs.Prelude.{◌≡◌, ◌≤◌, ◌<◌, ◌+◌, ⊤, List, [], ◌++◌, length, map, slice_get, Result, Ok, Err}
use Rattle.std.specs.declared.alloc.AllocError.{AllocError}
use Rattle.cat_value.specs.declared.value.Value.{Value}
use Rattle.cat_scope.specs.declared.stop.Stop.{Stop}
use Rattle.cat_scope.specs.declared.stop.Stop.TheVariants as stop
use Rattle.cat_scope.specs.Replies.{known, on_one}
use Rattle.cat_scope.specs.Runs.{Decider}
use Rattle.cat_scope.specs.Judging.{alone}
use Rattle.cat_scope.specs.Projections.{parts}
use Rattle.cat_code.specs.declared.code.Tables.{Tables}
use Rattle.cat_code.specs.States.{Next, Goes, Over}
use Rattle.cat_pool.specs.Nodes.{Standing, at, values}
use Rattle.cat_pool.specs.Loading.{Extends}
use Rattle.cat_machine.specs.declared.machine.Machine.{Machine}
use Rattle.cat_machine.specs.declared.machine.End.{End}
use Rattle.cat_machine.specs.declared.machine.End.TheVariants as end
use Rattle.cat_machine.specs.declared.machine.Stepped.{Stepped}
use Rattle.cat_machine.specs.declared.machine.Stepped.TheVariants as stepped
use Rattle.cat_machine.specs.Layers.{top_items}
use Rattle.cat_machine.specs.States.{decided, held_of, state_at}

-- the values that a run ends with, or the stop
abbrev pub ending : Tables → Machine → End → Result (List Value) Stop
ending tables m (end.Outputs r) = parts (at (values m.pool) r)
ending tables m (end.Conflict v) =
    on_one (known (slice_get tables.targets v)) (λ entry.
    on_one (alone entry.target (map (held_of tables (values m.pool)) (top_items m.defaults))) (λ found. Ok []))
ending tables m (end.NoValue v) =
    on_one (known (slice_get tables.targets v)) (λ entry. Err (stop.NoValue entry.target entry.pos))
ending tables m (end.Fault kind p) = Err (stop.Fault kind p)

-- the node that a run ends with is one of the pool, and of what is in conflict there are two or more
abbrev pub EndWithin : Machine → End → Type 0
EndWithin m (end.Outputs r) = r < length m.pool
EndWithin m (end.Conflict v) = 1 < length (top_items m.defaults)
EndWithin m _ = Unit {0}

-- a step with what was logged before in front
abbrev pub behind : List Decider → Next → Next
behind log (Goes more s) = Goes (log ++ more) s
behind log (Over end) = Over end

-- a step of a machine leads where the table says; want of memory tells nothing
abbrev pub Tells : Tables → Result Stepped AllocError → Next → Machine → Machine → Type 0
Tells tables (Ok (stepped.To p)) next old new =
    behind (decided tables old.log) next ≡ Goes (decided tables new.log) (state_at tables p new)
Tells tables (Ok (stepped.Over end)) next old new =
    (next ≡ Over (ending tables new end)) × (new.log ≡ old.log) × EndWithin new end
Tells tables (Err e) next old new = ⊤

-- all nodes stay, and at most one is new
pub record OneMore (old new : List Standing) : Type 0 where
  pub stay : Extends old new
  pub few : length new ≤ length old + 1
