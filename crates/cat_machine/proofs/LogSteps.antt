-- What `take` logs.
use Rattle.std.proofs.Common.{◌≡◌, ℕ, zero, suc, ◌<◌, false, List, [], ◌∷◌, ◌++◌, length, Option, Some, None, slice_get}
use Rattle.std.proofs.Common.{refl, sym, ap, ◌∙◌, arith, append-nil, append_assoc}
use Rattle.cat_pos.specs.declared.pos.Pos.{Pos}
use Rattle.cat_value.specs.declared.value.Value.{Value}
use Rattle.cat_scope.specs.Judging.{held_position}
use Rattle.cat_scope.specs.Runs.{Decider}
use Rattle.cat_code.specs.declared.code.TargetEntry.{TargetEntry}
use Rattle.cat_code.specs.declared.code.Tables.{Tables}
use Rattle.cat_code.specs.Logged.{is_function_target, logged, logged_of, unless_function}
use Rattle.cat_pool.specs.Nodes.{values}
use Rattle.cat_machine.specs.declared.log.LogEntry.{LogEntry}
use Rattle.cat_machine.specs.declared.machine.HeldRef.{HeldRef}
use Rattle.cat_machine.specs.declared.machine.Machine.{Machine}
use Rattle.cat_machine.specs.States.{decided, decider_of, position_by, position_or}
use Rattle.cat_machine.specs.inside.Logging.{HeldHas, LogsTarget, found_of, number_of}

there_at : {A : Type 0} (xs : List A) (k : ℕ) → k < length xs → (x : A) × (slice_get xs k ≡ Some x)
there_at [] k within = absurd (omega (arith, within))
there_at (y ∷ xs) zero within = (y, refl)
there_at (y ∷ xs) (suc k) within = there_at xs k (omega (arith, within))

decided_more : (tables : Tables) (log : List LogEntry) (e : LogEntry)
    → decided tables (log ++ e ∷ [])
    ≡ decided tables log ++ decider_of tables (slice_get tables.targets e.target) e.definition
decided_more tables [] e = append-nil (decider_of tables (slice_get tables.targets e.target) e.definition)
decided_more tables (l ∷ log) e =
    ap (λ (ds : List Decider). decider_of tables (slice_get tables.targets l.target) l.definition ++ ds)
    (decided_more tables log e)
    ∙ sym (append_assoc (decider_of tables (slice_get tables.targets l.target) l.definition) (decided tables log)
    (decider_of tables (slice_get tables.targets e.target) e.definition))

position_is : (tables : Tables) (vs : List Value) (found : Option HeldRef) → HeldHas tables found
    → position_by tables (number_of found) ≡ held_position (found_of tables vs found)
position_is tables vs None has = refl
position_is tables vs (Some h) has =
    let p = there_at tables.definitions h.definition has in
    p.1 ∙ ap (λ (o : Option Pos). Some (position_or o)) (sym p.1)

pub logs_more : (tables : Tables) (m : Machine) (v : ℕ) (checked : Option ℕ) (found : Option HeldRef)
    (entry : TargetEntry)
    (log : List LogEntry) → checked ≡ Some v → slice_get tables.targets v ≡ Some entry
    → is_function_target tables.decls entry.target entry.target.inner ≡ false → HeldHas tables found
    → log ≡ m.log ++ record { target = v; definition = number_of found } ∷ []
    → LogsTarget tables m (record m { log = log }) checked found
logs_more tables m v checked found entry log is has none holds more = record {
  same = refl;
  logs =
      ap (decided tables) more
      ∙ decided_more tables m.log (record { target = v; definition = number_of found })
      ∙ ap (λ (o : Option TargetEntry). decided tables m.log ++ decider_of tables o (number_of found)) has
      ∙ ap (λ (o : Option Pos). decided tables m.log ++ record { target = entry.target; by = o } ∷ [])
      (position_is tables (values m.pool) found holds)
      ∙ sym
      (ap (λ b. decided tables m.log ++ unless_function b entry.target (found_of tables (values m.pool) found)) none)
      ∙ sym
      (ap (λ (o : Option TargetEntry). decided tables m.log ++ logged_of tables o
      (found_of tables (values m.pool) found)) has)
      ∙ sym (ap (λ k. decided tables m.log ++ logged tables k (found_of tables (values m.pool) found)) is);
}
