-- A machine with the constants of a code, between two runs.
use Rattle.std.specs.Prelude.{ℕ, List, [], length, Option, Some, None}
use Rattle.std.specs.declared.boxed.Box.{Box}
use Rattle.cat_value.specs.declared.value.Value.{Value}
use Rattle.cat_pool.specs.Nodes.{AreBelow, seen_at}
use Rattle.cat_machine.specs.declared.machine.Machine.{Machine}
use Rattle.cat_machine.specs.inside.Begun.{IsEmpty}

-- the values at references of a machine's pool
abbrev pub values_at : {A : Type 0} → Option (Box Machine A) → List ℕ → List Value
values_at None refs = []
values_at (Some machine) refs = seen_at machine.value.pool refs

-- no run has begun in it, and these are references of its pool
abbrev pub IsResting : {A : Type 0} → Option (Box Machine A) → List ℕ → Type 0
IsResting None refs = ⊥
IsResting (Some machine) refs = IsEmpty machine.value × AreBelow (length machine.value.pool) refs
