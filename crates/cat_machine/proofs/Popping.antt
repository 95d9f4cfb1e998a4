-- Steps that log nothing, operands that are popped and pushed, and what is read of tables.
use Rattle.std.proofs.Common.{◌≡◌, ◌≢◌, ℕ, ◌+◌, List, [], ◌∷◌, Option, Some, slice_get, sym, ap, ◌∙◌}
use Rattle.std.proofs.Common.{append-nil}
use Rattle.cat_value.specs.declared.value.Value.{Value}
use Rattle.cat_scope.specs.Replies.{known}
use Rattle.cat_scope.specs.Runs.{Decider}
use Rattle.cat_code.specs.declared.code.Tables.{Tables}
use Rattle.cat_code.specs.declared.instr.Instr.{Instr}
use Rattle.cat_code.specs.declared.instr.Instr.TheVariants as instr
use Rattle.cat_code.specs.Machine.{act}
use Rattle.cat_code.specs.Moves.{of_top, pop, with_part}
use Rattle.cat_code.specs.States.{Goes, Next, State, on, push, stuck}
use Rattle.cat_pool.specs.Nodes.{at, seen_at, values}
use Rattle.cat_machine.specs.declared.machine.Machine.{Machine}
use Rattle.cat_machine.specs.States.{decided, state_at}
use Rattle.cat_machine.specs.Steps.{behind}

-- a step that logs nothing
pub quietly : (log : List Decider) (next : Next) (s : State) → next ≡ Goes [] s → behind log next ≡ Goes log s
quietly log next s is = ap (behind log) is ∙ ap (λ (l : List Decider). Goes l s) (append-nil log)

-- an operand is popped
pub popped_so : (tables : Tables) (place r : ℕ) (operands : List ℕ) (m : Machine) (go : Value → State → Next)
    → m.operands ≡ r ∷ operands
    → pop (state_at tables place m) go
    ≡ go (at (values m.pool) r) (state_at tables place (record m { operands = operands }))
popped_so tables place r operands m go is =
    ap (λ (l : List Value). of_top l (λ v vs. go v (record (state_at tables place m) { operands = vs })))
    (ap (seen_at m.pool) is)

-- a value is pushed
pub pushed_so : (tables : Tables) (place r : ℕ) (operands : List ℕ) (m : Machine) (v : Value) → v ≡ at (values m.pool) r
    → operands ≡ r ∷ m.operands
    → on (push v (state_at tables place m)) ≡ Goes [] (state_at tables (place + 1) (record m { operands = operands }))
pushed_so tables place r operands m v is more =
    ap (λ (vs : List Value). Goes [] (record (state_at tables (place + 1) m) { operands = vs }))
    (ap (λ (w : Value). w ∷ seen_at m.pool m.operands) is ∙ sym (ap (seen_at m.pool) more))

-- an entry of a table is read
pub read_so : {A : Type 0} (xs : List A) (k : ℕ) (x : A) (go : A → Next) → slice_get xs k ≡ Some x
    → with_part (known (slice_get xs k)) go ≡ go x
read_so {A = A} xs k x go is = ap (λ (o : Option A). with_part (known o) go) is

-- what isn't stuck isn't so behind an equation either
pub going_on : (one other : Next) → one ≡ other → one ≢ stuck → other ≢ stuck
going_on one other same going is = going (same ∙ is)

-- a jump
pub jump_told : (tables : Tables) (place t : ℕ) (m : Machine) (i : Instr) → i ≡ instr.Jump t
    → behind (decided tables m.log) (act tables i (state_at tables place m))
    ≡ Goes (decided tables m.log) (state_at tables t m)
jump_told tables place t m i is =
    quietly (decided tables m.log) (act tables i (state_at tables place m)) (state_at tables t m)
    (ap (λ (j : Instr). act tables j (state_at tables place m)) is)
