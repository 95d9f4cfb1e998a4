-- What a state has where a step from it isn't stuck.
use Rattle.std.proofs.Common.{◌≡◌, ◌≢◌, ℕ, zero, suc, ◌<◌, List, [], ◌∷◌, length, Option, Some, None}
use Rattle.std.proofs.Common.{slice_get, refl, ap, arith}
use Rattle.std.proofs.lemmas.List.{length-map}
use Rattle.cat_value.specs.declared.value.Value.{Value}
use Rattle.cat_scope.specs.Replies.{evaluated, known}
use Rattle.cat_code.specs.declared.code.Constant.{Constant}
use Rattle.cat_code.specs.declared.code.Code.{Code}
use Rattle.cat_code.specs.declared.instr.Instr.{Instr}
use Rattle.cat_code.specs.Moves.{pushes, with_part}
use Rattle.cat_code.specs.Runs.{act_at, step}
use Rattle.cat_code.specs.States.{Next, State, stuck}
use Rattle.cat_pool.specs.Nodes.{Standing, at, seen_at, values}
use Rattle.cat_machine.specs.declared.machine.Machine.{Machine}
use Rattle.cat_machine.specs.States.{slots_of, state_at}
use Rattle.cat_machine.specs.Running.{constant_values}
use Rattle.cat_machine.proofs.Holding.{get_below}

-- what is read of a table
pub known_needs : {A : Type 0} (o : Option A) (go : A → Next) → with_part (known o) go ≢ stuck → (a : A) × (o ≡ Some a)
known_needs None go going = absurd (going refl)
known_needs (Some a) go going = (a, refl)

-- a number of a table's entry
pub entry_needs : {A : Type 0} (xs : List A) (k : ℕ) (go : A → Next) → with_part (known (slice_get xs k)) go ≢ stuck
    → k < length xs
entry_needs xs k go going = let there = known_needs (slice_get xs k) go going in get_below xs k there.0 there.1

-- a slot that is filled
pub slot_needs : (nodes : List Standing) (refs : List (Option ℕ)) (i : ℕ) (s : State)
    → pushes (evaluated (slice_get (slots_of nodes refs) i)) s ≢ stuck → (r : ℕ) × (slice_get refs i ≡ Some (Some r))
slot_needs nodes [] i s going = absurd (going refl)
slot_needs nodes (None ∷ refs) zero s going = absurd (going refl)
slot_needs nodes (Some r ∷ refs) zero s going = (r, refl)
slot_needs nodes (o ∷ refs) (suc i) s going = slot_needs nodes refs i s going

-- a slot
pub given_needs : (nodes : List Standing) (refs : List (Option ℕ)) (i : ℕ) (go : Option Value → Next)
    → with_part (known (slice_get (slots_of nodes refs) i)) go ≢ stuck → i < length refs
given_needs nodes refs i go going =
    let long = entry_needs (slots_of nodes refs) i go going in
    omega (arith, long, slots_length nodes refs)
  where
    slots_length : (nodes : List Standing) (refs : List (Option ℕ)) → length (slots_of nodes refs) ≡ length refs
    slots_length nodes [] = refl
    slots_length nodes (o ∷ refs) = ap suc (slots_length nodes refs)

-- a local
pub local_needs : (nodes : List Standing) (refs : List ℕ) (i : ℕ) (go : Value → Next)
    → with_part (known (slice_get (seen_at nodes refs) i)) go ≢ stuck → i < length refs
local_needs nodes refs i go going =
    let long = entry_needs (seen_at nodes refs) i go going in
    omega (arith, long, length-map refs (at (values nodes)))

-- a constant
pub constant_needs : (nodes : List Standing) (refs : List ℕ) (cs : List Constant) (k : ℕ) (go : Constant → Next)
    → seen_at nodes refs ≡ constant_values cs → with_part (known (slice_get cs k)) go ≢ stuck → k < length refs
constant_needs nodes refs cs k go are going =
    let long = entry_needs cs k go going in
    omega (arith, long, length-map refs (at (values nodes)), ap length are, constants_length cs)
  where
    constants_length : (cs : List Constant) → length (constant_values cs) ≡ length cs
    constants_length [] = refl
    constants_length (c ∷ cs) = ap suc (constants_length cs)

-- an instruction at the place
pub step_within : (code : Code) (place : ℕ) (m : Machine)
    → step code.tables code.instructions (state_at code.tables place m) ≢ stuck
    → place < length code.instructions
step_within code place m going = let there =
    by (slice_get code.instructions place) going in get_below code.instructions place there.0 there.1
  where
    by : (o : Option Instr) → act_at code.tables o (state_at code.tables place m) ≢ stuck → (i : Instr) × (o ≡ Some i)
    by None going = absurd (going refl)
    by (Some i) going = (i, refl)
