-- A run on its way: how many steps it has left.
use Rattle.std.specs.Prelude.{◌≡◌, ◌≤◌, ℕ, zero, suc, List, Result, Ok, Err}
use Rattle.std.specs.Coded.{le_prop}
use Rattle.std.proofs.Common.{arith}
use mathlib.Core.HLevel.{Σ_prop_path}
use mathlib.Core.Path.{ap, refl}
use Rattle.cat_value.specs.declared.value.Value.{Value}
use Rattle.cat_scope.specs.declared.stop.Stop.{Stop}
use Rattle.cat_scope.specs.declared.stop.Stop.TheVariants as stop
use Rattle.cat_code.specs.declared.code.Code.{Code}
use Rattle.cat_code.specs.Runs.{step}
use Rattle.cat_code.specs.States.{State, Next, Goes, Over}
use Rattle.cat_machine.specs.declared.machine.Machine.{Machine}
use Rattle.cat_machine.specs.States.{state_at}

-- 1 for an end that isn't stuck
abbrev pub is_ended : Result (List Value) Stop → ℕ
is_ended (Ok vs) = 1
is_ended (Err stop.Stuck) = 0
is_ended (Err _) = 1

-- what is counted behind a step: 1 where it ends the run and none is left, and else what stands behind it
abbrev pub after_step : ℕ → (State → ℕ) → Next → ℕ
after_step zero go (Over end) = is_ended end
after_step (suc n) go (Over end) = 0
after_step zero go (Goes log s) = 0
after_step (suc n) go (Goes log s) = go s

-- 1 where the run from a state ends after exactly n steps and one, and isn't stuck
abbrev pub ends_in : Code → ℕ → State → ℕ
ends_in code zero s = after_step zero (λ t. 0) (step code.tables code.instructions s)
ends_in code (suc n) s = after_step (suc n) (ends_in code n) (step code.tables code.instructions s)

-- one is more than zero
none_le : {A : Type 0} → 1 ≤ 0 → A
none_le h = absurd (omega arith)

-- there is one such number
pub same_number : (code : Code) (m n : ℕ) (s : State) → 1 ≤ ends_in code m s → 1 ≤ ends_in code n s → m ≡ n
same_number code zero zero s g h = refl
same_number code zero (suc n) s g h = differ (step code.tables code.instructions s) g h
  where
    differ : (x : Next) → 1 ≤ after_step zero (λ t. 0) x → 1 ≤ after_step (suc n) (ends_in code n) x → zero ≡ suc n
    differ (Over end) g h = none_le h
    differ (Goes log t) g h = none_le g
same_number code (suc m) zero s g h = differ (step code.tables code.instructions s) g h
  where
    differ : (x : Next) → 1 ≤ after_step (suc m) (ends_in code m) x → 1 ≤ after_step zero (λ t. 0) x → suc m ≡ zero
    differ (Over end) g h = none_le g
    differ (Goes log t) g h = none_le h
same_number code (suc m) (suc n) s g h = both (step code.tables code.instructions s) g h (λ t. same_number code m n t)
  where
    both : (x : Next) → 1 ≤ after_step (suc m) (ends_in code m) x → 1 ≤ after_step (suc n) (ends_in code n) x
        → ((t : State) → 1 ≤ ends_in code m t → 1 ≤ ends_in code n t → m ≡ n) → suc m ≡ suc n
    both (Over end) g h again = none_le g
    both (Goes log t) g h again = ap suc (again t g h)

-- the run from the state of a machine ends
abbrev pub EndsFrom : Code → ℕ → Machine → Type 0
EndsFrom code place m = (n : ℕ) × (1 ≤ ends_in code n (state_at code.tables place m))

-- all ways to tell that it ends are one
pub EndsFrom-prop : (code : Code) (place : ℕ) (m : Machine) → IsProp (EndsFrom code place m)
EndsFrom-prop code place m x y =
    Σ_prop_path (λ n. le_prop) (same_number code x.0 y.0 (state_at code.tables place m) x.1 y.1)
