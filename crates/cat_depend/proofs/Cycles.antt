-- Numbers on a cycle.
use Rattle.std.proofs.Common.{◌<◌, ℕ, zero, suc, List, [], ◌∷◌, length, Result, Ok, Err, IfErr, arith, true≢false, sym}
use Rattle.cat_order.specs.Cycle.{DependsOn, IsPath, IsOnCycle}
use Rattle.cat_order.specs.Cause.{HasCause}
use Rattle.cat_order.specs.declared.refusal.OrderRefusal.{OrderRefusal}
use Rattle.cat_order.specs.declared.refusal.OrderRefusal.TheVariants.{Cycle, Memory}
use Rattle.cat_depend.specs.Causes.{HasItemCause}

-- what depends on something is one of the numbers
pub within_of_DependsOn : (deps : List (List ℕ)) (n m : ℕ) → DependsOn deps n m → n < length deps
within_of_DependsOn [] n m h = absurd (true≢false (sym h))
within_of_DependsOn (x ∷ deps) zero m h = omega arith
within_of_DependsOn (x ∷ deps) (suc n) m h = omega (arith, within_of_DependsOn deps n m h)

within_of_IsPath : (deps : List (List ℕ)) (n : ℕ) (path : List ℕ) (m : ℕ) → IsPath deps n path m → n < length deps
within_of_IsPath deps n [] m h = within_of_DependsOn deps n m h
within_of_IsPath deps n (via ∷ path) m h = within_of_DependsOn deps n via h.0

pub within_of_IsOnCycle : (deps : List (List ℕ)) (n : ℕ) → IsOnCycle deps n → n < length deps
unfolding IsOnCycle
within_of_IsOnCycle deps n h = within_of_IsPath deps n h.0 n h.1

pub item_cause : (deps : List (List ℕ)) (r : Result (List ℕ) OrderRefusal) → IfErr r (HasCause deps)
    → IfErr r (HasItemCause deps)
item_cause deps (Ok listed) h = h
item_cause deps (Err (Cycle n)) h = (within_of_IsOnCycle deps n h.0, h.0)
item_cause deps (Err Memory) h = h
