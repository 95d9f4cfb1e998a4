-- Where items are refused an order.
use Rattle.std.specs.Prelude.{ℕ, List, ⊤}
use Rattle.cat_order.specs.Order.{IsOrder}
use Rattle.cat_order.specs.Cycle.{IsOnCycle}
use Rattle.cat_order.specs.declared.refusal.OrderRefusal.{OrderRefusal}
use Rattle.cat_order.specs.declared.refusal.OrderRefusal.TheVariants.{Cycle, Memory}

-- no list is the order
abbrev pub HasNoOrder : List (List ℕ) → Type 0
HasNoOrder deps = (listed : List ℕ) → ¬ IsOrder deps listed

-- what each refusal says of the dependencies
abbrev pub HasCause : List (List ℕ) → OrderRefusal → Type 0
HasCause deps (Cycle item) = IsOnCycle deps item × HasNoOrder deps
HasCause deps Memory = ⊤
