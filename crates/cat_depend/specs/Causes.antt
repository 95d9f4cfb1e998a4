-- Where items or scopes are refused an order.
use Rattle.std.specs.Prelude.{◌<◌, ℕ, List, length, ⊤}
use Rattle.cat_order.specs.Cycle.{IsOnCycle}
use Rattle.cat_order.specs.declared.refusal.OrderRefusal.{OrderRefusal}
use Rattle.cat_order.specs.declared.refusal.OrderRefusal.TheVariants.{Cycle, Memory}
use Rattle.cat_depend.specs.CycleWays.{IsNextOnCycle}
use Rattle.cat_depend.specs.declared.refusal.CallRefusal.{CallRefusal}
use Rattle.cat_depend.specs.declared.refusal.CallRefusal.TheVariants as refused

-- items are refused an order where one of them depends on itself, at once or through others
abbrev pub HasItemCause : List (List ℕ) → OrderRefusal → Type 0
HasItemCause deps (Cycle item) = (item < length deps) × IsOnCycle deps item
HasItemCause deps Memory = ⊤

-- scopes are refused an order where one calls another that leads back to it
abbrev pub HasCallCause : List (List ℕ) → CallRefusal → Type 0
HasCallCause deps (refused.Cycle caller called) = (caller < length deps) × IsNextOnCycle deps caller called
HasCallCause deps refused.Memory = ⊤
