-- Items in order.
use Rattle.std.specs.Prelude.{◌≡◌, ◌<◌, ℕ, List, length, Some, slice_get, All}
use Rattle.cat_pos.specs.declared.limits.TheConstants.{ENTRIES_BOUND}
use Rattle.cat_order.specs.Order.{AreItems, IsOrder}
use Rattle.cat_order.specs.Cycle.{IsOnCycle}
use Rattle.cat_value.specs.declared.declaration.ItemDecl.{ItemDecl}
use Rattle.cat_value.specs.declared.declaration.Scope.{Scope}
use Rattle.cat_scope.specs.declared.defs.Def.{Def}
use Rattle.cat_scope.specs.declared.defs.Body.{Body}
use Rattle.cat_scope.specs.Orders.{item_dependencies}
use Rattle.cat_names.specs.declared.fault.Fault.{Fault}
use Rattle.cat_names.specs.declared.fault.Fault.TheVariants.{VariableCycle}
use Rattle.cat_names.specs.Accepted.{unordered}

-- what definitions are for and what they name are items
pub record IsItemized (items : List ItemDecl) (defs : List Def) : Type 0 where
  pub few : length items < ENTRIES_BOUND
  pub targets : All (λ d. d.target.item < length items) defs
  pub named : AreItems (item_dependencies items defs)

-- each scope has a body whose definitions have to do with its items alone
pub record AreItemized (scopes : List Scope) (bodies : List Body) : Type 0 where
  pub counted : length bodies ≡ length scopes
  pub each : (k : ℕ) (s : Scope) (b : Body) → slice_get scopes k ≡ Some s → slice_get bodies k ≡ Some b
      → IsItemized s.items b.defs

-- the name of an item that depends on itself
pub record IsCyclicItem (items : List ItemDecl) (defs : List Def) (fault : Fault) : Type 0 where
  pub number : ℕ
  pub item : ItemDecl
  pub item_is : slice_get items number ≡ Some item
  pub on_cycle : IsOnCycle (item_dependencies items defs) number
  pub fault_is : fault ≡ VariableCycle item.pos

-- a body with this order is as before but for it
pub record IsWithOrder (old : Body) (order : List ℕ) (new : Body) : Type 0 where
  pub kept : unordered new ≡ unordered old
  pub order_is : new.order ≡ order

-- the items of each scope are in order
abbrev pub AreInOrder : List Scope → List Body → Type 0
AreInOrder scopes bodies = (k : ℕ) (s : Scope) (b : Body) → slice_get scopes k ≡ Some s → slice_get bodies k ≡ Some b
    → IsOrder (item_dependencies s.items b.defs) b.order
