-- Where a run of items has a value, and which output an item is.
use Rattle.std.specs.Prelude.{◌≡◌, ℕ, List, [], length, take, Option, Some, Ok, slice_get}
use Rattle.cat_value.specs.declared.value.Value.{Value}
use Rattle.cat_value.specs.declared.declaration.ItemDecl.{ItemDecl}
use Rattle.cat_pos.specs.declared.pos.Pos.{Pos}
use Rattle.cat_value.specs.declared.outcome.Target.{Target}
use Rattle.cat_scope.specs.Runs.{Decider, Run}
use Rattle.cat_scope.specs.Names.{IsOneOf}
use Rattle.cat_value.specs.Inputs.{outputs_in}
use Rattle.cat_scope.specs.Calls.{Scoped, Items}
use Rattle.cat_scope.specs.Running.{backwards, entry_at, run_items, no_values}
use Rattle.cat_scope.specs.ItemValues.{item_value}

-- the values with which the item at an index of the order is evaluated
abbrev pub values_at : Scoped → Items → ℕ → Run Items
values_at scoped input index = run_items scoped input [] (no_values scoped.items) (take index scoped.order)

-- an item has a value
abbrev pub HasValue : ℕ → Value → Items → Type 0
HasValue item v values = slice_get values item ≡ Some (Some v)

-- the number that an item has among the outputs, where it is one
abbrev pub output_number : List ItemDecl → ℕ → ℕ
output_number items item = length (outputs_in (take item items))

-- the item at an index of the order has come to something in a run, in the values that stand there
pub record JudgedAt (scoped : Scoped) (input : Items) (index item : ℕ) : Type 0 where
  pub values : Items
  pub value : Option Value
  pub reached : (values_at scoped input index).end ≡ Ok values
  pub is : (item_value scoped (backwards (take index scoped.order)) values item (entry_at item input)
      (slice_get scoped.items item)).end ≡ Ok value

-- a log tells what came of a target
abbrev pub IsLogged : Target → List Decider → Type 0
IsLogged target log = (by : Option Pos) × IsOneOf (record { target = target; by = by }) log
