-- What is put into the pool for a machine, and popped of its operands.
use Rattle.std.specs.Prelude.{◌≡◌, ◌<◌, ℕ, Bool, true, false, ◌∷◌, length, Option, Some, slice_get}
use Rattle.cat_value.specs.declared.value.Value.{Value}
use Rattle.cat_code.specs.Operations as code
use Rattle.cat_pool.specs.declared.node.PoolNode.{PoolNode}
use Rattle.cat_pool.specs.declared.node.PoolNode.TheVariants as node
use Rattle.cat_pool.specs.Nodes.{values}
use Rattle.cat_scalar.specs.declared.scalar.Scalar.{Scalar}
use Rattle.cat_scalar.specs.declared.scalar.Scalar.TheVariants as scalar
use Rattle.cat_machine.specs.declared.machine.Machine.{Machine}
use Rattle.cat_machine.specs.declared.machine.Truths.{Truths}
use Rattle.cat_machine.specs.declared.steps.operating.Operation.{Operation}
use Rattle.cat_machine.specs.declared.steps.operating.Operation.TheVariants as operation
use Rattle.cat_machine.specs.inside.Machines.{IsTruth}

-- the node of a truth value, once there is one
abbrev pub truth_in : Bool → Truths → Option ℕ
truth_in true truths = truths.yes
truth_in false truths = truths.no

-- a node for a truth value
abbrev pub with_truth : Bool → ℕ → Truths → Truths
with_truth true r truths = record truths { yes = Some r }
with_truth false r truths = record truths { no = Some r }

-- the nodes of the two truth values, once there are such
pub record HasTruths (m : Machine) : Type 0 where
  pub yes : IsTruth m.pool true m.truths.yes
  pub no : IsTruth m.pool false m.truths.no

-- a node of the pool stands for a value, and all else is as before
pub record Puts (old new : Machine) (v : Value) (r : ℕ) : Type 0 where
  pub same : new ≡ record old { pool = new.pool; truths = new.truths }
  pub stands : slice_get (values new.pool) r ≡ Some v
  pub truths : HasTruths new

-- what is in a node that has no parts
abbrev pub scalar_at : PoolNode → Scalar
scalar_at (node.Boolean b) = scalar.Boolean b
scalar_at (node.Integer n) = scalar.Integer n
scalar_at (node.Decimal f) = scalar.Decimal f
scalar_at (node.Money cents) = scalar.Money cents
scalar_at (node.Date day) = scalar.Date day
scalar_at (node.Duration span) = scalar.Duration span
scalar_at _ = scalar.Compound

-- the operand on top is popped, and all else is as before
pub record Pops (old new : Machine) (r : ℕ) : Type 0 where
  pub below : r < length new.pool
  pub popped : old.operands ≡ r ∷ new.operands
  pub same : new ≡ record old { operands = new.operands }

-- an operator of a number
abbrev pub operation_of : Operation → code.Operation
operation_of (operation.Before o) = code.Before o
operation_of (operation.Between o) = code.Between o
