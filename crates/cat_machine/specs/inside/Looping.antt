-- A loop begins.
use Rattle.std.specs.Prelude.{◌≡◌, ℕ, Bool, List, [], ◌∷◌, IsOk}
use Rattle.cat_value.specs.declared.value.Value.TheViews as value
use Rattle.cat_scope.specs.Projections.{elements}
use Rattle.cat_pool.specs.declared.node.Refs.{Refs}
use Rattle.cat_pool.specs.Nodes.{at, in_range, kept_parts, seen_at, values}
use Rattle.cat_machine.specs.declared.machine.Machine.{Machine}
use Rattle.cat_machine.specs.inside.Machines.{LoopWithin}

-- the operand on top is a list
pub record TopIsList (m : Machine) : Type 0 where
  pub top : ℕ
  pub rest : List ℕ
  pub operands : m.operands ≡ top ∷ rest
  pub list : IsOk (elements (at (values m.pool) top))

-- it is popped, and a loop over its elements is on top; all else is as before
pub record BeginsLoop (old new : Machine) (collects : Bool) : Type 0 where
  pub top : ℕ
  pub left : Refs
  pub popped : old.operands ≡ top ∷ new.operands
  pub same : new
      ≡ record old { operands = new.operands; loops = (record { left = left; collects = collects }, []) ∷ old.loops }
  pub list : at (values old.pool) top ≡ value.List (seen_at old.pool (in_range (kept_parts old.pool) left))
  pub within : LoopWithin old.pool (record { left = left; collects = collects })
