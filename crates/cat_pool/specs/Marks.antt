-- Marks: how much of a pool is to stay.
use Rattle.std.specs.Prelude.{◌≡◌, ◌≤◌, List, length, take}
use Rattle.cat_pool.specs.declared.pool.Mark.{Mark}
use Rattle.cat_pool.specs.Nodes.{Standing, kept_parts}

-- the mark behind all nodes
abbrev pub mark_of : List Standing → Mark
mark_of nodes = record { nodes = length nodes; parts = length (kept_parts nodes) }

-- the mark behind the first of these nodes
pub record IsMarkIn (mark : Mark) (nodes : List Standing) : Type 0 where
  pub within : mark.nodes ≤ length nodes
  pub parts : mark.parts ≡ length (kept_parts (take mark.nodes nodes))
