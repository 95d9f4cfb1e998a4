-- What the nodes of a pool stand for.
use Rattle.std.specs.Prelude.{ℕ, zero, suc, ◌-◌, ◌<◌, ◌≤◌, false, List, [], ◌∷◌, ◌++◌, length, map, take, drop, Some}
use Rattle.std.specs.Prelude.{None}
use Rattle.cat_value.specs.declared.value.Value.{Value}
use Rattle.cat_value.specs.declared.value.Value.TheVariants as flat
use Rattle.cat_value.specs.declared.value.Value.TheViews as value
use Rattle.cat_pool.specs.declared.node.PoolNode.{PoolNode}
use Rattle.cat_pool.specs.declared.node.PoolNode.TheVariants as node
use Rattle.cat_pool.specs.declared.node.Refs.{Refs}

-- what a node stands for: its value and, of a list and of a structure, the references of the parts
pub record Standing : Type 0 where
  pub value : Value
  pub parts : List ℕ

-- the values of nodes
abbrev pub values : List Standing → List Value
values [] = []
values (n ∷ ns) = n.value ∷ values ns

-- the references that lists and structures keep, those of earlier nodes first
abbrev pub kept_parts : List Standing → List ℕ
kept_parts [] = []
kept_parts (n ∷ ns) = n.parts ++ kept_parts ns

-- the value at a reference, where there is one
abbrev pub at : List Value → ℕ → Value
at [] r = flat.Boolean false
at (v ∷ vs) zero = v
at (v ∷ vs) (suc r) = at vs r

-- the values at references
abbrev pub seen_at : List Standing → List ℕ → List Value
seen_at nodes refs = map (at (values nodes)) refs

-- the references of a range
abbrev pub in_range : List ℕ → Refs → List ℕ
in_range kept refs = take (refs.end - refs.start) (drop refs.start kept)

-- the parts of a node in a pool that keeps these references
abbrev pub parts_in : List ℕ → PoolNode → List ℕ
parts_in kept (node.List refs) = in_range kept refs
parts_in kept (node.Structure refs) = in_range kept refs
parts_in kept _ = []

-- the value of a node whose parts are among these nodes, in a pool that keeps these references
abbrev pub value_over : List Standing → List ℕ → PoolNode → Value
value_over nodes kept (node.Boolean b) = flat.Boolean b
value_over nodes kept (node.Integer n) = flat.Integer n
value_over nodes kept (node.Decimal f) = flat.Decimal f
value_over nodes kept (node.Money cents) = flat.Money cents
value_over nodes kept (node.Date day) = flat.Date day
value_over nodes kept (node.Duration span) = flat.Duration span
value_over nodes kept (node.List refs) = value.List (seen_at nodes (in_range kept refs))
value_over nodes kept (node.Structure refs) = value.Structure (seen_at nodes (in_range kept refs))
value_over nodes kept (node.Case k None) = value.Case k None
value_over nodes kept (node.Case k (Some r)) = value.Case k (Some (at (values nodes) r))

-- the value of a node in a pool
abbrev pub value_in : List Standing → PoolNode → Value
value_in nodes n = value_over nodes (kept_parts nodes) n

-- a node that keeps no references
abbrev pub lone : Value → Standing
lone v = record { value = v; parts = [] }

-- a list of these elements
abbrev pub listed : List Standing → List ℕ → Standing
listed nodes refs = record { value = value.List (seen_at nodes refs); parts = refs }

-- a structure of these fields
abbrev pub structured : List Standing → List ℕ → Standing
structured nodes refs = record { value = value.Structure (seen_at nodes refs); parts = refs }

-- each reference is below a number
abbrev pub AreBelow : ℕ → List ℕ → Type 0
AreBelow n [] = Unit {0}
AreBelow n (r ∷ rs) = (r < n) × AreBelow n rs

-- a range of the references that a pool keeps
abbrev pub IsWithin : List Standing → Refs → Type 0
IsWithin nodes refs = (refs.start ≤ refs.end) × (refs.end ≤ length (kept_parts nodes))

-- a node without parts, or a case whose content is a node of the pool
abbrev pub IsPlain : List Standing → PoolNode → Type 0
IsPlain nodes (node.List refs) = ⊥
IsPlain nodes (node.Structure refs) = ⊥
IsPlain nodes (node.Case k (Some r)) = r < length nodes
IsPlain nodes _ = Unit {0}

-- the parts of node r stand before it
abbrev pub IsPlaced : List Standing → ℕ → PoolNode → Type 0
IsPlaced nodes r (node.List refs) = IsWithin nodes refs × AreBelow r (in_range (kept_parts nodes) refs)
IsPlaced nodes r (node.Structure refs) = IsWithin nodes refs × AreBelow r (in_range (kept_parts nodes) refs)
IsPlaced nodes r (node.Case k (Some c)) = c < r
IsPlaced nodes r _ = Unit {0}
