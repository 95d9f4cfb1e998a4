-- How the nodes of a pool lie, and the references that they keep.
use Rattle.std.specs.Prelude.{◌≡◌, ℕ, ◌+◌, ◌-◌, ◌<◌, ◌≤◌, List, [], ◌∷◌, ◌++◌, length, Some}
use Rattle.cat_pool.specs.declared.node.PoolNode.{PoolNode}
use Rattle.cat_pool.specs.declared.node.PoolNode.TheVariants as node
use Rattle.cat_pool.specs.declared.node.Refs.{Refs}
use Rattle.cat_pool.specs.declared.pool.Compound.{Compound}
use Rattle.cat_pool.specs.declared.pool.Compound.TheVariants as compound
use Rattle.cat_pool.specs.Nodes.{Standing, parts_in, value_over, in_range, AreBelow}

-- a list or a structure
abbrev pub part_node : Compound → Refs → PoolNode
part_node compound.List refs = node.List refs
part_node compound.Structure refs = node.Structure refs

-- what a node stands for behind others
abbrev pub standing : List ℕ → List Standing → PoolNode → Standing
standing kept before n = record { value = value_over before kept n; parts = parts_in kept n }

-- what nodes stand for behind others
abbrev pub seen : List ℕ → List Standing → List PoolNode → List Standing
seen kept before [] = before
seen kept before (n ∷ ns) = seen kept (before ++ standing kept before n ∷ []) ns

-- a range that begins where the references of the nodes in front end, which stand before node r
pub record IsRange (kept : List ℕ) (r from : ℕ) (refs : Refs) : Type 0 where
  pub starts : refs.start ≡ from
  pub ordered : refs.start ≤ refs.end
  pub within : refs.end ≤ length kept
  pub below : AreBelow r (in_range kept refs)

-- node r, behind nodes that keep so many references
abbrev pub IsLaid : List ℕ → ℕ → ℕ → PoolNode → Type 0
IsLaid kept r from (node.List refs) = IsRange kept r from refs
IsLaid kept r from (node.Structure refs) = IsRange kept r from refs
IsLaid kept r from (node.Case k (Some c)) = c < r
IsLaid kept r from _ = Unit {0}

-- how many references a node keeps
abbrev pub size : PoolNode → ℕ
size (node.List refs) = refs.end - refs.start
size (node.Structure refs) = refs.end - refs.start
size _ = 0

-- the nodes from node r on, behind nodes that keep so many references: all are kept
abbrev pub AreLaid : List ℕ → ℕ → ℕ → List PoolNode → Type 0
AreLaid kept r from [] = from ≡ length kept
AreLaid kept r from (n ∷ ns) = IsLaid kept r from n × AreLaid kept (r + 1) (from + size n) ns

-- the nodes of a pool with the references that they keep
pub record IsPool (nodes : List PoolNode) (kept : List ℕ) : Type 0 where
  pub laid : AreLaid kept 0 0 nodes
  pub nodes_fit : length nodes < 4294967296
  pub kept_fit : length kept < 4294967296
