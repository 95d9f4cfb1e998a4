-- The nodes of trees in which nothing is cited.
use Rattle.std.specs.Prelude.{◌≡◌, ℕ, [], ◌∷◌}
use Rattle.cat_region.specs.Regions.{Constraints}
use Rattle.cat_guard.specs.declared.table.Table.{Table}
use Rattle.cat_guard.specs.declared.tree.CitedNode.{CitedNode}
use Rattle.cat_guard.specs.declared.tree.CitedNode.TheVariants as cited
use Rattle.cat_guard.specs.declared.tree.TreeNode.{TreeNode}
use Rattle.cat_guard.specs.declared.tree.TreeNode.TheVariants as node
use Rattle.cat_guard.specs.Valuations.{dims_of}
use Rattle.cat_cert.specs.declared.certificate.CertTree.{CertTree}

-- a node as that of a tree without citations; a citation isn't one
abbrev pub plain_node : CitedNode → TreeNode
plain_node (cited.Split a) = node.Split a
plain_node cited.Leaf = node.Leaf
plain_node (cited.Cite i) = node.Rest

-- a tree without named parts, written behind one line
abbrev pub IsPlain : CertTree → Type 0
IsPlain c = (c.tree.names ≡ []) × ((head : ℕ) × (c.heads ≡ head ∷ []))

-- a region admits every valuation of a table's terms
abbrev pub IsWhole : Table → Constraints → Type 0
IsWhole table region = (region.dims ≡ dims_of table.terms) × (region.narrowings ≡ [])
