-- What has been read of a certificate, as far as it tells what may come next.
use Rattle.std.specs.Prelude.{ℕ, zero, suc, Bool, true, false, List, [], ◌∷◌, ◌++◌, Option, Some, None, slice_get}
use Rattle.std.specs.Prelude.{if◌then◌else◌}
use Rattle.cat_guard.specs.declared.table.TableTarget.{TableTarget}
use Rattle.cat_guard.specs.declared.tree.CitedNode.{CitedNode}
use Rattle.cat_guard.specs.declared.tree.CitedNode.TheVariants as cited
use Rattle.cat_cert.specs.declared.certificate.CertTree.{CertTree}
use Rattle.cat_cert.specs.declared.certificate.Version.{Version}
use Rattle.cat_cert.specs.Lines.{Due}

-- ---- states

-- the growing tree of a target, as far as its lists are read: what is due behind it, the trees before it, its named
-- trees with their numbers of leaves, and the line before each list
pub record Growing : Type 0 where
  pub target : TableTarget
  pub dues : List Due
  pub trees : List CertTree
  pub names : List (List CitedNode)
  pub named : List ℕ
  pub heads : List ℕ

-- the first line comes next; something due; a list of a tree; a node of a list, of the tree itself or of a named one,
-- behind these nodes with so many leaves, where so many subtrees follow the one that comes next; or nothing
pub data State : Type 0 where
  First : List Due → State
  AtDue : Version → List Due → List CertTree → State
  AtList : Growing → State
  AtNode : Version → Bool → Growing → List CitedNode → ℕ → ℕ → State
  Done : Version → List CertTree → State

-- where a line leads, and the leaves up to and with it of the tree that is read
pub record Stepped : Type 0 where
  pub width : ℕ
  pub state : State

-- a line that belongs to no tree
abbrev pub to : State → Option Stepped
to s = Some (record { width = 0; state = s })

-- ---- nodes

-- a list more begins behind that line
abbrev pub with_head : Growing → ℕ → Growing
with_head p n = record {
  target = p.target;
  dues = p.dues;
  trees = p.trees;
  names = p.names;
  named = p.named;
  heads = p.heads ++ n ∷ [];
}

-- a named tree more, with so many leaves
abbrev pub with_name : Growing → List CitedNode → ℕ → Growing
with_name p nodes count = record {
  target = p.target;
  dues = p.dues;
  trees = p.trees;
  names = p.names ++ nodes ∷ [];
  named = p.named ++ count ∷ [];
  heads = p.heads;
}

-- the whole tree, with these nodes of its own
abbrev pub whole_tree : Growing → List CitedNode → CertTree
whole_tree p nodes = record { tree = record { names = p.names; main = nodes }; heads = p.heads }

-- behind the last node of a list
abbrev pub after_list : Version → Bool → Growing → List CitedNode → ℕ → State
after_list v true p nodes count = AtDue v p.dues (p.trees ++ whole_tree p nodes ∷ [])
after_list v false p nodes count = AtList (with_name p nodes count)

-- the leaves of a node, where it may stand there
abbrev pub leaves_there : (ℕ → Bool) → List ℕ → CitedNode → Option ℕ
leaves_there is_atom named (cited.Split a) = if is_atom a then Some 0 else None
leaves_there is_atom named cited.Leaf = Some 1
leaves_there is_atom named (cited.Cite i) = slice_get named i

-- behind a node
abbrev pub after_node : Version → Bool → Growing → List CitedNode → ℕ → ℕ → CitedNode → State
after_node v main p nodes pending count (cited.Split a) = AtNode v main p nodes (suc pending) count
after_node v main p nodes zero count cited.Leaf = after_list v main p nodes count
after_node v main p nodes (suc pending) count cited.Leaf = AtNode v main p nodes pending count
after_node v main p nodes zero count (cited.Cite i) = after_list v main p nodes count
after_node v main p nodes (suc pending) count (cited.Cite i) = AtNode v main p nodes pending count

-- how many subtrees follow the one that comes next, behind a node; none where the list is whole
abbrev pub pending_after : CitedNode → ℕ → Option ℕ
pending_after (cited.Split a) pending = Some (suc pending)
pending_after cited.Leaf zero = None
pending_after cited.Leaf (suc pending) = Some pending
pending_after (cited.Cite i) zero = None
pending_after (cited.Cite i) (suc pending) = Some pending
