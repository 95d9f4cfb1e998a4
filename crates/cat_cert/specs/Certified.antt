-- Which trees a certificate may have.
use Rattle.std.specs.Prelude.{◌≡◌, ℕ, ◌+◌, nat_eq, Bool, IsTrue, List, [], ◌∷◌, ◌++◌}
use Rattle.std.specs.Prelude.{Some, slice_get, unwrap_or}
use Rattle.std.specs.List.{list_all, list_any}
use Rattle.cat_guard.specs.declared.table.TableTarget.{TableTarget}
use Rattle.cat_guard.specs.declared.tree.CitedNode.{CitedNode}
use Rattle.cat_guard.specs.declared.tree.CitedNode.TheVariants as cited
use Rattle.cat_guard.specs.declared.tree.CitedTree.{CitedTree}
use Rattle.cat_guard.specs.Trees.{Tree, expanded}
use Rattle.cat_guard.specs.Judgements.{atoms_in}
use Rattle.cat_walk.specs.LeafPlaces.{lists_of}
use Rattle.cat_walk.specs.Walkable.{nodes_pass}
use Rattle.cat_cert.specs.declared.certificate.Version.{Version}
use Rattle.cat_cert.specs.declared.certificate.Version.TheVariants as version
use Rattle.cat_cert.specs.Lines.{Due, ScopeDue, TargetDue}

-- the atom of that number is one of the target's
abbrev pub is_atom_of : TableTarget → ℕ → Bool
is_atom_of t a = list_any (nat_eq a) (atoms_in t)

-- parts are named in version 2 alone
abbrev pub MayName : Version → List (List CitedNode) → Type 0
MayName version.One names = names ≡ []
MayName version.Two names = Unit {0}

-- a tree that a target may have: each list of it is one tree that cites earlier ones, and splits on the target's atoms
pub record IsTreeOf (v : Version) (t : TableTarget) (tree : CitedTree) : Type 0 where
  pub whole : Tree
  pub stands : expanded tree ≡ Some whole
  pub splits : IsTrue (list_all (nodes_pass (is_atom_of t)) (lists_of tree))
  pub names : MayName v tree.names

-- one tree for each target that is due
abbrev pub AreTreesOf : Version → List Due → List CitedTree → Type 0
AreTreesOf v [] [] = Unit {0}
AreTreesOf v [] (tree ∷ trees) = ⊥
AreTreesOf v (ScopeDue name ∷ dues) trees = AreTreesOf v dues trees
AreTreesOf v (TargetDue t ∷ dues) [] = ⊥
AreTreesOf v (TargetDue t ∷ dues) (tree ∷ trees) = IsTreeOf v t tree × AreTreesOf v dues trees

-- ---- how many leaves the tree has that is being read

-- the leaves of a node, where named trees have these: a citation has those of the named tree
abbrev pub node_leaves : List ℕ → CitedNode → ℕ
node_leaves named (cited.Split a) = 0
node_leaves named cited.Leaf = 1
node_leaves named (cited.Cite i) = unwrap_or (slice_get named i) 0

-- the leaves of nodes
abbrev pub nodes_leaves : List ℕ → List CitedNode → ℕ
nodes_leaves named [] = 0
nodes_leaves named (n ∷ ns) = node_leaves named n + nodes_leaves named ns

-- the leaves up to and with each node, behind so many
abbrev pub widths_from : List ℕ → ℕ → List CitedNode → List ℕ
widths_from named count [] = []
widths_from named count (n ∷ ns) =
    (count + node_leaves named n) ∷ widths_from named (count + node_leaves named n) ns

-- one number for each line of named trees: the leaves, up to and with that line, of the tree that is read there
abbrev pub named_widths : List ℕ → List (List CitedNode) → List ℕ
named_widths named [] = []
named_widths named (nodes ∷ more) =
    0 ∷ widths_from named 0 nodes ++ named_widths (named ++ nodes_leaves named nodes ∷ []) more

-- the leaves of named trees, behind those that are named already
abbrev pub named_leaves : List ℕ → List (List CitedNode) → List ℕ
named_leaves named [] = named
named_leaves named (nodes ∷ more) = named_leaves (named ++ nodes_leaves named nodes ∷ []) more

-- one number for each line of a tree
abbrev pub tree_widths : Version → CitedTree → List ℕ
tree_widths version.One tree = widths_from [] 0 tree.main
tree_widths version.Two tree =
    named_widths [] tree.names ++ 0 ∷ widths_from (named_leaves [] tree.names) 0 tree.main

-- one number for each line of what is due
abbrev pub due_widths : Version → List Due → List CitedTree → List ℕ
due_widths v [] trees = 0 ∷ []
due_widths v (ScopeDue name ∷ dues) trees = 0 ∷ due_widths v dues trees
due_widths v (TargetDue t ∷ dues) [] = []
due_widths v (TargetDue t ∷ dues) (tree ∷ trees) = 0 ∷ tree_widths v tree ++ due_widths v dues trees
