-- Which trees a certificate can be written of, and how: with their equal parts written once.
use Rattle.std.specs.Prelude.{◌≤◌, IsTrue, List, [], ◌∷◌, Option, None, Some}
use Rattle.cat_guard.specs.declared.table.TableTarget.{TableTarget}
use Rattle.cat_guard.specs.declared.tree.CitedTree.{CitedTree}
use Rattle.cat_guard.specs.Trees.{Tree, is_whole, leaves}
use Rattle.cat_walk.specs.Walkable.{splits_pass}
use Rattle.cat_walk.specs.Sharing.{shared}
use Rattle.cat_walk.specs.Sizes.{most_leaves}
use Rattle.cat_cert.specs.Lines.{Due, ScopeDue, TargetDue}
use Rattle.cat_cert.specs.Certified.{is_atom_of}

-- a tree with its equal parts written once, where there is one
abbrev pub shared_tree : Option Tree → CitedTree
shared_tree None = record { names = []; main = [] }
shared_tree (Some t) = shared t

-- a whole tree that splits on a target's atoms, of no more than the most leaves
pub record IsWholeFor (t : TableTarget) (tree : Tree) : Type 0 where
  pub whole : IsTrue (is_whole tree)
  pub splits : IsTrue (splits_pass (is_atom_of t) tree)
  pub few : leaves tree ≤ most_leaves

-- there is such a tree
abbrev pub IsCertifiable : TableTarget → Option Tree → Type 0
IsCertifiable t None = ⊥
IsCertifiable t (Some tree) = IsWholeFor t tree

-- one for each target that is due
abbrev pub AreCertifiable : List Due → List (Option Tree) → Type 0
AreCertifiable [] [] = Unit {0}
AreCertifiable [] (o ∷ found) = ⊥
AreCertifiable (ScopeDue name ∷ dues) found = AreCertifiable dues found
AreCertifiable (TargetDue t ∷ dues) [] = ⊥
AreCertifiable (TargetDue t ∷ dues) (o ∷ found) = IsCertifiable t o × AreCertifiable dues found
