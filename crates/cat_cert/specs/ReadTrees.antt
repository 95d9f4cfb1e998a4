-- What holds of the trees that are read of a text.
use Rattle.std.specs.Prelude.{◌≡◌, ◌≤◌, ◌+◌, ℕ, IsTrue, List, [], ◌∷◌, map, length}
use Rattle.cat_guard.specs.declared.table.Table.{Table}
use Rattle.cat_guard.specs.declared.table.TableTarget.{TableTarget}
use Rattle.cat_guard.specs.declared.tree.CitedNode.{CitedNode}
use Rattle.cat_guard.specs.declared.tree.CitedTree.{CitedTree}
use Rattle.cat_guard.specs.Trees.{expanded}
use Rattle.cat_walk.specs.LeafPlaces.{lists_of}
use Rattle.cat_walk.specs.Sizes.{is_small}
use Rattle.cat_cert.specs.declared.certificate.Version.{Version}
use Rattle.cat_cert.specs.declared.certificate.CertTree.{CertTree}
use Rattle.cat_cert.specs.declared.certificate.Certificate.{Certificate}
use Rattle.cat_cert.specs.Lines.{Due, ScopeDue, TargetDue}
use Rattle.cat_cert.specs.Certified.{IsTreeOf}
use Rattle.cat_cert.specs.Causes.{IsRead}

-- lists that are written behind these lines end in lines up to that one
abbrev pub AreWithin : ℕ → List ℕ → List (List CitedNode) → Type 0
AreWithin most [] [] = Unit {0}
AreWithin most [] (nodes ∷ lists) = ⊥
AreWithin most (head ∷ heads) [] = ⊥
AreWithin most (head ∷ heads) (nodes ∷ lists) = (head + length nodes ≤ most) × AreWithin most heads lists

-- a tree of a target, of no more than the most leaves, that is written in lines up to that one
pub record IsReadTree (most : ℕ) (v : Version) (t : TableTarget) (c : CertTree) : Type 0 where
  pub is_tree : IsTreeOf v t c.tree
  pub few : IsTrue (is_small (expanded c.tree))
  pub within : AreWithin most c.heads (lists_of c.tree)

-- one for each target that is due
abbrev pub AreReadTrees : ℕ → Version → List Due → List CertTree → Type 0
AreReadTrees most v [] [] = Unit {0}
AreReadTrees most v [] (c ∷ cs) = ⊥
AreReadTrees most v (ScopeDue name ∷ dues) cs = AreReadTrees most v dues cs
AreReadTrees most v (TargetDue t ∷ dues) [] = ⊥
AreReadTrees most v (TargetDue t ∷ dues) (c ∷ cs) = IsReadTree most v t c × AreReadTrees most v dues cs

-- a text is read as a certificate of these trees
pub record IsReadAs (tables : List Table) (bytes : List ℕ) (v : Version) (trees : List CitedTree) : Type 0 where
  pub c : Certificate
  pub is : IsRead tables bytes c
  pub version_is : c.version ≡ v
  pub trees_are : map (λ t. t.tree) c.trees ≡ trees
