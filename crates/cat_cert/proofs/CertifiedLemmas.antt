-- What is read can be checked, and why a text isn't certified.
use Rattle.std.proofs.Common.{ℕ, ◌≤◌, IsTrue, List, [], ◌∷◌}
use Rattle.std.proofs.Common.{length, arith}
use Rattle.cat_scope.specs.Names.{AllHave}
use Rattle.cat_guard.specs.declared.table.Table.{Table}
use Rattle.cat_guard.specs.declared.tree.CitedNode.{CitedNode}
use Rattle.cat_guard.specs.Trees.{expanded}
use Rattle.cat_walk.specs.LeafPlaces.{lists_of}
use Rattle.cat_walk.specs.Sizes.{is_small}
use Rattle.cat_cert.specs.declared.certificate.Version.{Version}
use Rattle.cat_cert.specs.declared.certificate.CertTree.{CertTree}
use Rattle.cat_cert.specs.declared.certificate.Certificate.{Certificate}
use Rattle.cat_cert.specs.Lines.{Due, ScopeDue, TargetDue, dues_of}
use Rattle.cat_cert.specs.ReadTrees.{AreWithin, AreReadTrees}
use Rattle.cat_cert.specs.inside.Checkable.{last_line, AreOfTables}

-- ---- further lines

within_further : (most more : ℕ) → most ≤ more → (heads : List ℕ) (lists : List (List CitedNode))
    → AreWithin most heads lists → AreWithin more heads lists
within_further most more up [] [] w = tt
within_further most more up [] (nodes ∷ lists) w = absurd (w)
within_further most more up (h ∷ hs) [] w = absurd (w)
within_further most more up (h ∷ hs) (nodes ∷ lists) w =
    let first = w.0 in
    (omega (arith, up, first), within_further most more up hs lists w.1)

trees_further : (most more : ℕ) → most ≤ more → (v : Version) (dues : List Due) (cs : List CertTree)
    → AreReadTrees most v dues cs → AreReadTrees more v dues cs
trees_further most more up v [] [] are = tt
trees_further most more up v [] (c ∷ cs) are = absurd (are)
trees_further most more up v (ScopeDue name ∷ dues) cs are = trees_further most more up v dues cs are
trees_further most more up v (TargetDue t ∷ dues) [] are = absurd (are)
trees_further most more up v (TargetDue t ∷ dues) (c ∷ cs) are = (
  record {
    is_tree = are.0.is_tree;
    few = are.0.few;
    within = within_further most more up c.heads (lists_of c.tree) are.0.within;
  },
  trees_further most more up v dues cs are.1,
)

pub can_be_checked : (tables : List Table) (bytes : List ℕ) (c : Certificate)
    → AreReadTrees (length bytes) c.version (dues_of tables) c.trees → length bytes ≤ last_line
    → AreOfTables tables c.trees
can_be_checked tables bytes c are few =
    (c.version, trees_further (length bytes) last_line few c.version (dues_of tables) c.trees are)

-- ---- what is expected of trees

pub all_small : (most : ℕ) (v : Version) (dues : List Due) (cs : List CertTree) → AreReadTrees most v dues cs
    → AllHave (λ c. IsTrue (is_small (expanded c.tree))) cs
all_small most v [] [] are = tt
all_small most v [] (c ∷ cs) are = absurd (are)
all_small most v (ScopeDue name ∷ dues) cs are = all_small most v dues cs are
all_small most v (TargetDue t ∷ dues) [] are = absurd (are)
all_small most v (TargetDue t ∷ dues) (c ∷ cs) are = (are.0.few, all_small most v dues cs are.1)
