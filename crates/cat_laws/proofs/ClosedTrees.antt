-- The closed trees of an audit are ones that a certificate can be written of, and their leaves are covered.
use Rattle.std.proofs.Common.{◌≡◌, ◌≤◌, ℕ, List, [], ◌∷◌, ◌++◌, drop, length, map, Option, refl, sym, subst}
use Rattle.std.proofs.Common.{arith}
use Rattle.cat_region.specs.Regions.{IsRegion}
use Rattle.cat_scope.specs.Names.{AllHave}
use Rattle.cat_guard.specs.declared.table.Table.{Table}
use Rattle.cat_guard.specs.declared.table.TableTarget.{TableTarget}
use Rattle.cat_guard.specs.declared.tree.CaseTree.{CaseTree}
use Rattle.cat_guard.specs.Trees.{Tree, tree_of}
use Rattle.cat_guard.proofs.RegionLaws.{cover_nothing, sound_atoms, sound_dims}
use Rattle.cat_walk.specs.Sizes.{most_leaves}
use Rattle.cat_cert.specs.Certifiable.{AreCertifiable, IsCertifiable}
use Rattle.cat_cert.specs.Lines.{Due, TargetDue, dues_of}
use Rattle.cat_cert.specs.Uncovered.{AllCovered, AreCovered, IsCovered, everything}
use Rattle.cat_audit.specs.Complete.{AreClosedTrees, IsClosedTree, targets_in}
use Rattle.cat_laws.proofs.TreeCover.{CoversNothing, leaves_covered, splits_on_own}

-- the trees that some nodes are
abbrev pub found_of : List CaseTree → List (Option Tree)
found_of trees = map (λ c. tree_of c.nodes) trees

-- targets with their table
abbrev with_table : Table → List TableTarget → List (Table × TableTarget)
with_table table targets = map (λ t. (table, t)) targets

module _ (most : ℕ) (few : most ≤ most_leaves) where
  one_certifiable : (table : Table) (t : TableTarget) (c : CaseTree) → IsClosedTree table t most c.nodes
      → IsCertifiable t (tree_of c.nodes)
  one_certifiable table t c is =
      subst (IsCertifiable t) (sym is.tree_is) (record {
        whole = is.whole;
        splits = splits_on_own table.atoms t (everything table.terms) is.tree is.searched;
        few = let least = is.leaves_are in omega (arith, least, few);
      })

  of_targets : (table : Table) (targets : List TableTarget) (others : List (Table × TableTarget)) (dues : List Due)
      → ((rest : List CaseTree) → AreClosedTrees most others rest → AreCertifiable dues (found_of rest))
      → (trees : List CaseTree) → AreClosedTrees most (with_table table targets ++ others) trees
      → AreCertifiable (map TargetDue targets ++ dues) (found_of trees)
  of_targets table [] others dues more trees are = more trees are
  of_targets table (t ∷ targets) others dues more [] are = elim are [ ]
  of_targets table (t ∷ targets) others dues more (c ∷ trees) are =
      (one_certifiable table t c are.0, of_targets table targets others dues more trees are.1)

  -- a certificate can be written of them
  pub are_certifiable : (tables : List Table) (trees : List CaseTree) → AreClosedTrees most (targets_in tables) trees
      → AreCertifiable (dues_of tables) (found_of trees)
  are_certifiable [] [] are = tt
  are_certifiable [] (c ∷ trees) are = elim are [ ]
  are_certifiable (table ∷ tables) trees are =
      of_targets table table.targets (targets_in tables) (dues_of tables) (are_certifiable tables) trees are

module _ (most : ℕ) where
  module _ (table : Table) where
    one_covered : (t : TableTarget) → CoversNothing table.terms table.atoms t
        → (c : CaseTree) → IsClosedTree table t most c.nodes
        → IsCovered table.atoms (everything table.terms) t (tree_of c.nodes)
    one_covered t nothing c is =
        let whole : IsRegion (everything table.terms) = record {
          dims = sound_dims table.terms table.atoms table.targets table.sound;
          narrowings = refl;
        } in
        subst (IsCovered table.atoms (everything table.terms) t) (sym is.tree_is)
        (leaves_covered table.terms table.atoms (sound_atoms table.terms table.atoms table.targets table.sound) t
        nothing
        (everything table.terms) is.tree whole refl is.searched is.closed)

    -- the trees of a table's targets are covered, and others are left
    record Parts (targets : List TableTarget) (others : List (Table × TableTarget)) (found : List (Option Tree))
        : Type 0 where
      covered : AreCovered table.atoms (everything table.terms) targets found
      rest : List CaseTree
      rest_is : drop (length targets) found ≡ found_of rest
      left : AreClosedTrees most others rest

    of_these : (targets : List TableTarget) → AllHave (CoversNothing table.terms table.atoms) targets
        → (others : List (Table × TableTarget)) (trees : List CaseTree)
        → AreClosedTrees most (with_table table targets ++ others) trees → Parts targets others (found_of trees)
    of_these [] nothing others trees are = record { covered = tt; rest = trees; rest_is = refl; left = are }
    of_these (t ∷ targets) nothing others [] are = elim are [ ]
    of_these (t ∷ targets) nothing others (c ∷ trees) are =
        let more = of_these targets nothing.1 others trees are.1 in record {
          covered = (one_covered t nothing.0 c are.0, more.covered);
          rest = more.rest;
          rest_is = more.rest_is;
          left = more.left;
        }

  -- their leaves are covered
  pub are_covered : (tables : List Table) (trees : List CaseTree) → AreClosedTrees most (targets_in tables) trees
      → AllCovered tables (found_of trees)
  are_covered [] trees are = tt
  are_covered (table ∷ tables) trees are =
      let parts = of_these table table.targets
      (cover_nothing table.terms table.atoms table.targets table.sound) (targets_in tables) trees are in (
        parts.covered,
        subst (AllCovered tables) (sym parts.rest_is) (are_covered tables parts.rest parts.left),
      )
