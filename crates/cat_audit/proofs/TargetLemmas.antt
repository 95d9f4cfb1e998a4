-- What covered targets have.
use Rattle.std.proofs.Common.{◌≡◌, ℕ, List, [], ◌∷◌, ◌++◌, map, Option, Some, None}
use Rattle.std.proofs.Common.{Result, Ok, Err, refl, sym, ap, ◌∙◌, subst}
use Rattle.cat_region.specs.declared.dim.Dim.{Dim}
use Rattle.cat_region.specs.Regions.{Valuation, IsValuation}
use Rattle.cat_scope.specs.declared.programs.Program.{Program}
use Rattle.cat_scope.specs.declared.stop.Stop.{Stop}
use Rattle.cat_scope.specs.Judging.{Held}
use Rattle.cat_scope.specs.Names.{AllHave}
use Rattle.cat_sound.proofs.Exported.{same_some}
use Rattle.cat_value.specs.declared.outcome.Target.{Target}
use Rattle.cat_guard.specs.declared.table.Atom.{Atom}
use Rattle.cat_guard.specs.declared.table.Table.{Table}
use Rattle.cat_guard.specs.declared.table.TableTarget.{TableTarget}
use Rattle.cat_guard.specs.declared.tree.CaseTree.{CaseTree}
use Rattle.cat_guard.specs.declared.tree.TreeNode.{TreeNode}
use Rattle.cat_guard.specs.TableJudging.{Covers, decided}
use Rattle.cat_guard.specs.Trees.{AreClosed, Closed, tree_of}
use Rattle.cat_guard.specs.Valuations.{dims_of, holds_at}
use Rattle.cat_search.specs.declared.found.Search.{Search}
use Rattle.cat_search.specs.declared.found.Search.TheVariants as search
use Rattle.cat_search.specs.Searched.{IsSearchOf, everything}
use Rattle.cat_audit_sound.specs.Audited.{IsTargetAudited, MayDecide, none_may_stop}
use Rattle.cat_audit.specs.declared.finding.Finding.{Finding}
use Rattle.cat_audit.specs.declared.finding.Line.TheVariants as line
use Rattle.cat_audit.specs.declared.finding.TargetLine.{TargetLine}
use Rattle.cat_audit.specs.Causes.{HasCause}
use Rattle.cat_audit.specs.Lines.{IsLineOf, line_by, tree_in, counting, findings, bad_in}
use Rattle.cat_audit.specs.Complete.{AreClosedTrees, IsClosedTree}
use Rattle.cat_audit.specs.Sections.{AreLinesOf, named_lines}
use Rattle.cat_audit.proofs.VerdictLemmas.{IsCoveredLine}

-- a tree that is closed before any narrowing covers each valuation
abbrev pub CoverEach : Type 0
CoverEach = (atoms : List Atom) (t : TableTarget) (dims : List Dim) (room : ℕ) (nodes : List TreeNode)
    → AreClosed atoms t (record { dims = dims; narrowings = []; room = room }) nodes
    → (v : Valuation) → IsValuation dims v → Covers t (holds_at atoms v)

may_decide : (target : Target) (r : Result (Option (Held (Unit {0}))) Stop) → MayDecide none_may_stop target r
may_decide target (Ok found) = refl
may_decide target (Err stop) = tt

module _ (program : Program) (table : Table) (budget : ℕ) where
  caused : (t : TableTarget) (m : TargetLine) → m.line ≡ line.Covered
      → HasCause program table t budget m.tree.nodes m.line
      → AreClosed table.atoms t (everything table.terms) m.tree.nodes
  caused t m is cause = subst (HasCause program table t budget m.tree.nodes) is cause

  pub targets_audited : CoverEach → (targets : List TableTarget) (made : List TargetLine)
      → AreLinesOf program table budget targets made → AllHave IsCoveredLine (named_lines targets made)
      → AllHave (IsTargetAudited none_may_stop table) targets
  targets_audited cover [] made are covered = tt
  targets_audited cover (t ∷ targets) [] are covered = elim are [ ]
  targets_audited cover (t ∷ targets) (m ∷ made) are covered = (
    record {
      covered = λ stops v is. cover table.atoms t (dims_of table.terms) 0 m.tree.nodes
          (caused t m covered.0 are.1) v is;
      decides = λ none v is. may_decide t.target (decided t (holds_at table.atoms v)).end;
    },
    targets_audited cover targets made are.2 covered.1,
  )

  -- ---- trees

  -- the search of a line without a finding
  none_counts : (found : Option Finding) (s : Search) → line_by found s ≡ line.Covered → (nodes : List TreeNode)
      → (tree_in s).nodes ≡ nodes → (t : TableTarget) → IsSearchOf table.terms table.atoms t budget s
      → AreClosed table.atoms t (everything table.terms) nodes → IsClosedTree table t budget nodes
  none_counts (Some f) s is nodes same t searched closed = absurd (cc)
  none_counts None (search.Spent tree bad) is nodes same t searched closed = absurd (cc)
  none_counts None (search.Closed tree bad) is nodes same t searched closed =
      let found = searched.0 in
      let one : found ≡ closed.0 = same_some found closed.0
      (sym (ap tree_of (sym same) ∙ searched.1.nodes_are) ∙ closed.1) in
      record {
        tree = found;
        tree_is = ap tree_of (sym same) ∙ searched.1.nodes_are;
        whole = searched.2;
        leaves_are = searched.3;
        searched = searched.1.searched;
        closed = subst (Closed table.atoms t (everything table.terms)) (sym one) closed.2;
      }

  pub closed_tree : (t : TableTarget) (m : TargetLine) → IsLineOf program table t budget m
      → HasCause program table t budget m.tree.nodes m.line → m.line ≡ line.Covered
      → IsClosedTree table t budget m.tree.nodes
  closed_tree t m is cause covered =
      none_counts (counting (findings program table t (bad_in table t m.tree.nodes))) is.search
      (sym is.line_is ∙ covered) m.tree.nodes (ap (λ (c : CaseTree). c.nodes) (sym is.tree_is)) t is.searched
      (caused t m covered cause)

  pub closed_trees : (targets : List TableTarget) (made : List TargetLine)
      → AreLinesOf program table budget targets made → AllHave IsCoveredLine (named_lines targets made)
      → (others : List (Table × TableTarget)) (trees : List CaseTree) → AreClosedTrees budget others trees
      → AreClosedTrees budget (map (λ t. (table, t)) targets ++ others) (map (λ l. l.tree) made ++ trees)
  closed_trees [] [] are covered others trees rest = rest
  closed_trees [] (m ∷ made) are covered others trees rest = elim are [ ]
  closed_trees (t ∷ targets) [] are covered others trees rest = elim are [ ]
  closed_trees (t ∷ targets) (m ∷ made) are covered others trees rest =
      (closed_tree t m are.0 are.1 covered.0, closed_trees targets made are.2 covered.1 others trees rest)
