use Rattle.std.proofs.Common.{◌≡◌, IfOk, List, length, slice_get, sym, subst}
use Rattle.std.proofs.lemmas.Option.{slice_get_within}
use Rattle.cat_guard.specs.declared.table.TableTarget.{TableTarget}
use Rattle.cat_guard.specs.declared.tree.TreeNode.{TreeNode}
use Rattle.cat_guard.specs.Trees.{tree_of}
use Rattle.cat_cert.specs.Uncovered.{everything}
use Rattle.cat_walk.specs.Walkable.{IsWalkable}
use Rattle.cat_dead.specs.declared.judged.JudgedLeaf.{JudgedLeaf}
use Rattle.cat_dead.specs.Leaves.{leaves_judged}
use Rattle.cat_dead_report.proofs.SearchLemmas.{told_at}
use Rattle.cat_dead_report.proofs.target.leaves_from.Goals as goal

pub judged_leaves-requires-clause-target : goal.judged_leaves-requires-clause-target
judged_leaves-requires-clause-target c =
    let here = c.args.here.now in
    slice_get_within here.table.now.targets here.number here.target.now c.requires.scene.target

pub judged_leaves-requires-clause-tree : goal.judged_leaves-requires-clause-tree
judged_leaves-requires-clause-tree c =
    subst (λ (ns : List TreeNode). IsWalkable (length c.args.here.now.table.now.atoms) c.args.region.now.room
    (tree_of ns)) (sym c.as_slice.ensures) c.requires.tree

pub returns-clause-judged : goal.returns-clause-judged
returns-clause-judged c =
    let here = c.args.here.now in
    let table = here.table.now in
    let t = here.target.now in
    subst (λ (ns : List TreeNode). IfOk c.judged_leaves.result (λ leaves. leaves
    ≡ leaves_judged table.atoms t (everything table.terms) ns)) c.as_slice.ensures
    (told_at (λ (u : TableTarget) (leaves : List JudgedLeaf). leaves
    ≡ leaves_judged table.atoms u (everything table.terms) c.as_slice.result.now)
    (slice_get table.targets here.number) t c.requires.scene.target c.judged_leaves.result
    c.judged_leaves.ensures.judged)
