use Rattle.std.proofs.Common.{◌≡◌, ◌++◌, ◌∙◌, List, slice_get, length, map, sym, ap, subst}
use Rattle.std.specs.Prelude.{OnOk}
use Rattle.cat_guard.specs.declared.table.TableTarget.{TableTarget}
use Rattle.cat_guard.specs.declared.tree.TreeNode.{TreeNode}
use Rattle.cat_guard.specs.Trees.{tree_of, expanded}
use Rattle.cat_walk.specs.Walkable.{IsWalkable}
use Rattle.cat_walk.proofs.Lists.{there}
use Rattle.cat_cert.specs.Uncovered.{everything}
use Rattle.cat_cert.proofs.Lists.{some_at}
use Rattle.cat_dead.specs.Leaves.{leaves_judged}
use Rattle.cat_dead.specs.inside.Plain.{plain_node}
use Rattle.cat_dead.specs.inside.Told.{HaveLines, IsAdded, winners_among}
use Rattle.cat_dead.proofs.HeldLaws.{some_same}
use Rattle.cat_dead.proofs.OpenedLemmas.{added, head_is, head_there, some_has, tree_there}
use Rattle.cat_dead.proofs.PlainLemmas.{fit, plain_walkable}
use Rattle.cat_dead.proofs.checking.add_target.Goals as goal

pub judged_leaves-requires-clause-tree : goal.judged_leaves-requires-clause-tree
judged_leaves-requires-clause-tree c =
    let atoms = length c.args.table.now.atoms in
    let room = c.args.region.now.room in
    let nodes_are = c.as_slice-2.ensures ∙ c.in_ok-nodes.ensures ∙ ap (map plain_node) c.as_slice.ensures in
    subst (λ (ns : List TreeNode). IsWalkable atoms room (tree_of ns)) (sym nodes_are)
    (plain_walkable c.args.tree.now c.requires.tree.1.0 atoms room c.requires.tree.0.walkable)

pub at-head-requires : goal.at-head-requires
at-head-requires c = head_there c.args.tree.now.heads c.requires.tree.1.1

pub add_winners-requires : goal.add_winners-requires
add_winners-requires c =
    let table = c.args.table.now in
    let tree = c.args.tree.now in
    let e = there table.targets c.args.target c.requires.target in
    let whole = everything table.terms in
    let nodes_are = c.as_slice-2.ensures ∙ c.in_ok-nodes.ensures ∙ ap (map plain_node) c.as_slice.ensures in
    let leaves_are = c.as_slice-3.ensures ∙ some_at (slice_get table.targets c.args.target) e.value
    (λ (t : TableTarget). c.in_ok-leaves.leaves ≡ leaves_judged table.atoms t whole c.as_slice-2.result.now) e.is
    c.in_ok-leaves.ensures.judged ∙ ap (leaves_judged table.atoms e.value whole) nodes_are in
    let found = tree_there (expanded tree.tree) _ _ c.requires.tree.0.walkable in
    subst (HaveLines c.at-head.result.now) (sym leaves_are)
    (fit table.atoms e.value whole tree c.at-head.result.now c.requires.tree.1.0
    (head_is tree.heads c.requires.tree.1.1 c.at-head.result.now c.at-head.ensures) found.0 found.1
    c.requires.tree.0.within)

pub returns-clause-added : goal.returns-clause-added
returns-clause-added c =
    let table = c.args.table.now in
    let tree = c.args.tree.now in
    let e = there table.targets c.args.target c.requires.target in
    let whole = everything table.terms in
    let nodes_are = c.as_slice-2.ensures ∙ c.in_ok-nodes.ensures ∙ ap (map plain_node) c.as_slice.ensures in
    let leaves = c.as_slice-3.result.now in
    let leaves_are = c.as_slice-3.ensures ∙ some_at (slice_get table.targets c.args.target) e.value
    (λ (t : TableTarget). c.in_ok-leaves.leaves ≡ leaves_judged table.atoms t whole c.as_slice-2.result.now) e.is
    c.in_ok-leaves.ensures.judged ∙ ap (leaves_judged table.atoms e.value whole) nodes_are in
    let found = tree_there (expanded tree.tree) _ _ c.requires.tree.0.walkable in
    let head = c.at-head.result.now in
    let here : c.at-judged.result.now ≡ e.value = some_same _ _ (sym c.at-judged.ensures ∙ e.is) in
    some_has (slice_get table.targets c.args.target) e.value
    (λ (t : TableTarget). IsAdded table t tree c.args.won.now c.add_winners.new.won c.add_winners.result) e.is
    (added table e.value tree head c.requires.tree.1.0
    (head_is tree.heads c.requires.tree.1.1 head c.at-head.ensures) found.0 found.1 leaves leaves_are
    c.args.won.now c.add_winners.new.won c.add_winners.result c.add_winners.ensures.first c.add_winners.ensures.none
    (subst (λ (t : TableTarget). OnOk c.add_winners.result
    (c.add_winners.new.won ≡ c.args.won.now ++ winners_among t leaves)) here c.add_winners.ensures.won))
