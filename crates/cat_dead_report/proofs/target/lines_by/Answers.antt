use Rattle.std.proofs.Common.{◌≡◌, ◌∙◌, ℕ, IsTrue, List, [], Some, length, take, sym, subst}
use Rattle.cat_region.specs.Regions.{Constraints}
use Rattle.cat_scope.specs.Names.{AllHave}
use Rattle.cat_guard.specs.declared.guard.GuardDef.{GuardDef}
use Rattle.cat_guard.specs.declared.table.TableTarget.{TableTarget}
use Rattle.cat_guard.specs.declared.tree.TreeNode.{TreeNode}
use Rattle.cat_guard.specs.Trees.{Tree, tree_of}
use Rattle.cat_audit_sound.proofs.Exported.{all_at}
use Rattle.cat_search.specs.Searched.{everything, IsSearched}
use Rattle.cat_search.specs.Ways.{ask_below, way_from}
use Rattle.cat_dead_report.specs.declared.line.DeadLine.{DeadLine}
use Rattle.cat_dead_report.specs.DeadReports.{IsSaidOf}
use Rattle.cat_dead_report.specs.inside.Knowing.{AreKnown}
use Rattle.cat_dead_report.specs.inside.Places.{HaveNumbers}
use Rattle.cat_dead_report.specs.inside.WonLeaves.{AreJudgedLeaves, IsTold}
use Rattle.cat_dead_report.proofs.SaidOfLemmas.{judged_there, said_of}
use Rattle.cat_dead_report.proofs.SearchLemmas.{walkable}
use Rattle.cat_dead_report.proofs.target.lines_by.Goals as goal

pub leaves_of-requires-clause-tree : goal.leaves_of-requires-clause-tree
leaves_of-requires-clause-tree c =
    let here = c.args.here.now in
    walkable here.table.now here.target.now c.args.budget here.number c.requires.scene.target c.args.tree c.args.whole
    c.requires.searched

pub known_of-requires-clause-asked : goal.known_of-requires-clause-asked
known_of-requires-clause-asked c n =
    let here = c.args.here.now in
    let table = here.table.now in
    let made = c.requires.searched.made in
    subst (λ (ns : List TreeNode). IsTrue (ask_below (length table.atoms) (way_from [] (take n ns))))
    (sym c.as_slice-nodes.ensures)
    (all_at (λ (t : TableTarget). (region : Constraints) (nodes : List TreeNode) (tree : Tree)
    → tree_of nodes ≡ Some tree → IsSearched table.atoms t region tree
    → (n : ℕ) → IsTrue (ask_below (length table.atoms) (way_from [] (take n nodes)))) table.targets here.number
    here.target.now c.searched_trees_ask_atoms_of_the_table.ensures c.requires.scene.target (everything table.terms)
    c.args.tree.nodes made.tree made.tree_is made.searched n)

pub known_of-requires-clause-leaves : goal.known_of-requires-clause-leaves
known_of-requires-clause-leaves c =
    let table = c.args.here.now.table.now in
    let t = c.args.here.now.target.now in
    subst (λ (ns : List TreeNode). AreJudgedLeaves table t ns 0 c.as_slice-leaves.result.now)
    (sym c.as_slice-nodes.ensures)
    (subst (AreJudgedLeaves table t c.args.tree.nodes 0)
    (sym (c.as_slice-leaves.ensures ∙ c.in_ok-leaves.ensures.judged))
    (judged_there table t c.args.budget c.args.tree c.args.whole c.requires.searched
    c.leaves_are_where_their_ways_lead.ensures))

pub known_of-requires-clause-numbers : goal.known_of-requires-clause-numbers
known_of-requires-clause-numbers c =
    subst (λ (ns : List ℕ). HaveNumbers c.args.here.now.target.now.defs ns c.in_ok-places.count)
    (sym c.as_slice-numbers.ensures)
    (subst (λ (ds : List GuardDef). HaveNumbers ds c.in_ok-places.places c.in_ok-places.count) c.as_slice-defs.ensures
    c.in_ok-places.ensures)

pub returns-clause-said : goal.returns-clause-said
returns-clause-said c =
    let here = c.args.here.now in
    let program = here.program.now in
    let table = here.table.now in
    let t = here.target.now in
    let found = c.args.tree in
    let numbers = c.in_ok-places.places in
    let known = c.in_ok-known.known.items in
    let are = subst (λ (ns : List TreeNode). AreKnown program table t ns numbers known) c.as_slice-nodes.ensures
    (subst (λ (ks : List ℕ). AreKnown program table t c.as_slice-nodes.result.now ks known) c.as_slice-numbers.ensures
    c.in_ok-known.ensures.known) in
    let told = subst (λ (ns : List TreeNode). AllHave (IsTold program table t ns numbers known)
    c.as_slice-leaves.result.now) c.as_slice-nodes.ensures
    (subst (λ (ks : List ℕ). AllHave (IsTold program table t c.as_slice-nodes.result.now ks known)
    c.as_slice-leaves.result.now) c.as_slice-numbers.ensures c.in_ok-known.ensures.told) in
    subst (λ (lines : List DeadLine). IsSaidOf program table c.args.budget t
    (record { places = numbers; lines = lines; tree = found; whole = c.args.whole })) (sym c.in_ok-lines.ensures)
    (said_of table t c.args.budget found c.args.whole c.requires.searched c.leaves_are_where_their_ways_lead.ensures
    program c.requires.scene.tabled
    (λ v is. c.inputs_of_valuations_are_well_typed.ensures table.scope table v c.requires.scene.tabled is)
    c.points_are_admitted.ensures c.what_wins_nowhere_is_never_held.ensures
    c.what_is_never_held_never_decides.ensures here.number c.requires.scene.target numbers known are
    (subst (AllHave (IsTold program table t found.nodes numbers known))
    (c.as_slice-leaves.ensures ∙ c.in_ok-leaves.ensures.judged) told))
