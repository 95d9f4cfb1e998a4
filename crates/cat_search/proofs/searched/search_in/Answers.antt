use Rattle.std.proofs.Common.{◌∙◌, ◌++◌, ◌∷◌, [], slice_get, subst, sym, ap, arith, rules}
use Rattle.std.specs.Prelude.{ℕ, ◌+◌, List, All, IfSome, false, true}
use Rattle.cat_scope.specs.Names.{IsOneOf}
use Rattle.cat_guard.specs.Judgements.{atoms_in}
use Rattle.cat_guard.specs.declared.table.TableTarget.{TableTarget}
use Rattle.cat_guard.specs.declared.tree.TreeNode.TheVariants as node
use Rattle.cat_guard.specs.Trees as tree
use Rattle.cat_guard.specs.Trees.{tree_of}
use Rattle.cat_search.specs.Searched.{everything, roomy}
use Rattle.cat_search.proofs.LawLemmas.{closed_found}
use Rattle.cat_search.specs.inside.Underway.{IsUnderway, IsTurned, IsComplete, begun}
use Rattle.cat_search.specs.inside.ToCome.{in_front, leaf_nodes, rest_nodes}
use Rattle.cat_search.proofs.TreeLemmas.{is_tree_of, leaves_made, rests_made, whole_of, part_of}
use Rattle.cat_region.specs.Sides.{Turns}
use Rattle.cat_guard.proofs.Exported.{both_some}
use Rattle.cat_guard.specs.Levels.{AreLiveTo}
use Rattle.cat_search.proofs.TargetLemmas.{if_some, target_at}
use Rattle.cat_search.proofs.UnderwayLemmas.{begins, complete_is_tree, complete_found, complete_is_back}
use Rattle.cat_search.proofs.TargetLemmas.{all_at, some_target}
use Rattle.cat_search.proofs.UnderwayLemmas.{nothing_begins}
use Rattle.cat_search.proofs.CellLemmas.{StaysWithin}
use Rattle.cat_search.proofs.searched.search_in.Goals as goal

-- a tree of one leaf
pub into_parts-tree-requires : goal.into_parts-tree-requires
into_parts-tree-requires c =
    let begins_so = c.new-searching.ensures ∙ ap begun c.requires.whole in
    let nodes = c.in_ok-push.ensures.ok ∙ ap (λ s. s.nodes ++ node.Leaf ∷ []) begins_so in
    is_tree_of c.push.new.self c.new-searching.result.depth tree.Leaf (ap (λ ns. in_front ns []) nodes)
    (sym (ap (λ s. s.depth) begins_so))

pub loop-init : goal.loop-init
loop-init c =
    let table = c.args.table.now in
    let begins_so = c.new-searching.ensures ∙ ap begun c.requires.whole in
    record {
      underway = some_target (slice_get table.targets c.args.target) (λ t. begins table.terms table.atoms t
          c.new-searching.result begins_so (c.is_empty.ensures.inhabited c.if-is_empty.false));
      live = if_some (slice_get table.targets c.args.target) c.in_ok-levels.ensures (λ t is are.
          are table.atoms c.new-searching.result.region);
      leaves = ap (λ s. leaf_nodes s.nodes) begins_so;
      rests = ap (λ s. rest_nodes s.nodes) begins_so;
    }

pub into_parts-tree-requires-then-not-turn : goal.into_parts-tree-requires-then-not-turn
into_parts-tree-requires-then-not-turn c =
    let table = c.args.table.now in
    let one = target_at (λ t. IsUnderway table.terms table.atoms t false c.to_leaf.new.self) table.targets c.args.target
    c.requires.target c.in_ok-to_leaf.ensures.underway in
    complete_is_tree table.terms table.atoms one.0 c.turn.new.self
    (subst (λ b. IsTurned table.terms table.atoms one.0 b c.turn.new.self) c.if-not-turn.true
    (c.turn.ensures.turned table.terms table.atoms one.0 (sym c.len-room.ensures) one.2))

pub returns-then-not-turn-clause-found : goal.returns-then-not-turn-clause-found
returns-then-not-turn-clause-found c some =
    let table = c.args.table.now in
    let s = c.turn.new.self in
    let parts = c.into_parts-tree-then-not-turn in
    let within = c.loop-test.true in
    let leaves = ap leaf_nodes c.turn.ensures.nodes ∙ c.in_ok-to_leaf.ensures.leaves in
    let before = c.loop.invariant.leaves in
    let rests = ap rest_nodes c.turn.ensures.nodes ∙ c.in_ok-to_leaf.ensures.rests ∙ c.loop.invariant.rests in
    if_some (slice_get table.targets c.args.target) c.in_ok-to_leaf.ensures.underway (λ t is u.
    let complete : IsComplete table.terms table.atoms t s =
    subst (λ b. IsTurned table.terms table.atoms t b s) c.if-not-turn.true
    (c.turn.ensures.turned table.terms table.atoms t (sym c.len-room.ensures) u) in
    let made = leaves_made s.nodes complete.written.tree complete.written.tree_is in (
      complete.written.tree,
      complete_found table.terms table.atoms t s complete parts.result.0.nodes parts.result.1 parts.ensures.tree
          parts.ensures.bad,
      whole_of complete.written.tree (rests_made s.nodes complete.written.tree complete.written.tree_is ∙ rests),
      omega (arith, made, leaves, before, within),
    ))

pub into_parts-tree-requires-2 : goal.into_parts-tree-requires-2
into_parts-tree-requires-2 c =
    let table = c.args.table.now in
    let one = target_at (λ t. IsComplete table.terms table.atoms t c.rests.new.self) table.targets c.args.target
    c.requires.target c.in_ok-rests.ensures.complete in
    complete_is_tree table.terms table.atoms one.0 c.rests.new.self one.2

pub returns-clause-found : goal.returns-clause-found
returns-clause-found c some =
    let table = c.args.table.now in
    let s = c.rests.new.self in
    let parts = c.into_parts-tree-2 in
    let past = c.loop-test.false in
    let within = c.loop.auto.counter-end in
    let leaves = c.in_ok-rests.ensures.leaves in
    let before = c.loop.invariant.leaves in
    let rests = c.in_ok-rests.ensures.rests in
    if_some (slice_get table.targets c.args.target) c.in_ok-rests.ensures.complete (λ t is complete.
    let made = leaves_made s.nodes complete.written.tree complete.written.tree_is in
    let left = rests_made s.nodes complete.written.tree complete.written.tree_is in (
      complete.written.tree,
      complete_found table.terms table.atoms t s complete parts.result.0.nodes parts.result.1 parts.ensures.tree
          parts.ensures.bad,
      part_of complete.written.tree (omega (arith, left, rests)),
      omega (arith, made, leaves, before, within, past),
    ))

pub to_leaf-requires-clause-order : goal.to_leaf-requires-clause-order
to_leaf-requires-clause-order c =
    let table = c.args.table.now in
    subst (λ (xs : List ℕ). IfSome (slice_get table.targets c.args.target)
    (λ t. All (λ (a : ℕ). IsOneOf a (atoms_in t)) xs)) (sym c.as_slice.ensures) c.in_ok-order.ensures

pub returns-then-not-turn-clause-closed : goal.returns-then-not-turn-clause-closed
returns-then-not-turn-clause-closed c =
    let table = c.args.table.now in
    let s = c.turn.new.self in
    let parts = c.into_parts-tree-then-not-turn in
    let rests = ap rest_nodes c.turn.ensures.nodes ∙ c.in_ok-to_leaf.ensures.rests ∙ c.loop.invariant.rests in
    if_some (slice_get table.targets c.args.target) c.in_ok-to_leaf.ensures.underway (λ t is u.
    let complete : IsComplete table.terms table.atoms t s =
    subst (λ b. IsTurned table.terms table.atoms t b s) c.if-not-turn.true
    (c.turn.ensures.turned table.terms table.atoms t (sym c.len-room.ensures) u) in
    let found = complete_found table.terms table.atoms t s complete parts.result.0.nodes parts.result.1
    parts.ensures.tree parts.ensures.bad in
    closed_found table.terms table.atoms table.targets (search rules) c.trees_without_bad_leaves_are_closed.ensures
    c.args.target t is parts.result.0.nodes parts.result.1 complete.written.tree found
    (whole_of complete.written.tree (rests_made s.nodes complete.written.tree complete.written.tree_is ∙ rests)))

pub returns-then-is_empty-clause-closed : goal.returns-then-is_empty-clause-closed
returns-then-is_empty-clause-closed c =
    let table = c.args.table.now in
    let begins_so = c.new-searching.ensures ∙ ap begun c.requires.whole in
    let parts = c.into_parts-tree in
    let nodes = parts.ensures.tree ∙ c.in_ok-push.ensures.ok ∙ ap (λ s. s.nodes ++ node.Leaf ∷ []) begins_so in
    some_target (slice_get table.targets c.args.target) (λ (t : TableTarget). λ none. (
      tree.Leaf,
      ap tree_of nodes,
      c.empty_regions_close_each_tree.ensures table.atoms t (everything table.terms) tree.Leaf
          (nothing_begins table.terms table.atoms t c.new-searching.result begins_so
          (c.is_empty.ensures.empty c.if-is_empty.true)),
    ))

pub returns-clause-spent : goal.returns-clause-spent
returns-clause-spent c =
    let table = c.args.table.now in
    let s = c.rests.new.self in
    let past = c.loop-test.false in
    let within = c.loop.auto.counter-end in
    let leaves = c.in_ok-rests.ensures.leaves in
    let before = c.loop.invariant.leaves in
    let rests = c.in_ok-rests.ensures.rests in
    if_some (slice_get table.targets c.args.target) c.in_ok-rests.ensures.complete (λ t is complete.
    let made = leaves_made s.nodes complete.written.tree complete.written.tree_is in
    let left = rests_made s.nodes complete.written.tree complete.written.tree_is in
    let most = all_at (StaysWithin table.terms table.atoms) table.targets c.args.target t
    c.searched_trees_stay_within_the_cells.ensures is complete.written.tree complete.written.searched in
    omega (arith, made, left, most, leaves, before, within, past, rests))

pub loop-preserved : goal.loop-preserved
loop-preserved c =
    let table = c.args.table.now in
    let target = slice_get table.targets c.args.target in
    let s = c.turn.new.self in
    record {
      underway = if_some target c.in_ok-to_leaf.ensures.underway (λ t is u.
          subst (λ b. IsTurned table.terms table.atoms t b s) c.if-not-turn.false
          (c.turn.ensures.turned table.terms table.atoms t (sym c.len-room.ensures) u));
      live = if_some target (both_some (λ t. IsUnderway table.terms table.atoms t false c.to_leaf.new.self)
          (λ t. AreLiveTo table.atoms t c.to_leaf.new.self.region c.to_leaf.new.levels) target
          c.in_ok-to_leaf.ensures.underway c.in_ok-to_leaf.ensures.live)
          (λ t is both. c.back_to.ensures table.atoms t (roomy table.terms table.atoms) c.to_leaf.new.self.region
          both.0.path both.0.at
          (subst (λ b. Turns (roomy table.terms table.atoms) both.0.path b s.region) c.if-not-turn.false
          (c.turn.ensures.way table.terms table.atoms t (sym c.len-room.ensures) both.0)) both.1);
      leaves = ap leaf_nodes c.turn.ensures.nodes ∙ c.in_ok-to_leaf.ensures.leaves
          ∙ ap (λ n. n + 1) c.loop.invariant.leaves;
      rests = ap rest_nodes c.turn.ensures.nodes ∙ c.in_ok-to_leaf.ensures.rests ∙ c.loop.invariant.rests;
    }

pub returns-then-is_empty-clause-back : goal.returns-then-is_empty-clause-back
returns-then-is_empty-clause-back c =
    c.into_parts-tree.ensures.region ∙ ap (λ s. s.region) c.new-searching.ensures

pub returns-then-not-turn-clause-back : goal.returns-then-not-turn-clause-back
returns-then-not-turn-clause-back c =
    let table = c.args.table.now in
    let one = target_at (λ t. IsUnderway table.terms table.atoms t false c.to_leaf.new.self) table.targets c.args.target
    c.requires.target c.in_ok-to_leaf.ensures.underway in
    c.into_parts-tree-then-not-turn.ensures.region
    ∙ complete_is_back table.terms table.atoms one.0 c.turn.new.self
    (subst (λ b. IsTurned table.terms table.atoms one.0 b c.turn.new.self) c.if-not-turn.true
    (c.turn.ensures.turned table.terms table.atoms one.0 (sym c.len-room.ensures) one.2))
    ∙ sym c.requires.whole

pub returns-clause-back : goal.returns-clause-back
returns-clause-back c =
    let table = c.args.table.now in
    let one = target_at (λ t. IsComplete table.terms table.atoms t c.rests.new.self) table.targets c.args.target
    c.requires.target c.in_ok-rests.ensures.complete in
    c.into_parts-tree-2.ensures.region ∙ complete_is_back table.terms table.atoms one.0 c.rests.new.self one.2
    ∙ sym c.requires.whole
