use Rattle.std.proofs.Common.{◌≡◌, ◌∷◌, ◌++◌, ◌+◌, ◌∙◌, slice_get, drop, sym, ap, subst, List, Some}
use Rattle.std.proofs.Common.{arith, slice_index_or}
use Rattle.std.proofs.lemmas.Option.{slice_get-get_or}
use Rattle.std.proofs.lemmas.List.{drop_all}
use Rattle.cat_region.specs.Sides.{Turns}
use Rattle.cat_guard.specs.declared.table.TableTarget.{TableTarget}
use Rattle.cat_guard.specs.declared.tree.TreeNode.{TreeNode}
use Rattle.cat_guard.specs.declared.tree.TreeNode.TheVariants as node
use Rattle.cat_guard.proofs.Exported.{if_some}
use Rattle.cat_walk.proofs.Lists.{there}
use Rattle.cat_cert.proofs.Lists.{some_at}
use Rattle.cat_dead.specs.Leaves.{leaf_if}
use Rattle.cat_dead.proofs.StepLemmas.{wanted_of, told_of, walk_begins, goes_down, goes_over, all_made, split_atom}
use Rattle.cat_dead.proofs.StepLemmas.{GoesOn, Passes, split_room, node_passed, never_done, next_nodes, is_split}
use Rattle.cat_dead.proofs.walking.walked.Goals as goal

pub loop-place-init : goal.loop-place-init
loop-place-init c =
    let atoms = c.args.table.now.atoms in
    let o = slice_get c.args.table.now.targets c.args.target in
    record {
      walk = subst (GoesOn atoms o c.args.region.now (wanted_of atoms o c.args.region.now c.args.nodes.now)
          c.args.region.now 0 c.args.nodes.now) (sym c.new-leaves.ensures)
          (walk_begins atoms o c.args.region.now c.args.nodes.now c.requires.tree);
      live = if_some o c.in_ok-levels.ensures (λ t live. live atoms c.args.region.now);
    }

pub loop-place-preserved : goal.loop-place-preserved
loop-place-preserved c =
    let atoms = c.args.table.now.atoms in
    let o = slice_get c.args.table.now.targets c.args.target in
    let base = c.args.region.now in
    let nodes = c.args.nodes.now in
    let wanted = wanted_of atoms o base nodes in
    let place = c.loop-place.place in
    let n = slice_index_or nodes place (node.Split 0) in
    let at : slice_get nodes place ≡ Some n =
    slice_get-get_or nodes place (node.Split 0) c.loop-place-test.true in
    let split : n ≡ node.Split c.in-Some.atom = is_split n c.in-Some.atom c.in-Some.ensures in
    let walk = subst (λ (ns : List TreeNode). GoesOn atoms o base wanted c.loop-place.region place ns
    c.loop-place.leaves) (next_nodes nodes place n at ∙ ap (λ m. m ∷ drop (place + 1) nodes) split)
    c.loop-place.invariant.walk in
    record {
      walk = goes_down atoms o base wanted c.loop-place.region place c.in-Some.atom (drop (place + 1) nodes)
          c.loop-place.leaves walk c.answer_atom.new.region c.answer_atom.ensures.dims
          c.answer_atom.ensures.narrowings c.answer_atom.ensures.room;
      live = if_some o c.in_ok-keep_live.ensures
          (λ t are. c.answer_atom.ensures.live t c.keep_live.new.levels are);
    }

-- a node that is no split is passed
pub returns-then-not-to_next_side-clause-judged : goal.returns-then-not-to_next_side-clause-judged
returns-then-not-to_next_side-clause-judged c =
    let atoms = c.args.table.now.atoms in
    let o = slice_get c.args.table.now.targets c.args.target in
    let base = c.args.region.now in
    let nodes = c.args.nodes.now in
    let wanted = wanted_of atoms o base nodes in
    let place = c.loop-place.place in
    let n = slice_index_or nodes place (node.Split 0) in
    let rest = drop (place + 1) nodes in
    let at : slice_get nodes place ≡ Some n =
    slice_get-get_or nodes place (node.Split 0) c.loop-place-test.true in
    let walk = subst (λ (ns : List TreeNode). GoesOn atoms o base wanted c.loop-place.region place ns
    c.loop-place.leaves) (next_nodes nodes place n at) c.loop-place.invariant.walk in
    let e = there c.args.table.now.targets c.args.target c.requires.target in
    let added = some_at o e.value (λ (t : TableTarget).
    c.add_leaf.new.leaves ≡ c.loop-place.leaves ++ leaf_if atoms t c.loop-place.region place n) e.is
    c.in_ok-add_leaf.ensures in
    let passed = subst (Passes atoms o base wanted walk.path (place + 1) rest) (sym added)
    (node_passed atoms o base wanted c.loop-place.region place n rest c.loop-place.leaves walk
    (sym c.in_default.ensures) e.value e.is) in
    let turned = subst (λ b. Turns base walk.path b c.to_next_side.new.region) c.if-not-to_next_side.true
    (c.to_next_side.ensures.turns base walk.path (sym c.room-room.ensures.value) walk.here) in
    told_of atoms o base nodes c.add_leaf.new.leaves
    (all_made atoms o base wanted walk.path (place + 1) rest c.add_leaf.new.leaves passed turned.0)

pub loop-place-preserved-in_default : goal.loop-place-preserved-in_default
loop-place-preserved-in_default c =
    let atoms = c.args.table.now.atoms in
    let o = slice_get c.args.table.now.targets c.args.target in
    let base = c.args.region.now in
    let nodes = c.args.nodes.now in
    let wanted = wanted_of atoms o base nodes in
    let place = c.loop-place.place in
    let n = slice_index_or nodes place (node.Split 0) in
    let rest = drop (place + 1) nodes in
    let at : slice_get nodes place ≡ Some n =
    slice_get-get_or nodes place (node.Split 0) c.loop-place-test.true in
    let walk = subst (λ (ns : List TreeNode). GoesOn atoms o base wanted c.loop-place.region place ns
    c.loop-place.leaves) (next_nodes nodes place n at) c.loop-place.invariant.walk in
    let e = there c.args.table.now.targets c.args.target c.requires.target in
    let added = some_at o e.value (λ (t : TableTarget).
    c.add_leaf.new.leaves ≡ c.loop-place.leaves ++ leaf_if atoms t c.loop-place.region place n) e.is
    c.in_ok-add_leaf.ensures in
    let passed = subst (Passes atoms o base wanted walk.path (place + 1) rest) (sym added)
    (node_passed atoms o base wanted c.loop-place.region place n rest c.loop-place.leaves walk
    (sym c.in_default.ensures) e.value e.is) in
    let turned = subst (λ b. Turns base walk.path b c.to_next_side.new.region) c.if-not-to_next_side.false
    (c.to_next_side.ensures.turns base walk.path (sym c.room-room.ensures.value) walk.here) in
    record {
      walk = goes_over atoms o base wanted walk.path (place + 1) rest c.add_leaf.new.leaves passed
          c.to_next_side.new.region turned;
      live = if_some o c.loop-place.invariant.live (λ t are. c.to_next_side.ensures.live base walk.path atoms t
          (sym c.room-room.ensures.value) walk.here c.if-not-to_next_side.false are);
    }

pub keep_live-requires-clause-dims : goal.keep_live-requires-clause-dims
keep_live-requires-clause-dims c = c.loop-place.invariant.walk.here.dims ∙ c.requires.dims

pub answer_atom-requires-clause-dims : goal.answer_atom-requires-clause-dims
answer_atom-requires-clause-dims c = c.loop-place.invariant.walk.here.dims ∙ c.requires.dims

pub add_leaf-requires-clause-dims : goal.add_leaf-requires-clause-dims
add_leaf-requires-clause-dims c = c.loop-place.invariant.walk.here.dims ∙ c.requires.dims

pub keep_live-requires-clause-atom : goal.keep_live-requires-clause-atom
keep_live-requires-clause-atom c =
    let atoms = c.args.table.now.atoms in
    let o = slice_get c.args.table.now.targets c.args.target in
    let base = c.args.region.now in
    let nodes = c.args.nodes.now in
    let place = c.loop-place.place in
    let n = slice_index_or nodes place (node.Split 0) in
    let at : slice_get nodes place ≡ Some n =
    slice_get-get_or nodes place (node.Split 0) c.loop-place-test.true in
    split_atom atoms o base (wanted_of atoms o base nodes) c.loop-place.region place c.in-Some.atom
    (drop (place + 1) nodes) c.loop-place.leaves
    (subst (λ (ns : List TreeNode). GoesOn atoms o base (wanted_of atoms o base nodes) c.loop-place.region
    place ns c.loop-place.leaves) (next_nodes nodes place n at
    ∙ ap (λ m. m ∷ drop (place + 1) nodes) (is_split n c.in-Some.atom c.in-Some.ensures)) c.loop-place.invariant.walk)

pub answer_atom-requires-clause-atom : goal.answer_atom-requires-clause-atom
answer_atom-requires-clause-atom c =
    let atoms = c.args.table.now.atoms in
    let o = slice_get c.args.table.now.targets c.args.target in
    let base = c.args.region.now in
    let nodes = c.args.nodes.now in
    let place = c.loop-place.place in
    let n = slice_index_or nodes place (node.Split 0) in
    let at : slice_get nodes place ≡ Some n =
    slice_get-get_or nodes place (node.Split 0) c.loop-place-test.true in
    split_atom atoms o base (wanted_of atoms o base nodes) c.loop-place.region place c.in-Some.atom
    (drop (place + 1) nodes) c.loop-place.leaves
    (subst (λ (ns : List TreeNode). GoesOn atoms o base (wanted_of atoms o base nodes) c.loop-place.region
    place ns c.loop-place.leaves) (next_nodes nodes place n at
    ∙ ap (λ m. m ∷ drop (place + 1) nodes) (is_split n c.in-Some.atom c.in-Some.ensures)) c.loop-place.invariant.walk)

pub answer_atom-requires-clause-room : goal.answer_atom-requires-clause-room
answer_atom-requires-clause-room c =
    let atoms = c.args.table.now.atoms in
    let o = slice_get c.args.table.now.targets c.args.target in
    let base = c.args.region.now in
    let nodes = c.args.nodes.now in
    let place = c.loop-place.place in
    let n = slice_index_or nodes place (node.Split 0) in
    let at : slice_get nodes place ≡ Some n =
    slice_get-get_or nodes place (node.Split 0) c.loop-place-test.true in
    split_room atoms o base (wanted_of atoms o base nodes) c.loop-place.region place c.in-Some.atom
    (drop (place + 1) nodes) c.loop-place.leaves
    (subst (λ (ns : List TreeNode). GoesOn atoms o base (wanted_of atoms o base nodes) c.loop-place.region
    place ns c.loop-place.leaves) (next_nodes nodes place n at
    ∙ ap (λ m. m ∷ drop (place + 1) nodes) (is_split n c.in-Some.atom c.in-Some.ensures)) c.loop-place.invariant.walk)

-- the nodes end with the tree
pub returns-clause-judged : goal.returns-clause-judged
returns-clause-judged c =
    let atoms = c.args.table.now.atoms in
    let o = slice_get c.args.table.now.targets c.args.target in
    let base = c.args.region.now in
    let nodes = c.args.nodes.now in
    let place = c.loop-place.place in
    let test = c.loop-place-test.false in
    let wanted = wanted_of atoms o base nodes in
    absurd (never_done atoms o base wanted c.loop-place.region place c.loop-place.leaves
    (subst (λ (ns : List TreeNode). GoesOn atoms o base wanted c.loop-place.region place ns c.loop-place.leaves)
    (drop_all place nodes (omega (arith, test))) c.loop-place.invariant.walk))
