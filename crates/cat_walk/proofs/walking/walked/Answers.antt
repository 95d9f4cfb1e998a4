use Rattle.std.proofs.Common.{◌≡◌, ◌∷◌, ◌++◌, ◌<◌, ◌∙◌, length, slice_get, rules, sym, subst, List}
use Rattle.cat_walk.specs.declared.meeting.Met.{Met}
use Rattle.cat_walk.specs.declared.meeting.Met.TheVariants as met
use Rattle.cat_region.specs.Sides.{Turns}
use Rattle.cat_guard.specs.Trees.{expanded}
use Rattle.cat_guard.proofs.Exported.{sound_atoms, if_some}
use Rattle.cat_walk.specs.LeafPlaces.{lists_of, leaf_places}
use Rattle.cat_walk.specs.inside.Meetings.{met_in_list, to_come}
use Rattle.cat_walk.proofs.SkipLemmas.{named_passed}
use Rattle.cat_walk.proofs.WalkLemmas.{ToldOf, GoesOn, walkable_earlier, walkable_makes, tree_begins, flag_is, told_of}
use Rattle.cat_walk.proofs.WalkLemmas.{goes_down, goes_in, goes_over, split_atom, split_room, not_covered}
use Rattle.cat_walk.proofs.WalkLemmas.{all_covered, leaf_passed}
use Rattle.cat_walk.proofs.walking.walked.Goals as goal

pub loop-levels-init : goal.loop-levels-init
loop-levels-init c =
    let atoms = c.args.table.now.atoms in
    let o = slice_get c.args.table.now.targets c.args.target in
    let base = c.args.region.now in
    let tree = c.args.tree.now in
    record {
      walk = subst (λ ps. GoesOn atoms o base (ToldOf atoms o base tree) base (to_come (lists_of tree) ps))
          (sym c.in_ok-places.ensures) (tree_begins atoms o base tree c.requires.tree);
      live = if_some o c.in_ok-levels.ensures (λ t live. live atoms base);
    }

pub next-requires : goal.next-requires
next-requires c = walkable_earlier c.args.tree.now _ _ c.requires.tree

pub loop-levels-preserved-in-Split : goal.loop-levels-preserved-in-Split
loop-levels-preserved-in-Split c =
    let atoms = c.args.table.now.atoms in
    let o = slice_get c.args.table.now.targets c.args.target in
    let base = c.args.region.now in
    let tree = c.args.tree.now in
    let before : to_come (lists_of tree) c.loop-levels.places
    ≡ met.Split c.in-Split.atom ∷ to_come (lists_of tree) c.next.new.places = search rules in
    let walk = subst (λ (ms : List Met). GoesOn atoms o base (ToldOf atoms o base tree) c.loop-levels.region ms) before
    c.loop-levels.invariant.walk in
    record {
      walk = goes_down atoms o base (ToldOf atoms o base tree) c.loop-levels.region c.in-Split.atom
          (to_come (lists_of tree) c.next.new.places) walk c.answer_atom.new.region c.answer_atom.ensures.dims
          c.answer_atom.ensures.narrowings c.answer_atom.ensures.room;
      live = if_some o c.in_ok-keep_live-in-Split.ensures
          (λ t are. c.answer_atom.ensures.live t c.keep_live.new.levels are);
    }

pub returns-then-uncovered-clause-first : goal.returns-then-uncovered-clause-first
returns-then-uncovered-clause-first c =
    let table = c.args.table.now in
    let o = slice_get table.targets c.args.target in
    let base = c.args.region.now in
    let tree = c.args.tree.now in
    let before : to_come (lists_of tree) c.loop-levels.places
    ≡ met.Leaf c.in-Leaf.place ∷ to_come (lists_of tree) c.next.new.places = search rules in
    let walk = subst (λ (ms : List Met). GoesOn table.atoms o base (ToldOf table.atoms o base tree) c.loop-levels.region
    ms) before c.loop-levels.invariant.walk in
    let flag = flag_is table.atoms table.targets c.args.target c.requires.target c.loop-levels.region
    c.in_ok-uncovered-in-Leaf.uncovered c.in_ok-uncovered-in-Leaf.ensures in
    told_of table.atoms o base (leaf_places tree) (expanded tree) _
    (not_covered table.atoms o base (ToldOf table.atoms o base tree) c.loop-levels.region c.in-Leaf.place
    (to_come (lists_of tree) c.next.new.places) walk (sym flag ∙ c.if-uncovered.true))

pub returns-then-not-to_next_side-clause-first : goal.returns-then-not-to_next_side-clause-first
returns-then-not-to_next_side-clause-first c =
    let table = c.args.table.now in
    let o = slice_get table.targets c.args.target in
    let base = c.args.region.now in
    let tree = c.args.tree.now in
    let Told = ToldOf table.atoms o base tree in
    let after = to_come (lists_of tree) c.next.new.places in
    let before : to_come (lists_of tree) c.loop-levels.places ≡ met.Leaf c.in-Leaf.place ∷ after = search rules in
    let walk = subst (λ (ms : List Met). GoesOn table.atoms o base Told c.loop-levels.region ms) before
    c.loop-levels.invariant.walk in
    let flag = flag_is table.atoms table.targets c.args.target c.requires.target c.loop-levels.region
    c.in_ok-uncovered-in-Leaf.uncovered c.in_ok-uncovered-in-Leaf.ensures in
    let passed = leaf_passed table.atoms o base Told c.loop-levels.region c.in-Leaf.place after walk
    (sym flag ∙ c.if-uncovered.false) in
    let turned = subst (λ b. Turns base walk.path b c.to_next_side.new.region) c.if-not-to_next_side.true
    (c.to_next_side.ensures.turns base walk.path (sym c.room-room.ensures.value) walk.here) in
    told_of table.atoms o base (leaf_places tree) (expanded tree) _
    (all_covered table.atoms o base Told walk.path after passed turned.0)

pub loop-levels-preserved-else-not-to_next_side : goal.loop-levels-preserved-else-not-to_next_side
loop-levels-preserved-else-not-to_next_side c =
    let table = c.args.table.now in
    let o = slice_get table.targets c.args.target in
    let base = c.args.region.now in
    let tree = c.args.tree.now in
    let Told = ToldOf table.atoms o base tree in
    let after = to_come (lists_of tree) c.next.new.places in
    let before : to_come (lists_of tree) c.loop-levels.places ≡ met.Leaf c.in-Leaf.place ∷ after = search rules in
    let walk = subst (λ (ms : List Met). GoesOn table.atoms o base Told c.loop-levels.region ms) before
    c.loop-levels.invariant.walk in
    let flag = flag_is table.atoms table.targets c.args.target c.requires.target c.loop-levels.region
    c.in_ok-uncovered-in-Leaf.uncovered c.in_ok-uncovered-in-Leaf.ensures in
    let passed = leaf_passed table.atoms o base Told c.loop-levels.region c.in-Leaf.place after walk
    (sym flag ∙ c.if-uncovered.false) in
    let turned = subst (λ b. Turns base walk.path b c.to_next_side.new.region) c.if-not-to_next_side.false
    (c.to_next_side.ensures.turns base walk.path (sym c.room-room.ensures.value) walk.here) in
    record {
      walk = goes_over table.atoms o base Told walk.path after passed c.to_next_side.new.region turned;
      live = if_some o c.loop-levels.invariant.live (λ t are. c.to_next_side.ensures.live base walk.path table.atoms t
          (sym c.room-room.ensures.value) walk.here c.if-not-to_next_side.false are);
    }

pub enter-requires-clause-earlier : goal.enter-requires-clause-earlier
enter-requires-clause-earlier c = walkable_earlier c.args.tree.now _ _ c.requires.tree

pub loop-levels-preserved-then-not-is_empty : goal.loop-levels-preserved-then-not-is_empty
loop-levels-preserved-then-not-is_empty c =
    let table = c.args.table.now in
    let o = slice_get table.targets c.args.target in
    let base = c.args.region.now in
    let tree = c.args.tree.now in
    let Told = ToldOf table.atoms o base tree in
    let after = to_come (lists_of tree) c.next.new.places in
    let before : to_come (lists_of tree) c.loop-levels.places
    ≡ met.Cite c.in-Cite.name ∷ met_in_list (lists_of tree) c.in-Cite.name ++ after = search rules in
    let walk = subst (λ (ms : List Met). GoesOn table.atoms o base Told c.loop-levels.region ms) before
    c.loop-levels.invariant.walk in
    record {
      walk = subst (λ (ms : List Met). GoesOn table.atoms o base Told c.loop-levels.region ms)
          (sym c.in_ok-enter-in-Cite.ensures) (goes_in table.atoms o base Told c.loop-levels.region c.in-Cite.name
          (met_in_list (lists_of tree) c.in-Cite.name ++ after) walk);
      live = c.loop-levels.invariant.live;
    }

pub keep_live-requires-clause-atom : goal.keep_live-requires-clause-atom
keep_live-requires-clause-atom c =
    let atoms = c.args.table.now.atoms in
    let o = slice_get c.args.table.now.targets c.args.target in
    let base = c.args.region.now in
    let tree = c.args.tree.now in
    let before : to_come (lists_of tree) c.loop-levels.places
    ≡ met.Split c.in-Split.atom ∷ to_come (lists_of tree) c.next.new.places = search rules in
    split_atom atoms o base (ToldOf atoms o base tree) c.loop-levels.region c.in-Split.atom
    (to_come (lists_of tree) c.next.new.places)
    (subst (λ (ms : List Met). GoesOn atoms o base (ToldOf atoms o base tree) c.loop-levels.region ms) before
    c.loop-levels.invariant.walk)

pub answer_atom-requires-clause-atom : goal.answer_atom-requires-clause-atom
answer_atom-requires-clause-atom c =
    let atoms = c.args.table.now.atoms in
    let o = slice_get c.args.table.now.targets c.args.target in
    let base = c.args.region.now in
    let tree = c.args.tree.now in
    let before : to_come (lists_of tree) c.loop-levels.places
    ≡ met.Split c.in-Split.atom ∷ to_come (lists_of tree) c.next.new.places = search rules in
    split_atom atoms o base (ToldOf atoms o base tree) c.loop-levels.region c.in-Split.atom
    (to_come (lists_of tree) c.next.new.places)
    (subst (λ (ms : List Met). GoesOn atoms o base (ToldOf atoms o base tree) c.loop-levels.region ms) before
    c.loop-levels.invariant.walk)

pub answer_atom-requires-clause-room : goal.answer_atom-requires-clause-room
answer_atom-requires-clause-room c =
    let atoms = c.args.table.now.atoms in
    let o = slice_get c.args.table.now.targets c.args.target in
    let base = c.args.region.now in
    let tree = c.args.tree.now in
    let before : to_come (lists_of tree) c.loop-levels.places
    ≡ met.Split c.in-Split.atom ∷ to_come (lists_of tree) c.next.new.places = search rules in
    split_room atoms o base (ToldOf atoms o base tree) c.loop-levels.region c.in-Split.atom
    (to_come (lists_of tree) c.next.new.places)
    (subst (λ (ms : List Met). GoesOn atoms o base (ToldOf atoms o base tree) c.loop-levels.region ms) before
    c.loop-levels.invariant.walk)

pub keep_live-requires-clause-dims : goal.keep_live-requires-clause-dims
keep_live-requires-clause-dims c = c.loop-levels.invariant.walk.here.dims ∙ c.requires.dims

pub answer_atom-requires-clause-dims : goal.answer_atom-requires-clause-dims
answer_atom-requires-clause-dims c = c.loop-levels.invariant.walk.here.dims ∙ c.requires.dims

pub is_uncovered-requires-clause-dims : goal.is_uncovered-requires-clause-dims
is_uncovered-requires-clause-dims c = c.loop-levels.invariant.walk.here.dims ∙ c.requires.dims

pub returns-then-not-to_next_side-2-clause-first : goal.returns-then-not-to_next_side-2-clause-first
returns-then-not-to_next_side-2-clause-first c =
    let table = c.args.table.now in
    let o = slice_get table.targets c.args.target in
    let base = c.args.region.now in
    let tree = c.args.tree.now in
    let Told = ToldOf table.atoms o base tree in
    let named = met_in_list (lists_of tree) c.in-Cite.name in
    let after = to_come (lists_of tree) c.next.new.places in
    let before : to_come (lists_of tree) c.loop-levels.places ≡ met.Cite c.in-Cite.name ∷ named ++ after =
    search rules in
    let walk = subst (λ (ms : List Met). GoesOn table.atoms o base Told c.loop-levels.region ms) before
    c.loop-levels.invariant.walk in
    let there : c.in-Cite.name < length (lists_of tree) = search rules in
    let makes = walkable_makes tree _ _ c.requires.tree c.in-Cite.name there in
    let passed = named_passed table.terms table.atoms (sound_atoms table.terms table.atoms table.targets (search rules))
    o base Told c.loop-levels.region c.in-Cite.name named after makes.0 makes.1 walk c.is_empty.ensures.sound
    (walk.here.dims ∙ c.requires.dims) (sym c.is_empty.ensures.value ∙ c.if-not-is_empty.false) in
    let turned = subst (λ b. Turns base walk.path b c.to_next_side-in-Cite.new.region)
    c.if-not-to_next_side-2.true
    (c.to_next_side-in-Cite.ensures.turns base walk.path (sym c.room-room.ensures.value) walk.here) in
    told_of table.atoms o base (leaf_places tree) (expanded tree) _
    (all_covered table.atoms o base Told walk.path after passed turned.0)

pub loop-levels-preserved-else-not-to_next_side-2 : goal.loop-levels-preserved-else-not-to_next_side-2
loop-levels-preserved-else-not-to_next_side-2 c =
    let table = c.args.table.now in
    let o = slice_get table.targets c.args.target in
    let base = c.args.region.now in
    let tree = c.args.tree.now in
    let Told = ToldOf table.atoms o base tree in
    let named = met_in_list (lists_of tree) c.in-Cite.name in
    let after = to_come (lists_of tree) c.next.new.places in
    let before : to_come (lists_of tree) c.loop-levels.places ≡ met.Cite c.in-Cite.name ∷ named ++ after =
    search rules in
    let walk = subst (λ (ms : List Met). GoesOn table.atoms o base Told c.loop-levels.region ms) before
    c.loop-levels.invariant.walk in
    let there : c.in-Cite.name < length (lists_of tree) = search rules in
    let makes = walkable_makes tree _ _ c.requires.tree c.in-Cite.name there in
    let passed = named_passed table.terms table.atoms (sound_atoms table.terms table.atoms table.targets (search rules))
    o base Told c.loop-levels.region c.in-Cite.name named after makes.0 makes.1 walk c.is_empty.ensures.sound
    (walk.here.dims ∙ c.requires.dims) (sym c.is_empty.ensures.value ∙ c.if-not-is_empty.false) in
    let turned = subst (λ b. Turns base walk.path b c.to_next_side-in-Cite.new.region)
    c.if-not-to_next_side-2.false
    (c.to_next_side-in-Cite.ensures.turns base walk.path (sym c.room-room.ensures.value) walk.here) in
    record {
      walk = goes_over table.atoms o base Told walk.path after passed c.to_next_side-in-Cite.new.region turned;
      live = if_some o c.loop-levels.invariant.live (λ t are. c.to_next_side-in-Cite.ensures.live base walk.path
          table.atoms t (sym c.room-room.ensures.value) walk.here c.if-not-to_next_side-2.false are);
    }
