use Rattle.std.proofs.Common.{rules, ◌≡◌, ◌∙◌, ◌∷◌, true, refl, sym, IsTrue, List, length, slice_get, subst}
use Rattle.cat_guard.specs.declared.tree.TreeNode.{TreeNode}
use Rattle.cat_guard.proofs.Exported.{if_some}
use Rattle.cat_search.specs.declared.way.Answer.{Answer}
use Rattle.cat_search.specs.Ways.{ask_below, passed, turned}
use Rattle.cat_table.specs.Rows.{answered}
use Rattle.cat_table.specs.inside.Walking.{GoesOn, IsOn, path_of, whole_of}
use Rattle.cat_table.proofs.WalkLemmas.{last_below, on_down, on_over, room_left}
use Rattle.cat_table.proofs.walking.move_on.Goals as goal

pub keep_live-requires-clause-atom : goal.keep_live-requires-clause-atom
keep_live-requires-clause-atom c =
    let bound = length c.args.here.now.table.now.atoms in
    last_below bound c.in-Split.atom c.args.way.now
    (subst (λ (n : TreeNode). IsTrue (ask_below bound (passed n c.args.way.now))) c.in-Split.is c.requires.asked)

pub answer_atom-requires-clause-atom : goal.answer_atom-requires-clause-atom
answer_atom-requires-clause-atom c =
    let bound = length c.args.here.now.table.now.atoms in
    last_below bound c.in-Split.atom c.args.way.now
    (subst (λ (n : TreeNode). IsTrue (ask_below bound (passed n c.args.way.now))) c.in-Split.is c.requires.asked)

pub answer_atom-requires-clause-dims : goal.answer_atom-requires-clause-dims
answer_atom-requires-clause-dims c = c.requires.on.here.dims

pub keep_live-requires-clause-dims : goal.keep_live-requires-clause-dims
keep_live-requires-clause-dims c = c.requires.on.here.dims

pub keep_live-requires-clause-live : goal.keep_live-requires-clause-live
keep_live-requires-clause-live c = c.requires.on.live

pub answer_atom-requires-clause-room : goal.answer_atom-requires-clause-room
answer_atom-requires-clause-room c =
    let table = c.args.here.now.table.now in
    room_left table.terms table.atoms c.args.room c.args.way.now c.args.region.now c.requires.on.here c.requires.few

pub returns-in_ok-keep_live-in-Split-clause-on : goal.returns-in_ok-keep_live-in-Split-clause-on
returns-in_ok-keep_live-in-Split-clause-on c =
    let table = c.args.here.now.table.now in
    let bound = length table.atoms in
    let a = c.in-Split.atom in
    let further : c.go_on.new.self ≡ answered a true ∷ c.args.way.now =
    subst (λ (n : TreeNode). c.go_on.new.self ≡ passed n c.args.way.now) c.in-Split.is c.in_ok-go_on.ensures in
    subst (λ (w : List Answer). IsOn table c.args.target c.args.room w c.answer_atom.new.region c.keep_live.new.levels)
    (sym further) (on_down table c.args.target c.args.room c.args.way.now c.args.region.now c.answer_atom.new.region
    c.args.levels.now c.keep_live.new.levels c.requires.on a
    (subst (λ (n : TreeNode). IsTrue (ask_below bound (passed n c.args.way.now))) c.in-Split.is c.requires.asked)
    c.answer_atom.ensures.dims c.answer_atom.ensures.narrowings c.answer_atom.ensures.room
    (if_some (slice_get table.targets c.args.target) c.in_ok-keep_live-in-Split.ensures
    (λ t are. c.answer_atom.ensures.live t c.keep_live.new.levels are)))

pub returns-in-Leaf : goal.returns-in-Leaf
returns-in-Leaf c =
    let table = c.args.here.now.table.now in
    let base = whole_of table.terms c.args.room in
    let path = path_of table.atoms c.args.way.now in
    let next = c.to_next_side.new.region in
    let levels = c.to_next_side.new.levels in
    let over : passed c.args.node c.args.way.now ≡ turned c.args.way.now = search rules in
    record {
      way = c.in_ok-go_on.ensures;
      on = subst (λ (w : List Answer). GoesOn table c.args.target c.args.room w next levels c.to_next_side.result)
          (sym (c.in_ok-go_on.ensures ∙ over))
          (on_over table c.args.target c.args.room c.args.way.now c.args.region.now next c.args.levels.now levels
          c.requires.on c.to_next_side.result (c.to_next_side.ensures.turns base path refl c.requires.on.here)
          (λ more. if_some (slice_get table.targets c.args.target) c.requires.on.live (λ t are.
          c.to_next_side.ensures.live base path table.atoms t refl c.requires.on.here more are)));
    }
