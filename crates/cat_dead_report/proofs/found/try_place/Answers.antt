use Rattle.std.proofs.Common.{◌≡◌, ◌≤◌, true, Some, IfSome, length, set, slice_get, refl, subst}
use Rattle.std.proofs.lemmas.Option.{slice_get_read}
use Rattle.cat_dead_report.specs.declared.found.Known.{Known}
use Rattle.cat_dead_report.specs.RunLines.{weight_of}
use Rattle.cat_dead_report.specs.inside.Knowing.{default_weight}
use Rattle.cat_dead_report.specs.inside.WonLeaves.{led}
use Rattle.cat_dead_report.proofs.KnownLemmas.{placed_tried}
use Rattle.cat_dead_report.proofs.found.try_place.Goals as goal

pub try_leaf-requires-clause-default : goal.try_leaf-requires-clause-default
try_leaf-requires-clause-default c =
    let here = c.args.here.now in
    let items = c.args.known.now.items in
    let old = c.index_mut.result.now in
    let at : slice_get items c.args.won.place ≡ Some old =
    slice_get_read items (length items) c.args.won.place old refl c.requires.place c.index_mut.ensures.value in
    subst (λ o. IfSome o (λ (k : Known). k.on_default ≡ true
    → default_weight here.program.now here.table.now here.target.now c.args.won.pos ≤ weight_of k.line)) at
    c.requires.default

pub returns : goal.returns
returns c =
    let here = c.args.here.now in
    let items = c.args.known.now.items in
    let old = c.index_mut.result.now in
    let new = c.try_leaf.new.known in
    let at : slice_get items c.args.won.place ≡ Some old =
    slice_get_read items (length items) c.args.won.place old refl c.requires.place c.index_mut.ensures.value in
    placed_tried here.program.now here.table.now here.target.now c.args.won (led here.table.now c.args.way.now) items
    (set items c.args.won.place new) old new at refl c.try_leaf.result c.try_leaf.ensures
