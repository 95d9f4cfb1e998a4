use Rattle.std.proofs.Common.{◌∙◌, ap}
use Rattle.cat_table.specs.Leaves.{leaves_among}
use Rattle.cat_table.proofs.TableLemmas.{leaves_counted}
use Rattle.cat_table.proofs.leaves.leaves_in.Goals as goal

pub returns : goal.returns
returns c =
    let tree = c.args.tree.now in
    c.leaves_among.ensures ∙ ap leaves_among c.as_slice.ensures ∙ leaves_counted tree.nodes tree.depth tree.sound
