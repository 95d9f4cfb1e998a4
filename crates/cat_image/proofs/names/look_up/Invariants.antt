use Rattle.std.proofs.Common.{◌≡◌, drop}
use Rattle.cat_image.specs.inside.Names.{look_up, spelled}
use Rattle.cat_image.proofs.names.look_up.Given as goal

abbrev pub invariant-loop-text : goal.invariant-loop-text
invariant-loop-text g l =
    look_up (spelled (drop l.text-index l.table)) l.spelling ≡ look_up (spelled l.table) l.spelling
