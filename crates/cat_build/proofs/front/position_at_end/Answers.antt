use Rattle.std.proofs.Common.{◌∙◌, sym}
use Rattle.cat_build.proofs.FrontSteps.{end_is}
use Rattle.cat_build.proofs.front.position_at_end.Goals as goal

pub returns-in-Some : goal.returns-in-Some
returns-in-Some c =
    c.position_behind.ensures ∙ sym (end_is c.args.pieces.now c.in-Some.piece.now c.in-Some.ensures.value)
