use Rattle.std.proofs.Common.{◌∙◌, sym}
use lib.Pointwise.{pointwise_decides}
use Rattle.cat_verify_shapes.proofs.LoopTests.{loops_decided}
use Rattle.cat_verify_shapes.proofs.alike.same_loops.Goals as goal

pub returns : goal.returns
returns c =
    let both = pointwise_decides loops_decided c.args.left.now c.args.right.now in
    (λ so. both.0 (sym c.eq.ensures ∙ so), λ same. c.eq.ensures ∙ both.1 same)
