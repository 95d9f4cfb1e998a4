use Rattle.std.proofs.Common.{◌∙◌, sym}
use Rattle.cat_verify_shapes.proofs.LoopTests.{owners_decided}
use Rattle.cat_verify_shapes.proofs.alike.same_owner.Goals as goal

pub returns : goal.returns
returns c =
    let both = owners_decided c.args.left c.args.right in
    (λ so. both.0 (sym c.eq.ensures ∙ so), λ same. c.eq.ensures ∙ both.1 same)
