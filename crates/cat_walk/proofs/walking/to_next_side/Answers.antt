use Rattle.std.proofs.Common.{subst}
use Rattle.cat_region.specs.Sides.{Turns}
use Rattle.cat_walk.proofs.walking.to_next_side.Goals as goal

pub returns-clause-live : goal.returns-clause-live
returns-clause-live c base path atoms t room at so are =
    c.back_to.ensures atoms t base c.args.region.now path at
    (subst (λ b. Turns base path b c.to_false_side.new.region) c.if-not-to_false_side.false
    (c.to_false_side.ensures.turns base path room at)) are
