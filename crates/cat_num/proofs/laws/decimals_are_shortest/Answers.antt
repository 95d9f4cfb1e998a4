use Rattle.cat_num.proofs.Places.{HasFewestPlaces-of_IsReduced}
use Rattle.cat_num.proofs.laws.decimals_are_shortest.Goals as goal

pub returns : goal.returns
returns c = HasFewestPlaces-of_IsReduced c.args.f c.den.ensures.reduced
