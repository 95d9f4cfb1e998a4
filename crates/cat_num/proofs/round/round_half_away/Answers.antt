use Rattle.std.proofs.Common.{arith}
use Rattle.std.proofs.lemmas.Int.{to_z-of_z}
use Rattle.cat_num.proofs.Rounds.{Fits-rounded}
use Rattle.cat_num.proofs.round.round_half_away.Goals as goal

pub within-requires : goal.within-requires
within-requires c = let fits = Fits-rounded c.args.f.num c.args.f.den c.den.ensures.reduced.positive
    c.den.ensures.reduced.num_fits in grind (arith, to_z-of_z)
