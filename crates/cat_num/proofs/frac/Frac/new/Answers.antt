use Rattle.std.proofs.Common.{◌≡◌, sym, ◌∙◌, arith}
use Rattle.std.proofs.lemmas.Int.{to_z-of_z}
use Rattle.cat_num.specs.Frac.{frac_of}
use Rattle.cat_num.proofs.Fracs.{frac_of-fits}
use Rattle.cat_num.proofs.frac.Frac.new.Goals as goal

pub returns-then-den-lt0-clause-fits : goal.returns-then-den-lt0-clause-fits
returns-then-den-lt0-clause-fits c p q e =
    let value : c.reduce.result ≡ frac_of c.args.num c.args.den = grind (arith, to_z-of_z) in
    frac_of-fits c.args.num c.args.den p q (sym value ∙ e)

pub returns-else-den-lt0-clause-fits : goal.returns-else-den-lt0-clause-fits
returns-else-den-lt0-clause-fits c p q e =
    let value : c.reduce-else-den-lt0.result ≡ frac_of c.args.num c.args.den = grind (arith, to_z-of_z) in
    frac_of-fits c.args.num c.args.den p q (sym value ∙ e)
