use Rattle.cat_num.proofs.TextLaws.{read_fraction-decimal_bytes}
use Rattle.cat_num.proofs.laws.fractions_read_back.Goals as goal

pub returns : goal.returns
returns c = read_fraction-decimal_bytes c.args.f c.den.ensures.reduced
