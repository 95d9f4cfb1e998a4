use Rattle.cat_num.proofs.TextLaws.{read_fraction-money_bytes}
use Rattle.cat_num.proofs.laws.amounts_read_back.Goals as goal

pub returns : goal.returns
returns c = read_fraction-money_bytes c.args.m c.get.ensures.fits
