use Rattle.std.proofs.Common.{arith}
use Rattle.cat_date.proofs.TextLemmas.{form_is, day_digits}
use Rattle.cat_date.proofs.text.read_day.Goals as goal

pub decimal-requires-3-clause-digits : goal.decimal-requires-3-clause-digits
decimal-requires-3-clause-digits c = day_digits c.args.text.now (form_is c.args.text.now (grind arith))
