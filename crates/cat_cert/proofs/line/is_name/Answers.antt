use Rattle.std.proofs.Common.{sym, rules}
use Rattle.cat_cert.proofs.TextReadLemmas.{name_found, no_name}
use Rattle.cat_cert.proofs.line.is_name.Goals as goal

pub returns-in-Some : goal.returns-in-Some
returns-in-Some c = name_found c.args.line.now c.in-Some.found c.args.name (search rules) (sym c.in-Some.ensures)

pub returns-in-None : goal.returns-in-None
returns-in-None c = no_name c.args.line.now c.args.name (search rules) (sym c.in-None.ensures)
