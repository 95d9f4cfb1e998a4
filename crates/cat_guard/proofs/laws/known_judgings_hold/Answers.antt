use Rattle.std.proofs.Common.{rules}
use Rattle.cat_guard.proofs.TableLaws.{known_of_tables}
use Rattle.cat_guard.proofs.laws.known_judgings_hold.Goals as goal

pub returns : goal.returns
returns c = known_of_tables c.args.table.now.terms c.args.table.now.atoms c.args.table.now.targets (search rules)
