use Rattle.std.proofs.Common.{sym}
use Rattle.cat_declare.proofs.OneMore.{first_of, none_first}
use Rattle.cat_declare.proofs.reply.clear.Goals as goal

pub returns-in-Some : goal.returns-in-Some
returns-in-Some c = first_of c.args.faults.now c.in-Some.fault.now (sym c.in-Some.ensures.value)

pub returns-in-None : goal.returns-in-None
returns-in-None c = none_first c.args.faults.now (sym c.in-None.ensures.value)
