use Rattle.cat_machine.proofs.OperatingSteps.{operation_bound}
use Rattle.cat_machine.proofs.steps.operating.operation_at.Goals as goal

pub arithmetic_at-requires-clause-first : goal.arithmetic_at-requires-clause-first
arithmetic_at-requires-clause-first c = (operation_bound c.args.n c.requires).0

pub other_at-requires-clause-last : goal.other_at-requires-clause-last
other_at-requires-clause-last c = (operation_bound c.args.n c.requires).1
