use Rattle.cat_machine.proofs.Loads.{ConstantsLoaded}
use Rattle.cat_machine.proofs.starting.load_constants.Given as goal

abbrev pub invariant-loop-constant : goal.invariant-loop-constant
invariant-loop-constant l =
    ConstantsLoaded l.fn.pool l.pool l.code.tables.constants l.constant-index l.constants
