use Rattle.cat_machine.proofs.Loads.{InputLoaded}
use Rattle.cat_machine.proofs.starting.load_input.Given as goal

abbrev pub invariant-loop-entry : goal.invariant-loop-entry
invariant-loop-entry l = InputLoaded l.fn.m l.m l.input l.entry-index
