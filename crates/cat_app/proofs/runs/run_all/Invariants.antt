use Rattle.std.proofs.Common.{◌≡◌}
use Rattle.cat_machine.specs.Running.{constant_values}
use Rattle.cat_app.specs.Runs.{HaveSum}
use Rattle.cat_app.proofs.runs.run_all.Given as goal

-- the runs so far have this sum, and the constants are there for the next one
abbrev pub invariant-loop-run : goal.invariant-loop-run
invariant-loop-run l =
    HaveSum l.program l.scope l.bands l.run l.sum × (l.loaded ≡ constant_values l.code.tables.constants)
