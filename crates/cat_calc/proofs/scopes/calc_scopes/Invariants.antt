use Rattle.std.proofs.Common.{◌≡◌, ◌++◌, drop}
use Rattle.cat_calc.specs.inside.Items.{calc_scopes}
use Rattle.cat_calc.proofs.scopes.calc_scopes.Given as goal

abbrev pub invariant-loop-scope : goal.invariant-loop-scope
invariant-loop-scope l =
    l.scopes ++ calc_scopes l.program.decls (drop l.scope l.program.decls.scopes) (drop l.scope l.program.bodies)
    ≡ calc_scopes l.program.decls l.program.decls.scopes l.program.bodies
