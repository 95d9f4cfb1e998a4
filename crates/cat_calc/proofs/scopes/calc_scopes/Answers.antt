use Rattle.std.proofs.Common.{arith}
use Rattle.cat_calc.specs.inside.Items.{calc_scopes}
use Rattle.cat_calc.proofs.Desugaring.{one_scope_more, no_scope_more, scope_there}
use Rattle.cat_calc.proofs.scopes.calc_scopes.Goals as goal

pub loop-scope-preserved : goal.loop-scope-preserved
loop-scope-preserved c =
    let program = c.args.program.now in
    let as_many = scope_there program.decls program.bodies program.scope_order c.programs_are_well_formed.ensures in
    one_scope_more program.decls program.decls.scopes program.bodies c.loop-scope.scopes c.push.new.self
    (calc_scopes program.decls program.decls.scopes program.bodies) c.loop-scope.scope c.in_ok-calc_scope.field-0
    (omega (arith, c.loop-scope-test.true, c.requires.stand.counted, as_many))
    (omega (arith, c.loop-scope-test.true, c.requires.stand.counted))
    c.in_ok-calc_scope.ensures c.in_ok-push.ensures.ok c.loop-scope.invariant

pub returns : goal.returns
returns c =
    let program = c.args.program.now in
    let as_many = scope_there program.decls program.bodies program.scope_order c.programs_are_well_formed.ensures in
    no_scope_more program.decls program.decls.scopes program.bodies c.loop-scope.scopes
    (calc_scopes program.decls program.decls.scopes program.bodies) c.loop-scope.scope
    (omega (arith, c.loop-scope-test.false, c.requires.stand.counted, as_many)) c.loop-scope.invariant
