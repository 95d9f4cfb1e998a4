use Rattle.cat_machine.proofs.Faces.{grows_behind}
use Rattle.cat_machine.proofs.executing.run_scope.Goals as goal

pub returns-clause-grown : goal.returns-clause-grown
returns-clause-grown c =
    grows_behind c.args.code.now c.args.scope c.args.input.now c.args.pool.now c.load_constants.new.pool
    c.run_over.new.pool c.in_ok-run.run' c.in_ok-constants.ensures.count c.in_ok-run.ensures.ran
