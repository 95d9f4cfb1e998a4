use Rattle.cat_evaluate.proofs.Outcomes.{comes_to, is_given}
use Rattle.cat_evaluate.proofs.evaluate.Goals as goal

pub execute-requires : goal.execute-requires
execute-requires c =
    is_given c.args.calc.now c.in_ok-code.code c.in_ok-code.ensures c.args.scope c.args.input.now c.requires

pub returns : goal.returns
returns c =
    comes_to c.args.calc.now c.in_ok-code.code c.in_ok-code.ensures c.args.scope c.args.input.now c.requires
    c.execute.result c.execute.ensures.outcome
