use Rattle.cat_machine.proofs.RunEnds.{no_outputs, outputs_are}
use Rattle.cat_machine.proofs.ending.outputs.Goals as goal

pub unreachable-requires : goal.unreachable-requires
unreachable-requires c =
    no_outputs c.args.m.now.pool c.args.r c.in_ok-values.field-0 c.in_ok-values.ensures c.in_default.not-Structure
    c.requires.structure

pub returns : goal.returns
returns c =
    outputs_are c.args.m.now.pool c.args.r c.in_ok-values.field-0 c.in-Structure.values c.in_ok-values.ensures
    c.in-Structure.is
