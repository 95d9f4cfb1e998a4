use Rattle.cat_build.proofs.Coded.{lowered_for, lowered_of}
use Rattle.cat_build.proofs.lowered.code_of.Goals as goal

pub returns-clause-code : goal.returns-clause-code
returns-clause-code c = lowered_for c.args.program.now c.args.calc.now c.lower.result c.requires.declared
    c.requires.outcomes c.requires.deciders c.lower.ensures

pub returns-clause-lowered : goal.returns-clause-lowered
returns-clause-lowered c = lowered_of c.args.program.now c.args.calc.now c.lower.result c.requires.declared
    c.requires.made c.lower.ensures
