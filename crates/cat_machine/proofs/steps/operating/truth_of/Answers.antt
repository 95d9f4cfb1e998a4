use Rattle.std.proofs.Common.{sym}
use Rattle.cat_value.specs.declared.value.Value.TheVariants as flat
use Rattle.cat_pool.specs.Nodes.{lone}
use Rattle.cat_machine.proofs.Growth.{no_more, one_more}
use Rattle.cat_machine.proofs.OperatingSteps.{truth_put, truth_there}
use Rattle.cat_machine.proofs.Pushing.{none_more}
use Rattle.cat_machine.proofs.steps.operating.truth_of.Goals as goal

pub returns-in-Some-clause-ok : goal.returns-in-Some-clause-ok
returns-in-Some-clause-ok c =
    truth_there c.args.m.now c.args.truth c.in-Some.r c.requires (sym c.in-Some.ensures)

pub returns-in-Some-clause-pool : goal.returns-in-Some-clause-pool
returns-in-Some-clause-pool c =
    no_more c.args.m.now.pool

pub returns-clause-ok : goal.returns-clause-ok
returns-clause-ok c =
    rw c.with_truth-m.ensures
    (truth_put c.args.m.now c.args.truth c.in_ok-r.r c.put.new.self c.requires c.in_ok-r.ensures.ok
    c.in_ok-r.ensures.place)

pub returns-clause-pool : goal.returns-clause-pool
returns-clause-pool c =
    one_more c.args.m.now.pool c.put.new.self (lone (flat.Boolean c.args.truth)) c.in_ok-r.ensures.ok

pub returns-in_err-r-clause-pool : goal.returns-in_err-r-clause-pool
returns-in_err-r-clause-pool c =
    none_more c.args.m.now.pool c.put.new.self c.in_err-r.ensures.err
