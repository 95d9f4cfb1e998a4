use Rattle.cat_scalar.specs.Scalars.{scalar_reply}
use Rattle.cat_machine.specs.States.{state_at}
use Rattle.cat_machine.proofs.OperatingSteps.{plain_of, reply_machine, reply_told}
use Rattle.cat_machine.proofs.steps.operating.push_result.Goals as goal

pub put_scalar-requires : goal.put_scalar-requires
put_scalar-requires c =
    record {
      truths = record { yes = c.requires.machine.yes; no = c.requires.machine.no };
      plain =
          plain_of c.in-Ok.scalar (state_at c.args.code.now.tables c.args.place c.args.m.now)
          (rw c.in-Ok.is at c.requires.going);
    }

pub returns-in_ok-push-in-Ok-clause-told : goal.returns-in_ok-push-in-Ok-clause-told
returns-in_ok-push-in-Ok-clause-told c =
    rw c.in-Ok.is
    (reply_told c.args.code.now.tables c.args.place c.in_ok-r-in-Ok.r c.args.m.now c.put_scalar.new.m c.requires.machine
    c.put_scalar.ensures.pool c.push.new.self c.in_ok-push-in-Ok.ensures.ok
    (scalar_reply c.in-Ok.scalar)
    (plain_of c.in-Ok.scalar (state_at c.args.code.now.tables c.args.place c.args.m.now)
    (rw c.in-Ok.is at c.requires.going)) c.in_ok-r-in-Ok.ensures.ok)

pub returns-in_ok-push-in-Ok-clause-machine : goal.returns-in_ok-push-in-Ok-clause-machine
returns-in_ok-push-in-Ok-clause-machine c =
    reply_machine c.args.code.now.tables c.args.place c.in_ok-r-in-Ok.r c.args.m.now c.put_scalar.new.m
    c.requires.machine c.put_scalar.ensures.pool c.push.new.self c.in_ok-push-in-Ok.ensures.ok
    (scalar_reply c.in-Ok.scalar)
    (plain_of c.in-Ok.scalar (state_at c.args.code.now.tables c.args.place c.args.m.now)
    (rw c.in-Ok.is at c.requires.going)) c.in_ok-r-in-Ok.ensures.ok

pub returns-in_ok-push-in-Ok-clause-pool : goal.returns-in_ok-push-in-Ok-clause-pool
returns-in_ok-push-in-Ok-clause-pool c =
    c.put_scalar.ensures.pool
