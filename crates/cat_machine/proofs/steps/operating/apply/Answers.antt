use Rattle.std.proofs.Common.{refl}
use Rattle.cat_machine.proofs.OperatingSteps.{before_going, before_leads, before_some, between_going, between_leads}
use Rattle.cat_machine.proofs.OperatingSteps.{machine_popped, pool_before, tells_before}
use Rattle.cat_machine.proofs.steps.operating.apply.Goals as goal

pub operand-only-requires : goal.operand-only-requires
operand-only-requires c =
    record {
      below = c.requires.machine.operands;
      some = before_some c.args.code.now.tables c.args.place c.args.m.now c.args.rounding c.args.pos c.in-Before.op
          (rw c.in-Before.is at c.requires.going);
    }

pub push_result-requires : goal.push_result-requires
push_result-requires c =
    record {
      machine =
          machine_popped c.args.code.now.tables c.args.place c.args.m.now c.operand-only.new.m c.operand-only.result
          c.operand-only.ensures c.requires.machine;
      place = c.requires.place;
      going =
          before_going c.args.code.now.tables c.args.place c.args.rounding c.args.pos c.args.m.now c.operand-only.new.m
          c.operand-only.result c.look.result.now c.operand-only.ensures c.look.ensures.value c.in-Before.op
          c.before-made.result c.before-made.ensures (rw c.in-Before.is at c.requires.going);
    }

pub push_result-requires-in-Between-clause-going : goal.push_result-requires-in-Between-clause-going
push_result-requires-in-Between-clause-going c =
    between_going c.args.code.now.tables c.args.place c.args.rounding c.args.pos c.args.m.now c.operand-right.new.m
    c.operand-left.new.m c.operand-right.result c.operand-left.result c.operand-right.ensures c.operand-left.ensures
    c.in-Between.op c.look-in-Between.result.now c.look-in-Between-2.result.now c.look-in-Between.ensures.value
    c.look-in-Between-2.ensures.value c.between-made.result c.between-made.ensures
    (rw c.in-Between.is at c.requires.going)

pub returns-in-Before-clause-told : goal.returns-in-Before-clause-told
returns-in-Before-clause-told c =
    rw c.in-Before.is
    (tells_before c.args.code.now.tables c.args.place c.args.m.now c.operand-only.new.m c.operand-only.result
    c.operand-only.ensures c.push_result.result
    c.push_result.new.m _ _
    (before_leads c.args.code.now.tables c.args.place c.args.rounding c.args.pos c.args.m.now c.operand-only.new.m
    c.operand-only.result c.look.result.now c.operand-only.ensures c.look.ensures.value c.in-Before.op
    c.before-made.result c.before-made.ensures)
    c.push_result.ensures.told)

pub returns-in-Between-clause-told : goal.returns-in-Between-clause-told
returns-in-Between-clause-told c =
    rw c.in-Between.is
    (tells_before c.args.code.now.tables c.args.place c.args.m.now c.operand-right.new.m c.operand-right.result
    c.operand-right.ensures
    c.push_result-in-Between.result c.push_result-in-Between.new.m _ _
    (between_leads c.args.code.now.tables c.args.place c.args.rounding c.args.pos c.args.m.now c.operand-right.new.m
    c.operand-left.new.m c.operand-right.result c.operand-left.result c.operand-right.ensures c.operand-left.ensures
    c.in-Between.op c.look-in-Between.result.now c.look-in-Between-2.result.now c.look-in-Between.ensures.value
    c.look-in-Between-2.ensures.value c.between-made.result c.between-made.ensures)
    (tells_before c.args.code.now.tables c.args.place c.operand-right.new.m c.operand-left.new.m c.operand-left.result
    c.operand-left.ensures
    c.push_result-in-Between.result c.push_result-in-Between.new.m _ _ refl c.push_result-in-Between.ensures.told))

pub returns-in-Before-clause-pool : goal.returns-in-Before-clause-pool
returns-in-Before-clause-pool c =
    pool_before c.args.code.now.tables c.args.place c.args.m.now c.operand-only.new.m c.operand-only.result
    c.operand-only.ensures c.push_result.new.m.pool c.push_result.ensures.pool
