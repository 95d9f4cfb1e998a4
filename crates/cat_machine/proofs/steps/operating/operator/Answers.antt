use Rattle.std.proofs.Common.{◌∙◌}
use Rattle.cat_machine.specs.inside.Putting.{operation_of}
use Rattle.cat_machine.proofs.OperatingSteps.{op_leads, op_needs}
use Rattle.cat_machine.proofs.steps.operating.operator.Goals as goal

pub at-pos-requires : goal.at-pos-requires
at-pos-requires c =
    (op_needs c.args.code.now.tables c.args.place c.args.n c.args.r c.args.p c.args.m.now c.requires.going).2

pub operation_at-operation-requires : goal.operation_at-operation-requires
operation_at-operation-requires c =
    (op_needs c.args.code.now.tables c.args.place c.args.n c.args.r c.args.p c.args.m.now c.requires.going).0

pub rounding_at-rounding-requires : goal.rounding_at-rounding-requires
rounding_at-rounding-requires c =
    (op_needs c.args.code.now.tables c.args.place c.args.n c.args.r c.args.p c.args.m.now c.requires.going).1

pub apply-requires : goal.apply-requires
apply-requires c =
    record {
      machine = c.requires.machine;
      place = c.requires.place;
      going =
          λ e. c.requires.going
          (op_leads c.args.code.now.tables c.args.place c.args.n c.args.r c.args.p c.args.m.now
          (operation_of c.operation_at-operation.result) c.rounding_at-rounding.result
          c.at-pos.result.now c.operation_at-operation.ensures c.rounding_at-rounding.ensures c.at-pos.ensures ∙ e);
    }

pub returns-clause-told : goal.returns-clause-told
returns-clause-told c =
    rw (op_leads c.args.code.now.tables c.args.place c.args.n c.args.r c.args.p c.args.m.now
    (operation_of c.operation_at-operation.result) c.rounding_at-rounding.result
    c.at-pos.result.now c.operation_at-operation.ensures c.rounding_at-rounding.ensures c.at-pos.ensures)
    c.apply.ensures.told
