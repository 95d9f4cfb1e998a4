use Rattle.std.proofs.Common.{rules, ◌≡◌, sym, subst}
use Rattle.cat_machine.specs.declared.machine.Machine.{Machine}
use Rattle.cat_machine.specs.inside.Driven.{EndsFrom}
use Rattle.cat_machine.specs.inside.Leading.{counted}
use Rattle.cat_machine.specs.inside.Machines.{IsMachine}
use Rattle.cat_machine.proofs.Endings.{going_ends, going_needs, stops_by}
use Rattle.cat_machine.proofs.going.advance.Goals as goal

pub step-requires : goal.step-requires
step-requires c =
    let same : c.deref_mut.result.now ≡ c.args.going.machine.value = search rules in
    record {
      machine = subst (λ (m : Machine). IsMachine c.args.going.code.now.tables m) (sym same) c.requires.machine;
      going = going_needs c.args.going.code.now c.args.going.place c.deref_mut.result.now
          (subst (λ (m : Machine). EndsFrom c.args.going.code.now c.args.going.place m) (sym same) c.args.going.ends);
    }

pub invariant_of-result : goal.invariant_of-result
invariant_of-result c =
    let same : c.deref_mut.result.now ≡ c.args.going.machine.value = search rules in
    record {
      ends = going_ends c.args.going.code.now c.args.going.place c.in-Ok-To.place c.deref_mut.result.now c.step.new.m
          (subst (λ (m : Machine). EndsFrom c.args.going.code.now c.args.going.place m) (sym same) c.args.going.ends)
          (rw c.in-Ok-To.field-0-is at c.in-Ok-To.ensures.told);
    }

pub returns-in-Ok-Over-clause-end : goal.returns-in-Ok-Over-clause-end
returns-in-Ok-Over-clause-end c =
    let same : c.deref_mut.result.now ≡ c.args.going.machine.value = search rules in
    let one : c.saturating_add-count.result ≡ counted c.args.going.count 1 = search rules in
    stops_by c.args.going.code.now c.args.going.place c.args.going.count c.saturating_add-count.result
    c.args.going.machine.value
    c.deref_mut.result.now c.step.new.m c.in-Ok-Over.field-0 c.in-Ok-Over.end c.in-Ok-Over.field-0-is same
    c.in-Ok-Over.ensures.told
    c.in-Ok-Over.ensures.machine c.in-Ok-Over.ensures.pool one
