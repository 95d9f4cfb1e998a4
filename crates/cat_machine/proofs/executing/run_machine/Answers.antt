use Rattle.std.proofs.Common.{rules, ◌≡◌, subst}
use Rattle.cat_machine.specs.declared.machine.Machine.{Machine}
use Rattle.cat_machine.specs.inside.Begun.{IsReady, RunsSo}
use Rattle.cat_machine.proofs.Faces.{given_ends, ready_so, runs_so, scope_there}
use Rattle.cat_machine.proofs.executing.run_machine.Goals as goal

pub at-requires : goal.at-requires
at-requires c = scope_there c.args.code.now c.args.scope c.args.input.now c.requires.given

pub invariant_of-drive : goal.invariant_of-drive
invariant_of-drive c =
    let ready : IsReady c.args.code.now c.args.input.now c.deref_mut.result.now.pool c.make_ready.new.m
    = ready_so c.args.code.now c.args.input.now c.deref_mut.result.now.pool c.make_ready.new.m c.make_ready.result
    c.if-is_err.ensures.value c.make_ready.ensures.ready in
    record {
      ends = given_ends c.args.code.now c.args.scope c.args.input.now c.requires.given c.at.result.now
          c.make_ready.new.m c.at.ensures (ready.state c.at.result.now);
    }

pub returns : goal.returns
returns c =
    let same : c.deref_mut.result.now ≡ c.args.machine.value = search rules in
    let ready : IsReady c.args.code.now c.args.input.now c.deref_mut.result.now.pool c.make_ready.new.m
    = ready_so c.args.code.now c.args.input.now c.deref_mut.result.now.pool c.make_ready.new.m c.make_ready.result
    c.if-is_err.ensures.value c.make_ready.ensures.ready in
    subst (λ (m : Machine). RunsSo c.args.code.now c.args.scope c.args.input.now m.pool c.drive.result.end
    c.drive.result.machine.value c.drive.result.count) same
    (runs_so c.args.code.now c.args.scope c.args.input.now c.deref_mut.result.now.pool c.make_ready.new.m
    c.drive.result.machine.value c.at.result.now c.drive.result.count c.drive.result.end ready c.make_ready.ensures.pool
    c.at.ensures c.drive.ensures)
