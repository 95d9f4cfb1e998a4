use Rattle.std.proofs.Common.{rules, ◌≤◌}
use Rattle.cat_machine.specs.inside.Leading.{stand}
use Rattle.cat_machine.proofs.Endings.{driven_machine, drives_end, drives_itself, drives_less, drives_on}
use Rattle.cat_machine.proofs.going.drive.Goals as goal

pub loop-after-init : goal.loop-after-init
loop-after-init c =
    let fits : c.args.start.count ≤ 18446744073709551615 = search rules in
    drives_itself c.args.start.code.now (stand c.args.start.place c.args.start.count c.args.start.machine.value)
    c.requires.machine fits

pub advance-requires : goal.advance-requires
advance-requires c = record {
  machine = driven_machine c.args.start.code.now c.loop-after.going.code.now
      (stand c.args.start.place c.args.start.count c.args.start.machine.value)
      (stand c.loop-after.going.place c.loop-after.going.count c.loop-after.going.machine.value) c.loop-after.invariant;
}

pub loop-after-smaller : goal.loop-after-smaller
loop-after-smaller c =
    drives_less c.loop-after.going.code.now c.in-Ok.after.code.now
    (stand c.loop-after.going.place c.loop-after.going.count c.loop-after.going.machine.value)
    (stand c.in-Ok.after.place c.in-Ok.after.count c.in-Ok.after.machine.value) c.in-Ok.ensures.code c.in-Ok.ensures.on
    c.loop-after.going.ends c.in-Ok.after.ends

pub loop-after-preserved : goal.loop-after-preserved
loop-after-preserved c =
    drives_on c.args.start.code.now c.loop-after.going.code.now c.in-Ok.after.code.now
    (stand c.args.start.place c.args.start.count c.args.start.machine.value)
    (stand c.loop-after.going.place c.loop-after.going.count c.loop-after.going.machine.value)
    (stand c.in-Ok.after.place c.in-Ok.after.count c.in-Ok.after.machine.value) c.loop-after.invariant
    c.in-Ok.ensures.code c.in-Ok.ensures.on

pub returns-in-Err : goal.returns-in-Err
returns-in-Err c =
    drives_end c.args.start.code.now c.loop-after.going.code.now
    (stand c.args.start.place c.args.start.count c.args.start.machine.value)
    (stand c.loop-after.going.place c.loop-after.going.count c.loop-after.going.machine.value)
    (stand 0 c.in-Err.ended.count c.in-Err.ended.machine.value) c.in-Err.ended.end c.loop-after.invariant
    c.in-Err.ensures.end
