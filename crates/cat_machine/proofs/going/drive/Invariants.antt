use Rattle.cat_machine.specs.inside.Leading.{stand}
use Rattle.cat_machine.proofs.Endings.{Driving}
use Rattle.cat_machine.proofs.going.drive.Given as goal

abbrev pub decreases-loop-after : goal.decreases-loop-after
decreases-loop-after l = l.going.ends.0

abbrev pub invariant-loop-after : goal.invariant-loop-after
invariant-loop-after l =
    Driving l.fn.start.code.now l.going.code.now (stand l.fn.start.place l.fn.start.count l.fn.start.machine.value)
    (stand l.going.place l.going.count l.going.machine.value)
