use Rattle.std.proofs.Common.{◌≡◌, drop}
use Rattle.cat_code.specs.Jumps.{jumps_in}
use Rattle.cat_verify.specs.inside.Marks.{marked}
use Rattle.cat_verify.proofs.numbers.mark_jumps.Given as goal

abbrev pub invariant-loop-instr : goal.invariant-loop-instr
invariant-loop-instr l = marked l.marks (jumps_in (drop l.instr-index l.code)) ≡ marked l.fn.marks (jumps_in l.code)
