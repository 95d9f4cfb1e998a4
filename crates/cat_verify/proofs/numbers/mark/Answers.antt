use Rattle.std.proofs.Common.{sym, true, arith}
use Rattle.std.proofs.lemmas.List.{set_past}
use Rattle.cat_verify.proofs.numbers.mark.Goals as goal

pub returns-else-place-marks : goal.returns-else-place-marks
returns-else-place-marks c =
    let test = c.if-place-marks.false in
    sym (set_past c.args.marks.now c.args.place true (omega (arith, test)))
