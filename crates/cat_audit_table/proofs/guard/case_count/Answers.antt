use Rattle.std.proofs.Common.{sym, arith}
use Rattle.cat_audit_table.proofs.guard.case_count.Goals as goal

pub overflow_cast-result : goal.overflow_cast-result
overflow_cast-result c =
    let counted = (c.declarations_are_sound.ensures.enumerations c.args.ty c.in-Some.enumeration.now
    (sym c.in-Some.ensures.value)).counted in
    omega (arith, counted, c.len.ensures)
