use Rattle.std.proofs.Common.{sym}
use Rattle.cat_verify_shapes.proofs.LowLemmas.{cases_low}
use Rattle.cat_verify_shapes.proofs.forms.Forms.add_enumeration.Goals as goal

pub add_cases-requires : goal.add_cases-requires
add_cases-requires c =
    cases_low c.args.decls.now c.args.number c.in-Some.enumeration.now (sym c.in-Some.ensures.value)
