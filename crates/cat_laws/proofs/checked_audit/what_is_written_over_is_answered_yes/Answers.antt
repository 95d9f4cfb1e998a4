use Rattle.std.proofs.Common.{◌<◌, ◌^◌, length, arith}
use Rattle.cat_laws.proofs.Told.{ends_yes}
use Rattle.cat_laws.proofs.checked_audit.what_is_written_over_is_answered_yes.Goals as goal

pub returns : goal.returns
returns c source scope bytes text words old check sink sunk ended over told ends =
    let program = c.args.program.now in
    let named = c.accepted_programs_are_unbroken.ensures source.pieces program told.told.accepted in
    let certified = c.what_is_written_over_is_certified.ensures scope bytes text named over in
    let few = told.extra_short in
    let short : length text < 2 ^ 64 = omega (arith, few) in
    ends_yes program scope text (c.certificates_of_version_2_are_answered_yes.ensures scope text short certified)
    sink sunk ended ends
