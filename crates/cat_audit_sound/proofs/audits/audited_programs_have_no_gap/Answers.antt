use Rattle.std.proofs.Common.{rules}
use Rattle.cat_audit_sound.proofs.AuditLaws.{no_gap}
use Rattle.cat_audit_sound.proofs.audits.audited_programs_have_no_gap.Goals as goal

pub returns : goal.returns
returns c within tables scope input closed audited inside typed =
    no_gap within tables c.args.program.now.decls c.args.program.now.bodies c.args.program.now.scope_order scope input
    (search rules) closed audited inside typed
