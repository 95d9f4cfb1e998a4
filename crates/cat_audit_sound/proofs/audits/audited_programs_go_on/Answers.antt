use Rattle.std.proofs.Common.{rules}
use Rattle.cat_audit_sound.proofs.AuditLaws.{audited_programs}
use Rattle.cat_audit_sound.proofs.audits.audited_programs_go_on.Goals as goal

pub returns : goal.returns
returns c allowed within tables scope input closed audited inside typed =
    audited_programs allowed within tables c.args.program.now.decls c.args.program.now.bodies
    c.args.program.now.scope_order scope input (search rules) closed audited inside typed
