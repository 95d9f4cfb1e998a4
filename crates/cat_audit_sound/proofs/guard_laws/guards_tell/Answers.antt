use Rattle.cat_audit_sound.proofs.GuardTells.{guard_tells}
use Rattle.cat_audit_sound.proofs.guard_laws.guards_tell.Goals as goal

pub returns : goal.returns
returns c allowed ns env ps arguments g e b are typed has told =
    guard_tells allowed ns env ps arguments g e b are typed has told
