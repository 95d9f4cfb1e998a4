use Rattle.std.proofs.Common.{rules}
use Rattle.cat_sound.proofs.OutcomeTypes.{settled_programs}
use Rattle.cat_sound.proofs.typing.settled_programs_go_on.Goals as goal

pub returns : goal.returns
returns c allowed within scope input closed settled inside typed =
    settled_programs allowed within c.args.program.now.decls c.args.program.now.bodies c.args.program.now.scope_order
    scope input (search rules) closed settled inside typed
