use Rattle.std.proofs.Common.{rules}
use Rattle.cat_sound.proofs.OutcomeTypes.{logged_within}
use Rattle.cat_sound.proofs.typing.logs_tell_of_called_scopes.Goals as goal

pub returns : goal.returns
returns c within scope input closed inside typed =
    logged_within within c.args.program.now.decls c.args.program.now.bodies c.args.program.now.scope_order scope input
    (search rules) closed inside typed
