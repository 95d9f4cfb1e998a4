use Rattle.cat_sound.proofs.DecidedLaws.{each_logged}
use Rattle.cat_sound.proofs.given.each_variable_is_logged.Goals as goal

pub returns : goal.returns
returns c scoped input outputs index item decl ends at is plain none =
    each_logged scoped input outputs index item decl ends at is plain none
