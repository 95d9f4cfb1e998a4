use Rattle.cat_emitted.proofs.DeclaredNames.{declared_spelled}
use Rattle.cat_emitted.proofs.laws.declarations_of_sources_are_spelled.Goals as goal

pub returns : goal.returns
returns c pieces tokens tree decls lexed spelled named =
    declared_spelled pieces tokens tree decls lexed spelled.spells named
