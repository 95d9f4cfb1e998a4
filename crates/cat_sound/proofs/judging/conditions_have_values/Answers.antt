use Rattle.cat_sound.proofs.CalledLaws.{called_scopes_stop}
use Rattle.cat_sound.proofs.TargetLaws.{variable-stops}
use Rattle.cat_sound.proofs.judging.conditions_have_values.Goals as goal

pub returns-clause-variable : goal.returns-clause-variable
returns-clause-variable c scoped before values item decl other there plain condition is =
    variable-stops scoped before values item decl other there plain condition is

pub returns-clause-called : goal.returns-clause-called
returns-clause-called c scoped before values item called decl stop is_kind is =
    called_scopes_stop scoped before values item called decl stop is_kind is
