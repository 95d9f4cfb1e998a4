use Rattle.cat_sound.proofs.OperatorTypes.{operators_go_on}
use Rattle.cat_sound.proofs.typing.operators_go_on.Goals as goal

pub returns : goal.returns
returns c ds r p v w signature o is left right = operators_go_on ds r p v w signature o is left right
