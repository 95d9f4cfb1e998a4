use Rattle.cat_sound.proofs.OperatorTypes.{conversions_go_on}
use Rattle.cat_sound.proofs.typing.conversions_go_on.Goals as goal

pub returns : goal.returns
returns c ds p v o is = conversions_go_on ds p v o is
