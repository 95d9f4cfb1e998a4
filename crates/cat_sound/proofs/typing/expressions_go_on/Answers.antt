use Rattle.cat_sound.proofs.ExprTypes.{expressions_go_on}
use Rattle.cat_sound.proofs.typing.expressions_go_on.Goals as goal

pub returns : goal.returns
returns c allowed ns env ls locals e t typed has are = expressions_go_on allowed ns env ls locals e t typed has are
