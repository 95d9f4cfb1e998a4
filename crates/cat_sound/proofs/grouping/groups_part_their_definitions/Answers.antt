use Rattle.cat_sound.proofs.GroupLaws.{are_parted}
use Rattle.cat_sound.proofs.grouping.groups_part_their_definitions.Goals as goal

pub returns : goal.returns
returns c = are_parted
