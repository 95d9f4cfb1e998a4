use Rattle.std.proofs.Common.{◌∙◌, ap}
use Rattle.cat_image.specs.inside.Names.{look_up, item_kinds}
use Rattle.cat_image.proofs.names.item_kind.Goals as goal

pub returns : goal.returns
unfolding item_kinds
returns c = c.look_up.ensures ∙ ap (look_up item_kinds) c.as_bytes.ensures.value
