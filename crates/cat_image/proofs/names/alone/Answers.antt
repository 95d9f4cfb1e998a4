use Rattle.std.proofs.Common.{◌∙◌, ap}
use Rattle.cat_image.specs.inside.Names.{look_up, alone}
use Rattle.cat_image.proofs.names.alone.Goals as goal

pub returns : goal.returns
unfolding alone
returns c = c.look_up.ensures ∙ ap (look_up alone) c.as_bytes.ensures.value
