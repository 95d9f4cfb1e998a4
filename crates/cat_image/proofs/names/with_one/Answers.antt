use Rattle.std.proofs.Common.{◌∙◌, ap}
use Rattle.cat_image.specs.inside.Names.{look_up, with_one}
use Rattle.cat_image.proofs.names.with_one.Goals as goal

pub returns : goal.returns
unfolding with_one
returns c = c.look_up.ensures ∙ ap (look_up with_one) c.as_bytes.ensures.value
