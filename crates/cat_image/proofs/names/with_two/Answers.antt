use Rattle.std.proofs.Common.{◌∙◌, ap}
use Rattle.cat_image.specs.inside.Names.{look_up, with_two}
use Rattle.cat_image.proofs.names.with_two.Goals as goal

pub returns : goal.returns
unfolding with_two
returns c = c.look_up.ensures ∙ ap (look_up with_two) c.as_bytes.ensures.value
