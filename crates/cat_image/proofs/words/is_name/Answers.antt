use Rattle.std.proofs.Common.{◌∙◌}
use Rattle.cat_image.proofs.CutLemmas.{name_cut, name_uncut}
use Rattle.cat_image.proofs.words.is_name.Goals as goal

pub returns-in-Some : goal.returns-in-Some
returns-in-Some c = name_cut c.args.text.now _ c.in-Some.ensures

pub returns-in-None : goal.returns-in-None
returns-in-None c = c.has_bytes.ensures ∙ name_uncut c.args.text.now c.in-None.ensures
