use Rattle.std.proofs.Common.{◌∙◌}
use Rattle.cat_check_forms.proofs.AllThere.{last_is}
use Rattle.cat_check_forms.proofs.complete.ends_in_anything.Goals as goal

pub returns-in-Some : goal.returns-in-Some
returns-in-Some c = c.is_anything.ensures ∙ last_is c.args.arms.now c.in-Some.arm.now c.in-Some.ensures.value
