use Rattle.std.proofs.Common.{rules}
use Rattle.cat_image.proofs.ConstantLemmas.{constant_listed}
use Rattle.cat_image.proofs.typed.constant.Goals as goal

pub returns : goal.returns
returns c =
    let typed = c.in-Some.field-0 in
    constant_listed c.args.text.now typed.name.now typed.value.now c.in_ok-ty.ty c.in_ok-value.value typed.lists
    c.in-Some.ensures (search rules) (search rules)
