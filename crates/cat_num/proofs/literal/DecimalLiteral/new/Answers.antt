use Rattle.std.proofs.Common.{rules, ◌<◌}
use Rattle.cat_num.specs.Numerals.{IsNumeral}
use Rattle.cat_num.proofs.Numerals.{few_digits}
use Rattle.cat_num.proofs.literal.DecimalLiteral.new.Goals as goal

pub overflow_mul-result : goal.overflow_mul-result
overflow_mul-result c =
    let is : IsNumeral c.args.digits c.args.places = search rules in
    let few : c.args.digits < 1_000_000_000_000_000_000 = few_digits c.args.digits c.args.places is in
    search (rules, few)

pub overflow_add-result : goal.overflow_add-result
overflow_add-result c =
    let is : IsNumeral c.args.digits c.args.places = search rules in
    let few : c.args.digits < 1_000_000_000_000_000_000 = few_digits c.args.digits c.args.places is in
    search (rules, few)
