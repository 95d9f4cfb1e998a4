use Rattle.std.proofs.Common.{◌≡◌, rules, subst, true, false}
use Rattle.cat_guard.specs.declared.truth.Truth.TheVariants as truth
use Rattle.cat_guard.specs.inside.Telling.{Tells}
use Rattle.cat_guard.proofs.TellLaws.{chosen_first, chosen_second}
use Rattle.cat_guard.proofs.truth.choice.Goals as goal

pub returns-in-Known-true : goal.returns-in-Known-true
returns-in-Known-true c answers test f g h i j =
    let is : c.args.test ≡ truth.Known true = search rules in
    chosen_first answers test f g c.args.first c.args.second (subst (Tells answers test) is h) i j

pub returns-in-Known-false : goal.returns-in-Known-false
returns-in-Known-false c answers test f g h i j =
    let is : c.args.test ≡ truth.Known false = search rules in
    chosen_second answers test f g c.args.first c.args.second (subst (Tells answers test) is h) i j
