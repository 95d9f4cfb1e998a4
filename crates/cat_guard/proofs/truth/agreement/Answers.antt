use Rattle.std.proofs.Common.{rules, subst}
use Rattle.cat_guard.specs.inside.Telling.{Tells}
use Rattle.cat_guard.proofs.TellLaws.{agreed_first, agreed_second, agreed_not}
use Rattle.cat_guard.proofs.truth.agreement.Goals as goal

pub returns-in_default : goal.returns-in_default
returns-in_default c answers test f g h i j =
    agreed_first answers test f g c.args.atom c.in_default.field-0 c.args.second h
    (subst (Tells answers f) c.in_default.is i) j

pub returns-in_default-second : goal.returns-in_default-second
returns-in_default-second c answers test f g h i j =
    agreed_second answers test f g c.args.atom c.in_default-second.field-0 c.in-Known.value h
    (subst (Tells answers f) c.in-Known.is i) (subst (Tells answers g) c.in_default-second.is j)

pub returns-else-value-other : goal.returns-else-value-other
returns-else-value-other c answers test f g h i j =
    agreed_not answers test f g c.args.atom c.in-Known.value c.in-Known-second.other (search rules) h
    (subst (Tells answers f) c.in-Known.is i) (subst (Tells answers g) c.in-Known-second.is j)
