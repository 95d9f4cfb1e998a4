use Rattle.std.proofs.Common.{sym, subst}
use Rattle.std.specs.Prelude.{IfSome}
use Rattle.cat_guard.specs.Conjuncts.{AreOfDefs}
use Rattle.cat_guard.proofs.WholeLaws.{if_ok}
use Rattle.cat_guard.proofs.conjuncts.long_conjuncts.Goals as goal

pub returns : goal.returns
returns c =
    if_ok c.def_conjuncts.result c.def_conjuncts.ensures (λ conjuncts are.
    subst (λ o. IfSome o (λ t. AreOfDefs t.defs conjuncts)) (sym c.at-target.ensures)
    (subst (λ ds. AreOfDefs ds conjuncts) c.as_slice.ensures are))
