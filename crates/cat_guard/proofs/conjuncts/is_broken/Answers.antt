use Rattle.std.proofs.Common.{sym, ◌∙◌, not}
use Rattle.cat_guard.specs.Formulas as formula
use Rattle.cat_guard.specs.Judged.{answers_in}
use Rattle.cat_guard.specs.inside.Telling.{told}
use Rattle.cat_guard.proofs.TellLaws.{found_is, known_is}
use Rattle.cat_guard.proofs.conjuncts.is_broken.Goals as goal

pub returns : goal.returns
returns c so =
    found_is (answers_in c.args.atoms.now c.args.region.now) (formula.Atom c.args.conjunct.atom) c.answer.result
    c.answer.ensures
    ∙ known_is (not c.args.conjunct.so) (told c.answer.result) (sym c.is_told.ensures ∙ so)
