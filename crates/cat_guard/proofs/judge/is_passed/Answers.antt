use Rattle.std.proofs.Common.{◌∙◌, sym, ap, subst}
use Rattle.std.specs.Prelude.{◌≡◌, true}
use Rattle.cat_guard.specs.Formulas.{known}
use Rattle.cat_guard.specs.GuardFormulas.{formula_of}
use Rattle.cat_guard.specs.Judged.{answers_in}
use Rattle.cat_guard.specs.Verdicts.{def_verdict}
use Rattle.cat_guard.specs.inside.Counting.{Passes, is_there}
use Rattle.cat_guard.proofs.CountLaws.{unheld_passes, isnt}
use Rattle.cat_guard.proofs.judge.is_passed.Goals as goal

pub returns-in-Some : goal.returns-in-Some
returns-in-Some c so =
    let answers = answers_in c.args.atoms.now c.args.region.now in
    let def = c.at.result.now in
    let needs : is_there c.args.tally.needs ≡ true = ap is_there c.in-Some.is in
    subst (Passes c.args.tally) (sym (ap (def_verdict answers c.args.number) c.at.ensures))
    (unheld_passes c.args.tally c.args.number (known answers (formula_of def.guard)) needs
    (sym c.is_so.ensures ∙ isnt c.is_so.result so))
