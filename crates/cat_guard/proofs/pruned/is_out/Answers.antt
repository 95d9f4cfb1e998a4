use Rattle.std.proofs.Common.{◌≡◌, Some, sym, ap, ◌∙◌, false}
use Rattle.cat_value.proofs.Exported.{found}
use Rattle.cat_guard.specs.Formulas.{known}
use Rattle.cat_guard.specs.GuardFormulas.{formula_of}
use Rattle.cat_guard.specs.Judged.{answers_in}
use Rattle.cat_guard.specs.Verdicts.{verdict_by, def_verdict}
use Rattle.cat_guard.proofs.FormulaLaws.{known_kept}
use Rattle.cat_guard.proofs.ConjunctLaws.{one_broken}
use Rattle.cat_guard.proofs.TellLaws.{known_is}
use Rattle.cat_guard.proofs.pruned.is_out.Goals as goal

pub returns-then-has_broken : goal.returns-then-has_broken
returns-then-has_broken c so more kept =
    let answers = answers_in c.args.atoms.now c.args.region.now in
    let defs = c.args.target.now.defs in
    let one = found defs c.args.number c.requires.number in
    let broken = c.has_broken.ensures c.if-has_broken.true in
    let told : known answers (formula_of one.0.guard) ≡ Some false =
    one_broken answers (formula_of one.0.guard) broken.0
    (c.conjuncts_at-joined.ensures defs one.0 c.requires.conjuncts one.1 broken.0 broken.1) broken.2 in
    ap (def_verdict more c.args.number) one.1
    ∙ ap (λ o. verdict_by o c.args.number) (known_kept answers more kept (formula_of one.0.guard) false told)

pub returns : goal.returns
returns c so more kept =
    let answers = answers_in c.args.atoms.now c.args.region.now in
    let def = c.at.result.now in
    ap (def_verdict more c.args.number) c.at.ensures
    ∙ ap (λ o. verdict_by o c.args.number) (known_kept answers more kept (formula_of def.guard) false
    (known_is false (known answers (formula_of def.guard)) (sym c.is_so.ensures ∙ so)))
