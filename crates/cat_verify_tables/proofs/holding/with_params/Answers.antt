use Rattle.std.proofs.Common.{refl}
use Rattle.std.proofs.lemmas.Result.{err_from_is_err_and}
use Rattle.cat_verify_tables.specs.inside.HeldWords as lacking
use Rattle.cat_verify_tables.proofs.CauseLemmas.{at_line}
use Rattle.cat_verify_tables.proofs.holding.with_params.Goals as goal

pub returns-in_err-ty-clause-cause : goal.returns-in_err-ty-clause-cause
returns-in_err-ty-clause-cause c =
    let p = err_from_is_err_and c.from_residual.result c.from_residual.ensures.1 in
    rw (p.1, p.2) (at_line c.args.line (λ none. lacking.own none) c.in_err-ty.field-0.0 c.in_err-ty.ensures.cause)

pub returns-in_default-clause-cause : goal.returns-in_default-clause-cause
returns-in_default-clause-cause c = (refl, lacking.word c.in_default.ensures)

pub returns-in_err-params-clause-cause : goal.returns-in_err-params-clause-cause
returns-in_err-params-clause-cause c =
    let p = err_from_is_err_and c.from_residual-in_err-params.result c.from_residual-in_err-params.ensures.1 in
    rw (p.1, p.2) (at_line c.args.line (λ none. lacking.params c.in-Some.text.now c.in-Some.ensures none)
    c.in_err-params.field-0.0 c.in_err-params.ensures.cause)

pub returns-clause-told : goal.returns-clause-told
returns-clause-told c = record {
  own = c.in_ok-ty.ensures.told;
  text = c.in-Some.text.now;
  more_is = c.in-Some.ensures;
  params = c.in_ok-params.ensures.told;
}
