use Rattle.std.proofs.Common.{rules, refl, sym, arith}
use Rattle.std.proofs.lemmas.Bool.Decides.{nat_tests}
use Rattle.std.proofs.lemmas.Result.{err_from_is_err_and}
use Rattle.cat_verify_tables.proofs.CauseLemmas.{at_line}
use Rattle.cat_verify_tables.proofs.ParamLemmas as way
use Rattle.cat_verify_tables.proofs.holding.params.Goals as goal

pub loop-ty-init : goal.loop-ty-init
loop-ty-init c = record {
  utf8 = c.utf8.text;
  way = rw c.new-params.ensures (way.begun c.args.types.now c.args.text.now);
}

pub loop-ty-smaller : goal.loop-ty-smaller
loop-ty-smaller c = way.shorter c.loop-ty.rest.now (c.in-Some.ty.now, c.in-Some.more.now)
    c.in-Some-behind_blank.next.now (sym c.in-Some.ensures) (sym c.in-Some-behind_blank.ensures)

pub returns-in_err-needed-clause-cause : goal.returns-in_err-needed-clause-cause
returns-in_err-needed-clause-cause c =
    let p = err_from_is_err_and c.from_residual.result c.from_residual.ensures.1 in
    let l = c.loop-ty in
    let count = c.len.ensures in
    rw (p.1, p.2) (at_line c.args.line (λ late. way.too_many c.args.types.now c.args.text.now l.params l.rest.now
    l.invariant.way (c.in-Some.ty.now, c.in-Some.more.now) (sym c.in-Some.ensures)
    (grind (arith, nat_tests, late, count)))
    c.in_err-needed.field-0.0 c.in_err-needed.ensures.cause)

pub returns-in_err-param-clause-cause : goal.returns-in_err-param-clause-cause
returns-in_err-param-clause-cause c =
    let p = err_from_is_err_and c.from_residual-in_err-param.result c.from_residual-in_err-param.ensures.1 in
    let l = c.loop-ty in
    rw (p.1, p.2) (at_line c.args.line (λ none. way.no_type c.args.types.now c.args.text.now l.params l.rest.now
    l.invariant.way (c.in-Some.ty.now, c.in-Some.more.now) (sym c.in-Some.ensures) none)
    c.in_err-param.field-0.0 c.in_err-param.ensures.cause)

pub returns-in_default-behind_blank-clause-cause : goal.returns-in_default-behind_blank-clause-cause
returns-in_default-behind_blank-clause-cause c =
    let l = c.loop-ty in (
      refl,
      way.no_next c.args.types.now c.args.text.now l.params l.rest.now l.invariant.way
          (c.in-Some.ty.now, c.in-Some.more.now) (sym c.in-Some.ensures) (sym c.in_default-behind_blank.ensures),
    )

pub loop-ty-preserved : goal.loop-ty-preserved
loop-ty-preserved c =
    let l = c.loop-ty in
    let count = c.len.ensures in
    let test = c.in_ok-needed.ensures.passes in
    record {
      utf8 = search rules;
      way = rw c.in_ok-push.ensures.ok (way.goes_on c.args.types.now c.args.text.now l.params l.rest.now l.invariant.way
          (c.in-Some.ty.now, c.in-Some.more.now) (sym c.in-Some.ensures) c.in-Some-behind_blank.next.now
          c.in_ok-param.param (sym c.in-Some-behind_blank.ensures) (grind (arith, nat_tests, test, count))
          c.in_ok-param.ensures.spelled);
    }

pub returns-in_err-last-clause-cause : goal.returns-in_err-last-clause-cause
returns-in_err-last-clause-cause c =
    let p = err_from_is_err_and c.from_residual-in_err-last.result c.from_residual-in_err-last.ensures.1 in
    let l = c.loop-ty in
    rw (p.1, p.2) (at_line c.args.line (λ none. way.no_last c.args.types.now c.args.text.now l.params l.rest.now
    l.invariant.way (sym c.in_default.ensures) none)
    c.in_err-last.field-0.0 c.in_err-last.ensures.cause)

pub returns-clause-told : goal.returns-clause-told
returns-clause-told c =
    let l = c.loop-ty in
    rw c.in_ok-push-2.ensures.ok (way.ends c.args.types.now c.args.text.now l.params l.rest.now l.invariant.way
    (sym c.in_default.ensures) c.in_ok-last.last c.in_ok-last.ensures.spelled)
