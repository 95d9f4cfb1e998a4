use Rattle.std.proofs.Common.{sym, List}
use Rattle.std.proofs.lemmas.Result.{err_from_is_err_and}
use Rattle.cat_image.specs.declared.tables.ImageScope.{ImageScope}
use Rattle.cat_verify_tables.specs.inside.NamedWords.{item_count}
use Rattle.cat_verify_tables.specs.inside.Causes.{IsFaultyIn}
use Rattle.cat_verify_tables.specs.inside.ItemWords.{IsScopeOf, IsWrongScope}
use Rattle.cat_verify_tables.proofs.CauseLemmas.{refuses_more}
use Rattle.cat_verify_tables.proofs.EntryLemmas.{faulty_in, line_more, told_more}
use Rattle.cat_verify_tables.proofs.scoping.scopes.Goals as goal

pub returns-in_err-made-clause-cause : goal.returns-in_err-made-clause-cause
returns-in_err-made-clause-cause c =
    let p = err_from_is_err_and c.from_residual.result c.from_residual.ensures.1 in
    let lines = c.args.lines.now in
    let l = c.loop-line in
    let line = c.line-item.result in
    let Fault = λ (before : List ImageScope). IsWrongScope c.args.known.now in
    rw (p.1, p.2) (refuses_more (IsWrongScope c.args.known.now line l.number)
    (IsFaultyIn item_count Fault c.args.first lines)
    (λ n wrong. faulty_in item_count Fault c.args.first lines l.line-index line l.number n c.loop-line-test.true
    (sym c.line-item.is) l.invariant.number wrong)
    c.in_err-made.field-0.0 c.in_err-made.ensures.cause)

pub loop-line-preserved : goal.loop-line-preserved
loop-line-preserved c =
    let lines = c.args.lines.now in
    let l = c.loop-line in
    let line = c.line-item.result in
    record {
      number = line_more item_count lines l.line-index line c.args.first l.number c.len.result _
          c.loop-line-test.true (sym c.line-item.is) l.invariant.number c.len.ensures
          c.in_ok-number.ensures;
      told = rw c.in_ok-push.ensures.ok
          (told_more (λ _. IsScopeOf c.args.known.now) lines l.line-index line l.scopes c.in_ok-made.made
          c.loop-line-test.true (sym c.line-item.is) l.invariant.told c.in_ok-made.ensures.told);
    }
