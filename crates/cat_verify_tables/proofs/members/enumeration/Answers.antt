use Rattle.std.proofs.Common.{◌+◌, ◌∙◌, ℕ, List, sym, subst, inl, inr, refl, true≢false}
use Rattle.std.proofs.lemmas.Result.{err_from_is_err_and}
use Rattle.cat_image.specs.declared.tables.ImageCase.{ImageCase}
use Rattle.cat_verify_tables.specs.inside.PartWords.{HasWrongCase, IsWrongEnumeration, AreCasesOf}
use Rattle.cat_verify_tables.proofs.CauseLemmas.{refuses_more}
use Rattle.cat_verify_tables.proofs.members.enumeration.Goals as goal

pub returns-then-is_empty-clause-cause : goal.returns-then-is_empty-clause-cause
returns-then-is_empty-clause-cause c =
    inl (refl, c.is_empty.ensures.0 c.if-is_empty.true)

pub returns-in_err-cases-clause-cause : goal.returns-in_err-cases-clause-cause
returns-in_err-cases-clause-cause c =
    let p = err_from_is_err_and c.from_residual-in_err-cases.result c.from_residual-in_err-cases.ensures.1 in
    let types = c.args.types.now in
    let line = c.args.line.now in
    rw (p.1, p.2) (refuses_more (HasWrongCase types c.as_slice.result.now c.in_ok-first.first)
    (IsWrongEnumeration types line c.args.number)
    (λ n wrong. inr (subst (λ (cs : List ImageCase). HasWrongCase types cs (c.args.number + 1) n) c.as_slice.ensures
    (subst (λ (k : ℕ). HasWrongCase types c.as_slice.result.now k n) c.in_ok-first.ensures wrong)))
    c.in_err-cases.field-0.0 c.in_err-cases.ensures.cause)

pub returns-clause-told : goal.returns-clause-told
returns-clause-told c = record {
  name = c.in_ok-name.ensures;
  some = λ none. true≢false (sym (c.is_empty.ensures.1 none) ∙ c.if-is_empty.false);
  cases = subst (λ (cs : List ImageCase). AreCasesOf c.args.types.now cs c.in_ok-cases.cases) c.as_slice.ensures
      c.in_ok-cases.ensures.told;
}
