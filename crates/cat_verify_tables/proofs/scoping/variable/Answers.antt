use Rattle.std.proofs.Common.{inl, inr, subst}
use Rattle.std.proofs.lemmas.Result.{err_from_is_err_and}
use Rattle.cat_image.specs.Words.{Text}
use Rattle.cat_image.specs.declared.tables.ImageKind.{ImageKind}
use Rattle.cat_verify_tables.specs.inside.ItemWords.{HoldsNothing, IsHeldOf, IsWrongWhat}
use Rattle.cat_verify_tables.proofs.CauseLemmas.{at_line}
use Rattle.cat_verify_tables.proofs.ScopingLemmas.{what_variable, wrong_variable}
use Rattle.cat_verify_tables.proofs.scoping.variable.Goals as goal

pub returns-in_err-pos-clause-cause : goal.returns-in_err-pos-clause-cause
returns-in_err-pos-clause-cause c =
    let p = err_from_is_err_and c.from_residual.result c.from_residual.ensures.1 in
    rw (p.1, p.2) (at_line c.args.number (λ lost. inl lost) c.in_err-pos.field-0.0 c.in_err-pos.ensures.cause)

pub returns-in_err-ty-clause-cause : goal.returns-in_err-ty-clause-cause
returns-in_err-ty-clause-cause c =
    let p = err_from_is_err_and c.from_residual-in_err-ty.result c.from_residual-in_err-ty.ensures.1 in
    let known = c.args.known.now in
    let line = c.args.line.now in
    rw (p.1, p.2) (at_line c.args.number
    (λ none. inr (subst (λ (k : ImageKind). IsWrongWhat known line.what k) c.requires.kind
    (wrong_variable known line.what c.args.kind c.requires.variable
    (subst (λ (w : Text). HoldsNothing known.types w) c.as_str.ensures none))))
    c.in_err-ty.field-0.0 c.in_err-ty.ensures.cause)

pub returns-clause-told : goal.returns-clause-told
returns-clause-told c = record {
  name = c.in_ok-name.ensures;
  pos = c.in_ok-pos.ensures.words;
  found = c.in_ok-pos.ensures.found;
  kind = c.requires.kind;
  what = what_variable c.args.known.now c.args.line.now.what c.in_ok-name.name c.in_ok-pos.pos c.in_ok-ty.field-0
      c.args.kind c.requires.variable
      (subst (λ (w : Text). IsHeldOf c.args.known.now.types w c.in_ok-ty.field-0) c.as_str.ensures
      c.in_ok-ty.ensures.told);
}
