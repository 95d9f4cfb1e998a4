use Rattle.std.proofs.Common.{inl, inr, refl, sym, subst}
use Rattle.std.proofs.lemmas.Result.{err_from_is_err_and}
use Rattle.cat_image.specs.declared.tables.ImageKind.{ImageKind}
use Rattle.cat_verify_tables.specs.inside.ItemWords.{IsWrongWhat}
use Rattle.cat_verify_tables.proofs.CauseLemmas.{at_line}
use Rattle.cat_verify_tables.proofs.scoping.called.Goals as goal

pub returns-in_err-pos-clause-cause : goal.returns-in_err-pos-clause-cause
returns-in_err-pos-clause-cause c =
    let p = err_from_is_err_and c.from_residual.result c.from_residual.ensures.1 in
    rw (p.1, p.2) (at_line c.args.number (λ lost. inl lost) c.in_err-pos.field-0.0 c.in_err-pos.ensures.cause)

pub returns-in_default-clause-cause : goal.returns-in_default-clause-cause
returns-in_default-clause-cause c = (
  refl,
  inr (subst (λ (k : ImageKind). IsWrongWhat c.args.known.now c.args.line.now.what k) (sym c.requires)
      (sym c.in_default.ensures)),
)

pub returns-clause-told : goal.returns-clause-told
returns-clause-told c = record {
  name = c.in_ok-name.ensures;
  pos = c.in_ok-pos.ensures.words;
  found = c.in_ok-pos.ensures.found;
  kind = sym c.requires;
  what = (sym c.in-Some.ensures, refl, refl, c.new.ensures);
}
