use Rattle.std.proofs.Common.{◌+◌, ◌∙◌, ℕ, List, sym, subst, inl, inr, refl, true≢false}
use Rattle.std.proofs.lemmas.Result.{err_from_is_err_and}
use Rattle.cat_image.specs.declared.tables.ImageField.{ImageField}
use Rattle.cat_verify_tables.specs.inside.PartWords.{HasWrongField, IsWrongStructure, AreFieldsOf}
use Rattle.cat_verify_tables.proofs.CauseLemmas.{refuses_more}
use Rattle.cat_verify_tables.proofs.members.structure.Goals as goal

pub returns-then-is_empty-clause-cause : goal.returns-then-is_empty-clause-cause
returns-then-is_empty-clause-cause c =
    inl (refl, c.is_empty.ensures.0 c.if-is_empty.true)

pub returns-in_err-fields-clause-cause : goal.returns-in_err-fields-clause-cause
returns-in_err-fields-clause-cause c =
    let p = err_from_is_err_and c.from_residual-in_err-fields.result c.from_residual-in_err-fields.ensures.1 in
    let types = c.args.types.now in
    let line = c.args.line.now in
    rw (p.1, p.2) (refuses_more (HasWrongField types c.as_slice.result.now c.in_ok-first.first)
    (IsWrongStructure types line c.args.number)
    (λ n wrong. inr (subst (λ (fs : List ImageField). HasWrongField types fs (c.args.number + 1) n) c.as_slice.ensures
    (subst (λ (k : ℕ). HasWrongField types c.as_slice.result.now k n) c.in_ok-first.ensures wrong)))
    c.in_err-fields.field-0.0 c.in_err-fields.ensures.cause)

pub returns-clause-told : goal.returns-clause-told
returns-clause-told c = record {
  name = c.in_ok-name.ensures;
  some = λ none. true≢false (sym (c.is_empty.ensures.1 none) ∙ c.if-is_empty.false);
  fields = subst (λ (fs : List ImageField). AreFieldsOf c.args.types.now fs c.in_ok-fields.fields) c.as_slice.ensures
      c.in_ok-fields.ensures.told;
}
