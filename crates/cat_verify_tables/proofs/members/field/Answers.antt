use Rattle.std.proofs.Common.{inl, inr, subst}
use Rattle.std.proofs.lemmas.Result.{err_from_is_err_and}
use Rattle.cat_image.specs.Words.{Text}
use Rattle.cat_verify_tables.specs.inside.PartWords.{Spells, SpellsNone}
use Rattle.cat_verify_tables.proofs.CauseLemmas.{at_line}
use Rattle.cat_verify_tables.proofs.members.field.Goals as goal

pub returns-in_err-add_part_name-clause-cause : goal.returns-in_err-add_part_name-clause-cause
returns-in_err-add_part_name-clause-cause c =
    let p = err_from_is_err_and c.from_residual.result
    c.from_residual.ensures.1 in
    rw (p.1, p.2) (at_line c.args.number (λ wrong. inl wrong) c.in_err-add_part_name.field-0.0
    c.in_err-add_part_name.ensures.cause)

pub returns-in_err-ty-clause-cause : goal.returns-in_err-ty-clause-cause
returns-in_err-ty-clause-cause c =
    let p = err_from_is_err_and c.from_residual-in_err-ty.result c.from_residual-in_err-ty.ensures.1 in
    rw (p.1, p.2) (at_line c.args.number (λ wrong. inr (subst (SpellsNone c.args.types.now) c.as_str.ensures wrong))
    c.in_err-ty.field-0.0
    c.in_err-ty.ensures.cause)

pub returns-clause-told : goal.returns-clause-told
returns-clause-told c = record {
  name = c.in_ok-name.ensures;
  ty = subst (λ (w : Text). Spells c.args.types.now w c.in_ok-ty.ty) c.as_str.ensures c.in_ok-ty.ensures.spelled;
  right = c.in_ok-add_part_name.ensures.right;
}
