use Rattle.std.proofs.Common.{inl, inr, refl, subst}
use Rattle.std.proofs.lemmas.Result.{err_from_is_err_and}
use Rattle.cat_image.specs.Words.{Text}
use Rattle.cat_verify_tables.specs.TypeWords.{IsTypeName}
use Rattle.cat_verify_tables.specs.inside.NamedWords.{names_in}
use Rattle.cat_verify_tables.proofs.CauseLemmas.{at_line}
use Rattle.cat_verify_tables.proofs.NameLemmas.{failed, passed, right_name}
use Rattle.cat_verify_tables.proofs.named.add_type_name.Goals as goal

pub returns-then-not-spelled-clause-cause : goal.returns-then-not-spelled-clause-cause
returns-then-not-spelled-clause-cause c = (
  refl,
  inr (subst (λ (w : Text). IsTypeName w → ⊥) c.as_str.ensures
      (failed _ _ _ c.in_ok-spelled.ensures c.if-not-spelled.true)),
)

pub returns-in_err-add-clause-cause : goal.returns-in_err-add-clause-cause
returns-in_err-add-clause-cause c =
    let p = err_from_is_err_and c.from_residual-in_err-add.result c.from_residual-in_err-add.ensures.1 in
    rw (p.1, p.2) (at_line c.args.line (λ one. inl one) c.in_err-add.field-0.0 c.in_err-add.ensures.cause)

pub returns-clause-right : goal.returns-clause-right
returns-clause-right c = right_name IsTypeName (names_in c.args.names.now) c.args.name.now
    (subst IsTypeName c.as_str.ensures (passed _ _ _ c.in_ok-spelled.ensures c.if-not-spelled.false))
    c.in_ok-add.ensures.fresh
