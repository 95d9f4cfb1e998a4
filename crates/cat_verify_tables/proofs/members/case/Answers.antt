use Rattle.std.proofs.Common.{inl, inr, ap, ◌∙◌}
use Rattle.std.proofs.lemmas.Result.{err_from_is_err_and}
use Rattle.cat_verify_tables.specs.inside.NamedWords.{names_in}
use Rattle.cat_verify_tables.proofs.CauseLemmas.{at_line}
use Rattle.cat_verify_tables.proofs.NameLemmas.{names_push}
use Rattle.cat_verify_tables.proofs.members.case.Goals as goal

pub returns-in_err-add_type_name-clause-cause : goal.returns-in_err-add_type_name-clause-cause
returns-in_err-add_type_name-clause-cause c =
    let p = err_from_is_err_and c.from_residual.result
    c.from_residual.ensures.1 in
    rw (p.1, p.2) (at_line c.args.number (λ wrong. inl wrong) c.in_err-add_type_name.field-0.0
    c.in_err-add_type_name.ensures.cause)

pub returns-in_err-content-clause-cause : goal.returns-in_err-content-clause-cause
returns-in_err-content-clause-cause c =
    let p = err_from_is_err_and c.from_residual-in_err-content.result c.from_residual-in_err-content.ensures.1 in
    rw (p.1, p.2) (at_line c.args.number (λ wrong. inr wrong) c.in_err-content.field-0.0
    c.in_err-content.ensures.cause)

pub returns-clause-told : goal.returns-clause-told
returns-clause-told c = record {
  name = c.in_ok-name.ensures;
  content = c.in_ok-content.ensures.told;
  right = c.in_ok-add_type_name.ensures.right;
}

pub returns-clause-named : goal.returns-clause-named
returns-clause-named c =
    ap names_in c.in_ok-add_type_name.ensures.added ∙ names_push c.args.names.now c.args.line.now.name 0
