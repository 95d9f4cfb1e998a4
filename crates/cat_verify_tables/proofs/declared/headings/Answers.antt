use Rattle.std.proofs.Common.{◌∙◌, List, [], subst, sym}
use Rattle.std.proofs.lemmas.Result.{err_from_is_err_and}
use Rattle.cat_check_names.specs.Table.{Table}
use Rattle.cat_image.specs.declared.tables.ImageScope.{ImageScope}
use Rattle.cat_verify_tables.specs.inside.Causes.{IsFaultyIn}
use Rattle.cat_verify_tables.specs.inside.DeclaredWords.{AreHeadersOf, HasWrongHeader, enumeration_name}
use Rattle.cat_verify_tables.specs.inside.Entries.{AreRight}
use Rattle.cat_verify_tables.specs.inside.NamedWords.{IsNamedAsType}
use Rattle.cat_verify_tables.specs.inside.NamedWords.{IsNamedAsTypeAt, IsWrongHeaderAt, case_count, item_count}
use Rattle.cat_verify_tables.specs.inside.NamedWords.{names_in}
use Rattle.cat_verify_tables.proofs.CauseLemmas.{refuses_more}
use Rattle.cat_verify_tables.proofs.HeadingLemmas.{are_headers, enumeration_faults, other_faults}
use Rattle.cat_verify_tables.proofs.declared.headings.Goals as goal

pub returns-in_err-scopes-clause-cause : goal.returns-in_err-scopes-clause-cause
returns-in_err-scopes-clause-cause c =
    let p = err_from_is_err_and c.from_residual-in_err-scopes.result c.from_residual-in_err-scopes.ensures.1 in
    let tables = c.args.tables.now in
    rw (p.1, p.2) (refuses_more (IsFaultyIn case_count (IsWrongHeaderAt enumeration_name
    (names_in c.add_names.new.names)) c.in_ok-enumerations.enumerations c.as_slice-entries.result.now)
    (HasWrongHeader tables c.args.first)
    (enumeration_faults tables c.args.first c.as_slice-structures.result.now c.as_slice-structures.ensures
    c.new-numbers.result c.add_names.new.names c.new-numbers.ensures c.in_ok-enumerations.ensures.added
    c.in_ok-enumerations.enumerations c.in_ok-enumerations.ensures.line c.as_slice-entries.result.now
    c.as_slice-entries.ensures)
    c.in_err-scopes.field-0.0 c.in_err-scopes.ensures.cause)

pub returns-in_err-refuse_types-clause-cause : goal.returns-in_err-refuse_types-clause-cause
returns-in_err-refuse_types-clause-cause c =
    let p = err_from_is_err_and c.from_residual-in_err-refuse_types.result
    c.from_residual-in_err-refuse_types.ensures.1 in
    let tables = c.args.tables.now in
    rw (p.1, p.2) (refuses_more (IsFaultyIn item_count (IsNamedAsTypeAt (names_in c.add_names-2.new.names))
    c.in_ok-scopes.scopes c.as_slice.result.now)
    (HasWrongHeader tables c.args.first)
    (other_faults tables c.args.first c.as_slice-structures.result.now c.as_slice-structures.ensures
    c.new-numbers.result c.add_names.new.names c.new-numbers.ensures c.in_ok-enumerations.ensures.added
    c.in_ok-enumerations.enumerations c.in_ok-enumerations.ensures.line c.as_slice-entries.result.now
    c.as_slice-entries.ensures c.add_names-2.new.names c.in_ok-scopes.ensures.added c.in_ok-scopes.scopes
    c.in_ok-scopes.ensures.line c.as_slice.result.now c.as_slice.ensures)
    c.in_err-refuse_types.field-0.0 c.in_err-refuse_types.ensures.cause)

pub returns-clause-told : goal.returns-clause-told
returns-clause-told c =
    subst (λ (t : Table). AreHeadersOf c.args.tables.now c.args.first (record {
      known = record {
        types = record { numbers = t; structures = c.in_ok-fitting.field-0 };
        scopes = c.add_names-3.new.names;
        files = c.len.result;
      };
      enumerations = c.in_ok-enumerations.enumerations;
      scopes = c.in_ok-scopes.scopes;
    })) (sym c.numbers-2.view_is)
    (are_headers c.args.tables.now c.args.first c.as_slice-structures.result.now c.as_slice-structures.ensures
    c.new-numbers.result c.add_names.new.names c.new-numbers.ensures c.in_ok-enumerations.ensures.added
    c.in_ok-enumerations.enumerations c.in_ok-enumerations.ensures.line c.as_slice-entries.result.now
    c.as_slice-entries.ensures c.add_names-2.new.names c.in_ok-scopes.ensures.added c.in_ok-scopes.scopes
    c.in_ok-scopes.ensures.line c.as_slice-2.result.now c.as_slice-2.ensures c.in_ok-fitting.field-0 c.len.result
    c.new-scope_names.result c.add_names-3.new.names c.in_ok-fitting.ensures c.len.ensures c.new-scope_names.ensures
    c.in_ok-_end.ensures.added c.in_ok-enumerations.ensures.right c.in_ok-scopes.ensures.right
    (subst (λ (cs : List ImageScope). AreRight (IsNamedAsType (names_in c.add_names-2.new.names)) [] cs)
    (c.as_slice.ensures ∙ sym c.as_slice-2.ensures) c.in_ok-refuse_types.ensures.right) c.in_ok-_end.ensures.right)
