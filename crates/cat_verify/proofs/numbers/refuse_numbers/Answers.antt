use Rattle.std.proofs.Common.{subst, length}
use Rattle.std.proofs.lemmas.Result.{err_from_is_err_and}
use Rattle.cat_scope.specs.Names.{IsOneOf}
use Rattle.cat_verify.specs.inside.GoodNumbers.{NumbersCause, EntriesCause}
use Rattle.cat_verify.proofs.OneOf.{in_front, in_back}
use Rattle.cat_verify.proofs.NumberLemmas.{if_err, entries_cause}
use Rattle.cat_verify.proofs.numbers.refuse_numbers.Goals as goal

pub returns-in_err-refuse_entries-clause-cause : goal.returns-in_err-refuse_entries-clause-cause
returns-in_err-refuse_entries-clause-cause c =
    let tables = c.args.tables.now in
    let r = c.from_residual-in_err-refuse_entries in
    let why = err_from_is_err_and r.result r.ensures.1 in
    rw (why.1, why.2) (entries_cause tables c.args.code.now c.as_slice.result.now
    (λ e one. in_front e tables.scopes tables.functions (subst (IsOneOf e) c.as_slice.ensures one))
    c.in_err-refuse_entries.field-0.0 c.in_err-refuse_entries.ensures.cause)

pub returns-clause-cause : goal.returns-clause-cause
returns-clause-cause c =
    let tables = c.args.tables.now in
    let code = c.args.code.now in
    let entries = c.as_slice-2.result.now in
    if_err (EntriesCause entries (length code)) (NumbersCause tables code) c.refuse_entries-2.result
    c.refuse_entries-2.ensures.cause
    (entries_cause tables code entries
    (λ e one. in_back e tables.scopes tables.functions (subst (IsOneOf e) c.as_slice-2.ensures one)))
