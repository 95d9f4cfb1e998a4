use Rattle.std.proofs.Common.{rules, ◌∙◌, subst}
use Rattle.std.proofs.lemmas.Result.{err_from_is_err_and}
use Rattle.cat_verify.specs.inside.Starts.{scope_starts, function_starts}
use Rattle.cat_verify.specs.inside.OwnerNumbers.{NoneShared}
use Rattle.cat_verify.proofs.AbroadLemmas.{stamps_as}
use Rattle.cat_verify.proofs.OwnerLemmas.{shared_cause}
use Rattle.cat_verify.proofs.owners.owner_stamps.Goals as goal

pub returns-in_err-refuse_shared-clause-cause : goal.returns-in_err-refuse_shared-clause-cause
returns-in_err-refuse_shared-clause-cause c =
    let r = c.from_residual-in_err-refuse_shared in
    let why = err_from_is_err_and r.result r.ensures.1 in
    let are = stamps_as c.args.code.now (scope_starts c.args.tables.now) c.as_slice.result.now
    (function_starts c.args.tables.now) c.as_slice-2.result.now c.in_ok-marks.marks.items c.deref.result.now
    c.in_ok-marks.ensures (c.as_slice.ensures ∙ c.in_ok-starts.ensures) (c.as_slice-2.ensures ∙ c.in_ok-calls.ensures)
    c.deref.ensures.value in
    rw (why.1, why.2) (shared_cause c.args.tables.now c.args.code.now c.args.functions.now c.deref.result.now
    c.requires.orderly are c.in_err-refuse_shared.field-0.0 c.in_err-refuse_shared.ensures.cause)

pub returns-clause-stamps : goal.returns-clause-stamps
returns-clause-stamps c =
    stamps_as c.args.code.now (scope_starts c.args.tables.now) c.as_slice.result.now
    (function_starts c.args.tables.now) c.as_slice-2.result.now c.in_ok-marks.marks.items c.in_ok-marks.marks.items
    c.in_ok-marks.ensures (c.as_slice.ensures ∙ c.in_ok-starts.ensures) (c.as_slice-2.ensures ∙ c.in_ok-calls.ensures)
    (search rules)

pub returns-clause-single : goal.returns-clause-single
returns-clause-single c = subst NoneShared c.deref.ensures.value c.in_ok-refuse_shared.ensures.none
