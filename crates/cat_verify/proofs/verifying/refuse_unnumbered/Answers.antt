use Rattle.std.proofs.lemmas.Result.{err_from_is_err_and}
use Rattle.cat_verify.proofs.VerifyLemmas.{surplus_cause, numbers_cause, abroad_cause}
use Rattle.cat_verify.proofs.PreparedLemmas.{orderly}
use Rattle.cat_verify.proofs.verifying.refuse_unnumbered.Goals as goal

pub returns-in_err-refuse_surplus-clause-cause : goal.returns-in_err-refuse_surplus-clause-cause
returns-in_err-refuse_surplus-clause-cause c =
    let p = err_from_is_err_and c.from_residual.result c.from_residual.ensures.1 in
    rw (p.1, p.2) (surplus_cause c.args.tables.now c.args.code.now c.in_err-refuse_surplus.field-0.0
    c.in_err-refuse_surplus.ensures.cause)

pub returns-in_err-refuse_numbers-clause-cause : goal.returns-in_err-refuse_numbers-clause-cause
returns-in_err-refuse_numbers-clause-cause c =
    let r = c.from_residual-in_err-refuse_numbers in
    let p = err_from_is_err_and r.result r.ensures.1 in
    rw (p.1, p.2) (numbers_cause c.args.tables.now c.args.code.now c.in_err-refuse_numbers.field-0.0
    c.in_err-refuse_numbers.ensures.cause)

pub refuse_abroad-requires : goal.refuse_abroad-requires
refuse_abroad-requires c =
    orderly c.args.tables.now c.args.code.now c.args.functions.now c.args.types.now c.requires
    c.in_ok-refuse_surplus.ensures.none c.in_ok-refuse_numbers.ensures.good

pub returns-in_err-refuse_abroad-clause-cause : goal.returns-in_err-refuse_abroad-clause-cause
returns-in_err-refuse_abroad-clause-cause c =
    let r = c.from_residual-in_err-refuse_abroad in
    let p = err_from_is_err_and r.result r.ensures.1 in
    rw (p.1, p.2) (abroad_cause c.args.tables.now c.args.code.now c.in_err-refuse_abroad.field-0.0
    c.in_err-refuse_abroad.ensures.cause)

pub returns-clause-orderly : goal.returns-clause-orderly
returns-clause-orderly c =
    orderly c.args.tables.now c.args.code.now c.args.functions.now c.args.types.now c.requires
    c.in_ok-refuse_surplus.ensures.none c.in_ok-refuse_numbers.ensures.good
