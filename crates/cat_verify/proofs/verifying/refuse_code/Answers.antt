use Rattle.std.proofs.Common.{sym, subst}
use Rattle.std.proofs.lemmas.Result.{err_from_is_err_and}
use Rattle.cat_verify_shapes.specs.Owned.{AreOwners}
use Rattle.cat_verify.proofs.VerifyLemmas.{numbered_cause, back_cause, owners_cause, settled, shape_cause, good}
use Rattle.cat_verify.proofs.verifying.refuse_code.Goals as goal

pub returns-in_err-refuse_unnumbered-clause-cause : goal.returns-in_err-refuse_unnumbered-clause-cause
returns-in_err-refuse_unnumbered-clause-cause c =
    let p = err_from_is_err_and c.from_residual.result c.from_residual.ensures.1 in
    rw (p.1, p.2) (numbered_cause c.args.tables.now c.args.code.now c.in_err-refuse_unnumbered.field-0.0
    c.in_err-refuse_unnumbered.ensures.cause)

pub returns-in_err-refuse_back-clause-cause : goal.returns-in_err-refuse_back-clause-cause
returns-in_err-refuse_back-clause-cause c =
    let r = c.from_residual-in_err-refuse_back in
    let p = err_from_is_err_and r.result r.ensures.1 in
    rw (p.1, p.2) (back_cause c.args.tables.now c.args.code.now c.args.functions.now c.args.types.now c.requires
    c.in_ok-refuse_unnumbered.ensures.orderly c.in_ok-refuse_unnumbered.ensures.home c.in_err-refuse_back.field-0.0
    c.in_err-refuse_back.ensures.cause)

pub returns-in_err-owners-clause-cause : goal.returns-in_err-owners-clause-cause
returns-in_err-owners-clause-cause c =
    let r = c.from_residual-in_err-owners in
    let p = err_from_is_err_and r.result r.ensures.1 in
    rw (p.1, p.2) (owners_cause c.args.tables.now c.args.code.now c.args.functions.now c.args.types.now c.requires
    c.in_ok-refuse_unnumbered.ensures.orderly c.in_ok-refuse_unnumbered.ensures.home c.in_err-owners.field-0.0
    c.in_err-owners.ensures.cause)

pub refuse_shapes-requires-clause-settled : goal.refuse_shapes-requires-clause-settled
refuse_shapes-requires-clause-settled c =
    settled c.args.tables.now c.args.code.now c.args.functions.now c.args.types.now c.requires
    c.in_ok-refuse_unnumbered.ensures.orderly c.in_ok-refuse_unnumbered.ensures.home
    c.in_ok-refuse_back.ensures.forward c.in_ok-owners.ensures.apart

pub refuse_shapes-requires-clause-owners : goal.refuse_shapes-requires-clause-owners
refuse_shapes-requires-clause-owners c =
    subst (AreOwners c.args.tables.now c.args.code.now) (sym c.as_slice.ensures) c.in_ok-owners.ensures.owners

pub returns-in_err-refuse_shapes-clause-cause : goal.returns-in_err-refuse_shapes-clause-cause
returns-in_err-refuse_shapes-clause-cause c =
    let r = c.from_residual-in_err-refuse_shapes in
    let p = err_from_is_err_and r.result r.ensures.1 in
    rw (p.1, p.2) (shape_cause c.args.tables.now c.args.code.now c.args.functions.now c.args.types.now c.requires
    c.in_ok-refuse_unnumbered.ensures.orderly c.in_ok-refuse_unnumbered.ensures.home
    c.in_ok-refuse_back.ensures.forward c.in_ok-owners.ensures.apart c.in_err-refuse_shapes.field-0.0
    c.in_err-refuse_shapes.ensures.cause)

pub returns-clause-good : goal.returns-clause-good
returns-clause-good c =
    good c.args.tables.now c.args.code.now c.args.functions.now c.args.types.now c.requires
    c.in_ok-refuse_unnumbered.ensures.orderly c.in_ok-refuse_unnumbered.ensures.home
    c.in_ok-refuse_back.ensures.forward c.in_ok-owners.ensures.apart c.in_ok-refuse_shapes.ensures.shaped
