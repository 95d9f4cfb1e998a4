use Rattle.std.proofs.Common.{rules, ◌≡◌, arith, length, subst, inl, inr, Some, None}
use Rattle.std.specs.Prelude.{slice_get}
use Rattle.cat_verify.specs.WrongCode.{IsUndeclared}
use Rattle.cat_verify.proofs.OneOf.{past_of}
use Rattle.cat_verify.proofs.VerifyLemmas.{surplus_inside, surplus_outside}
use Rattle.cat_verify.proofs.verifying.refuse_surplus.Goals as goal

pub returns-in_default-clause-none : goal.returns-in_default-clause-none
returns-in_default-clause-none c =
    let none : slice_get c.args.tables.now.functions (length c.args.functions.now) ≡ None = search rules in
    past_of c.args.tables.now.functions (length c.args.functions.now) none

pub returns-then-place-code-clause-cause : goal.returns-then-place-code-clause-cause
returns-then-place-code-clause-cause c =
    let some : slice_get c.args.tables.now.functions (length c.args.functions.now) ≡ Some c.in-Some.entry =
    search rules in
    let test = c.if-place-code.true in
    let same : c.in-Some.entry ≡ c.in-Some.field-0.now = search rules in
    inl (subst (IsUndeclared c.args.tables.now c.args.code.now) same
    (surplus_inside c.args.tables.now c.args.code.now c.args.functions.now c.requires c.in-Some.entry some
    (omega (arith, test))))

pub returns-clause-cause : goal.returns-clause-cause
returns-clause-cause c =
    let some : slice_get c.args.tables.now.functions (length c.args.functions.now) ≡ Some c.in-Some.entry =
    search rules in
    let test = c.if-place-code.false in
    inr (surplus_outside c.args.tables.now c.args.code.now c.args.functions.now c.requires c.in-Some.entry some
    (omega (arith, test)))
