use Rattle.std.proofs.Common.{◌∙◌, ap, subst, sym}
use Rattle.std.proofs.lemmas.Result.{err_from_is_err_and}
use Rattle.cat_code.specs.declared.code.Code.{Code}
use Rattle.cat_code.specs.Valid.{IsValid}
use Rattle.cat_verify.proofs.VerifyLemmas.{table_cause, code_cause, verified}
use Rattle.cat_verify.proofs.PreparedLemmas.{prepared}
use Rattle.cat_verify.proofs.verifying.verify.Goals as goal

pub returns-in_err-told-clause-cause : goal.returns-in_err-told-clause-cause
returns-in_err-told-clause-cause c =
    let p = err_from_is_err_and c.from_residual.result c.from_residual.ensures.1 in
    rw (p.1, p.2) (table_cause c.args.image c.in_err-told.field-0.0 c.in_err-told.ensures.cause)

pub refuse_code-requires : goal.refuse_code-requires
refuse_code-requires c =
    prepared c.args.image c.in_ok-told.told c.instructions-code.result.now c.as_slice-functions.result.now
    c.as_slice.result.now c.in_ok-told.ensures.told c.an_image_has_few_rows.ensures c.instructions-code.ensures
    c.as_slice-functions.ensures c.as_slice.ensures

pub returns-in_err-refuse_code-clause-cause : goal.returns-in_err-refuse_code-clause-cause
returns-in_err-refuse_code-clause-cause c =
    let r = c.from_residual-in_err-refuse_code in
    let p = err_from_is_err_and r.result r.ensures.1 in
    rw (p.1, p.2) (code_cause c.args.image c.in_ok-told.told c.in_ok-told.ensures.told c.instructions-code.result.now
    c.instructions-code.ensures c.in_err-refuse_code.field-0.0 c.in_err-refuse_code.ensures.cause)

pub from_parts-code-requires : goal.from_parts-code-requires
from_parts-code-requires c =
    (∣ subst (IsValid c.in_ok-told.told.tables) c.instructions-code.ensures
    c.in_ok-refuse_code.ensures.good.valid ∣₁)

pub returns-clause-verified : goal.returns-clause-verified
returns-clause-verified c =
    verified c.args.image c.in_ok-told.told c.in_ok-told.ensures.told c.instructions-code.result.now
    c.instructions-code.ensures c.new.result.code c.new.result.files c.in_ok-refuse_code.ensures.good
    (ap (λ (made : Code). made.tables) c.new.ensures.code ∙ c.from_parts-code.ensures.tables)
    (ap (λ (made : Code). made.instructions) c.new.ensures.code ∙ c.from_parts-code.ensures.instructions
    ∙ sym c.instructions-code.ensures)
    c.new.ensures.files
