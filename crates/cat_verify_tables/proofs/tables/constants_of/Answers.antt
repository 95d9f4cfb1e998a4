use Rattle.std.proofs.Common.{refl}
use Rattle.std.proofs.lemmas.Result.{err_from_is_err_and}
use Rattle.cat_verify_tables.proofs.AllTold.{constant_faults, constants_told, heights_are}
use Rattle.cat_verify_tables.proofs.HeaderLemmas.{has_cause}
use Rattle.cat_verify_tables.proofs.tables.constants_of.Goals as goal

pub constants-requires : goal.constants-requires
constants-requires c =
    heights_are c.args.image.now c.args.declared.now c.requires.declared c.get.result.now c.get.ensures

pub returns-in_err-constants-clause-cause : goal.returns-in_err-constants-clause-cause
returns-in_err-constants-clause-cause c =
    let p = err_from_is_err_and c.from_residual.result c.from_residual.ensures.1 in
    let image = c.args.image.now in
    rw (p.1, p.2) (has_cause image _
    (constant_faults image c.args.declared.now c.requires.declared _ c.get.ensures refl c.as_slice.result.now
    c.as_slice.ensures c.args.first c.requires.first)
    c.in_err-constants.field-0.0 c.in_err-constants.ensures.cause)

pub returns-clause-told : goal.returns-clause-told
returns-clause-told c = constants_told c.args.image.now c.args.declared.now c.requires.declared _ c.get.ensures refl
    c.as_slice.result.now c.as_slice.ensures c.in_ok-constants.constants c.in_ok-constants.ensures.told
