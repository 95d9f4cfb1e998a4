use Rattle.std.proofs.lemmas.Result.{err_from_is_err_and}
use Rattle.cat_verify_tables.specs.inside.Causes.{IsFaulty}
use Rattle.cat_verify_tables.specs.inside.FoundPlaces.{IsPosLost}
use Rattle.cat_verify_tables.proofs.AllTold.{definition_faults, positions_told}
use Rattle.cat_verify_tables.proofs.HeaderLemmas.{has_cause}
use Rattle.cat_verify_tables.proofs.tables.definitions_of.Goals as goal

pub returns-in_err-definitions-clause-cause : goal.returns-in_err-definitions-clause-cause
returns-in_err-definitions-clause-cause c =
    let p = err_from_is_err_and c.from_residual.result c.from_residual.ensures.1 in
    let lines = c.as_slice-lines.result.now in
    rw (p.1, p.2) (has_cause c.args.image.now (IsFaulty (λ _. IsPosLost c.len.result) c.args.first lines)
    (definition_faults c.args.image.now c.len.result lines c.len.ensures c.args.first c.requires
    c.as_slice-lines.ensures)
    c.in_err-definitions.field-0.0 c.in_err-definitions.ensures.cause)

pub returns-clause-told : goal.returns-clause-told
returns-clause-told c = positions_told c.args.image.now c.len.result c.as_slice-lines.result.now c.len.ensures
    c.args.image.now.definitions c.as_slice-lines.ensures c.in_ok-definitions.definitions
    c.in_ok-definitions.ensures.told
