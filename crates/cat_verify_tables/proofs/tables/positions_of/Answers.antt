use Rattle.std.proofs.lemmas.Result.{err_from_is_err_and}
use Rattle.cat_verify_tables.specs.inside.Causes.{IsFaulty}
use Rattle.cat_verify_tables.specs.inside.FoundPlaces.{IsPosLost}
use Rattle.cat_verify_tables.proofs.AllTold.{position_faults, positions_told}
use Rattle.cat_verify_tables.proofs.HeaderLemmas.{has_cause}
use Rattle.cat_verify_tables.proofs.tables.positions_of.Goals as goal

pub returns-in_err-places-clause-cause : goal.returns-in_err-places-clause-cause
returns-in_err-places-clause-cause c =
    let p = err_from_is_err_and c.from_residual.result c.from_residual.ensures.1 in
    let lines = c.as_slice-lines.result.now in
    rw (p.1, p.2) (has_cause c.args.image.now (IsFaulty (λ _. IsPosLost c.len.result) c.args.first lines)
    (position_faults c.args.image.now c.len.result lines c.len.ensures c.args.first c.requires c.as_slice-lines.ensures)
    c.in_err-places.field-0.0 c.in_err-places.ensures.cause)

pub returns-clause-told : goal.returns-clause-told
returns-clause-told c = positions_told c.args.image.now c.len.result c.as_slice-lines.result.now c.len.ensures
    c.args.image.now.positions c.as_slice-lines.ensures c.in_ok-places.places c.in_ok-places.ensures.told
