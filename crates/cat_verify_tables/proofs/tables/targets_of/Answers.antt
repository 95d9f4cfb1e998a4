use Rattle.std.proofs.lemmas.Result.{err_from_is_err_and}
use Rattle.cat_verify_tables.specs.inside.Causes.{IsFaulty}
use Rattle.cat_verify_tables.specs.inside.TargetNaming.{IsWrongEntry}
use Rattle.cat_verify_tables.proofs.AllTold.{target_faults, targets_told}
use Rattle.cat_verify_tables.proofs.HeaderLemmas.{has_cause}
use Rattle.cat_verify_tables.proofs.tables.targets_of.Goals as goal

pub returns-in_err-targets-clause-cause : goal.returns-in_err-targets-clause-cause
returns-in_err-targets-clause-cause c =
    let p = err_from_is_err_and c.from_residual-in_err-targets.result c.from_residual-in_err-targets.ensures.1 in
    let image = c.args.image.now in
    let decls = c.get-decls.result.now in
    let files = c.len-files.result in
    let lines = c.as_slice.result.now in
    rw (p.1, p.2) (has_cause image (IsFaulty (λ _. IsWrongEntry decls files) c.args.first lines)
    (target_faults image c.args.declared.now c.requires.declared decls files lines c.get-decls.ensures
    c.len-files.ensures c.as_slice.ensures c.args.first c.requires.first)
    c.in_err-targets.field-0.0 c.in_err-targets.ensures.cause)

pub returns-clause-told : goal.returns-clause-told
returns-clause-told c = targets_told c.args.image.now c.args.declared.now c.requires.declared c.get-decls.result.now
    c.len-files.result c.as_slice.result.now c.get-decls.ensures c.len-files.ensures c.as_slice.ensures
    c.in_ok-targets.targets c.in_ok-targets.ensures.told
