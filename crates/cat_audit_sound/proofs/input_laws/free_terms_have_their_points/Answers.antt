use Rattle.std.proofs.Common.{subst}
use Rattle.cat_value.specs.Laws.{AreSound}
use Rattle.cat_audit_sound.proofs.ShownPoints.{scope_shows}
use Rattle.cat_audit_sound.proofs.input_laws.free_terms_have_their_points.Goals as goal

pub returns : goal.returns
returns c scope table region env arguments i term scoped is_region dims some given at free =
    scope_shows c.args.program.now.decls c.args.program.now.bodies c.args.program.now.scope_order scope table region env
    arguments i term c.programs_are_well_formed.ensures
    (λ n k s item there also.
    ((subst AreSound c.decls.ensures c.declarations_are_sound.ensures).items n k s item there also).low)
    scoped is_region dims some given at free
