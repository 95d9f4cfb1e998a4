use Rattle.std.proofs.Common.{List, subst}
use Rattle.cat_region.specs.declared.dim.Dim.{Dim}
use Rattle.cat_region.specs.Chosen.{point_at}
use Rattle.cat_region.specs.Regions.{IsValuation}
use Rattle.cat_region.proofs.Exported.{Admits-point_at}
use Rattle.cat_scope.specs.Names.{scope_items}
use Rattle.cat_scope.specs.Outcomes.{scope_outcome}
use Rattle.cat_audit_sound.specs.PointInputs.{input_at}
use Rattle.cat_audit_sound.proofs.Failures.{bad_fails, points_fail, points_give_none, uncovered_fails}
use Rattle.cat_audit_sound.proofs.leaf_laws.bad_regions_of_free_terms_fail.Goals as goal

pub returns-clause-uncovered : goal.returns-clause-uncovered
returns-clause-uncovered c scope input shown tabled typed valid shows =
    let ds = c.args.program.now.decls in
    let table = c.args.table.now in
    uncovered_fails ds (scope_items ds scope) table.terms table.atoms table.targets input
    (scope_outcome c.args.program.now scope input) shown (c.programs_go_on.ensures scope input typed)
    (λ outputs e. c.values_come_of_covered_targets.ensures scope input shown outputs tabled typed valid shows e)

pub returns-clause-shown : goal.returns-clause-shown
returns-clause-shown c scope input region shown tabled typed is_region dims free admits shows =
    let ds = c.args.program.now.decls in
    let table = c.args.table.now in
    let outcome = scope_outcome c.args.program.now scope input in
    let valid = subst (λ (xs : List Dim). IsValuation xs shown) dims admits.valuation in
    bad_fails table.terms table.atoms table.targets input outcome region shown c.bad_regions_cover_nothing.ensures
    (uncovered_fails ds (scope_items ds scope) table.terms table.atoms table.targets input outcome shown
    (c.programs_go_on.ensures scope input typed)
    (λ outputs e. c.values_come_of_covered_targets.ensures scope input shown outputs tabled typed valid shows e))
    is_region dims free admits

pub returns-clause-points : goal.returns-clause-points
returns-clause-points c scope region tabled is_region dims free some =
    let ds = c.args.program.now.decls in
    let table = c.args.table.now in
    let shown = point_at region in
    let input = input_at ds table shown in
    let outcome = scope_outcome c.args.program.now scope input in
    let admits = Admits-point_at region is_region some in
    let valid = subst (λ (xs : List Dim). IsValuation xs shown) dims admits.valuation in
    let typed = c.inputs_of_valuations_are_well_typed.ensures scope table shown tabled valid in
    points_fail outcome table.atoms table.targets input region
    (points_give_none ds c.args.program.now.bodies scope table tabled shown)
    (bad_fails table.terms table.atoms table.targets input outcome region shown c.bad_regions_cover_nothing.ensures
    (uncovered_fails ds (scope_items ds scope) table.terms table.atoms table.targets input outcome shown
    (c.programs_go_on.ensures scope input typed)
    (λ outputs e. c.values_come_of_covered_targets.ensures scope input shown outputs tabled typed valid
    (λ env arguments i term given at is_free. c.free_terms_have_their_points.ensures scope table region env arguments i
    term tabled is_region dims some given at is_free) e))
    is_region dims free admits)
