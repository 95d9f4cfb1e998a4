use Rattle.std.proofs.Common.{List, subst}
use Rattle.cat_region.specs.declared.dim.Dim.{Dim}
use Rattle.cat_region.specs.Chosen.{point_at}
use Rattle.cat_region.specs.Regions.{IsValuation}
use Rattle.cat_region.proofs.Exported.{Admits-point_at}
use Rattle.cat_dead_report.proofs.FaultlessLaws.{winners_decide}
use Rattle.cat_dead_report.proofs.deciding.winners_of_faultless_targets_decide.Goals as goal

pub returns : goal.returns
returns c region p is_region dims some of_free =
    let program = c.args.program.now in
    let table = c.args.table.now in
    let valid = subst (λ (xs : List Dim). IsValuation xs (point_at region)) dims
    (Admits-point_at region is_region some).valuation in
    winners_decide program c.programs_are_well_formed.ensures table c.requires
    c.judgings_of_regions_hold.ensures region p is_region dims some of_free
    (λ env arguments i term given at free. c.free_terms_have_their_points.ensures table.scope table region
    env arguments i term c.requires is_region dims some given at free)
    (c.inputs_of_valuations_are_well_typed.ensures table.scope table (point_at region) c.requires valid)
