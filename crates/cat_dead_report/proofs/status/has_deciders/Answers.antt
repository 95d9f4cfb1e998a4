use Rattle.std.proofs.Common.{◌∙◌, List, ℕ, slice_get, ap}
use Rattle.std.specs.List.{list_all}
use Rattle.cat_dead_report.specs.DeadReports.{is_decider}
use Rattle.cat_dead_report.proofs.WritingLemmas.{decider_there}
use Rattle.cat_dead_report.proofs.status.has_deciders.Goals as goal

pub returns : goal.returns
returns c =
    let f = c.args.found.now in
    c.deciders_at.ensures
    ∙ ap (λ (places : List ℕ). list_all (λ (place : ℕ). is_decider (slice_get f.lines place)) places) c.as_slice.ensures
    ∙ decider_there f
