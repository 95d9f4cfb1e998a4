use Rattle.std.proofs.Common.{◌∙◌, List, ℕ, slice_get, ap}
use Rattle.std.specs.List.{list_any}
use Rattle.cat_dead_report.specs.DeadReports.{is_never}
use Rattle.cat_dead_report.proofs.WritingLemmas.{never_there}
use Rattle.cat_dead_report.proofs.status.has_never.Goals as goal

pub returns : goal.returns
returns c =
    let f = c.args.found.now in
    c.never_among.ensures
    ∙ ap (λ (places : List ℕ). list_any (λ (place : ℕ). is_never (slice_get f.lines place)) places) c.as_slice.ensures
    ∙ never_there f
