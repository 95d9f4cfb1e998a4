use Rattle.cat_audit.proofs.CompleteLemmas.{no_gaps}
use Rattle.cat_audit.proofs.laws.complete_scopes_leave_no_gap.Goals as goal

pub returns : goal.returns
returns c scope budget report is =
    no_gaps c.args.program.now scope budget report is
    (λ scopes are. c.audited_scopes_have_what_they_call.ensures.once scope scopes are)
    c.closed_trees_cover_each_valuation.ensures.nodes c.audited_programs_have_no_gap.ensures
