use Rattle.cat_audit.proofs.CompleteLemmas.{all_are_complete, none_left}
use Rattle.cat_audit.proofs.laws.complete_audits_leave_no_gap.Goals as goal

pub returns-clause-complete : goal.returns-clause-complete
returns-clause-complete c scope budget report within is last =
    all_are_complete c.args.program.now scope budget report is
    (λ scopes are. c.audited_scopes_have_what_they_call.ensures.once scope scopes are)
    (λ scopes are. c.audited_scopes_have_what_they_call.ensures.reached scope scopes are)
    (λ scopes are. c.audited_scopes_end_with_the_audited_one.ensures scope scopes within are) last

pub returns-clause-no_gap : goal.returns-clause-no_gap
returns-clause-no_gap c scope budget report within is last =
    none_left c.args.program.now scope budget report is
    (λ scopes are. c.audited_scopes_have_what_they_call.ensures.once scope scopes are)
    (λ scopes are. c.audited_scopes_have_what_they_call.ensures.reached scope scopes are)
    (λ scopes are. c.audited_scopes_end_with_the_audited_one.ensures scope scopes within are) last
    c.closed_trees_cover_each_valuation.ensures.nodes c.audited_programs_have_no_gap.ensures
