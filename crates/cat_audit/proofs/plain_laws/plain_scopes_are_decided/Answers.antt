use Rattle.std.proofs.lemmas.Option.{slice_get_within}
use Rattle.cat_audit.proofs.PlainSections.{all_decided, all_told, all_underived}
use Rattle.cat_audit.proofs.plain_laws.plain_scopes_are_decided.Goals as goal

pub returns-clause-underived : goal.returns-clause-underived
returns-clause-underived c scope budget report plain is =
    all_underived c.args.program.now scope budget report plain is
    (λ scopes are. c.audited_scopes_have_what_they_call.ensures.once scope scopes are)
    (λ scopes are. c.audited_scopes_have_what_they_call.ensures.reached scope scopes are)
    (λ scopes are. c.audited_scopes_end_with_the_audited_one.ensures scope scopes
    (slice_get_within c.args.program.now.bodies scope plain.1 plain.3) are)

pub returns-clause-lines : goal.returns-clause-lines
returns-clause-lines c scope budget report plain within is =
    all_decided c.args.program.now scope budget report plain is
    (λ scopes are. c.audited_scopes_have_what_they_call.ensures.once scope scopes are)
    (λ scopes are. c.audited_scopes_have_what_they_call.ensures.reached scope scopes are)
    (λ scopes are. c.audited_scopes_end_with_the_audited_one.ensures scope scopes
    (slice_get_within c.args.program.now.bodies scope plain.1 plain.3) are) within

pub returns-clause-verdict : goal.returns-clause-verdict
returns-clause-verdict c scope budget report plain within none is =
    let below = slice_get_within c.args.program.now.bodies scope plain.1 plain.3 in
    all_told c.args.program.now scope budget report plain is
    (λ scopes are. c.audited_scopes_have_what_they_call.ensures.once scope scopes are)
    (λ scopes are. c.audited_scopes_have_what_they_call.ensures.reached scope scopes are)
    (λ scopes are. c.audited_scopes_end_with_the_audited_one.ensures scope scopes below are) within none
    (λ last. c.complete_audits_leave_no_gap.ensures.no_gap scope budget report below is last)
