use Rattle.std.proofs.Common.{◌≡◌, subst}
use Rattle.cat_audit.specs.Reports.{IsReport}
use Rattle.cat_app.proofs.Audits.{has_body}
use Rattle.cat_app.proofs.Replies.{if_ok}
use Rattle.cat_app.proofs.audited.report_of.Goals as goal

pub audit-requires-clause-counted : goal.audit-requires-clause-counted
audit-requires-clause-counted c =
    let program = c.args.built.now.program in record {
      definitions = c.accepted_programs_are_counted.ensures.definitions c.args.source.now.pieces program
          c.requires.built.accepted;
      cases = c.accepted_programs_are_counted.ensures.cases c.args.source.now.pieces program
          c.requires.built.accepted;
    }

pub audit-requires-clause-scope : goal.audit-requires-clause-scope
audit-requires-clause-scope c =
    let program = c.args.built.now.program in
    has_body program.decls program.bodies program.scope_order c.args.scope c.programs_are_well_formed.ensures
    c.requires.scope

pub returns : goal.returns
returns c =
    let program = c.args.built.now.program in
    let within = has_body program.decls program.bodies program.scope_order c.args.scope
    c.programs_are_well_formed.ensures c.requires.scope in
    let same : c.from.result ≡ c.args.most = cc (c.from.ensures) in
    if_ok c.audit.result c.audit.ensures (λ report made.
    let is : IsReport program c.args.scope c.args.most report =
    subst (λ n. IsReport program c.args.scope n report) same made in
    record {
      report_is = is;
      no_gaps = c.complete_scopes_leave_no_gap.ensures c.args.scope c.args.most report is;
      no_gap = c.complete_audits_leave_no_gap.ensures.no_gap c.args.scope c.args.most report within is;
      closed = c.complete_audits_have_closed_trees.ensures c.args.scope c.args.most report within is;
      underived = λ plain.
          c.plain_scopes_are_decided.ensures.underived c.args.scope c.args.most report plain is;
      decided = λ plain cells.
          c.plain_scopes_are_decided.ensures.lines c.args.scope c.args.most report plain cells is;
      whole = λ plain cells none.
          c.plain_scopes_are_decided.ensures.verdict c.args.scope c.args.most report plain cells none is;
    })
