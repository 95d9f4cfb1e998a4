use Rattle.std.proofs.Common.{◌≡◌, subst}
use Rattle.cat_dead_report.specs.DeadReports.{IsDeadReport}
use Rattle.cat_app.proofs.Audits.{has_body}
use Rattle.cat_app.proofs.Replies.{if_ok}
use Rattle.cat_app.proofs.dead.report_of.Goals as goal

pub dead_report-requires-clause-counted : goal.dead_report-requires-clause-counted
dead_report-requires-clause-counted c =
    let program = c.args.built.now.program in record {
      definitions = c.accepted_programs_are_counted.ensures.definitions c.args.source.now.pieces program
          c.requires.built.accepted;
      cases = c.accepted_programs_are_counted.ensures.cases c.args.source.now.pieces program
          c.requires.built.accepted;
    }

pub dead_report-requires-clause-scope : goal.dead_report-requires-clause-scope
dead_report-requires-clause-scope c =
    let program = c.args.built.now.program in
    has_body program.decls program.bodies program.scope_order c.args.scope c.programs_are_well_formed.ensures
    c.requires.scope

pub returns : goal.returns
returns c =
    let program = c.args.built.now.program in
    let files = c.args.source.now.files in
    let same : c.from.result ≡ c.args.most = cc (c.from.ensures) in
    if_ok c.dead_report.result c.dead_report.ensures (λ report made.
    let is : IsDeadReport program files c.args.scope c.args.most report =
    subst (λ n. IsDeadReport program files c.args.scope n report) same made in
    record {
      report_is = is;
      decided = λ plain cells.
          c.plain_scopes_have_decided_lines.ensures files c.args.scope c.args.most report plain cells is;
    })
