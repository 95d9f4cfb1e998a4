use Rattle.std.proofs.Common.{◌≤◌, ◌∙◌, ◌++◌, List, length, rules, ap, arith, string_bytes, sym}
use Rattle.cat_audit.specs.declared.report.NamedLine.{NamedLine}
use Rattle.cat_audit.specs.ReportLines.{target_line}
use Rattle.cat_audit.specs.ReportTexts.{target_lines}
use Rattle.cat_audit.specs.RunsAgain.{IsReadBack, OfLine}
use Rattle.cat_audit.proofs.BackLemmas.{leads_first, leads_next, leads_past, line_behind, next_is}
use Rattle.cat_audit.proofs.text.push_targets.Goals as goal

pub loop-line-init : goal.loop-line-init
loop-line-init c = (search rules, leads_first _ c.args.lines.now)

pub loop-line-preserved : goal.loop-line-preserved
loop-line-preserved c =
    let l = c.loop-line in
    let lines = c.args.lines.now in
    let x = c.line-item.result in
    let next = next_is lines l.line-index x c.loop-line-test.true c.line-item.is in (
      line_behind (string_bytes l.text) _
          (target_line c.args.decls.now c.args.scope c.args.files.now c.args.budget x) _ _ (search rules)
          (ap (λ (ls : List NamedLine). string_bytes l.text
          ++ target_lines c.args.decls.now c.args.scope c.args.files.now c.args.budget ls) (sym next)
          ∙ l.invariant.0),
      leads_next (λ n. OfLine (IsReadBack c.args.decls.now c.args.scope) n.line) lines l.line-index x
          c.loop-line-test.true c.line-item.is c.in_ok-line.ensures.back l.invariant.1,
    )

pub returns-clause-back : goal.returns-clause-back
returns-clause-back c =
    let l = c.loop-line in
    let all : length c.args.lines.now ≤ l.line-index = omega (arith, c.loop-line-test.false) in
    leads_past (λ n. OfLine (IsReadBack c.args.decls.now c.args.scope) n.line) c.args.lines.now l.line-index all
    l.invariant.1
