use Rattle.std.proofs.Common.{◌≤◌, ◌∙◌, ◌++◌, List, length, rules, ap, arith, string_bytes, sym}
use Rattle.cat_audit.specs.declared.report.Section.{Section}
use Rattle.cat_audit.specs.ReportTexts.{report_text, section_text}
use Rattle.cat_audit.specs.RunsAgain.{AreReadBack}
use Rattle.cat_audit.proofs.BackLemmas.{leads_first, leads_next, leads_past, next_is, part_behind}
use Rattle.cat_audit.proofs.text.report_text.Goals as goal

pub loop-section-init : goal.loop-section-init
loop-section-init c = (search rules, leads_first _ c.args.sections.now)

pub loop-section-preserved : goal.loop-section-preserved
loop-section-preserved c =
    let l = c.loop-section in
    let sections = c.args.sections.now in
    let x = c.section-item.result in
    let next = next_is sections l.section-index x c.loop-section-test.true c.section-item.is in (
      part_behind (string_bytes l.text) _ (section_text c.args.decls.now c.args.files.now c.args.budget x) _ _
          (search rules)
          (ap (λ (ss : List Section). string_bytes l.text
          ++ report_text c.args.decls.now c.args.files.now c.args.budget ss) (sym next)
          ∙ l.invariant.0),
      leads_next (AreReadBack c.args.decls.now) sections l.section-index x c.loop-section-test.true
          c.section-item.is (search rules) l.invariant.1,
    )

pub returns-clause-back : goal.returns-clause-back
returns-clause-back c =
    let l = c.loop-section in
    let all : length c.args.sections.now ≤ l.section-index = omega (arith, c.loop-section-test.false) in
    leads_past (AreReadBack c.args.decls.now) c.args.sections.now l.section-index all l.invariant.1
