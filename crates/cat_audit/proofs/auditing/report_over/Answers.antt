use Rattle.std.proofs.Common.{◌+◌, List, set, subst, sym, take}
use Rattle.cat_audit.specs.declared.report.Section.{Section}
use Rattle.cat_audit.specs.declared.report.Verdict.{Verdict}
use Rattle.cat_audit.specs.inside.Underway.{MakesSection}
use Rattle.cat_audit.proofs.TurnLemmas.{turn}
use Rattle.cat_audit.proofs.UnderwayLemmas.{IsUnderWay}
use Rattle.cat_audit.proofs.auditing.report_over.Goals as goal

pub loop-table-preserved : goal.loop-table-preserved
loop-table-preserved c =
    let program = c.args.program.now in
    let items = c.as_slice-table-items.result.now in
    let t = c.table-item.result in
    let s = c.in_ok-section.section in
    let makes = subst (λ (vs : List Verdict). MakesSection program c.args.budget vs t c.loop-table.trees
    c.section_of.new.trees s) c.deref.ensures.value c.in_ok-section.ensures in
    subst (λ (ss : List Section). IsUnderWay program c.args.budget (take (c.loop-table.table-index + 1) items)
    (set c.loop-table.verdicts.items t.scope s.verdict) ss c.section_of.new.trees)
    (sym c.in_ok-push.ensures.ok)
    (turn program c.args.scope c.args.tables items c.requires.tables c.as_slice-table-items.ensures
    c.loop-table.table-index t c.loop-table-test.true c.table-item.is c.programs_are_well_formed.ensures c.args.budget
    (λ scopes are. c.audited_scopes_have_what_they_call.ensures.behind c.args.scope scopes are)
    (λ scopes are. c.audited_scopes_have_what_they_call.ensures.once c.args.scope scopes are)
    c.loop-table.verdicts.items c.loop-table.sections c.loop-table.trees c.loop-table.invariant
    c.section_of.new.trees s makes)
