use Rattle.std.proofs.Common.{◌≡◌, ◌∙◌, Option, Some, None, OnOk, if◌then◌else◌, ap, sym, subst, rules}
use Rattle.cat_guard.specs.declared.table.InputPath.{InputPath}
use Rattle.cat_audit_sound.specs.PointInputs.{is_at}
use Rattle.cat_audit_sound.specs.inside.PointTables.{earlier, found_in}
use Rattle.cat_audit_sound.proofs.PointTableLemmas.{earlier_none}
use Rattle.cat_audit_sound.proofs.points.add_term.Goals as goal

pub returns-in-Some : goal.returns-in-Some
returns-in-Some c =
    let some : c.args.term.now.path ≡ Some c.in-Some.path = search rules in
    subst (λ (p : Option InputPath). OnOk c.add_point.result ((other : InputPath)
    → found_in c.add_point.new.points other
    ≡ earlier (found_in c.args.points.now other) (if is_at other p then Some c.args.point else None)))
    (sym some) c.add_point.ensures

pub returns-in-None : goal.returns-in-None
returns-in-None c path =
    let none : c.args.term.now.path ≡ None = search rules in
    sym (ap (λ (p : Option InputPath). earlier (found_in c.args.points.now path)
    (if is_at path p then Some c.args.point else None)) none
    ∙ earlier_none (found_in c.args.points.now path))
