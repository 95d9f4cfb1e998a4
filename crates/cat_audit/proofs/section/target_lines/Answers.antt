use Rattle.std.proofs.Common.{rules, ◌≡◌, ◌++◌, ◌∷◌, [], ℕ, List, IfSome, Option, Some, add-one, slice_get}
use Rattle.std.proofs.Common.{take, length, refl, sym, ap, ◌∙◌, subst}
use Rattle.std.proofs.lemmas.Option.{slice_get_read}
use Rattle.cat_guard.specs.declared.table.TableTarget.{TableTarget}
use Rattle.cat_guard.specs.declared.tree.CaseTree.{CaseTree}
use Rattle.cat_audit.specs.Causes.{HasCause}
use Rattle.cat_audit.specs.Lines.{IsLineOf}
use Rattle.cat_audit.specs.declared.report.NamedLine.{NamedLine}
use Rattle.cat_audit.proofs.LineLemmas.{AreLinesTo, one_line, take_next}
use Rattle.cat_audit.proofs.section.target_lines.Goals as goal

pub loop-number-preserved : goal.loop-number-preserved
loop-number-preserved c =
    let program = c.args.program.now in
    let table = c.args.table.now in
    let budget = c.args.budget in
    let items = c.as_slice-target-items.result.now in
    let i = c.loop-number.number in
    let t = c.target-item.result in
    let m = c.in_ok-made.made in
    let at : slice_get table.targets i ≡ Some t =
    ap (λ (ts : List TableTarget). slice_get ts i) (sym c.as_slice-target-items.ensures)
    ∙ slice_get_read items (length items) i t refl c.loop-number-test.true c.target-item.is in
    let same : c.in-Ok.number ≡ i = search rules in
    let there : slice_get table.targets c.in-Ok.number ≡ Some t =
    ap (λ (k : ℕ). slice_get table.targets k) same ∙ at in
    let line = subst (λ (o : Option TableTarget). IfSome o (λ (x : TableTarget). IsLineOf program table x budget m))
    there c.in_ok-made.ensures.line in
    let cause = subst (λ (o : Option TableTarget). IfSome o
    (λ (x : TableTarget). HasCause program table x budget m.tree.nodes m.line)) there c.in_ok-made.ensures.cause in
    let named : record { name = c.in_ok-name.name; line = m.line } ≡ record { name = t.name; line = m.line } =
    ap (λ (n : List ℕ). record { name = n; line = m.line }) c.in_ok-name.ensures in
    let lines_are : c.push.new.self ≡ c.loop-number.lines ++ record { name = t.name; line = m.line } ∷ [] =
    c.in_ok-push.ensures.ok ∙ ap (λ (l : NamedLine). c.loop-number.lines ++ l ∷ []) named in
    let next = one_line program table budget (take i table.targets) c.args.trees.now c.loop-number.trees
    c.loop-number.lines c.loop-number.invariant.lines t m line cause in
    let lines = subst (λ (ts : List TableTarget). AreLinesTo program table budget ts c.args.trees.now
    c.push-in-loop-number.new.self
    c.push.new.self) (sym (ap (λ (k : ℕ). take k table.targets) (add-one i) ∙ take_next table.targets i t at))
    (subst (λ (cs : List CaseTree). AreLinesTo program table budget (take i table.targets ++ t ∷ []) c.args.trees.now cs
    c.push.new.self) (sym c.in_ok-push-2.ensures.ok)
    (subst (λ (ls : List NamedLine). AreLinesTo program table budget (take i table.targets ++ t ∷ []) c.args.trees.now
    (c.loop-number.trees ++ m.tree ∷ []) ls) (sym lines_are) next)) in
    record { lines = lines; whole = c.in_ok-made.ensures.back ∙ c.loop-number.invariant.whole }
