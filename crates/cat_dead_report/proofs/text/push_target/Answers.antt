use Rattle.std.proofs.Common.{rules, ◌≡◌, ◌∷◌, [], ◌++◌, ◌≤◌, ◌∙◌, List, ℕ, Some, length, slice_get, refl, sym, ap}
use Rattle.std.proofs.Common.{append-nil, arith, string_bytes}
use Rattle.std.specs.Option.{option_copied}
use Rattle.std.proofs.lemmas.Option.{slice_get_read}
use Rattle.cat_guard.specs.declared.guard.GuardDef.{GuardDef}
use Rattle.cat_cert.specs.Texts.{text_of}
use Rattle.cat_dead_report.specs.ReportLines.{dead_line}
use Rattle.cat_audit.proofs.BackLemmas.{line_behind}
use Rattle.cat_dead_report.proofs.WritingLemmas.{next_line, passed_line, passed_all}
use Rattle.cat_dead_report.proofs.text.push_target.Goals as goal

pub loop-number-preserved-in_default : goal.loop-number-preserved-in_default
loop-number-preserved-in_default c =
    let t = c.args.target.now in
    let f = c.args.found.now in
    let items = c.as_slice-definition-items.result.now in
    let l = c.loop-number in
    let d = c.definition-item.result in
    let at : slice_get t.defs l.number ≡ Some d =
    ap (λ (xs : List GuardDef). slice_get xs l.number) (sym c.as_slice-definition-items.ensures)
    ∙ slice_get_read items (length items) l.number d refl c.loop-number-test.true c.definition-item.is in
    ap (λ (ls : List (List ℕ)). string_bytes l.text ++ text_of ls)
    (sym (passed_line c.args.decls.now c.args.scope c.args.files.now c.args.budget t f l.number d at
    (sym c.line_of.ensures ∙ ap option_copied c.in_default.is))) ∙ l.invariant

pub loop-number-preserved : goal.loop-number-preserved
loop-number-preserved c =
    let ds = c.args.decls.now in
    let t = c.args.target.now in
    let f = c.args.found.now in
    let items = c.as_slice-definition-items.result.now in
    let l = c.loop-number in
    let d = c.definition-item.result in
    let m = c.in-Some.line.now in
    let at : slice_get t.defs l.number ≡ Some d =
    ap (λ (xs : List GuardDef). slice_get xs l.number) (sym c.as_slice-definition-items.ensures)
    ∙ slice_get_read items (length items) l.number d refl c.loop-number-test.true c.definition-item.is in
    let next = next_line ds c.args.scope c.args.files.now c.args.budget t f l.number d m at
    (sym c.line_of.ensures ∙ ap option_copied c.in-Some.is) in
    let said = dead_line ds c.args.scope c.args.files.now c.args.budget t d m in
    let grown : string_bytes c.push_line.new.text ≡ string_bytes l.text ++ (said ++ 10 ∷ []) = search rules in
    line_behind (string_bytes l.text) (string_bytes c.push_line.new.text) said _ _ grown
    (ap (λ (ls : List (List ℕ)). string_bytes l.text ++ text_of ls) (sym next) ∙ l.invariant)

pub returns : goal.returns
returns c =
    let ds = c.args.decls.now in
    let t = c.args.target.now in
    let f = c.args.found.now in
    let l = c.loop-number in
    let all = ap length c.as_slice-definition-items.ensures in
    let past : length t.defs ≤ l.number = omega (arith, all, c.loop-number-test.false) in
    sym (append-nil (string_bytes l.text)) ∙ ap (λ (ls : List (List ℕ)). string_bytes l.text ++ text_of ls)
    (sym (passed_all ds c.args.scope c.args.files.now c.args.budget t f l.number past)) ∙ l.invariant
