use Rattle.std.proofs.Common.{◌≡◌, ◌++◌, ◌≤◌, ◌∙◌, List, ℕ, Some, length, slice_get, refl, sym, ap, arith}
use Rattle.std.proofs.Common.{append-nil, string_bytes}
use Rattle.std.proofs.lemmas.Option.{slice_get_read}
use Rattle.cat_cert.specs.Texts.{text_of}
use Rattle.cat_dead_report.specs.ReportLines.{lines_of, target_lines}
use Rattle.cat_audit.proofs.BackLemmas.{part_behind}
use Rattle.cat_dead_report.proofs.WritingLemmas.{next_target, all_passed}
use Rattle.cat_dead_report.proofs.text.push_targets.Goals as goal

pub loop-number-preserved : goal.loop-number-preserved
loop-number-preserved c =
    let ds = c.args.decls.now in
    let table = c.args.table.now in
    let fs = c.args.lines.now in
    let files = c.args.files.now in
    let budget = c.args.budget in
    let l = c.loop-number in
    let t = c.at-target.result.now in
    let f = c.index-lines-number.result in
    let f_at : slice_get fs l.number ≡ Some f =
    slice_get_read fs (length fs) l.number f refl c.loop-number-test.true c.index-lines-number.is in
    let next = next_target ds table.scope files budget table.targets fs l.number t f c.at-target.ensures f_at in
    part_behind (string_bytes l.text) (string_bytes c.push_target.new.text)
    (text_of (target_lines ds table.scope files budget t t.defs (lines_of f))) _ _ c.in_ok-push_target.ensures
    (ap (λ (text : List ℕ). string_bytes l.text ++ text) (sym next) ∙ l.invariant)

pub returns : goal.returns
returns c =
    let table = c.args.table.now in
    let l = c.loop-number in
    let past : length c.args.lines.now ≤ l.number = omega (arith, c.loop-number-test.false) in
    sym (append-nil (string_bytes l.text)) ∙ ap (λ (text : List ℕ). string_bytes l.text ++ text)
    (sym (all_passed c.args.decls.now table.scope c.args.files.now c.args.budget table.targets c.args.lines.now l.number
    c.requires.count past)) ∙ l.invariant
