use Rattle.std.proofs.Common.{rules, arith, ◌≡◌, ◌≤◌, ◌++◌, ◌∷◌, [], ◌∙◌, List, ℕ, Some, length, slice_get, refl, sym}
use Rattle.std.proofs.Common.{ap, append_assoc, codes, string_bytes}
use Rattle.std.proofs.lemmas.Option.{slice_get_read}
use Rattle.cat_cert.specs.declared.certificate.Version.TheVariants as version
use Rattle.cat_cert.specs.Lines.{ScopeDue, TargetDue, heading_line, tree_lines}
use Rattle.cat_cert.specs.Texts.{text_of}
use Rattle.cat_dead_report.specs.DeadReports.{cited_tree}
use Rattle.cat_dead.specs.DeadTexts.{first_line}
use Rattle.cat_audit.proofs.BackLemmas.{part_behind}
use Rattle.cat_dead_report.proofs.WritingLemmas.{Dues, dues_passed, ends_pushed, next_due, text_append}
use Rattle.cat_dead_report.proofs.certificate.push_certificate.Goals as goal

pub loop-number-preserved : goal.loop-number-preserved
loop-number-preserved c =
    let table = c.args.table.now in
    let fs = c.args.lines.now in
    let l = c.loop-number in
    let t = c.at.result.now in
    let f = c.index-lines-number.result in
    let f_at : slice_get fs l.number ≡ Some f =
    slice_get_read fs (length fs) l.number f refl c.loop-number-test.true c.index-lines-number.is in
    part_behind (string_bytes l.text) (string_bytes c.push_tree.new.text)
    (text_of (heading_line (TargetDue t) ∷ tree_lines version.One (cited_tree f))) _ _ c.in_ok-push_tree.ensures
    (ap (λ (text : List ℕ). string_bytes l.text ++ text)
    (sym (next_due table.targets fs l.number t f c.at.ensures f_at)) ∙ l.invariant)

pub returns : goal.returns
returns c =
    let table = c.args.table.now in
    let ts = table.targets in
    let fs = c.args.lines.now in
    let l = c.loop-number in
    let old = string_bytes c.args.text.now in
    let front = first_line ∷ heading_line (ScopeDue table.name) ∷ [] in
    let past : length fs ≤ l.number = omega (arith, c.loop-number-test.false) in
    let first : string_bytes c.write.new.self ≡ old ++ text_of front = search rules in
    ends_pushed c.push_str.result _ (string_bytes l.text) (string_bytes c.push_str.new.self) (codes "end\n")
    c.push_str.ensures.bytes (λ pushed.
    pushed ∙ ap (λ (ls : List (List ℕ)). string_bytes l.text ++ text_of ls)
    (sym (dues_passed ts fs l.number c.requires past)) ∙ l.invariant
    ∙ ap (λ (t : List ℕ). t ++ text_of (Dues ts fs)) first ∙ append_assoc old (text_of front) (text_of (Dues ts fs))
    ∙ ap (λ (t : List ℕ). old ++ t) (sym (text_append front (Dues ts fs))))
