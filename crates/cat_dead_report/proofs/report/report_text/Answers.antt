use Rattle.std.proofs.Common.{rules, ◌≡◌, ◌∙◌, ◌++◌, ◌∷◌, [], List, ℕ, append-nil, codes, map, slice_get, sym, ap}
use Rattle.std.proofs.Common.{subst, string_bytes}
use Rattle.std.proofs.lemmas.Option.{slice_get_within}
use Rattle.cat_value.specs.declared.decls.Decls.{Decls}
use Rattle.cat_cert.specs.declared.certificate.Version.TheVariants as version
use Rattle.cat_cert.specs.Lines.{due_lines, dues_of}
use Rattle.cat_cert.specs.Texts.{text_of}
use Rattle.cat_dead_report.specs.DeadReports.{cited_tree}
use Rattle.cat_dead.specs.DeadTexts.{first_line}
use Rattle.cat_dead_report.specs.ReportLines.{all_lines}
use Rattle.cat_dead_report.proofs.WritingLemmas.{as_many, lines_behind, no_certificate, text_append, with_certificate}
use Rattle.cat_dead_report.proofs.report.report_text.Goals as goal

pub push_targets-requires-clause-scope : goal.push_targets-requires-clause-scope
push_targets-requires-clause-scope c =
    let table = c.args.table.now in
    slice_get_within c.decls.result.now.scopes table.scope c.requires.tabled.0
    (ap (λ (ds : Decls). slice_get ds.scopes table.scope) c.decls.ensures ∙ c.requires.tabled.2)

pub push_targets-requires-clause-count : goal.push_targets-requires-clause-count
push_targets-requires-clause-count c =
    as_many c.args.program.now c.args.table.now c.args.budget c.args.table.now.targets c.args.lines.now
    c.requires.lines

pub push_certificate-requires : goal.push_certificate-requires
push_certificate-requires c =
    as_many c.args.program.now c.args.table.now c.args.budget c.args.table.now.targets c.args.lines.now
    c.requires.lines

-- some tree isn't whole
pub returns-then-not-are_whole : goal.returns-then-not-are_whole
returns-then-not-are_whole c =
    let table = c.args.table.now in
    let fs = c.args.lines.now in
    let head = codes "dead " ++ table.name in
    let all = all_lines c.args.program.now.decls table.scope c.args.files.now c.args.budget table.targets fs in
    let old = string_bytes c.in_ok-text.text in
    let first : old ≡ head ++ 10 ∷ [] = search rules in
    lines_behind head all old (string_bytes c.push_targets.new.text) first
    (subst (λ (ds : Decls). string_bytes c.push_targets.new.text ≡ old
    ++ text_of (all_lines ds table.scope c.args.files.now c.args.budget table.targets fs)) c.decls.ensures
    c.in_ok-push_targets.ensures)
    ∙ ap (λ (ls : List (List ℕ)). text_of (head ∷ ls))
    (sym (ap (λ (ls : List (List ℕ)). all ++ ls)
    (no_certificate table fs (sym c.are_whole.ensures ∙ c.if-not-are_whole.true)) ∙ append-nil all))

-- all are
pub returns : goal.returns
returns c =
    let table = c.args.table.now in
    let fs = c.args.lines.now in
    let head = codes "dead " ++ table.name in
    let all = all_lines c.args.program.now.decls table.scope c.args.files.now c.args.budget table.targets fs in
    let due = first_line ∷ due_lines version.One (dues_of (table ∷ [])) (map cited_tree fs) in
    let old = string_bytes c.in_ok-text.text in
    let first : old ≡ head ++ 10 ∷ [] = search rules in
    c.in_ok-push_certificate.ensures
    ∙ ap (λ (t : List ℕ). t ++ text_of due) (lines_behind head all old (string_bytes c.push_targets.new.text) first
    (subst (λ (ds : Decls). string_bytes c.push_targets.new.text ≡ old
    ++ text_of (all_lines ds table.scope c.args.files.now c.args.budget table.targets fs)) c.decls.ensures
    c.in_ok-push_targets.ensures))
    ∙ sym (text_append (head ∷ all) due)
    ∙ ap (λ (ls : List (List ℕ)). text_of (head ∷ (all ++ ls)))
    (sym (with_certificate table fs (sym c.are_whole.ensures ∙ c.if-not-are_whole.false)))
