-- What holds of each of a list, gathered one after the other; and what it says of the inputs of a report.
use Rattle.std.proofs.Common.{◌≡◌, ◌∙◌, ◌≤◌, ◌<◌, ◌+◌, ◌++◌, ℕ, IsTrue, List, [], ◌∷◌, drop, length}
use Rattle.std.proofs.Common.{append_assoc, get_or}
use Rattle.std.proofs.Common.{Option, Some, refl, sym, ap, subst, add-one}
use Rattle.std.proofs.Common.{Result, Ok, Err, IfOk, String, Global, string_bytes}
use Rattle.std.proofs.lemmas.Option.{slice_get_read}
use Rattle.cat_value.specs.declared.value.Value.{Value}
use Rattle.cat_value.specs.declared.decls.Decls.{Decls}
use Rattle.cat_value.specs.declared.outcome.Outcome.{Outcome}
use Rattle.cat_value.specs.declared.outcome.Outcome.TheVariants as outcome
use Rattle.cat_value.specs.Inputs.{IsWellTyped}
use Rattle.cat_scope.specs.declared.programs.Program.{Program}
use Rattle.cat_scope.specs.Names.{AllHave}
use Rattle.cat_scope.specs.Outcomes.{scope_outcome}
use Rattle.cat_guard.specs.declared.table.Table.{Table}
use Rattle.cat_guard.specs.declared.table.TableTarget.{TableTarget}
use Rattle.cat_guard.specs.declared.tree.TreeNode.{TreeNode}
use Rattle.cat_audit_sound.proofs.Lists.{drop_next, drop_past}
use Rattle.cat_json.specs.Names.{names_are_distinct}
use Rattle.cat_answer.specs.ReadBack.{IsInputText}
use Rattle.cat_audit.specs.declared.finding.Finding.TheVariants as finding
use Rattle.cat_audit.specs.declared.finding.Line.{Line}
use Rattle.cat_audit.specs.declared.finding.Line.TheVariants as line
use Rattle.cat_audit.specs.declared.finding.TargetLine.{TargetLine}
use Rattle.cat_audit.specs.declared.report.Report.{Report}
use Rattle.cat_audit.specs.declared.report.Section.{Section}
use Rattle.cat_audit.specs.declared.report.Verdict.{Verdict}
use Rattle.cat_audit.specs.Called.{verdict_in}
use Rattle.cat_audit.specs.Causes.{HasCause}
use Rattle.cat_audit.specs.ReportLines.{input_of}
use Rattle.cat_audit.specs.Reports.{AreSections, IsReport}
use Rattle.cat_audit.specs.RunsAgain.{AreReadBack, IsReadBack, OfLine, OfLines, RunAgain, RunsAgain}
use Rattle.cat_audit.specs.Sections.{AreLinesOf, IsSection, named_lines}

-- ---- lists

-- what holds of the rest leads to all
pub record Leads {A : Type 0} (Holds : List A → Type 0) (rest all : List A) : Type 0 where
  pub to : Holds rest → Holds all

pub leads_first : {A : Type 0} (Holds : List A → Type 0) (xs : List A) → Leads Holds xs xs
leads_first Holds xs = record { to = λ h. h }

-- the rest from an element on
pub next_is : {A : Type 0} (xs : List A) (i : ℕ) (x : A) → i < length xs → x ≡ get_or xs i x
    → drop i xs ≡ x ∷ drop (i + 1) xs
next_is xs i x within is =
    drop_next xs i x (slice_get_read xs (length xs) i x refl within is) ∙ ap (λ k. x ∷ drop k xs) (sym (add-one i))

pub leads_next : {A : Type 0} (P : A → Type 0) (xs : List A) (i : ℕ) (x : A) → i < length xs → x ≡ get_or xs i x
    → P x → Leads (AllHave P) (drop i xs) xs → Leads (AllHave P) (drop (i + 1) xs) xs
leads_next P xs i x within is holds leads =
    record { to = λ rest. leads.to (subst (AllHave P) (sym (next_is xs i x within is)) (holds, rest)) }

pub leads_past : {A : Type 0} (P : A → Type 0) (xs : List A) (n : ℕ) → length xs ≤ n
    → Leads (AllHave P) (drop n xs) xs → AllHave P xs
leads_past P xs n short leads = leads.to (subst (AllHave P) (sym (drop_past xs n short)) tt)

-- ---- texts

-- a part behind what is written
pub part_behind : (old new part rest whole : List ℕ) → new ≡ old ++ part → old ++ (part ++ rest) ≡ whole
    → new ++ rest ≡ whole
part_behind old new part rest whole grown is = ap (λ (t : List ℕ). t ++ rest) grown ∙ append_assoc old part rest ∙ is

-- a line behind what is written
pub line_behind : (old new line rest whole : List ℕ) → new ≡ old ++ (line ++ 10 ∷ [])
    → old ++ (line ++ 10 ∷ rest) ≡ whole → new ++ rest ≡ whole
line_behind old new line rest whole grown is =
    part_behind old new (line ++ 10 ∷ []) rest whole grown
    (ap (λ (t : List ℕ). old ++ t) (append_assoc line (10 ∷ []) rest) ∙ is)

-- the text of an input is read as that input
pub shown_back : {E : Type 0} (ds : Decls) (scope : ℕ) (input : List (Option Value)) (o : Outcome)
    (r : Result (String Global) E) → IfOk r (λ text. string_bytes text ≡ input_of ds scope input)
    → IfOk r (λ text. IsInputText ds scope input (string_bytes text)) → IfOk r (λ text. IsReadBack ds scope input o)
unfolding IsReadBack
shown_back ds scope input o (Ok text) is back = subst (λ (t : List ℕ). IsInputText ds scope input t) is back
shown_back ds scope input o (Err e) is back = tt

-- ---- what is read and comes to the outcome beside it

module _ (program : Program) (distinct : IsTrue (names_are_distinct program.decls)) where
  again : (scope : ℕ) (input : List (Option Value)) (o : Outcome) → IsReadBack program.decls scope input o
      → IsWellTyped program.decls scope input → scope_outcome program scope input ≡ Some o
      → RunsAgain program scope input o
  unfolding IsReadBack
  again scope input o back typed comes =
      record { read = back distinct typed; typed = typed; comes_to = comes }

  module _ (table : Table) (budget : ℕ) where
    line_again : (t : TableTarget) (nodes : List TreeNode) (l : Line) → HasCause program table t budget nodes l
        → OfLine (IsReadBack program.decls table.scope) l → OfLine (RunsAgain program table.scope) l
    line_again t nodes line.Covered cause back = tt
    line_again t nodes line.Budget cause back = tt
    line_again t nodes (line.Bad (finding.Found o input)) cause back =
        again table.scope input o back cause.1.1.typed cause.1.1.comes_to
    line_again t nodes (line.Bad (finding.Masked kind pos input)) cause back =
        again table.scope input (outcome.Fault kind pos) back cause.1.1.typed cause.1.1.comes_to
    line_again t nodes (line.Bad (finding.Derived at input o)) cause back =
        again table.scope input o back cause.1.1.typed cause.1.1.comes_to

    lines_again : (targets : List TableTarget) (made : List TargetLine) → AreLinesOf program table budget targets made
        → OfLines (IsReadBack program.decls table.scope) (named_lines targets made)
        → OfLines (RunsAgain program table.scope) (named_lines targets made)
    lines_again [] made are back = tt
    lines_again (t ∷ targets) [] are back = tt
    lines_again (t ∷ targets) (m ∷ made) are back =
        (line_again t m.tree.nodes m.line are.1 back.0, lines_again targets made are.2 back.1)

  section_again : (budget : ℕ) (f : ℕ → Verdict) (table : Table) (made : List TargetLine) (s : Section)
      → IsSection program budget f table made s → AreReadBack program.decls s → RunAgain program s
  section_again budget f table made s is back =
      subst (λ n. OfLines (RunsAgain program n) s.lines) (sym is.scope_is)
      (subst (OfLines (RunsAgain program table.scope)) (sym is.lines_are)
      (lines_again table budget table.targets made is.made_are
      (subst (OfLines (IsReadBack program.decls table.scope)) is.lines_are
      (subst (λ n. OfLines (IsReadBack program.decls n) s.lines) is.scope_is back))))

  sections_again : (budget : ℕ) (f : ℕ → Verdict) (tables : List Table) (made : List (List TargetLine))
      (sections : List Section) → AreSections program budget f tables made sections
      → AllHave (AreReadBack program.decls) sections → AllHave (RunAgain program) sections
  sections_again budget f [] [] [] are back = tt
  sections_again budget f [] [] (s ∷ sections) are back = elim are [ ]
  sections_again budget f [] (m ∷ made) sections are back = elim are [ ]
  sections_again budget f (t ∷ tables) [] sections are back = elim are [ ]
  sections_again budget f (t ∷ tables) (m ∷ made) [] are back = elim are [ ]
  sections_again budget f (t ∷ tables) (m ∷ made) (s ∷ sections) are back = (
    section_again budget f t m s are.0 back.0,
    sections_again budget f tables made sections are.1 back.1,
  )

  pub report_again : (scope budget : ℕ) (report : Report) → IsReport program scope budget report
      → AllHave (AreReadBack program.decls) report.sections → AllHave (RunAgain program) report.sections
  report_again scope budget report is back =
      sections_again budget (verdict_in report.sections) report.tables is.made report.sections is.sections_are back
