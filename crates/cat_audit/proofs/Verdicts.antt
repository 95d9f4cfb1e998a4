-- The verdict of lines each of which is Covered, Found or Masked.
use Rattle.std.proofs.Common.{◌≡◌, ◌⊎◌, ◌||◌, ℕ, Bool, true, false, List, [], ◌∷◌, if◌then◌else◌, Some}
use Rattle.std.proofs.Common.{inl, inr, refl, sym, ap, ◌∙◌, subst, true≢false}
use Rattle.cat_value.specs.declared.outcome.Outcome.{Outcome}
use Rattle.cat_value.specs.declared.outcome.Outcome.TheVariants as outcome
use Rattle.cat_scope.specs.declared.programs.Program.{Program}
use Rattle.cat_scope.specs.Names.{AllHave}
use Rattle.cat_audit_sound.specs.Audited.{IsValueOrFault}
use Rattle.cat_audit.specs.Causes.{is_failure}
use Rattle.cat_audit.specs.declared.finding.Finding.TheVariants as finding
use Rattle.cat_audit.specs.declared.finding.Line.{Line}
use Rattle.cat_audit.specs.declared.finding.Line.TheVariants as line
use Rattle.cat_audit.specs.declared.report.NamedLine.{NamedLine}
use Rattle.cat_audit.specs.declared.report.Verdict.{Verdict}
use Rattle.cat_audit.specs.declared.report.Verdict.TheVariants as verdict
use Rattle.cat_audit_sound.specs.Audited.{HasNoGap}
use Rattle.cat_audit.specs.Sections.{any_line, is_found, is_masked, is_undecided, verdict_of}
use Rattle.cat_audit.specs.Decided.{EndsInNoFault, HasGap, IsDecidedLine, IsWholeVerdict}
use Rattle.cat_audit.proofs.PlainLines.{ShowsOf}

-- ---- tests of lines

decided : (l : Line) → IsDecidedLine l → is_undecided l ≡ false
decided line.Covered h = refl
decided line.Budget h = absurd h
decided (line.Bad (finding.Found o input)) h = refl
decided (line.Bad (finding.Masked kind pos input)) h = refl
decided (line.Bad (finding.Derived at input o)) h = absurd h

none_of : (test : Line → Bool) (lines : List NamedLine) → AllHave (λ (l : NamedLine). test l.line ≡ false) lines
    → any_line test lines ≡ false
none_of test [] h = refl
none_of test (l ∷ lines) h = ap (λ (b : Bool). b || any_line test lines) h.0 ∙ none_of test lines h.1

none_undecided : (lines : List NamedLine) → AllHave (λ (l : NamedLine). IsDecidedLine l.line) lines
    → AllHave (λ (l : NamedLine). is_undecided l.line ≡ false) lines
none_undecided [] h = tt
none_undecided (l ∷ lines) h = (decided l.line h.0, none_undecided lines h.1)

module _ (program : Program) (scope : ℕ) where
  some_found : (lines : List NamedLine) → AllHave (λ (l : NamedLine). ShowsOf program scope l.line) lines
      → any_line is_found lines ≡ true → HasGap program scope
  some_found [] h e = absurd (true≢false (sym e))
  some_found (l ∷ lines) h e = by (is_found l.line) refl e (some_found lines h.1)
    where
      by : (b : Bool) → is_found l.line ≡ b → (b || any_line is_found lines) ≡ true
          → (any_line is_found lines ≡ true → HasGap program scope) → HasGap program scope
      by true f g rest = h.0.0 f
      by false f g rest = rest g

  none_masked : (lines : List NamedLine) → AllHave (λ (l : NamedLine). ShowsOf program scope l.line) lines
      → EndsInNoFault program scope → AllHave (λ (l : NamedLine). is_masked l.line ≡ false) lines
  none_masked [] h none = tt
  none_masked (l ∷ lines) h none = (h.0.1 none, none_masked lines h.1 none)

-- ---- verdicts

-- a conflict or a gap isn't a value or a fault
apart : (o : Outcome) → is_failure o ≡ true → IsValueOrFault (Some o) → ⊥
apart (outcome.Conflict target positions) e h = h
apart (outcome.NoValue target pos) e h = h
apart (outcome.Value outputs) e h = true≢false (sym e)
apart (outcome.Fault kind pos) e h = true≢false (sym e)

never_both : (program : Program) (scope : ℕ) → HasNoGap program scope → HasGap program scope → ⊥
never_both program scope none gap =
    apart gap.ending gap.failure (subst IsValueOrFault gap.ends (none gap.input gap.typed))

-- what a verdict that is Complete or Found says
whole : (program : Program) (scope : ℕ) (v : Verdict) → (v ≡ verdict.Complete) ⊎ (v ≡ verdict.Found)
    → (v ≡ verdict.Complete → HasNoGap program scope) → (v ≡ verdict.Found → HasGap program scope)
    → IsWholeVerdict program scope v
whole program scope v one complete gap = record {
  complete_or_found = one;
  complete = (complete, by_complete one);
  found = (gap, by_found one);
}
  where
    by_complete : (v ≡ verdict.Complete) ⊎ (v ≡ verdict.Found) → HasNoGap program scope → v ≡ verdict.Complete
    by_complete (inl e) none = e
    by_complete (inr e) none = absurd (never_both program scope none (gap e))

    by_found : (v ≡ verdict.Complete) ⊎ (v ≡ verdict.Found) → HasGap program scope → v ≡ verdict.Found
    by_found (inl e) some = absurd (never_both program scope (complete e) some)
    by_found (inr e) some = e

module _ (program : Program) (scope : ℕ) (lines : List NamedLine)
    (decides : AllHave (λ (l : NamedLine). IsDecidedLine l.line) lines)
    (shows : AllHave (λ (l : NamedLine). ShowsOf program scope l.line) lines)
    (none : EndsInNoFault program scope) where
  verdict_is : (b : Bool) → any_line is_found lines ≡ b
      → verdict_of lines [] ≡ (if b then verdict.Found else verdict.Complete)
  verdict_is b e =
      ap (λ (f : Bool). if f then verdict.Found else (if any_line is_masked lines then verdict.Masked else
      (if any_line is_undecided lines || false then verdict.Undecided else verdict.Complete))) e
      ∙ ap (λ (m : Bool). if b then verdict.Found else (if m then verdict.Masked else
      (if any_line is_undecided lines || false then verdict.Undecided else verdict.Complete)))
      (none_of is_masked lines (none_masked program scope lines shows none))
      ∙ ap (λ (u : Bool). if b then verdict.Found else
      (if u || false then verdict.Undecided else verdict.Complete))
      (none_of is_undecided lines (none_undecided lines decides))

  pub whole_verdict : (verdict_of lines [] ≡ verdict.Complete → HasNoGap program scope)
      → IsWholeVerdict program scope (verdict_of lines [])
  whole_verdict complete = by (any_line is_found lines) refl
    where
      by : (b : Bool) → any_line is_found lines ≡ b → IsWholeVerdict program scope (verdict_of lines [])
      by true e = whole program scope (verdict_of lines []) (inr (verdict_is true e)) complete
          (λ f. some_found program scope lines shows e)
      by false e = whole program scope (verdict_of lines []) (inl (verdict_is false e)) complete
          (λ f.
          let apart : verdict.Complete ≡ verdict.Found = sym (verdict_is false e) ∙ f in
          absurd (cc))
