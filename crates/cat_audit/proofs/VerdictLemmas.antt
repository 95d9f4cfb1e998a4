-- What a verdict says of lines.
use Rattle.std.proofs.Common.{◌≡◌, Bool, true, false, not, ◌||◌, if◌then◌else◌, List, [], ◌∷◌, refl}
use Rattle.std.proofs.Common.{true≢false}
use Rattle.cat_scope.specs.Names.{AllHave, has_none}
use Rattle.cat_audit.specs.declared.finding.Finding.TheVariants as finding
use Rattle.cat_audit.specs.declared.finding.Line.{Line}
use Rattle.cat_audit.specs.declared.finding.Line.TheVariants as line
use Rattle.cat_audit.specs.declared.report.Verdict.TheVariants as verdict
use Rattle.cat_audit.specs.declared.report.NamedLine.{NamedLine}
use Rattle.cat_audit.specs.declared.report.CalledLine.{CalledLine}
use Rattle.cat_audit.specs.Sections.{any_line, is_found, is_masked, is_undecided, verdict_of}

-- the line of a target that is covered
abbrev pub IsCoveredLine : NamedLine → Type 0
IsCoveredLine l = l.line ≡ line.Covered

covered : (l : Line) → is_found l ≡ false → is_masked l ≡ false → is_undecided l ≡ false → l ≡ line.Covered
covered line.Covered found masked undecided = refl
covered line.Budget found masked undecided = absurd (true≢false undecided)
covered (line.Bad (finding.Found o input)) found masked undecided = absurd (true≢false found)
covered (line.Bad (finding.Masked kind pos input)) found masked undecided = absurd (true≢false masked)
covered (line.Bad (finding.Derived at input o)) found masked undecided = absurd (true≢false undecided)

neither : (a b : Bool) → (a || b) ≡ false → (a ≡ false) × (b ≡ false)
neither true b e = absurd (true≢false e)
neither false b e = (refl, e)

all_covered : (lines : List NamedLine) → any_line is_found lines ≡ false → any_line is_masked lines ≡ false
    → any_line is_undecided lines ≡ false → AllHave IsCoveredLine lines
all_covered [] found masked undecided = tt
all_covered (l ∷ lines) found masked undecided =
    let f = neither (is_found l.line) (any_line is_found lines) found in
    let m = neither (is_masked l.line) (any_line is_masked lines) masked in
    let u = neither (is_undecided l.line) (any_line is_undecided lines) undecided in
    (covered l.line f.0 m.0 u.0, all_covered lines f.1 m.1 u.1)

none_there : (called : List CalledLine) → not (has_none called) ≡ false → called ≡ []
none_there [] e = refl
none_there (c ∷ called) e = absurd (true≢false e)

-- what a complete verdict says
pub complete_lines : (lines : List NamedLine) (called : List CalledLine) → verdict_of lines called ≡ verdict.Complete
    → AllHave IsCoveredLine lines × (called ≡ [])
complete_lines lines called e =
    by (any_line is_found lines) (any_line is_masked lines) (any_line is_undecided lines || not (has_none called)) refl
    refl refl e
  where
    by : (f m u : Bool) → any_line is_found lines ≡ f → any_line is_masked lines ≡ m
        → (any_line is_undecided lines || not (has_none called)) ≡ u
        → (if f then verdict.Found else
        (if m then verdict.Masked else (if u then verdict.Undecided else verdict.Complete))) ≡ verdict.Complete
        → AllHave IsCoveredLine lines × (called ≡ [])
    by true m u found masked undecided g = absurd (cc)
    by false true u found masked undecided g = absurd (cc)
    by false false true found masked undecided g = absurd (cc)
    by false false false found masked undecided g =
        let both = neither (any_line is_undecided lines) (not (has_none called)) undecided in
        (all_covered lines found masked both.0, none_there called both.1)
