-- The text of a report: each line ends with a line feed.
use Rattle.std.specs.Prelude.{ℕ, List, [], ◌∷◌, ◌++◌}
use Rattle.cat_value.specs.declared.decls.Decls.{Decls}
use Rattle.cat_audit.specs.declared.report.NamedLine.{NamedLine}
use Rattle.cat_audit.specs.declared.report.CalledLine.{CalledLine}
use Rattle.cat_audit.specs.declared.report.Section.{Section}
use Rattle.cat_audit.specs.ReportLines.{called_line, first_line, last_line, target_line}

-- a line with its line feed, in front of what follows
abbrev pub line_before : List ℕ → List ℕ → List ℕ
line_before line text = line ++ 10 ∷ text

-- the lines of targets
abbrev pub target_lines : Decls → ℕ → List (List ℕ) → ℕ → List NamedLine → List ℕ
target_lines ds scope files budget [] = []
target_lines ds scope files budget (l ∷ lines) =
    line_before (target_line ds scope files budget l) (target_lines ds scope files budget lines)

-- the lines of called scopes
abbrev pub called_lines : Decls → List CalledLine → List ℕ
called_lines ds [] = []
called_lines ds (l ∷ lines) = line_before (called_line ds l) (called_lines ds lines)

-- a section: which scope it is of, its targets, the called scopes that aren't complete, and its verdict
abbrev pub section_text : Decls → List (List ℕ) → ℕ → Section → List ℕ
section_text ds files budget s =
    line_before (first_line ds s.scope) (target_lines ds s.scope files budget s.lines
    ++ (called_lines ds s.called ++ line_before (last_line s.verdict) []))

-- the sections of a report
abbrev pub report_text : Decls → List (List ℕ) → ℕ → List Section → List ℕ
report_text ds files budget [] = []
report_text ds files budget (s ∷ sections) =
    section_text ds files budget s ++ report_text ds files budget sections
