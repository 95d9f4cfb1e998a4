-- The lines of a report, without their line feeds.
use Rattle.std.specs.Prelude.{ℕ, List, ◌++◌, Option, slice_get, codes, decimal}
use Rattle.cat_value.specs.declared.value.Value.{Value}
use Rattle.cat_value.specs.declared.decls.Decls.{Decls}
use Rattle.cat_json.specs.InputsRead.{items_of}
use Rattle.cat_answer.specs.Answer.{answer_of, fault_text, position_text}
use Rattle.cat_answer.specs.Writes.{input_bytes}
use Rattle.cat_audit.specs.declared.finding.Finding.{Finding}
use Rattle.cat_audit.specs.declared.finding.Finding.TheVariants as finding
use Rattle.cat_audit.specs.declared.finding.Line.{Line}
use Rattle.cat_audit.specs.declared.finding.Line.TheVariants as line
use Rattle.cat_audit.specs.declared.report.Verdict.{Verdict}
use Rattle.cat_audit.specs.declared.report.Verdict.TheVariants as verdict
use Rattle.cat_audit.specs.declared.report.NamedLine.{NamedLine}
use Rattle.cat_audit.specs.declared.report.CalledLine.{CalledLine}
use Rattle.cat_audit.specs.Called.{scope_name}

-- ---- words

-- a verdict as it is printed
abbrev pub verdict_text : Verdict → List ℕ
verdict_text verdict.Found = codes "Found"
verdict_text verdict.Masked = codes "Masked"
verdict_text verdict.Undecided = codes "Undecided"
verdict_text verdict.Complete = codes "Complete"

-- an input of a scope, as JSON
abbrev pub input_of : Decls → ℕ → List (Option Value) → List ℕ
input_of ds scope input = input_bytes ds (items_of (slice_get ds.scopes scope)) input

-- ---- targets

-- what is found of a target of a scope, where files have these names
abbrev pub finding_text : Decls → ℕ → List (List ℕ) → Finding → List ℕ
finding_text ds scope files (finding.Found outcome input) =
    codes "Found " ++ (answer_of ds scope files outcome ++ (codes " with " ++ input_of ds scope input))
finding_text ds scope files (finding.Masked kind pos input) =
    codes "Masked " ++ (fault_text kind ++ (codes " at " ++ (position_text files pos
    ++ (codes " with " ++ input_of ds scope input))))
finding_text ds scope files (finding.Derived at input outcome) =
    codes "Undecided derived at " ++ (position_text files at ++ (codes " with " ++ (input_of ds scope input
    ++ (codes " giving " ++ answer_of ds scope files outcome))))

-- what a line says, in an audit of at most so many leaves a target
abbrev pub said : Decls → ℕ → List (List ℕ) → ℕ → Line → List ℕ
said ds scope files budget line.Covered = codes "Covered"
said ds scope files budget (line.Bad f) = finding_text ds scope files f
said ds scope files budget line.Budget = codes "Undecided budget " ++ decimal budget

-- the line of a target
abbrev pub target_line : Decls → ℕ → List (List ℕ) → ℕ → NamedLine → List ℕ
target_line ds scope files budget l = l.name ++ (codes ": " ++ said ds scope files budget l.line)

-- ---- scopes

-- the line of a called scope
unfoldable pub called_line : Decls → CalledLine → List ℕ
called_line ds l = l.name ++ (codes ": Undecided called "
    ++ (scope_name (slice_get ds.scopes l.scope) ++ (codes " " ++ verdict_text l.verdict)))

-- the first line of a section
abbrev pub first_line : Decls → ℕ → List ℕ
first_line ds scope = codes "audit " ++ scope_name (slice_get ds.scopes scope)

-- the last one
abbrev pub last_line : Verdict → List ℕ
last_line v = codes "verdict " ++ verdict_text v
