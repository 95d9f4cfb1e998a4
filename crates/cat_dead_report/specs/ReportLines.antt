-- The lines of a report on the definitions of a scope.
use Rattle.std.specs.Prelude.{ℕ, List, [], ◌∷◌, ◌++◌, map, Option, None, Some, slice_get, codes, decimal}
use Rattle.cat_value.specs.declared.decls.Decls.{Decls}
use Rattle.cat_value.specs.declared.value.Value.{Value}
use Rattle.cat_guard.specs.declared.guard.GuardDef.{GuardDef}
use Rattle.cat_guard.specs.declared.table.TableTarget.{TableTarget}
use Rattle.cat_json.specs.InputsRead.{items_of}
use Rattle.cat_answer.specs.Answer.{answer_of, position_text}
use Rattle.cat_answer.specs.Writes.{input_bytes}
use Rattle.cat_dead_report.specs.declared.line.DeadLine.{DeadLine}
use Rattle.cat_dead_report.specs.declared.line.DeadLine.TheVariants as line
use Rattle.cat_dead_report.specs.declared.line.TargetLines.{TargetLines}

-- for each definition of a target, in their order, its line
abbrev pub lines_of : TargetLines → List (Option DeadLine)
lines_of found = map (λ place. slice_get found.lines place) found.places

-- an input of a scope, as JSON
abbrev pub input_text : Decls → ℕ → List (Option Value) → List ℕ
input_text ds scope input = input_bytes ds (items_of (slice_get ds.scopes scope)) input

-- what a line says, in a report with at most so many leaves a target
abbrev pub said : Decls → ℕ → List (List ℕ) → ℕ → DeadLine → List ℕ
said ds scope files budget (line.Decides input) = codes "decides with " ++ input_text ds scope input
said ds scope files budget (line.Masked input o) =
    codes "Masked with " ++ (input_text ds scope input ++ (codes " giving " ++ answer_of ds scope files o))
said ds scope files budget (line.Derived at input o) =
    codes "Undecided derived at " ++ (position_text files at ++ (codes " with " ++ (input_text ds scope input
    ++ (codes " giving " ++ answer_of ds scope files o))))
said ds scope files budget line.Budget = codes "Undecided budget " ++ decimal budget
said ds scope files budget line.Never = codes "never decides"

-- the line of a definition of a target
abbrev pub dead_line : Decls → ℕ → List (List ℕ) → ℕ → TableTarget → GuardDef → DeadLine → List ℕ
dead_line ds scope files budget t d l =
    t.name ++ (codes " at " ++ (position_text files d.pos ++ (codes ": " ++ said ds scope files budget l)))

-- the lines of the definitions of a target
abbrev pub target_lines : Decls → ℕ → List (List ℕ) → ℕ → TableTarget → List GuardDef → List (Option DeadLine)
    → List (List ℕ)
target_lines ds scope files budget t [] os = []
target_lines ds scope files budget t (d ∷ defs) [] = []
target_lines ds scope files budget t (d ∷ defs) (None ∷ os) = target_lines ds scope files budget t defs os
target_lines ds scope files budget t (d ∷ defs) (Some l ∷ os) =
    dead_line ds scope files budget t d l ∷ target_lines ds scope files budget t defs os

-- the same of some targets
abbrev pub all_lines : Decls → ℕ → List (List ℕ) → ℕ → List TableTarget → List TargetLines → List (List ℕ)
all_lines ds scope files budget [] fs = []
all_lines ds scope files budget (t ∷ ts) [] = []
all_lines ds scope files budget (t ∷ ts) (f ∷ fs) =
    target_lines ds scope files budget t t.defs (lines_of f) ++ all_lines ds scope files budget ts fs
