-- What the run on the input of a region says of a definition, and which line goes before others.
use Rattle.std.specs.Prelude.{◌≡◌, ◌≤◌, ℕ, Bool, true, false, List, [], ◌∷◌, Option, None, Some}
use Rattle.cat_pos.specs.declared.pos.Pos.{Pos}
use Rattle.cat_value.specs.declared.value.Value.{Value}
use Rattle.cat_value.specs.declared.outcome.Outcome.{Outcome}
use Rattle.cat_region.specs.Regions.{Constraints}
use Rattle.cat_scope.specs.declared.programs.Program.{Program}
use Rattle.cat_scope.specs.Names.{AllHave}
use Rattle.cat_scope.specs.Outcomes.{deciders, scope_outcome}
use Rattle.cat_guard.specs.declared.table.Table.{Table}
use Rattle.cat_guard.specs.declared.table.TableTarget.{TableTarget}
use Rattle.cat_guard.specs.declared.tree.TreeNode.{TreeNode}
use Rattle.cat_audit.specs.Findings.{undecided_at, shown_input}
use Rattle.cat_dead_report.specs.declared.line.DeadLine.{DeadLine}
use Rattle.cat_dead_report.specs.declared.line.DeadLine.TheVariants as line
use Rattle.cat_dead_report.specs.Causes.{leaves_of}
use Rattle.cat_dead_report.specs.Deciders.{has_decider}
use Rattle.cat_dead.specs.Winners.{winner_in}

-- the line by whether the definition decides in the run, on what the region hangs, the input and the outcome
abbrev pub line_by : Bool → Option Pos → List (Option Value) → Outcome → DeadLine
line_by true at input o = line.Decides input
line_by false None input o = line.Masked input o
line_by false (Some at) input o = line.Derived at input o

-- the same, where there is an outcome
abbrev pub line_from : Bool → Option Pos → List (Option Value) → Option Outcome → Option DeadLine
line_from decides at input None = None
line_from decides at input (Some o) = Some (line_by decides at input o)

-- a definition of a target, by where it stands, decides in the run on the input of a region
abbrev pub decides_in : Program → Table → TableTarget → Pos → Constraints → Bool
decides_in program table t p region =
    has_decider t.target p (deciders program table.scope (shown_input program table region))

-- what that run says of it
abbrev pub line_in : Program → Table → TableTarget → Pos → Constraints → Option DeadLine
line_in program table t p region =
    line_from (decides_in program table t p region) (undecided_at table.terms t region)
    (shown_input program table region)
    (scope_outcome program table.scope (shown_input program table region))

-- ---- which goes before others

-- how much a line says: that a definition decides goes before Masked, and this before Derived
abbrev pub weight : DeadLine → ℕ
weight (line.Decides input) = 3
weight (line.Masked input o) = 2
weight (line.Derived at input o) = 1
weight line.Budget = 0
weight line.Never = 0

-- nothing, where there is none
abbrev pub weight_of : Option DeadLine → ℕ
weight_of None = 0
weight_of (Some l) = weight l

-- no run on the input of a leaf in which a definition wins says more of it than its line
abbrev pub SaysMost : Program → Table → TableTarget → List TreeNode → Pos → DeadLine → Type 0
SaysMost program table t nodes p l = AllHave
    (λ region. winner_in table.atoms t region ≡ p ∷ [] → weight_of (line_in program table t p region) ≤ weight l)
    (leaves_of table nodes)
