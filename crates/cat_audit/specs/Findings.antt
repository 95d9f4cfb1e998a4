-- What the input of a region says of a target.
use Rattle.std.specs.Prelude.{ℕ, min, Bool, true, false, if◌then◌else◌, List, [], ◌∷◌, Option, None, Some, slice_get}
use Rattle.cat_pos.specs.declared.pos.Pos.{Pos}
use Rattle.cat_value.specs.declared.value.Value.{Value}
use Rattle.cat_value.specs.declared.outcome.Outcome.{Outcome}
use Rattle.cat_value.specs.declared.outcome.Outcome.TheVariants as outcome
use Rattle.cat_region.specs.declared.narrowing.Narrowing.{Narrowing}
use Rattle.cat_region.specs.Chosen.{point_at}
use Rattle.cat_region.specs.Regions.{Constraints}
use Rattle.cat_scope.specs.declared.programs.Program.{Program}
use Rattle.cat_scope.specs.Outcomes.{scope_outcome}
use Rattle.cat_guard.specs.declared.table.InputPath.{InputPath}
use Rattle.cat_guard.specs.declared.table.Term.{Term}
use Rattle.cat_guard.specs.declared.table.Table.{Table}
use Rattle.cat_guard.specs.declared.table.TableTarget.{TableTarget}
use Rattle.cat_audit_sound.specs.PointInputs.{input_at}
use Rattle.cat_audit.specs.declared.finding.Finding.{Finding}
use Rattle.cat_audit.specs.declared.finding.Finding.TheVariants as finding

-- ---- on what a region hangs

-- there is no path
abbrev pub is_no_path : Option InputPath → Bool
is_no_path None = true
is_no_path (Some path) = false

-- there is a term, and it is derived: no input variable, nor a part of one
abbrev pub is_derived : Option Term → Bool
is_derived None = false
is_derived (Some term) = is_no_path term.path

-- the numbers of the derived terms that narrowings constrain
abbrev pub derived_in : List Term → List Narrowing → List ℕ
derived_in terms [] = []
derived_in terms (n ∷ ns) =
    if is_derived (slice_get terms n.dim) then n.dim ∷ derived_in terms ns else derived_in terms ns

-- a number, or a lesser one
abbrev pub at_most : ℕ → Option ℕ → ℕ
at_most n None = n
at_most n (Some m) = min n m

-- the least of some numbers
abbrev pub least : List ℕ → Option ℕ
least [] = None
least (n ∷ ns) = Some (at_most n (least ns))

-- where a term first appears, if there is one
abbrev pub position_of : Option Term → Option Pos
position_of None = None
position_of (Some term) = Some term.pos

-- where the term of a number first appears, if there is one
abbrev pub position_in : List Term → Option ℕ → Option Pos
position_in terms None = None
position_in terms (Some i) = position_of (slice_get terms i)

-- on what a target hangs in a region beside the inputs: a function on its arguments, at its declaration; another target
-- on the first of the derived terms that the region constrains, at its first appearance
abbrev pub undecided_at : List Term → TableTarget → Constraints → Option Pos
undecided_at terms t region =
    if t.function then Some t.pos else position_in terms (least (derived_in terms region.narrowings))

-- ---- findings

-- what an outcome says that an input has: a conflict and a gap are found; a fault hides them where the region hangs on
-- inputs alone; and else nothing is known. A value says nothing of a region that hangs on inputs alone
abbrev pub finding_of : Option Pos → List (Option Value) → Outcome → Option Finding
finding_of at input (outcome.Conflict target positions) =
    Some (finding.Found (outcome.Conflict target positions) input)
finding_of at input (outcome.NoValue target pos) = Some (finding.Found (outcome.NoValue target pos) input)
finding_of None input (outcome.Fault kind pos) = Some (finding.Masked kind pos input)
finding_of (Some at) input (outcome.Fault kind pos) = Some (finding.Derived at input (outcome.Fault kind pos))
finding_of None input (outcome.Value outputs) = None
finding_of (Some at) input (outcome.Value outputs) = Some (finding.Derived at input (outcome.Value outputs))

-- the same, where there is an outcome
abbrev pub finding_from : Option Pos → List (Option Value) → Option Outcome → Option Finding
finding_from at input None = None
finding_from at input (Some o) = finding_of at input o

-- the input that a region's points are
abbrev pub shown_input : Program → Table → Constraints → List (Option Value)
shown_input program table region = input_at program.decls table (point_at region)

-- what a run on the input of a region says of a target
abbrev pub finding_in : Program → Table → TableTarget → Constraints → Option Finding
finding_in program table t region =
    finding_from (undecided_at table.terms t region) (shown_input program table region)
    (scope_outcome program table.scope (shown_input program table region))
