-- What is known of the places of a target's definitions while the inputs of leaves are tried.
use Rattle.std.specs.Prelude.{nat_lt, ◌≡◌, ◌≤◌, ℕ, Bool, true, false, if◌then◌else◌, List, [], ◌∷◌, replicate, Option}
use Rattle.std.specs.Prelude.{None, Some, slice_get}
use Rattle.cat_pos.specs.declared.pos.Pos.{Pos}
use Rattle.cat_scope.specs.declared.programs.Program.{Program}
use Rattle.cat_guard.specs.declared.table.Table.{Table}
use Rattle.cat_guard.specs.declared.table.TableTarget.{TableTarget}
use Rattle.cat_guard.specs.declared.tree.TreeNode.{TreeNode}
use Rattle.cat_search.specs.Searched.{everything}
use Rattle.cat_dead_report.specs.declared.found.Known.{Known}
use Rattle.cat_dead_report.specs.declared.line.DeadLine.{DeadLine}
use Rattle.cat_dead_report.specs.declared.line.DeadLine.TheVariants as line
use Rattle.cat_dead_report.specs.RunLines.{decides_in, weight, weight_of}
use Rattle.cat_dead_report.specs.inside.Places.{AreNumbered}
use Rattle.cat_dead_report.specs.inside.Said.{IsLineOf}

-- ---- one place

-- a line counts more than the one so far
abbrev pub counts_more : Option DeadLine → DeadLine → Bool
counts_more None next = true
counts_more (Some best) next = nat_lt (weight best) (weight next)

-- the line that is kept of the one so far and the next one
abbrev pub kept : Option DeadLine → DeadLine → Option DeadLine
kept best next = if counts_more best next then Some next else best

-- nothing is known of so many places
abbrev pub nothing_known : ℕ → List Known
nothing_known n = replicate n (record { line = None; on_default = false })

-- no further run can change what is known: a decider is found, or a function has none
abbrev pub is_final : Bool → Option DeadLine → Bool
is_final function None = false
is_final function (Some (line.Decides input)) = true
is_final function (Some l) = function

-- the same of a place, where there is one
abbrev pub is_final_at : Bool → Option Known → Bool
is_final_at function None = false
is_final_at function (Some k) = is_final function k.line

-- where a line is known, it is that of a leaf
abbrev pub IsLineIf : Program → Table → TableTarget → List TreeNode → Pos → Option DeadLine → Type 0
IsLineIf program table t nodes p None = Unit {0}
IsLineIf program table t nodes p (Some l) = IsLineOf program table t nodes p l

-- how much a run on the input says in which all that must be given has its default, where that is the input of a region
-- that hangs on what a run computes
abbrev pub default_weight : Program → Table → TableTarget → Pos → ℕ
default_weight program table t p = if decides_in program table t p (everything table.terms) then 3 else 1

-- what is known of a place: a line, where one is known, and this says as much as a run on the default input, where
-- there was one
pub record IsKnownOf (program : Program) (table : Table) (t : TableTarget) (nodes : List TreeNode) (p : Pos)
    (k : Known) : Type 0 where
  pub line : IsLineIf program table t nodes p k.line
  pub default : k.on_default ≡ true → default_weight program table t p ≤ weight_of k.line

-- what is known of each place
abbrev pub AreKnownOf : Program → Table → TableTarget → List TreeNode → List Pos → List Known → Type 0
AreKnownOf program table t nodes [] [] = Unit {0}
AreKnownOf program table t nodes [] (k ∷ ks) = ⊥
AreKnownOf program table t nodes (p ∷ ps) [] = ⊥
AreKnownOf program table t nodes (p ∷ ps) (k ∷ ks) =
    IsKnownOf program table t nodes p k × AreKnownOf program table t nodes ps ks

-- the same, where these are the numbers of the places of the target's definitions
pub record AreKnown (program : Program) (table : Table) (t : TableTarget) (nodes : List TreeNode)
    (numbers : List ℕ) (known : List Known) : Type 0 where
  pub positions : List Pos
  pub numbered : AreNumbered positions t.defs numbers
  pub each : AreKnownOf program table t nodes positions known

-- how much is known of a place, where there is one
abbrev pub known_weight : Option Known → ℕ
known_weight None = 0
known_weight (Some k) = weight_of k.line

-- no less is known of a place than was
abbrev pub Grow : List Known → List Known → Type 0
Grow old new = (n : ℕ) → known_weight (slice_get old n) ≤ known_weight (slice_get new n)
