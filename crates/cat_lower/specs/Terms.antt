-- The code of a term: it adds what the term comes to, a definition that holds or nothing, to the top default frame.
use Rattle.std.specs.Prelude.{ℕ, ◌+◌, true, false, Bool, List, [], ◌∷◌, Option, Some, None}
use Rattle.cat_value.specs.declared.ty.Ty.{Ty}
use Rattle.cat_scope.specs.declared.expr.Expr.{Expr}
use Rattle.cat_calc.specs.declared.term.Justification.{Justification}
use Rattle.cat_calc.specs.declared.term.Justification.TheVariants as justification
use Rattle.cat_calc.specs.declared.term.DefaultTerm.{DefaultTerm}
use Rattle.cat_calc.specs.declared.term.DefaultTerm.TheOpen.{DefaultTerm-F}
use Rattle.cat_calc.specs.declared.term.DefaultTerm.TheFolds.{fold-DefaultTerm}
use Rattle.cat_code.specs.declared.instr.Instr.TheVariants as instr
use Rattle.cat_code.specs.declared.code.TargetEntry.{TargetEntry}
use Rattle.cat_lower.specs.Laying.{Coded, nothing, one, then_code, led, all_code, over, branch, targeted}
use Rattle.cat_lower.specs.Pieces.{truth}
use Rattle.cat_lower.specs.Rows.{Standing}
use Rattle.cat_lower.specs.Expressions.{lowered}

-- where a term stands: also the number of its target, the type of the values that it gives, and those of its local
-- names
pub record TermStanding : Type 0 where
  pub here : Standing
  pub target : ℕ
  pub type : Ty
  pub locals : List Ty

-- the code of a condition
abbrev pub condition_code : TermStanding → Expr → Coded
condition_code at e = (lowered at.here e).code at.locals None

-- the code of a value
abbrev pub value_code : TermStanding → Expr → Coded
value_code at e = (lowered at.here e).code at.locals (Some at.type)

-- what stands under a justification
abbrev pub under : TermStanding → Justification → Coded → Coded
under at justification.Never a = nothing
under at justification.Always a = a
under at (justification.Where e) a = then_code (condition_code at e) (over (λ t. instr.JumpFalse t) a)

-- whether nothing stands under a justification
abbrev pub is_never : Justification → Bool
is_never justification.Never = true
is_never j = false

-- whether a default with exceptions wants a frame of its own, where these are left behind the first one
abbrev pub wants_frame : {A : Type 0} → Justification → List A → Bool
wants_frame justification.Never [] = false
wants_frame j rest = true

-- what adds to a frame that is checked behind it, or not
abbrev pub checked_code : TermStanding → Bool → Coded → Coded
checked_code at false a = a
checked_code at true a = then_code a (one (instr.Check at.target))

-- what stands behind exceptions of which none holds
abbrev pub otherwise : TermStanding → Justification → Coded → Coded
otherwise at justification.Never a = nothing
otherwise at j a = over (λ t. instr.Held t) (under at j (checked_code at true a))

-- a default in a frame of its own, which is merged into the one below
abbrev pub framed : TermStanding → List Coded → Justification → Coded → Coded
framed at exceptions j a =
    led (instr.Begin at.target) (then_code (all_code exceptions) (led (instr.Check at.target)
    (then_code (otherwise at j a) (one instr.Merge))))

-- a default; it wants no frame where it has no exceptions, or one and nothing else
abbrev pub default_code : TermStanding → List Coded → Justification → Coded → Coded
default_code at [] j a = under at j a
default_code at (e ∷ []) justification.Never a = e
default_code at exceptions j a = framed at exceptions j a

-- a term, where each part adds what it comes to
abbrev pub term_by : TermStanding → DefaultTerm-F Coded → Coded
term_by at DefaultTerm-F.Empty = nothing
term_by at (DefaultTerm-F.Consequence number p e) =
    then_code (value_code at e) (one (instr.Hold (at.here.definitions + number)))
term_by at (DefaultTerm-F.Default exceptions j consequence) = default_code at exceptions j consequence

-- a term
unfoldable pub term_code : TermStanding → DefaultTerm → Coded
term_code at = fold-DefaultTerm Coded (term_by at)

-- a frame that has what a target comes to
abbrev pub judged_code : TermStanding → Option DefaultTerm → Coded
judged_code at None = led (instr.Begin at.target) (one (instr.Check at.target))
judged_code at (Some term) = led (instr.Begin at.target) (then_code (term_code at term) (one (instr.Check at.target)))

-- where nothing holds: false for a condition, else no value
abbrev pub without_value : ℕ → Bool → Coded
without_value target true = truth false
without_value target false = one (instr.NoValue target)

-- pushes the value of a target, with an entry of its own among the targets
abbrev pub target_code : Standing → TargetEntry → Ty → List Ty → Bool → Option DefaultTerm → Coded
target_code here entry type locals condition term =
    targeted entry (λ v. then_code (judged_code (record { here = here; target = v; type = type; locals = locals }) term)
    (branch (λ t. instr.Take t) nothing (without_value v condition)))

-- passes the value of a target to an item, where it has one
abbrev pub context_code : Standing → TargetEntry → Ty → ℕ → Option DefaultTerm → Coded
context_code here entry type n term =
    targeted entry (λ v. then_code (judged_code (record { here = here; target = v; type = type; locals = [] }) term)
    (over (λ t. instr.Take t) (one (instr.Pass n))))
