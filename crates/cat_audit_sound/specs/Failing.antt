-- Regions of free terms alone, inputs that show a valuation, and outcomes that are no values.
use Rattle.std.specs.Prelude.{◌≡◌, ℕ, List, Option, Some, None, slice_get}
use Rattle.cat_value.specs.declared.value.Value.{Value}
use Rattle.cat_value.specs.declared.outcome.Outcome.{Outcome}
use Rattle.cat_value.specs.declared.outcome.Outcome.TheVariants as outcome
use Rattle.cat_region.specs.declared.cut.Cut.{Cut}
use Rattle.cat_region.specs.Points.{answer}
use Rattle.cat_region.specs.Regions.{Constraints, Valuation}
use Rattle.cat_scope.specs.Names.{AllHave}
use Rattle.cat_scope.specs.Eval.{Env, eval}
use Rattle.cat_guard.specs.declared.table.Term.{Term}
use Rattle.cat_audit_sound.specs.Shown.{AreGiven, IsFree, IsSeenAs}

-- there is a term, and it is free
abbrev pub IsFreeTerm : Option Term → Type 0
IsFreeTerm None = ⊥
IsFreeTerm (Some term) = IsFree term

-- a region constrains free terms alone: each narrowing is one of a free term
abbrev pub IsOfFreeTerms : List Term → Constraints → Type 0
IsOfFreeTerms terms region = AllHave (λ n. IsFreeTerm (slice_get terms n.dim)) region.narrowings

-- where an input is given, each free term evaluates to a value in which cuts see the term's point of a valuation
abbrev pub Shows : List Term → List (Option Value) → Valuation → Type 0
Shows terms input v =
    (env : Env) (arguments : List Value) (i : ℕ) (term : Term) → AreGiven env input → slice_get terms i ≡ Some term
    → IsFree term → ∥ IsSeenAs (eval env term.expr arguments).end (v i) ∥₁

-- no cut tells what two valuations have at a free term apart
abbrev pub IsAlikeAtFree : List Term → Valuation → Valuation → Type 0
IsAlikeAtFree terms v w =
    (i : ℕ) → IsFreeTerm (slice_get terms i) → (c : Cut) → answer c (v i) ≡ answer c (w i)

-- an outcome that is a Conflict, a NoValue or a fault
abbrev pub HasNoValue : Option Outcome → Type 0
HasNoValue None = ⊥
HasNoValue (Some (outcome.Value outputs)) = ⊥
HasNoValue (Some (outcome.Conflict target positions)) = Unit {0}
HasNoValue (Some (outcome.NoValue target pos)) = Unit {0}
HasNoValue (Some (outcome.Fault kind pos)) = Unit {0}
