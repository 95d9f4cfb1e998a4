-- How a target is judged in a region, and what a region tells of its atoms.
use Rattle.std.specs.Prelude.{◌≡◌, ◌⊎◌, ℕ, Bool, true, false, not, List, [], ◌∷◌, ◌++◌, Option, Some, None}
use Rattle.cat_region.specs.Regions.{Constraints, Valuation, Admits, IsInhabited, IsEmpty}
use Rattle.cat_scope.specs.Names.{IsOneOf}
use Rattle.cat_guard.specs.declared.guard.GuardDef.{GuardDef}
use Rattle.cat_guard.specs.declared.table.Atom.{Atom}
use Rattle.cat_guard.specs.declared.table.TableTarget.{TableTarget}
use Rattle.cat_guard.specs.Formulas.{asked}
use Rattle.cat_guard.specs.GuardFormulas.{formula_of}
use Rattle.cat_guard.specs.Valuations.{holds_at}
use Rattle.cat_guard.specs.Verdicts.{Verdict, Holds, Empty, Conflict, Open, verdict_of}
use Rattle.cat_guard.specs.declared.judgement.Judgement.{Judgement}
use Rattle.cat_guard.specs.declared.judgement.Judgement.TheVariants as judgement

-- the atoms that definitions ask, in their order and from the left
abbrev pub asked_in : List GuardDef → List ℕ
asked_in [] = []
asked_in (d ∷ ds) = asked (formula_of d.guard) ++ asked_in ds

-- the atoms of a target
abbrev pub atoms_in : TableTarget → List ℕ
atoms_in t = asked_in t.defs

-- a judgement is the verdict of the target by these answers, without the definition that holds; where the verdict is
-- open, it names an atom of the target that has no answer
abbrev pub IsJudgement : (ℕ → Option Bool) → TableTarget → Judgement → Type 0
IsJudgement answers t judgement.Holds = (d : ℕ) × (verdict_of t answers ≡ Holds d)
IsJudgement answers t judgement.Empty = verdict_of t answers ≡ Empty
IsJudgement answers t judgement.Conflict = verdict_of t answers ≡ Conflict
IsJudgement answers t (judgement.Needs a) =
    (verdict_of t answers ≡ Open) × IsOneOf a (atoms_in t) × (answers a ≡ None)

-- some admitted valuation gives an atom this truth value
abbrev pub Occurs : List Atom → Constraints → ℕ → Bool → Type 0
Occurs atoms region a b = ∥ ((v : Valuation) × Admits region v × (holds_at atoms v a ≡ b)) ∥₁

-- an atom's answer in a region is exact: something is admitted, and all of it gives the atom this truth value. It has
-- none where nothing is admitted, or both truth values occur
abbrev pub IsAnswer : List Atom → Constraints → ℕ → Option Bool → Type 0
IsAnswer atoms region a (Some b) =
    IsInhabited region × ((v : Valuation) → Admits region v → holds_at atoms v a ≡ b)
IsAnswer atoms region a None = IsEmpty region ⊎ (Occurs atoms region a true × Occurs atoms region a false)

-- judged a conflict, or empty where that isn't allowed
abbrev pub is_bad : Bool → Verdict → Bool
is_bad empty (Holds d) = false
is_bad empty Empty = not empty
is_bad empty Conflict = true
is_bad empty Open = false
