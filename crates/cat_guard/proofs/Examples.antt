-- Worked examples: what is known of half-known connectives, and the verdicts of lists.
use Rattle.std.proofs.Common.{◌≡◌, ℕ, zero, suc, Bool, true, false, [], ◌∷◌, Option, Some, None, refl}
use Rattle.cat_guard.specs.Formulas.{known}
use Rattle.cat_guard.specs.Formulas as formula
use Rattle.cat_guard.specs.Verdicts.{listed, else_verdict}
use Rattle.cat_guard.specs.Verdicts as v

-- the first is false, the second true, and nothing is known of the others
abbrev half : ℕ → Option Bool
half zero = Some false
half (suc zero) = Some true
half (suc (suc n)) = None

and_false : known half (formula.Both (formula.Atom 2) (formula.Atom 0)) ≡ Some false
and_false = refl

and_true : known half (formula.Both (formula.Atom 1) (formula.Atom 2)) ≡ None
and_true = refl

or_true : known half (formula.Either (formula.Atom 2) (formula.Atom 1)) ≡ Some true
or_true = refl

or_false : known half (formula.Either (formula.Atom 0) (formula.Atom 2)) ≡ None
or_false = refl

-- connective by connective: a question that is unknown differs from itself or not
xor_itself : known half (formula.Differ (formula.Atom 2) (formula.Atom 2)) ≡ None
xor_itself = refl

if_same : known half (formula.Choice (formula.Atom 2) (formula.Atom 1) (formula.Constant true)) ≡ Some true
if_same = refl

if_other : known half (formula.Choice (formula.Atom 2) (formula.Atom 1) (formula.Atom 0)) ≡ None
if_other = refl

-- two that hold are a conflict, whatever is open
two_hold : listed (v.Holds 0 ∷ v.Open ∷ v.Holds 2 ∷ []) ≡ v.Conflict
two_hold = refl

one_holds : listed (v.Empty ∷ v.Holds 1 ∷ v.Open ∷ []) ≡ v.Open
one_holds = refl

alone : listed (v.Empty ∷ v.Holds 1 ∷ v.Empty ∷ []) ≡ v.Holds 1
alone = refl

none_holds : listed (v.Empty ∷ v.Empty ∷ []) ≡ v.Empty
none_holds = refl

-- what excepts a group goes before it, also where it is open
excepted : else_verdict v.Open (v.Holds 0) ≡ v.Open
excepted = refl
