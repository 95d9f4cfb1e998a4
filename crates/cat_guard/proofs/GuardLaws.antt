-- What is found of guards by their parts.
use Rattle.std.proofs.Common.{◌≡◌, ℕ, Bool, true, false, not, Option, sym, ap, ◌∙◌, subst, rules}
use Rattle.cat_guard.specs.declared.guard.Guard.{Guard}
use Rattle.cat_guard.specs.declared.guard.Guard.TheVariants as leaf
use Rattle.cat_guard.specs.declared.guard.Guard.TheViews as guard
use Rattle.cat_guard.specs.Formulas.{Formula, known}
use Rattle.cat_guard.specs.Formulas as formula
use Rattle.cat_guard.specs.GuardFormulas.{formula_of}
use Rattle.cat_guard.proofs.GuardLevels.{formulas}
use Rattle.cat_guard.specs.declared.truth.Truth.{Truth}
use Rattle.cat_guard.specs.inside.Telling.{Tells, is_it}
use Rattle.cat_guard.proofs.TellLaws.{both_told, either_told, differ_told, not_so, both_second, both_first, any_second}
use Rattle.cat_guard.proofs.TellLaws.{any_first}

module _ (answers : ℕ → Option Bool) (w : Guard) (x : Truth) where
  abbrev Found : Formula ℕ → Type 0
  Found f = Tells answers f x

  pub found_Constant : (b : Bool) → w ≡ leaf.Constant b → Found (formula.Constant b) → Found (formula_of w)
  found_Constant b is h =
      let one : formula_of w ≡ formula.Constant b = ap formula_of is ∙ search (rules, formulas) in
      subst Found (sym one) h

  pub found_Atom : (a : ℕ) → w ≡ leaf.Atom a → Found (formula.Atom a) → Found (formula_of w)
  found_Atom a is h =
      let one : formula_of w ≡ formula.Atom a = ap formula_of is ∙ search (rules, formulas) in
      subst Found (sym one) h

  pub found_Not : (f : Guard) → w ≡ guard.Not f → Found (formula.Not (formula_of f)) → Found (formula_of w)
  found_Not f is h =
      let one : formula_of w ≡ formula.Not (formula_of f) = ap formula_of is ∙ search (rules, formulas) in
      subst Found (sym one) h

  pub found_Both : (f g : Guard) → w ≡ guard.Both f g
      → Found (formula.Choice (formula_of f) (formula_of g) (formula.Constant false)) → Found (formula_of w)
  found_Both f g is h =
      let two : formula_of w ≡ formula.Both (formula_of f) (formula_of g) =
      ap formula_of is ∙ search (rules, formulas) in
      subst Found (sym two) (both_told answers (formula_of f) (formula_of g) x h)

  pub found_Either : (f g : Guard) → w ≡ guard.Either f g
      → Found (formula.Choice (formula_of f) (formula.Constant true) (formula_of g)) → Found (formula_of w)
  found_Either f g is h =
      let two : formula_of w ≡ formula.Either (formula_of f) (formula_of g) =
      ap formula_of is ∙ search (rules, formulas) in
      subst Found (sym two) (either_told answers (formula_of f) (formula_of g) x h)

  pub found_Differ : (f g : Guard) → w ≡ guard.Differ f g
      → Found (formula.Choice (formula_of f) (formula.Not (formula_of g)) (formula_of g)) → Found (formula_of w)
  found_Differ f g is h =
      let two : formula_of w ≡ formula.Differ (formula_of f) (formula_of g) =
      ap formula_of is ∙ search (rules, formulas) in
      subst Found (sym two) (differ_told answers (formula_of f) (formula_of g) x h)

  pub found_Choice : (c f g : Guard) → w ≡ guard.Choice c f g
      → Found (formula.Choice (formula_of c) (formula_of f) (formula_of g)) → Found (formula_of w)
  found_Choice c f g is h =
      let three : formula_of w ≡ formula.Choice (formula_of c) (formula_of f) (formula_of g) =
      ap formula_of is ∙ search (rules, formulas) in
      subst Found (sym three) h

  pub stops_Both : (f g : Guard) → w ≡ guard.Both f g → Found (formula.Both (formula_of f) (formula_of g))
      → Found (formula_of w)
  stops_Both f g is h =
      let two : formula_of w ≡ formula.Both (formula_of f) (formula_of g) =
      ap formula_of is ∙ search (rules, formulas) in
      subst Found (sym two) h

  pub stops_Either : (f g : Guard) → w ≡ guard.Either f g → Found (formula.Either (formula_of f) (formula_of g))
      → Found (formula_of w)
  stops_Either f g is h =
      let two : formula_of w ≡ formula.Either (formula_of f) (formula_of g) =
      ap formula_of is ∙ search (rules, formulas) in
      subst Found (sym two) h

-- what is known of a guard by what is known of its parts
module _ (answers : ℕ → Option Bool) (so : Bool) (w : Guard) where
  abbrev IsIt : Formula ℕ → Bool
  IsIt f = is_it so (known answers f)

  pub so_Not : (f : Guard) → w ≡ guard.Not f → is_it (not so) (known answers (formula_of f)) ≡ IsIt (formula_of w)
  so_Not f is =
      let one : formula_of w ≡ formula.Not (formula_of f) = ap formula_of is ∙ search (rules, formulas) in
      not_so so (known answers (formula_of f)) ∙ ap IsIt (sym one)

  module _ (f g : Guard) where
    both_is : w ≡ guard.Both f g → formula_of w ≡ formula.Both (formula_of f) (formula_of g)
    both_is is = ap formula_of is ∙ search (rules, formulas)

    either_is : w ≡ guard.Either f g → formula_of w ≡ formula.Either (formula_of f) (formula_of g)
    either_is is = ap formula_of is ∙ search (rules, formulas)

    pub so_Both_second : w ≡ guard.Both f g → (IsIt (formula_of g) ≡ so → ⊥)
        → IsIt (formula_of g) ≡ IsIt (formula_of w)
    so_Both_second is other =
        both_second so (known answers (formula_of f)) (known answers (formula_of g)) other
        ∙ ap IsIt (sym (both_is is))

    pub so_Both_first : w ≡ guard.Both f g → IsIt (formula_of g) ≡ so → IsIt (formula_of f) ≡ IsIt (formula_of w)
    so_Both_first is same =
        both_first so (known answers (formula_of f)) (known answers (formula_of g)) same ∙ ap IsIt (sym (both_is is))

    pub so_Either_second : w ≡ guard.Either f g → IsIt (formula_of g) ≡ so
        → IsIt (formula_of g) ≡ IsIt (formula_of w)
    so_Either_second is same =
        any_second so (known answers (formula_of f)) (known answers (formula_of g)) same ∙ ap IsIt (sym (either_is is))

    pub so_Either_first : w ≡ guard.Either f g → (IsIt (formula_of g) ≡ so → ⊥)
        → IsIt (formula_of f) ≡ IsIt (formula_of w)
    so_Either_first is other =
        any_first so (known answers (formula_of f)) (known answers (formula_of g)) other
        ∙ ap IsIt (sym (either_is is))
