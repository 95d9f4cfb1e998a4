-- What is asked: by a guard, by its parts, with lists that are added one behind the other; and by a comparison.
use Rattle.std.proofs.Common.{◌≡◌, ℕ, Bool, List, [], ◌∷◌, ◌++◌, refl, sym, ap, ◌∙◌, append_assoc, rules}
use Rattle.cat_scope.specs.Names.{AllHave}
use Rattle.cat_guard.specs.declared.guard.Guard.{Guard}
use Rattle.cat_guard.specs.declared.guard.Guard.TheVariants as leaf
use Rattle.cat_guard.specs.declared.guard.Guard.TheViews as guard
use Rattle.cat_guard.specs.Formulas.{asked}
use Rattle.cat_guard.specs.Formulas as formula
use Rattle.cat_guard.specs.GuardFormulas.{formula_of}
use Rattle.cat_guard.specs.Comparisons.{Comparison, parted}
use Rattle.cat_guard.specs.Comparisons as comparison
use Rattle.cat_guard.specs.Questions.{Question}
use Rattle.cat_guard.proofs.GuardLevels.{formulas}

-- the atoms of a guard
abbrev pub asked_by : Guard → List ℕ
asked_by g = asked (formula_of g)

module _ (w : Guard) where
  pub asked_Constant : (b : Bool) → w ≡ leaf.Constant b → asked_by w ≡ []
  asked_Constant b is =
      let one : formula_of w ≡ formula.Constant b = ap formula_of is ∙ search (rules, formulas) in ap asked one

  pub asked_Atom : (a : ℕ) → w ≡ leaf.Atom a → asked_by w ≡ a ∷ []
  asked_Atom a is =
      let one : formula_of w ≡ formula.Atom a = ap formula_of is ∙ search (rules, formulas) in ap asked one

  pub asked_Not : (f : Guard) → w ≡ guard.Not f → asked_by w ≡ asked_by f
  asked_Not f is =
      let one : formula_of w ≡ formula.Not (formula_of f) = ap formula_of is ∙ search (rules, formulas) in ap asked one

  pub asked_Both : (f g : Guard) → w ≡ guard.Both f g → asked_by w ≡ asked_by f ++ asked_by g
  asked_Both f g is =
      let two : formula_of w ≡ formula.Both (formula_of f) (formula_of g) =
      ap formula_of is ∙ search (rules, formulas) in
      ap asked two

  pub asked_Either : (f g : Guard) → w ≡ guard.Either f g → asked_by w ≡ asked_by f ++ asked_by g
  asked_Either f g is =
      let two : formula_of w ≡ formula.Either (formula_of f) (formula_of g) =
      ap formula_of is ∙ search (rules, formulas) in
      ap asked two

  pub asked_Differ : (f g : Guard) → w ≡ guard.Differ f g → asked_by w ≡ asked_by f ++ asked_by g
  asked_Differ f g is =
      let two : formula_of w ≡ formula.Differ (formula_of f) (formula_of g) =
      ap formula_of is ∙ search (rules, formulas) in
      ap asked two

  pub asked_Choice : (c f g : Guard) → w ≡ guard.Choice c f g → asked_by w ≡ asked_by c ++ asked_by f ++ asked_by g
  asked_Choice c f g is =
      let three : formula_of w ≡ formula.Choice (formula_of c) (formula_of f) (formula_of g) =
      ap formula_of is ∙ search (rules, formulas) in
      ap asked three

-- what a part adds, given by another name of the part
pub adds : (old new : List ℕ) (g h : Guard) → g ≡ h → new ≡ old ++ asked_by g → new ≡ old ++ asked_by h
adds old new g h same is = is ∙ ap (λ x. old ++ asked_by x) same

pub adds_two : (old mid new xs ys all : List ℕ) → mid ≡ old ++ xs → new ≡ mid ++ ys → all ≡ xs ++ ys
    → new ≡ old ++ all
adds_two old mid new xs ys all one two is =
    two ∙ ap (λ zs. zs ++ ys) one ∙ append_assoc old xs ys ∙ ap (λ zs. old ++ zs) (sym is)

pub adds_three : (old mid more new xs ys zs all : List ℕ) → mid ≡ old ++ xs → more ≡ mid ++ ys → new ≡ more ++ zs
    → all ≡ xs ++ ys ++ zs → new ≡ old ++ all
adds_three old mid more new xs ys zs all one two three is =
    adds_two old more new (xs ++ ys) zs all (adds_two old mid more xs ys (xs ++ ys) one two refl) three is

-- what holds of two questions holds of those that are asked where their terms are compared
pub parted_all : (P : Question → Type 0) (c : Comparison) (q r : Question) → P q → P r
    → AllHave P (asked (parted c (formula.Atom q) (formula.Atom r)))
parted_all P comparison.Less q r h k = (h, tt)
parted_all P comparison.AtMost q r h k = (k, tt)
parted_all P comparison.Greater q r h k = (k, tt)
parted_all P comparison.AtLeast q r h k = (h, tt)
parted_all P comparison.Equal q r h k = (k, (h, tt))
parted_all P comparison.Unequal q r h k = (k, (h, tt))
