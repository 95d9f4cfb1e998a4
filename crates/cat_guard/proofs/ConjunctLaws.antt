-- Conjuncts that are added, sorted and broken.
use Rattle.std.proofs.Common.{◌≡◌, ◌⊎◌, inl, inr, ℕ, zero, suc, ◌+◌, ◌<◌, Bool, true, false, not, List, [], ◌∷◌, ◌++◌}
use Rattle.std.proofs.Common.{length, drop, Option, Some, None, slice_get, refl, sym, ap, ◌∙◌, subst, arith, rules}
use Rattle.std.proofs.Common.{append_assoc}
use Rattle.std.proofs.lemmas.List.{append-nil}
use Rattle.std.specs.Prelude.{All, OnOk, Result, Ok, Err, slice_index_or}
use Rattle.cat_scope.specs.Names.{IsOneOf}
use Rattle.cat_guard.specs.declared.guard.Guard.{Guard}
use Rattle.cat_guard.specs.declared.guard.Guard.TheVariants as leaf
use Rattle.cat_guard.specs.declared.guard.Guard.TheViews as guard
use Rattle.cat_guard.specs.declared.guard.GuardDef.{GuardDef}
use Rattle.cat_guard.specs.declared.conjuncts.Conjunct.{Conjunct}
use Rattle.cat_guard.specs.Formulas.{Formula, both, of_one, of_two, known}
use Rattle.cat_guard.specs.Formulas as formula
use Rattle.cat_guard.specs.GuardFormulas.{formula_of}
use Rattle.cat_guard.specs.Conjuncts.{joined, negated, AreAmong, AreOfDefs}
use Rattle.cat_guard.specs.inside.Joining.{Adds, IsBroken}
use Rattle.cat_guard.proofs.GuardLevels.{formulas}
use Rattle.cat_guard.proofs.TellLaws.{in_front, in_back, parted}

pub on_ok : {A E : Type 0} {P Q : Type 0} (r : Result A E) → OnOk r P → (P → Q) → OnOk r Q
on_ok (Ok a) p go = go p
on_ok (Err e) p go = tt

-- ---- conjuncts that are added

pub nothing_added : (all old : List Conjunct) → Adds all old old
nothing_added all old = record { more = []; is = sym (append-nil old); among = λ l none. absurd none }

one_added : (l : Conjunct) (old new : List Conjunct) → new ≡ old ++ l ∷ [] → Adds (l ∷ []) old new
one_added l old new is = record { more = l ∷ []; is = is; among = λ m among. among }

both_added : (f g old mid new : List Conjunct) → Adds f old mid → Adds g mid new → Adds (f ++ g) old new
both_added f g old mid new one two = record {
  more = one.more ++ two.more;
  is = two.is ∙ ap (λ xs. xs ++ two.more) one.is ∙ append_assoc old one.more two.more;
  among = λ l is. by l (parted l one.more two.more is);
}
  where
    by : (l : Conjunct) → IsOneOf l one.more ⊎ IsOneOf l two.more → IsOneOf l (f ++ g)
    by l (inl h) = in_front l f g (one.among l h)
    by l (inr h) = in_back l f g (two.among l h)

module _ (w : Guard) (old : List Conjunct) where
  pub added_Atom : (a : ℕ) (new : List Conjunct) → w ≡ leaf.Atom a
      → new ≡ old ++ record { atom = a; so = true } ∷ [] → Adds (joined (formula_of w)) old new
  added_Atom a new is made =
      let one : formula_of w ≡ formula.Atom a = ap formula_of is ∙ search (rules, formulas) in
      subst (λ all. Adds all old new) (sym (ap joined one)) (one_added (record { atom = a; so = true }) old new made)

  pub added_negated : (a : ℕ) (new : List Conjunct) → w ≡ leaf.Atom a
      → new ≡ old ++ record { atom = a; so = false } ∷ [] → Adds (negated (formula_of w)) old new
  added_negated a new is made =
      let one : formula_of w ≡ formula.Atom a = ap formula_of is ∙ search (rules, formulas) in
      subst (λ all. Adds all old new) (sym (ap negated one)) (one_added (record { atom = a; so = false }) old new made)

  pub added_Not : (f g : Guard) (new : List Conjunct) → w ≡ guard.Not f → g ≡ f
      → Adds (negated (formula_of g)) old new → Adds (joined (formula_of w)) old new
  added_Not f g new is same adds =
      let one : formula_of w ≡ formula.Not (formula_of f) = ap formula_of is ∙ search (rules, formulas) in
      subst (λ all. Adds all old new) (ap (λ x. negated (formula_of x)) same ∙ sym (ap joined one)) adds

  pub added_Both : (f g l r : Guard) (mid new : List Conjunct) → w ≡ guard.Both f g → l ≡ f → r ≡ g
      → Adds (joined (formula_of l)) old mid → Adds (joined (formula_of r)) mid new
      → Adds (joined (formula_of w)) old new
  added_Both f g l r mid new is left right one two =
      let parts : formula_of w ≡ formula.Both (formula_of f) (formula_of g) =
      ap formula_of is ∙ search (rules, formulas) in
      subst (λ all. Adds all old new)
      (ap (λ x. joined (formula_of x) ++ joined (formula_of r)) left
      ∙ ap (λ x. joined (formula_of f) ++ joined (formula_of x)) right ∙ sym (ap joined parts))
      (both_added (joined (formula_of l)) (joined (formula_of r)) old mid new one two)

-- ---- each of a list

each_all : (P : Conjunct → Type 0) (ls : List Conjunct) → ((l : Conjunct) → IsOneOf l ls → P l) → All P ls
each_all P [] each k d within = absurd (omega (arith, within))
each_all P (x ∷ xs) each zero d within = each x (inl refl)
each_all P (x ∷ xs) each (suc k) d within =
    each_all P xs (λ l is. each l (inr is)) k d (omega (arith, within))

all_each : (P : Conjunct → Type 0) (ls : List Conjunct) → All P ls → (l : Conjunct) → IsOneOf l ls → P l
all_each P [] all l is = absurd is
all_each P (x ∷ xs) all l (inl same) = subst P (sym same) (all 0 x (omega arith))
all_each P (x ∷ xs) all l (inr is) =
    all_each P xs (λ k d within. all (suc k) d (omega (arith, within))) l is

-- added to none, and in another order
pub in_any_order : (all made ls : List Conjunct) → Adds all [] made
    → (All (λ l. IsOneOf l all) made → All (λ l. IsOneOf l all) ls) → AreAmong all ls
in_any_order all made ls adds ordered =
    all_each (λ l. IsOneOf l all) ls
    (ordered (each_all (λ l. IsOneOf l all) made
    (λ l is. adds.among l (subst (λ xs. IsOneOf l xs) adds.is is))))

pub none_among : (all : List Conjunct) → AreAmong all []
none_among all l none = absurd none

-- ---- one is broken

first_false : (x y : Option Bool) → x ≡ Some false → of_two both x y ≡ Some false
first_false x y is = ap (λ z. of_two both z y) is ∙ by y
  where
    by : (y : Option Bool) → of_two both (Some false) y ≡ Some false
    by None = refl
    by (Some b) = refl

second_false : (x y : Option Bool) → y ≡ Some false → of_two both x y ≡ Some false
second_false x y is = ap (of_two both x) is ∙ by x
  where
    by : (x : Option Bool) → of_two both x (Some false) ≡ Some false
    by None = refl
    by (Some true) = refl
    by (Some false) = refl

module _ (answers : ℕ → Option Bool) where
  negated_broken : (f : Formula ℕ) (l : Conjunct) → IsOneOf l (negated f) → IsBroken answers l
      → known answers (formula.Not f) ≡ Some false
  negated_broken (formula.Atom a) l (inl same) is =
      ap (of_one not) (sym (ap (λ m. answers m.atom) same) ∙ is ∙ ap (λ m. Some (not m.so)) same)
  negated_broken (formula.Atom a) l (inr none) is = absurd none
  negated_broken (formula.Constant b) l among is = absurd among
  negated_broken (formula.Not f) l among is = absurd among
  negated_broken (formula.Both f g) l among is = absurd among
  negated_broken (formula.Either f g) l among is = absurd among
  negated_broken (formula.Differ f g) l among is = absurd among
  negated_broken (formula.Choice c f g) l among is = absurd among

  pub one_broken : (f : Formula ℕ) (l : Conjunct) → IsOneOf l (joined f) → IsBroken answers l
      → known answers f ≡ Some false
  one_broken (formula.Atom a) l (inl same) is =
      sym (ap (λ m. answers m.atom) same) ∙ is ∙ ap (λ m. Some (not m.so)) same
  one_broken (formula.Atom a) l (inr none) is = absurd none
  one_broken (formula.Not f) l among is = negated_broken f l among is
  one_broken (formula.Both f g) l among is =
      by (parted l (joined f) (joined g) among) (λ h. one_broken f l h is) (λ h. one_broken g l h is)
    where
      by : IsOneOf l (joined f) ⊎ IsOneOf l (joined g) → (IsOneOf l (joined f) → known answers f ≡ Some false)
          → (IsOneOf l (joined g) → known answers g ≡ Some false)
          → of_two both (known answers f) (known answers g) ≡ Some false
      by (inl h) first second = first_false (known answers f) (known answers g) (first h)
      by (inr h) first second = second_false (known answers f) (known answers g) (second h)
  one_broken (formula.Constant b) l among is = absurd among
  one_broken (formula.Either f g) l among is = absurd among
  one_broken (formula.Differ f g) l among is = absurd among
  one_broken (formula.Choice c f g) l among is = absurd among

-- ---- definitions by their numbers

pub at_def : (ds : List GuardDef) (lists : List (List Conjunct)) (k : ℕ) (d : GuardDef) (ls : List Conjunct)
    → AreOfDefs ds lists → slice_get ds k ≡ Some d → slice_get lists k ≡ Some ls
    → AreAmong (joined (formula_of d.guard)) ls
at_def [] lists k d ls are is there = absurd (cc)
at_def (e ∷ ds) [] k d ls are is there = absurd are
at_def (e ∷ ds) (ms ∷ lists) zero d ls are is there =
    let def : e ≡ d = cc in
    let same : ms ≡ ls = cc in
    subst (λ xs. AreAmong (joined (formula_of d.guard)) xs) same
    (subst (λ (x : GuardDef). AreAmong (joined (formula_of x.guard)) ms) def are.0)
at_def (e ∷ ds) (ms ∷ lists) (suc k) d ls are is there = at_def ds lists k d ls are.1 is there

-- ---- lists that are made one after the other

module _ {A B : Type 0} (Are : List A → List B → Type 0) where
  -- whatever is made of the rest
  abbrev pub AreSoFar : List A → List A → List B → Type 0
  AreSoFar left xs made = (rest : List B) → Are left rest → Are xs (made ++ rest)

  pub one_made : (xs : List A) (i : ℕ) (x : A) (made : List B) (y : B)
      → drop i xs ≡ x ∷ drop (i + 1) xs
      → ((rest : List B) → Are (drop (i + 1) xs) rest → Are (x ∷ drop (i + 1) xs) (y ∷ rest))
      → AreSoFar (drop i xs) xs made → AreSoFar (drop (i + 1) xs) xs (made ++ y ∷ [])
  one_made xs i x made y here one before rest are =
      subst (Are xs) (sym (append_assoc made (y ∷ []) rest))
      (before (y ∷ rest) (subst (λ zs. Are zs (y ∷ rest)) (sym here) (one rest are)))

  pub all_made : (xs : List A) (i : ℕ) (made : List B) → drop i xs ≡ [] → Are [] []
      → AreSoFar (drop i xs) xs made → Are xs made
  all_made xs i made gone none before =
      subst (Are xs) (append-nil made) (before [] (subst (λ zs. Are zs []) (sym gone) none))

-- what stands at an index is one of the list
abbrev pub conjunct_at : List Conjunct → ℕ → Conjunct
conjunct_at ls i = slice_index_or ls i (record { atom = 0; so = false })

pub one_of : (ls : List Conjunct) (i : ℕ) → i < length ls → IsOneOf (conjunct_at ls i) ls
one_of [] i within = absurd (omega (arith, within))
one_of (x ∷ xs) zero within = inl refl
one_of (x ∷ xs) (suc i) within = inr (one_of xs i (omega (arith, within)))
