-- What is looked up by a name that stands once.
use Rattle.std.proofs.Common.{◌≡◌, ◌+◌, ℕ, zero, suc, Bool, true, false, cond, List, [], ◌∷◌, map, Option, Some, None}
use Rattle.std.proofs.Common.{slice_get, bytes_eq, inl, inr, refl, sym, ap, ◌∙◌, subst, arith, true≢false}
use Rattle.std.specs.Prelude.{find}
use Rattle.std.specs.List.{enumerate_from}
use Rattle.std.proofs.lemmas.Slice.Eq.{bytes_eq-Decides}
use Rattle.cat_scope.specs.Names.{IsOneOf}
use Rattle.cat_names.specs.Lists.{numbered}
use Rattle.cat_names.specs.Lookup.{first_named}
use Rattle.cat_image.specs.Words.{Text}

-- what is found passes
passes : {A : Type 0} (test : A → Bool) (xs : List A) (x : A) → find test xs ≡ Some x → test x ≡ true
passes test [] x found = absurd (cc found)
passes {A} test (y ∷ xs) x found = by (passes test xs x) (test y) refl found
  where
    by : (find test xs ≡ Some x → test x ≡ true) → (b : Bool) → test y ≡ b
        → cond b (Some y) (find test xs) ≡ Some x → test x ≡ true
    by rest true is found = let same : y ≡ x = cc found in subst (λ z. test z ≡ true) same is
    by rest false is found = rest found

-- what passes is found
finds : {A : Type 0} (test : A → Bool) (xs : List A) (x : A) → IsOneOf x xs → test x ≡ true → find test xs ≡ None → ⊥
finds test [] x one is none = absurd one
finds {A} test (y ∷ xs) x one is none = by (finds test xs x) (test y) refl one none
  where
    by : (IsOneOf x xs → test x ≡ true → find test xs ≡ None → ⊥) → (b : Bool) → test y ≡ b → IsOneOf x (y ∷ xs)
        → cond b (Some y) (find test xs) ≡ None → ⊥
    by rest true same one none = absurd (cc none)
    by rest false other (inl first) none = true≢false (sym is ∙ ap test first ∙ other)
    by rest false other (inr more) none = rest more is none

-- what is found is one of the list
found_in : {A : Type 0} (test : A → Bool) (xs : List A) (x : A) → find test xs ≡ Some x → IsOneOf x xs
found_in test [] x found = absurd (cc found)
found_in {A} test (y ∷ xs) x found = by (found_in test xs x) (test y) found
  where
    by : (find test xs ≡ Some x → IsOneOf x xs) → (b : Bool) → cond b (Some y) (find test xs) ≡ Some x → IsOneOf x
        (y ∷ xs)
    by rest true found = let same : y ≡ x = cc found in inl (sym same)
    by rest false found = inr (rest found)

-- and stands at its number
in_numbered : {A : Type 0} (n : ℕ) (xs : List A) (f : ℕ × A) → IsOneOf f (enumerate_from n xs)
    → (k : ℕ) × (f.0 ≡ n + k) × (slice_get xs k ≡ Some f.1)
in_numbered n [] f one = absurd one
in_numbered n (x ∷ xs) f (inl is) =
    (0, ap (λ m. m.0) is ∙ (let it : n ≡ n + 0 = omega arith in it), ap (λ m. Some m.1) (sym is))
in_numbered n (x ∷ xs) f (inr more) =
    let rest = in_numbered (n + 1) xs f more in (suc rest.0, omega (arith, rest.1), rest.2)

module _ {A : Type 0} (name_of : A → Text) (w : Text) (xs : List A) where
  pub found_name : (f : ℕ × A) → first_named name_of w xs ≡ Some f → name_of f.1 ≡ w
  found_name f is = (bytes_eq-Decides (name_of f.1) w).0 (passes (λ x. bytes_eq (name_of x.1) w) (numbered xs) f is)

  -- what is found stands at its number
  pub found_there : (f : ℕ × A) → first_named name_of w xs ≡ Some f → slice_get xs f.0 ≡ Some f.1
  found_there f is =
      let one = in_numbered 0 xs f (found_in (λ y. bytes_eq (name_of y.1) w) (numbered xs) f is) in
      let same : f.0 ≡ one.0 = omega (arith, one.1) in
      ap (slice_get xs) same ∙ one.2

  numbered_one : (n k : ℕ) (ys : List A) (x : A) → slice_get ys k ≡ Some x
      → (m : ℕ) × IsOneOf (m, x) (enumerate_from n ys)
  numbered_one n k [] x at = absurd (cc at)
  numbered_one n zero (y ∷ ys) x at = let same : y ≡ x = cc at in (n, inl (ap (λ z. (n, z)) (sym same)))
  numbered_one n (suc k) (y ∷ ys) x at = let rest = numbered_one (n + 1) k ys x at in (rest.0, inr rest.1)

  -- a name that stands once is found where it stands
  pub found_at : (k : ℕ) (x : A) → slice_get xs k ≡ Some x → name_of x ≡ w
      → ((i j : ℕ) → slice_get (map name_of xs) i ≡ Some w → slice_get (map name_of xs) j ≡ Some w → i ≡ j)
      → first_named name_of w xs ≡ Some (k, x)
  found_at k x at named once = by (first_named name_of w xs) refl
    where
      name_there : (ys : List A) (i : ℕ) (y : A) → slice_get ys i ≡ Some y
          → slice_get (map name_of ys) i ≡ Some (name_of y)
      name_there [] i y at = absurd (cc at)
      name_there (z ∷ ys) zero y at = let same : z ≡ y = cc at in ap (λ v. Some (name_of v)) same
      name_there (z ∷ ys) (suc i) y at = name_there ys i y at

      by : (o : Option (ℕ × A)) → first_named name_of w xs ≡ o → o ≡ Some (k, x)
      by None is =
          let it = numbered_one 0 k xs x at in
          absurd (finds (λ y. bytes_eq (name_of y.1) w) (numbered xs) (it.0, x) it.1
          ((bytes_eq-Decides (name_of x) w).1 named) is)
      by (Some f) is =
          let there = found_there f is in
          let number : f.0 ≡ k = once f.0 k (name_there xs f.0 f.1 there ∙ ap Some (found_name f is))
          (name_there xs k x at ∙ ap Some named) in
          let same : f.1 ≡ x = cc (sym there ∙ ap (slice_get xs) number ∙ at) in
          ap (λ n. Some (n, f.1)) number ∙ ap (λ y. Some (k, y)) same
