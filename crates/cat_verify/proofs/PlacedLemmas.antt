-- Places of owners in their order, and how often a number is listed.
use Rattle.std.proofs.Common.{◌≡◌, ◌<◌, ◌≤◌, ◌+◌, ℕ, zero, suc, nat_eq, Bool, true, false, List, [], ◌∷◌}
use Rattle.std.proofs.Common.{◌++◌, length, take, Some, refl, ap, ◌∙◌, subst, inl}
use Rattle.std.proofs.Common.{inr, arith, if◌then◌else◌}
use Rattle.std.proofs.lemmas.Bool.Decides.{nat_tests}
use Rattle.std.specs.Prelude.{slice_get}
use Rattle.cat_order.specs.Order.{times}
use Rattle.cat_scope.specs.Names.{IsOneOf, AllHave}
use Rattle.cat_verify_shapes.specs.Owned.{IsRising}
use Rattle.cat_verify.specs.declared.stamps.Stamps.{Stamps}
use Rattle.cat_verify.specs.declared.stamps.Stamps.TheVariants.{Nobody, One, Two}
use Rattle.cat_verify.specs.inside.Buckets.{numbers_of, with_member}
use Rattle.cat_verify.specs.inside.OwnerNumbers.{placed_by, placed_from}

-- ---- places of an owner

pub all_of : {A : Type 0} (P : A → Type 0) (xs : List A) → ((x : A) → IsOneOf x xs → P x) → AllHave P xs
all_of P [] each = tt
all_of P (x ∷ xs) each = (each x (inl refl), all_of P xs (λ y one. each y (inr one)))

pub of_placed : (p : ℕ) (marks : List Stamps) (n q : ℕ) → IsOneOf q (numbers_of n (placed_from p marks))
    → (k : ℕ) × (q ≡ p + k) × (slice_get marks k ≡ Some (One n))
of_placed p [] n q one = absurd one
of_placed p (m ∷ marks) n q one = by (λ more. later (of_placed (p + 1) marks n q more)) m refl one
  where
    later : (k : ℕ) × (q ≡ p + 1 + k) × (slice_get marks k ≡ Some (One n))
        → (k : ℕ) × (q ≡ p + k) × (slice_get (m ∷ marks) k ≡ Some (One n))
    later rest = let at : q ≡ p + 1 + rest.0 = rest.1 in (suc rest.0, omega (arith, at), rest.2)

    by : (IsOneOf q (numbers_of n (placed_from (p + 1) marks))
        → (k : ℕ) × (q ≡ p + k) × (slice_get (m ∷ marks) k ≡ Some (One n)))
        → (l : Stamps) → m ≡ l → IsOneOf q (numbers_of n (with_member (placed_by p l) (placed_from (p + 1) marks)))
        → (k : ℕ) × (q ≡ p + k) × (slice_get (m ∷ marks) k ≡ Some (One n))
    by behind Nobody e one = behind one
    by behind (Two a b) e one = behind one
    by behind (One a) e one = here (nat_eq a n) refl one
      where
        here : (t : Bool) → nat_eq a n ≡ t
            → IsOneOf q (if t then p ∷ numbers_of n (placed_from (p + 1) marks)
            else numbers_of n (placed_from (p + 1) marks))
            → (k : ℕ) × (q ≡ p + k) × (slice_get (m ∷ marks) k ≡ Some (One n))
        here true same (inl first) =
            let equal : a ≡ n = grind (arith, nat_tests, same) in
            (0, omega (arith, first), ap Some e ∙ ap (λ (l : ℕ). Some (One l)) equal)
        here true same (inr more) = behind more
        here false other one = behind one

pub in_placed : (p : ℕ) (marks : List Stamps) (n k : ℕ) → slice_get marks k ≡ Some (One n)
    → IsOneOf (p + k) (numbers_of n (placed_from p marks))
in_placed p [] n k h = absurd (cc h)
in_placed p (m ∷ marks) n zero h =
    subst (λ (l : Stamps). IsOneOf (p + 0) (numbers_of n (with_member (placed_by p l) (placed_from (p + 1) marks))))
    (same h) (by (nat_eq n n) (grind (arith, nat_tests)))
  where
    same : Some m ≡ Some (One n) → One n ≡ m
    same e = cc e

    by : (t : Bool) → t ≡ true → IsOneOf (p + 0) (if t then p ∷ numbers_of n (placed_from (p + 1) marks)
        else numbers_of n (placed_from (p + 1) marks))
    by true e = inl (omega arith)
    by false e = absurd (cc e)
in_placed p (m ∷ marks) n (suc k) h =
    let at : p + 1 + k ≡ p + suc k = omega arith in
    by m (subst (λ (q : ℕ). IsOneOf q (numbers_of n (placed_from (p + 1) marks))) at
    (in_placed (p + 1) marks n k h))
  where
    by : (l : Stamps) → IsOneOf (p + suc k) (numbers_of n (placed_from (p + 1) marks))
        → IsOneOf (p + suc k) (numbers_of n (with_member (placed_by p l) (placed_from (p + 1) marks)))
    by Nobody one = one
    by (Two a b) one = one
    by (One a) one = here (nat_eq a n)
      where
        here : (t : Bool) → IsOneOf (p + suc k) (if t then p ∷ numbers_of n (placed_from (p + 1) marks)
            else numbers_of n (placed_from (p + 1) marks))
        here true = inr one
        here false = one

pub rising : (p : ℕ) (marks : List Stamps) (n : ℕ) → IsRising (numbers_of n (placed_from p marks))
rising p [] n = tt
rising p (m ∷ marks) n = by m (rising (p + 1) marks n)
  where
    by : (l : Stamps) → IsRising (numbers_of n (placed_from (p + 1) marks))
        → IsRising (numbers_of n (with_member (placed_by p l) (placed_from (p + 1) marks)))
    by Nobody rest = rest
    by (Two a b) rest = rest
    by (One a) rest = here (nat_eq a n)
      where
        here : (t : Bool) → IsRising (if t then p ∷ numbers_of n (placed_from (p + 1) marks)
            else numbers_of n (placed_from (p + 1) marks))
        here false = rest
        here true = (
          all_of (λ q. p < q) (numbers_of n (placed_from (p + 1) marks))
              (λ q one. let from = of_placed (p + 1) marks n q one in
              let at : q ≡ p + 1 + from.0 = from.1 in omega (arith, at)),
          rest,
        )

-- ---- how often a number is listed

pub times_in : (n : ℕ) (ns : List ℕ) → IsOneOf n ns → 1 ≤ times ns n
times_in n [] one = absurd one
times_in n (m ∷ ns) (inl same) = grind (arith, nat_tests, same)
times_in n (m ∷ ns) (inr more) = let rest : 1 ≤ times ns n = times_in n ns more in grind (arith, nat_tests, rest)

pub in_times : (n : ℕ) (ns : List ℕ) → 1 ≤ times ns n → IsOneOf n ns
in_times n [] h = absurd (omega (arith, h))
in_times n (m ∷ ns) h = by (λ more. in_times n ns more) (nat_eq m n) refl
  where
    by : (1 ≤ times ns n → IsOneOf n ns) → (t : Bool) → nat_eq m n ≡ t → IsOneOf n (m ∷ ns)
    by later true e = inl (grind (arith, nat_tests, e))
    by later false e = inr (later (grind (arith, nat_tests, e, h)))

pub times_both : (n : ℕ) (front back : List ℕ) → times (front ++ back) n ≡ times front n + times back n
times_both n [] back = omega arith
times_both n (m ∷ front) back =
    let rest : times (front ++ back) n ≡ times front n + times back n = times_both n front back in
    grind (arith, nat_tests, rest)

pub at_front : (n k : ℕ) (front back : List ℕ) → slice_get front k ≡ Some n → slice_get (front ++ back) k ≡ Some n
at_front n k [] back h = absurd (cc h)
at_front n zero (m ∷ front) back h = h
at_front n (suc k) (m ∷ front) back h = at_front n k front back h

pub at_behind : (n : ℕ) (front back : List ℕ) → slice_get (front ++ n ∷ back) (length front) ≡ Some n
at_behind n [] back = refl
at_behind n (m ∷ front) back = at_behind n front back

pub take_short : (k : ℕ) (front back : List ℕ) → k ≤ length front → (n : ℕ) → IsOneOf n (take k (front ++ back))
    → IsOneOf n front
take_short zero front back short n one = absurd one
take_short (suc k) [] back short n one = absurd (omega (arith, short))
take_short (suc k) (m ∷ front) back short n (inl same) = inl same
take_short (suc k) (m ∷ front) back short n (inr more) =
    inr (take_short k front back (omega (arith, short)) n more)
