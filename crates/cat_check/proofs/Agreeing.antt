-- Roundings that agree, and those that don't.
use Rattle.std.proofs.Common.{◌≡◌, ◌∙◌, ℕ, zero, suc, ◌+◌, ◌<◌, Bool, true, false, not, List, [], ◌∷◌, Some, Ok, Err}
use Rattle.std.proofs.Common.{length, drop, take, get_or, refl, ap, slice_get, sym, subst, arith, inl, inr, map}
use Rattle.std.proofs.Common.{◌≤◌}
use Rattle.std.proofs.lemmas.List.{drop_all}
use Rattle.std.specs.Prelude.{cond, filter, if◌then◌else◌}
use Rattle.std.specs.List.{enumerate_from, list_any}
use Rattle.cat_pos.specs.declared.pos.Pos.{Pos}
use Rattle.cat_date.specs.declared.rounding.Rounding.{Rounding}
use Rattle.cat_scope.specs.Names.{IsOneOf}
use Rattle.cat_names.specs.declared.fault.Fault.TheVariants.{Misplaced}
use Rattle.cat_names.specs.declared.fault.Refusal.TheVariants.{Refused}
use Rattle.cat_names.specs.Bodies.{contradictions, differ, rounding_of}
use Rattle.cat_names.specs.Found.{Tells, where_none}
use Rattle.cat_names.proofs.Exported.{beside_stands}
use Rattle.cat_check.specs.inside.Differing.{any_differs}

abbrev Round : Type 0
Round = Pos × Bool

-- what agrees with one agrees with another that does
alike : (a b c : Bool) → (if a then not b else b) ≡ false → (if c then not b else b) ≡ false
    → (if a then not c else c) ≡ false
alike true true true h g = refl
alike true true false h g = cc g
alike true false true h g = cc h
alike true false false h g = cc h
alike false true true h g = cc h
alike false true false h g = refl
alike false false true h g = cc g
alike false false false h g = refl

itself : (a : Bool) → (if a then not a else a) ≡ false
itself true = refl
itself false = refl

first_agrees : (first r : Round) (rs : List Round) → any_differs first (r ∷ rs) ≡ false → differ r first ≡ false
first_agrees first r rs h = by (differ r first) h
  where
    by : (b : Bool) → (if b then true else any_differs first rs) ≡ false → b ≡ false
    by true g = cc g
    by false g = refl

rest_agrees : (first r : Round) (rs : List Round) → any_differs first (r ∷ rs) ≡ false → any_differs first rs ≡ false
rest_agrees first r rs h = by (differ r first) h
  where
    by : (b : Bool) → (if b then true else any_differs first rs) ≡ false → any_differs first rs ≡ false
    by true g = cc g
    by false g = g

no_clash : (first x : Round) (xs : List Round) (k : ℕ) → differ x first ≡ false → any_differs first xs ≡ false
    → list_any (differ x) (take k xs) ≡ false
no_clash first x [] zero same h = refl
no_clash first x [] (suc k) same h = refl
no_clash first x (y ∷ ys) zero same h = refl
no_clash first x (y ∷ ys) (suc k) same h = rw (alike x.1 first.1 y.1 same (first_agrees first y ys h))
    (no_clash first x ys k same (rest_agrees first y ys h))

none_kept : (first : Round) (xs ys : List Round) (n : ℕ) → any_differs first xs ≡ false → any_differs first ys ≡ false
    → filter (λ x. list_any (differ x.1) (take x.0 xs)) (enumerate_from n ys) ≡ []
none_kept first xs [] n h g = refl
none_kept first xs (y ∷ ys) n h g = rw (no_clash first y xs n (first_agrees first y ys g) h)
    (none_kept first xs ys (n + 1) h (rest_agrees first y ys g))

-- where all agree with the first, none contradicts
agreeing : (first : Round) (rest : List Round) → any_differs first rest ≡ false → contradictions (first ∷ rest) ≡ []
agreeing first rest h =
    let all : any_differs first (first ∷ rest) ≡ false = rw (itself first.1) h in
    ap (λ kept. map (λ (r : Round). Misplaced r.0) (map (λ x. x.1) kept))
    (none_kept first (first ∷ rest) (first ∷ rest) 0 all all)

-- one that is kept is told
kept_at : (test : ℕ × Round → Bool) (ys : List Round) (n m : ℕ) (x : Round) → slice_get ys m ≡ Some x
    → test (n + m, x) ≡ true
    → IsOneOf (Misplaced x.0) (map (λ (r : Round). Misplaced r.0) (map (λ x. x.1) (filter test (enumerate_from n ys))))
kept_at test [] n zero x at h = cc at
kept_at test [] n (suc m) x at h = cc at
kept_at test (y ∷ ys) n zero x at h =
    let is : y ≡ x = cc at in
    let here : n + 0 ≡ n = omega arith in
    let passes : test (n, y) ≡ true =
    ap test (ap (λ (k : ℕ). (k, y)) (sym here) ∙ ap (λ (r : Round). (n + 0, r)) is) ∙ h in
    rw passes (inl (ap (λ (r : Round). Misplaced r.0) (sym is)))
kept_at test (y ∷ ys) n (suc m) x at h =
    let next : n + suc m ≡ n + 1 + m = omega arith in
    by (test (n, y)) (kept_at test ys (n + 1) m x at (ap (λ (k : ℕ). test (k, x)) (sym next) ∙ h))
  where
    by : (b : Bool) → IsOneOf (Misplaced x.0)
        (map (λ (r : Round). Misplaced r.0) (map (λ x. x.1) (filter test (enumerate_from (n + 1) ys))))
        → IsOneOf (Misplaced x.0) (map (λ (r : Round). Misplaced r.0) (map (λ x. x.1)
        (cond b ((n, y) ∷ filter test (enumerate_from (n + 1) ys)) (filter test (enumerate_from (n + 1) ys)))))
    by true g = inr g
    by false g = g

-- one that differs from the first contradicts
clashing_at : (first : Round) (rest : List Round) (i : ℕ) (x : Round) → slice_get rest i ≡ Some x
    → differ x first ≡ true → IsOneOf (Misplaced x.0) (contradictions (first ∷ rest))
clashing_at first rest i x at other =
    let here : list_any (differ x) (take (suc i) (first ∷ rest)) ≡ true = rw other refl in
    let same : suc i ≡ 0 + suc i = omega arith in
    kept_at (λ x. list_any (differ x.1) (take x.0 (first ∷ rest))) (first ∷ rest) 0 (suc i) x at
    (subst (λ (k : ℕ). list_any (differ x) (take k (first ∷ rest)) ≡ true) same here)

-- all agree with the first
pub settled : (rounds : List Round) (first : Round) (rest : List Round) → rounds ≡ first ∷ rest
    → any_differs first rest ≡ false
    → where_none (contradictions rounds) (Ok (rounding_of rounds)) ≡ Ok (rounding_of (first ∷ []))
settled rounds first rest is h =
    ap (λ rs. where_none (contradictions rs) (Ok (rounding_of rs))) is
    ∙ ap (λ faults. where_none faults (Ok (rounding_of (first ∷ rest)))) (agreeing first rest h)

-- one doesn't
pub unsettled : (rounds : List Round) (first : Round) (rest : List Round) (i : ℕ) (x : Round) → rounds ≡ first ∷ rest
    → slice_get rest i ≡ Some x → differ x first ≡ true
    → Tells {A = Rounding} (Err (Refused (Misplaced x.0)))
    (where_none (contradictions rounds) (Ok (rounding_of rounds)))
unsettled rounds first rest i x is at other =
    subst (λ rs. Tells {A = Rounding} (Err (Refused (Misplaced x.0))) (where_none (contradictions rs)
    (Ok (rounding_of rs)))) (sym is)
    (beside_stands (Misplaced x.0) (contradictions (first ∷ rest)) (Ok (rounding_of (first ∷ rest)))
    (clashing_at first rest i x at other))

-- what stands at a place
pub at_slot : {A : Type 0} (xs : List A) (i : ℕ) (d : A) → i < length xs → slice_get xs i ≡ Some (get_or xs i d)
at_slot [] i d within = absurd (omega (arith, within))
at_slot (x ∷ xs) zero d within = refl
at_slot (x ∷ xs) (suc i) d within = at_slot xs i d (omega (arith, within))

-- behind the last one
pub none_left : (first : Round) (rest : List Round) (i : ℕ) → length rest ≤ i
    → any_differs first rest ≡ any_differs first (drop i rest) → any_differs first rest ≡ false
none_left first rest i past before = before ∙ ap (any_differs first) (drop_all i rest past)
