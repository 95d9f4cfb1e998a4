-- What holds of each item whose dependencies have it holds of all items that have an order.
use Rattle.std.proofs.Common.{◌≡◌, ◌<◌, ◌≤◌, ◌+◌, ◌==◌, nat_lt, ℕ, zero, suc, Bool, true, false, IsTrue, List, [], ◌∷◌}
use Rattle.std.proofs.Common.{◌++◌, length, take, refl, sym, ap, ◌∙◌, subst, arith, if◌then◌else◌, ◌&&◌, not, All}
use Rattle.std.specs.Prelude.{slice_index}
use Rattle.std.specs.List.{list_all}
use Rattle.std.proofs.lemmas.Bool.Decides.{nat_tests}
use Rattle.std.proofs.Math.Seq.{take-length, take-suc}
use Rattle.cat_order.specs.Order.{IsOrder, dependencies_of, is_listed, is_ready, times}
use Rattle.cat_order.specs.Cycle.{DependsOn}
use Rattle.cat_scope.specs.Names.{AllHave}

times_push : (xs : List ℕ) (x i : ℕ) → times (xs ++ x ∷ []) i ≡ times xs i + (if x == i then 1 else 0)
times_push [] x i = omega arith
times_push (y ∷ xs) x i = omega (arith, times_push xs x i)

-- what passes a test for each element of a list passes it for one that is listed
pub all_pass : (test : ℕ → Bool) (xs : List ℕ) (d : ℕ) → IsTrue (list_all test xs) → 0 < times xs d → IsTrue (test d)
all_pass test [] d all h = absurd (omega (arith, h))
all_pass test (x ∷ xs) d all h =
    by (test x) refl all (x == d) refl h (λ e g. all_pass test xs d e g)
  where
    by : (t : Bool) → test x ≡ t → (t && list_all test xs) ≡ true → (b : Bool) → (x == d) ≡ b
        → 0 < (if b then 1 else 0) + times xs d
        → (IsTrue (list_all test xs) → 0 < times xs d → IsTrue (test d)) → IsTrue (test d)
    by true is e true same g rest = let at : x ≡ d = grind (arith, nat_tests, same) in
        subst (λ k. IsTrue (test k)) at is
    by true is e false other g rest = rest e (omega (arith, g))
    by false is e b same g rest = cc e

ready_within : (deps : List (List ℕ)) (front : List ℕ) (i : ℕ) → IsTrue (is_ready deps front i) → i < length deps
unfolding is_ready
ready_within deps front i h = by (nat_lt i (length deps)) refl (is_listed front i) h
  where
    by : (b : Bool) → nat_lt i (length deps) ≡ b → (c : Bool)
        → (b && not c && list_all (is_listed front) (dependencies_of deps i)) ≡ true → i < length deps
    by true is c e = grind (arith, nat_tests, is)
    by false is c e = cc e

ready_listed : (deps : List (List ℕ)) (front : List ℕ) (i : ℕ) → IsTrue (is_ready deps front i)
    → IsTrue (list_all (is_listed front) (dependencies_of deps i))
unfolding is_ready
ready_listed deps front i h = by (nat_lt i (length deps)) (is_listed front i) _ h
  where
    by : (b c d : Bool) → (b && not c && d) ≡ true → d ≡ true
    by true false d e = e
    by true true d e = cc e
    by false c d e = cc e

module _ (deps : List (List ℕ)) (listed : List ℕ) (is : IsOrder deps listed) (L : ℕ → Type 0)
    (step : (i : ℕ) → i < length deps → ((d : ℕ) → DependsOn deps i d → L d) → L i) where
  front_has : (p : ℕ) → p ≤ length listed → (i : ℕ) → 0 < times (take p listed) i → L i
  front_has zero within i h = absurd (omega (arith, h))
  front_has (suc p) within i h =
      let more : take (suc p) listed ≡ take p listed ++ slice_index listed p ∷ [] = take-suc listed p 0
      (omega (arith, within)) in
      let next = is.in_order p (omega (arith, within)) in
      by (slice_index listed p == i) refl
      (subst (λ k. 0 < k) (ap (λ xs. times xs i) more ∙ times_push (take p listed) (slice_index listed p) i) h)
      (λ g. front_has p (omega (arith, within)) i g)
      (step (slice_index listed p) (ready_within deps (take p listed) (slice_index listed p) next.ready) (λ d on.
      front_has p (omega (arith, within)) d (grind (
        arith,
        nat_tests,
        all_pass (is_listed (take p listed))
            (dependencies_of deps (slice_index listed p)) d
            (ready_listed deps (take p listed) (slice_index listed p) next.ready) (grind (arith, nat_tests, on)),
      ))))
    where
      by : (b : Bool) → (slice_index listed p == i) ≡ b → 0 < times (take p listed) i + (if b then 1 else 0)
          → (0 < times (take p listed) i → L i) → L (slice_index listed p) → L i
      by true e g rest last = let same : slice_index listed p ≡ i = grind (arith, nat_tests, e) in subst L same last
      by false e g rest last = rest (omega (arith, g))

  pub by_order : (i : ℕ) → i < length deps → L i
  by_order i within = front_has (length listed) (omega arith) i
      (subst (λ xs. 0 < times xs i) (sym (take-length listed)) (omega (arith, is.once i within)))

-- what holds of each element, by its number
pub all_by : {A : Type 0} (P : A → Type 0) (xs : List A) → AllHave P xs → All P xs
all_by P [] all k d within = absurd (omega (arith, within))
all_by P (x ∷ xs) all zero d within = all.0
all_by P (x ∷ xs) all (suc k) d within = all_by P xs all.1 k d (omega (arith, within))
