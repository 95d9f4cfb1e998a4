-- Fronts of the order: what stands in front of an index.
use Rattle.std.proofs.Common.{◌≡◌, ◌∙◌, sym, ap, refl, subst, ℕ, zero, suc, ◌+◌, ◌<◌, ◌≤◌, true, not, List, [], ◌∷◌}
use Rattle.std.proofs.Common.{◌++◌, length, take, get_or, arith, add-one}
use Rattle.std.specs.Prelude.{◌==◌, nat_lt, ◌&&◌}
use Rattle.std.proofs.lemmas.Bool.{cases_eq, cases_lt}
use Rattle.std.proofs.lemmas.Bool.Decides.{nat_tests}
use Rattle.std.proofs.lemmas.List.{take_more, take_all, take-append-le, take_at, get_or_at, get_or_append_left}
use Rattle.std.proofs.lemmas.List.{length_push}
use Rattle.std.proofs.Math.Nat.{le_refl}
use Rattle.std.proofs.Math.Logic.{⊎_elim}
use Rattle.cat_order.specs.Order.{dependencies_of, times, is_ready, IsNext, IsInOrder, IsOrder}
use Rattle.cat_order.specs.inside.Steps.{missing, left_out}
use Rattle.cat_order.proofs.Counts.{times_push, times_push_other, missing_more, list_all-missing, left_out_more}
use Rattle.cat_order.proofs.Counts.{left_out_none, listed_of_none_left}

-- what it means to be ready, by counts
pub is_ready-counts : (deps : List (List ℕ)) (front : List ℕ) (item : ℕ)
    → is_ready deps front item ≡ (nat_lt item (length deps) && not (nat_lt 0 (times front item)) &&
    (missing front (dependencies_of deps item) == 0))
unfolding is_ready
is_ready-counts deps front item =
    ap (λ b. nat_lt item (length deps) && not (nat_lt 0 (times front item)) && b)
    (list_all-missing front (dependencies_of deps item))

-- the parts of being ready
pub record Ready (deps : List (List ℕ)) (front : List ℕ) (item : ℕ) : Type 0 where
  pub within : item < length deps
  pub new : times front item ≡ 0
  pub none_missing : missing front (dependencies_of deps item) ≡ 0

pub Ready-of_is_ready : (deps : List (List ℕ)) (front : List ℕ) (item : ℕ) → is_ready deps front item ≡ true
    → Ready deps front item
Ready-of_is_ready deps front item ready =
    let counts : (nat_lt item (length deps) && not (nat_lt 0 (times front item)) &&
    (missing front (dependencies_of deps item) == 0)) ≡ true = sym (is_ready-counts deps front item) ∙ ready in
    record {
      within = grind (arith, nat_tests, counts);
      new = grind (arith, nat_tests, counts);
      none_missing = grind (arith, nat_tests, counts);
    }

-- a front of the order
pub record IsFront (deps : List (List ℕ)) (front : List ℕ) : Type 0 where
  pub in_order : IsInOrder deps front
  pub at_most_once : (item : ℕ) → times front item ≤ 1
  pub closed : (item : ℕ) → 0 < times front item → missing front (dependencies_of deps item) ≡ 0
  pub items : (item : ℕ) → 0 < times front item → item < length deps
  pub left : left_out front (length deps) + length front ≡ length deps

pub IsFront-none : (deps : List (List ℕ)) → IsFront deps []
IsFront-none deps = record {
  in_order = λ place within. absurd (omega arith);
  at_most_once = λ item. omega arith;
  closed = λ item listed. absurd (omega arith);
  items = λ item listed. absurd (omega arith);
  left = omega (arith, left_out_none (length deps));
}

IsInOrder-push : (deps : List (List ℕ)) (front : List ℕ) (x : ℕ) → IsInOrder deps front → IsNext deps front x
    → IsInOrder deps (front ++ x ∷ [])
IsInOrder-push deps front x in_order next place within =
    ⊎_elim (λ before. rw (
      take-append-le place front (x ∷ []) (omega arith),
      get_or_append_left front
          (x ∷ []) 0 place before,
    ) (in_order place before))
    (λ after. let here : place ≡ length front = omega (arith, length_push front x) in
    rw (here, take_at front (x ∷ []) (length front) refl, get_or_at front x [] 0 (length front) refl) next)
    (cases_lt place (length front))

pub IsFront-push : (deps : List (List ℕ)) (front : List ℕ) (x : ℕ) → IsFront deps front → IsNext deps front x
    → IsFront deps (front ++ x ∷ [])
IsFront-push deps front x is next =
    let ready : Ready deps front x = Ready-of_is_ready deps front x next.ready in
    record {
      in_order = IsInOrder-push deps front x is.in_order next;
      at_most_once = λ item. grind (arith, nat_tests, times_push front x item, ready.new, is.at_most_once item);
      closed = λ item listed. ⊎_elim
          (λ same. subst (λ (n : ℕ). missing (front ++ x ∷ []) (dependencies_of deps n) ≡ 0) same
          (omega (arith, missing_more front (dependencies_of deps x) x ready.new, ready.none_missing)))
          (λ other. let before : 0 < times front item = omega (arith, times_push_other front x item other) in
          omega (arith, missing_more front (dependencies_of deps item) x ready.new, is.closed item before))
          (cases_eq x item);
      items = λ item listed. ⊎_elim
          (λ same. subst (λ (n : ℕ). n < length deps) same ready.within)
          (λ other. is.items item (omega (arith, times_push_other front x item other)))
          (cases_eq x item);
      left = omega (arith, left_out_more front x (length deps) ready.within ready.new, length_push front x, is.left);
    }

-- each front of a list in order
pub IsFront-take : (deps : List (List ℕ)) (listed : List ℕ) → IsInOrder deps listed → (place : ℕ)
    → place ≤ length listed → IsFront deps (take place listed)
IsFront-take deps listed in_order zero within = IsFront-none deps
IsFront-take deps listed in_order (suc place) within =
    let here : place < length listed = omega arith in
    let more : take (suc place) listed ≡ take place listed ++ get_or listed place 0 ∷ [] =
    sym (ap (λ n. take n listed) (add-one place)) ∙ take_more listed place 0 here in
    rw more (IsFront-push deps (take place listed) (get_or listed place 0)
    (IsFront-take deps listed in_order place (omega arith)) (in_order place here))

pub IsFront-of_IsInOrder : (deps : List (List ℕ)) (listed : List ℕ) → IsInOrder deps listed → IsFront deps listed
IsFront-of_IsInOrder deps listed in_order =
    rw (take_all (length listed) listed (le_refl (length listed))) at
    (IsFront-take deps listed in_order (length listed) (le_refl (length listed)))

-- a front in which no item is left out is the order
pub IsOrder-of_IsFront : (deps : List (List ℕ)) (listed : List ℕ) → IsFront deps listed
    → left_out listed (length deps) ≡ 0 → IsOrder deps listed
IsOrder-of_IsFront deps listed is none = record {
  once = λ item within. omega (arith, is.at_most_once item, listed_of_none_left listed (length deps) item none within);
  in_order = is.in_order;
}
