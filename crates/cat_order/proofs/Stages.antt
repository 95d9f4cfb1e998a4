-- Listing one item more, by what is ready and how many dependencies of each item are unmet.
use Rattle.std.proofs.Common.{◌≡◌, ◌∙◌, sym, ap, subst, ℕ, ◌+◌, ◌<◌, ◌≤◌, Bool, true, false, cond, not, List, [], ◌∷◌}
use Rattle.std.proofs.Common.{◌++◌, length, map, get_or, arith}
use Rattle.std.specs.Prelude.{◌==◌, ◌&&◌, ◌||◌, nat_lt}
use Rattle.std.specs.Ordering.{nat_cmp, is_eq}
use Rattle.std.proofs.Math.Logic.{⊎_elim}
use Rattle.std.proofs.lemmas.Bool.{cases_eq, cases_lt, false_from_ne_true, ne_eqb}
use Rattle.std.proofs.lemmas.Bool.Decides.{nat_tests}
use Rattle.std.proofs.lemmas.List.{get_or_past, get_or-map, length-map}
use Rattle.cat_order.specs.Order.{dependencies_of, times, is_listed, is_ready, IsNext}
use Rattle.cat_order.specs.inside.Steps.{missing, dependents_of, AreDependents}
use Rattle.cat_order.proofs.Counts.{times_push_same, times_push_other, missing_more, missing_all}
use Rattle.cat_order.proofs.Fronts.{IsFront, IsFront-none, IsFront-push, Ready, Ready-of_is_ready, is_ready-counts}

pub is_eq-nat_cmp : (x y : ℕ) → is_eq (nat_cmp x y) ≡ (x == y)
is_eq-nat_cmp x y = grind (arith, nat_tests)

-- what is listed is a front of the order; the counts and what is ready go by it
pub record IsStage (deps : List (List ℕ)) (listed unmet : List ℕ) (ready : ℕ → Bool) : Type 0 where
  pub front : IsFront deps listed
  pub one_each : length unmet ≡ length deps
  pub counts : (item : ℕ) → item < length deps → get_or unmet item 0 ≡ missing listed (dependencies_of deps item)
  pub is_ready_exactly : (item : ℕ) → ready item ≡ is_ready deps listed item

module _ (deps : List (List ℕ)) (listed unmet : List ℕ) (ready : ℕ → Bool) (x : ℕ)
    (stage : IsStage deps listed unmet ready) (taken : ready x ≡ true) where
  pub taken_is_ready : Ready deps listed x
  taken_is_ready = Ready-of_is_ready deps listed x (sym (stage.is_ready_exactly x) ∙ taken)

  taken_is_next : ((item : ℕ) → ready item ≡ true → x ≤ item) → IsNext deps listed x
  taken_is_next least = record {
    ready = sym (stage.is_ready_exactly x) ∙ taken;
    first = λ other below. sym (stage.is_ready_exactly other) ∙ false_from_ne_true (ready other)
        (λ too. absurd (omega (arith, least other too)));
  }

  -- the dependents of an item are counted among what they miss
  pub counted : (dependents : List (List ℕ)) → AreDependents deps dependents → (item : ℕ)
      → times (dependents_of dependents x) item ≤ get_or unmet item 0
  counted dependents turned item = ⊎_elim
      (λ within. omega (
        arith,
        turned x item taken_is_ready.within,
        stage.counts item within,
        missing_more listed (dependencies_of deps item) x taken_is_ready.new,
      ))
      (λ past. omega (
        arith,
        turned x item taken_is_ready.within,
        ap (λ ds. times ds x) (get_or_past deps item [] past),
      ))
      (cases_lt item (length deps))

-- an item enters where it misses nothing more
enters : (n item t m left l : ℕ) → item < n → m ≡ left + t → (0 < l → m ≡ 0)
    → ((nat_lt item n && not (nat_lt 0 l) && (m == 0)) || (nat_lt 0 t && (left == 0)))
    ≡ (nat_lt item n && not (nat_lt 0 l) && (left == 0))
enters n item t m left l within sum closed = grind (arith, nat_tests)

outside : (n item t m left l more : ℕ) → n ≤ item → t ≡ 0
    → ((nat_lt item n && not (nat_lt 0 l) && (m == 0)) || (nat_lt 0 t && (left == 0)))
    ≡ (nat_lt item n && not (nat_lt 0 l) && (more == 0))
outside n item t m left l more past none = grind (arith, nat_tests)

-- the next item leaves what is ready, and those of its dependents enter that miss nothing more
module _ (deps dependents : List (List ℕ)) (listed unmet left : List ℕ) (ready after : ℕ → Bool) (x : ℕ)
    (stage : IsStage deps listed unmet ready) (turned : AreDependents deps dependents) (taken : ready x ≡ true)
    (counts : (item : ℕ) → get_or left item 0 + times (dependents_of dependents x) item ≡ get_or unmet item 0)
    (entered : (item : ℕ) → after item ≡ ((cond (is_eq (nat_cmp x item)) false (ready item))
    || (is_listed (dependents_of dependents x) item && (get_or left item 0 == 0)))) where
  now_ready : Ready deps listed x
  now_ready = taken_is_ready deps listed unmet ready x stage taken

  left_is : (item : ℕ) → item < length deps → get_or left item 0 ≡ missing (listed ++ x ∷ [])
      (dependencies_of deps item)
  left_is item within = omega (
    arith,
    counts item,
    turned x item now_ready.within,
    stage.counts item within,
    missing_more listed (dependencies_of deps item) x now_ready.new,
  )

  none_of_its_own : times (dependents_of dependents x) x ≡ 0
  none_of_its_own = omega (
    arith,
    turned x x now_ready.within,
    missing_more listed (dependencies_of deps x) x
        now_ready.new,
    now_ready.none_missing,
  )

  leaves : after x ≡ is_ready deps (listed ++ x ∷ []) x
  leaves = entered x ∙ ((rw (is_eq-nat_cmp x x) (grind (arith, nat_tests, none_of_its_own, times_push_same listed x)))
      ∙ sym (is_ready-counts deps (listed ++ x ∷ []) x))

  stays_or_enters : (item : ℕ) → (x ≡ item → ⊥) → after item ≡ is_ready deps (listed ++ x ∷ []) item
  stays_or_enters item other =
      let before : ready item ≡ (nat_lt item (length deps) && not (nat_lt 0 (times listed item))
      && (missing listed (dependencies_of deps item) == 0)) = stage.is_ready_exactly item
      ∙ is_ready-counts deps listed item in
      let apart : is_eq (nat_cmp x item) ≡ false = is_eq-nat_cmp x item ∙ ne_eqb x item other in
      let same : times (listed ++ x ∷ []) item ≡ times listed item = times_push_other listed x item other in
      entered item ∙ (rw (apart, before, same) (⊎_elim
      (λ within. rw (← (left_is item within)) (enters (length deps) item (times (dependents_of dependents x) item)
      (missing listed (dependencies_of deps item)) (get_or left item 0) (times listed item) within
      (omega (
        arith,
        turned x item now_ready.within,
        missing_more listed (dependencies_of deps item) x now_ready.new,
        left_is item within,
      ))
      (stage.front.closed item)))
      (λ past. outside (length deps) item (times (dependents_of dependents x) item)
      (missing listed (dependencies_of deps item)) (get_or left item 0) (times listed item)
      (missing (listed ++ x ∷ []) (dependencies_of deps item)) past
      (turned x item now_ready.within ∙ ap (λ ds. times ds x) (get_or_past deps item [] past)))
      (cases_lt item (length deps))) ∙ sym (is_ready-counts deps (listed ++ x ∷ []) item))

  pub next_stage : ((item : ℕ) → ready item ≡ true → x ≤ item) → length left ≡ length unmet
      → IsStage deps (listed ++ x ∷ []) left after
  next_stage least same_length = record {
    front = IsFront-push deps listed x stage.front (taken_is_next deps listed unmet ready x stage taken least);
    one_each = same_length ∙ stage.one_each;
    counts = left_is;
    is_ready_exactly = λ item. ⊎_elim
        (λ here. subst (λ (n : ℕ). after n ≡ is_ready deps (listed ++ x ∷ []) n) here leaves)
        (stays_or_enters item)
        (cases_eq x item);
  }

-- where nothing is listed yet
pub first_stage : (deps : List (List ℕ)) (unmet : List ℕ) (ready : ℕ → Bool) → unmet ≡ map length deps
    → ((item : ℕ) → ready item ≡ (nat_lt item (length unmet) && (get_or unmet item 0 == 0)))
    → IsStage deps [] unmet ready
first_stage deps unmet ready lengths exactly =
    let one_each : length unmet ≡ length deps = ap length lengths ∙ length-map deps length in
    let counts : (item : ℕ) → item < length deps → get_or unmet item 0 ≡ missing [] (dependencies_of deps item) =
    λ item within. (ap (λ (xs : List ℕ). get_or xs item 0) lengths ∙ get_or-map length deps item [] 0 within)
    ∙ sym (missing_all (dependencies_of deps item)) in
    record {
      front = IsFront-none deps;
      one_each = one_each;
      counts = counts;
      is_ready_exactly = λ item. exactly item ∙ (rw one_each (⊎_elim
          (λ within. rw (counts item within) (grind (arith, nat_tests)))
          (λ past. grind (arith, nat_tests))
          (cases_lt item (length deps))) ∙ sym (is_ready-counts deps [] item));
    }
