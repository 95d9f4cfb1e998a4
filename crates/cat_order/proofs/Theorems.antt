-- The laws of the order.
use Rattle.std.proofs.Common.{◌≡◌, ◌∙◌, sym, ap, refl, subst, ℕ, zero, suc, ◌+◌, ◌<◌, ◌≤◌, ◌↔◌, Bool, true, false, cond}
use Rattle.std.proofs.Common.{Some, None, Option, List, [], ◌∷◌, ◌++◌, length, take, get_or, arith, add-one}
use Rattle.std.specs.Prelude.{All}
use Rattle.std.specs.Option.{option_or}
use Rattle.std.proofs.lemmas.Bool.{cases_eq, cases_lt, ltb-true, lt-ltb}
use Rattle.std.proofs.lemmas.List.Elements.{All-from_get_or}
use Rattle.std.proofs.lemmas.Option.{option_and_then_some, same_Some}
use Rattle.std.proofs.lemmas.List.{take_more, take_all, get_or_past}
use Rattle.std.proofs.Math.Nat.{le_refl}
use Rattle.std.proofs.Math.Logic.{⊎_elim}
use Rattle.cat_order.specs.Order.{dependencies_of, times, is_listed, is_ready, IsNext, IsInOrder, IsOrder}
use Rattle.cat_order.specs.inside.Steps.{left_out}
use Rattle.cat_order.specs.Computed.{first_below, order_from, order_of}
use Rattle.cat_order.specs.Cycle.{DependsOn, IsPath, IsOnCycle}
use Rattle.cat_order.proofs.Counts.{times_at, times_push_other, listed_of_none_missing, left_out_more, left_out_none}
use Rattle.cat_order.proofs.Counts.{none_left_of_listed}
use Rattle.cat_order.proofs.Fronts.{Ready, Ready-of_is_ready, IsFront, IsFront-none, IsFront-push, IsFront-take}
use Rattle.cat_order.proofs.Fronts.{IsFront-of_IsInOrder, IsOrder-of_IsFront}

pub length-IsOrder : (deps : List (List ℕ)) (listed : List ℕ) → IsOrder deps listed → length listed ≡ length deps
length-IsOrder deps listed order =
    let is : IsFront deps listed = IsFront-of_IsInOrder deps listed order.in_order in
    omega (
      arith,
      is.left,
      none_left_of_listed listed (length deps)
          (λ item within. omega (arith, order.once item within)),
    )

pub items-IsOrder : (deps : List (List ℕ)) (listed : List ℕ) → IsOrder deps listed → All (λ item. item < length deps)
    listed
items-IsOrder deps listed order = All-from_get_or (λ item. item < length deps) listed 0
    (λ place within. (IsFront-of_IsInOrder deps listed order.in_order).items (get_or listed place 0)
    (times_at listed place within))

-- the least number below a bound that passes, or that none does
abbrev IsLeast : (ℕ → Bool) → ℕ → Option ℕ → Type 0
IsLeast passes bound None = (k : ℕ) → k < bound → passes k ≡ false
IsLeast passes bound (Some x) = (passes x ≡ true) × ((k : ℕ) → k < x → passes k ≡ false)

IsLeast-suc : (passes : ℕ → Bool) (bound : ℕ) (o : Option ℕ) (b : Bool) → passes bound ≡ b → IsLeast passes bound o
    → IsLeast passes (suc bound) (option_or o (cond b (Some bound) None))
IsLeast-suc passes bound (Some x) b here least = least
IsLeast-suc passes bound None true here none = (here, none)
IsLeast-suc passes bound None false here none = λ k below. ⊎_elim
    (λ before. none k before)
    (λ above. let last : k ≡ bound = omega arith in ap passes last ∙ here)
    (cases_lt k bound)

first_below-IsLeast : (passes : ℕ → Bool) (bound : ℕ) → IsLeast passes bound (first_below passes bound)
first_below-IsLeast passes zero = λ k below. absurd (omega arith)
first_below-IsLeast passes (suc bound) = IsLeast-suc passes bound (first_below passes bound) (passes bound) refl
    (first_below-IsLeast passes bound)

first_below_some : (passes : ℕ → Bool) (bound x : ℕ) → first_below passes bound ≡ Some x → IsLeast passes bound (Some x)
first_below_some passes bound x found =
    subst (λ (o : Option ℕ). IsLeast passes bound o) found (first_below-IsLeast passes bound)

first_below_none : (passes : ℕ → Bool) (bound : ℕ) → ((k : ℕ) → k < bound → passes k ≡ false) → first_below passes bound
    ≡ None
first_below_none passes zero none = refl
first_below_none passes (suc bound) none =
    rw (first_below_none passes bound (λ k below. none k (omega arith)), none bound (omega arith)) refl

first_below_is : (passes : ℕ → Bool) (bound x : ℕ) → passes x ≡ true → x < bound → ((k : ℕ) → k < x → passes k ≡ false)
    → first_below passes bound ≡ Some x
first_below_is passes zero x passed within before = absurd (omega arith)
first_below_is passes (suc bound) x passed within before =
    ⊎_elim (λ below. rw (first_below_is passes bound x passed below before) refl)
    (λ above. let here : x ≡ bound = omega arith in
    let here_too : passes bound ≡ true = ap passes (sym here) ∙ passed in
    rw (first_below_none passes bound (λ k below. before k (omega arith)), here_too, here) refl)
    (cases_lt x bound)

-- what is computed is the order
computed_is_order : (deps : List (List ℕ)) (left : ℕ) (front listed : List ℕ) → IsFront deps front
    → left_out front (length deps) ≡ left → order_from deps front left ≡ Some listed → IsOrder deps listed
computed_is_order deps zero front listed is none computed =
    let same : front ≡ listed = same_Some front listed computed in
    subst (λ (xs : List ℕ). IsOrder deps xs) same (IsOrder-of_IsFront deps front is none)
computed_is_order deps (suc left) front listed is out computed =
    option_and_then_some (λ item. order_from deps (front ++ item ∷ []) left)
    (first_below (is_ready deps front) (length deps)) listed computed
    (λ x found rest.
    let least : IsLeast (is_ready deps front) (length deps) (Some x) =
    first_below_some (is_ready deps front) (length deps) x found in
    let next : IsNext deps front x = record { ready = least.0; first = least.1 } in
    let ready : Ready deps front x = Ready-of_is_ready deps front x least.0 in
    computed_is_order deps left (front ++ x ∷ []) listed (IsFront-push deps front x is next)
    (omega (arith, left_out_more front x (length deps) ready.within ready.new)) rest)

-- the order is computed from each of its fronts
order_is_computed : (deps : List (List ℕ)) (listed : List ℕ) → IsInOrder deps listed → (left place : ℕ)
    → place + left ≡ length listed → order_from deps (take place listed) left ≡ Some listed
order_is_computed deps listed in_order zero place whole = ap Some (take_all place listed (omega arith))
order_is_computed deps listed in_order (suc left) place whole =
    let here : place < length listed = omega arith in
    let next : IsNext deps (take place listed) (get_or listed place 0) = in_order place here in
    let ready : Ready deps (take place listed) (get_or listed place 0) =
    Ready-of_is_ready deps (take place listed) (get_or listed place 0) next.ready in
    rw (first_below_is (is_ready deps (take place listed)) (length deps) (get_or listed place 0) next.ready ready.within
    next.first)
    (rw (sym (take_more listed place 0 here)) (order_is_computed deps listed in_order left (place + 1) (omega arith)))

pub order_of-iff_IsOrder : (deps : List (List ℕ)) (listed : List ℕ) → (order_of deps ≡ Some listed) ↔ IsOrder deps
    listed
unfolding order_of
order_of-iff_IsOrder deps listed = (
  (λ computed. computed_is_order deps (length deps) [] listed (IsFront-none deps) (left_out_none (length deps))
      computed),
  (λ order. rw (sym (length-IsOrder deps listed order)) (order_is_computed deps listed order.in_order (length listed) 0
      (omega arith))),
)

pub one_order : (deps : List (List ℕ)) (one other : List ℕ) → IsOrder deps one → IsOrder deps other → one ≡ other
one_order deps one other is_one is_other =
    same_Some one other (sym ((order_of-iff_IsOrder deps one).1 is_one) ∙ (order_of-iff_IsOrder deps other).1 is_other)

-- what an item of a front depends on, at once or through others, stands in that front
along_path : (deps : List (List ℕ)) (front : List ℕ) → IsFront deps front → (path : List ℕ) (from to : ℕ)
    → IsPath deps from path to → 0 < times front from → 0 < times front to
along_path deps front is [] from to depends listed =
    listed_of_none_missing front (dependencies_of deps from) to (is.closed from listed) (ltb-true 0 _ depends)
along_path deps front is (via ∷ path) from to goes listed =
    along_path deps front is path via to goes.1 (listed_of_none_missing front (dependencies_of deps from) via
    (is.closed from listed) (ltb-true 0 _ goes.0))

-- an item that may come next after a front is on no cycle
none_on_cycle_is_ready : (deps : List (List ℕ)) (front : List ℕ) (item : ℕ) (path : List ℕ) → IsFront deps front
    → Ready deps front item → IsPath deps item path item → ⊥
none_on_cycle_is_ready deps front item [] is ready depends =
    absurd (omega (
      arith,
      listed_of_none_missing front (dependencies_of deps item) item ready.none_missing
          (ltb-true 0 _ depends),
      ready.new,
    ))
none_on_cycle_is_ready deps front item (via ∷ path) is ready goes =
    let begins : 0 < times front via = listed_of_none_missing front (dependencies_of deps item) via ready.none_missing
    (ltb-true 0 _ goes.0) in
    absurd (omega (arith, along_path deps front is path via item goes.1 begins, ready.new))

none_on_cycle_is_listed : (deps : List (List ℕ)) (listed : List ℕ) → IsInOrder deps listed → (item : ℕ) (path : List ℕ)
    → IsPath deps item path item → (place : ℕ) → place ≤ length listed → times (take place listed) item ≡ 0
none_on_cycle_is_listed deps listed in_order item path goes zero within = refl
none_on_cycle_is_listed deps listed in_order item path goes (suc place) within =
    let here : place < length listed = omega arith in
    let more : take (suc place) listed ≡ take place listed ++ get_or listed place 0 ∷ [] =
    sym (ap (λ n. take n listed) (add-one place)) ∙ take_more listed place 0 here in
    let front : IsFront deps (take place listed) = IsFront-take deps listed in_order place (omega arith) in
    let before : times (take place listed) item ≡ 0 =
    none_on_cycle_is_listed deps listed in_order item path goes place (omega arith) in
    let ready : Ready deps (take place listed) (get_or listed place 0) =
    Ready-of_is_ready deps (take place listed) (get_or listed place 0) (in_order place here).ready in
    rw more (⊎_elim
    (λ same. absurd (none_on_cycle_is_ready deps (take place listed) item path front
    (subst (λ (n : ℕ). Ready deps (take place listed) n) same ready) goes))
    (λ other. times_push_other (take place listed) (get_or listed place 0) item other ∙ before)
    (cases_eq (get_or listed place 0) item))

depends_within : (deps : List (List ℕ)) (item other : ℕ) → DependsOn deps item other → item < length deps
depends_within deps item other depends = ⊎_elim
    (λ within. within)
    (λ past. let none : dependencies_of deps item ≡ [] = get_or_past deps item [] past in
    absurd (omega (arith, ap (λ ds. times ds other) none, ltb-true 0 _ depends)))
    (cases_lt item (length deps))

path_within : (deps : List (List ℕ)) (from to : ℕ) (path : List ℕ) → IsPath deps from path to → from < length deps
path_within deps from to [] depends = depends_within deps from to depends
path_within deps from to (via ∷ path) goes = depends_within deps from via goes.0

pub no_order_of_IsOnCycle : (deps : List (List ℕ)) (item : ℕ) → IsOnCycle deps item → (listed : List ℕ)
    → IsOrder deps listed → ⊥
unfolding IsOnCycle
no_order_of_IsOnCycle deps item (path, goes) listed order =
    let never : times (take (length listed) listed) item ≡ 0 =
    none_on_cycle_is_listed deps listed order.in_order item path goes (length listed) (le_refl (length listed)) in
    let whole : take (length listed) listed ≡ listed = take_all (length listed) listed (le_refl (length listed)) in
    let within : item < length deps = path_within deps item item path goes in
    omega (arith, order.once item within, rw whole at never)

pub dependency_before : (deps : List (List ℕ)) (listed : List ℕ) (place other : ℕ) → IsOrder deps listed
    → place < length listed → DependsOn deps (get_or listed place 0) other → is_listed (take place listed) other ≡ true
dependency_before deps listed place other order within depends =
    let ready : Ready deps (take place listed) (get_or listed place 0) =
    Ready-of_is_ready deps (take place listed) (get_or listed place 0) (order.in_order place within).ready in
    lt-ltb 0 _ (listed_of_none_missing (take place listed) (dependencies_of deps (get_or listed place 0)) other
    ready.none_missing (ltb-true 0 _ depends))
