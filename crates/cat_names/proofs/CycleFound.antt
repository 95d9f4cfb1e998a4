-- Items have an order, or one of them is on a cycle.
use Rattle.std.proofs.Common.{◌≡◌, ◌⊎◌, ◌<◌, ◌+◌, ◌&&◌, ◌||◌, ◌==◌, not, nat_lt, ℕ, zero, suc, Bool, true, false, List}
use Rattle.std.proofs.Common.{[], ◌∷◌, ◌++◌, length, Option, Some, None, refl, sym, ◌∙◌, subst, arith, inl, inr}
use Rattle.std.proofs.Common.{if◌then◌else◌, All}
use Rattle.std.specs.Prelude.{option_and_then, eqb}
use Rattle.std.specs.Option.{option_or}
use Rattle.std.specs.List.{list_all, list_any, IsDistinct}
use Rattle.std.proofs.lemmas.Bool.Decides.{nat_tests}
use Rattle.std.proofs.lemmas.Map.Steps.{length-le_from_distinct_below, le-length_from_below}
use Rattle.cat_order.specs.Order.{AreItems, IsOrder, dependencies_of, is_listed, is_ready, times}
use Rattle.cat_order.specs.Computed.{first_below, order_from, order_of}
use Rattle.cat_order.specs.Cycle.{DependsOn, IsPath, IsOnCycle}
use Rattle.cat_order.proofs.Exported.{apart_push, order_of-iff_IsOrder}
use Rattle.cat_names.proofs.ChainLaws.{failing}

-- ---- numbers in lists

one_listed : (x q : ℕ) (t : ℕ) (b r : Bool) → (x == q) ≡ b → nat_lt 0 t ≡ r
    → nat_lt 0 ((if b then 1 else 0) + t) ≡ (eqb q x || r)
one_listed x q t true r is rest = grind (arith, nat_tests, is)
one_listed x q t false r is rest = grind (arith, nat_tests, is, rest)

listed_is : (xs : List ℕ) (q : ℕ) → is_listed xs q ≡ list_any (eqb q) xs
listed_is [] q = refl
listed_is (x ∷ xs) q = one_listed x q (times xs q) (x == q) (list_any (eqb q) xs) refl (listed_is xs q)

-- what holds of each element, told of those that are listed
all_listed : (P : ℕ → Type 0) (xs : List ℕ) (q : ℕ) → All P xs → 0 < times xs q → P q
all_listed P [] q all h = absurd (omega (arith, h))
all_listed P (x ∷ xs) q all h =
    by (x == q) refl h (λ g. all_listed P xs q (λ k d e. all (suc k) d (omega (arith, e))) g)
  where
    by : (b : Bool) → (x == q) ≡ b → 0 < (if b then 1 else 0) + times xs q → (0 < times xs q → P q) → P q
    by true e g rest = let is : x ≡ q = grind (arith, nat_tests, e) in subst P is (all 0 x (omega arith))
    by false e g rest = rest (omega (arith, g))

none_below : (passes : ℕ → Bool) (bound : ℕ) → first_below passes bound ≡ None → (i : ℕ) → i < bound
    → passes i ≡ false
none_below passes zero h i less = absurd (omega (arith, less))
none_below passes (suc bound) h i less =
    by (first_below passes bound) refl (passes bound) refl h (λ e. none_below passes bound e)
  where
    by : (o : Option ℕ) → first_below passes bound ≡ o → (b : Bool) → passes bound ≡ b
        → option_or o (if b then Some bound else None) ≡ None
        → (first_below passes bound ≡ None → (j : ℕ) → j < bound → passes j ≡ false) → passes i ≡ false
    by (Some k) e b is g rest = cc g
    by None e true is g rest = cc g
    by None e false is g rest = last (i == bound) refl
      where
        last : (c : Bool) → (i == bound) ≡ c → passes i ≡ false
        last true same = let at : bound ≡ i = grind (arith, nat_tests, same) in subst (λ j. passes j ≡ false) at is
        last false other = rest e i (grind (arith, nat_tests, less, other))

-- ---- where no item may come next

-- a front behind which none may come, and which lacks an item
record Stuck (deps : List (List ℕ)) : Type 0 where
  front : List ℕ
  none : first_below (is_ready deps front) (length deps) ≡ None
  short : length front < length deps

stuck_from : (deps : List (List ℕ)) (front : List ℕ) (left : ℕ) → length front + left ≡ length deps
    → order_from deps front left ≡ None → Stuck deps
stuck_from deps front zero counted h = cc h
stuck_from deps front (suc left) counted h = by (first_below (is_ready deps front) (length deps)) refl h
    (λ i e. stuck_from deps (front ++ i ∷ []) left (omega (arith, counted, length_push front i)) e)
  where
    length_push : (xs : List ℕ) (i : ℕ) → length (xs ++ i ∷ []) ≡ suc (length xs)
    length_push [] i = refl
    length_push (x ∷ xs) i = omega (arith, length_push xs i)

    by : (o : Option ℕ) → first_below (is_ready deps front) (length deps) ≡ o
        → option_and_then (λ i. order_from deps (front ++ i ∷ []) left) o ≡ None
        → ((i : ℕ) → order_from deps (front ++ i ∷ []) left ≡ None → Stuck deps) → Stuck deps
    by None e g rest = record { front = front; none = e; short = omega (arith, counted) }
    by (Some i) e g rest = rest i g

-- an item that isn't listed
abbrev Waits : List (List ℕ) → List ℕ → ℕ → Type 0
Waits deps front i = (i < length deps) × (is_listed front i ≡ false)

find_waiting : (deps : List (List ℕ)) (front : List ℕ) → length front < length deps → (i : ℕ) × Waits deps front i
find_waiting deps front short = by (first_below (λ i. not (is_listed front i)) (length deps)) refl
  where
    found_below : (passes : ℕ → Bool) (bound i : ℕ) → first_below passes bound ≡ Some i
        → (i < bound) × (passes i ≡ true)
    found_below passes zero i h = cc h
    found_below passes (suc bound) i h = pick (first_below passes bound) refl (passes bound) refl h
        (λ e. found_below passes bound i e)
      where
        pick : (o : Option ℕ) → first_below passes bound ≡ o → (b : Bool) → passes bound ≡ b
            → option_or o (if b then Some bound else None) ≡ Some i
            → (first_below passes bound ≡ Some i → (i < bound) × (passes i ≡ true)) → (i < suc bound) ×
            (passes i ≡ true)
        pick (Some k) e b is g rest = let more = rest (e ∙ g) in (omega (arith, more.0), more.1)
        pick None e true is g rest =
            let same : bound ≡ i = cc g in (omega (arith, same), subst (λ j. passes j ≡ true) same is)
        pick None e false is g rest = cc g

    unlisted : (b : Bool) → not b ≡ true → b ≡ false
    unlisted true h = cc h
    unlisted false h = refl

    listed : (b : Bool) → not b ≡ false → b ≡ true
    listed true h = refl
    listed false h = cc h

    by : (o : Option ℕ) → first_below (λ i. not (is_listed front i)) (length deps) ≡ o → (i : ℕ) × Waits deps front i
    by (Some i) e = let found = found_below (λ i. not (is_listed front i)) (length deps) i e in
        (i, (found.0, unlisted (is_listed front i) found.1))
    by None e = absurd (omega (
      arith,
      short,
      le-length_from_below front (length deps) (λ q less. sym (listed_is front q)
          ∙ listed (is_listed front q) (none_below (λ i. not (is_listed front i)) (length deps) e q less)),
    ))

-- each item that waits depends on one that waits
next_waiting : (deps : List (List ℕ)) → AreItems deps → (front : List ℕ)
    → first_below (is_ready deps front) (length deps) ≡ None
    → (i : ℕ) → Waits deps front i → (d : ℕ) × Waits deps front d × DependsOn deps i d
unfolding is_ready
next_waiting deps items front none i waits =
    let out : list_all (is_listed front) (dependencies_of deps i) ≡ false =
    lacks (nat_lt i (length deps)) (is_listed front i) _ (grind (arith, nat_tests, waits.0)) waits.1
    (none_below (is_ready deps front) (length deps) none i waits.0) in
    let found = failing (is_listed front) (dependencies_of deps i) out in
    let below = all_listed (λ d. d < length deps) (dependencies_of deps i) found.number (items i [] waits.0)
    found.there in
    (found.number, (below, found.fails), grind (arith, nat_tests, found.there))
  where
    lacks : (b c d : Bool) → b ≡ true → c ≡ false → (b && not c && d) ≡ false → d ≡ false
    lacks true false d is other h = h
    lacks true true d is other h = cc other
    lacks false c d is other h = cc is

-- ---- a walk along what waits

-- each item of the trail depends on the one before it in the list, and the first on `to`
abbrev IsTrail : List (List ℕ) → List ℕ → ℕ → Type 0
IsTrail deps [] to = Unit {0}
IsTrail deps (last ∷ trail) to = DependsOn deps last to × IsTrail deps trail last

path_push : (deps : List (List ℕ)) (path : List ℕ) (from via to : ℕ) → IsPath deps from path via → DependsOn deps via to
    → IsPath deps from (path ++ via ∷ []) to
path_push deps [] from via to goes depends = (goes, depends)
path_push deps (first ∷ path) from via to goes depends = (goes.0, path_push deps path first via to goes.1 depends)

path_of : (deps : List (List ℕ)) (trail : List ℕ) (from to : ℕ) → IsTrail deps trail to
    → list_any (eqb from) trail ≡ true → (path : List ℕ) × IsPath deps from path to
path_of deps [] from to is among = cc among
path_of deps (last ∷ trail) from to is among =
    by (eqb from last) refl among (λ e. path_of deps trail from last is.1 e)
  where
    by : (b : Bool) → eqb from last ≡ b → (b || list_any (eqb from) trail) ≡ true
        → (list_any (eqb from) trail ≡ true → (path : List ℕ) × IsPath deps from path last)
        → (path : List ℕ) × IsPath deps from path to
    by true e g rest = let same : last ≡ from = grind (arith, nat_tests, e) in
        ([], subst (λ k. DependsOn deps k to) same is.0)
    by false e g rest =
        let before = rest g in (before.0 ++ last ∷ [], path_push deps before.0 from last to before.1 is.0)

abbrev AreBelow : ℕ → List ℕ → Type 0
AreBelow n trail = (q : ℕ) → list_any (eqb q) trail ≡ true → q < n

below_push : (n i : ℕ) (trail : List ℕ) → i < n → AreBelow n trail → AreBelow n (i ∷ trail)
below_push n i trail less below q h = by (eqb q i) refl h
  where
    by : (b : Bool) → eqb q i ≡ b → (b || list_any (eqb q) trail) ≡ true → q < n
    by true e g = let same : i ≡ q = grind (arith, nat_tests, e) in subst (λ k. k < n) same less
    by false e g = below q g

-- an item on a cycle
pub record Cyclic (deps : List (List ℕ)) : Type 0 where
  pub item : ℕ
  pub on_cycle : IsOnCycle deps item

on_cycle_by : (deps : List (List ℕ)) (i : ℕ) (path : List ℕ) → IsPath deps i path i → IsOnCycle deps i
unfolding IsOnCycle
on_cycle_by deps i path is = (path, is)

module _ (deps : List (List ℕ)) (items : AreItems deps) (front : List ℕ)
    (none : first_below (is_ready deps front) (length deps) ≡ None) where
  walk : (fuel : ℕ) (trail : List ℕ) (i : ℕ) → Waits deps front i → IsTrail deps trail i → IsDistinct eqb trail
      → AreBelow (length deps) trail → length trail + fuel ≡ suc (length deps) → Cyclic deps
  walk zero trail i waits is apart below counted =
      absurd (omega (arith, length-le_from_distinct_below trail (length deps) apart below, counted))
  walk (suc fuel) trail i waits is apart below counted =
      let next = next_waiting deps items front none i waits in
      by (list_any (eqb i) trail) refl
      (λ out. walk fuel (i ∷ trail) next.0 next.1 (next.2, is) (apart_push i trail out apart)
      (below_push (length deps) i trail waits.0 below) (omega (arith, counted)))
    where
      by : (b : Bool) → list_any (eqb i) trail ≡ b
          → (list_any (eqb i) trail ≡ false → Cyclic deps) → Cyclic deps
      by true e rest = let path = path_of deps trail i i is e in
          record { item = i; on_cycle = on_cycle_by deps i path.0 path.1 }
      by false e rest = rest e

empty_apart : IsDistinct eqb []
unfolding IsDistinct
empty_apart = tt

-- an order
pub record Ordered (deps : List (List ℕ)) : Type 0 where
  pub order : List ℕ
  pub order_is : IsOrder deps order

pub ordered_or_cyclic : (deps : List (List ℕ)) → AreItems deps → Ordered deps ⊎ Cyclic deps
unfolding order_of
ordered_or_cyclic deps items = by (order_from deps [] (length deps)) refl
  where
    by : (o : Option (List ℕ)) → order_from deps [] (length deps) ≡ o → Ordered deps ⊎ Cyclic deps
    by (Some listed) e = inl (record { order = listed; order_is = (order_of-iff_IsOrder deps listed).0 e })
    by None e =
        let stuck = stuck_from deps [] (length deps) (omega arith) e in
        let start = find_waiting deps stuck.front stuck.short in
        inr (walk deps items stuck.front stuck.none (suc (length deps)) [] start.0 start.1 tt empty_apart
        (λ q h. cc h) (omega arith))
