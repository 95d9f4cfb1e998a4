-- How long chains are, number by number in an order.
use Rattle.std.proofs.Common.{◌≡◌, ◌<◌, ◌≤◌, ◌+◌, ◌&&◌, max, ℕ, zero, suc, nat_eq, nat_lt, nat_le, Bool, true, false}
use Rattle.std.proofs.Common.{IsTrue}
use Rattle.std.proofs.Common.{List, [], ◌∷◌, length, take, set, get_or, slice_index, All, refl, sym, ap, ◌∙◌}
use Rattle.std.proofs.Common.{subst, arith}
use Rattle.std.proofs.Common.{true≢false}
use Rattle.std.proofs.lemmas.List.{get_or-set_same, get_or-set_other, take_more, take_all}
use Rattle.std.proofs.lemmas.Bool.{cases_eq}
use Rattle.std.proofs.lemmas.Bool.Decides.{nat_tests}
use Rattle.std.proofs.Math.Logic.{⊎_elim}
use Rattle.std.specs.List.{list_all}
use Rattle.cat_order.specs.Order.{dependencies_of, is_listed, times, IsOrder}
use Rattle.cat_order.specs.Cycle.{DependsOn}
use Rattle.cat_scope.specs.Chains.{IsChain, HasShortChains, is_within, longest_chain}
use Rattle.cat_depend.specs.Past.{IsPast}
use Rattle.cat_depend.specs.inside.Chains.{IsTopological, longest_of}
use Rattle.cat_depend.proofs.Listing.{listed_at, all_listed, listed_take, listed_push}

-- ---- orders

-- an order of some dependencies is one of fewer, where laws of orders are given
pub IsTopological-of_IsOrder : (deps calls : List (List ℕ)) (order : List ℕ) → length calls ≡ length deps
    → ((n m : ℕ) → DependsOn calls n m → DependsOn deps n m) → IsOrder deps order
    → All (λ item. item < length deps) order
    → ((place other : ℕ) → place < length order → DependsOn deps (slice_index order place) other
    → IsTrue (is_listed (take place order) other))
    → IsTopological calls order
IsTopological-of_IsOrder deps calls order counted fewer is items first = record {
  each = λ n h. let one : times order n ≡ 1 = is.once n (omega (arith, h, counted)) in grind (arith, nat_tests);
  numbers = λ k d h. omega (arith, items k d h, counted);
  behind = λ place other h on. first place other h (fewer (slice_index order place) other on);
}

-- ---- chains

both_within : (a b k : ℕ) → (nat_le a k && nat_le b k) ≡ nat_le (max a b) k
both_within a b k = grind (arith, nat_tests)

all_within : (deps : List (List ℕ)) (lengths ns : List ℕ)
    → ((n : ℕ) → IsTrue (is_listed ns n) → (k : ℕ) → is_within deps k n ≡ nat_le (get_or lengths n 0) k) → (k : ℕ)
    → list_all (is_within deps k) ns ≡ nat_le (longest_of lengths ns) k
all_within deps lengths [] known k = grind (arith, nat_tests)
all_within deps lengths (n ∷ ns) known k = rw (
  known n (grind (arith, nat_tests)) k,
  all_within deps lengths ns (λ m h. known m (grind (arith, nat_tests))) k,
)
    (both_within (get_or lengths n 0) (longest_of lengths ns) k)

one_longer : (deps : List (List ℕ)) (lengths : List ℕ) (n : ℕ)
    → ((m : ℕ) → IsTrue (is_listed (dependencies_of deps n) m) → (k : ℕ) → is_within deps k m ≡ nat_le
    (get_or lengths m 0) k)
    → (k : ℕ) → is_within deps k n ≡ nat_le (longest_of lengths (dependencies_of deps n) + 1) k
unfolding is_within
one_longer deps lengths n known zero = grind (arith, nat_tests)
one_longer deps lengths n known (suc k) = let rest : list_all (is_within deps k) (dependencies_of deps n) ≡ nat_le
    (longest_of lengths (dependencies_of deps n)) k = all_within deps lengths (dependencies_of deps n) known k in
    grind (arith, nat_tests, rest)

low_longest : (lengths ns : List ℕ) → ((n : ℕ) → get_or lengths n 0 ≤ 256) → longest_of lengths ns ≤ 256
low_longest lengths [] low = omega arith
low_longest lengths (n ∷ ns) low = omega (arith, low n, low_longest lengths ns low)

both_true : (a b : Bool) → (a && b) ≡ true → (a ≡ true) × (b ≡ true)
both_true true true h = (refl, refl)
both_true true false h = absurd (true≢false (sym h))
both_true false b h = absurd (true≢false (sym h))

passes : (test : ℕ → Bool) (ns : List ℕ) (m : ℕ) → list_all test ns ≡ true → IsTrue (is_listed ns m) → test m ≡ true
passes test [] m all there = absurd (true≢false (sym there))
passes test (n ∷ ns) m all there = by (nat_eq n m) refl (passes test ns m (both_true (test n) (list_all test ns) all).1)
  where
    by : (b : Bool) → nat_eq n m ≡ b → (IsTrue (is_listed ns m) → test m ≡ true) → test m ≡ true
    by true e rest = let same : n ≡ m = grind (arith, nat_tests) in
        ap test (sym same) ∙ (both_true (test n) (list_all test ns) all).0
    by false e rest = rest (grind (arith, nat_tests))

within_step : (deps : List (List ℕ)) (k n : ℕ) → is_within deps (suc k) n ≡ list_all (is_within deps k)
    (dependencies_of deps n)
unfolding is_within
within_step deps k n = refl

never_within : (deps : List (List ℕ)) (n : ℕ) → is_within deps zero n ≡ false
unfolding is_within
never_within deps n = refl

chain_within : (deps : List (List ℕ)) (k n : ℕ) (rest : List ℕ) → is_within deps k n ≡ true → IsChain deps (n ∷ rest)
    → length (n ∷ rest) ≤ k
chain_within deps zero n rest h chain = absurd (true≢false (sym h ∙ never_within deps n))
chain_within deps (suc k) n [] h chain = omega arith
chain_within deps (suc k) n (m ∷ rest) h chain = let next : is_within deps k m ≡ true =
    passes (is_within deps k) (dependencies_of deps n) m (sym (within_step deps k n) ∙ h) chain.0 in
    omega (arith, chain_within deps k m rest next chain.1)

short_chains : (deps : List (List ℕ)) → ((n : ℕ) → is_within deps longest_chain n ≡ true) → HasShortChains deps
short_chains deps all [] chain = omega arith
short_chains deps all (n ∷ rest) chain = chain_within deps longest_chain n rest (all n) chain

none_past : (deps : List (List ℕ)) (n : ℕ) → length deps ≤ n → dependencies_of deps n ≡ []
none_past [] n h = refl
none_past (x ∷ deps) zero h = absurd (omega (arith, h))
none_past (x ∷ deps) (suc n) h = none_past deps n (omega (arith, h))

low_set : (xs : List ℕ) (i v : ℕ) → ((n : ℕ) → get_or xs n 0 ≤ 256) → v ≤ 256 → (n : ℕ) → get_or (set xs i v) n 0 ≤ 256
low_set [] i v low small n = low n
low_set (x ∷ xs) zero v low small zero = small
low_set (x ∷ xs) zero v low small (suc n) = low (suc n)
low_set (x ∷ xs) (suc i) v low small zero = low 0
low_set (x ∷ xs) (suc i) v low small (suc n) = low_set xs i v (λ m. low (suc m)) small n

-- ---- the loop over an order

module _ (deps : List (List ℕ)) (order : List ℕ) (top : IsTopological deps order) (i : ℕ) (lengths : List ℕ)
    (counted : length lengths ≡ length deps) (low : (n : ℕ) → get_or lengths n 0 ≤ 256)
    (known : (n : ℕ) → IsTrue (is_listed (take i order) n) → (k : ℕ)
    → is_within deps k n ≡ nat_le (get_or lengths n 0) k) where
  abbrev number : ℕ
  number = get_or order i 0

  abbrev rest : ℕ
  rest = longest_of lengths (dependencies_of deps number)

  front_within : (n : ℕ) → IsTrue (is_listed (take i order) n) → n < length deps
  front_within n h = all_listed (λ m. m < length deps) order top.numbers n (listed_take order i n h)

  pub dependencies_within : i < length order
      → All (λ n. n < length lengths) (dependencies_of deps number)
  dependencies_within within k d h =
      let listed = front_within (get_or (dependencies_of deps number) k d)
      (top.behind i (get_or (dependencies_of deps number) k d) within (listed_at (dependencies_of deps number) k d h))
      in
      omega (arith, listed, counted)

  pub low_rest : rest ≤ 256
  low_rest = low_longest lengths (dependencies_of deps number) low

  measured : i < length order → (k : ℕ) → is_within deps k number ≡ nat_le (rest + 1) k
  measured within = one_longer deps lengths number (λ m h. known m (top.behind i m within h))

  pub is_past : i < length order → rest ≡ 256 → IsPast deps number
  is_past within full = record {
    number = top.numbers i 0 within;
    long = measured within 256 ∙ rw full refl;
    first = measured within 257 ∙ rw full refl;
  }

  pub low_next : rest ≤ 255 → (n : ℕ) → get_or (set lengths number (rest + 1)) n 0 ≤ 256
  low_next less n = low_set lengths number (rest + 1) low (omega (arith, less)) n

  pub known_next : i < length order → (n : ℕ) → IsTrue (is_listed (take (i + 1) order) n) → (k : ℕ)
      → is_within deps k n ≡ nat_le (get_or (set lengths number (rest + 1)) n 0) k
  known_next within n h = ⊎_elim
      (λ here. let at : get_or (set lengths number (rest + 1)) number 0 ≡ rest + 1 =
      get_or-set_same lengths number (rest + 1) 0 (omega (arith, top.numbers i 0 within, counted)) in
      subst (λ (m : ℕ). (k : ℕ) → is_within deps k m ≡ nat_le (get_or (set lengths number (rest + 1)) m 0) k) here
      (λ k. measured within k ∙ ap (λ x. nat_le x k) (sym at)))
      (λ other. λ k. known n (listed_push (take i order) number n other
      (subst (λ xs. IsTrue (is_listed xs n)) (take_more order i 0 within) h)) k
      ∙ ap (λ x. nat_le x k) (sym (get_or-set_other lengths number n (rest + 1) 0 (λ e. other (sym e)))))
      (cases_eq number n)

  each : length order ≤ i → (n : ℕ) (b : Bool) → nat_lt n (length deps) ≡ b → is_within deps longest_chain n ≡ true
  each past n true e = let all : take i order ≡ order = take_all i order past in
      known n (subst (λ xs. IsTrue (is_listed xs n)) (sym all) (top.each n (grind (arith, nat_tests)))) 256
      ∙ grind (arith, nat_tests, low n)
  each past n false e = within_step deps 255 n
      ∙ ap (λ ns. list_all (is_within deps 255) ns) (none_past deps n (grind (arith, nat_tests)))

  pub all_short : length order ≤ i → HasShortChains deps
  all_short past = short_chains deps (λ n. each past n (nat_lt n (length deps)) refl)
