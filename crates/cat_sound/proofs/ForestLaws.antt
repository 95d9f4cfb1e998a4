-- A forest's test says that no group is above itself and no chain is too long.
use Rattle.std.proofs.Common.{◌≡◌, ◌↔◌, ℕ, zero, suc, ◌+◌, ◌<◌, ◌≤◌, ◌&&◌, Bool, true, false, IsTrue, List, [], ◌∷◌}
use Rattle.std.proofs.Common.{◌++◌, length, sym, ap, ◌∙◌, arith, subst, refl, true≢false}
use Rattle.std.specs.List.{list_all}
use Rattle.std.proofs.Math.Logic.{⊎_elim}
use Rattle.std.proofs.lemmas.Bool.{cases_eq, cases_lt}
use Rattle.std.proofs.lemmas.Bool.Decides.{nat_tests}
use Rattle.std.proofs.lemmas.List.{get_or_past}
use Rattle.cat_order.specs.Order.{dependencies_of, times}
use Rattle.cat_order.specs.Cycle.{DependsOn, IsPath, IsOnCycle}
use Rattle.cat_scope.specs.declared.forest.ForestGroup.{ForestGroup}
use Rattle.cat_scope.specs.declared.forest.ForestTarget.{ForestTarget}
use Rattle.cat_scope.specs.Names.{AllHave}
use Rattle.cat_scope.specs.Chains.{IsChain, HasNoCycle, is_within, are_within}
use Rattle.cat_scope.specs.Forests.{above, IsLow, is_low, are_low}
use Rattle.cat_sound.proofs.Cycles.{longer}

both : (a b : Bool) → (a && b) ≡ true → (a ≡ true) × (b ≡ true)
both true true e = (refl, refl)
both true false e = absurd (true≢false (sym e))
both false b e = absurd (true≢false (sym e))

-- what all of a list pass, one of them passes
one_passes : (test : ℕ → Bool) (ms : List ℕ) (m : ℕ) → list_all test ms ≡ true → 0 < times ms m → test m ≡ true
one_passes test [] m all among = absurd (omega (arith, among))
one_passes test (k ∷ ks) m all among = ⊎_elim
    (λ same. subst (λ (n : ℕ). test n ≡ true) same (both (test k) (list_all test ks) all).0)
    (λ other. one_passes test ks m (both (test k) (list_all test ks) all).1 (grind (arith, nat_tests, among)))
    (cases_eq k m)

abbrev Failing : (ℕ → Bool) → List ℕ → Type 0
Failing test ms = (m : ℕ) × (0 < times ms m) × (test m ≡ false)

-- what not all of a list pass, one of them fails
one_fails : (test : ℕ → Bool) (ms : List ℕ) → list_all test ms ≡ false → Failing test ms
one_fails test [] none = absurd (true≢false none)
one_fails test (k ∷ ks) none = fails_at test k ks (test k) refl (one_fails test ks) none where
  fails_at : (test : ℕ → Bool) (k : ℕ) (ks : List ℕ) (b : Bool) → test k ≡ b
      → (list_all test ks ≡ false → Failing test ks) → (test k && list_all test ks) ≡ false → Failing test (k ∷ ks)
  fails_at test k ks false here rest none = (k, grind (arith, nat_tests), here)
  fails_at test k ks true here rest none =
      let found : Failing test ks = rest (sym (ap (λ b. b && list_all test ks) here) ∙ none) in
      (found.0, omega (arith, found.1), found.2)

pub within_step : (deps : List (List ℕ)) (k n m : ℕ) → is_within deps (suc k) n ≡ true → DependsOn deps n m
    → is_within deps k m ≡ true
unfolding is_within
within_step deps k n m within step =
    one_passes (is_within deps k) (dependencies_of deps n) m within (grind (arith, nat_tests, step))

pub within_none : (deps : List (List ℕ)) (n : ℕ) → is_within deps zero n ≡ true → ⊥
unfolding is_within
within_none deps n within = true≢false (sym within)

chain_short : (deps : List (List ℕ)) (k n : ℕ) (ns : List ℕ) → is_within deps k n ≡ true → IsChain deps (n ∷ ns)
    → length (n ∷ ns) ≤ k
chain_short deps zero n ns within chain = absurd (within_none deps n within)
chain_short deps (suc k) n [] within chain = omega arith
chain_short deps (suc k) n (m ∷ ns) within chain =
    omega (arith, chain_short deps k m ns (within_step deps k n m within chain.0) chain.1)

no_way_back : (deps : List (List ℕ)) (k n : ℕ) (path : List ℕ) → is_within deps k n ≡ true → IsPath deps n path n → ⊥
no_way_back deps zero n path within goes = within_none deps n within
no_way_back deps (suc k) n [] within goes = no_way_back deps k n [] (within_step deps k n n within goes) goes
no_way_back deps (suc k) n (via ∷ path) within goes = no_way_back deps k via (path ++ n ∷ [])
    (within_step deps k n via within goes.0) (longer deps path via n via goes.1 goes.0)

-- where a number isn't within, a chain from it on is too long
abbrev TooLong : List (List ℕ) → ℕ → ℕ → Type 0
TooLong deps k n = (ns : List ℕ) × IsChain deps (n ∷ ns) × (length (n ∷ ns) ≡ k + 1)

not_within : (deps : List (List ℕ)) (k n : ℕ) → is_within deps (suc k) n ≡ false → Failing (is_within deps k)
    (dependencies_of deps n)
unfolding is_within
not_within deps k n out = one_fails (is_within deps k) (dependencies_of deps n) out

too_long : (deps : List (List ℕ)) (k n : ℕ) → is_within deps k n ≡ false → TooLong deps k n
too_long deps zero n out = ([], tt, omega arith)
too_long deps (suc k) n out =
    let next : Failing (is_within deps k) (dependencies_of deps n) = not_within deps k n out in
    let rest : TooLong deps k next.0 = too_long deps k next.0 next.2 in
    (next.0 ∷ rest.0, (grind (arith, nat_tests, next.1), rest.1), omega (arith, rest.2))

within_at : (deps : List (List ℕ)) (k n : ℕ) → ((chain : List ℕ) → IsChain deps chain → length chain ≤ k) → (b : Bool)
    → is_within deps k n ≡ b → is_within deps k n ≡ true
within_at deps k n short true is = is
within_at deps k n short false is =
    let long : TooLong deps k n = too_long deps k n is in
    absurd (omega (arith, short (n ∷ long.0) long.1, long.2))

are_within_of : (deps : List (List ℕ)) (k bound : ℕ) → ((chain : List ℕ) → IsChain deps chain → length chain ≤ k)
    → are_within deps k bound ≡ true
are_within_of deps k zero short = refl
are_within_of deps k (suc n) short =
    ap (λ b. b && are_within deps k n) (within_at deps k n short (is_within deps k n) refl) ∙ are_within_of deps k n
    short

pub within_below : (deps : List (List ℕ)) (k bound n : ℕ) → are_within deps k bound ≡ true → n < bound
    → is_within deps k n ≡ true
within_below deps k zero n all under = absurd (omega (arith, under))
within_below deps k (suc bound) n all under = ⊎_elim
    (λ same. subst (λ (m : ℕ). is_within deps k m ≡ true) (sym same)
    (both (is_within deps k bound) (are_within deps k bound) all).0)
    (λ other. within_below deps k bound n (both (is_within deps k bound) (are_within deps k bound) all).1
    (omega (arith, under, other)))
    (cases_eq n bound)

within_past : (deps : List (List ℕ)) (k n : ℕ) → length deps ≤ n → is_within deps (suc k) n ≡ true
unfolding is_within
within_past deps k n past = ap (list_all (is_within deps k)) (get_or_past deps n [] past)

within_all : (deps : List (List ℕ)) (k n : ℕ) → are_within deps (suc k) (length deps) ≡ true → is_within deps (suc k) n
    ≡ true
within_all deps k n all = ⊎_elim (λ under. within_below deps (suc k) (length deps) n all under)
    (λ past. within_past deps k n past) (cases_lt n (length deps))

no_cycle : (deps : List (List ℕ)) (k : ℕ) → are_within deps (suc k) (length deps) ≡ true → HasNoCycle deps
unfolding IsOnCycle
no_cycle deps k all n on = no_way_back deps (suc k) n on.0 (within_all deps k n all) on.1

pub short_chains : (deps : List (List ℕ)) (k : ℕ) → are_within deps (suc k) (length deps) ≡ true → (chain : List ℕ)
    → IsChain deps chain → length chain ≤ suc k
short_chains deps k all [] is = omega arith
short_chains deps k all (n ∷ ns) is = chain_short deps (suc k) n ns (within_all deps k n all) is

as_many : (gs : List ForestGroup) → length (above gs) ≡ length gs
as_many [] = refl
as_many (g ∷ gs) = ap suc (as_many gs)

low_says : (target : ForestTarget) → is_low target ≡ true → IsLow target
low_says target is =
    let all : are_within (above target.groups) 256 (length (above target.groups)) ≡ true =
    ap (are_within (above target.groups) 256) (as_many target.groups) ∙ is in
    (no_cycle (above target.groups) 255 all, short_chains (above target.groups) 255 all)

says_low : (target : ForestTarget) → IsLow target → is_low target ≡ true
says_low target is = are_within_of (above target.groups) 256 (length target.groups) is.1

all_low : (targets : List ForestTarget) → are_low targets ≡ true → AllHave IsLow targets
unfolding are_low
all_low [] is = tt
all_low (target ∷ targets) is = (
  low_says target (both (is_low target) (are_low targets) is).0,
  all_low targets (both (is_low target) (are_low targets) is).1,
)

low_all : (targets : List ForestTarget) → AllHave IsLow targets → are_low targets ≡ true
unfolding are_low
low_all [] all = refl
low_all (target ∷ targets) all = ap (λ b. b && are_low targets) (says_low target all.0) ∙ low_all targets all.1

pub are_low_says : (targets : List ForestTarget) → IsTrue (are_low targets) ↔ AllHave IsLow targets
are_low_says targets = (all_low targets, low_all targets)
