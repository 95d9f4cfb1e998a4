-- Chains that are measured in the order of exceptions.
use Rattle.std.proofs.Common.{◌≡◌, ◌∙◌, ℕ, zero, suc, ◌<◌, ◌≤◌, ◌+◌, max, nat_lt, ◌==◌, ◌&&◌, not, Bool, true, false}
use Rattle.std.proofs.Common.{IfSome, cond, List, [], ◌∷◌, ◌++◌}
use Rattle.std.proofs.Common.{length, Option, Some, None, get_or, set, refl, sym, ap, subst, arith}
use Rattle.std.proofs.Common.{rules, true≢false}
use Rattle.std.proofs.Math.Logic.{⊎_elim}
use Rattle.std.proofs.lemmas.Bool.{cases_eq}
use Rattle.std.proofs.lemmas.Bool.Decides.{nat_tests}
use Rattle.std.proofs.lemmas.List.{get_or-set_same, get_or-set_other, length-set}
use Rattle.cat_order.specs.Order.{dependencies_of, is_listed, times, is_ready, IsOrder, AreItems}
use Rattle.std.specs.List.{list_all}
use Rattle.cat_order.specs.Cycle.{DependsOn}
use Rattle.cat_scope.specs.Chains.{IsChain, HasShortChains, longest_chain}
use Rattle.cat_except.specs.Excepted.{listed}
use Rattle.cat_except.specs.inside.Linking.{lists_of}
use Rattle.cat_except.specs.declared.chains.Chain.{Chain}
use Rattle.cat_except.specs.inside.Chains.{none, chain_at, target_at, one_longer, IsMeasured, IsLonger, IsKnown}
use Rattle.cat_except.specs.inside.Chains.{AreMeasured}
use Rattle.cat_except.specs.inside.Chains.{IsTooLong}

-- what a group depends on is the group that it excepts
pub excepted_at : (excepted : List (Option ℕ)) (g : ℕ)
    → dependencies_of (lists_of excepted) g ≡ listed (target_at excepted g)
excepted_at [] g = refl
excepted_at (target ∷ excepted) zero = refl
excepted_at (target ∷ excepted) (suc g) = excepted_at excepted g

pub depends : (excepted : List (Option ℕ)) (g h : ℕ) → target_at excepted g ≡ Some h → DependsOn (lists_of excepted) g h
depends excepted g h is =
    let one : is_listed (h ∷ []) h ≡ true = grind (arith, nat_tests) in
    ap (λ ns. is_listed ns h) (excepted_at excepted g ∙ ap listed is) ∙ one

pub target_of_step : (excepted : List (Option ℕ)) (g h : ℕ) → DependsOn (lists_of excepted) g h
    → target_at excepted g ≡ Some h
target_of_step excepted g h step =
    by (target_at excepted g) (sym (ap (λ ns. is_listed ns h) (excepted_at excepted g)) ∙ step) where
      by : (o : Option ℕ) → is_listed (listed o) h ≡ true → o ≡ Some h
      by None is = absurd (true≢false (sym is))
      by (Some k) is = ⊎_elim (λ same. ap Some same)
          (λ other. let out : is_listed (k ∷ []) h ≡ false = grind (arith, nat_tests, other) in
          absurd (true≢false (sym is ∙ out))) (cases_eq k h)

-- one group more in front of a chain that is known
pub measured_more : (excepted : List (Option ℕ)) (chains : List Chain) (g : ℕ) (o : Option ℕ) → target_at excepted g ≡ o
    → ((h : ℕ) → o ≡ Some h → IsMeasured excepted h (chain_at chains h))
    → IsMeasured excepted g (one_longer chains g o)
measured_more excepted chains g None is known = ([], tt, omega arith, refl)
measured_more excepted chains g (Some h) is known =
    let rest : IsMeasured excepted h (chain_at chains h) = known h refl in
    (h ∷ rest.0, (depends excepted g h is, rest.1), omega (arith, rest.2), ap (max g) rest.3)

both : (a b : Bool) → (a && b) ≡ true → (a ≡ true) × (b ≡ true)
both true true e = (refl, refl)
both true false e = absurd (true≢false (sym e))
both false b e = absurd (true≢false (sym e))

-- what is ready stands below the length, isn't listed, and all that it depends on is
ready_parts : (deps : List (List ℕ)) (front : List ℕ) (g : ℕ) → is_ready deps front g ≡ true
    → (g < length deps) × (is_listed front g ≡ false) × (list_all (is_listed front) (dependencies_of deps g) ≡ true)
unfolding is_ready
ready_parts deps front g ready =
    let outer : ((nat_lt g (length deps) && not (is_listed front g)) ≡ true)
    × (list_all (is_listed front) (dependencies_of deps g) ≡ true) =
    both (nat_lt g (length deps) && not (is_listed front g)) (list_all (is_listed front) (dependencies_of deps g)) ready
    in
    let inner : (nat_lt g (length deps) ≡ true) × (not (is_listed front g) ≡ true) =
    both (nat_lt g (length deps)) (not (is_listed front g)) outer.0 in
    (grind (arith, nat_tests, inner.0), grind (arith, nat_tests, inner.1), outer.1)

as_many_lists : (excepted : List (Option ℕ)) → length (lists_of excepted) ≡ length excepted
as_many_lists [] = refl
as_many_lists (target ∷ excepted) = ap suc (as_many_lists excepted)

pub ready_within : (excepted : List (Option ℕ)) (front : List ℕ) (g : ℕ) → is_ready (lists_of excepted) front g ≡ true
    → g < length excepted
ready_within excepted front g ready =
    omega (arith, (ready_parts (lists_of excepted) front g ready).0, as_many_lists excepted)

target_listed : (excepted : List (Option ℕ)) (front : List ℕ) (g h : ℕ) → is_ready (lists_of excepted) front g ≡ true
    → target_at excepted g ≡ Some h → is_listed front h ≡ true
target_listed excepted front g h ready is =
    (both (is_listed front h) true (ap (λ ns. list_all (is_listed front) ns)
    (sym (excepted_at excepted g ∙ ap listed is)) ∙ (ready_parts (lists_of excepted) front g ready).2)).0

-- the chain of the group that a ready group excepts is known
target_known : (excepted : List (Option ℕ)) (front : List ℕ) (chains : List Chain) (g h : ℕ)
    → AreMeasured excepted front chains → is_ready (lists_of excepted) front g ≡ true → target_at excepted g ≡ Some h
    → 0 < (chain_at chains h).length
target_known excepted front chains g h measured ready is =
    let there : nat_lt 0 (chain_at chains h).length ≡ true =
    sym (measured.listed h) ∙ target_listed excepted front g h ready is in
    grind (arith, nat_tests, there)

pub target_fits : (excepted : List (Option ℕ)) (front : List ℕ) (chains : List Chain) (g : ℕ) (o : Option ℕ)
    → AreItems (lists_of excepted) → AreMeasured excepted front chains → g < length excepted → target_at excepted g ≡ o
    → IfSome o (λ h. (h < length excepted) × ((chain_at chains h).length ≤ longest_chain))
target_fits excepted front chains g None items measured within is = tt
target_fits excepted front chains g (Some h) items measured within is =
    let lists : dependencies_of (lists_of excepted) g ≡ h ∷ [] = excepted_at excepted g ∙ ap listed is in
    let low : h < length (lists_of excepted) =
    subst (λ (ns : List ℕ). (k d : ℕ) → k < length ns → get_or ns k d < length (lists_of excepted)) lists
    (items g [] (omega (arith, within, as_many_lists excepted))) 0 0 (omega arith) in
    (omega (arith, low, as_many_lists excepted), measured.short h)

pub ready_measured : (excepted : List (Option ℕ)) (front : List ℕ) (chains : List Chain) (g : ℕ)
    → AreMeasured excepted front chains → is_ready (lists_of excepted) front g ≡ true
    → IsMeasured excepted g (one_longer chains g (target_at excepted g))
ready_measured excepted front chains g measured ready =
    measured_more excepted chains g (target_at excepted g) refl
    (λ h is. (measured.known h (target_known excepted front chains g h measured ready is)).0)

times_push : (xs : List ℕ) (x y : ℕ) → times (xs ++ x ∷ []) y ≡ times xs y + cond (x == y) 1 0
times_push [] x y = omega arith
times_push (z ∷ xs) x y = omega (arith, times_push xs x y)

module _ (excepted : List (Option ℕ)) (front : List ℕ) (chains : List Chain) (g : ℕ) (c : Chain)
    (measured : AreMeasured excepted front chains) (ready : is_ready (lists_of excepted) front g ≡ true)
    (is : c ≡ one_longer chains g (target_at excepted g)) where
  in_list : g < length chains
  in_list = omega (arith, ready_within excepted front g ready, measured.counted)

  unknown : (chain_at chains g).length ≡ 0
  unknown =
      let none_there : nat_lt 0 (chain_at chains g).length ≡ false =
      sym (measured.listed g) ∙ (ready_parts (lists_of excepted) front g ready).1 in
      grind (arith, nat_tests, none_there)

  kept : (h : ℕ) → 0 < (chain_at chains h).length → chain_at (set chains g c) h ≡ chain_at chains h
  kept h there = get_or-set_other chains g h c none
      (λ same. absurd (omega (arith, unknown, subst (λ (k : ℕ). 0 < (chain_at chains k).length) same there)))

  longer_kept : (o : Option ℕ) (n : ℕ) → IsLonger chains o n → IsLonger (set chains g c) o n
  longer_kept None n longer = longer
  longer_kept (Some h) n longer =
      subst (λ (d : Chain). (0 < d.length) × (n ≡ d.length + 1)) (sym (kept h longer.0)) longer

  own_longer : (o : Option ℕ) → target_at excepted g ≡ o → IsLonger chains o (one_longer chains g o).length
  own_longer None at = refl
  own_longer (Some h) at = (target_known excepted front chains g h measured ready at, refl)

  long_enough : (o : Option ℕ) → 0 < (one_longer chains g o).length
  long_enough None = omega arith
  long_enough (Some h) = omega arith

  here : chain_at (set chains g c) g ≡ c
  here = get_or-set_same chains g c none in_list

  own_known : IsKnown excepted (set chains g c) g
  own_known there =
      subst (λ (d : Chain). IsMeasured excepted g d × IsLonger (set chains g c) (target_at excepted g) d.length)
      (sym (here ∙ is)) (
        ready_measured excepted front chains g measured ready,
        longer_kept (target_at excepted g) (one_longer chains g (target_at excepted g)).length
            (own_longer (target_at excepted g) refl),
      )

  elsewhere : (h : ℕ) → ¬ (g ≡ h) → chain_at (set chains g c) h ≡ chain_at chains h
  elsewhere h other = get_or-set_other chains g h c none (λ same. other (sym same))

  other_known : (h : ℕ) → ¬ (g ≡ h) → IsKnown excepted (set chains g c) h
  other_known h other there =
      let before : IsMeasured excepted h (chain_at chains h) × IsLonger chains (target_at excepted h)
      (chain_at chains h).length =
      measured.known h (subst (λ (d : Chain). 0 < d.length) (elsewhere h other) there) in
      subst (λ (d : Chain). IsMeasured excepted h d × IsLonger (set chains g c) (target_at excepted h) d.length)
      (sym (elsewhere h other)) (before.0, longer_kept (target_at excepted h) (chain_at chains h).length before.1)

  listed_now : (h : ℕ) → is_listed (front ++ g ∷ []) h ≡ nat_lt 0 (chain_at (set chains g c) h).length
  listed_now h = ⊎_elim
      (λ same. subst (λ (k : ℕ). is_listed (front ++ g ∷ []) k ≡ nat_lt 0 (chain_at (set chains g c) k).length) same
      (let long : 0 < (chain_at (set chains g c) g).length =
      subst (λ (d : Chain). 0 < d.length) (sym (here ∙ is)) (long_enough (target_at excepted g)) in
      grind (arith, nat_tests, long, times_push front g g)))
      (λ other.
      let before : is_listed front h ≡ nat_lt 0 (chain_at (set chains g c) h).length =
      measured.listed h ∙ ap (λ (d : Chain). nat_lt 0 d.length) (sym (elsewhere h other)) in
      let still : is_listed (front ++ g ∷ []) h ≡ is_listed front h =
      grind (arith, nat_tests, other, times_push front g h) in
      still ∙ before) (cases_eq g h)

  pub measured_step : c.length ≤ longest_chain → AreMeasured excepted (front ++ g ∷ []) (set chains g c)
  measured_step low = record {
    counted = length-set chains g c ∙ measured.counted;
    known = λ h. ⊎_elim (λ same. subst (λ (k : ℕ). IsKnown excepted (set chains g c) k) same own_known)
        (λ other. other_known h other) (cases_eq g h);
    listed = listed_now;
    short = λ h. ⊎_elim
        (λ same. subst (λ (k : ℕ). (chain_at (set chains g c) k).length ≤ longest_chain) same
        (subst (λ (d : Chain). d.length ≤ longest_chain) (sym here) low))
        (λ other. subst (λ (d : Chain). d.length ≤ longest_chain) (sym (elsewhere h other)) (measured.short h))
        (cases_eq g h);
  }

  one_more_at_most : (o : Option ℕ) → (one_longer chains g o).length ≤ longest_chain + 1
  one_more_at_most None = omega arith
  one_more_at_most (Some h) = omega (arith, measured.short h)

  pub too_long : longest_chain < c.length → IsTooLong excepted c.last
  too_long long =
      let whole : IsMeasured excepted g c = subst (λ (d : Chain). IsMeasured excepted g d) (sym is)
      (ready_measured excepted front chains g measured ready) in
      let most : c.length ≤ longest_chain + 1 = subst (λ (d : Chain). d.length ≤ longest_chain + 1) (sym is)
      (one_more_at_most (target_at excepted g)) in
      (g ∷ whole.0, whole.1, omega (arith, whole.2, long, most), whole.3)

-- a group that excepts another one is a group
target_within : (excepted : List (Option ℕ)) (g h : ℕ) → target_at excepted g ≡ Some h → g < length excepted
target_within [] g h is = absurd (search (rules, is))
target_within (target ∷ excepted) zero h is = omega arith
target_within (target ∷ excepted) (suc g) h is = omega (arith, target_within excepted g h is)

-- where all groups are listed no chain is too long
module _ (excepted : List (Option ℕ)) (order : List ℕ) (chains : List Chain)
    (measured : AreMeasured excepted order chains)
    (ordered : IsOrder (lists_of excepted) order) where
  all_known : (g : ℕ) → g < length excepted → 0 < (chain_at chains g).length
  all_known g within =
      let once : times order g ≡ 1 = ordered.once g (omega (arith, within, as_many_lists excepted)) in
      let there : nat_lt 0 (times order g) ≡ nat_lt 0 (chain_at chains g).length = measured.listed g in
      grind (arith, nat_tests, once, there)

  next_longer : (g h : ℕ) → target_at excepted g ≡ Some h
      → (0 < (chain_at chains h).length) × ((chain_at chains g).length ≡ (chain_at chains h).length + 1)
  next_longer g h is = subst (λ (o : Option ℕ). IsLonger chains o (chain_at chains g).length) is
      (measured.known g (all_known g (target_within excepted g h is))).1

  within_length : (g : ℕ) (ns : List ℕ) → 0 < (chain_at chains g).length → IsChain (lists_of excepted) (g ∷ ns)
      → length (g ∷ ns) ≤ (chain_at chains g).length
  within_length g [] there chain = omega (arith, there)
  within_length g (h ∷ ns) there chain =
      let next : (0 < (chain_at chains h).length) × ((chain_at chains g).length ≡ (chain_at chains h).length + 1) =
      next_longer g h (target_of_step excepted g h chain.0) in
      omega (arith, within_length h ns next.0 chain.1, next.1)

  pub all_short : HasShortChains (lists_of excepted)
  all_short [] chain = omega arith
  all_short (g ∷ []) chain = omega arith
  all_short (g ∷ h ∷ ns) chain = omega (
    arith,
    measured.short g,
    within_length g (h ∷ ns)
        (all_known g (target_within excepted g h (target_of_step excepted g h chain.0))) chain,
  )
