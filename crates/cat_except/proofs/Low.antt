-- Forests whose chains are short are low.
use Rattle.std.proofs.Common.{◌≡◌, ◌∙◌, ℕ, zero, suc, ◌<◌, ◌+◌, eqb, ◌&&◌, Bool, true, false, if◌then◌else◌, List}
use Rattle.std.proofs.Common.{[], ◌∷◌, length}
use Rattle.std.proofs.Common.{Option, Some, None, refl, sym, ap, subst, arith}
use Rattle.std.proofs.Math.Logic.{⊎_elim}
use Rattle.std.proofs.lemmas.Bool.{cases_lt}
use Rattle.std.proofs.lemmas.Bool.Decides.{Decides-eqb}
use Rattle.std.proofs.lemmas.List.{get_or_past}
use Rattle.std.specs.List.{list_all}
use Rattle.cat_order.specs.Order.{dependencies_of}
use Rattle.cat_scope.specs.declared.defs.Def.{Def}
use Rattle.cat_scope.specs.Names.{AllHave}
use Rattle.cat_scope.specs.Groups.{Group, paired, excepting, excepts}
use Rattle.cat_scope.specs.Chains.{IsChain, HasShortChains, longest_chain, is_within, are_within}
use Rattle.cat_scope.specs.Forests.{above, are_low, forest_groups, forest_of_groups}
use Rattle.cat_except.specs.declared.linked.Linked.{Linked}
use Rattle.cat_except.specs.inside.Grouping.{groups_at}
use Rattle.cat_except.specs.inside.Linking.{targets_from, lists_of, pairs_at}
use Rattle.cat_except.specs.inside.Linked.{IsLinked, AreShort, forest_at}
use Rattle.cat_except.specs.inside.Chains.{target_at}
use Rattle.cat_except.proofs.Measured.{depends}
use Rattle.cat_except.proofs.Pairs.{pairs_are}

-- what passes for each group that excepts one passes for all of them
all_excepting : (test : ℕ → Bool) (n j : ℕ) (targets : List (Option ℕ))
    → ((m : ℕ) → target_at targets m ≡ Some n → test (j + m) ≡ true)
    → list_all test (excepting (pairs_at j targets) n) ≡ true
all_excepting test n j [] each = refl
all_excepting test n j (o ∷ targets) each =
    by o (each 0) (all_excepting test n (j + 1) targets (λ m is.
    let at : j + suc m ≡ (j + 1) + m = omega arith in
    subst (λ (k : ℕ). test k ≡ true) at (each (suc m) is))) where
      here : (h : ℕ) (b : Bool) → eqb h n ≡ b → (Some h ≡ Some n → test (j + 0) ≡ true)
          → list_all test (excepting (pairs_at (j + 1) targets) n) ≡ true
          → list_all test (if b then j ∷ excepting (pairs_at (j + 1) targets) n else
          excepting (pairs_at (j + 1) targets) n)
          ≡ true
      here h true is first rest =
          let at : j + 0 ≡ j = omega arith in
          ap (λ b. b && list_all test (excepting (pairs_at (j + 1) targets) n))
          (subst (λ (k : ℕ). test k ≡ true) at (first (ap Some ((Decides-eqb h n).0 is)))) ∙ rest
      here h false is first rest = rest

      by : (o : Option ℕ) → (o ≡ Some n → test (j + 0) ≡ true)
          → list_all test (excepting (pairs_at (j + 1) targets) n) ≡ true
          → list_all test (excepting (paired j o (pairs_at (j + 1) targets)) n) ≡ true
      by None first rest = rest
      by (Some h) first rest = here h (eqb h n) refl first rest

-- the groups that except one, or none past the last group
above_at : (pairs : List (ℕ × ℕ)) (n : ℕ) (gs : List Group) (k : ℕ) → k < length gs
    → dependencies_of (above (forest_groups pairs n gs)) k ≡ excepting pairs (n + k)
above_at pairs n [] k within = absurd (omega (arith, within))
above_at pairs n (g ∷ gs) zero within = ap (excepting pairs) (omega arith)
above_at pairs n (g ∷ gs) (suc k) within =
    let at : (n + 1) + k ≡ n + suc k = omega arith in
    above_at pairs (n + 1) gs k (omega (arith, within)) ∙ ap (excepting pairs) at

as_many_above : (pairs : List (ℕ × ℕ)) (n : ℕ) (gs : List Group) → length (above (forest_groups pairs n gs)) ≡ length gs
as_many_above pairs n [] = refl
as_many_above pairs n (g ∷ gs) = ap suc (as_many_above pairs (n + 1) gs)

module _ (gs : List Group) (short : HasShortChains (lists_of (targets_from gs gs))) where
  abbrev ups : List (List ℕ)
  ups = above (forest_of_groups gs)

  all_above : (test : ℕ → Bool) (n : ℕ) → ((m : ℕ) → target_at (targets_from gs gs) m ≡ Some n → test m ≡ true)
      → list_all test (dependencies_of ups n) ≡ true
  all_above test n each = ⊎_elim
      (λ within.
      let at : 0 + n ≡ n = omega arith in
      ap (list_all test) (above_at (excepts gs) 0 gs n within
      ∙ ap (λ ps. excepting ps (0 + n)) (sym (pairs_are gs 0 gs)) ∙ ap (excepting (pairs_at 0 (targets_from gs gs))) at)
      ∙ all_excepting test n 0 (targets_from gs gs) (λ m is.
      let same : m ≡ 0 + m = omega arith in
      subst (λ (k : ℕ). test k ≡ true) same (each m is)))
      (λ past. ap (list_all test) (get_or_past ups n [] (omega (arith, past, as_many_above (excepts gs) 0 gs))))
      (cases_lt n (length gs))

  within_more : (k n : ℕ) → list_all (is_within ups k) (dependencies_of ups n) ≡ true → is_within ups (suc k) n ≡ true
  unfolding is_within
  within_more k n all = all

  within_chain : (k n : ℕ) (ns : List ℕ) → IsChain (lists_of (targets_from gs gs)) (n ∷ ns)
      → k + length (n ∷ ns) ≡ longest_chain + 1 → is_within ups k n ≡ true
  within_chain zero n ns chain long = absurd (omega (arith, short (n ∷ ns) chain, long))
  within_chain (suc k) n ns chain long =
      within_more k n (all_above (is_within ups k) n (λ m is.
      within_chain k m (n ∷ ns) (depends (targets_from gs gs) m n is, chain) (omega (arith, long))))

  all_within : (bound : ℕ) → are_within ups longest_chain bound ≡ true
  all_within zero = refl
  all_within (suc n) =
      ap (λ b. b && are_within ups longest_chain n) (within_chain longest_chain n [] tt (omega arith)) ∙ all_within n

pub low_of_short : (defs : List Def) (linked : List Linked) → AllHave (IsLinked defs) linked → AreShort linked
    → are_low (forest_at defs linked) ≡ true
unfolding are_low
low_of_short defs [] all short = refl
low_of_short defs (l ∷ ls) all short =
    let gs : List Group = groups_at defs l.lists.items in
    ap (λ b. b && are_low (forest_at defs ls))
    (all_within gs (subst (λ (ts : List (Option ℕ)). HasShortChains (lists_of ts)) all.0.excepted short.0)
    (length (forest_of_groups gs))) ∙ low_of_short defs ls all.1 short.1
