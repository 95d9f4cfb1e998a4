-- What stands when no further item may come next.
use Rattle.std.proofs.Common.{◌≡◌, ◌∙◌, sym, subst, ℕ, ◌<◌, true, false, not, List, [], ◌∷◌, length, get_or, arith}
use Rattle.std.specs.Prelude.{◌==◌, ◌&&◌, nat_lt, All}
use Rattle.std.proofs.Math.Logic.{⊎_elim}
use Rattle.std.proofs.lemmas.Bool.{cases_eq}
use Rattle.std.proofs.lemmas.Bool.Decides.{nat_tests}
use Rattle.std.proofs.lemmas.List.Elements.{All-head, All-tail, All-get_or}
use Rattle.cat_order.specs.Order.{dependencies_of, times, IsOrder, AreItems}
use Rattle.cat_order.specs.inside.Steps.{missing, any_waiting, HasStopped}
use Rattle.cat_order.proofs.Counts.{none_left_of_listed, within_of_positive}
use Rattle.cat_order.proofs.Fronts.{IsFront-of_IsInOrder, IsOrder-of_IsFront, is_ready-counts}

module _ (deps : List (List ℕ)) (listed unmet : List ℕ) (stopped : HasStopped deps listed unmet) where
  -- an item that misses nothing is listed
  listed_of_none_unmet : (item : ℕ) → item < length deps → get_or unmet item 0 ≡ 0 → 0 < times listed item
  listed_of_none_unmet item within none =
      let not_ready : (nat_lt item (length deps) && not (nat_lt 0 (times listed item))
      && (missing listed (dependencies_of deps item) == 0)) ≡ false = sym (is_ready-counts deps listed item)
      ∙ stopped.none_ready item in
      let nothing : missing listed (dependencies_of deps item) ≡ 0 = sym (stopped.counts item within) ∙ none in
      grind (arith, nat_tests, not_ready, nothing)

  pub IsOrder-of_none_unmet : ((item : ℕ) → item < length deps → get_or unmet item 0 ≡ 0) → IsOrder deps listed
  IsOrder-of_none_unmet none = IsOrder-of_IsFront deps listed (IsFront-of_IsInOrder deps listed stopped.in_order)
      (none_left_of_listed listed (length deps) (λ item within. listed_of_none_unmet item within (none item within)))

  -- of dependencies that miss one, one waits
  any_waiting_of_missing : (dependencies : List ℕ) → All (λ item. item < length deps) dependencies
      → 0 < missing listed dependencies → any_waiting unmet dependencies ≡ true
  any_waiting_of_missing [] within some = absurd (omega arith)
  any_waiting_of_missing (d ∷ dependencies) within some =
      let here : d < length deps = All-head (λ item. item < length deps) d dependencies within in
      let rest : 0 < missing listed dependencies → any_waiting unmet dependencies ≡ true =
      any_waiting_of_missing dependencies (All-tail (λ item. item < length deps) d dependencies within) in
      ⊎_elim
      (λ none. let among : 0 < times listed d = listed_of_none_unmet d here none in
      let more : any_waiting unmet dependencies ≡ true = rest (grind (arith, nat_tests)) in
      grind (arith, nat_tests, more))
      (λ above. grind (arith, nat_tests))
      (cases_eq (get_or unmet d 0) 0)

  pub each_waits : AreItems deps → (item : ℕ) → 0 < get_or unmet item 0 → any_waiting unmet (dependencies_of deps item)
      ≡ true
  each_waits items item some =
      let within : item < length deps =
      subst (λ (n : ℕ). item < n) stopped.one_each (within_of_positive unmet item some) in
      any_waiting_of_missing (dependencies_of deps item)
      (All-get_or (λ (dependencies : List ℕ). All (λ d. d < length deps) dependencies) deps item [] within items)
      (omega (arith, stopped.counts item within))
