-- Readings that are wrong: each differs from the definition where it is tried.
use Rattle.std.proofs.Common.{◌≡◌, ℕ, true, false, Bool, List, [], ◌∷◌, Option, None, Some, Result, Ok, Err, sym, ap}
use Rattle.std.proofs.Common.{true≢false}
use Rattle.cat_pos.specs.declared.pos.Pos.{Pos}
use Rattle.cat_value.specs.declared.outcome.Target.{Target}
use Rattle.cat_scope.specs.declared.stop.Stop.{Stop}
use Rattle.cat_scope.specs.declared.stop.Stop.TheVariants.{NoValue}
use Rattle.cat_scope.specs.Runs.{gives, giving}
use Rattle.cat_scope.specs.Judging.{Held, Judged, alone, or_else, settle}
use Rattle.cat_scope.specs.Targets.{absent}

abbrev is_ok : {A : Type 0} → Result A Stop → Bool
is_ok (Ok a) = true
is_ok (Err stop) = false

-- the first of two exceptions that hold is taken
abbrev first_taken : {A : Type 0} → List (Held A) → Result (Option (Held A)) Stop
first_taken [] = Ok None
first_taken (h ∷ hs) = Ok (Some h)

the_first_of_two_is_not_taken : {A : Type 0} (target : Target) (h i : Held A) (hs : List (Held A))
    → ¬ (first_taken (h ∷ i ∷ hs) ≡ alone target (h ∷ i ∷ hs))
the_first_of_two_is_not_taken target h i hs same = true≢false (ap is_ok same)

abbrev number_at : {A : Type 0} → Result (Option (Held A)) Stop → Option ℕ
number_at (Ok (Some h)) = Some h.number
number_at (Ok None) = None
number_at (Err stop) = None

abbrev number_in : {A : Type 0} → Judged A → Option ℕ
number_in judged = number_at judged.end

some_is : {n m : ℕ} → Some n ≡ Some m → n ≡ m
some_is e = cc

-- a group's own definitions go before the groups that except it
own_definitions_do_not_come_first : {A : Type 0} (exception own : Held A) → ¬ (exception.number ≡ own.number)
    → ¬ (or_else (gives (Some own)) (gives (Some exception)) ≡ or_else (gives (Some exception)) (gives (Some own)))
own_definitions_do_not_come_first exception own differ same = differ (some_is (sym (ap number_in same)))

-- a group reports its first definition, whichever of them holds
abbrev reported : {A : Type 0} → Held A → Option (Held A) → Option (Held A)
reported first (Some h) = Some (record { number = first.number; pos = first.pos; value = h.value })
reported first None = None

abbrev reporting : {A : Type 0} → Held A → Judged A → Judged A
reporting first judged = giving judged (λ found. Ok (reported first found))

the_first_definition_is_not_reported : {A : Type 0} (target : Target) (first h : Held A) → ¬ (first.number ≡ h.number)
    → ¬ (reporting first (settle target (gives None ∷ gives (Some h) ∷ [])) ≡ settle target
    (gives None ∷ gives (Some h) ∷ []))
the_first_definition_is_not_reported target first h differ same = differ (some_is (ap number_in same))

-- a condition without rules has no value
a_condition_without_rules_has_a_value : (target : Target) (pos : Pos)
    → ¬ (absent target pos true ≡ Err (NoValue target pos))
a_condition_without_rules_has_a_value target pos same = true≢false (ap is_ok same)
