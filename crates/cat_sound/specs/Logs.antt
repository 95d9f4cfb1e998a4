-- What stands in the log of a run, and how often.
use Rattle.std.specs.Prelude.{◌≡◌, ℕ, ◌+◌, nat_eq, ◌&&◌, List, [], ◌∷◌, ◌++◌, Option, None, Ok, if◌then◌else◌}
use Rattle.cat_value.specs.declared.value.Value.{Value}
use Rattle.cat_value.specs.declared.outcome.Target.{Target}
use Rattle.cat_scope.specs.Runs.{Decider}
use Rattle.cat_scope.specs.Judging.{Held, held_position}
use Rattle.cat_scope.specs.Targets.{same_target}
use Rattle.cat_scope.specs.Calls.{Items, Scoped, call, judging_of}
use Rattle.cat_scope.specs.Running.{backwards, entry_at, no_values, run_items}

-- a target of the scope: a variable, or what is inside of a called scope
abbrev pub target_in : Scoped → ℕ → Option ℕ → Target
target_in scoped item inner = record { scope = scoped.scope; item = item; inner = inner }

-- in the run of a scope a target of it was judged and ended Held or Empty: an item that isn't given was reached in the
-- order, behind those in `front`, and its target was judged with the values that these came to
pub record WasJudged (scoped : Scoped) (input : Items) (decider : Decider) : Type 0 where
  pub front : List ℕ
  pub item : ℕ
  pub back : List ℕ
  pub inner : Option ℕ
  pub values : Items
  pub found : Option (Held Value)
  pub in_order : scoped.order ≡ front ++ item ∷ back
  pub not_given : entry_at item input ≡ None
  pub reached : (run_items scoped input [] (no_values scoped.items) front).end ≡ Ok values
  pub is : (judging_of scoped (call scoped values (backwards front)) values [] (target_in scoped item inner)).end
      ≡ Ok found
  pub logged : decider ≡ record { target = target_in scoped item inner; by = held_position found }

-- a log that is made of what was judged in the run of a scope, and of the whole logs of scopes that are run within
pub data IsMadeOf (scoped : Scoped) (input : Items) : List Decider → Type 0 where
  nothing : IsMadeOf scoped input []
  own : (decider : Decider) → WasJudged scoped input decider → IsMadeOf scoped input (decider ∷ [])
  within : (scope : ℕ) (its_input : Items) → IsMadeOf scoped input (scoped.runs scope its_input).log
  joined : (log more : List Decider) → IsMadeOf scoped input log → IsMadeOf scoped input more
      → IsMadeOf scoped input (log ++ more)

-- how often a log tells of a target
abbrev pub times_logged : Target → List Decider → ℕ
times_logged target [] = 0
times_logged target (d ∷ ds) =
    (if nat_eq d.target.scope target.scope && same_target d.target target then 1 else 0) + times_logged target ds
