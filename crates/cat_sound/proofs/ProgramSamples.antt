-- What is said of a program, tried on a program that there is.
use Rattle.std.proofs.Common.{◌≡◌, IsTrue, pos, List, [], ◌∷◌, None, Some, refl, rules}
use Rattle.cat_value.specs.declared.value.Value.TheVariants as flat
use Rattle.cat_value.specs.declared.value.Value.TheViews as value
use Rattle.cat_value.specs.declared.outcome.Outcome.TheVariants as outcome
use Rattle.cat_value.specs.declared.outcome.Target.{Target}
use Rattle.cat_scope.specs.declared.forest.Forest.{Forest}
use Rattle.cat_scope.specs.declared.forest.ForestTarget.{ForestTarget}
use Rattle.cat_scope.specs.Targets.{judge_target, defs_from}
use Rattle.cat_scope.specs.Running.{run_of}
use Rattle.cat_scope.specs.Outcomes.{scope_outcome, deciders}
use Rattle.cat_scope.specs.Forests.{StandsFor, are_low, targets_of}
use Rattle.cat_scope.specs.Chains.{is_within}
use Rattle.cat_scope.specs.Groups.{groups_of}
use Rattle.cat_scope.specs.Names.{AllHave, scope_items}
use Rattle.cat_scope.proofs.Exported.{equations}
use Rattle.cat_scope.proofs.Samples.{at, variable}
use Rattle.cat_sound.specs.Grouped.{AreJudgedByRule}
use Rattle.cat_sound.proofs.GroupLaws.{forest_judged}
use Rattle.cat_sound.proofs.WellFormedCalls.{s_defs, program}

its_outcome : scope_outcome program 1 (Some (flat.Integer (pos 3)) ∷ None ∷ None ∷ [])
    ≡ Some (outcome.Value (flat.Integer (pos 3) ∷ []))
unfolding run_of judge_target
its_outcome = search (rules, equations, value.the_lemmas)

its_deciders : deciders program 0 (None ∷ []) ≡ record { target = variable 0 0; by = Some (at 10 3) } ∷ []
unfolding run_of judge_target
its_deciders = search (rules, equations, value.the_lemmas)

-- the forest of S: the context of the called scope, and then the output
abbrev forest : List ForestTarget
forest =
    record {
      target = record { scope = 1; item = 1; inner = Some 0 };
      groups = record { defs = 0 ∷ []; excepted_by = [] } ∷ [];
    }
    ∷ record { target = variable 1 2; groups = record { defs = 1 ∷ []; excepted_by = [] } ∷ [] } ∷ []

pub its_forest : StandsFor program 1 forest
its_forest = (_, refl, refl)

-- no chain of its groups is long, so that it is a forest, and each of its groups is judged by the rule
pub it_is_low : IsTrue (are_low forest)
unfolding are_low is_within
it_is_low = refl

abbrev pub whole : Forest
whole = record { targets = forest; low = it_is_low }

abbrev its_targets : List Target
its_targets = targets_of program.decls 1 (scope_items program.decls 1) (0 ∷ 1 ∷ 2 ∷ [])

its_groups_are_judged : AllHave (λ target. AreJudgedByRule target (groups_of (defs_from target 0 s_defs))) its_targets
its_groups_are_judged = forest_judged whole program 1 _ refl its_forest
