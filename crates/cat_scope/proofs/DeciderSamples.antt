-- Worked examples of deciders: which definitions decided, in which order.
use Rattle.std.proofs.Common.{◌≡◌, ℕ, pos, List, [], ◌∷◌, Option, None, Some, rules}
use Rattle.cat_pos.specs.declared.pos.Pos.{Pos}
use Rattle.cat_value.specs.declared.value.Value.TheVariants as flat
use Rattle.cat_value.specs.declared.value.Value.TheViews as value
use Rattle.cat_value.specs.declared.outcome.Target.{Target}
use Rattle.cat_scope.specs.declared.defs.Def.{Def}
use Rattle.cat_scope.specs.Runs.{Decider}
use Rattle.cat_scope.specs.Targets.{judge_target}
use Rattle.cat_scope.specs.Running.{run_of}
use Rattle.cat_scope.proofs.Equations.{equations}
use Rattle.cat_scope.proofs.Samples.{at, variable, n_in, x_out, body, x, chain, forked, calling_scopes, calling_bodies}
use Rattle.cat_scope.proofs.Samples.{nested_scopes, nested_bodies}

abbrev decider : Target → Option Pos → Decider
decider target by = record { target = target; by = by }

-- the deciders of a program of one scope with `n` and `x`, on n
abbrev alone : List Def → ℕ → List Decider
alone defs k = (run_of (record { name = []; items = n_in ∷ x_out ∷ [] } ∷ []) (body defs (0 ∷ 1 ∷ []) ∷ []) (0 ∷ []) 0
    (Some (flat.Integer (pos k)) ∷ None ∷ [])).log

the_exception_of_an_exception_decides : alone chain 2 ≡ decider x (Some (at 8 15)) ∷ []
unfolding run_of judge_target
the_exception_of_an_exception_decides = search (rules, equations, value.the_lemmas)

the_exception_decides : alone chain 1 ≡ decider x (Some (at 7 23)) ∷ []
unfolding run_of judge_target
the_exception_decides = search (rules, equations, value.the_lemmas)

the_base_decides : alone chain 0 ≡ decider x (Some (at 6 11)) ∷ []
unfolding run_of judge_target
the_base_decides = search (rules, equations, value.the_lemmas)

a_conflict_decides_nothing : alone forked 2 ≡ []
unfolding run_of judge_target
a_conflict_decides_nothing = search (rules, equations, value.the_lemmas)

where_no_definition_holds_none_decides : alone [] 0 ≡ decider x None ∷ []
unfolding run_of judge_target
where_no_definition_holds_none_decides = search (rules, equations, value.the_lemmas)

-- the called scope's context first, then what the called scope judges itself, then the output that uses it
abbrev calling : ℕ → List Decider
calling k = (run_of calling_scopes calling_bodies (0 ∷ 1 ∷ []) 1 (Some (flat.Integer (pos k)) ∷ None ∷ None ∷ [])).log

abbrev context : Target
context = record { scope = 1; item = 1; inner = Some 0 }

a_given_context_is_not_judged_again : calling 3 ≡ decider context (Some (at 12 3)) ∷ decider (variable 1 2)
    (Some (at 13 3)) ∷ []
unfolding run_of judge_target
a_given_context_is_not_judged_again = search (rules, equations, value.the_lemmas)

a_context_that_is_not_given_is_judged : calling 0 ≡ decider context None ∷ decider (variable 0 0) (Some (at 10 3)) ∷
    decider (variable 1 2) (Some (at 13 3)) ∷ []
unfolding run_of judge_target
a_context_that_is_not_given_is_judged = search (rules, equations, value.the_lemmas)

-- what is decided inside a definition stands before the definition's own target
abbrev nested : ℕ → List Decider
nested k = (run_of nested_scopes nested_bodies (0 ∷ 1 ∷ []) 1 (Some (flat.Integer (pos k)) ∷ None ∷ [])).log

a_scope_call_decides_first : nested 3 ≡ decider (variable 0 1) (Some (at 9 3)) ∷ decider (variable 1 1) (Some (at 11 3))
    ∷ []
unfolding run_of judge_target
a_scope_call_decides_first = search (rules, equations, value.the_lemmas)

a_scope_call_without_a_value_decides_alone : nested 0 ≡ decider (variable 0 1) None ∷ []
unfolding run_of judge_target
a_scope_call_without_a_value_decides_alone = search (rules, equations, value.the_lemmas)
