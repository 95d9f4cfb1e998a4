-- Worked examples of the meaning: variables that others need, contexts, and scopes that are called.
use Rattle.std.proofs.Common.{◌≡◌, ℕ, pos, ℤ, List, [], ◌∷◌, Option, None, Some, Result, Ok, Err, rules, sym, ap, ◌∙◌}
use Rattle.cat_value.specs.declared.value.Value.{Value}
use Rattle.cat_value.specs.declared.value.Value.TheVariants as flat
use Rattle.cat_value.specs.declared.value.Value.TheViews as value
use Rattle.cat_value.specs.declared.declaration.Kind.TheVariants as kind
use Rattle.cat_scope.specs.declared.stop.Stop.{Stop}
use Rattle.cat_scope.specs.declared.stop.Stop.TheVariants.{NoValue, Stuck}
use Rattle.cat_scope.specs.declared.defs.Except.TheVariants as except
use Rattle.cat_scope.specs.declared.defs.Def.{Def}
use Rattle.cat_scope.specs.declared.expr.Expr.{Expr}
use Rattle.cat_scope.specs.declared.expr.Expr.TheVariants as leaf
use Rattle.cat_scope.specs.Projections.{integer}
use Rattle.cat_scope.specs.Running.{run_of}
use Rattle.cat_scope.specs.Targets.{judge_target}
use Rattle.cat_scope.proofs.Equations.{equations}
use Rattle.cat_scope.proofs.Samples.{at, variable, item, n_in, x_out, whole, def, body, x, scope_of, calling_scopes}
use Rattle.cat_scope.proofs.Samples.{calling_bodies, nested_scopes, nested_bodies}

abbrev gives : ℕ → Result (List Value) Stop
gives k = Ok (flat.Integer (pos k) ∷ [])

abbrev number : ℕ → Option Value
number k = Some (flat.Integer (pos k))

abbrev defined : Expr → Def
defined e = def x None except.No None e (at 7 3)

-- `n`, `x` and `y`: x needs y, which no definition gives
abbrev gap : List Def → List ℕ → Result (List Value) Stop
gap defs order = (run_of (scope_of (n_in ∷ x_out ∷ item kind.Output (at 5 10) ∷ []) ∷ []) (body defs order ∷ [])
    (0 ∷ []) 0 (number 0 ∷ None ∷ None ∷ [])).end

a_gap_shows_where_it_is : gap (defined (leaf.Item (at 7 23) 2) ∷ []) (0 ∷ 2 ∷ 1 ∷ []) ≡ Err
    (NoValue (variable 0 2) (at 5 10))
unfolding run_of judge_target
a_gap_shows_where_it_is = search (rules, equations, value.the_lemmas)

the_first_of_two_gaps_shows : gap [] (0 ∷ 1 ∷ 2 ∷ []) ≡ Err (NoValue x (at 4 10))
unfolding run_of judge_target
the_first_of_two_gaps_shows = search (rules, equations, value.the_lemmas)

-- a context with a definition of its own
abbrev own : Option Value → Result (List Value) Stop
own given = (run_of (scope_of (n_in ∷ item kind.ContextOutput (at 4 18) ∷ []) ∷ [])
    (body (defined (whole 7) ∷ []) (0 ∷ 1 ∷ []) ∷ []) (0 ∷ []) 0 (number 0 ∷ given ∷ [])).end

a_context_has_its_definition : own None ≡ gives 7
unfolding run_of judge_target
a_context_has_its_definition = search (rules, equations, value.the_lemmas)

a_given_context_has_priority : own (number 9) ≡ gives 9
unfolding run_of judge_target
a_given_context_has_priority = search (rules, equations, value.the_lemmas)

-- the number that a scope's first output is
abbrev first_output : Result (List Value) Stop → Result ℤ Stop
first_output (Ok (v ∷ vs)) = integer v
first_output (Ok []) = Err Stuck
first_output (Err stop) = Err stop

first_is : (k : ℕ) → first_output (gives k) ≡ Ok (pos k)
first_is k = search (rules, value.the_lemmas)

abbrev nine : Result ℤ Stop
nine = Ok (pos 9)

abbrev seven : Result ℤ Stop
seven = Ok (pos 7)

-- where the definition goes before what is given, these two are the same
a_context_does_not_lose_to_its_definition : ¬ (own (number 9) ≡ own None)
a_context_does_not_lose_to_its_definition same =
    let nine_is_seven : nine ≡ seven = sym (first_is 9) ∙ ap first_output (sym a_given_context_has_priority ∙ same
    ∙ a_context_has_its_definition) ∙ first_is 7 in
    absurd (cc)

abbrev called : ℕ → Result (List Value) Stop
called k = (run_of calling_scopes calling_bodies (0 ∷ 1 ∷ []) 1 (number k ∷ None ∷ None ∷ [])).end

a_called_context_is_given : called 3 ≡ gives 3
unfolding run_of judge_target
a_called_context_is_given = search (rules, equations, value.the_lemmas)

a_called_context_is_not_given : called 0 ≡ gives 7
unfolding run_of judge_target
a_called_context_is_not_given = search (rules, equations, value.the_lemmas)

abbrev within : ℕ → Result (List Value) Stop
within k = (run_of nested_scopes nested_bodies (0 ∷ 1 ∷ []) 1 (number k ∷ None ∷ [])).end

a_scope_call_gives_an_output : within 3 ≡ gives 6
unfolding run_of judge_target
a_scope_call_gives_an_output = search (rules, equations, value.the_lemmas)

a_scope_call_ends_as_the_scope_ends : within 0 ≡ Err (NoValue (variable 0 1) (at 4 10))
unfolding run_of judge_target
a_scope_call_ends_as_the_scope_ends = search (rules, equations, value.the_lemmas)
