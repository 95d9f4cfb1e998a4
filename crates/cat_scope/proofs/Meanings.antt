-- Worked examples of the meaning: each program is written out, and what its scope gives is computed.
use Rattle.std.proofs.Common.{◌≡◌, ℕ, pos, false, List, [], ◌∷◌, None, Some, Result, Ok, Err, rules}
use Rattle.cat_num.specs.Frac.{gcd, ratio, lowest}
use Rattle.cat_date.specs.Span.{compared_spans}
use Rattle.cat_value.specs.declared.value.Value.{Value}
use Rattle.cat_value.specs.declared.value.Value.TheVariants as flat
use Rattle.cat_value.specs.declared.value.Value.TheViews as value
use Rattle.cat_value.specs.declared.declaration.ItemDecl.{ItemDecl}
use Rattle.cat_value.specs.declared.declaration.Kind.TheVariants as kind
use Rattle.cat_value.specs.declared.outcome.FaultKind.TheVariants.{DivisionByZero, Uncomparable}
use Rattle.cat_scope.specs.declared.stop.Stop.{Stop}
use Rattle.cat_scope.specs.declared.stop.Stop.TheVariants.{Conflict, NoValue, Fault}
use Rattle.cat_scope.specs.declared.defs.Except.TheVariants as except
use Rattle.cat_scope.specs.declared.defs.Def.{Def}
use Rattle.cat_scope.specs.Running.{run_of}
use Rattle.cat_scope.specs.Targets.{judge_target}
use Rattle.cat_scope.proofs.Equations.{equations}
use Rattle.cat_scope.proofs.Samples.{at, a, truth_item, condition_item, n_in, x_out, whole, per_n_above_one}
use Rattle.cat_scope.proofs.Samples.{one_month_below_31_days, def, body, x, chain, forked}

-- a program of one scope with `n` and `x`, on n
abbrev alone : List ItemDecl → List Def → ℕ → Result (List Value) Stop
alone items defs k = (run_of (record { name = []; items = items } ∷ []) (body defs (0 ∷ 1 ∷ []) ∷ []) (0 ∷ []) 0
    (Some (flat.Integer (pos k)) ∷ None ∷ [])).end

abbrev gives : ℕ → Result (List Value) Stop
gives k = Ok (flat.Integer (pos k) ∷ [])

the_exception_of_an_exception_holds : alone (n_in ∷ x_out ∷ []) chain 2 ≡ gives 3
unfolding run_of judge_target
the_exception_of_an_exception_holds = search (rules, equations, value.the_lemmas)

the_exception_holds : alone (n_in ∷ x_out ∷ []) chain 1 ≡ gives 2
unfolding run_of judge_target
the_exception_holds = search (rules, equations, value.the_lemmas)

the_base_holds : alone (n_in ∷ x_out ∷ []) chain 0 ≡ gives 1
unfolding run_of judge_target
the_base_holds = search (rules, equations, value.the_lemmas)

two_exceptions_are_a_conflict : alone (n_in ∷ x_out ∷ []) forked 2 ≡ Err (Conflict x (at 7 23 ∷ at 8 15 ∷ []))
unfolding run_of judge_target
two_exceptions_are_a_conflict = search (rules, equations, value.the_lemmas)

no_definition_is_no_value : alone (n_in ∷ x_out ∷ []) [] 0 ≡ Err (NoValue x (at 4 10))
unfolding run_of judge_target
no_definition_is_no_value = search (rules, equations, value.the_lemmas)

a_condition_without_rules_is_false : alone (n_in ∷ condition_item kind.Output (at 4 10) ∷ []) [] 0 ≡ Ok
    (flat.Boolean false ∷ [])
unfolding run_of judge_target
a_condition_without_rules_is_false = search (rules, equations, value.the_lemmas)

-- an exception whose condition divides by n, and two that always hold
abbrev faulty : List Def
faulty =
    def x (Some (a (at 6 9))) except.No None (whole 0) (at 6 11) ∷
    def x None (except.Named (at 7 3) (a (at 7 13))) (Some (per_n_above_one (at 7 46))) (whole 1) (at 7 15) ∷
    def x None (except.Named (at 8 3) (a (at 8 13))) None (whole 2) (at 8 15) ∷
    def x None (except.Named (at 9 3) (a (at 9 13))) None (whole 3) (at 9 15) ∷ []

a_fault_comes_before_a_conflict : alone (n_in ∷ x_out ∷ []) faulty 0 ≡ Err (Fault DivisionByZero (at 7 46))
unfolding run_of judge_target gcd ratio lowest
a_fault_comes_before_a_conflict = search (rules, equations, value.the_lemmas)

without_the_fault_there_is_a_conflict : alone (n_in ∷ x_out ∷ []) faulty 1 ≡ Err (Conflict x (at 8 15 ∷ at 9 15 ∷ []))
unfolding run_of judge_target gcd ratio lowest
without_the_fault_there_is_a_conflict = search (rules, equations, value.the_lemmas)

-- where an exception holds, the definition that it excepts isn't evaluated
abbrev spared : List Def
spared =
    def x (Some (a (at 6 9))) except.No (Some (per_n_above_one (at 6 45))) (whole 0) (at 6 11) ∷
    def x None (except.Named (at 7 3) (a (at 7 13))) None (whole 2) (at 7 15) ∷ []

what_is_excepted_is_not_evaluated : alone (n_in ∷ x_out ∷ []) spared 0 ≡ gives 2
unfolding run_of judge_target gcd ratio lowest
what_is_excepted_is_not_evaluated = search (rules, equations, value.the_lemmas)

two_kinds_of_durations_are_uncomparable : alone (n_in ∷ truth_item kind.Output (at 4 10) ∷ [])
    (def x None except.No None (one_month_below_31_days (at 6 31)) (at 6 3) ∷ []) 0 ≡ Err (Fault Uncomparable (at 6 31))
unfolding run_of judge_target compared_spans
two_kinds_of_durations_are_uncomparable = search (rules, equations, value.the_lemmas)
