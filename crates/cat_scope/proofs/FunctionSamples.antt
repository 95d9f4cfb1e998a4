-- Worked examples of the meaning: functions, assertions, conditions that are given and that aren't, and several roots.
use Rattle.std.proofs.Common.{◌≡◌, ℕ, pos, Bool, true, false, List, [], ◌∷◌, Option, None, Some, Result, Ok, Err, rules}
use Rattle.cat_date.specs.declared.rounding.Rounding.TheVariants.{Refuse}
use Rattle.cat_value.specs.declared.ty.Ty.{Ty}
use Rattle.cat_value.specs.declared.ty.Ty.TheVariants as ty
use Rattle.cat_value.specs.declared.value.Value.{Value}
use Rattle.cat_value.specs.declared.value.Value.TheVariants as flat
use Rattle.cat_value.specs.declared.value.Value.TheViews as value
use Rattle.cat_value.specs.declared.declaration.Kind.{Kind}
use Rattle.cat_value.specs.declared.declaration.Kind.TheVariants as kind
use Rattle.cat_value.specs.declared.declaration.ItemDecl.{ItemDecl}
use Rattle.cat_value.specs.declared.outcome.FaultKind.TheVariants.{AssertionFailed}
use Rattle.cat_scope.specs.declared.stop.Stop.{Stop}
use Rattle.cat_scope.specs.declared.stop.Stop.TheVariants.{Conflict, NoValue, Fault}
use Rattle.cat_scope.specs.declared.operators.BinaryOp.TheVariants.{Greater, MultiplyIntegers}
use Rattle.cat_scope.specs.declared.expr.Literal.TheVariants as literal
use Rattle.cat_scope.specs.declared.expr.Expr.{Expr}
use Rattle.cat_scope.specs.declared.expr.Expr.TheVariants as leaf
use Rattle.cat_scope.specs.declared.expr.Expr.TheViews as expr
use Rattle.cat_scope.specs.declared.defs.Except.TheVariants as except
use Rattle.cat_scope.specs.declared.defs.Def.{Def}
use Rattle.cat_scope.specs.Running.{run_of}
use Rattle.cat_scope.specs.Targets.{judge_target}
use Rattle.cat_scope.proofs.Equations.{equations}
use Rattle.cat_scope.proofs.Samples.{at, a, variable, truth_item, condition_item, n_in, x_out, whole, n, n_above, def}
use Rattle.cat_scope.proofs.Samples.{body, body_calling, source_of, x, scope_of}

abbrev gives : ℕ → Result (List Value) Stop
gives k = Ok (flat.Integer (pos k) ∷ [])

abbrev number : ℕ → Option Value
number k = Some (flat.Integer (pos k))

-- a function of an integer p, declared on line 5, that has a definition where p > 0
abbrev function : Ty → Bool → ItemDecl
function t condition =
    record { name = []; pos = at 5 12; kind = kind.Internal; ty = t; condition = condition; params = ty.Integer ∷ [] }

abbrev above_zero : Expr → Def
above_zero e =
    record {
      target = variable 0 2;
      label = None;
      except = except.No;
      condition = Some (expr.Binary (at 7 40) Greater (at 7 42) (leaf.Local (at 7 40) 0) (whole 0));
      consequence = e;
      params = 1;
      pos = at 7 3;
    }

abbrev truth : Bool → Expr
truth b = leaf.Literal (at 0 0) (literal.Boolean b)

-- x is what the function gives for n
abbrev calling : ItemDecl → ItemDecl → Expr → ℕ → Result (List Value) Stop
calling output f e k =
    (run_of (scope_of (n_in ∷ output ∷ f ∷ []) ∷ [])
    (body (above_zero e ∷ def x None except.No None (expr.Call (at 8 23) 2 (n ∷ [])) (at 8 3) ∷ []) (0 ∷ 2 ∷ 1 ∷ [])
    ∷ [])
    (0 ∷ []) 0 (number k ∷ None ∷ None ∷ [])).end

abbrev twice : Expr
twice = expr.Binary (at 7 60) MultiplyIntegers (at 7 62) (leaf.Local (at 7 60) 0) (whole 2)

a_function_is_judged_with_its_argument : calling x_out (function ty.Integer false) twice 3 ≡ gives 6
unfolding run_of judge_target
a_function_is_judged_with_its_argument = search (rules, equations, value.the_lemmas)

a_function_without_a_value_names_its_declaration : calling x_out (function ty.Integer false) twice 0
    ≡ Err (NoValue (variable 0 2) (at 5 12))
unfolding run_of judge_target
a_function_without_a_value_names_its_declaration = search (rules, equations, value.the_lemmas)

a_condition_that_is_a_function_holds : calling (truth_item kind.Output (at 4 10)) (function ty.Boolean true)
    (truth true) 3
    ≡ Ok (flat.Boolean true ∷ [])
unfolding run_of judge_target
a_condition_that_is_a_function_holds = search (rules, equations, value.the_lemmas)

a_condition_that_is_a_function_is_false_without_a_rule : calling (truth_item kind.Output (at 4 10))
    (function ty.Boolean true) (truth true) 0
    ≡ Ok (flat.Boolean false ∷ [])
unfolding run_of judge_target
a_condition_that_is_a_function_is_false_without_a_rule = search (rules, equations, value.the_lemmas)

-- two assertions, on lines 7 and 8
abbrev asserting : ℕ → Result (List Value) Stop
asserting k =
    (run_of (scope_of (n_in ∷ x_out ∷ []) ∷ [])
    (record {
      defs = def x None except.No None n (at 6 3) ∷ [];
      assertions =
          record { condition = n_above 0; keyword = at 7 3 }
          ∷ record { condition = n_above 1; keyword = at 8 3 } ∷ [];
      source = source_of (def x None except.No None n (at 6 3) ∷ []);
      rounding = Refuse;
      order = 0 ∷ 1 ∷ [];
      calls = [];
    } ∷ [])
    (0 ∷ []) 0 (number k ∷ None ∷ [])).end

assertions_that_hold_change_nothing : asserting 2 ≡ gives 2
unfolding run_of judge_target
assertions_that_hold_change_nothing = search (rules, equations, value.the_lemmas)

a_false_assertion_is_a_fault : asserting 1 ≡ Err (Fault AssertionFailed (at 8 3))
unfolding run_of judge_target
a_false_assertion_is_a_fault = search (rules, equations, value.the_lemmas)

the_first_false_assertion_shows : asserting 0 ≡ Err (Fault AssertionFailed (at 7 3))
unfolding run_of judge_target
the_first_false_assertion_shows = search (rules, equations, value.the_lemmas)

-- T has a condition c that may be given, and gives it as y; S calls T as t and gives t.y as x
abbrev yields : List Def → List Def
yields own = def (variable 0 1) None except.No None (leaf.Item (at 10 23) 0) (at 10 3) ∷ own

abbrev asks : List Def → List Def
asks given = def (variable 1 2) None except.No None (leaf.Output (at 14 23) 1 0) (at 14 3) ∷ given

abbrev calling_with : Kind → List Def → List Def → ℕ → Result (List Value) Stop
calling_with k own given m =
    (run_of
    (scope_of (condition_item k (at 3 9) ∷ truth_item kind.Output (at 4 10) ∷ [])
    ∷ scope_of (n_in ∷ truth_item (kind.Called 0) (at 7 3) ∷ truth_item kind.Output (at 8 10) ∷ []) ∷ [])
    (body (yields own) (0 ∷ 1 ∷ []) ∷ body_calling (0 ∷ []) (asks given) (0 ∷ 1 ∷ 2 ∷ []) ∷ [])
    (0 ∷ 1 ∷ []) 1 (number m ∷ None ∷ None ∷ [])).end

-- t.c is what S says where n > 0, and nothing is said elsewhere
abbrev said : Bool → List Def
said b = def (record { scope = 1; item = 1; inner = Some 0 }) None except.No (Some (n_above 0)) (truth b) (at 13 3) ∷ []

an_input_condition_is_given : calling_with kind.Input [] (said true) 1 ≡ Ok (flat.Boolean true ∷ [])
unfolding run_of judge_target
an_input_condition_is_given = search (rules, equations, value.the_lemmas)

an_input_condition_without_a_rule_is_false : calling_with kind.Input [] (said true) 0 ≡ Ok (flat.Boolean false ∷ [])
unfolding run_of judge_target
an_input_condition_without_a_rule_is_false = search (rules, equations, value.the_lemmas)

-- a context condition with a rule of its own: what is said goes before it, and where nothing is said it holds
abbrev own_rule : List Def
own_rule = def (variable 0 0) None except.No None (truth true) (at 11 3) ∷ []

a_context_condition_is_given : calling_with kind.Context own_rule (said false) 1 ≡ Ok (flat.Boolean false ∷ [])
unfolding run_of judge_target
a_context_condition_is_given = search (rules, equations, value.the_lemmas)

a_context_condition_that_is_not_given_has_its_rule : calling_with kind.Context own_rule (said false) 0
    ≡ Ok (flat.Boolean true ∷ [])
unfolding run_of judge_target
a_context_condition_that_is_not_given_has_its_rule = search (rules, equations, value.the_lemmas)

-- `output of T with { } . y`
abbrev without_a_field : Kind → List Def → Result (List Value) Stop
without_a_field k own =
    (run_of
    (scope_of (condition_item k (at 3 9) ∷ truth_item kind.Output (at 4 10) ∷ [])
    ∷ scope_of (n_in ∷ truth_item kind.Output (at 7 10) ∷ []) ∷ [])
    (body (yields own) (0 ∷ 1 ∷ [])
    ∷ body_calling (0 ∷ []) (def (variable 1 1) None except.No None (expr.ScopeCall (at 13 23) 0 [] 0) (at 13 3) ∷ [])
    (0 ∷ 1 ∷ [])
    ∷ [])
    (0 ∷ 1 ∷ []) 1 (number 0 ∷ None ∷ [])).end

an_input_condition_without_a_field_is_false : without_a_field kind.Input [] ≡ Ok (flat.Boolean false ∷ [])
unfolding run_of judge_target
an_input_condition_without_a_field_is_false = search (rules, equations, value.the_lemmas)

a_context_condition_without_a_field_is_not_given : without_a_field kind.Context own_rule ≡ Ok (flat.Boolean true ∷ [])
unfolding run_of judge_target
a_context_condition_without_a_field_is_not_given = search (rules, equations, value.the_lemmas)

-- definitions of x alone
abbrev alone : List Def → Result (List Value) Stop
alone defs =
    (run_of (scope_of (n_in ∷ x_out ∷ []) ∷ []) (body defs (0 ∷ 1 ∷ []) ∷ []) (0 ∷ []) 0 (number 0 ∷ None ∷ [])).end

two_roots_that_hold_are_a_conflict : alone
    (def x (Some (a (at 6 9))) except.No None (whole 1) (at 6 11) ∷ def x None except.No None (whole 2) (at 7 3) ∷ [])
    ≡ Err (Conflict x (at 6 11 ∷ at 7 3 ∷ []))
unfolding run_of judge_target
two_roots_that_hold_are_a_conflict = search (rules, equations, value.the_lemmas)

-- the first group has its second definition alone, which stands behind that of the second group
positions_stand_in_source_order : alone
    (def x (Some (a (at 6 9))) except.No (Some (n_above 0)) (whole 1) (at 6 11)
    ∷ def x None except.No None (whole 2) (at 7 3) ∷ def x (Some (a (at 8 9))) except.No None (whole 3) (at 8 11) ∷ [])
    ≡ Err (Conflict x (at 7 3 ∷ at 8 11 ∷ []))
unfolding run_of judge_target
positions_stand_in_source_order = search (rules, equations, value.the_lemmas)
