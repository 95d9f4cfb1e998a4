-- Samples that meet the premises of the laws on given values, logs, groups, operators, expressions and inputs.
use Rattle.std.proofs.Common.{◌≡◌, ℕ, pos, false, IsTrue, List, [], ◌∷◌, Some, None, Ok, Err, slice_get}
use Rattle.std.proofs.Common.{IfOk, refl, sym, ap, ◌∙◌, subst, rules, arith, length, map, inl}
use Rattle.cat_date.specs.declared.rounding.Rounding.TheVariants.{Refuse}
use Rattle.cat_value.specs.declared.value.Value.{Value}
use Rattle.cat_value.specs.declared.value.Value.TheVariants as flat
use Rattle.cat_value.specs.declared.value.Value.TheViews as value
use Rattle.cat_value.specs.declared.ty.Ty.TheVariants as ty
use Rattle.cat_value.specs.declared.ty.Ty.TheViews as types
use Rattle.cat_value.specs.declared.declaration.Kind.TheVariants as kind
use Rattle.cat_value.specs.declared.declaration.ItemDecl.{ItemDecl}
use Rattle.cat_value.specs.declared.outcome.Target.{Target}
use Rattle.cat_value.specs.declared.outcome.Outcome.TheVariants as outcome
use Rattle.cat_value.specs.Inputs.{IsWellTyped, is_input_of}
use Rattle.cat_value.proofs.Exported.{typing}
use Rattle.cat_scope.specs.declared.stop.Stop.TheVariants.{Conflict, NoValue, Stuck}
use Rattle.cat_scope.specs.declared.expr.Expr.{Expr}
use Rattle.cat_scope.specs.declared.expr.Expr.TheVariants as leaf
use Rattle.cat_scope.specs.declared.expr.Expr.TheViews as expr
use Rattle.cat_scope.specs.declared.expr.Expr.TheViews.{out-Expr}
use Rattle.cat_scope.specs.declared.operators.UnaryOp.TheVariants.{NegateInteger}
use Rattle.cat_scope.specs.declared.operators.BinaryOp.TheVariants.{AddIntegers}
use Rattle.cat_scope.specs.declared.defs.Except.TheVariants as except
use Rattle.cat_scope.specs.Runs.{Run, stops}
use Rattle.cat_scope.specs.Signatures.{Signature}
use Rattle.cat_scope.specs.Operators.{convert, operate}
use Rattle.cat_scope.specs.Groups.{Group, groups_of, excepts, excepting}
use Rattle.cat_scope.specs.Judging.{Held, Judged, alone, in_source_order, positions_in, judge, settle, or_else}
use Rattle.cat_scope.specs.Targets.{defs_from, judge_target}
use Rattle.cat_scope.specs.Eval.{Env, eval}
use Rattle.cat_scope.specs.Mentions.{items_named, scopes_named}
use Rattle.cat_scope.specs.Names.{AllHave, is_function, scope_items}
use Rattle.cat_scope.specs.Same.{Alike}
use Rattle.cat_scope.specs.Calls.{Items, Scoped, variable}
use Rattle.cat_scope.specs.ItemValues.{item_value, passed}
use Rattle.cat_scope.specs.Running.{run_of, run_scoped, scoped_of, scope_run}
use Rattle.cat_scope.specs.Outcomes.{scope_outcome, deciders}
use Rattle.cat_scope.proofs.Exported.{equations, namings}
use Rattle.cat_scope.proofs.Samples.{at, n_in, x_out, n_above, whole, def, body, x, scope_of, calling_scopes}
use Rattle.cat_scope.proofs.Samples.{calling_bodies}
use Rattle.cat_scope.proofs.Samples as sample
use Rattle.cat_sound.specs.Endings.{Allowed, EndsIn, ResultsIn, IsOf, IsReady, IsCallable, IsOutcomeOf, AreOutputsOf}
use Rattle.cat_sound.specs.Given.{HasValue, IsLogged, output_number, values_at}
use Rattle.cat_sound.specs.Parts.{PartsTyped}
use Rattle.cat_sound.specs.Stopped.{ComesOf}
use Rattle.cat_sound.proofs.FormTypes.{same_some, not_true}
use Rattle.cat_sound.proofs.FlatTypes.{of-Integer}
use Rattle.cat_sound.proofs.TargetLaws.{own_definitions_alone}
use Rattle.cat_sound.proofs.CalledLaws.{called_scopes_stop}
use Rattle.cat_sound.proofs.JudgeLaws.{judging_rule}
use Rattle.cat_sound.proofs.HeldLaws.{named}
use Rattle.cat_sound.proofs.GroupLaws.{forest_acyclic}
use Rattle.cat_sound.proofs.GivenValues.{given_stands, given_outputs_stand}
use Rattle.cat_sound.proofs.DecidedLaws.{each_logged}
use Rattle.cat_sound.proofs.OperatorTypes.{conversions_go_on, operators_go_on}
use Rattle.cat_sound.proofs.ExprTypes.{expressions_go_on}
use Rattle.cat_sound.proofs.PartTypes.{parts_typed}
use Rattle.cat_sound.proofs.OutcomeTypes.{programs_go_on, logged_within}
use Rattle.cat_sound.proofs.ScopeLaws.{scopes_by_rule}
use Rattle.cat_sound.proofs.Alike.{same_gives}
use Rattle.cat_sound.proofs.WellFormedCalls.{decls, x_in_t, t_items, t_defs, s_items, s_defs, s_names}
use Rattle.cat_sound.proofs.WellFormedCalls.{n_above_zero_typed}
use Rattle.cat_sound.proofs.WellFormedCalls.{well_formed, program}
use Rattle.cat_sound.proofs.ProgramSamples.{its_forest}
use Rattle.cat_sound.proofs.ProgramSamples as forest
use Rattle.cat_sound.proofs.SoundSamples.{of_function, parameters_of_one_function_are_same}
use Rattle.cat_sound.proofs.LawSamples.{function, fives, three_given, it_is_five, both_scopes, they_are_closed}
use Rattle.cat_sound.proofs.LawSamples.{three_to_s}
use Rattle.cat_sound.proofs.LawSamples.{its_run_stops_in_s_alone, t_goes_on}

abbrev three : Value
three = flat.Integer (pos 3)

abbrev five : Value
five = flat.Integer (pos 5)

abbrev nine : Value
nine = flat.Integer (pos 9)

-- ---- given values, and what is logged

n_stands : IfOk (values_at fives three_given 1).end (HasValue 0 three)
n_stands = given_stands fives three_given 1 0 three (omega arith) refl refl

-- T with a value for its context
abbrev nine_to_t : Items
nine_to_t = Some nine ∷ []

its_outcome_is_nine : scope_outcome program 0 nine_to_t ≡ Some (outcome.Value (nine ∷ []))
unfolding run_of judge_target
its_outcome_is_nine = search (rules, equations, value.the_lemmas)

nine_stands : slice_get (nine ∷ []) (output_number t_items 0) ≡ Some nine
nine_stands =
    given_outputs_stand decls calling_bodies (0 ∷ 1 ∷ []) 0 nine_to_t 0 x_in_t nine (nine ∷ []) ∣ well_formed ∣₁
    refl refl refl its_outcome_is_nine

x_is_logged : IsLogged (variable fives 1) (run_scoped fives three_given).log
x_is_logged = each_logged fives three_given (five ∷ []) 1 1 x_out it_is_five refl refl refl refl

-- ---- two definitions that hold, the second one first

abbrev held_at : ℕ → ℕ → Held Value
held_at number line = record { number = number; pos = at line 3; value = five }

abbrev two : List (Held Value)
two = held_at 1 8 ∷ held_at 0 7 ∷ []

they_are_a_conflict : alone x two ≡ Err (Conflict x (at 7 3 ∷ at 8 3 ∷ []))
they_are_a_conflict = refl

they_are_named : at 7 3 ∷ at 8 3 ∷ [] ≡ positions_in (in_source_order two)
they_are_named = named x x two (at 7 3 ∷ at 8 3 ∷ []) they_are_a_conflict

-- ---- definitions of another variable

another_definition : (value : Expr → Run Value)
    → judge_target value x (def (sample.variable 0 0) None except.No None (whole 1) (at 6 3) ∷ [])
    ≡ judge_target value x (def (sample.variable 0 0) None except.No None (whole 2) (at 6 3) ∷ [])
another_definition value = own_definitions_alone value x [] _ _ [] refl refl

-- ---- a condition among the inputs of a called scope

abbrev truth_in : ItemDecl
truth_in = sample.condition_item kind.Input (at 3 9)

an_input_condition_is_false : passed x (at 6 3) truth_in None ≡ Ok (Some (flat.Boolean false))
an_input_condition_is_false = refl

abbrev caller : ItemDecl
caller = sample.truth_item (kind.Called 0) (at 6 3)

-- it asks a function that has no value
abbrev asking : Scoped
asking =
    scoped_of 1 (function false ∷ caller ∷ [])
    (body (def (record { scope = 1; item = 1; inner = Some 0 }) None except.No None
    (expr.Call (at 9 23) 0 (whole 1 ∷ [])) (at 9 3) ∷ []) (0 ∷ 1 ∷ []))
    (scope_of (truth_in ∷ []) ∷ []) (λ scope input. stops Stuck)

its_input_meets_no_value : (item_value asking (0 ∷ []) (None ∷ None ∷ []) 1 None (Some caller)).end
    ≡ Err (NoValue (sample.variable 1 0) (at 5 12))
unfolding judge_target
its_input_meets_no_value = search (rules, equations, value.the_lemmas)

it_comes_of_its_judging : ComesOf asking (0 ∷ []) (None ∷ None ∷ []) 1 0 caller
    (NoValue (sample.variable 1 0) (at 5 12))
it_comes_of_its_judging =
    called_scopes_stop asking (0 ∷ []) (None ∷ None ∷ []) 1 0 caller _ refl its_input_meets_no_value

-- ---- groups of which none is on a cycle

abbrev context_of_t : Target
context_of_t = record { scope = 1; item = 1; inner = Some 0 }

abbrev its_groups : List Group
its_groups = groups_of (defs_from context_of_t 0 s_defs)

it_is_judged_by_the_rule : (own : ℕ → Judged Value)
    → judge context_of_t (excepts its_groups) own (length its_groups) 0
    ≡ or_else
    (settle context_of_t
    (map (judge context_of_t (excepts its_groups) own (length its_groups)) (excepting (excepts its_groups) 0)))
    (own 0)
it_is_judged_by_the_rule own =
    judging_rule context_of_t its_groups own 0 (forest_acyclic forest.whole program 1 _ refl its_forest).0 (omega arith)

-- ---- expressions that agree but for positions

they_give_the_same : (env : Env) (v : Value)
    → Alike (eval env (leaf.Local (at 1 1) 0) (v ∷ [])) (eval env (leaf.Local (at 2 2) 0) (v ∷ []))
they_give_the_same env v =
    same_gives env of_function of_function (leaf.Local (at 1 1) 0) (leaf.Local (at 2 2) 0) (v ∷ []) (v ∷ []) []
    parameters_of_one_function_are_same refl refl (λ same. refl)

-- ---- scopes of a program

t_is_run_by_the_rule : (input : Items) → scope_run program 0 input
    ≡ run_scoped (scoped_of 0 t_items (body t_defs (0 ∷ [])) calling_scopes (scope_run program)) input
t_is_run_by_the_rule input =
    scopes_by_rule decls calling_bodies (0 ∷ 1 ∷ []) ∣ well_formed ∣₁ 0 (scope_of t_items) (body t_defs (0 ∷ [])) input
    refl refl

-- ---- operators on integers

three_is_whole : IsOf decls ty.Integer three
three_is_whole = of-Integer decls (pos 3) refl

minus_three : ResultsIn (IsOf decls ty.Integer) (convert NegateInteger (at 1 1) three)
minus_three = conversions_go_on decls (at 1 1) three NegateInteger three_is_whole

abbrev integers : Signature
integers = record { left = ty.Integer; right = ty.Integer; result = ty.Integer }

three_and_three : ResultsIn (IsOf decls ty.Integer) (operate Refuse AddIntegers (at 1 3) three three)
three_and_three =
    operators_go_on decls Refuse (at 1 3) three three integers AddIntegers (inl refl) three_is_whole three_is_whole

-- ---- `n > 0` where n is 3

abbrev where_n_is_three : Env
where_n_is_three = record {
  rounding = Refuse;
  items = Some three ∷ [];
  call = λ function arguments. stops Stuck;
  scope_call = λ scope fields output. stops Stuck;
}

n_is_ready : (allowed : Allowed) → IsReady allowed s_names where_n_is_three 0
n_is_ready allowed = record {
  variable =
      λ t is. subst (λ u. ResultsIn (IsOf decls u) (Ok three))
      (sym (is.3 ∙ sym (ap (λ (i : ItemDecl). i.ty) (same_some n_in is.0 is.1)))) three_is_whole;
  output =
      λ k t is. let is_kind : kind.Input ≡ kind.Called is.scope =
      ap (λ (i : ItemDecl). i.kind) (same_some n_in is.called is.called_is) ∙ is.kind_is in absurd (cc (is_kind));
  function =
      λ params t vs is are. not_true (subst (λ (i : ItemDecl). IsTrue (is_function i))
      (sym (same_some n_in is.decl is.decl_is)) is.function);
}

it_names_n : items_named (n_above 0) ≡ 0 ∷ []
it_names_n = search (rules, namings)

it_calls_none : scopes_named (n_above 0) ≡ []
it_calls_none = search (rules, namings)

it_goes_on : (allowed : Allowed) → EndsIn allowed (IsOf decls ty.Boolean) (eval where_n_is_three (n_above 0) [])
it_goes_on allowed =
    expressions_go_on allowed s_names where_n_is_three [] [] (n_above 0) ty.Boolean n_above_zero_typed
    (record {
      items = subst (AllHave (IsReady allowed s_names where_n_is_three)) (sym it_names_n) (n_is_ready allowed, tt);
      scopes = subst (AllHave (IsCallable allowed s_names where_n_is_three)) (sym it_calls_none) tt;
    }) tt

its_parts_are_typed : PartsTyped s_names [] (out-Expr (n_above 0)) ty.Boolean
its_parts_are_typed = parts_typed s_names [] (n_above 0) ty.Boolean n_above_zero_typed

-- ---- an input of S

it_is_well_typed : IsWellTyped decls 1 three_to_s
unfolding is_input_of
it_is_well_typed = search (rules, typing, types.the_lemmas)

s_goes_on : IsOutcomeOf decls (scope_items decls 1) (scope_outcome program 1 three_to_s)
s_goes_on = programs_go_on decls calling_bodies (0 ∷ 1 ∷ []) 1 three_to_s ∣ well_formed ∣₁ it_is_well_typed

s_stops_alone : EndsIn t_goes_on (AreOutputsOf decls s_items) (scope_run program 1 three_to_s)
s_stops_alone = its_run_stops_in_s_alone three_to_s it_is_well_typed

it_logs_s_and_t : AllHave (λ d. IsTrue (both_scopes d.target.scope)) (deciders program 1 three_to_s)
it_logs_s_and_t =
    logged_within both_scopes decls calling_bodies (0 ∷ 1 ∷ []) 1 three_to_s ∣ well_formed ∣₁ they_are_closed refl
    it_is_well_typed
