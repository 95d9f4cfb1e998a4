-- Samples that meet the premises of laws on conditions, functions, logs and scopes that call each other.
use Rattle.std.proofs.Common.{◌≡◌, ℕ, zero, suc, pos, Bool, true, false, IsTrue, List, [], ◌∷◌, Option, Some}
use Rattle.std.proofs.Common.{None}
use Rattle.std.proofs.Common.{Result, Ok, Err, refl, sym, ap, ◌∙◌, subst, rules, arith, true≢false}
use Rattle.cat_order.specs.Order.{IsOrder, is_ready}
use Rattle.cat_order.specs.Computed.{order_of}
use Rattle.cat_value.specs.declared.value.Value.{Value}
use Rattle.cat_value.specs.declared.value.Value.TheVariants as flat
use Rattle.cat_value.specs.declared.value.Value.TheViews as value
use Rattle.cat_value.specs.declared.ty.Ty.TheVariants as ty
use Rattle.cat_value.specs.declared.declaration.Kind.TheVariants as kind
use Rattle.cat_value.specs.declared.declaration.ItemDecl.{ItemDecl}
use Rattle.cat_value.specs.declared.declaration.Scope.{Scope}
use Rattle.cat_value.specs.declared.outcome.Target.{Target}
use Rattle.cat_value.specs.Inputs.{IsWellTyped}
use Rattle.cat_scope.specs.declared.stop.Stop.{Stop}
use Rattle.cat_scope.specs.declared.stop.Stop.TheVariants.{NoValue, Stuck}
use Rattle.cat_scope.specs.declared.expr.Expr.{Expr}
use Rattle.cat_scope.specs.declared.expr.Expr.TheVariants as leaf
use Rattle.cat_scope.specs.declared.expr.Expr.TheViews as expr
use Rattle.cat_scope.specs.declared.operators.BinaryOp.TheVariants.{Greater}
use Rattle.cat_scope.specs.declared.defs.Except.TheVariants as except
use Rattle.cat_scope.specs.declared.defs.Def.{Def}
use Rattle.cat_scope.specs.declared.defs.Body.{Body}
use Rattle.cat_scope.specs.Runs.{stops}
use Rattle.cat_scope.specs.Judging.{Held}
use Rattle.cat_scope.specs.Targets.{judge_target}
use Rattle.cat_scope.specs.Eval.{Env, eval}
use Rattle.cat_scope.specs.Orders.{item_dependencies}
use Rattle.cat_order.specs.Order.{dependencies_of}
use Rattle.cat_scope.specs.Names.{AllHave}
use Rattle.cat_scope.specs.Calls.{Items, Runs, Scoped, call, variable_value, judging_of, variable}
use Rattle.cat_scope.specs.ItemValues.{item_value}
use Rattle.cat_scope.specs.Running.{backwards, run_of, run_scoped, scoped_of}
use Rattle.cat_scope.proofs.Exported.{equations, namings}
use Rattle.cat_scope.proofs.Samples.{at, n_in, x_out, n, whole, def, body, body_calling, x, scope_of}
use Rattle.cat_scope.proofs.Samples.{calling_bodies}
use Rattle.cat_scope.proofs.Samples as sample
use Rattle.cat_sound.specs.Endings.{Allowed, Ended, EndsIn, AreOutputsOf}
use Rattle.cat_sound.specs.Settled.{IsHeldOf, MayStand, AreSettled, ScopesSettled, IsClosed}
use Rattle.cat_sound.specs.Given.{JudgedAt}
use Rattle.cat_sound.specs.Logs.{times_logged}
use Rattle.cat_sound.proofs.FormTypes.{same_some, not_true}
use Rattle.cat_sound.proofs.FlatTypes.{of-Integer}
use Rattle.cat_sound.proofs.RunParts.{each_judged}
use Rattle.cat_sound.proofs.FunctionLaws.{by_rule, nothing_behind}
use Rattle.cat_sound.proofs.OutcomeTypes.{settled_programs}
use Rattle.cat_sound.proofs.LogLaws.{each_once}
use Rattle.cat_sound.proofs.WellFormedParts.{ordered}
use Rattle.cat_sound.proofs.WellFormedCalls.{decls, x_in_t, t_items, t_defs, s_items, s_defs, y, depend, well_formed}

-- a scope that calls none
abbrev pub alone : List ItemDecl → List Def → List ℕ → Scoped
alone items defs order =
    scoped_of 0 items (body defs order) [] (λ scope input. stops Stuck)

abbrev pub function : Bool → ItemDecl
function condition =
    record {
      name = [];
      pos = at 5 12;
      kind = kind.Internal;
      ty = ty.Boolean;
      condition = condition;
      params =
          ty.Integer ∷ [];
    }

-- ---- a condition, and a function that is one, which both ask a function that has no value

abbrev asked : List ItemDecl
asked = function false ∷ sample.condition_item kind.Internal (at 6 9) ∷ function true ∷ []

abbrev of_function : ℕ → Expr → Def
of_function item e = record {
  target = sample.variable 0 item;
  label = None;
  except = except.No;
  condition = None;
  consequence = e;
  params = 1;
  pos = at 8 3;
}

abbrev asking : Scoped
asking = alone asked
    (def (sample.variable 0 1) None except.No None (expr.Call (at 7 23) 0 (whole 1 ∷ [])) (at 7 3)
    ∷ of_function 2 (expr.Call (at 8 23) 0 (leaf.Local (at 8 25) 0 ∷ [])) ∷ [])
    (0 ∷ 1 ∷ 2 ∷ [])

a_condition_meets_no_value :
    (item_value asking (0 ∷ []) (None ∷ None ∷ None ∷ []) 1 None
    (Some (sample.condition_item kind.Internal (at 6 9)))).end
    ≡ Err (NoValue (sample.variable 0 0) (at 5 12))
unfolding judge_target
a_condition_meets_no_value = search (rules, equations, value.the_lemmas)

a_function_meets_no_value : (call asking (None ∷ None ∷ None ∷ []) (2 ∷ 1 ∷ 0 ∷ []) 2 (flat.Integer (pos 1) ∷ [])).end
    ≡ Err (NoValue (sample.variable 0 0) (at 5 12))
unfolding judge_target
a_function_meets_no_value = search (rules, equations, value.the_lemmas)

-- ---- a run that ends in a value

abbrev pub fives : Scoped
fives = alone (n_in ∷ x_out ∷ []) (def x None except.No None (whole 5) (at 7 3) ∷ []) (0 ∷ 1 ∷ [])

abbrev pub three_given : Items
three_given = Some (flat.Integer (pos 3)) ∷ None ∷ []

pub it_is_five : (run_scoped fives three_given).end ≡ Ok (flat.Integer (pos 5) ∷ [])
unfolding judge_target
it_is_five = search (rules, equations, value.the_lemmas)

x_is_judged : JudgedAt fives three_given 1 1
x_is_judged = each_judged fives three_given (flat.Integer (pos 5) ∷ []) 1 1 it_is_five refl

-- ---- a function that another item calls

abbrev calling_items : List ItemDecl
calling_items = n_in ∷ sample.truth_item kind.Output (at 4 10) ∷ function false ∷ []

abbrev calling_defs : List Def
calling_defs =
    of_function 2 (expr.Binary (at 8 40) Greater (at 8 42) (leaf.Local (at 8 40) 0) (whole 0))
    ∷ def x None except.No None (expr.Call (at 9 23) 2 (n ∷ [])) (at 9 3) ∷ []

abbrev nothing_runs : Runs
nothing_runs scope input = stops Stuck

abbrev calling_body : Body
calling_body = body calling_defs (0 ∷ 2 ∷ 1 ∷ [])

abbrev calling : Scoped
calling = scoped_of 0 calling_items calling_body [] nothing_runs

in_order : IsOrder (item_dependencies calling_items calling_defs) (0 ∷ 2 ∷ 1 ∷ [])
unfolding order_of is_ready
in_order =
    ordered (item_dependencies calling_items calling_defs) ([] ∷ (2 ∷ 0 ∷ []) ∷ [] ∷ []) (0 ∷ 2 ∷ 1 ∷ [])
    (search (rules, namings)) refl

judged_by_the_rule : (values : Items) (arguments : List Value)
    → call calling values (backwards calling.order) 2 arguments
    ≡ variable_value (variable calling 2) (Some (function false))
    (judging_of calling (call calling values (backwards calling.order)) values arguments (variable calling 2))
judged_by_the_rule values arguments =
    by_rule 0 calling_items calling_body [] nothing_runs in_order values 2 arguments (omega arith)

nothing_behind_it : (values : Items) (arguments : List Value)
    → call calling values (backwards (0 ∷ 2 ∷ [])) 2 arguments ≡ call calling values
    (backwards calling.order) 2 arguments
nothing_behind_it values arguments =
    nothing_behind 0 calling_items calling_body [] nothing_runs in_order values values 2 2 arguments refl
    (λ item there. refl)

-- ---- S calls T: the targets of T don't stop, and those of S may

abbrev pub both_scopes : ℕ → Bool
both_scopes zero = true
both_scopes (suc zero) = true
both_scopes (suc (suc k)) = false

pub they_are_closed : IsClosed both_scopes decls calling_bodies
they_are_closed k inside =
    subst (λ (deps : List (List ℕ)). AllHave (λ s. IsTrue (both_scopes s)) (dependencies_of deps k)) (sym depend)
    (each k inside)
  where
    each : (k : ℕ) → IsTrue (both_scopes k)
        → AllHave (λ s. IsTrue (both_scopes s)) (dependencies_of ([] ∷ (0 ∷ []) ∷ []) k)
    each zero inside = tt
    each (suc zero) inside = (refl, tt)
    each (suc (suc k)) inside = not_true inside

abbrev is_behind_t : ℕ → Bool
is_behind_t zero = false
is_behind_t (suc k) = true

abbrev pub t_goes_on : Allowed
t_goes_on = record { may_stop = λ target. is_behind_t target.scope; may_decide = λ target by. true }

any_stands : (target : Target) (r : Result (Option (Held Value)) Stop) → MayStand t_goes_on target r
any_stands target (Ok found) = refl
any_stands target (Err stop) = tt

abbrev seven : Held Value
seven = record { number = 0; pos = at 10 3; value = flat.Integer (pos 7) }

seven_holds : (env : Env) (arguments : List Value)
    → (judge_target (λ e. eval env e arguments) (sample.variable 0 0) t_defs).end ≡ Ok (Some seven)
unfolding judge_target
seven_holds env arguments = search (rules, equations, value.the_lemmas)

seven_typed : Ended t_goes_on (IsHeldOf false decls ty.Integer) (Ok (Some seven))
seven_typed = of-Integer decls (pos 7) refl

t_is_settled : AreSettled t_goes_on (record { decls = decls; items = t_items }) 0 t_defs
t_is_settled env arguments zero None ps t target are stand =
    let ty_is : t ≡ ty.Integer =
    target.ty_is ∙ sym (ap (λ (i : ItemDecl). i.ty) (same_some x_in_t target.decl target.decl_is)) in
    record {
      ends = λ goes. subst (Ended t_goes_on (IsHeldOf false decls t)) (sym (seven_holds env arguments))
          (subst (λ u. Ended t_goes_on (IsHeldOf false decls u) (Ok (Some seven))) (sym ty_is) seven_typed);
      stands =
          λ none. any_stands (sample.variable 0 0)
          (judge_target (λ e. eval env e arguments) (sample.variable 0 0) t_defs).end;
    }
t_is_settled env arguments (suc item) None ps t target are stand = absurd (cc (target.decl_is))
t_is_settled env arguments zero (Some inner) ps t target are stand =
    let is_kind : kind.ContextOutput ≡ kind.Called target.scope = ap (λ (i : ItemDecl). i.kind)
    (same_some x_in_t target.called target.called_is) ∙ target.kind_is in
    absurd (cc (is_kind))
t_is_settled env arguments (suc item) (Some inner) ps t target are stand = absurd (cc (target.called_is))

s_may_stop : (items : List ItemDecl) (defs : List Def)
    → AreSettled t_goes_on (record { decls = decls; items = items }) 1 defs
s_may_stop items defs env arguments item inner ps t target are stand = record {
  ends = λ goes. absurd (true≢false goes);
  stands = λ none. any_stands (record { scope = 1; item = item; inner = inner })
      (judge_target (λ e. eval env e arguments) (record { scope = 1; item = item; inner = inner }) defs).end;
}

they_are_settled : ScopesSettled t_goes_on both_scopes decls calling_bodies
they_are_settled zero scope its_body inside is also =
    subst (λ (s : Scope). AreSettled t_goes_on (record { decls = decls; items = s.items }) 0 its_body.defs)
    (same_some (scope_of t_items) scope is)
    (subst (λ (b : Body). AreSettled t_goes_on (record { decls = decls; items = t_items }) 0 b.defs)
    (same_some (body t_defs (0 ∷ [])) its_body also)
    t_is_settled)
they_are_settled (suc zero) scope its_body inside is also = s_may_stop scope.items its_body.defs
they_are_settled (suc (suc k)) scope its_body inside is also = not_true inside

pub its_run_stops_in_s_alone : (input : Items) → IsWellTyped decls 1 input
    → EndsIn t_goes_on (AreOutputsOf decls s_items) (run_of decls.scopes calling_bodies (0 ∷ 1 ∷ []) 1 input)
its_run_stops_in_s_alone input typed =
    settled_programs t_goes_on both_scopes decls calling_bodies
    (0 ∷ 1 ∷ []) 1 input ∣ well_formed ∣₁ they_are_closed they_are_settled refl typed

-- ---- S calls T, and each variable of S is logged once

abbrev pub three_to_s : Items
three_to_s = Some (flat.Integer (pos 3)) ∷ None ∷ None ∷ []

it_gives_three : (run_of decls.scopes calling_bodies (0 ∷ 1 ∷ []) 1 three_to_s).end ≡ Ok (flat.Integer (pos 3) ∷ [])
unfolding run_of judge_target
it_gives_three = search (rules, equations, value.the_lemmas)

y_is_logged_once : times_logged (sample.variable 1 2)
    (run_of decls.scopes calling_bodies (0 ∷ 1 ∷ []) 1 three_to_s).log ≡ 1
y_is_logged_once =
    each_once decls calling_bodies (0 ∷ 1 ∷ []) ∣ well_formed ∣₁ 1 (scope_of s_items)
    (body_calling (0 ∷ []) s_defs (0 ∷ 1 ∷ 2 ∷ [])) three_to_s (flat.Integer (pos 3) ∷ []) 2 y
    refl refl refl refl refl it_gives_three
