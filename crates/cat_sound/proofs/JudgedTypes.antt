-- Variables and functions of a scope end in values of their types, where the scopes that it calls do.
use Rattle.std.proofs.Common.{◌≡◌, ℕ, Bool, true, false, ◌||◌, IsTrue, List, [], ◌∷◌, length}
use Rattle.std.proofs.Common.{Some, None, slice_get, refl, sym, ap, ◌∙◌, subst, if◌then◌else◌}
use Rattle.std.specs.Prelude.{nat_eq}
use Rattle.cat_value.specs.declared.ty.Ty.{Ty}
use Rattle.cat_value.specs.declared.value.Value.{Value}
use Rattle.cat_value.specs.declared.decls.Decls.{Decls}
use Rattle.cat_value.specs.declared.declaration.Kind.TheVariants as kind
use Rattle.cat_value.specs.declared.declaration.ItemDecl.{ItemDecl}
use Rattle.cat_scope.specs.Replies.{on_one, known, evaluated}
use Rattle.cat_scope.specs.Runs.{Run, plain}
use Rattle.cat_scope.specs.Names.{Names, AllHave, is_in}
use Rattle.cat_scope.specs.Naming.{IsFunction}
use Rattle.cat_scope.specs.Judging.{Judged}
use Rattle.cat_scope.specs.Targets.{absent, value_or}
use Rattle.cat_scope.specs.Eval.{Env}
use Rattle.cat_scope.specs.Composed.{part}
use Rattle.cat_scope.specs.Naming.{is_defined}
use Rattle.cat_scope.specs.Calls.{Items, Scoped, variable, env_of, judging_of}
use Rattle.cat_scope.specs.Calls.{variable_value}
use Rattle.cat_scope.specs.Calls.{call}
use Rattle.cat_sound.specs.Endings.{Allowed, EndsIn, IsOf, AreOf, IsReady}
use Rattle.cat_sound.specs.Settled.{IsHeldOf, empty_variable}
use Rattle.cat_sound.specs.Settled.{may_be_empty}
use Rattle.cat_sound.proofs.Results.{result_as}
use Rattle.cat_sound.proofs.Endings.{ends_as, ends_then}
use Rattle.cat_sound.proofs.FormTypes.{same_number, not_true}
use Rattle.cat_sound.proofs.TargetTypes.{all_more, all_at, absent-ends, value_or-ends}
use Rattle.cat_sound.proofs.OrderFacts.{in_at, behind_first, Behind}
use Rattle.cat_sound.proofs.InputTypes.{Placed, condition_type, function_defined}
use Rattle.cat_sound.proofs.ScopeParts.{DoneAt, IsSound, JudgingEnds, names_of}

module _ (allowed : Allowed) (ds : Decls) (scoped : Scoped) (needs : ℕ → List ℕ)
    (sound : IsSound allowed ds scoped needs) where
  abbrev ns : Names
  ns = names_of ds scoped

  abbrev Calls : Type 0
  Calls = ℕ → List Value → Run Value

  abbrev env : Calls → Items → Env
  env calls values = env_of scoped calls values

  module _ (calls : Calls) (values : Items) (arguments : List Value) where
    -- the value of a variable or a function, by a judging that ends so
    pub variable_value-ends : (item : ℕ) (decl : ItemDecl) (judging : Judged Value)
        → slice_get scoped.items item ≡ Some decl
        → EndsIn allowed (IsHeldOf (allowed.may_stop (variable scoped item) || may_be_empty ns item None) ds decl.ty)
        judging
        → EndsIn allowed (IsOf ds decl.ty) (variable_value (variable scoped item) (Some decl) judging)
    variable_value-ends item decl judging is ends =
        ends_then allowed (IsHeldOf (allowed.may_stop (variable scoped item) || decl.condition) ds decl.ty)
        (IsOf ds decl.ty) judging
        (λ found. plain (value_or (absent (variable scoped item) decl.pos decl.condition) found))
        (subst (λ b. EndsIn allowed (IsHeldOf (allowed.may_stop (variable scoped item) || b) ds decl.ty) judging)
        (ap empty_variable is) ends)
        (λ found holds. (
          tt,
          value_or-ends allowed ds decl.ty (allowed.may_stop (variable scoped item) || decl.condition)
              (absent (variable scoped item) decl.pos decl.condition) found
              (absent-ends allowed ds decl.ty (variable scoped item) decl.pos decl.condition
              (condition_type decl (all_at Placed scoped.items item decl sound.placed is))) holds,
        ))

    pub own-judging_of : (item : ℕ) (decl : ItemDecl) → slice_get scoped.items item ≡ Some decl
        → IsTrue (is_defined decl)
        → AreOf ds decl.params arguments → AllHave (IsReady allowed ns (env calls values)) (needs item)
        → JudgingEnds allowed ds scoped calls values arguments item None decl.params decl.ty
    own-judging_of item decl is defined are ready =
        sound.judged calls values arguments item None decl.params decl.ty
        (record { decl = decl; decl_is = is; defined = defined; params_are = refl; ty_is = refl }) are ready

  -- ---- functions

  abbrev FunctionEnds : Items → List ℕ → ℕ → Type 0
  FunctionEnds values before f =
      (ps : List Ty) (t : Ty) (vs : List Value) → IsFunction ns f ps t → AreOf ds ps vs → EndsIn allowed (IsOf ds t)
      (call scoped values before f vs)

  ready-of : (values : Items) (before : List ℕ) → AllHave (DoneAt ns values) before
      → ((f : ℕ) → IsTrue (is_in f before) → FunctionEnds values before f) → (k : ℕ) → IsTrue (is_in k before)
      → IsReady allowed ns (env (call scoped values before) values) k
  ready-of values before h go k there =
      let at = in_at (DoneAt ns values) before k h there in
      record {
        variable =
            λ t is. result_as (IsOf ds t) (evaluated (slice_get values k)) (known at.value) (ap evaluated at.there)
            (at.is.variable t is);
        output =
            λ n t is. result_as (IsOf ds t) (on_one (evaluated (slice_get values k)) (part n))
            (on_one (known at.value) (part n)) (ap (λ o. on_one (evaluated o) (part n)) at.there) (at.is.output n t is);
        function = λ ps t vs is are. go k there ps t vs is are;
      }

  calls-end : (values : Items) (before : List ℕ) → Behind (length scoped.items) needs before
      → AllHave (DoneAt ns values) before → (f : ℕ) → IsTrue (is_in f before) → FunctionEnds values before f
  calls-end values [] behind h f there = not_true there
  calls-end values (item ∷ before) behind h f there =
      by (nat_eq item f) refl (calls-end values before behind.2 h.1)
    where
      by : (b : Bool) → nat_eq item f ≡ b → ((g : ℕ) → IsTrue (is_in g before) → FunctionEnds values before g)
          → FunctionEnds values (item ∷ before) f
      by true e rest ps t vs is are =
          let here : slice_get scoped.items item ≡ Some is.decl = ap (slice_get scoped.items) (same_number item f e)
          ∙ is.decl_is in
          let ready = all_more (λ k. IsTrue (is_in k before))
          (IsReady allowed ns (env (call scoped values before) values)) (needs item) behind.1
          (ready-of values before h.1 rest) in
          ends_as allowed (IsOf ds t) (call scoped values (item ∷ before) f vs)
          (variable_value (variable scoped item) (Some is.decl) judging)
          (ap (λ b. if b then variable_value (variable scoped item)
          (slice_get scoped.items item) judging else call scoped values before f vs) e
          ∙ ap (λ o. variable_value (variable scoped item) o judging) here)
          (subst (λ u. EndsIn allowed (IsOf ds u) (variable_value (variable scoped item) (Some is.decl) judging))
          (sym is.ty_is)
          (variable_value-ends (call scoped values before) values vs item is.decl judging here
          (own-judging_of (call scoped values before) values vs item is.decl here
          (function_defined is.decl (all_at Placed scoped.items item is.decl sound.placed here) is.function)
          (subst (λ us. AreOf ds us vs) is.params_are are) ready).ends))
        where
          judging : Judged Value
          judging = judging_of scoped (call scoped values before) values vs (variable scoped item)
      by false e rest ps t vs is are =
          ends_as allowed (IsOf ds t) (call scoped values (item ∷ before) f vs) (call scoped values before f vs)
          (ap (λ b. if b then variable_value (variable scoped item) (slice_get scoped.items item)
          (judging_of scoped (call scoped values before) values vs (variable scoped item)) else
          call scoped values before f
          vs) e)
          (rest f (behind_first item f before e there) ps t vs is are)

  pub ready : (values : Items) (before : List ℕ) → Behind (length scoped.items) needs before
      → AllHave (DoneAt ns values) before → (k : ℕ) → IsTrue (is_in k before)
      → IsReady allowed ns (env (call scoped values before) values) k
  ready values before behind h k there = ready-of values before h (calls-end values before behind h) k there
