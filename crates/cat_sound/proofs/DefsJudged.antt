-- Targets of definitions end in values of their types, where what the definitions name does.
use Rattle.std.proofs.Common.{◌≡◌, ℕ, Bool, true, false, ◌||◌, IsTrue, List, [], ◌∷◌, ◌++◌, Option}
use Rattle.std.proofs.Common.{Some, None, refl, sym, ◌∙◌, subst, true≢false, if◌then◌else◌}
use Rattle.std.specs.Prelude.{nat_eq}
use Rattle.cat_value.specs.declared.ty.Ty.{Ty}
use Rattle.cat_value.specs.declared.ty.Ty.TheVariants as flat_ty
use Rattle.cat_value.specs.declared.value.Value.{Value}
use Rattle.cat_value.specs.declared.decls.Decls.{Decls}
use Rattle.cat_value.specs.declared.declaration.ItemDecl.{ItemDecl}
use Rattle.cat_value.specs.declared.declaration.Scope.{Scope}
use Rattle.cat_scope.specs.declared.expr.Expr.{Expr}
use Rattle.cat_scope.specs.declared.defs.Def.{Def}
use Rattle.cat_scope.specs.declared.defs.Body.{Body}
use Rattle.cat_scope.specs.Runs.{Run}
use Rattle.cat_scope.specs.Names.{Names, AllHave}
use Rattle.cat_scope.specs.Targets.{same_inner, same_target, condition_of}
use Rattle.cat_scope.specs.Eval.{Env, eval}
use Rattle.cat_scope.specs.Orders.{in_condition, in_def, in_defs_of}
use Rattle.cat_scope.specs.Mentions.{items_named, scopes_named}
use Rattle.cat_scope.specs.WellFormed.{ConditionTyped, DefTyped}
use Rattle.cat_scope.specs.Naming.{IsTargetAt}
use Rattle.cat_scope.specs.Calls.{Items, Runs, Scoped, env_of, judging_of}
use Rattle.cat_scope.specs.Running.{scoped_of}
use Rattle.cat_sound.specs.Endings.{Allowed, Ended, EndsIn, IsOf, AreOf, IsReady}
use Rattle.cat_sound.specs.Endings.{IsEnvOf}
use Rattle.cat_scope.specs.HasType.{HasType}
use Rattle.cat_sound.specs.Settled.{AreSettled, IsHeldOf, InCondition, StandsIn}
use Rattle.cat_sound.specs.Settled.{may_be_empty}
use Rattle.cat_sound.proofs.Results.{both, all_front, all_back}
use Rattle.cat_sound.proofs.Endings.{all_stop, loosened}
use Rattle.cat_sound.proofs.FormTypes.{same_number}
use Rattle.cat_sound.proofs.TargetTypes.{DefEnds, all_more, judge_target-ends}
use Rattle.cat_sound.proofs.InputTypes.{Callee}
use Rattle.cat_sound.proofs.ScopeParts.{JudgingEnds, callable, inner_is, names_of, target_of}
use Rattle.cat_sound.proofs.ScopeParts.{stands_end, unique_target}

module _ (allowed : Allowed) (ds : Decls) (number : ℕ) (items : List ItemDecl) (body : Body) (scopes : List Scope)
    (runs : Runs) where
  abbrev scoped : Scoped
  scoped = scoped_of number items body scopes runs

  abbrev ns : Names
  ns = names_of ds scoped

  abbrev needs : ℕ → List ℕ
  needs item = in_defs_of items_named item body.defs

  abbrev Calls : Type 0
  Calls = ℕ → List Value → Run Value

  abbrev env : Calls → Items → Env
  env calls values = env_of scoped calls values

  module _ (same_scopes : scopes ≡ ds.scopes) (typed : AllHave (DefTyped ns number) body.defs)
      (def_calls : AllHave (λ d. AllHave (Callee allowed ds runs) (in_def scopes_named d)) body.defs)
      (settled : AreSettled allowed ns number body.defs) (calls : Calls) (values : Items)
      (arguments : List Value) where
    abbrev of : Expr → Run Value
    of e = eval (env calls values) e arguments

    condition-stands : (o : Option Expr) → AllHave (IsReady allowed ns (env calls values)) (in_condition items_named o)
        → AllHave (Callee allowed ds runs) (in_condition scopes_named o)
        → InCondition (IsEnvOf allowed ns (env calls values)) o
    condition-stands None ready callees = tt
    condition-stands (Some e) ready callees =
        record { items = ready; scopes = callable allowed ds scoped same_scopes calls values (scopes_named e) callees }

    def-stands : (item : ℕ) (inner : Option ℕ) (ps : List Ty) (t : Ty) → IsTargetAt ns item inner ps t → (d : Def)
        → DefTyped ns number d
        → IsTrue (same_target d.target (record { scope = number; item = item; inner = inner })) → AllHave
        (IsReady allowed ns (env calls values)) (in_def items_named d)
        → AllHave (Callee allowed ds runs) (in_def scopes_named d) → StandsIn allowed ns
        (env calls values) ps t d
    def-stands item inner ps t target d is_typed same ready callees =
        let two = both (nat_eq d.target.item item) (same_inner d.target.inner inner) same in
        let own : IsTargetAt ns item inner is_typed.params is_typed.ty =
        subst (λ o. IsTargetAt ns item o is_typed.params is_typed.ty) (inner_is d.target.inner inner two.1)
        (subst (λ (i : ℕ). IsTargetAt ns i d.target.inner is_typed.params is_typed.ty)
        (same_number d.target.item item two.0) is_typed.target) in
        let unique = unique_target ns item inner is_typed.params ps is_typed.ty t own target in
        record {
          condition = subst (λ us. ConditionTyped ns us d.condition) unique.0 is_typed.condition;
          consequence =
              subst (λ u. HasType ns ps d.consequence u) unique.1
              (subst (λ us. HasType ns us d.consequence is_typed.ty) unique.0 is_typed.consequence);
          condition_env = condition-stands d.condition
              (all_front (IsReady allowed ns (env calls values)) (in_condition items_named d.condition)
              (items_named d.consequence) ready)
              (all_front (Callee allowed ds runs) (in_condition scopes_named d.condition)
              (scopes_named d.consequence) callees);
          consequence_env = record {
            items =
                all_back (IsReady allowed ns (env calls values)) (in_condition items_named d.condition)
                (items_named d.consequence) ready;
            scopes =
                callable allowed ds scoped same_scopes calls values (scopes_named d.consequence)
                (all_back (Callee allowed ds runs) (in_condition scopes_named d.condition)
                (scopes_named d.consequence) callees);
          };
        }

    defs-stand : (item : ℕ) (inner : Option ℕ) (ps : List Ty) (t : Ty) → IsTargetAt ns item inner ps t
        → (defs : List Def) → AllHave (DefTyped ns number) defs
        → AllHave (λ d. AllHave (Callee allowed ds runs) (in_def scopes_named d)) defs → AllHave
        (IsReady allowed ns (env calls values)) (in_defs_of items_named item defs)
        → AllHave (λ d. IsTrue (same_target d.target (record { scope = number; item = item; inner = inner }))
        → StandsIn allowed ns (env calls values) ps t d) defs
    defs-stand item inner ps t target [] all_typed callees ready = tt
    defs-stand item inner ps t target (d ∷ defs) all_typed callees ready =
        by (nat_eq d.target.item item) refl ready (defs-stand item inner ps t target defs all_typed.1 callees.1)
      where
        by : (b : Bool) → nat_eq d.target.item item ≡ b
            → AllHave (IsReady allowed ns (env calls values))
            (if b then in_def items_named d ++ in_defs_of items_named item defs else in_defs_of items_named item defs)
            → (AllHave (IsReady allowed ns (env calls values)) (in_defs_of items_named item defs)
            → AllHave (λ d. IsTrue (same_target d.target (record { scope = number; item = item; inner = inner }))
            → StandsIn allowed ns (env calls values) ps t d) defs)
            → AllHave (λ d. IsTrue (same_target d.target (record { scope = number; item = item; inner = inner }))
            → StandsIn allowed ns (env calls values) ps t d) (d ∷ defs)
        by true e h rest = (
          (λ same. def-stands item inner ps t target d all_typed.0 same
              (all_front (IsReady allowed ns (env calls values)) (in_def items_named d)
              (in_defs_of items_named item defs) h) callees.0),
          rest (all_back (IsReady allowed ns (env calls values)) (in_def items_named d)
              (in_defs_of items_named item defs) h),
        )
        by false e h rest = (
          (λ same. absurd (true≢false
              (sym (both (nat_eq d.target.item item) (same_inner d.target.inner inner) same).0 ∙ e))),
          rest h,
        )

    pub defs-judged : (item : ℕ) (inner : Option ℕ) (ps : List Ty) (t : Ty) → IsTargetAt ns item inner ps t
        → AreOf ds ps arguments → AllHave (IsReady allowed ns (env calls values)) (needs item)
        → JudgingEnds allowed ds scoped calls values arguments item inner ps t
    defs-judged item inner ps t target are ready =
        let is_settled = settled (env calls values) arguments item inner ps t target are stand in
        record {
          ends = by (allowed.may_stop (target_of scoped item inner)) refl is_settled.ends;
          stands = is_settled.stands;
        }
      where
        stand : AllHave (λ d. IsTrue (same_target d.target (target_of scoped item inner))
            → StandsIn allowed ns (env calls values) ps t d) body.defs
        stand = defs-stand item inner ps t target body.defs typed def_calls ready

        -- where every target may stop
        free : EndsIn (all_stop allowed) (IsHeldOf true ds t)
            (judging_of scoped calls values arguments (target_of scoped item inner))
        free =
            judge_target-ends (all_stop allowed) ds t of (target_of scoped item inner) refl body.defs
            (all_more (λ d. IsTrue (same_target d.target (target_of scoped item inner)) → StandsIn allowed ns
            (env calls values) ps t d)
            (λ d. IsTrue (same_target d.target (target_of scoped item inner)) → DefEnds (all_stop allowed) ds t of d)
            body.defs stand
            (λ d stands same. def-loosened d
            (stands_end allowed ns (env calls values) ps t arguments are d (stands same))))
          where
            def-loosened : (d : Def) → DefEnds allowed ds t of d → DefEnds (all_stop allowed) ds t of d
            def-loosened d h = record {
              condition = loosened allowed (IsOf ds flat_ty.Boolean) (condition_of of d.condition) h.condition;
              consequence = loosened allowed (IsOf ds t) (of d.consequence) h.consequence;
            }

        by : (b : Bool) → allowed.may_stop (target_of scoped item inner) ≡ b
            → (allowed.may_stop (target_of scoped item inner) ≡ false → Ended allowed
            (IsHeldOf (may_be_empty ns item inner) ds t)
            (judging_of scoped calls values arguments (target_of scoped item inner)).end)
            → EndsIn allowed (IsHeldOf (b || may_be_empty ns item inner) ds t)
            (judging_of scoped calls values arguments (target_of scoped item inner))
        by true e ended =
            judge_target-ends allowed ds t of (target_of scoped item inner) e body.defs
            (all_more (λ d. IsTrue (same_target d.target (target_of scoped item inner)) → StandsIn allowed ns
            (env calls values) ps t d)
            (λ d. IsTrue (same_target d.target (target_of scoped item inner)) → DefEnds allowed ds t of d) body.defs
            stand
            (λ d stands same. stands_end allowed ns (env calls values) ps t arguments are d (stands same)))
        by false e ended = (free.0, ended e)
