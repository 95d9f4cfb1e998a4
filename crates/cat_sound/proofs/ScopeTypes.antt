-- Items of a scope end in values of their types, where the scopes that it calls do.
use Rattle.std.proofs.Common.{◌≡◌, ℕ, ◌+◌, false, ◌||◌, not, IsTrue, List, [], ◌∷◌, length, Option}
use Rattle.std.proofs.Common.{Some, None, slice_get, refl, sym, ap, ◌∙◌, subst, arith, true≢false}
use Rattle.cat_value.specs.declared.ty.Ty.{Ty}
use Rattle.cat_value.specs.declared.value.Value.{Value}
use Rattle.cat_value.specs.declared.value.Value.TheViews as value
use Rattle.cat_value.specs.declared.decls.Decls.{Decls}
use Rattle.cat_value.specs.declared.declaration.Kind.TheVariants as kind
use Rattle.cat_value.specs.declared.declaration.ItemDecl.{ItemDecl}
use Rattle.cat_value.specs.Inputs.{must_be_given, may_be_given, are_given_for, outputs_in}
use Rattle.cat_scope.specs.Replies.{on_one, known}
use Rattle.cat_scope.specs.Runs.{gives, and_then}
use Rattle.cat_scope.specs.Projections.{parts_in}
use Rattle.cat_scope.specs.Names.{Names, AllHave, is_in, items_in, scope_items, output_at, is_called}
use Rattle.cat_scope.specs.Names.{has_none}
use Rattle.cat_scope.specs.Naming.{IsCalledOutput}
use Rattle.cat_scope.specs.Judging.{Judged, decided}
use Rattle.cat_scope.specs.Composed.{part}
use Rattle.cat_scope.specs.Calls.{Items, Scoped, variable, variable_of_called, items_of, env_of, judging_of}
use Rattle.cat_scope.specs.Calls.{variable_value}
use Rattle.cat_scope.specs.Calls.{call}
use Rattle.cat_scope.specs.ItemValues.{passed_input, called_value, defined_value}
use Rattle.cat_sound.specs.Endings.{Allowed, EndsIn, ResultsIn, IsOf, AreOf, AreOutputsOf, IsReady}
use Rattle.cat_sound.specs.Settled.{IsHeldOf, empty_input}
use Rattle.cat_sound.specs.Settled.{items_of_kind, items_called, may_be_empty}
use Rattle.cat_sound.proofs.Results.{both, and_both, result_as}
use Rattle.cat_sound.proofs.Endings.{ends_then}
use Rattle.cat_sound.proofs.FormTypes.{same_some}
use Rattle.cat_sound.proofs.TargetTypes.{all_more}
use Rattle.cat_sound.proofs.TargetTypes.{decided-ends}
use Rattle.cat_sound.proofs.OrderFacts.{AllIn, Behind}
use Rattle.cat_sound.proofs.InputTypes.{output-ends, Callee, passed_input-ends}
use Rattle.cat_sound.proofs.ScopeParts.{DoneAt, IsDone, IsSound, called_is, inner_target, names_of, not_both}
use Rattle.cat_sound.proofs.ScopeParts.{same_called}
use Rattle.cat_sound.proofs.JudgedTypes.{own-judging_of, ready, variable_value-ends}

module _ (allowed : Allowed) (ds : Decls) (scoped : Scoped) (needs : ℕ → List ℕ)
    (sound : IsSound allowed ds scoped needs) where
  abbrev ns : Names
  ns = names_of ds scoped

  -- ---- items

  module _ (item : ℕ) (decl : ItemDecl) (at : slice_get scoped.items item ≡ Some decl) where
    decl_is : (i : ItemDecl) → slice_get scoped.items item ≡ Some i → i ≡ decl
    decl_is i is = same_some i decl (sym is ∙ at)

    no_output : {A : Type 0} → is_called decl.kind ≡ false → (k : ℕ) (t : Ty) → IsCalledOutput ns item k t → A
    no_output free k t is = absurd
        (true≢false (sym (called_is is.called.kind is.scope is.kind_is) ∙ ap (λ (i : ItemDecl). is_called i.kind)
        (decl_is is.called is.called_is) ∙ free))

    pub evaluated-variable : (v : Value) → is_called decl.kind ≡ false → IsOf ds decl.ty v → IsDone ns item (Some v)
    evaluated-variable v free typed = record {
      variable = λ t is. subst (λ u. IsOf ds u v) (sym (is.3 ∙ ap (λ (i : ItemDecl). i.ty) (decl_is is.0 is.1))) typed;
      output = λ k t is. no_output free k t is;
    }

    pub evaluated-function : (o : Option Value) → is_called decl.kind ≡ false → has_none decl.params ≡ false
        → IsDone ns item o
    evaluated-function o free some = record {
      variable =
          λ t is. absurd (true≢false
          (sym (both (not (is_called is.0.kind)) (has_none is.0.params) is.2).1 ∙ ap
          (λ (i : ItemDecl). has_none i.params) (decl_is is.0 is.1) ∙ some));
      output = λ k t is. no_output free k t is;
    }

    pub evaluated-called : (s : ℕ) (outputs : List Value) (callee : Callee allowed ds scoped.runs s)
        → decl.kind ≡ kind.Called s
        → AreOutputsOf ds callee.scope.items outputs → IsDone ns item (Some (value.Structure outputs))
    evaluated-called s outputs callee is_kind are = record {
      variable =
          λ t is. absurd (not_both (is_called is.0.kind)
          (both (not (is_called is.0.kind)) (has_none is.0.params) is.2).0
          (ap (λ (i : ItemDecl). is_called i.kind) (decl_is is.0 is.1) ∙ called_is decl.kind s is_kind));
      output = λ k t is.
          let scope_is : is.scope ≡ s =
          same_called is.scope s
          (sym is.kind_is ∙ ap (λ (i : ItemDecl). i.kind) (decl_is is.called is.called_is) ∙ is_kind) in
          let there : slice_get (outputs_in callee.scope.items) k ≡ Some is.output =
          sym (ap (λ o. slice_get (outputs_in (items_in o)) k) callee.there) ∙ sym
          (ap (λ x. output_at ds x k) scope_is) ∙ is.output_is in
          result_as (IsOf ds t) (part k (value.Structure outputs)) (known (slice_get outputs k))
          (ap (λ r. on_one r (λ vs. known (slice_get vs k))) (ap parts_in (value.outs-Structure outputs)))
          (subst (λ u. ResultsIn (IsOf ds u) (known (slice_get outputs k))) (sym is.ty_is)
          (output-ends ds callee.scope.items outputs k is.output are there));
    }

    module _ (values : Items) (before : List ℕ) (behind : Behind (length scoped.items) needs before)
        (h : AllHave (DoneAt ns values) before) (have : AllIn before (needs item)) where
      readies : AllHave (IsReady allowed ns (env_of scoped (call scoped values before) values)) (needs item)
      readies =
          all_more (λ k. IsTrue (is_in k before))
          (IsReady allowed ns (env_of scoped (call scoped values before) values))
          (needs item) have (ready allowed ds scoped needs sound values before behind h)

      pub defined-ends : (ps : List Ty) → decl.params ≡ ps → is_called decl.kind ≡ false
          → IsTrue (not (must_be_given decl.kind))
          → EndsIn allowed (IsDone ns item) (defined_value scoped before values item decl ps)
      defined-ends [] e free open_one =
          let judging = own-judging_of allowed ds scoped needs sound (call scoped values before) values [] item decl at
          (and_both _ _ (ap not free) open_one) (subst (λ us. AreOf ds us []) (sym e) tt) readies in
          ends_then allowed (IsOf ds decl.ty) (IsDone ns item)
          (variable_value (variable scoped item) (Some decl)
          (decided (variable scoped item)
          (judging_of scoped (call scoped values before) values [] (variable scoped item)))) _
          (variable_value-ends allowed ds scoped needs sound (call scoped values before) values [] item decl
          (decided (variable scoped item) (judging_of scoped (call scoped values before) values []
          (variable scoped item)))
          at
          (decided-ends allowed
          (IsHeldOf (allowed.may_stop (variable scoped item) || may_be_empty ns item None) ds decl.ty)
          (variable scoped item)
          (judging_of scoped (call scoped values before) values [] (variable scoped item)) judging.ends
          (judging.stands e)))
          (λ v hv. (tt, evaluated-variable v free hv))
      defined-ends (t ∷ ts) e free open_one = (tt, evaluated-function None free (ap has_none e))

      abbrev judged_at : ℕ → Judged Value
      judged_at n = judging_of scoped (call scoped values before) values [] (variable_of_called scoped item n)

      pub called-ends : (s : ℕ) → decl.kind ≡ kind.Called s → Callee allowed ds scoped.runs s
          → EndsIn allowed (IsDone ns item)
          (and_then (called_value scoped before values item decl s) (λ v. gives (Some v)))
      called-ends s is_kind callee =
          let here : items_of scoped s ≡ callee.scope.items = ap items_in
          (ap (λ ss. slice_get ss s) sound.scopes ∙ callee.there) in
          ends_then allowed (λ v. IsDone ns item (Some v)) (IsDone ns item)
          (called_value scoped before values item decl s) _
          (ends_then allowed (λ input. IsTrue (are_given_for ds callee.scope.items input))
          (λ v. IsDone ns item (Some v))
          (passed_input judged_at (variable_of_called scoped item) decl.pos 0 (items_of scoped s)) _
          (subst (λ xs. EndsIn allowed (λ input. IsTrue (are_given_for ds callee.scope.items input))
          (passed_input judged_at (variable_of_called scoped item) decl.pos 0 xs)) (sym here)
          (passed_input-ends allowed ds judged_at
          (variable_of_called scoped item) decl.pos 0 callee.scope.items callee.placed
          (λ j i is may. subst
          (λ b. EndsIn allowed (IsHeldOf (allowed.may_stop (variable_of_called scoped item (0 + j)) || b) ds i.ty)
          (decided (variable_of_called scoped item (0 + j)) (judged_at (0 + j))))
          (ap empty_input (ap (λ o. slice_get (items_called ds o) (0 + j)) at ∙ ap
          (λ k. slice_get (items_of_kind ds k) (0 + j)) is_kind ∙ ap (λ o. slice_get (items_in o) (0 + j)) callee.there
          ∙ ap (slice_get callee.scope.items) (zero_plus j) ∙ is))
          (inner-decided j i (ap (λ o. slice_get (items_in o) (0 + j)) callee.there ∙ ap (slice_get callee.scope.items)
          (zero_plus j) ∙ is) may))))
          (λ input typed. ends_then allowed (AreOutputsOf ds callee.scope.items) (λ v. IsDone ns item (Some v))
          (scoped.runs s input) _ (callee.ends input typed)
          (λ outputs are. (tt, evaluated-called s outputs callee is_kind are))))
          (λ v hv. (tt, hv))
        where
          inner-decided : (j : ℕ) (i : ItemDecl) → slice_get (scope_items ds s) (0 + j) ≡ Some i
              → IsTrue (may_be_given i.kind)
              → EndsIn allowed (IsHeldOf
              (allowed.may_stop (variable_of_called scoped item (0 + j)) || may_be_empty ns item (Some (0 + j))) ds
              i.ty) (decided (variable_of_called scoped item (0 + j)) (judged_at (0 + j)))
          inner-decided j i is may =
              let inner = inner_target ns item decl s (0 + j) i at is_kind is may in
              let judging = sound.judged (call scoped values before) values [] item
              (Some (0 + j)) [] i.ty inner tt readies in
              decided-ends allowed
              (IsHeldOf (allowed.may_stop (variable_of_called scoped item (0 + j)) || may_be_empty ns item
              (Some (0 + j))) ds i.ty) (variable_of_called scoped item (0 + j)) (judged_at (0 + j)) judging.ends
              (judging.stands refl)

          zero_plus : (j : ℕ) → 0 + j ≡ j
          zero_plus j = omega arith
