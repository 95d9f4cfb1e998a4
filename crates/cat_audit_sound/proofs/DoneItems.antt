-- What each item of a scope comes to is of its type, where the items before it are done.
use Rattle.std.proofs.Common.{◌≡◌, ℕ, ◌+◌, false, true, not, IsTrue, List, [], ◌∷◌, length, Option}
use Rattle.std.proofs.Common.{Some, None, slice_get, refl, sym, ap, ◌∙◌, subst, arith}
use Rattle.cat_value.specs.declared.ty.Ty.{Ty}
use Rattle.cat_value.specs.declared.value.Value.{Value}
use Rattle.cat_value.specs.declared.decls.Decls.{Decls}
use Rattle.cat_value.specs.declared.declaration.Kind.{Kind}
use Rattle.cat_value.specs.declared.declaration.Kind.TheVariants as kind
use Rattle.cat_value.specs.declared.declaration.ItemDecl.{ItemDecl}
use Rattle.cat_value.specs.Inputs.{must_be_given, may_be_given, is_given_for, are_given_for}
use Rattle.cat_scope.specs.Runs.{plain, gives, and_then}
use Rattle.cat_scope.specs.Names.{Names, AllHave, is_in, items_in, scope_items, is_called}
use Rattle.cat_scope.specs.Names.{has_none}
use Rattle.cat_scope.specs.Judging.{Judged, decided}
use Rattle.cat_scope.specs.Targets.{absent, value_or}
use Rattle.cat_scope.specs.Calls.{Items, Scoped, variable, variable_of_called, items_of, env_of, judging_of}
use Rattle.cat_scope.specs.Calls.{variable_value, call}
use Rattle.cat_scope.specs.ItemValues.{passed_input, called_value, defined_value, ungiven_value, item_value}
use Rattle.cat_sound.specs.Endings.{IsOf, AreOf, AreOutputsOf, IsReady}
use Rattle.cat_sound.specs.Settled.{IsHeldOf}
use Rattle.cat_sound.proofs.Exported.{AllIn, Behind, Callee, IsSound, all_more, anything, names_of}
use Rattle.cat_sound.proofs.Exported.{DoneAt, IsDone, callee_at, evaluated-called, evaluated-function}
use Rattle.cat_sound.proofs.Exported.{evaluated-variable, free_of_may, ready}
use Rattle.cat_audit_sound.proofs.RunValues.{both, and_both, IfGives, if_then, if_ended}
use Rattle.cat_audit_sound.proofs.PassedTypes.{value_ends, if_decided, passed_input_typed}
use Rattle.cat_audit_sound.proofs.ReadyItems.{own_judged}
use Rattle.cat_sound.proofs.Exported.{Placed, all_at, inner_target}

module _ (ds : Decls) (scoped : Scoped) (needs : ℕ → List ℕ) (sound : IsSound anything ds scoped needs) where
  abbrev ns : Names
  ns = names_of ds scoped

  module _ (item : ℕ) (decl : ItemDecl) (at : slice_get scoped.items item ≡ Some decl) where
    module _ (values : Items) (before : List ℕ) (behind : Behind (length scoped.items) needs before)
        (h : AllHave (DoneAt ns values) before) (have : AllIn before (needs item)) where
      readies : AllHave (IsReady anything ns (env_of scoped (call scoped values before) values)) (needs item)
      readies =
          all_more (λ k. IsTrue (is_in k before))
          (IsReady anything ns (env_of scoped (call scoped values before) values))
          (needs item) have (ready anything ds scoped needs sound values before behind h)

      defined_done : (ps : List Ty) → decl.params ≡ ps → is_called decl.kind ≡ false
          → IsTrue (not (must_be_given decl.kind))
          → IfGives (defined_value scoped before values item decl ps) (IsDone ns item)
      defined_done [] e free open_one =
          let judging = judging_of scoped (call scoped values before) values [] (variable scoped item) in
          let ends = own_judged ds scoped needs sound (call scoped values before) values [] item decl at
          (and_both _ _ (ap not free) open_one) (subst (λ us. AreOf ds us []) (sym e) tt) readies in
          if_then (IsOf ds decl.ty) (IsDone ns item)
          (variable_value (variable scoped item) (Some decl) (decided (variable scoped item) judging)) _
          (if_then (IsHeldOf true ds decl.ty) (IsOf ds decl.ty) (decided (variable scoped item) judging)
          (λ found. plain (value_or (absent (variable scoped item) decl.pos decl.condition) found))
          (if_decided (IsHeldOf true ds decl.ty) (variable scoped item) judging
          (if_ended anything (IsHeldOf true ds decl.ty) judging.end ends.1))
          (λ found holds. if_ended anything (IsOf ds decl.ty)
          (value_or (absent (variable scoped item) decl.pos decl.condition) found)
          (value_ends ds (variable scoped item) decl.pos decl (all_at Placed scoped.items item decl sound.placed at)
          found holds)))
          (λ v typed. evaluated-variable anything ds scoped needs sound item decl at v free typed)
      defined_done (t ∷ ts) e free open_one =
          evaluated-function anything ds scoped needs sound item decl at None free (ap has_none e)

      abbrev judged_at : ℕ → Judged Value
      judged_at n = judging_of scoped (call scoped values before) values [] (variable_of_called scoped item n)

      called_gives : (s : ℕ) → decl.kind ≡ kind.Called s → Callee anything ds scoped.runs s
          → IfGives (and_then (called_value scoped before values item decl s) (λ v. gives (Some v))) (IsDone ns item)
      called_gives s is_kind callee =
          let here : items_of scoped s ≡ callee.scope.items = ap items_in
          (ap (λ ss. slice_get ss s) sound.scopes ∙ callee.there) in
          if_then (λ v. IsDone ns item (Some v)) (IsDone ns item) (called_value scoped before values item decl s) _
          (if_then (λ input. IsTrue (are_given_for ds callee.scope.items input)) (λ v. IsDone ns item (Some v))
          (passed_input judged_at (variable_of_called scoped item) decl.pos 0 (items_of scoped s)) _
          (subst (λ xs. IfGives (passed_input judged_at (variable_of_called scoped item) decl.pos 0 xs)
          (λ input. IsTrue (are_given_for ds callee.scope.items input))) (sym here)
          (passed_input_typed ds judged_at (variable_of_called scoped item) decl.pos 0 callee.scope.items callee.placed
          (λ j i is may. inner_judged (0 + j) i (ap (λ o. slice_get (items_in o) (0 + j)) callee.there
          ∙ ap (slice_get callee.scope.items) (zero_plus j) ∙ is) may)))
          (λ input typed. if_then (AreOutputsOf ds callee.scope.items) (λ v. IsDone ns item (Some v))
          (scoped.runs s input) _
          (if_ended anything (AreOutputsOf ds callee.scope.items) (scoped.runs s input).end
          (callee.ends input typed).1)
          (λ outputs are. evaluated-called anything ds scoped needs sound item decl at s outputs callee is_kind are)))
          (λ v done. done)
        where
          zero_plus : (j : ℕ) → 0 + j ≡ j
          zero_plus j = omega arith

          inner_judged : (j : ℕ) (i : ItemDecl) → slice_get (scope_items ds s) j ≡ Some i
              → IsTrue (may_be_given i.kind) → IfGives (judged_at j) (IsHeldOf true ds i.ty)
          inner_judged j i is may =
              let inner = inner_target ns item decl s j i at is_kind is may in
              if_ended anything (IsHeldOf true ds i.ty) (judged_at j).end
              (sound.judged (call scoped values before) values [] item (Some j) [] i.ty inner tt readies).ends.1

      ungiven_done : (k : Kind) → decl.kind ≡ k → IsTrue (not (must_be_given decl.kind))
          → IfGives (ungiven_value scoped before values item decl k) (IsDone ns item)
      ungiven_done (kind.Called s) e open_one =
          called_gives s e (callee_at (Callee anything ds scoped.runs) scoped.items item decl s sound.item_calls at e)
      ungiven_done kind.Input e open_one = defined_done decl.params refl (ap is_called e) open_one
      ungiven_done kind.InputOutput e open_one = defined_done decl.params refl (ap is_called e) open_one
      ungiven_done kind.Context e open_one = defined_done decl.params refl (ap is_called e) open_one
      ungiven_done kind.ContextOutput e open_one = defined_done decl.params refl (ap is_called e) open_one
      ungiven_done kind.Internal e open_one = defined_done decl.params refl (ap is_called e) open_one
      ungiven_done kind.Output e open_one = defined_done decl.params refl (ap is_called e) open_one

      pub item_done : (o : Option Value) → IsTrue (is_given_for ds decl o)
          → IfGives (item_value scoped before values item o (Some decl)) (IsDone ns item)
      item_done (Some v) is =
          let two = both (may_be_given decl.kind) _ is in
          evaluated-variable anything ds scoped needs sound item decl at v (free_of_may decl.kind two.0) two.1
      item_done None is = ungiven_done decl.kind refl is
