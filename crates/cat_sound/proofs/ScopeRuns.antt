-- The run of a scope ends in values of the types of its outputs, or in a stop that an outcome may be.
use Rattle.std.proofs.Common.{◌≡◌, ℕ, ◌<◌, Bool, true, false, not, IsTrue, List, [], ◌∷◌}
use Rattle.std.proofs.Common.{length, Option, Some, None, slice_get, refl, ap, ◌∙◌, subst, arith}
use Rattle.std.specs.Prelude.{nat_eq}
use Rattle.std.proofs.lemmas.Option.{slice_get_within}
use Rattle.cat_value.specs.declared.ty.Ty.TheVariants as flat_ty
use Rattle.cat_value.specs.declared.value.Value.{Value}
use Rattle.cat_value.specs.declared.decls.Decls.{Decls}
use Rattle.cat_value.specs.declared.declaration.Kind.{Kind}
use Rattle.cat_value.specs.declared.declaration.Kind.TheVariants as kind
use Rattle.cat_value.specs.declared.declaration.ItemDecl.{ItemDecl}
use Rattle.cat_value.specs.Inputs.{must_be_given, may_be_given, is_given_for, are_given_for}
use Rattle.cat_scope.specs.declared.defs.Assertion.{Assertion}
use Rattle.cat_scope.specs.Runs.{plain}
use Rattle.cat_scope.specs.Names.{Names, AllHave, is_in, is_called}
use Rattle.cat_scope.specs.Eval.{Env, eval}
use Rattle.cat_scope.specs.Mentions.{items_named, scopes_named}
use Rattle.cat_scope.specs.WellFormed.{AssertionTyped}
use Rattle.cat_scope.specs.Calls.{Items, Scoped, env_of, call}
use Rattle.cat_scope.specs.Running.{entry_at, with_entry, run_items, no_values, outputs_of, moved, backwards}
use Rattle.cat_scope.specs.Running.{run_scoped}
use Rattle.cat_scope.specs.ItemValues.{ungiven_value, item_value}
use Rattle.cat_sound.specs.Endings.{Allowed, EndsIn, IsOf, AreOutputsOf, IsReady}
use Rattle.cat_sound.proofs.Results.{both}
use Rattle.cat_sound.proofs.Endings.{ends_plain, ends_as, ends_then}
use Rattle.cat_sound.proofs.FormTypes.{same_number}
use Rattle.cat_sound.proofs.ExprTypes.{expressions_go_on}
use Rattle.cat_sound.proofs.TargetTypes.{all_more, all_at}
use Rattle.cat_sound.proofs.OrderFacts.{AllIn, in_at, Behind, Ahead, moved-behind}
use Rattle.cat_sound.proofs.InputTypes.{Placed, Callee}
use Rattle.cat_sound.proofs.ScopeTypes.{evaluated-variable}
use Rattle.cat_sound.proofs.JudgedTypes.{ready}
use Rattle.cat_sound.proofs.ScopeParts.{names_of, callable, IsSound, IsDone, DoneAt}
use Rattle.cat_sound.proofs.ScopeTypes.{defined-ends}
use Rattle.cat_sound.proofs.ScopeTypes.{called-ends}
use Rattle.cat_sound.proofs.RunEntries.{OutputAt, asserted-ends, callee_at, entry_given, found, free_of_may}
use Rattle.cat_sound.proofs.RunEntries.{no_values-length, output_plain, outputs-end, with_entry-length}
use Rattle.cat_sound.proofs.RunEntries.{with_entry-other, with_entry-same}

-- ---- the run of a scope

module _ (allowed : Allowed) (ds : Decls) (scoped : Scoped) (needs : ℕ → List ℕ)
    (sound : IsSound allowed ds scoped needs) (input : Items)
    (given : IsTrue (are_given_for ds scoped.items input)) where
  abbrev ns : Names
  ns = names_of ds scoped

  module _ (item : ℕ) (decl : ItemDecl) (at : slice_get scoped.items item ≡ Some decl) (values : Items)
      (before : List ℕ) (behind : Behind (length scoped.items) needs before) (h : AllHave (DoneAt ns values) before)
      (have : AllIn before (needs item)) where
    ungiven-ends : (k : Kind) → decl.kind ≡ k → IsTrue (not (must_be_given decl.kind))
        → EndsIn allowed (IsDone ns item) (ungiven_value scoped before values item decl k)
    ungiven-ends (kind.Called s) e open_one =
        called-ends allowed ds scoped needs sound item decl at values before behind h have s e
        (callee_at (Callee allowed ds scoped.runs) scoped.items item decl s sound.item_calls at e)
    ungiven-ends kind.Input e open_one =
        defined-ends allowed ds scoped needs sound item decl at values before behind h have decl.params refl
        (ap is_called e) open_one
    ungiven-ends kind.InputOutput e open_one =
        defined-ends allowed ds scoped needs sound item decl at values before behind h have decl.params refl
        (ap is_called e) open_one
    ungiven-ends kind.Context e open_one =
        defined-ends allowed ds scoped needs sound item decl at values before behind h have decl.params refl
        (ap is_called e) open_one
    ungiven-ends kind.ContextOutput e open_one =
        defined-ends allowed ds scoped needs sound item decl at values before behind h have decl.params refl
        (ap is_called e) open_one
    ungiven-ends kind.Internal e open_one =
        defined-ends allowed ds scoped needs sound item decl at values before behind h have decl.params refl
        (ap is_called e) open_one
    ungiven-ends kind.Output e open_one =
        defined-ends allowed ds scoped needs sound item decl at values before behind h have decl.params refl
        (ap is_called e) open_one

    item-ends : (o : Option Value) → IsTrue (is_given_for ds decl o)
        → EndsIn allowed (IsDone ns item) (item_value scoped before values item o (Some decl))
    item-ends (Some v) is =
        let two = both (may_be_given decl.kind) _ is in
        (tt, evaluated-variable allowed ds scoped needs sound item decl at v (free_of_may decl.kind two.0) two.1)
    item-ends None is = ungiven-ends decl.kind refl is

  -- the items that are done stay as they are
  still_done : (values : Items) (item : ℕ) (v : Option Value) → item < length values → IsDone ns item v → (k : ℕ)
      → DoneAt ns values k → DoneAt ns (with_entry item v values) k
  still_done values item v below is k old = by (nat_eq item k) refl
    where
      by : (b : Bool) → nat_eq item k ≡ b → DoneAt ns (with_entry item v values) k
      by true e =
          subst (λ (m : ℕ). DoneAt ns (with_entry item v values) m) (same_number item k e)
          (record { value = v; there = with_entry-same item v values below; is = is })
      by false e = record { value = old.value; there = with_entry-other item k v values e ∙ old.there; is = old.is }

  run_items-end : (left before : List ℕ) (values : Items) → Ahead (length scoped.items) needs before left
      → Behind (length scoped.items) needs before → AllHave (DoneAt ns values) before
      → length values ≡ length scoped.items
      → EndsIn allowed (λ final. AllHave (DoneAt ns final) (moved before left))
      (run_items scoped input before values left)
  run_items-end [] before values ahead behind h same = (tt, h)
  run_items-end (item ∷ left) before values ahead behind h same =
      let here = found scoped.items item ahead.0 in
      ends_then allowed (IsDone ns item) (λ final. AllHave (DoneAt ns final) (moved (item ∷ before) left))
      (item_value scoped before values item (entry_at item input) (slice_get scoped.items item)) _
      (ends_as allowed (IsDone ns item)
      (item_value scoped before values item (entry_at item input) (slice_get scoped.items item))
      (item_value scoped before values item (entry_at item input) (Some here.0))
      (ap (item_value scoped before values item (entry_at item input)) here.1)
      (item-ends item here.0 here.1 values before behind h ahead.1 (entry_at item input)
      (entry_given ds scoped.items input item here.0 given here.1)))
      (λ v is. run_items-end left (item ∷ before) (with_entry item v values) ahead.2 (ahead.0, ahead.1, behind) (
        (record { value = v; there = with_entry-same item v values (below item values same ahead.0); is = is }),
        all_more (DoneAt ns values) (DoneAt ns (with_entry item v values)) before h
            (still_done values item v (below item values same ahead.0) is),
      )
      (with_entry-length item v values ∙ same))
    where
      below : (item : ℕ) (values : Items) → length values ≡ length scoped.items → item < length scoped.items
          → item < length values
      below item values same h = omega arith

  module _ (ahead : Ahead (length scoped.items) needs [] scoped.order)
      (all_listed : (k : ℕ) → k < length scoped.items → IsTrue (is_in k (backwards scoped.order))) where
    abbrev at_end : Items → Env
    at_end values = env_of scoped (call scoped values (backwards scoped.order)) values

    -- at the end all items are there
    all_ready : (values : Items) → AllHave (DoneAt ns values) (backwards scoped.order) → (k : ℕ)
        → k < length scoped.items → IsReady allowed ns (at_end values) k
    all_ready values h k below =
        ready allowed ds scoped needs sound values (backwards scoped.order)
        (moved-behind (length scoped.items) needs [] scoped.order tt ahead) h k (all_listed k below)

    any_ready : (values : Items) → AllHave (DoneAt ns values) (backwards scoped.order) → (k : ℕ)
        → IsReady allowed ns (at_end values) k
    any_ready values h k = record {
      variable = λ t is. (all_ready values h k (slice_get_within scoped.items k is.0 is.1)).variable t is;
      output = λ n t is. (all_ready values h k (slice_get_within scoped.items k is.called is.called_is)).output n t is;
      function = λ ps t vs is are.
          (all_ready values h k (slice_get_within scoped.items k is.decl is.decl_is)).function ps t vs is are;
    }

    everywhere : (P : ℕ → Type 0) → ((k : ℕ) → P k) → (ks : List ℕ) → AllHave P ks
    everywhere P go [] = tt
    everywhere P go (k ∷ ks) = (go k, everywhere P go ks)

    assertions-end : (values : Items) → AllHave (DoneAt ns values) (backwards scoped.order)
        → (assertions : List Assertion) → AllHave (AssertionTyped ns) assertions
        → AllHave (λ a. AllHave (Callee allowed ds scoped.runs) (scopes_named a.condition)) assertions → AllHave
        (λ a. EndsIn allowed (IsOf ds flat_ty.Boolean) (eval (at_end values) a.condition [])) assertions
    assertions-end values h [] typed callees = tt
    assertions-end values h (a ∷ rest) typed callees = (
      expressions_go_on allowed ns (at_end values) [] [] a.condition flat_ty.Boolean typed.0 (record {
        items = everywhere (IsReady allowed ns (at_end values)) (any_ready values h) (items_named a.condition);
        scopes =
            callable allowed ds scoped sound.scopes (call scoped values (backwards scoped.order)) values
            (scopes_named a.condition) callees.0;
      }) tt,
      assertions-end values h rest typed.1 callees.1,
    )

    output-at : (values : Items) → AllHave (DoneAt ns values) (backwards scoped.order) → (k : ℕ) (item : ItemDecl)
        → slice_get scoped.items k ≡ Some item → OutputAt ds values k item
    output-at values h k item is =
        let at = in_at (DoneAt ns values) (backwards scoped.order) k h
        (all_listed k (slice_get_within scoped.items k item is)) in
        record {
          value = at.value;
          there = at.there;
          typed =
              λ out. at.is.variable item.ty
              (item, is, output_plain item (all_at Placed scoped.items k item sound.placed is) out, refl);
        }

    pub run_scoped-ends : EndsIn allowed (AreOutputsOf ds scoped.items) (run_scoped scoped input)
    run_scoped-ends =
        ends_then allowed (λ final. AllHave (DoneAt ns final) (backwards scoped.order))
        (AreOutputsOf ds scoped.items) (run_items scoped input [] (no_values scoped.items) scoped.order) _
        (run_items-end scoped.order [] (no_values scoped.items) ahead tt tt (no_values-length scoped.items))
        (λ values h. asserted-ends allowed (AreOutputsOf ds scoped.items) ds
        (λ e. eval (at_end values) e []) scoped.assertions (plain (outputs_of scoped.items values))
        (assertions-end values h scoped.assertions sound.assertions sound.assertion_calls)
        (ends_plain allowed (AreOutputsOf ds scoped.items) (outputs_of scoped.items values)
        (outputs-end ds scoped.items values (output-at values h))))
