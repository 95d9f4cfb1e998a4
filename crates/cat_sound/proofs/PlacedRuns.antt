-- Scopes that run one another by place end in values of the types of their outputs, or in a stop that an outcome may
-- be, where each does if the scopes that it calls do.
use Rattle.std.proofs.Common.{◌≡◌, ℕ, ◌<◌, Bool, true, false, IsTrue, List, [], ◌∷◌, length, Option, Some, None}
use Rattle.std.proofs.Common.{slice_get, refl, sym, ap, ◌∙◌, subst, if◌then◌else◌}
use Rattle.std.specs.Prelude.{nat_eq}
use Rattle.std.proofs.lemmas.Option.{slice_get_within}
use Rattle.cat_value.specs.declared.value.Value.{Value}
use Rattle.cat_value.specs.declared.decls.Decls.{Decls}
use Rattle.cat_value.specs.declared.declaration.Scope.{Scope}
use Rattle.cat_value.specs.Inputs.{are_given_for, is_input_for, is_input_of, IsWellTyped}
use Rattle.cat_scope.specs.Runs.{Run}
use Rattle.cat_scope.specs.Names.{AllHave, is_in, items_in, scope_items}
use Rattle.cat_scope.specs.Calls.{Items, Runs}
use Rattle.cat_scope.specs.Running.{backwards, run_by}
use Rattle.cat_sound.specs.Endings.{Allowed, EndsIn, AreOutputsOf}
use Rattle.cat_sound.proofs.Endings.{ends_as}
use Rattle.cat_sound.proofs.FormTypes.{same_some, same_number, not_true}
use Rattle.cat_sound.proofs.OrderFacts.{behind_first, Behind, Ahead, moved-behind, moved_new}
use Rattle.cat_sound.proofs.InputTypes.{Placed, Callee}
use Rattle.cat_sound.proofs.RunEntries.{found}

all_and : {A : Type 0} (P Q R : A → Type 0) (xs : List A) → AllHave P xs → AllHave Q xs → ((a : A) → P a → Q a → R a)
    → AllHave R xs
all_and P Q R [] h g go = tt
all_and P Q R (x ∷ xs) h g go = (go x h.0 g.0, all_and P Q R xs h.1 g.1 go)

module _ (allowed : Allowed) (within : ℕ → Bool) (ds : Decls) (each : ℕ → Runs → Items → Run (List Value))
    (calls : ℕ → List ℕ)
    (placed : (k : ℕ) (scope : Scope) → slice_get ds.scopes k ≡ Some scope → AllHave Placed scope.items)
    (closed : (k : ℕ) → IsTrue (within k) → AllHave (λ s. IsTrue (within s)) (calls k))
    (one : (runs : Runs) (k : ℕ) (scope : Scope) → slice_get ds.scopes k ≡ Some scope → IsTrue (within k)
    → AllHave (Callee allowed ds runs) (calls k) → (input : Items) → IsTrue (are_given_for ds scope.items input)
    → EndsIn allowed (AreOutputsOf ds scope.items) (each k runs input)) where
  -- a scope with its run, among those that stand before
  runs-end : (before : List ℕ) → Behind (length ds.scopes) calls before → (s : ℕ) → IsTrue (is_in s before)
      → IsTrue (within s) → Callee allowed ds (run_by each before) s
  runs-end [] behind s there inside = not_true there
  runs-end (n ∷ before) behind s there inside = by (nat_eq n s) refl (runs-end before behind.2)
    where
      by : (b : Bool) → nat_eq n s ≡ b
          → ((s : ℕ) → IsTrue (is_in s before) → IsTrue (within s) → Callee allowed ds (run_by each before) s)
          → Callee allowed ds (run_by each (n ∷ before)) s
      by true e rest =
          let at = found ds.scopes n behind.0 in
          let here = subst (λ (m : ℕ). IsTrue (within m)) (sym (same_number n s e)) inside in
          record {
            scope = at.0;
            there = ap (slice_get ds.scopes) (sym (same_number n s e)) ∙ at.1;
            placed = placed n at.0 at.1;
            ends = λ input given.
                ends_as allowed (AreOutputsOf ds at.0.items) (run_by each (n ∷ before) s input)
                (each n (run_by each before) input)
                (ap (λ b. if b then each n (run_by each before) input else run_by each before s input) e)
                (one (run_by each before) n at.0 at.1 here
                (all_and (λ s. IsTrue (is_in s before)) (λ s. IsTrue (within s)) (Callee allowed ds
                (run_by each before)) (calls n) behind.1 (closed n here) rest) input given);
          }
      by false e rest =
          let callee = rest s (behind_first n s before e there) inside in
          record {
            scope = callee.scope;
            there = callee.there;
            placed = callee.placed;
            ends = λ input given.
                ends_as allowed (AreOutputsOf ds callee.scope.items) (run_by each (n ∷ before) s input)
                (run_by each before s input)
                (ap (λ b. if b then each n (run_by each before) input else run_by each before s input) e)
                (callee.ends input given);
          }

  -- the run of a scope on a well-typed input
  pub all_runs-end : (order : List ℕ) → Ahead (length ds.scopes) calls [] order
      → ((k : ℕ) → k < length ds.scopes → IsTrue (is_in k order)) → (s : ℕ) (input : Items) → IsTrue (within s)
      → IsWellTyped ds s input
      → EndsIn allowed (AreOutputsOf ds (scope_items ds s)) (run_by each (backwards order) s input)
  unfolding is_input_of
  all_runs-end order ahead listed s input inside typed = by (slice_get ds.scopes s) refl typed
    where
      by : (o : Option Scope) → slice_get ds.scopes s ≡ o → IsTrue (is_input_for ds input o)
          → EndsIn allowed (AreOutputsOf ds (items_in o)) (run_by each (backwards order) s input)
      by None e given = not_true given
      by (Some scope) e given =
          let callee = runs-end (backwards order) (moved-behind (length ds.scopes) calls [] order tt ahead) s
          (moved_new s [] order (listed s (slice_get_within ds.scopes s scope e))) inside in
          let same : callee.scope ≡ scope = same_some callee.scope scope (sym callee.there ∙ e) in
          subst (λ (x : Scope). EndsIn allowed (AreOutputsOf ds x.items) (run_by each (backwards order) s input)) same
          (callee.ends input (subst (λ (x : Scope). IsTrue (are_given_for ds x.items input)) (sym same) given))
