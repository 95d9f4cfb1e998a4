-- What stands in the log of a run: targets of scopes that are called, and each variable that was judged.
use Rattle.std.proofs.Common.{◌≡◌, inl, inr, ℕ, Bool, true, false, not, IsTrue, List, [], ◌∷◌, ◌++◌, take, drop, Option}
use Rattle.std.proofs.Common.{Some, None, Result, Ok, Err, slice_get, refl, sym, ap, ◌∙◌, subst, true≢false}
use Rattle.cat_value.specs.declared.value.Value.{Value}
use Rattle.cat_value.specs.declared.outcome.Target.{Target}
use Rattle.cat_value.specs.declared.ty.Ty.{Ty}
use Rattle.cat_value.specs.declared.declaration.Kind.{Kind}
use Rattle.cat_value.specs.declared.declaration.Kind.TheVariants as kind
use Rattle.cat_value.specs.declared.declaration.ItemDecl.{ItemDecl}
use Rattle.cat_scope.specs.declared.stop.Stop.{Stop}
use Rattle.cat_scope.specs.Runs.{Decider, Run, plain, gives, behind, and_then}
use Rattle.cat_scope.specs.Names.{IsOneOf, is_called, has_none, is_plain}
use Rattle.cat_scope.specs.Judging.{Judged, held_position, decided}
use Rattle.cat_scope.specs.Targets.{absent, value_or}
use Rattle.cat_scope.specs.Calls.{Items, Scoped, variable, judging_of, variable_value, call}
use Rattle.cat_scope.specs.ItemValues.{defined_value, ungiven_value, item_value}
use Rattle.cat_scope.specs.Running.{backwards, entry_at, with_entry, no_values, run_items, run_scoped}
use Rattle.cat_sound.specs.Given.{values_at, IsLogged}
use Rattle.cat_sound.proofs.Results.{both}
use Rattle.cat_sound.proofs.FormTypes.{not_true}
use Rattle.cat_sound.proofs.GivenValues.{run_through}
use Rattle.cat_sound.proofs.RunParts.{first_ok, drop_at, each_judged}

one_front : {A : Type 0} (x : A) (xs ys : List A) → IsOneOf x xs → IsOneOf x (xs ++ ys)
one_front x [] ys h = elim h [ ]
one_front x (y ∷ xs) ys (inl e) = inl e
one_front x (y ∷ xs) ys (inr h) = inr (one_front x xs ys h)

one_back : {A : Type 0} (x : A) (xs ys : List A) → IsOneOf x ys → IsOneOf x (xs ++ ys)
one_back x [] ys h = h
one_back x (y ∷ xs) ys h = inr (one_back x xs ys h)

behind_front : {A B : Type 0} (t : Target) (log : List Decider) (r : Result A Stop) (next : A → Run B)
    → IsLogged t log → IsLogged t (behind log r next).log
behind_front t log (Ok a) next h = (h.0, one_front (record { target = t; by = h.0 }) log (next a).log h.1)
behind_front t log (Err stop) next h = h

-- what the first run logs stays in the log
logged_front : {A B : Type 0} (t : Target) (run : Run A) (next : A → Run B) → IsLogged t run.log
    → IsLogged t (and_then run next).log
logged_front t run next h = behind_front t run.log run.end next h

behind_back : {A B : Type 0} (t : Target) (log : List Decider) (r : Result A Stop) (next : A → Run B) (a : A)
    → r ≡ Ok a → IsLogged t (next a).log → IsLogged t (behind log r next).log
behind_back t log r next a is h =
    subst (λ x. IsLogged t (behind log x next).log) (sym is)
    (h.0, one_back (record { target = t; by = h.0 }) log (next a).log h.1)

-- and so does what is logged behind it
logged_back : {A B : Type 0} (t : Target) (run : Run A) (next : A → Run B) (a : A) → run.end ≡ Ok a
    → IsLogged t (next a).log → IsLogged t (and_then run next).log
logged_back t run next a is h = behind_back t run.log run.end next a is h

module _ (scoped : Scoped) (before : List ℕ) (values : Items) (item : ℕ) (decl : ItemDecl) where
  abbrev own : Target
  own = variable scoped item

  abbrev judging : Judged Value
  judging = judging_of scoped (call scoped values before) values [] own

  defined_logged : (ps : List Ty) → IsTrue (has_none ps) → (v : Option Value)
      → (defined_value scoped before values item decl ps).end ≡ Ok v
      → IsLogged own (defined_value scoped before values item decl ps).log
  defined_logged [] none v ends =
      let value = first_ok (variable_value own (Some decl) (decided own judging)) (λ x. gives (Some x)) v ends in
      let found = first_ok (decided own judging) (λ f. plain
      (value_or (absent own decl.pos decl.condition) f)) value.0 value.1 in
      let here = first_ok judging
      (λ f. record { log = record { target = own; by = held_position f } ∷ []; end = Ok f }) found.0 found.1 in
      logged_front own (variable_value own (Some decl) (decided own judging)) (λ x. gives (Some x))
      (logged_front own (decided own judging) (λ f. plain (value_or (absent own decl.pos decl.condition) f))
      (logged_back own judging
      (λ f. record { log = record { target = own; by = held_position f } ∷ []; end = Ok f }) here.0 here.1
      (held_position here.0, inl refl)))
  defined_logged (t ∷ ts) none v ends = not_true none

  ungiven_logged : (k : Kind) → is_called k ≡ false → IsTrue (has_none decl.params) → (v : Option Value)
      → (ungiven_value scoped before values item decl k).end ≡ Ok v
      → IsLogged own (ungiven_value scoped before values item decl k).log
  ungiven_logged (kind.Called s) free none v ends = absurd (true≢false free)
  ungiven_logged kind.Input free none v ends = defined_logged decl.params none v ends
  ungiven_logged kind.InputOutput free none v ends = defined_logged decl.params none v ends
  ungiven_logged kind.Context free none v ends = defined_logged decl.params none v ends
  ungiven_logged kind.ContextOutput free none v ends = defined_logged decl.params none v ends
  ungiven_logged kind.Internal free none v ends = defined_logged decl.params none v ends
  ungiven_logged kind.Output free none v ends = defined_logged decl.params none v ends

  item_logged : IsTrue (is_plain decl) → (o : Option Value) (d : Option ItemDecl) → o ≡ None → d ≡ Some decl
      → (v : Option Value) → (item_value scoped before values item o d).end ≡ Ok v
      → IsLogged own (item_value scoped before values item o d).log
  item_logged plain_one o d none there v ends =
      let two = both (not (is_called decl.kind)) (has_none decl.params) plain_one in
      subst (λ x. IsLogged own (item_value scoped before values item x d).log) (sym none)
      (subst (λ x. IsLogged own (item_value scoped before values item None x).log) (sym there)
      (ungiven_logged decl.kind (not_is (is_called decl.kind) two.0) two.1 v
      (sym (ap (λ x. (item_value scoped before values item x d).end) none ∙ ap
      (λ x. (item_value scoped before values item None x).end) there) ∙ ends)))
    where
      not_is : (b : Bool) → IsTrue (not b) → b ≡ false
      not_is true h = not_true h
      not_is false h = refl

-- each variable without a given value is logged in a run that ends in a value
pub each_logged : (scoped : Scoped) (input : Items) (outputs : List Value) (index item : ℕ) (decl : ItemDecl)
    → (run_scoped scoped input).end ≡ Ok outputs → slice_get scoped.order index ≡ Some item
    → slice_get scoped.items item ≡ Some decl → IsTrue (is_plain decl) → entry_at item input ≡ None
    → IsLogged (variable scoped item) (run_scoped scoped input).log
each_logged scoped input outputs index item decl ends at is plain_one none =
    let here = each_judged scoped input outputs index item ends at in
    let rest = drop_at scoped.order index item at in
    let before = backwards (take index scoped.order) in
    logged_front (variable scoped item) (run_items scoped input [] (no_values scoped.items) scoped.order) _
    (subst (λ (run : Run Items). IsLogged (variable scoped item) run.log) (sym (run_through scoped input index))
    (logged_back (variable scoped item) (values_at scoped input index)
    (λ values. run_items scoped input before values (drop index scoped.order)) here.values here.reached
    (subst (λ (left : List ℕ). IsLogged (variable scoped item) (run_items scoped input before here.values left).log)
    (sym rest.1)
    (logged_front (variable scoped item) (item_value scoped before here.values item (entry_at item input)
    (slice_get scoped.items item)) (λ v. run_items scoped input (item ∷ before) (with_entry item v here.values) rest.0)
    (item_logged scoped before here.values item decl plain_one (entry_at item input)
    (slice_get scoped.items item) none is here.value here.is)))))
