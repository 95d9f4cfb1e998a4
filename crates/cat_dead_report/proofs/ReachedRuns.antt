-- How far runs come, and that their logs tell what the variables to which they come are.
use Rattle.std.proofs.Common.{◌≡◌, inl, ℕ, zero, suc, ◌+◌, Bool, true, false, not, ◌&&◌, ◌||◌, IsTrue, arith}
use Rattle.std.proofs.Common.{List, [], ◌∷◌, take, drop, Option, Some, None, Result, Ok, Err, slice_get, refl}
use Rattle.std.proofs.Common.{sym, ap, ◌∙◌, subst, true≢false}
use Rattle.cat_value.specs.declared.value.Value.{Value}
use Rattle.cat_value.specs.declared.value.Value.TheVariants as flat
use Rattle.cat_value.specs.declared.ty.Ty.{Ty}
use Rattle.cat_value.specs.declared.decls.Decls.{Decls}
use Rattle.cat_value.specs.declared.declaration.Kind.{Kind}
use Rattle.cat_value.specs.declared.declaration.Kind.TheVariants as kind
use Rattle.cat_value.specs.declared.declaration.ItemDecl.{ItemDecl}
use Rattle.cat_value.specs.declared.outcome.Target.{Target}
use Rattle.cat_value.specs.Inputs.{must_be_given, is_given_for, are_given_for}
use Rattle.cat_scope.specs.declared.stop.Stop.{Stop}
use Rattle.cat_scope.specs.Runs.{Decider, Run, plain, gives, behind, and_then}
use Rattle.cat_scope.specs.Names.{IsOneOf, is_called, has_none, is_function, is_plain}
use Rattle.cat_scope.specs.Judging.{Held, Judged, held_position, decided}
use Rattle.cat_scope.specs.Targets.{absent, value_or}
use Rattle.cat_scope.specs.Calls.{Items, Scoped, call, judging_of, variable, variable_value}
use Rattle.cat_scope.specs.ItemValues.{defined_value, item_value, ungiven_value}
use Rattle.cat_scope.specs.Running.{backwards, entry_at, moved, no_values, run_items, run_scoped, with_entry}
use Rattle.cat_sound.specs.Given.{values_at}
use Rattle.cat_sound.proofs.Exported.{entry_given, first_ok, one_back, one_front, run_through}
use Rattle.cat_guard.specs.TableJudging.{IsCovered}
use Rattle.cat_guard.proofs.Exported.{both_true}
use Rattle.cat_dead_report.specs.inside.Faultless.{is_passed, is_passed_if}

-- ---- runs one behind the other

abbrev or_value : {A : Type 0} → A → Result A Stop → A
or_value a (Ok b) = b
or_value a (Err stop) = a

same_ok : {A : Type 0} (a b : A) (r : Result A Stop) → r ≡ Ok a → r ≡ Ok b → a ≡ b
same_ok a b r one other = ap (or_value a) (sym one ∙ other)

-- where the first ends in a value, both end as the second does
then_ok : {A B : Type 0} (run : Run A) (next : A → Run B) (a : A) → run.end ≡ Ok a
    → (and_then run next).end ≡ (next a).end
then_ok run next a is = ap (λ r. (behind run.log r next).end) is

behind_front : {A B : Type 0} (d : Decider) (log : List Decider) (r : Result A Stop) (next : A → Run B)
    → IsOneOf d log → IsOneOf d (behind log r next).log
behind_front d log (Ok a) next among = one_front d log (next a).log among
behind_front d log (Err stop) next among = among

-- what the first logs stays in the log
log_front : {A B : Type 0} (d : Decider) (run : Run A) (next : A → Run B) → IsOneOf d run.log
    → IsOneOf d (and_then run next).log
log_front d run next among = behind_front d run.log run.end next among

-- and so does what the second logs
log_back : {A B : Type 0} (d : Decider) (run : Run A) (next : A → Run B) (a : A) → run.end ≡ Ok a
    → IsOneOf d (next a).log → IsOneOf d (and_then run next).log
log_back d run next a is among =
    subst (λ r. IsOneOf d (behind run.log r next).log) (sym is) (one_back d run.log (next a).log among)

-- ---- items that are passed

either_of : (a b : Bool) → (a || b) ≡ true → a ≡ false → b ≡ true
either_of true b h none = absurd (true≢false none)
either_of false b h none = h

was_false : (b : Bool) → IsTrue (not b) → b ≡ false
was_false true h = absurd (true≢false (sym h))
was_false false h = refl

module _ (ds : Decls) (scoped : Scoped) (input : Items) (given : IsTrue (are_given_for ds scoped.items input)) where
  module _ (before : List ℕ) (values : Items) (item : ℕ) where
    -- a function is passed over
    function_passed : (decl : ItemDecl) (k : Kind) → (not (is_called k) && not (has_none decl.params)) ≡ true
        → (ungiven_value scoped before values item decl k).end ≡ Ok None
    function_passed decl k is = by k (both_true (not (is_called k)) (not (has_none decl.params)) is)
      where
        passed_over : (ps : List Ty) → IsTrue (not (has_none ps))
            → (defined_value scoped before values item decl ps).end ≡ Ok None
        passed_over [] some = absurd (true≢false (sym some))
        passed_over (p ∷ ps) some = refl

        by : (k : Kind) → IsTrue (not (is_called k)) × IsTrue (not (has_none decl.params))
            → (ungiven_value scoped before values item decl k).end ≡ Ok None
        by (kind.Called s) two = absurd (true≢false (sym two.0))
        by kind.Input two = passed_over decl.params two.1
        by kind.InputOutput two = passed_over decl.params two.1
        by kind.Context two = passed_over decl.params two.1
        by kind.ContextOutput two = passed_over decl.params two.1
        by kind.Internal two = passed_over decl.params two.1
        by kind.Output two = passed_over decl.params two.1

    entry_passed : (decl : ItemDecl) → is_passed decl ≡ true → (entry : Option Value)
        → IsTrue (is_given_for ds decl entry)
        → (v : Option Value) × ((item_value scoped before values item entry (Some decl)).end ≡ Ok v)
    entry_passed decl passed (Some v) is = (Some v, refl)
    entry_passed decl passed None is = (
      None,
      function_passed decl decl.kind
          (either_of (must_be_given decl.kind) (is_function decl) passed (was_false (must_be_given decl.kind) is)),
    )

    pub item_passed : (o : Option ItemDecl) → slice_get scoped.items item ≡ o → is_passed_if o ≡ true
        → (v : Option Value) × ((item_value scoped before values item (entry_at item input) o).end ≡ Ok v)
    item_passed None at passed = absurd (true≢false (sym passed))
    item_passed (Some decl) at passed =
        entry_passed decl passed (entry_at item input) (entry_given ds scoped.items input item decl given at)

-- ---- one item more

take_none : (ns : List ℕ) → take 0 ns ≡ []
take_none [] = refl
take_none (n ∷ ns) = refl

module _ (scoped : Scoped) (input : Items) where
  pub none_before : (values_at scoped input 0).end ≡ Ok (no_values scoped.items)
  none_before =
      ap (λ (ns : List ℕ). (run_items scoped input [] (no_values scoped.items) ns).end) (take_none scoped.order)

  -- an item at an index of those that are left comes to a value
  abbrev Comes : List ℕ → Items → ℕ → Type 0
  Comes before values item =
      (v : Option Value) × ((item_value scoped before values item (entry_at item input)
      (slice_get scoped.items item)).end
      ≡ Ok v)

  run_on : (left before : List ℕ) (done : Items) (index item : ℕ) → slice_get left index ≡ Some item
      → (values : Items) → (run_items scoped input before done (take index left)).end ≡ Ok values
      → Comes (moved before (take index left)) values item
      → (final : Items) × ((run_items scoped input before done (take (suc index) left)).end ≡ Ok final)
  run_on [] before done index item there values reached comes = absurd (cc)
  run_on (n ∷ left) before done zero item there values reached comes =
      let same : n ≡ item = cc in
      let ended : values ≡ done = same_ok values done (gives done).end reached refl in
      let one = subst (λ (vs : Items). Comes before vs n) ended (subst (Comes before values) (sym same) comes) in
      subst (λ (ns : List ℕ). (final : Items) × ((run_items scoped input before done (n ∷ ns)).end ≡ Ok final))
      (sym (take_none left)) (
        with_entry n one.0 done,
        then_ok (item_value scoped before done n (entry_at n input) (slice_get scoped.items n)) _
            one.0 one.1,
      )
  run_on (n ∷ left) before done (suc index) item there values reached comes =
      let one = first_ok (item_value scoped before done n (entry_at n input) (slice_get scoped.items n)) _ values
      reached in
      let rest = run_on left (n ∷ before) (with_entry n one.0 done) index item there values one.2 comes in (
        rest.0,
        then_ok (item_value scoped before done n (entry_at n input) (slice_get scoped.items n)) _ one.0 one.1 ∙ rest.1,
      )

  -- a run that comes to an index comes to the next one, where the item there comes to a value
  pub reached_on : (index item : ℕ) → slice_get scoped.order index ≡ Some item → (values : Items)
      → (values_at scoped input index).end ≡ Ok values → Comes (backwards (take index scoped.order)) values item
      → (final : Items) × ((values_at scoped input (index + 1)).end ≡ Ok final)
  reached_on index item there values reached comes =
      let more : suc index ≡ index + 1 = omega arith in
      subst (λ (n : ℕ). (final : Items) × ((values_at scoped input n).end ≡ Ok final)) more
      (run_on scoped.order [] (no_values scoped.items) index item there values reached comes)

-- ---- the log of a variable

drop_at : (ns : List ℕ) (index item : ℕ) → slice_get ns index ≡ Some item
    → (rest : List ℕ) × (drop index ns ≡ item ∷ rest)
drop_at [] index item at = absurd (cc)
drop_at (n ∷ ns) zero item at = let same : n ≡ item = cc in (ns, ap (λ (m : ℕ). m ∷ ns) same)
drop_at (n ∷ ns) (suc index) item at = drop_at ns index item at

module _ (scoped : Scoped) (before : List ℕ) (values : Items) (item : ℕ) (decl : ItemDecl)
    (found : Option (Held Value)) where
  abbrev own : Target
  own = variable scoped item

  abbrev judging : Judged Value
  judging = judging_of scoped (call scoped values before) values [] own

  abbrev entry : Decider
  entry = record { target = own; by = held_position found }

  module _ (ends : judging.end ≡ Ok found) where
    defined_logged : (ps : List Ty) → IsTrue (has_none ps)
        → IsOneOf entry (defined_value scoped before values item decl ps).log
    defined_logged [] none =
        log_front entry (variable_value own (Some decl) (decided own judging)) (λ v. gives (Some v))
        (log_front entry (decided own judging) (λ f. plain (value_or (absent own decl.pos decl.condition) f))
        (log_back entry judging
        (λ f. record { log = record { target = own; by = held_position f } ∷ []; end = Ok f }) found ends (inl refl)))
    defined_logged (p ∷ ps) none = absurd (true≢false (sym none))

    ungiven_logged : (k : Kind) → IsTrue (not (is_called k)) → IsTrue (has_none decl.params)
        → IsOneOf entry (ungiven_value scoped before values item decl k).log
    ungiven_logged (kind.Called s) free none = absurd (true≢false (sym free))
    ungiven_logged kind.Input free none = defined_logged decl.params none
    ungiven_logged kind.InputOutput free none = defined_logged decl.params none
    ungiven_logged kind.Context free none = defined_logged decl.params none
    ungiven_logged kind.ContextOutput free none = defined_logged decl.params none
    ungiven_logged kind.Internal free none = defined_logged decl.params none
    ungiven_logged kind.Output free none = defined_logged decl.params none

    item_logged : IsTrue (is_plain decl) → (o : Option Value) (d : Option ItemDecl) → o ≡ None → d ≡ Some decl
        → IsOneOf entry (item_value scoped before values item o d).log
    item_logged is_variable o d none there =
        let two = both_true (not (is_called decl.kind)) (has_none decl.params) is_variable in
        subst (λ x. IsOneOf entry (item_value scoped before values item x d).log) (sym none)
        (subst (λ x. IsOneOf entry (item_value scoped before values item None x).log) (sym there)
        (ungiven_logged decl.kind two.0 two.1))

    -- it has a value, where it holds, or is a condition
    comes_to : IsTrue (is_plain decl) → IsCovered {A = Value} decl.condition (Ok found)
        → (v : Option Value) × ((ungiven_value scoped before values item decl decl.kind).end ≡ Ok v)
    comes_to is_variable covered =
        let two = both_true (not (is_called decl.kind)) (has_none decl.params) is_variable in
        let one = has_value decl.condition found covered in
        (Some one.0, by decl.kind two.0 (Some one.0) (of_params decl.params two.1 one.0 one.1))
      where
        has_value : (condition : Bool) (f : Option (Held Value)) → IsCovered {A = Value} condition (Ok f)
            → (v : Value) × (value_or (absent own decl.pos condition) f ≡ Ok v)
        has_value condition (Some h) covered = (h.value, refl)
        has_value true None covered = (flat.Boolean false, refl)
        has_value false None covered = absurd (true≢false (sym covered))

        of_params : (ps : List Ty) → IsTrue (has_none ps) → (v : Value)
            → value_or (absent own decl.pos decl.condition) found ≡ Ok v
            → (defined_value scoped before values item decl ps).end ≡ Ok (Some v)
        of_params [] none v is =
            then_ok (variable_value own (Some decl) (decided own judging)) (λ w. gives (Some w)) v
            (then_ok (decided own judging) (λ f. plain (value_or (absent own decl.pos decl.condition) f)) found
            (then_ok judging
            (λ f. record { log = record { target = own; by = held_position f } ∷ []; end = Ok f }) found ends) ∙ is)
        of_params (p ∷ ps) none v is = absurd (true≢false (sym none))

        by : (k : Kind) → IsTrue (not (is_called k)) → (v : Option Value)
            → (defined_value scoped before values item decl decl.params).end ≡ Ok v
            → (ungiven_value scoped before values item decl k).end ≡ Ok v
        by (kind.Called s) free v h = absurd (true≢false (sym free))
        by kind.Input free v h = h
        by kind.InputOutput free v h = h
        by kind.Context free v h = h
        by kind.ContextOutput free v h = h
        by kind.Internal free v h = h
        by kind.Output free v h = h

-- so it comes to a value, given or not
pub entry_comes : (scoped : Scoped) (before : List ℕ) (values : Items) (item : ℕ) (decl : ItemDecl)
    (found : Option (Held Value)) → (judging_of scoped (call scoped values before) values []
    (variable scoped item)).end ≡ Ok found → slice_get scoped.items item ≡ Some decl → IsTrue (is_plain decl)
    → IsCovered {A = Value} decl.condition (Ok found) → (entry : Option Value)
    → (v : Option Value) × ((item_value scoped before values item entry (slice_get scoped.items item)).end ≡ Ok v)
entry_comes scoped before values item decl found ends is is_variable covered (Some v) = (Some v, refl)
entry_comes scoped before values item decl found ends is is_variable covered None =
    let one = comes_to scoped before values item decl found ends is_variable covered in
    (one.0, ap (λ o. (item_value scoped before values item None o).end) is ∙ one.1)

-- what a variable that isn't given came to stands in the log of a run that comes to it
pub logged : (scoped : Scoped) (input : Items) (index item : ℕ) (decl : ItemDecl) (values : Items)
    (found : Option (Held Value)) → slice_get scoped.order index ≡ Some item → slice_get scoped.items item ≡ Some decl
    → IsTrue (is_plain decl) → entry_at item input ≡ None → (values_at scoped input index).end ≡ Ok values
    → (judging_of scoped (call scoped values (backwards (take index scoped.order))) values []
    (variable scoped item)).end ≡ Ok found
    → IsOneOf (record { target = variable scoped item; by = held_position found }) (run_scoped scoped input).log
logged scoped input index item decl values found at is is_variable none there ends =
    let rest = drop_at scoped.order index item at in
    let before = backwards (take index scoped.order) in
    let d : Decider = record { target = variable scoped item; by = held_position found } in
    log_front d (run_items scoped input [] (no_values scoped.items) scoped.order) _
    (subst (λ (run : Run Items). IsOneOf d run.log) (sym (run_through scoped input index))
    (log_back d (values_at scoped input index)
    (λ vs. run_items scoped input before vs (drop index scoped.order)) values there
    (subst (λ (left : List ℕ). IsOneOf d (run_items scoped input before values left).log) (sym rest.1)
    (log_front d (item_value scoped before values item (entry_at item input) (slice_get scoped.items item))
    (λ v. run_items scoped input (item ∷ before) (with_entry item v values) rest.0)
    (item_logged scoped before values item decl found ends is_variable (entry_at item input)
    (slice_get scoped.items item) none is)))))
