-- What stands in a log was judged in that run, and each variable of a run that ends in a value stands there once.
use Rattle.std.proofs.Common.{◌≡◌, ℕ, ◌+◌, ◌<◌, Bool, true, false, not, IsTrue, List, [], ◌∷◌, ◌++◌, length}
use Rattle.std.proofs.Common.{Option, Some, None, Ok, slice_get, refl, sym, ap, ◌∙◌, subst, arith}
use Rattle.std.proofs.Common.{true≢false}
use Rattle.std.proofs.Common.{if◌then◌else◌}
use Rattle.std.specs.Prelude.{nat_eq}
use Rattle.std.proofs.Math.Logic.{∥∥₁_elim}
use Rattle.std.proofs.Props.{props}
use Rattle.std.proofs.lemmas.Option.{slice_get_within}
use Rattle.cat_value.specs.declared.value.Value.{Value}
use Rattle.cat_value.specs.declared.ty.Ty.{Ty}
use Rattle.cat_value.specs.declared.decls.Decls.{Decls}
use Rattle.cat_value.specs.declared.declaration.Kind.{Kind}
use Rattle.cat_value.specs.declared.declaration.Kind.TheVariants as kind
use Rattle.cat_value.specs.declared.declaration.ItemDecl.{ItemDecl}
use Rattle.cat_value.specs.declared.declaration.Scope.{Scope}
use Rattle.cat_value.specs.declared.outcome.Target.{Target}
use Rattle.cat_order.specs.Order.{times}
use Rattle.cat_scope.specs.declared.expr.Expr.{Expr}
use Rattle.cat_scope.specs.declared.defs.Body.{Body}
use Rattle.cat_scope.specs.Runs.{Decider, Run, plain, gives, behind, and_then}
use Rattle.cat_scope.specs.Names.{is_in, is_called, has_none, is_plain}
use Rattle.cat_scope.specs.Judging.{Held, Judged, held_position, decided}
use Rattle.cat_scope.specs.Targets.{absent, value_or, same_inner, judge_target}
use Rattle.cat_scope.specs.WellFormed.{IsWellFormed}
use Rattle.cat_scope.specs.Calls.{Items, Runs, Scoped, variable, judging_of, variable_value, call}
use Rattle.cat_scope.specs.ItemValues.{defined_value, ungiven_value, item_value}
use Rattle.cat_scope.specs.Running.{backwards, entry_at, with_entry, no_values, run_items, run_scoped, run_scope, run}
use Rattle.cat_scope.specs.Running.{run_of, scoped_of}
use Rattle.cat_scope.proofs.Exported.{append_append}
use Rattle.cat_sound.specs.Logs.{IsMadeOf, target_in, times_logged}
use Rattle.cat_sound.specs.Logs as logs
use Rattle.cat_sound.proofs.Results.{both}
use Rattle.cat_sound.proofs.FormTypes.{same_some, same_number, not_true}
use Rattle.cat_sound.proofs.GivenValues.{run-append}
use Rattle.cat_sound.proofs.RunParts.{first_ok}
use Rattle.cat_sound.proofs.RunTypes.{body_at}
use Rattle.cat_sound.proofs.OrderFacts.{dependencies-length}
use Rattle.cat_scope.specs.Mentions.{items_named}
use Rattle.cat_sound.proofs.FunctionLaws.{Distinct, moved_append}
use Rattle.cat_sound.proofs.ScopeLaws.{differ_of}
use Rattle.cat_sound.proofs.LogParts.{target_logs, then_logs}
use Rattle.cat_sound.proofs.ScopeLogs.{open_logs, last_logs, judging_logs, scoped_logs}
use Rattle.cat_sound.proofs.LogCounts.{Never, itself_eq, never_both, no_item, no_scope, own_item}
use Rattle.cat_sound.proofs.LogCounts.{times_append, times_end, turned}

-- how a run goes on with a value
then_end : {A B : Type 0} (first : Run A) (next : A → Run B) (a : A) → first.end ≡ Ok a
    → (and_then first next).end ≡ (next a).end
then_end first next a is = ap (λ r. (behind first.log r next).end) is

then_log : {A B : Type 0} (first : Run A) (next : A → Run B) (a : A) → first.end ≡ Ok a
    → (and_then first next).log ≡ first.log ++ (next a).log
then_log first next a is = ap (λ r. (behind first.log r next).log) is

-- ---- a log is made of what was judged

module _ (number : ℕ) (items : List ItemDecl) (body : Body) (scopes : List Scope) (runs : Runs) (input : Items) where
  abbrev scoped : Scoped
  scoped = scoped_of number items body scopes runs

  abbrev Made : List Decider → Type 0
  Made log = IsMadeOf scoped input log

  together : (xs ys : List Decider) → Made xs → Made ys → Made (xs ++ ys)
  together xs ys h g = logs.joined xs ys h g

  judges : (value : Expr → Run Value) → ((e : Expr) → Made (value e).log) → (target : Target)
      → Made (judge_target value target body.defs).log
  judges value of target = target_logs Made logs.nothing together value of target body.defs

  item_made : (front : List ℕ) (item : ℕ) (left : List ℕ) (values : Items) → scoped.order ≡ front ++ item ∷ left
      → (run_items scoped input [] (no_values scoped.items) front).end ≡ Ok values
      → (o : Option Value) → entry_at item input ≡ o
      → Made (item_value scoped (backwards front) values item o (slice_get scoped.items item)).log
  item_made front item left values in_order reached (Some v) e = logs.nothing
  item_made front item left values in_order reached None e =
      open_logs Made logs.nothing together scoped (λ s i. logs.within s i) judges (backwards front) values item one
      (slice_get scoped.items item)
    where
      one : (inner : Option ℕ) (found : Option (Held Value))
          → (judging_of scoped (call scoped values (backwards front)) values [] (target_in scoped item inner)).end
          ≡ Ok found
          → Made (record { target = target_in scoped item inner; by = held_position found } ∷ [])
      one inner found is = logs.own (record { target = target_in scoped item inner; by = held_position found })
          (record {
            front = front;
            item = item;
            back = left;
            inner = inner;
            values = values;
            found = found;
            in_order = in_order;
            not_given = e;
            reached = reached;
            is = is;
            logged = refl;
          })

  items_made : (left front : List ℕ) (values : Items) → scoped.order ≡ front ++ left
      → (run_items scoped input [] (no_values scoped.items) front).end ≡ Ok values
      → Made (run_items scoped input (backwards front) values left).log
  items_made [] front values in_order reached = logs.nothing
  items_made (item ∷ left) front values in_order reached =
      then_logs Made logs.nothing together (item_value scoped (backwards front) values item (entry_at item input)
      (slice_get scoped.items item))
      (λ v. run_items scoped input (item ∷ backwards front) (with_entry item v values) left)
      (item_made front item left values in_order reached (entry_at item input) refl)
      (λ v is. subst (λ (before : List ℕ). Made (run_items scoped input before (with_entry item v values) left).log)
      (moved_append [] front (item ∷ []))
      (items_made left (front ++ item ∷ []) (with_entry item v values)
      (in_order ∙ sym (append_append front (item ∷ []) left))
      (ap (λ (r : Run Items). r.end) (run-append scoped input [] (no_values scoped.items) front (item ∷ []))
      ∙ then_end (run_items scoped input [] (no_values scoped.items) front)
      (λ vs. run_items scoped input (backwards front) vs (item ∷ [])) values reached
      ∙ then_end (item_value scoped (backwards front) values item (entry_at item input) (slice_get scoped.items item))
      (λ w. gives (with_entry item w values)) v is)))

  pub made_of_judgings : IsMadeOf scoped input (run_scoped scoped input).log
  made_of_judgings =
      then_logs Made logs.nothing together (run_items scoped input [] (no_values scoped.items) scoped.order) _
      (items_made scoped.order [] (no_values scoped.items) refl refl)
      (λ values is. last_logs Made logs.nothing together scoped (λ s i. logs.within s i) judges values)

  -- ---- in the run of a scope, where the scopes that it runs don't tell of its variable

  module _ (item : ℕ) (decl : ItemDecl) (quiet : (s : ℕ) (i : Items)
      → times_logged (record { scope = number; item = item; inner = None }) (runs s i).log ≡ 0) where
    abbrev own : Target
    own = variable scoped item

    abbrev none_of : List Decider → Type 0
    none_of log = Never own log

    quietly : (value : Expr → Run Value) → ((e : Expr) → none_of (value e).log) → (target : Target)
        → none_of (judge_target value target body.defs).log
    quietly value of target = target_logs none_of refl (never_both own) value of target body.defs

    module _ (before : List ℕ) (values : Items) where
      abbrev judging : Judged Value
      judging = judging_of scoped (call scoped values before) values [] own

      abbrev entry_of : Option (Held Value) → Run (Option (Held Value))
      entry_of f = record { log = record { target = own; by = held_position f } ∷ []; end = Ok f }

      one_more : (a b : ℕ) → a ≡ 0 → b ≡ 1 → a + b ≡ 1
      one_more a b h g = omega (arith, h, g)

      defined_once : (ps : List Ty) → IsTrue (has_none ps) → (v : Option Value)
          → (defined_value scoped before values item decl ps).end ≡ Ok v
          → times_logged own (defined_value scoped before values item decl ps).log ≡ 1
      defined_once [] none v ends =
          let value = first_ok (variable_value own (Some decl) (decided own judging)) (λ x. gives (Some x)) v ends in
          let found = first_ok (decided own judging)
          (λ f. plain (value_or (absent own decl.pos decl.condition) f)) value.0 value.1 in
          let here = first_ok judging entry_of found.0 found.1 in
          ap (times_logged own) (then_log (variable_value own (Some decl) (decided own judging))
          (λ x. gives (Some x)) value.0 value.1)
          ∙ times_end own (variable_value own (Some decl) (decided own judging)).log
          ∙ ap (times_logged own) (then_log (decided own judging)
          (λ f. plain (value_or (absent own decl.pos decl.condition) f)) found.0 found.1)
          ∙ times_end own (decided own judging).log
          ∙ ap (times_logged own) (then_log judging entry_of here.0 here.1)
          ∙ times_append own judging.log (record { target = own; by = held_position here.0 } ∷ [])
          ∙ one_more (times_logged own judging.log)
          (times_logged own (record { target = own; by = held_position here.0 } ∷ []))
          (judging_logs none_of refl (never_both own) scoped quiet quietly before values item None)
          (own_item (nat_eq scoped.scope scoped.scope) (nat_eq item item) (itself_eq scoped.scope) (itself_eq item))
      defined_once (t ∷ ts) none v ends = not_true none

      ungiven_once : (k : Kind) → is_called k ≡ false → IsTrue (has_none decl.params) → (v : Option Value)
          → (ungiven_value scoped before values item decl k).end ≡ Ok v
          → times_logged own (ungiven_value scoped before values item decl k).log ≡ 1
      ungiven_once (kind.Called s) free none v ends = absurd (true≢false free)
      ungiven_once kind.Input free none v ends = defined_once decl.params none v ends
      ungiven_once kind.InputOutput free none v ends = defined_once decl.params none v ends
      ungiven_once kind.Context free none v ends = defined_once decl.params none v ends
      ungiven_once kind.ContextOutput free none v ends = defined_once decl.params none v ends
      ungiven_once kind.Internal free none v ends = defined_once decl.params none v ends
      ungiven_once kind.Output free none v ends = defined_once decl.params none v ends

      own_once : IsTrue (is_plain decl) → (o : Option Value) (d : Option ItemDecl) → o ≡ None → d ≡ Some decl
          → (v : Option Value)
          → (item_value scoped before values item o d).end ≡ Ok v
          → times_logged own (item_value scoped before values item o d).log ≡ 1
      own_once plain_one o d open_one there v ends =
          let two = both (not (is_called decl.kind)) (has_none decl.params) plain_one in
          let same = ap (λ x. item_value scoped before values item x d) open_one ∙ ap
          (item_value scoped before values item None) there in
          ap (λ (r : Run (Option Value)). times_logged own r.log) same
          ∙ ungiven_once decl.kind (not_is (is_called decl.kind) two.0) two.1 v
          (sym (ap (λ (r : Run (Option Value)). r.end) same) ∙ ends)
        where
          not_is : (b : Bool) → IsTrue (not b) → b ≡ false
          not_is true h = not_true h
          not_is false h = refl

      other_never : (k : ℕ) → nat_eq k item ≡ false → (o : Option Value) (d : Option ItemDecl)
          → Never own (item_value scoped before values k o d).log
      other_never k other (Some v) d = refl
      other_never k other None d =
          open_logs none_of refl (never_both own) scoped quiet quietly before values k
          (λ inner found is. no_item (nat_eq scoped.scope scoped.scope) (nat_eq k item) (same_inner inner None) other) d

    module _ (is_variable : IsTrue (is_plain decl)) (at : slice_get scoped.items item ≡ Some decl)
        (not_given : entry_at item input ≡ None) where
      item_times : (before : List ℕ) (values : Items) (k : ℕ) (v : Option Value) → (b : Bool) → nat_eq k item ≡ b
          → (item_value scoped before values k (entry_at k input) (slice_get scoped.items k)).end ≡ Ok v
          → times_logged own (item_value scoped before values k (entry_at k input) (slice_get scoped.items k)).log ≡
          (if b then 1 else 0)
      item_times before values k v true e ends =
          let same = same_number k item e in
          own_once_at before values k same ends
        where
          own_once_at : (before : List ℕ) (values : Items) (k : ℕ) → k ≡ item
              → (item_value scoped before values k (entry_at k input) (slice_get scoped.items k)).end ≡ Ok v
              → times_logged own (item_value scoped before values k (entry_at k input) (slice_get scoped.items k)).log
              ≡ 1
          own_once_at before values k same ends =
              subst (λ (x : ℕ). (item_value scoped before values x (entry_at x input)
              (slice_get scoped.items x)).end ≡ Ok v
              → times_logged own (item_value scoped before values x (entry_at x input) (slice_get scoped.items x)).log
              ≡ 1) (sym same)
              (λ g. own_once before values is_variable (entry_at item input)
              (slice_get scoped.items item) not_given at v g) ends
      item_times before values k v false e ends =
          other_never before values k e (entry_at k input) (slice_get scoped.items k)

      -- a variable is logged as often as it stands in the order
      items_times : (left before : List ℕ) (values final : Items)
          → (run_items scoped input before values left).end ≡ Ok final
          → times_logged own (run_items scoped input before values left).log ≡ times left item
      items_times [] before values final ends = refl
      items_times (k ∷ left) before values final ends =
          let first = item_value scoped before values k (entry_at k input) (slice_get scoped.items k) in
          let next = λ (v : Option Value). run_items scoped input (k ∷ before) (with_entry k v values) left in
          let here = first_ok first next final ends in
          ap (times_logged own) (then_log first next here.0 here.1)
          ∙ times_append own first.log (next here.0).log
          ∙ ap (λ (n : ℕ). n + times_logged own (next here.0).log)
          (item_times before values k here.0 (nat_eq k item) refl here.1)
          ∙ ap (λ (n : ℕ). (if nat_eq k item then 1 else 0) + n)
          (items_times left (k ∷ before) (with_entry k here.0 values) final here.2)

      pub scoped_times : (outputs : List Value) → (run_scoped scoped input).end ≡ Ok outputs
          → times_logged own (run_scoped scoped input).log ≡ times scoped.order item
      scoped_times outputs ends =
          let whole = first_ok (run_items scoped input [] (no_values scoped.items) scoped.order) _ outputs ends in
          ap (times_logged own) (then_log (run_items scoped input []
          (no_values scoped.items) scoped.order) _ whole.0 whole.1)
          ∙ times_append own (run_items scoped input [] (no_values scoped.items) scoped.order).log _
          ∙ ap (λ (n : ℕ). times_logged own (run_items scoped input []
          (no_values scoped.items) scoped.order).log + n)
          (last_logs none_of refl (never_both own) scoped quiet quietly whole.0)
          ∙ plus_zero (times_logged own (run_items scoped input [] (no_values scoped.items) scoped.order).log)
          ∙ items_times scoped.order [] (no_values scoped.items) whole.0 whole.1
        where
          plus_zero : (n : ℕ) → n + 0 ≡ n
          plus_zero n = omega arith

-- ---- in a program

module _ (ds : Decls) (bodies : List Body) where
  first_out : (x n : ℕ) (before : List ℕ) → is_in x (n ∷ before) ≡ false
      → (nat_eq x n ≡ false) × (is_in x before ≡ false)
  first_out x n before h = by (nat_eq x n) refl h
    where
      by : (b : Bool) → nat_eq x n ≡ b → (if b then true else is_in x before) ≡ false
          → (nat_eq x n ≡ false) × (is_in x before ≡ false)
      by true e g = absurd (true≢false g)
      by false e g = (e, g)

  -- a scope's run doesn't tell of a target of a scope that doesn't stand before
  foreign : (t : Target) (before : List ℕ) → is_in t.scope before ≡ false → (s : ℕ) (i : Items)
      → Never t (run ds.scopes bodies before s i).log
  foreign t [] out s i = refl
  foreign t (n ∷ before) out s i = by (nat_eq n s) (foreign t before (first_out t.scope n before out).1)
    where
      one_scope : ((r : ℕ) (j : Items) → Never t (run ds.scopes bodies before r j).log)
          → (o : Option Scope) (p : Option Body)
          → Never t (run_scope ds.scopes (run ds.scopes bodies before) n o p i).log
      one_scope rest None p = refl
      one_scope rest (Some scope) None = refl
      one_scope rest (Some scope) (Some body) =
          scoped_logs (Never t) refl (never_both t)
          (scoped_of n scope.items body ds.scopes (run ds.scopes bodies before)) rest
          (λ value of target. target_logs (Never t) refl (never_both t) value of target body.defs)
          (λ item inner by. no_scope (nat_eq n t.scope) _
          (turned t.scope n false (first_out t.scope n before out).0)) i

      by : (b : Bool) → ((r : ℕ) (j : Items) → Never t (run ds.scopes bodies before r j).log)
          → Never t (if b then run_scope ds.scopes (run ds.scopes bodies before) n (slice_get ds.scopes n)
          (slice_get bodies n) i else run ds.scopes bodies before s i).log
      by true rest = one_scope rest (slice_get ds.scopes n) (slice_get bodies n)
      by false rest = rest s i

  module _ (number : ℕ) (scope : Scope) (body : Body) (scope_is : slice_get ds.scopes number ≡ Some scope)
      (body_is : slice_get bodies number ≡ Some body)
      (input : Items) (outputs : List Value) (item : ℕ) (decl : ItemDecl)
      (at : slice_get scope.items item ≡ Some decl) (is_variable : IsTrue (is_plain decl))
      (not_given : entry_at item input ≡ None) (stands_once : times body.order item ≡ 1) where
    abbrev of_scope : Target
    of_scope = record { scope = number; item = item; inner = None }

    here_once : (before : List ℕ) → is_in number before ≡ false
        → (run_scope ds.scopes (run ds.scopes bodies before) number (Some scope) (Some body) input).end ≡ Ok outputs
        → times_logged of_scope (run_scope ds.scopes (run ds.scopes bodies before) number (Some scope)
        (Some body) input).log ≡ 1
    here_once before out ends =
        scoped_times number scope.items body ds.scopes (run ds.scopes bodies before) input item decl
        (foreign of_scope before out) is_variable at not_given outputs ends ∙ stands_once

    once_among : (whole : List ℕ) → Distinct whole → (run ds.scopes bodies whole number input).end ≡ Ok outputs
        → times_logged of_scope (run ds.scopes bodies whole number input).log ≡ 1
    once_among [] differ ends = absurd (cc (ends))
    once_among (m ∷ before) differ ends = by (nat_eq m number) refl (once_among before differ.1) ends
      where
        found_as : run_scope ds.scopes (run ds.scopes bodies before) number (slice_get ds.scopes number)
            (slice_get bodies number) input
            ≡ run_scope ds.scopes (run ds.scopes bodies before) number (Some scope) (Some body) input
        found_as =
            ap (λ o. run_scope ds.scopes (run ds.scopes bodies before) number o
            (slice_get bodies number) input) scope_is
            ∙ ap (λ o. run_scope ds.scopes (run ds.scopes bodies before) number (Some scope) o input) body_is

        this : m ≡ number
            → run_scope ds.scopes (run ds.scopes bodies before) m (slice_get ds.scopes m) (slice_get bodies m) input
            ≡ run_scope ds.scopes (run ds.scopes bodies before) number (Some scope) (Some body) input
        this same =
            ap (λ (x : ℕ). run_scope ds.scopes (run ds.scopes bodies before) x (slice_get ds.scopes x)
            (slice_get bodies x) input) same ∙ found_as

        by : (b : Bool) → nat_eq m number ≡ b
            → ((run ds.scopes bodies before number input).end ≡ Ok outputs
            → times_logged of_scope (run ds.scopes bodies before number input).log ≡ 1)
            → (if b then run_scope ds.scopes (run ds.scopes bodies before) m (slice_get ds.scopes m)
            (slice_get bodies m) input else run ds.scopes bodies before number input).end ≡ Ok outputs
            → times_logged of_scope (if b then run_scope ds.scopes (run ds.scopes bodies before) m
            (slice_get ds.scopes m) (slice_get bodies m) input else run ds.scopes bodies before number input).log ≡ 1
        by true e rest ends_so =
            let same = same_number m number e in
            ap (λ (r : Run (List Value)). times_logged of_scope r.log) (this same)
            ∙ here_once before (subst (λ (x : ℕ). is_in x before ≡ false) same differ.0)
            (sym (ap (λ (r : Run (List Value)). r.end) (this same)) ∙ ends_so)
        by false e rest ends_so = rest ends_so

-- each variable of a scope that isn't given is logged once in a run that ends in a value
pub each_once : (ds : Decls) (bodies : List Body) (order : List ℕ) → ∥ IsWellFormed ds bodies order ∥₁
    → (number : ℕ) (scope : Scope) (body : Body)
    (input : Items) (outputs : List Value) (item : ℕ) (decl : ItemDecl) → slice_get ds.scopes number ≡ Some scope
    → slice_get bodies number ≡ Some body
    → slice_get scope.items item ≡ Some decl → IsTrue (is_plain decl) → entry_at item input ≡ None
    → (run_of ds.scopes bodies order number input).end ≡ Ok outputs
    → times_logged (record { scope = number; item = item; inner = None })
    (run_of ds.scopes bodies order number input).log ≡ 1
unfolding run_of
each_once ds bodies order formed number scope body input outputs item decl scope_is body_is at plain not_given ends =
    ∥∥₁_elim formed (hlevel props)
    (λ f. once_among ds bodies number scope body scope_is body_is input outputs item decl at plain not_given
    (stands_once f) (backwards order) (differ_of ds bodies order f) ends)
  where
    stands_once : IsWellFormed ds bodies order → times body.order item ≡ 1
    stands_once f =
        let b = body_at ds 0 ds.scopes bodies number f.bodies_are (slice_get_within ds.scopes number scope scope_is) in
        let below = slice_get_within scope.items item decl at in
        subst (λ (y : Body). times y.order item ≡ 1) (same_some b.body body (sym b.body_is ∙ body_is))
        (b.is.order.once item (subst (λ (n : ℕ). item < n)
        (sym (dependencies-length items_named b.body.defs 0 b.scope.items))
        (subst (λ (x : Scope). item < length x.items)
        (sym (same_some b.scope scope (sym b.scope_is ∙ scope_is))) below)))
