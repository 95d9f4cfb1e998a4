-- A function is judged by the rule of targets in the whole scope.
use Rattle.std.proofs.Common.{◌≡◌, ◌⊎◌, inl, inr, ℕ, ◌+◌, ◌<◌, ◌≤◌, Bool, true, false, IsTrue, List, [], ◌∷◌, ◌++◌}
use Rattle.std.proofs.Common.{length, take, drop, None, slice_get, refl, sym, ap, ◌∙◌, subst, arith, true≢false}
use Rattle.std.proofs.Common.{if◌then◌else◌}
use Rattle.std.specs.Prelude.{nat_eq}
use Rattle.std.proofs.lemmas.Bool.Decides.{nat_tests}
use Rattle.std.proofs.lemmas.List.{take-append-drop}
use Rattle.cat_order.specs.Order.{dependencies_of, times, IsOrder}
use Rattle.cat_value.specs.declared.value.Value.{Value}
use Rattle.cat_value.specs.declared.declaration.ItemDecl.{ItemDecl}
use Rattle.cat_value.specs.declared.declaration.Scope.{Scope}
use Rattle.cat_scope.specs.declared.defs.Def.{Def}
use Rattle.cat_scope.specs.declared.defs.Body.{Body}
use Rattle.cat_scope.specs.Runs.{Run}
use Rattle.cat_scope.specs.Names.{AllHave, is_in}
use Rattle.cat_scope.specs.Eval.{Env, eval}
use Rattle.cat_scope.specs.Orders.{in_def, in_defs_of, item_dependencies}
use Rattle.cat_scope.specs.Mentions.{items_named, scopes_named}
use Rattle.cat_scope.specs.Calls.{Items, Runs, Scoped, variable, env_of, judging_of, variable_value, call}
use Rattle.cat_scope.specs.Running.{moved, backwards, scoped_of}
use Rattle.cat_sound.specs.Rests.{TellSame, CallSame}
use Rattle.cat_sound.proofs.FormTypes.{same_number, not_true}
use Rattle.cat_sound.proofs.TargetTypes.{all_more}
use Rattle.cat_sound.proofs.OrderFacts.{AllIn, Behind, Ahead, moved-behind, moved_new, ahead-of_IsOrder, all-of_IsOrder}
use Rattle.cat_sound.proofs.OrderFacts.{ahead_as, dependencies-length, dependencies-at, in_more}
use Rattle.cat_sound.proofs.JudgingSame.{target_same, defs_agree}

-- ---- lists without repetition

abbrev pub Distinct : List ℕ → Type 0
Distinct [] = Unit {0}
Distinct (n ∷ ns) = (is_in n ns ≡ false) × Distinct ns

in_times : (xs : List ℕ) (x : ℕ) → IsTrue (is_in x xs) → 0 < times xs x
in_times [] x h = not_true h
in_times (y ∷ xs) x h = by (nat_eq x y) refl h (in_times xs x)
  where
    by : (b : Bool) → nat_eq x y ≡ b → IsTrue (if b then true else is_in x xs)
        → (IsTrue (is_in x xs) → 0 < times xs x) → 0 < times (y ∷ xs) x
    by true e g rest = grind (arith, nat_tests)
    by false e g rest = omega (arith, rest g)

pub distinct : (bound : ℕ) (needs : ℕ → List ℕ) (ns : List ℕ) → Behind bound needs ns
    → ((x : ℕ) → x < bound → times ns x ≤ 1) → Distinct ns
distinct bound needs [] behind few = tt
distinct bound needs (n ∷ ns) behind few =
    (by (is_in n ns) refl, distinct bound needs ns behind.2 (λ x below. fewer x (few x below)))
  where
    fewer : (x : ℕ) → times (n ∷ ns) x ≤ 1 → times ns x ≤ 1
    fewer x h = omega (arith, h)

    twice : 0 < times ns n → times (n ∷ ns) n ≤ 1 → ⊥
    twice some h = absurd (grind (arith, nat_tests, some, h))

    by : (b : Bool) → is_in n ns ≡ b → b ≡ false
    by true e = absurd (twice (in_times ns n e) (few n behind.0))
    by false e = refl

times_moved : (before left : List ℕ) (x : ℕ) → times (moved before left) x ≡ times before x + times left x
times_moved before [] x = omega arith
times_moved before (n ∷ left) x = let rest = times_moved (n ∷ before) left x in omega (arith, rest)

-- the order from its end has no number twice
pub distinct_order : (deps : List (List ℕ)) (order : List ℕ) (bound : ℕ) (needs : ℕ → List ℕ) → IsOrder deps order
    → length deps ≡ bound → Behind bound needs (backwards order) → Distinct (backwards order)
distinct_order deps order bound needs is same behind =
    distinct bound needs (backwards order) behind (λ x below. once x below (times_moved [] order x))
  where
    once : (x : ℕ) → x < bound → times (backwards order) x ≡ times [] x + times order x → times (backwards order) x ≤ 1
    once x below e = let one = is.once x (omega (arith, below, same)) in omega (arith, e, one)

pub distinct_front : (before left : List ℕ) → Distinct (moved before left) → Distinct before
distinct_front before [] h = h
distinct_front before (n ∷ left) h = (distinct_front (n ∷ before) left h).1

-- a number that isn't the first
pub other_than : (m k : ℕ) (before : List ℕ) → is_in m before ≡ false → IsTrue (is_in k before) → nat_eq m k ≡ false
other_than m k before out there = by (nat_eq m k) refl
  where
    by : (b : Bool) → nat_eq m k ≡ b → b ≡ false
    by true e = absurd (true≢false (sym there ∙ ap (λ (x : ℕ). is_in x before) (sym (same_number m k e)) ∙ out))
    by false e = refl

-- what a number needs stands behind it
pub needs_behind : (bound : ℕ) (needs : ℕ → List ℕ) (before : List ℕ) (k : ℕ) → Behind bound needs before
    → IsTrue (is_in k before) → AllIn before (needs k)
needs_behind bound needs [] k behind there = not_true there
needs_behind bound needs (m ∷ before) k behind there =
    by (nat_eq k m) refl there (λ g. needs_behind bound needs before k behind.2 g)
  where
    by : (b : Bool) → nat_eq k m ≡ b → IsTrue (if b then true else is_in k before)
        → (IsTrue (is_in k before) → AllIn before (needs k)) → AllIn (m ∷ before) (needs k)
    by true e g rest =
        all_more (λ n. IsTrue (is_in n before)) (λ n. IsTrue (is_in n (m ∷ before))) (needs k)
        (subst (λ (x : ℕ). AllIn before (needs x)) (sym (same_number k m e)) behind.1) (λ n h. in_more n m before h)
    by false e g rest =
        all_more (λ n. IsTrue (is_in n before)) (λ n. IsTrue (is_in n (m ∷ before))) (needs k) (rest g)
        (λ n h. in_more n m before h)

in_moved : (before left : List ℕ) (x : ℕ) → IsTrue (is_in x (moved before left))
    → IsTrue (is_in x before) ⊎ IsTrue (is_in x left)
in_moved before [] x h = inl h
in_moved before (n ∷ left) x h = either_in (in_moved (n ∷ before) left x h)
  where
    first_in : (b : Bool) → nat_eq x n ≡ b → IsTrue (if b then true else is_in x before)
        → IsTrue (is_in x before) ⊎ IsTrue (is_in x (n ∷ left))
    first_in true e g = inr (ap (λ (b : Bool). if b then true else is_in x left) e)
    first_in false e g = inl g

    either_in : IsTrue (is_in x (n ∷ before)) ⊎ IsTrue (is_in x left)
        → IsTrue (is_in x before) ⊎ IsTrue (is_in x (n ∷ left))
    either_in (inl g) = first_in (nat_eq x n) refl g
    either_in (inr g) = inr (in_more x n left g)

in_moved_front : (left : List ℕ) (x : ℕ) → IsTrue (is_in x (backwards left)) → IsTrue (is_in x left)
in_moved_front left x h = which (in_moved [] left x h)
  where
    which : IsTrue (is_in x []) ⊎ IsTrue (is_in x left) → IsTrue (is_in x left)
    which (inl g) = not_true g
    which (inr g) = g

pub moved_append : (before front back : List ℕ) → moved before (front ++ back) ≡ moved (moved before front) back
moved_append before [] back = refl
moved_append before (n ∷ front) back = moved_append (n ∷ before) front back

ahead_front : (bound : ℕ) (needs : ℕ → List ℕ) (before front back : List ℕ)
    → Ahead bound needs before (front ++ back) → Ahead bound needs before front
ahead_front bound needs before [] back h = tt
ahead_front bound needs before (n ∷ front) back h = (h.0, h.1, ahead_front bound needs (n ∷ before) front back h.2)

-- ---- functions of a scope

module _ (number : ℕ) (items : List ItemDecl) (body : Body) (scopes : List Scope) (runs : Runs) where
  abbrev scoped : Scoped
  scoped = scoped_of number items body scopes runs

  abbrev needs : ℕ → List ℕ
  needs item = in_defs_of items_named item body.defs

  abbrev Calls : Type 0
  Calls = ℕ → List Value → Run Value

  no_scopes : (a b : Env) → ((k : ℕ) → CallSame a b k) → (defs : List Def)
      → AllHave (λ d. AllHave (CallSame a b) (in_def scopes_named d)) defs
  no_scopes a b go [] = tt
  no_scopes a b go (d ∷ defs) = (each (in_def scopes_named d), no_scopes a b go defs)
    where
      each : (ks : List ℕ) → AllHave (CallSame a b) ks
      each [] = tt
      each (k ∷ ks) = (go k, each ks)

  -- what the functions and the values tell of an item
  abbrev Tells : Calls → Calls → Items → Items → ℕ → Type 0
  Tells calls others values more k = TellSame (env_of scoped calls values) (env_of scoped others more) k

  judged_as : (calls others : Calls) (values more : Items) (arguments : List Value) (item : ℕ)
      → AllHave (Tells calls others values more) (needs item)
      → judging_of scoped calls values arguments (variable scoped item) ≡ judging_of scoped others more arguments
      (variable scoped item)
  judged_as calls others values more arguments item tell =
      target_same (λ e. eval (env_of scoped calls values) e arguments)
      (λ e. eval (env_of scoped others more) e arguments) (variable scoped item) body.defs
      (defs_agree (env_of scoped calls values)
      (env_of scoped others more) arguments item None scoped.scope refl body.defs tell
      (no_scopes (env_of scoped calls values) (env_of scoped others more) (λ k fields output. refl) body.defs))

  -- one more item behind changes nothing
  one_behind : (values : Items) (m : ℕ) (before : List ℕ) (f : ℕ) (arguments : List Value) → is_in m before ≡ false
      → IsTrue (is_in f before) → call scoped values (m ∷ before) f arguments ≡ call scoped values before f arguments
  one_behind values m before f arguments out there =
      ap (λ (b : Bool). if b then variable_value (variable scoped m) (slice_get scoped.items m)
      (judging_of scoped (call scoped values before) values arguments
      (variable scoped m)) else call scoped values before f arguments) (other_than m f before out there)

  tells_behind : (values : Items) (m : ℕ) (before ns : List ℕ) → is_in m before ≡ false → AllIn before ns
      → AllHave (Tells (call scoped values before) (call scoped values (m ∷ before)) values values) ns
  tells_behind values m before ns out have =
      all_more (λ n. IsTrue (is_in n before)) (Tells (call scoped values before)
      (call scoped values (m ∷ before)) values values) ns have
      (λ n there. record { value = refl; call = λ arguments. sym (one_behind values m before n arguments out there) })

  -- what a function gives by its judging
  abbrev Judging : Items → List ℕ → ℕ → List Value → Run Value
  Judging values before f arguments =
      variable_value (variable scoped f) (slice_get scoped.items f)
      (judging_of scoped (call scoped values before) values arguments (variable scoped f))

  further : (values : Items) (m : ℕ) (before : List ℕ) (f : ℕ) (arguments : List Value) → is_in m before ≡ false
      → AllIn before (needs f) → Judging values before f arguments ≡ Judging values (m ∷ before) f arguments
  further values m before f arguments out have =
      ap (variable_value (variable scoped f) (slice_get scoped.items f))
      (judged_as (call scoped values before) (call scoped values (m ∷ before)) values values arguments f
      (tells_behind values m before (needs f) out have))

  pub judged_by_rule : (bound : ℕ) (values : Items) (whole : List ℕ) → Behind bound needs whole → Distinct whole
      → (f : ℕ) → IsTrue (is_in f whole) → (arguments : List Value)
      → call scoped values whole f arguments ≡ Judging values whole f arguments
  judged_by_rule bound values [] behind differ f there arguments = not_true there
  judged_by_rule bound values (m ∷ before) behind differ f there arguments =
      by (nat_eq m f) refl (λ g. judged_by_rule bound values before behind.2 differ.1 f g arguments)
    where
      inside : nat_eq m f ≡ false → IsTrue (is_in f before)
      inside e = find (nat_eq f m) refl there
        where
          turned : (x y : ℕ) → nat_eq x y ≡ true → nat_eq y x ≡ true
          turned x y q = grind (arith, nat_tests)

          find : (c : Bool) → nat_eq f m ≡ c → IsTrue (if c then true else is_in f before) → IsTrue (is_in f before)
          find true q g = absurd (true≢false (sym (turned f m q) ∙ e))
          find false q g = g

      by : (b : Bool) → nat_eq m f ≡ b → (IsTrue (is_in f before)
          → call scoped values before f arguments ≡ Judging values before f arguments)
          → (if b then Judging values before m arguments else call scoped values before f arguments) ≡ Judging values
          (m ∷ before) f arguments
      by true e rest =
          ap (λ (x : ℕ). Judging values before x arguments) (same_number m f e)
          ∙ further values m before f arguments differ.0
          (subst (λ (x : ℕ). AllIn before (needs x)) (same_number m f e) behind.1)
      by false e rest =
          rest (inside e)
          ∙ further values m before f arguments differ.0 (needs_behind bound needs before f behind.2 (inside e))

  -- more items behind change nothing
  pub many_behind : (values : Items) (before left : List ℕ) → Distinct (moved before left) → (f : ℕ)
      → IsTrue (is_in f before) → (arguments : List Value)
      → call scoped values (moved before left) f arguments ≡ call scoped values before f arguments
  many_behind values before [] differ f there arguments = refl
  many_behind values before (n ∷ left) differ f there arguments =
      many_behind values (n ∷ before) left differ f (in_more f n before there) arguments
      ∙ one_behind values n before f arguments (distinct_front (n ∷ before) left differ).0 there

  -- nor do their values
  pub values_behind : (bound : ℕ) (values more : Items) (before : List ℕ) → Behind bound needs before
      → ((k : ℕ) → IsTrue (is_in k before) → slice_get values k ≡ slice_get more k)
      → (f : ℕ) (arguments : List Value) → call scoped values before f arguments ≡ call scoped more before f arguments
  values_behind bound values more [] behind same f arguments = refl
  values_behind bound values more (m ∷ before) behind same f arguments =
      let rest = λ (g : ℕ) (others : List Value). values_behind bound values more before behind.2
      (λ k there. same k (in_more k m before there)) g others in
      ap (λ (r : Run Value). if nat_eq m f then r else call scoped values before f arguments)
      (ap (variable_value (variable scoped m) (slice_get scoped.items m))
      (judged_as (call scoped values before) (call scoped more before) values more arguments m
      (all_more (λ n. IsTrue (is_in n before)) (Tells (call scoped values before)
      (call scoped more before) values more) (needs m) behind.1
      (λ n there. record { value = same n (in_more n m before there); call = λ others. rest n others }))))
      ∙ ap (λ (r : Run Value). if nat_eq m f then variable_value (variable scoped m) (slice_get scoped.items m)
      (judging_of scoped (call scoped more before) more arguments (variable scoped m)) else r) (rest f arguments)

  -- ---- by the order

  module _ (order : IsOrder (item_dependencies scoped.items body.defs) scoped.order) where
    abbrev bound : ℕ
    bound = length scoped.items

    ahead : Ahead bound needs [] scoped.order
    ahead =
        ahead_as (length (item_dependencies scoped.items body.defs)) bound
        (dependencies_of (item_dependencies scoped.items body.defs)) needs
        (dependencies-length items_named body.defs 0 scoped.items)
        (λ n below before all. subst (λ ns. AllIn before ns)
        (dependencies-at items_named body.defs 0 scoped.items n
        (omega (arith, below, dependencies-length items_named body.defs 0 scoped.items)) ∙ ap
        (λ (m : ℕ). needs m) (zero_plus n)) all)
        [] scoped.order
        (ahead-of_IsOrder (item_dependencies scoped.items body.defs) scoped.order order)
      where
        zero_plus : (n : ℕ) → 0 + n ≡ n
        zero_plus n = omega arith

    whole_behind : Behind bound needs (backwards scoped.order)
    whole_behind = moved-behind bound needs [] scoped.order tt ahead

    differ : Distinct (backwards scoped.order)
    differ =
        distinct_order (item_dependencies scoped.items body.defs) scoped.order bound needs order
        (dependencies-length items_named body.defs 0 scoped.items) whole_behind

    pub by_rule : (values : Items) (f : ℕ) (arguments : List Value) → f < bound → call scoped values
        (backwards scoped.order) f arguments ≡ Judging values (backwards scoped.order) f arguments
    by_rule values f arguments below =
        judged_by_rule bound values (backwards scoped.order) whole_behind differ f
        (moved_new f [] scoped.order (all-of_IsOrder
        (item_dependencies scoped.items body.defs) scoped.order order f
        (omega (arith, below, dependencies-length items_named body.defs 0 scoped.items)))) arguments

    pub nothing_behind : (values more : Items) (index f : ℕ) (arguments : List Value)
        → IsTrue (is_in f (take index scoped.order))
        → ((k : ℕ) → IsTrue (is_in k (take index scoped.order)) → slice_get values k ≡ slice_get more k)
        → call scoped values (backwards (take index scoped.order)) f arguments ≡ call scoped more
        (backwards scoped.order) f arguments
    nothing_behind values more index f arguments there same =
        let front = take index scoped.order in
        let back = drop index scoped.order in
        let parts : scoped.order ≡ front ++ back = sym (take-append-drop index scoped.order) in
        let whole : backwards scoped.order ≡ moved (backwards front) back = ap backwards parts
        ∙ moved_append [] front back in
        values_behind bound values more (backwards front)
        (moved-behind bound needs [] front tt (ahead_front bound needs [] front back
        (subst (λ (xs : List ℕ). Ahead bound needs [] xs) parts ahead)))
        (λ k among. same k (in_moved_front front k among)) f arguments
        ∙ sym (many_behind more (backwards front) back (subst Distinct whole differ) f
        (moved_new f [] front there) arguments)
        ∙ ap (λ (xs : List ℕ). call scoped more xs f arguments) (sym whole)
