-- In an order each number stands behind those that it needs.
use Rattle.std.proofs.Common.{◌≡◌, ℕ, zero, suc, ◌+◌, ◌<◌, Bool, true, false, IsTrue, List, [], ◌∷◌, ◌++◌, length, take}
use Rattle.std.proofs.Common.{get_or, Some, slice_get, refl, sym, ap, ◌∙◌, subst, arith, true≢false, if◌then◌else◌}
use Rattle.std.specs.Prelude.{nat_eq}
use Rattle.std.proofs.lemmas.Bool.Decides.{nat_tests}
use Rattle.std.proofs.lemmas.List.{take_at, get_or_at}
use Rattle.cat_order.specs.Order.{dependencies_of, times, is_ready, IsInOrder, IsOrder}
use Rattle.cat_order.specs.inside.Steps.{missing}
use Rattle.cat_order.proofs.Exported.{Ready-of_is_ready}
use Rattle.cat_value.specs.declared.declaration.ItemDecl.{ItemDecl}
use Rattle.cat_value.specs.declared.declaration.Scope.{Scope}
use Rattle.cat_scope.specs.declared.expr.Expr.{Expr}
use Rattle.cat_scope.specs.declared.defs.Def.{Def}
use Rattle.cat_scope.specs.declared.defs.Body.{Body}
use Rattle.cat_scope.specs.Names.{AllHave, is_in}
use Rattle.cat_scope.specs.Mentions.{items_named}
use Rattle.cat_scope.specs.Orders.{in_defs_of, item_dependencies, dependencies_from, once, calls_in}
use Rattle.cat_scope.specs.Orders.{scope_dependencies}
use Rattle.cat_scope.specs.Running.{moved, backwards}
use Rattle.cat_sound.proofs.FormTypes.{same_some, same_number, not_true}

-- each number of a list stands in another
abbrev pub AllIn : List ℕ → List ℕ → Type 0
AllIn before ns = AllHave (λ n. IsTrue (is_in n before)) ns

pub in_at : (P : ℕ → Type 0) (ns : List ℕ) (n : ℕ) → AllHave P ns → IsTrue (is_in n ns) → P n
in_at P [] n h there = not_true there
in_at P (m ∷ ns) n h there = by (nat_eq n m) refl there (in_at P ns n h.1)
  where
    by : (b : Bool) → nat_eq n m ≡ b → IsTrue (if b then true else is_in n ns) → (IsTrue (is_in n ns) → P n) → P n
    by true e g rest = subst P (sym (same_number n m e)) h.0
    by false e g rest = rest g

pub in_more : (x y : ℕ) (ns : List ℕ) → IsTrue (is_in x ns) → IsTrue (is_in x (y ∷ ns))
in_more x y ns h = by (nat_eq x y)
  where
    by : (b : Bool) → IsTrue (if b then true else is_in x ns)
    by true = refl
    by false = h

in_first : (x : ℕ) (ns : List ℕ) → IsTrue (is_in x (x ∷ ns))
in_first x ns = grind (arith, nat_tests)

-- what is among some numbers, and is not the first of them
pub behind_first : (a b : ℕ) (before : List ℕ) → nat_eq a b ≡ false → IsTrue (is_in b (a ∷ before))
    → IsTrue (is_in b before)
behind_first a b before e h = by (nat_eq b a) refl h
  where
    turned : (x y : ℕ) → nat_eq x y ≡ true → nat_eq y x ≡ true
    turned x y q = grind (arith, nat_tests)

    by : (c : Bool) → nat_eq b a ≡ c → IsTrue (if c then true else is_in b before) → IsTrue (is_in b before)
    by true q g = absurd (true≢false (sym (turned b a q) ∙ e))
    by false q g = g

-- numbers, the last of them first, each of which needs some of those before it
module _ (bound : ℕ) (needs : ℕ → List ℕ) where
  abbrev pub Behind : List ℕ → Type 0
  Behind [] = Unit {0}
  Behind (n ∷ before) = (n < bound) × AllIn before (needs n) × Behind before

  -- numbers that come behind those that stand before
  abbrev pub Ahead : List ℕ → List ℕ → Type 0
  Ahead before [] = Unit {0}
  Ahead before (n ∷ left) = (n < bound) × AllIn before (needs n) × Ahead (n ∷ before) left

  pub moved-behind : (before left : List ℕ) → Behind before → Ahead before left → Behind (moved before left)
  moved-behind before [] h more = h
  moved-behind before (n ∷ left) h more = moved-behind (n ∷ before) left (more.0, more.1, h) more.2

moved_old : (x : ℕ) (before left : List ℕ) → IsTrue (is_in x before) → IsTrue (is_in x (moved before left))
moved_old x before [] h = h
moved_old x before (n ∷ left) h = moved_old x (n ∷ before) left (in_more x n before h)

pub moved_new : (x : ℕ) (before left : List ℕ) → IsTrue (is_in x left) → IsTrue (is_in x (moved before left))
moved_new x before [] h = not_true h
moved_new x before (n ∷ left) h = by (nat_eq x n) refl h (moved_new x (n ∷ before) left)
  where
    by : (b : Bool) → nat_eq x n ≡ b → IsTrue (if b then true else is_in x left)
        → (IsTrue (is_in x left) → IsTrue (is_in x (moved (n ∷ before) left)))
        → IsTrue (is_in x (moved (n ∷ before) left))
    by true e g rest = moved_old x (n ∷ before) left
        (subst (λ (m : ℕ). IsTrue (is_in x (m ∷ before))) (same_number x n e) (in_first x before))
    by false e g rest = rest g

-- ---- from the order

pub listed_in : (xs : List ℕ) (x : ℕ) → 0 < times xs x → IsTrue (is_in x xs)
listed_in [] x h = absurd (omega arith)
listed_in (y ∷ xs) x h = grind (arith, nat_tests, listed_in xs x)

none_missing_in : (front before ns : List ℕ) → ((x : ℕ) → 0 < times front x → IsTrue (is_in x before))
    → missing front ns ≡ 0 → AllIn before ns
none_missing_in front before [] go h = tt
none_missing_in front before (n ∷ ns) go h =
    (go n (listed front n ns h), none_missing_in front before ns go (omega arith))
  where
    listed : (front : List ℕ) (n : ℕ) (ns : List ℕ) → missing front (n ∷ ns) ≡ 0 → 0 < times front n
    listed front n ns g = grind (arith, nat_tests)

in_push : (front before : List ℕ) (n : ℕ) → ((x : ℕ) → 0 < times front x → IsTrue (is_in x before)) → (x : ℕ)
    → 0 < times (front ++ n ∷ []) x → IsTrue (is_in x (n ∷ before))
in_push front before n go x h = by (nat_eq x n) refl
  where
    other : (front : List ℕ) → nat_eq x n ≡ false → 0 < times (front ++ n ∷ []) x → 0 < times front x
    other [] e g = absurd (not_true (sym e ∙ alone (listed_in (n ∷ []) x g)))
      where
        alone : IsTrue (is_in x (n ∷ [])) → nat_eq x n ≡ true
        alone g = grind (arith, nat_tests)
    other (y ∷ front) e g = grind (arith, nat_tests, other front e)

    by : (b : Bool) → nat_eq x n ≡ b → IsTrue (if b then true else is_in x before)
    by true e = refl
    by false e = go x (other front e h)

order-ahead : (deps : List (List ℕ)) (listed : List ℕ) → IsInOrder deps listed → (front left before : List ℕ) → front
    ++ left ≡ listed
    → ((x : ℕ) → 0 < times front x → IsTrue (is_in x before)) → Ahead (length deps) (dependencies_of deps) before left
order-ahead deps listed in_order front [] before is go = tt
order-ahead deps listed in_order front (n ∷ left) before is go =
    let here : get_or listed (length front) 0 ≡ n =
    subst (λ (xs : List ℕ). get_or xs (length front) 0 ≡ n) is (get_or_at front n left 0 (length front) refl) in
    let those : take (length front) listed ≡ front =
    subst (λ (xs : List ℕ). take (length front) xs ≡ front) is (take_at front (n ∷ left) (length front) refl) in
    let next = in_order (length front) (subst (λ (xs : List ℕ). length front < length xs) is (shorter front n left)) in
    let ready = Ready-of_is_ready deps front n (subst (λ (xs : List ℕ). is_ready deps xs n ≡ true) those
    (subst (λ (m : ℕ). is_ready deps (take (length front) listed) m ≡ true) here next.ready)) in (
      ready.within,
      none_missing_in front before (dependencies_of deps n) go ready.none_missing,
      order-ahead deps listed in_order (front ++ n ∷ []) left (n ∷ before) (again front n left ∙ is)
          (in_push front before n go),
    )
  where
    shorter : (front : List ℕ) (n : ℕ) (left : List ℕ) → length front < length (front ++ n ∷ left)
    shorter [] n left = omega arith
    shorter (x ∷ front) n left = omega (arith, shorter front n left)

    again : (front : List ℕ) (n : ℕ) (left : List ℕ) → (front ++ n ∷ []) ++ left ≡ front ++ n ∷ left
    again [] n left = refl
    again (x ∷ front) n left = ap (λ xs. x ∷ xs) (again front n left)

pub ahead-of_IsOrder : (deps : List (List ℕ)) (listed : List ℕ) → IsOrder deps listed
    → Ahead (length deps) (dependencies_of deps) [] listed
ahead-of_IsOrder deps listed order =
    order-ahead deps listed order.in_order [] listed [] refl (λ x h. absurd (omega arith))

pub all-of_IsOrder : (deps : List (List ℕ)) (listed : List ℕ) → IsOrder deps listed → (n : ℕ) → n < length deps
    → IsTrue (is_in n listed)
all-of_IsOrder deps listed order n below = listed_in listed n (omega (arith, order.once n below))

pub ahead_as : (bound other : ℕ) (needs wants : ℕ → List ℕ) → bound ≡ other
    → ((n : ℕ) → n < bound → (before : List ℕ) → AllIn before (needs n) → AllIn before (wants n))
    → (before left : List ℕ)
    → Ahead bound needs before left → Ahead other wants before left
ahead_as bound other needs wants same go before [] h = tt
ahead_as bound other needs wants same go before (n ∷ left) h =
    (omega (arith, h.0), go n h.0 before h.1, ahead_as bound other needs wants same go (n ∷ before) left h.2)

-- ---- the dependencies of items and of scopes

pub dependencies-length : (named : Expr → List ℕ) (defs : List Def) (n : ℕ) (items : List ItemDecl)
    → length (dependencies_from named defs n items) ≡ length items
dependencies-length named defs n [] = refl
dependencies-length named defs n (item ∷ items) = ap suc (dependencies-length named defs (n + 1) items)

pub dependencies-at : (named : Expr → List ℕ) (defs : List Def) (n : ℕ) (items : List ItemDecl) (k : ℕ)
    → k < length items → dependencies_of (dependencies_from named defs n items) k ≡ in_defs_of named (n + k) defs
dependencies-at named defs n [] k below = absurd (omega arith)
dependencies-at named defs n (item ∷ items) zero below = ap (λ (m : ℕ). in_defs_of named m defs) (omega arith)
dependencies-at named defs n (item ∷ items) (suc k) below = dependencies-at named defs (n + 1) items k (omega arith)
    ∙ ap (λ (m : ℕ). in_defs_of named m defs) (omega arith)

pub items_ahead : (items : List ItemDecl) (defs : List Def) (order : List ℕ)
    → IsOrder (item_dependencies items defs) order
    → Ahead (length items) (λ item. in_defs_of items_named item defs) [] order
items_ahead items defs order is =
    ahead_as (length (item_dependencies items defs)) (length items) (dependencies_of (item_dependencies items defs))
    (λ item. in_defs_of items_named item defs) (dependencies-length items_named defs 0 items)
    (λ n below before all. subst (λ (ks : List ℕ). AllIn before ks)
    (those n (omega (arith, dependencies-length items_named defs 0 items, below))) all) [] order
    (ahead-of_IsOrder (item_dependencies items defs) order is)
  where
    those : (n : ℕ) → n < length items
        → dependencies_of (item_dependencies items defs) n ≡ in_defs_of items_named n defs
    those n below =
        dependencies-at items_named defs 0 items n below
        ∙ ap (λ (m : ℕ). in_defs_of items_named m defs) (omega arith)

pub items_listed : (items : List ItemDecl) (defs : List Def) (order : List ℕ)
    → IsOrder (item_dependencies items defs) order → (k : ℕ) → k < length items
    → IsTrue (is_in k (backwards order))
items_listed items defs order is k below =
    moved_new k [] order (all-of_IsOrder (item_dependencies items defs) order is k
    (omega (arith, dependencies-length items_named defs 0 items, below)))

pub scopes-length : (scopes : List Scope) (bodies : List Body) → length bodies ≡ length scopes
    → length (scope_dependencies scopes bodies) ≡ length scopes
scopes-length [] bodies same = refl
scopes-length (scope ∷ scopes) [] same = absurd (omega arith)
scopes-length (scope ∷ scopes) (body ∷ bodies) same = ap suc (scopes-length scopes bodies (omega arith))

pub scopes-at : (scopes : List Scope) (bodies : List Body) (k : ℕ) (scope : Scope) (body : Body)
    → slice_get scopes k ≡ Some scope → slice_get bodies k ≡ Some body
    → dependencies_of (scope_dependencies scopes bodies) k ≡ once [] (calls_in scope.items body)
scopes-at [] bodies k scope body is also = absurd (cc)
scopes-at (s ∷ scopes) [] k scope body is also = absurd (cc)
scopes-at (s ∷ scopes) (b ∷ bodies) zero scope body is also =
    let one = same_some s scope is in
    let two = same_some b body also in
    ap (λ (x : Scope). once [] (calls_in x.items b)) one ∙ ap (λ (x : Body). once [] (calls_in scope.items x)) two
scopes-at (s ∷ scopes) (b ∷ bodies) (suc k) scope body is also = scopes-at scopes bodies k scope body is also

-- what holds of each number once holds of each
pub all_once : (P : ℕ → Type 0) (seen ns : List ℕ) → AllHave P seen → AllHave P (once seen ns) → AllHave P ns
all_once P seen [] old h = tt
all_once P seen (n ∷ ns) old h = by (is_in n seen) refl h (all_once P seen ns) (all_once P (n ∷ seen) ns)
  where
    by : (b : Bool) → is_in n seen ≡ b → AllHave P (if b then once seen ns else n ∷ once (n ∷ seen) ns)
        → (AllHave P seen → AllHave P (once seen ns) → AllHave P ns)
        → (AllHave P (n ∷ seen) → AllHave P (once (n ∷ seen) ns) → AllHave P ns) → AllHave P (n ∷ ns)
    by true e g one other = (in_at P seen n old e, one old g)
    by false e g one other = (g.0, other (g.0, old) g.1)
