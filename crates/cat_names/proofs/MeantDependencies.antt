-- What items and scopes depend on, by what a tree says of them, is there; and where a scope calls another.
use Rattle.std.specs.List.{enumerate_from}
use Rattle.std.proofs.Common.{◌≡◌, ◌<◌, ◌≤◌, ◌==◌, ◌+◌, nat_eq, nat_lt, ℕ, zero, suc, Bool, true, false, IsTrue, List}
use Rattle.std.proofs.Common.{[], ◌∷◌, ◌++◌, length, map, Option, Some, None, Ok, slice_get, refl, sym, ap, ◌∙◌, subst}
use Rattle.std.proofs.Common.{arith, rules, All, if◌then◌else◌, inl, inr, true≢false}
use Rattle.std.proofs.lemmas.Bool.Decides.{nat_tests}
use Rattle.std.proofs.lemmas.List.{length-map}
use Rattle.cat_order.specs.Order.{AreItems, dependencies_of, is_listed, times}
use Rattle.cat_order.specs.Cycle.{DependsOn}
use Rattle.cat_value.specs.declared.ty.Ty.{Ty}
use Rattle.cat_value.specs.declared.declaration.ItemDecl.{ItemDecl}
use Rattle.cat_value.specs.declared.declaration.Scope.{Scope}
use Rattle.cat_value.specs.declared.decls.Decls.{Decls}
use Rattle.cat_value.specs.Laws.{AreSound}
use Rattle.cat_value.proofs.Exported.{within, found}
use Rattle.cat_tree.specs.declared.program.Item.{Item}
use Rattle.cat_tree.specs.declared.program.Tree.{Tree}
use Rattle.cat_scope.specs.declared.expr.Expr.{Expr}
use Rattle.cat_scope.specs.declared.defs.Def.{Def}
use Rattle.cat_scope.specs.declared.defs.Body.{Body}
use Rattle.cat_scope.specs.Names.{Names, AllHave, IsOneOf}
use Rattle.cat_scope.specs.Naming.{IsTargetAt}
use Rattle.cat_scope.specs.Mentions.{items_named}
use Rattle.cat_scope.specs.WellFormed.{DefTyped, ConditionTyped}
use Rattle.cat_scope.specs.Orders.{in_condition, in_def, in_defs_of, dependencies_from, item_dependencies, calls_in}
use Rattle.cat_scope.specs.Orders.{once, scope_dependencies}
use Rattle.cat_names.proofs.ListLaws.{each_of}
use Rattle.cat_scope.proofs.Exported.{all_append}
use Rattle.cat_names.specs.Found.{each_found}
use Rattle.cat_names.specs.Bodies.{UnorderedBody, body_found}
use Rattle.cat_names.specs.ScopeWords.{words_in}
use Rattle.cat_names.specs.Accepted.{unordered, IsMeant}
use Rattle.cat_names.proofs.Lookups.{first_is}
use Rattle.cat_names.proofs.OkParts.{both_ok}
use Rattle.cat_names.proofs.ByOrder.{all_by}
use Rattle.cat_names.proofs.WholeLaws.{IsTypedBody, AreTypedBodies, meant_typed}
use Rattle.cat_names.proofs.NamedTyped.{named}
use Rattle.cat_names.proofs.LowDeclared.{alone}
use Rattle.cat_names.proofs.MeantCalls.{IsCalledBy, calls_sourced}

-- ---- items

module _ (ns : Names) (n : ℕ) where
  abbrev IsItem_ : ℕ → Type 0
  IsItem_ i = i < length ns.items

  target_there : (item : ℕ) (inner : Option ℕ) (params : List Ty) (t : Ty) → IsTargetAt ns item inner params t
      → item < length ns.items
  target_there item None params t is = within ns.items item is.decl is.decl_is
  target_there item (Some k) params t is = within ns.items item is.called is.called_is

  pub targets_there : (defs : List Def) → AllHave (DefTyped ns n) defs
      → AllHave (λ d. d.target.item < length ns.items) defs
  targets_there [] all = tt
  targets_there (d ∷ defs) all =
      (target_there d.target.item d.target.inner all.0.params all.0.ty all.0.target, targets_there defs all.1)

  condition_items : (params : List Ty) (c : Option Expr) → ConditionTyped ns params c
      → AllHave IsItem_ (in_condition items_named c)
  condition_items params None h = tt
  condition_items params (Some e) h = (named h).0

  def_items : (d : Def) → DefTyped ns n d → AllHave IsItem_ (in_def items_named d)
  def_items d is = all_append IsItem_ (in_condition items_named d.condition) (items_named d.consequence)
      (condition_items is.params d.condition is.condition) (named is.consequence).0

  defs_items : (item : ℕ) (defs : List Def) → AllHave (DefTyped ns n) defs
      → AllHave IsItem_ (in_defs_of items_named item defs)
  defs_items item [] all = tt
  defs_items item (d ∷ defs) all =
      by (nat_eq d.target.item item) (all_append IsItem_ (in_def items_named d) _ (def_items d all.0)
      (defs_items item defs all.1)) (defs_items item defs all.1)
    where
      by : (b : Bool) → AllHave IsItem_ (in_def items_named d ++ in_defs_of items_named item defs)
          → AllHave IsItem_ (in_defs_of items_named item defs)
          → AllHave IsItem_
          (if b then in_def items_named d ++ in_defs_of items_named item defs else in_defs_of items_named item defs)
      by true h i = h
      by false h i = i

  each_items : (defs : List Def) → AllHave (DefTyped ns n) defs → (k : ℕ) (items : List ItemDecl)
      → AllHave (AllHave IsItem_) (dependencies_from items_named defs k items)
  each_items defs all k [] = tt
  each_items defs all k (i ∷ items) = (defs_items k defs all, each_items defs all (k + 1) items)

pub as_long : (defs : List Def) (k : ℕ) (items : List ItemDecl)
    → length (dependencies_from items_named defs k items) ≡ length items
as_long defs k [] = refl
as_long defs k (i ∷ items) = omega (arith, as_long defs (k + 1) items)

-- what typed definitions make items depend on are items
pub items_are_items : (ns : Names) (n : ℕ) (defs : List Def) → AllHave (DefTyped ns n) defs
    → AreItems (item_dependencies ns.items defs)
items_are_items ns n defs all =
    let deps = item_dependencies ns.items defs in
    all_by (All (λ i. i < length deps)) deps
    (each_of (AllHave (λ i. i < length ns.items)) (All (λ i. i < length deps)) (λ xs h.
    all_by (λ i. i < length deps) xs
    (subst (λ m. AllHave (λ i. i < m) xs) (sym (as_long defs 0 ns.items)) h)) deps
    (each_items ns n defs all 0 ns.items))

-- ---- bodies, by their numbers

typed_at : (ds : Decls) (n : ℕ) (scopes : List Scope) (bodies : List UnorderedBody) (k : ℕ) (s : Scope)
    (b : UnorderedBody) → AreTypedBodies ds n scopes bodies → slice_get scopes k ≡ Some s
    → slice_get bodies k ≡ Some b → IsTypedBody ds (n + k) s b
typed_at ds n [] bodies k s b typed at is = cc at
typed_at ds n (t ∷ scopes) [] k s b typed at is = cc is
typed_at ds n (t ∷ scopes) (c ∷ bodies) zero s b typed at is =
    let first : t ≡ s = cc at in let second : c ≡ b = cc is in let same : n ≡ n + 0 = omega arith in
    subst (λ m. IsTypedBody ds m s b) same
    (subst (λ x. IsTypedBody ds n s x) second (subst (λ x. IsTypedBody ds n x c) first typed.0))
typed_at ds n (t ∷ scopes) (c ∷ bodies) (suc k) s b typed at is = let same : n + 1 + k ≡ n + suc k = omega arith in
    subst (λ m. IsTypedBody ds m s b) same (typed_at ds (n + 1) scopes bodies k s b typed.1 at is)

found_at : (ds : Decls) (items : List Item) (n : ℕ) (scopes : List Scope) (bodies : List UnorderedBody) (k : ℕ)
    (s : Scope) (b : UnorderedBody) → each_found (body_found ds items) (enumerate_from n scopes) ≡ Ok bodies
    → slice_get scopes k ≡ Some s → slice_get bodies k ≡ Some b → body_found ds items (n + k, s) ≡ Ok b
found_at ds items n [] bodies k s b h at is = cc at
found_at ds items n (t ∷ scopes) bodies k s b h at is =
    let parts = both_ok (body_found ds items (n, t)) (each_found (body_found ds items) (enumerate_from (n + 1) scopes))
    (λ y ys. Ok (y ∷ ys)) bodies h in
    let same : bodies ≡ parts.0 ∷ parts.1 = cc parts.4 in
    by k parts.0 parts.1 parts.2 at (subst (λ bs. slice_get bs k ≡ Some b) same is)
    (λ j e f. found_at ds items (n + 1) scopes parts.1 j s b parts.3 e f)
  where
    by : (j : ℕ) (c : UnorderedBody) (more : List UnorderedBody) → body_found ds items (n, t) ≡ Ok c
        → slice_get (t ∷ scopes) j ≡ Some s → slice_get (c ∷ more) j ≡ Some b
        → ((i : ℕ) → slice_get scopes i ≡ Some s → slice_get more i ≡ Some b
        → body_found ds items (n + 1 + i, s) ≡ Ok b)
        → body_found ds items (n + j, s) ≡ Ok b
    by zero c more first e f rest =
        let one : t ≡ s = cc e in let two : c ≡ b = cc f in let same : n ≡ n + 0 = omega arith in
        subst (λ m. body_found ds items (m, s) ≡ Ok b) same
        (subst (λ x. body_found ds items (n, s) ≡ Ok x) two (subst (λ x. body_found ds items (n, x) ≡ Ok c) one first))
    by (suc j) c more first e f rest = let same : n + 1 + j ≡ n + suc j = omega arith in
        subst (λ m. body_found ds items (m, s) ≡ Ok b) same (rest j e f)

pub as_many_bodies : (ds : Decls) (n : ℕ) (scopes : List Scope) (bodies : List UnorderedBody)
    → AreTypedBodies ds n scopes bodies → length bodies ≡ length scopes
as_many_bodies ds n [] [] typed = refl
as_many_bodies ds n [] (b ∷ bodies) typed = absurd typed
as_many_bodies ds n (s ∷ scopes) [] typed = absurd typed
as_many_bodies ds n (s ∷ scopes) (b ∷ bodies) typed =
    omega (arith, as_many_bodies ds (n + 1) scopes bodies typed.1)

unordered_at : (bodies : List Body) (k : ℕ) (b : Body) → slice_get bodies k ≡ Some b
    → slice_get (map unordered bodies) k ≡ Some (unordered b)
unordered_at [] k b h = cc h
unordered_at (c ∷ bodies) zero b h = let same : c ≡ b = cc h in ap (λ (x : Body). Some (unordered x)) same
unordered_at (c ∷ bodies) (suc k) b h = unordered_at bodies k b h

-- the calls that bodies list are what scopes depend on
pub calls_are : (ds : Decls) (n : ℕ) (scopes : List Scope) (bodies : List Body)
    → AreTypedBodies ds n scopes (map unordered bodies)
    → map (λ (b : Body). b.calls) bodies ≡ scope_dependencies scopes bodies
calls_are ds n [] [] typed = refl
calls_are ds n [] (b ∷ bodies) typed = absurd typed
calls_are ds n (s ∷ scopes) [] typed = absurd typed
calls_are ds n (s ∷ scopes) (b ∷ bodies) typed = ap (λ cs. cs ∷ map (λ (x : Body). x.calls) bodies) typed.0.calls
    ∙ ap (λ deps. once [] (calls_in s.items b) ∷ deps) (calls_are ds (n + 1) scopes bodies typed.1)

-- ---- what is meant

one_at : {A : Type 0} (x : A) (xs : List A) → IsOneOf x xs → (k : ℕ) × (slice_get xs k ≡ Some x)
one_at x [] h = elim h [ ]
one_at x (y ∷ ys) (inl is) = (0, ap (λ z. Some z) (sym is))
one_at x (y ∷ ys) (inr h) = let rest = one_at x ys h in (rest.0 + 1, search (rules, rest.1))

listed_has : (P : ℕ → Type 0) (xs : List ℕ) (q : ℕ) → AllHave P xs → 0 < times xs q → P q
listed_has P [] q all h = absurd (omega (arith, h))
listed_has P (x ∷ xs) q all h = by (x == q) refl h (λ g. listed_has P xs q all.1 g)
  where
    by : (b : Bool) → (x == q) ≡ b → 0 < (if b then 1 else 0) + times xs q → (0 < times xs q → P q) → P q
    by true e g rest = let is : x ≡ q = grind (arith, nat_tests, e) in subst P is all.0
    by false e g rest = rest (omega (arith, g))

pub none_beyond : (deps : List (List ℕ)) (k : ℕ) → length deps ≤ k → dependencies_of deps k ≡ []
none_beyond [] k far = refl
none_beyond (d ∷ deps) zero far = absurd (omega (arith, far))
none_beyond (d ∷ deps) (suc k) far = none_beyond deps k (omega (arith, far))

module _ (ds : Decls) (sound : AreSound ds) (tree : Tree) (bodies : List Body) (meant : IsMeant tree ds bodies) where
  typed : AreTypedBodies ds 0 ds.scopes (map unordered bodies)
  typed = meant_typed ds sound tree (map unordered bodies) meant.named meant.meant

  pub meant_counted : length bodies ≡ length ds.scopes
  meant_counted =
      omega (arith, as_many_bodies ds 0 ds.scopes (map unordered bodies) typed, length-map bodies unordered)

  -- the body of a scope is typed
  pub meant_body : (n : ℕ) (s : Scope) (b : Body) → slice_get ds.scopes n ≡ Some s → slice_get bodies n ≡ Some b
      → IsTypedBody ds n s (unordered b)
  meant_body n s b at is = let same : 0 + n ≡ n = omega arith in
      subst (λ m. IsTypedBody ds m s (unordered b)) same
      (typed_at ds 0 ds.scopes (map unordered bodies) n s (unordered b) typed at (unordered_at bodies n b is))

  -- what its definitions are for is an item
  pub meant_targets : (n : ℕ) (s : Scope) (b : Body) → slice_get ds.scopes n ≡ Some s → slice_get bodies n ≡ Some b
      → All (λ d. d.target.item < length s.items) b.defs
  meant_targets n s b at is = all_by (λ (d : Def). d.target.item < length s.items) b.defs
      (targets_there (record { decls = ds; items = s.items }) n b.defs (meant_body n s b at is).defs)

  -- and so is what its items depend on
  pub meant_items : (n : ℕ) (s : Scope) (b : Body) → slice_get ds.scopes n ≡ Some s → slice_get bodies n ≡ Some b
      → AreItems (item_dependencies s.items b.defs)
  meant_items n s b at is =
      items_are_items (record { decls = ds; items = s.items }) n b.defs (meant_body n s b at is).defs

  pub meant_calls : map (λ (b : Body). b.calls) bodies ≡ scope_dependencies ds.scopes bodies
  meant_calls = calls_are ds 0 ds.scopes bodies typed

  -- a scope that another calls is called by an item of that, or named by a word of its blocks
  pub record CallOf (caller called : ℕ) : Type 0 where
    pub scope : Scope
    pub scope_is : slice_get ds.scopes caller ≡ Some scope
    pub source : IsCalledBy ds scope.items (words_in ds caller tree.items) called

  body_calls : (n : ℕ) (s : Scope) (b : Body) → slice_get ds.scopes n ≡ Some s → slice_get bodies n ≡ Some b
      → AllHave (IsCalledBy ds s.items (words_in ds n tree.items)) b.calls
  body_calls n s b at is = let same : 0 + n ≡ n = omega arith in
      calls_sourced ds tree.items n s (unordered b)
      (subst (λ m. body_found ds tree.items (m, s) ≡ Ok (unordered b)) same
      (found_at ds tree.items 0 ds.scopes (map unordered bodies) n s (unordered b) meant.meant at
      (unordered_at bodies n b is)))

  called_within : (n : ℕ) (s : Scope) (m : ℕ) → slice_get ds.scopes n ≡ Some s
      → IsCalledBy ds s.items (words_in ds n tree.items) m → m < length ds.scopes
  called_within n s m at (inl (i, among, is)) = let k = one_at i s.items among in
      (sound.items n k.0 s i at k.1).called m is
  called_within n s m at (inr word) = let less = within ds.scopes word.found.0 word.found.1
      (first_is (λ x. x.name) word.word.text ds.scopes word.found word.found_is) in
      subst (λ k. k < length ds.scopes) word.number less

  calls_within : (k : ℕ) (rest : List Body)
      → ((j : ℕ) (b : Body) → slice_get rest j ≡ Some b → slice_get bodies (k + j) ≡ Some b)
      → AllHave (AllHave (λ m. m < length bodies)) (map (λ (b : Body). b.calls) rest)
  calls_within k [] at = tt
  calls_within k (b ∷ rest) at =
      let here : slice_get bodies k ≡ Some b = subst (λ j. slice_get bodies j ≡ Some b) (none_more k) (at 0 b refl) in
      let less = within bodies k b here in
      let s = found ds.scopes k (omega (arith, less, meant_counted)) in (
        each_of (IsCalledBy ds s.0.items (words_in ds k tree.items)) (λ m. m < length bodies)
            (λ m h. omega (arith, called_within k s.0 m s.1 h, meant_counted)) b.calls (body_calls k s.0 b s.1 here),
        calls_within (k + 1) rest (λ j c e. shifted k j c (at (suc j) c e)),
      )
    where
      none_more : (j : ℕ) → j + 0 ≡ j
      none_more j = omega arith

      shifted : (i j : ℕ) (c : Body) → slice_get bodies (i + suc j) ≡ Some c → slice_get bodies (i + 1 + j) ≡ Some c
      shifted i j c e =
          let same : i + suc j ≡ i + 1 + j = omega arith in subst (λ m. slice_get bodies m ≡ Some c) same e

  -- what scopes depend on are scopes
  pub meant_scopes : AreItems (scope_dependencies ds.scopes bodies)
  meant_scopes =
      let calls = map (λ (b : Body). b.calls) bodies in
      let counted : length calls ≡ length bodies = length-map bodies (λ (b : Body). b.calls) in
      subst AreItems meant_calls (all_by (All (λ i. i < length calls)) calls
      (each_of (AllHave (λ m. m < length bodies)) (All (λ i. i < length calls)) (λ xs h.
      all_by (λ i. i < length calls) xs (subst (λ k. AllHave (λ m. m < k) xs) (sym counted) h)) calls
      (calls_within 0 bodies (λ j b e. let same : j ≡ 0 + j = omega arith in
      subst (λ m. slice_get bodies m ≡ Some b) same e))))

  -- where a scope calls another
  pub meant_called : (caller called : ℕ) → DependsOn (scope_dependencies ds.scopes bodies) caller called
      → CallOf caller called
  meant_called caller called on = by (nat_lt caller (length bodies)) refl
    where
      calls : List (List ℕ)
      calls = map (λ (b : Body). b.calls) bodies

      counted : length calls ≡ length bodies
      counted = length-map bodies (λ (b : Body). b.calls)

      listed : IsTrue (is_listed (dependencies_of calls caller) called)
      listed = subst (λ deps. IsTrue (is_listed (dependencies_of deps caller) called)) (sym meant_calls) on

      by : (b : Bool) → nat_lt caller (length bodies) ≡ b → CallOf caller called
      by true e =
          let body = found bodies caller (grind (arith, nat_tests, e)) in
          let scope = found ds.scopes caller (omega (arith, within bodies caller body.0 body.1, meant_counted)) in
          let here : dependencies_of calls caller ≡ body.0.calls =
          alone (λ (b : Body). b.calls) bodies caller body.0 body.1 in
          let among : IsTrue (is_listed body.0.calls called) =
          subst (λ xs. IsTrue (is_listed xs called)) here listed in
          record {
            scope = scope.0;
            scope_is = scope.1;
            source = listed_has (IsCalledBy ds scope.0.items (words_in ds caller tree.items)) body.0.calls called
                (body_calls caller scope.0 body.0 scope.1 body.1) (grind (arith, nat_tests, among));
          }
      by false e =
          let none : dependencies_of calls caller ≡ [] = none_beyond calls caller
          (grind (arith, nat_tests, e, counted)) in
          let among : IsTrue (is_listed [] called) = subst (λ xs. IsTrue (is_listed xs called)) none listed in
          absurd (true≢false (sym among))
