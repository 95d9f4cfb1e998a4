-- The program of a tree is well formed.
use Rattle.std.specs.Prelude.{is_none, flat_map, nat_eq}
use Rattle.std.specs.List.{enumerate_from}
use Rattle.std.proofs.Common.{◌≡◌, ◌||◌, ◌&&◌, not, ◌<◌, ◌≤◌, ℕ, zero, suc, ◌+◌, Bool, true, false, IsTrue, List, []}
use Rattle.std.proofs.Common.{◌∷◌, ◌++◌, length, map, Option, Some, None, Ok, Err, slice_get, refl, sym, ap, ◌∙◌, subst}
use Rattle.std.proofs.Common.{arith, true≢false}
use Rattle.cat_value.specs.declared.ty.Ty.{Ty}
use Rattle.cat_value.specs.declared.ty.Ty.TheVariants as flat_ty
use Rattle.cat_value.specs.declared.ty.Ty.TheViews as ty
use Rattle.cat_value.specs.declared.ty.Ty.TheViews.{out-Ty}
use Rattle.cat_value.specs.declared.declaration.ItemDecl.{ItemDecl}
use Rattle.cat_value.specs.declared.declaration.Scope.{Scope}
use Rattle.cat_value.specs.declared.decls.Decls.{Decls}
use Rattle.cat_value.specs.Declarations.{is_boolean}
use Rattle.cat_value.specs.Laws.{AreSound}
use Rattle.cat_value.proofs.Exported.{within}
use Rattle.cat_tree.specs.declared.name.Name.{Name}
use Rattle.cat_tree.specs.declared.program.Variable.{Variable}
use Rattle.cat_tree.specs.declared.program.Variable.TheVariants as variable
use Rattle.cat_tree.specs.declared.program.Item.{Item}
use Rattle.cat_tree.specs.declared.program.Tree.{Tree}
use Rattle.cat_tree.specs.declared.name.Type as written
use Rattle.cat_scope.specs.declared.defs.Body.{Body}
use Rattle.cat_scope.specs.declared.defs.Def.{Def}
use Rattle.cat_scope.specs.declared.defs.Assertion as asserted
use Rattle.cat_scope.specs.Names.{AllHave, items_in, has_none}
use Rattle.cat_scope.specs.Orders.{called_in, once}
use Rattle.cat_scope.specs.Expected.{parts_placed, defs_placed, assertions_placed}
use Rattle.cat_scope.specs.WellFormed.{is_internal, is_placed, DefTyped, AssertionTyped, PartTyped, IsWhole}
use Rattle.cat_scope.specs.WellFormed.{AreBodiesOf, IsWellFormed}
use Rattle.cat_names.specs.declared.fault.Fault.TheVariants.{Misplaced, NameUnknown}
use Rattle.cat_names.specs.Found.{Found, or_fault, fault_if, faults_of, each_found}
use Rattle.cat_names.specs.Lookup.{TypeNames, type_found, first_named}
use Rattle.cat_names.specs.Written.{texts, names_of, scopes_in, types_in, scope_names_in}
use Rattle.cat_names.specs.Declarations.{Declared, variable_type, item_declared, scope_declared, types_declared}
use Rattle.cat_names.specs.Declarations.{declared_of}
use Rattle.cat_names.specs.Unknown.{twice}
use Rattle.cat_names.specs.DeclarationFaults.{declared_name}
use Rattle.cat_names.specs.NameFaults.{name_faults, item_faults}
use Rattle.cat_names.specs.Lines.{Line, is_number, is_scope_name, lines_found}
use Rattle.cat_names.specs.Bodies.{bodies_meant, outward_function, contradictions, rounds_in, rounding_of, defs_in}
use Rattle.cat_names.specs.Bodies.{assertions_in, source_part, UnorderedBody, body_of, body_found}
use Rattle.cat_names.specs.Accepted.{IsNamed, parts_of, unordered, AreOrdered, IsProgramOf}
use Rattle.cat_names.specs.Naming.{names_in_scope}
use Rattle.cat_names.specs.TypedMeanings.{OnFound}
use Rattle.cat_names.proofs.DistinctNames.{Apart, names_apart, scopes_apart, first_at}
use Rattle.cat_names.proofs.OkParts.{then_ok, both_ok, none_ok, on_ok, nothing_in, nothing_behind, all_at}
use Rattle.cat_names.proofs.OnFound.{on_then, on_both, on_any}
use Rattle.cat_names.proofs.OperationLaws.{both_true}
use Rattle.cat_names.proofs.DefinitionLaws.{AreConditions}
use Rattle.cat_names.proofs.LineLaws.{declarations_in, are_whole, InSource, lines_stand, defs_typed, assertions_typed}
use Rattle.cat_names.proofs.LineLaws.{parts_typed, parts_are_placed, defs_are_placed, assertions_are_placed}

-- ---- declarations

on_each : {A B : Type 0} (P : B → Type 0) (f : A → Found B) (xs : List A) → ((x : A) → OnFound P (f x))
    → OnFound (AllHave P) (each_found f xs)
on_each P f [] each = tt
on_each P f (x ∷ xs) each = on_both P (AllHave P) (AllHave P) (f x) (each_found f xs) _ (each x) (on_each P f xs each)
    (λ y ys h all. (h, all))

abbrev IsCondition : ItemDecl → Type 0
IsCondition i = IsTrue i.condition → i.ty ≡ flat_ty.Boolean

type_stands : (names : TypeNames) (t : Option written.Type)
    → OnFound (λ u. IsTrue (is_none t) → u ≡ flat_ty.Boolean) (variable_type names t)
type_stands names None = λ is. refl
type_stands names (Some t) = by (type_found names t)
  where
    by : (found : Found Ty) → OnFound (λ u. IsTrue false → u ≡ flat_ty.Boolean) found
    by (Ok u) = λ is. absurd (true≢false (sym is))
    by (Err faults) = tt

item_stands : (names : TypeNames) (scopes : List (List ℕ)) (v : Variable)
    → OnFound IsCondition (item_declared names scopes v)
item_stands names scopes (variable.Own k p w t params) =
    on_both (λ u. IsTrue (is_none t) → u ≡ flat_ty.Boolean) (λ ts. Unit {0}) IsCondition (variable_type names t)
    (each_found (λ f. type_found names f.ty) params) _
    (type_stands names t) (on_any (each_found (λ f. type_found names f.ty) params)) (λ u ts h i. h)
item_stands names scopes (variable.Called w u) = on_then (λ k. Unit {0}) IsCondition
    (or_fault (NameUnknown u.pos) (first_named (λ name. name) u.text scopes)) _
    (on_any (or_fault (NameUnknown u.pos) (first_named (λ name. name) u.text scopes))) (λ k h is. refl)

abbrev HasConditions : Scope → Type 0
HasConditions s = AllHave IsCondition s.items

scope_stands : (names : TypeNames) (scopes : List (List ℕ)) (s : Name × List Variable)
    → OnFound HasConditions (scope_declared names scopes s)
scope_stands names scopes s = on_then (AllHave IsCondition) HasConditions (each_found (item_declared names scopes) s.1)
    _
    (on_each IsCondition (item_declared names scopes) s.1 (item_stands names scopes)) (λ items all. all)

-- scopes that have the names which are written
abbrev AreNamed : List Item → List Scope → Type 0
AreNamed items scopes = map (λ s. s.name) scopes ≡ texts (names_of (scopes_in items))

record DeclaredStand (items : List Item) (d : Declared) : Type 0 where
  conditions : AllHave HasConditions d.scopes
  named : AreNamed items d.scopes

abbrev BothStand : List Item → List Scope → Type 0
BothStand items scopes = AllHave HasConditions scopes × AreNamed items scopes

on_and : {A : Type 0} (P Q : A → Type 0) (found : Found A) → OnFound P found → OnFound Q found
    → OnFound (λ a. P a × Q a) found
on_and P Q (Ok a) h i = (h, i)
on_and P Q (Err faults) h i = tt

each_named : (names : TypeNames) (scopes : List (List ℕ)) (xs : List (Name × List Variable))
    → OnFound (λ ys. map (λ (s : Scope). s.name) ys ≡ texts (names_of xs)) (each_found (scope_declared names scopes) xs)
each_named names scopes [] = refl
each_named names scopes (x ∷ xs) =
    on_both (λ (y : Scope). y.name ≡ x.0.text) (λ ys. map (λ (s : Scope). s.name) ys ≡ texts (names_of xs))
    (λ ys. map (λ (s : Scope). s.name) ys ≡ texts (names_of (x ∷ xs))) (scope_declared names scopes x)
    (each_found (scope_declared names scopes) xs) _
    (on_then (λ items. Unit {0}) (λ (y : Scope). y.name ≡ x.0.text) (each_found (item_declared names scopes) x.1) _
    (on_any (each_found (item_declared names scopes) x.1)) (λ items h. refl))
    (each_named names scopes xs)
    (λ y ys is are. ap (λ t. t ∷ map (λ (s : Scope). s.name) ys) is ∙ ap (λ ts. x.0.text ∷ ts) are)

declared_stand : (items : List Item) → OnFound (DeclaredStand items) (declared_of items)
declared_stand items = on_both (λ t. Unit {0}) (BothStand items) (DeclaredStand items) (types_declared items)
    (each_found (scope_declared (types_in items) (scope_names_in items)) (scopes_in items)) _
    (on_any (types_declared items))
    (on_and (AllHave HasConditions) (AreNamed items)
    (each_found (scope_declared (types_in items) (scope_names_in items)) (scopes_in items))
    (on_each HasConditions (scope_declared (types_in items) (scope_names_in items)) (scopes_in items)
    (scope_stands (types_in items) (scope_names_in items)))
    (each_named (types_in items) (scope_names_in items) (scopes_in items)))
    (λ t scopes h i. record { conditions = i.0; named = i.1 })

are_conditions : (ds : Decls) → AllHave HasConditions ds.scopes → AreConditions ds
are_conditions ds all scope k i h = by (slice_get ds.scopes scope) refl h
  where
    by : (o : Option Scope) → slice_get ds.scopes scope ≡ o → slice_get (items_in o) k ≡ Some i → IsCondition i
    by None e g = cc g
    by (Some s) e g = all_at IsCondition s.items k i (all_at HasConditions ds.scopes scope s all e) g

-- ---- placements

boolean_item : (c : Bool) (t : Ty) → (IsTrue c → t ≡ flat_ty.Boolean) → IsTrue (not c || is_boolean (out-Ty t))
boolean_item false t h = refl
boolean_item true t h = rw (h refl, ty.outs-Boolean) refl

items_placed : (items : List ItemDecl) → AllHave IsCondition items → flat_map outward_function items ≡ []
    → AllHave (λ i. IsTrue (is_placed i)) items
items_placed [] all h = tt
items_placed (i ∷ items) all h = (
  both_true _ _
      (by (has_none i.params || is_internal i.kind) (nothing_in (outward_function i) (flat_map outward_function items)
      h))
      (boolean_item i.condition i.ty all.0),
  items_placed items all.1 (nothing_behind (outward_function i) (flat_map outward_function items) h),
)
  where
    by : (b : Bool) → fault_if (not b) (Misplaced i.pos) ≡ [] → IsTrue b
    by true e = refl
    by false e = cc e

least : (n : ℕ) → 0 ≤ n
least n = omega arith

none_more : (n : ℕ) → n + 0 ≡ n
none_more n = omega arith

-- ---- bodies

whole_at : (lines : List Line) (b : UnorderedBody) → map source_part lines ≡ b.source → defs_in lines ≡ b.defs
    → assertions_in lines ≡ b.assertions → declarations_in lines ≡ 1
    → IsWhole b.source 1 (length b.defs) (length b.assertions)
whole_at lines b source defs assertions once_ =
    subst (λ parts. IsWhole parts 1 (length b.defs) (length b.assertions)) source
    (subst (λ n. IsWhole (map source_part lines) n (length b.defs) (length b.assertions)) once_
    (subst (λ (ds : List Def). IsWhole (map source_part lines) (declarations_in lines) (length ds)
    (length b.assertions)) defs
    (subst (λ (as_ : List asserted.Assertion). IsWhole (map source_part lines) (declarations_in lines)
    (length (defs_in lines)) (length as_)) assertions (are_whole lines))))

calls_at : (items : List ItemDecl) (lines : List Line) (b : UnorderedBody) → map source_part lines ≡ b.source
    → defs_in lines ≡ b.defs → assertions_in lines ≡ b.assertions
    → called_in items (map source_part lines) (defs_in lines) (assertions_in lines)
    ≡ called_in items b.source b.defs b.assertions
calls_at items lines b source defs assertions =
    ap (λ s. called_in items s (defs_in lines) (assertions_in lines)) source
    ∙ ap (λ ds. called_in items b.source ds (assertions_in lines)) defs
    ∙ ap (λ as_. called_in items b.source b.defs as_) assertions

-- what a tree says of the scope of that number is typed
pub record IsTypedBody (ds : Decls) (n : ℕ) (s : Scope) (b : UnorderedBody) : Type 0 where
  pub placed : AllHave (λ i. IsTrue (is_placed i)) s.items
  pub defs : AllHave (DefTyped (record { decls = ds; items = s.items }) n) b.defs
  pub assertions : AllHave (AssertionTyped (record { decls = ds; items = s.items })) b.assertions
  pub source : IsWhole b.source 1 (length b.defs) (length b.assertions)
  pub lists : IsTrue (parts_placed b.source && defs_placed b.defs && assertions_placed b.assertions)
  pub conditions : AllHave (PartTyped (record { decls = ds; items = s.items })) b.source
  pub calls : b.calls ≡ once [] (called_in s.items b.source b.defs b.assertions)

-- each of some scopes has a typed body
abbrev pub AreTypedBodies : Decls → ℕ → List Scope → List UnorderedBody → Type 0
AreTypedBodies ds n [] [] = Unit {0}
AreTypedBodies ds n [] (b ∷ bodies) = ⊥
AreTypedBodies ds n (s ∷ scopes) [] = ⊥
AreTypedBodies ds n (s ∷ scopes) (b ∷ bodies) = IsTypedBody ds n s b × AreTypedBodies ds (n + 1) scopes bodies

-- a name at a number is that of a scope
scope_at : (ts : List Name) (ss : List Scope) (k : ℕ) (w : Name) → map (λ (s : Scope). s.name) ss ≡ texts ts
    → slice_get ts k ≡ Some w → (s : Scope) × (slice_get ss k ≡ Some s) × (s.name ≡ w.text)
scope_at [] ss k w is h = cc h
scope_at (t ∷ ts) [] k w is h = cc is
scope_at (t ∷ ts) (s ∷ ss) zero w is h =
    let here : t ≡ w = cc h in let name : s.name ≡ t.text = cc is in (s, refl, name ∙ ap (λ (x : Name). x.text) here)
scope_at (t ∷ ts) (s ∷ ss) (suc k) w is h = scope_at ts ss k w (cc is) h

as_many : (ts : List Name) (ss : List Scope) → map (λ (s : Scope). s.name) ss ≡ texts ts → length ss ≡ length ts
as_many [] [] is = refl
as_many [] (s ∷ ss) is = cc is
as_many (t ∷ ts) [] is = cc is
as_many (t ∷ ts) (s ∷ ss) is = let rest : map (λ (x : Scope). x.name) ss ≡ texts ts = cc is in
    omega (arith, as_many ts ss rest)

names_counted : (xs : List (Name × List Variable)) → length (names_of xs) ≡ length xs
names_counted [] = refl
names_counted (x ∷ xs) = omega (arith, names_counted xs)

module _ (ds : Decls) (sound : AreSound ds) (items : List Item) (stand : DeclaredStand items (parts_of ds))
    (apart : Apart (texts (names_of (scopes_in items)))) where
  conditions : AreConditions ds
  conditions = are_conditions ds stand.conditions

  numbered_names : (n k : ℕ) (w : Name) → slice_get (names_of (scopes_in items)) k ≡ Some w
      → is_scope_name ds n w ≡ nat_eq (0 + k) n
  numbered_names n k w h =
      let s = scope_at (names_of (scopes_in items)) ds.scopes k w stand.named h in
      let first = first_at (λ (x : Scope). x.name) w.text ds.scopes k s.0
      (subst Apart (sym stand.named) apart) s.1 s.2 in
      ap (is_number n) first ∙ ap (λ i. nat_eq i n) (omega arith)

  lines_are : (n : ℕ) (s : Scope) → slice_get ds.scopes n ≡ Some s → (lines : List Line)
      → lines_found (record { decls = ds; items = s.items }) n items ≡ Ok lines
      → InSource ds sound conditions n 0 (length (scopes_in items)) lines
  lines_are n s at lines is =
      on_ok (InSource ds sound conditions n 0 (length (scopes_in items))) (lines_found (names_in_scope ds n) n items)
      lines (ap (λ o. lines_found (record { decls = ds; items = items_in o }) n items) at ∙ is)
      (lines_stand ds sound conditions n 0 items (numbered_names n))

  names_are : (n : ℕ) (s : Scope) → slice_get ds.scopes n ≡ Some s
      → names_in_scope ds n ≡ record { decls = ds; items = s.items }
  names_are n s at = ap (λ o. record { decls = ds; items = items_in o }) at

  declared_at : (n : ℕ) (s : Scope) → slice_get ds.scopes n ≡ Some s → n < 0 + length (scopes_in items)
  declared_at n s at = omega (
    arith,
    within ds.scopes n s at,
    as_many (names_of (scopes_in items)) ds.scopes stand.named,
    names_counted (scopes_in items),
  )

  body_typed : (n : ℕ) (s : Scope) → slice_get ds.scopes n ≡ Some s → (b : UnorderedBody)
      → body_found ds items (n, s) ≡ Ok b → IsTypedBody ds n s b
  body_typed n s at b h =
      let parts = none_ok _ _ b h in
      let found = then_ok _ _ b parts.1 in
      let lines = found.0 in
      let rounds = rounding_of (rounds_in ds n items) in
      let is : body_of s.items rounds lines ≡ b = cc found.2 in
      let source : map source_part lines ≡ b.source = ap (λ (x : UnorderedBody). x.source) is in
      let defs : defs_in lines ≡ b.defs = ap (λ (x : UnorderedBody). x.defs) is in
      let assertions : assertions_in lines ≡ b.assertions = ap (λ (x : UnorderedBody). x.assertions) is in
      let calls : once [] (called_in s.items (map source_part lines) (defs_in lines) (assertions_in lines)) ≡ b.calls =
      ap (λ (x : UnorderedBody). x.calls) is in
      let src = lines_are n s at lines found.1 in
      let names = names_are n s at in
      record {
        placed = items_placed s.items (all_at HasConditions ds.scopes n s stand.conditions at)
            (nothing_in (flat_map outward_function s.items) (contradictions (rounds_in ds n items))
            parts.0);
        defs = subst (λ ns. AllHave (DefTyped ns n) b.defs) names
            (subst (λ xs. AllHave (DefTyped (names_in_scope ds n) n) xs) defs
            (defs_typed ds sound conditions n lines src.stand));
        assertions = subst (λ ns. AllHave (AssertionTyped ns) b.assertions) names
            (subst (λ xs. AllHave (AssertionTyped (names_in_scope ds n)) xs) assertions
            (assertions_typed ds sound conditions n lines src.stand));
        source = whole_at lines b source defs assertions (src.declared (least n) (declared_at n s at));
        lists = both_true _ _ (both_true _ _
            (subst (λ xs. IsTrue (parts_placed xs)) source (parts_are_placed ds sound conditions n lines src.stand))
            (subst (λ xs. IsTrue (defs_placed xs)) defs (defs_are_placed ds sound conditions n lines src.stand)))
            (subst (λ xs. IsTrue (assertions_placed xs)) assertions
            (assertions_are_placed ds sound conditions n lines src.stand));
        conditions = subst (λ ns. AllHave (PartTyped ns) b.source) names
            (subst (λ xs. AllHave (PartTyped (names_in_scope ds n)) xs) source
            (parts_typed ds sound conditions n lines src.stand));
        calls = sym calls ∙ ap (λ xs. once [] xs) (calls_at s.items lines b source defs assertions);
      }

  shifted : (n k : ℕ) (t : Scope) → slice_get ds.scopes (n + suc k) ≡ Some t → slice_get ds.scopes (n + 1 + k) ≡ Some t
  shifted n k t e =
      let same : n + suc k ≡ n + 1 + k = omega arith in subst (λ m. slice_get ds.scopes m ≡ Some t) same e

  first : (n : ℕ) (s : Scope) → slice_get ds.scopes (n + 0) ≡ Some s → slice_get ds.scopes n ≡ Some s
  first n s e = subst (λ k. slice_get ds.scopes k ≡ Some s) (none_more n) e

  bodies_typed : (n : ℕ) (scopes : List Scope) (bodies : List UnorderedBody)
      → ((k : ℕ) (s : Scope) → slice_get scopes k ≡ Some s → slice_get ds.scopes (n + k) ≡ Some s)
      → each_found (body_found ds items) (enumerate_from n scopes) ≡ Ok bodies → AreTypedBodies ds n scopes bodies
  bodies_typed n [] [] at h = tt
  bodies_typed n [] (b ∷ bodies) at h = cc h
  bodies_typed n (s ∷ scopes) bodies at h =
      let found = both_ok (body_found ds items (n, s)) (each_found (body_found ds items)
      (enumerate_from (n + 1) scopes))
      (λ y ys. Ok (y ∷ ys)) bodies h in
      let is : found.0 ∷ found.1 ≡ bodies = cc found.4 in
      subst (AreTypedBodies ds n (s ∷ scopes)) is (
        body_typed n s (first n s (at 0 s refl)) found.0 found.2,
        bodies_typed (n + 1) scopes found.1 (λ k t e. shifted n k t (at (suc k) t e)) found.3,
      )

ordered_bodies : (ds : Decls) (n : ℕ) (scopes : List Scope) (bodies : List Body)
    → AreTypedBodies ds n scopes (map unordered bodies) → AreOrdered scopes bodies → AreBodiesOf ds n scopes bodies
ordered_bodies ds n [] [] typed ordered = tt
ordered_bodies ds n [] (b ∷ bodies) typed ordered = absurd ordered
ordered_bodies ds n (s ∷ scopes) [] typed ordered = absurd ordered
ordered_bodies ds n (s ∷ scopes) (b ∷ bodies) typed ordered = (
  record {
    placed = typed.0.placed;
    defs = typed.0.defs;
    assertions = typed.0.assertions;
    source = typed.0.source;
    lists = typed.0.lists;
    conditions = typed.0.conditions;
    order = ordered.0;
    calls = typed.0.calls;
    functions = ordered.1;
  },
  ordered_bodies ds (n + 1) scopes bodies typed.1 ordered.2,
)

one_each : (scopes : List Scope) (bodies : List Body) → AreOrdered scopes bodies → length bodies ≡ length scopes
one_each [] [] ordered = refl
one_each [] (b ∷ bodies) ordered = absurd ordered
one_each (s ∷ scopes) [] ordered = absurd ordered
one_each (s ∷ scopes) (b ∷ bodies) ordered = omega (arith, one_each scopes bodies ordered.2)

-- where there are no faults of names, the names of scopes are apart
pub named_apart : (tree : Tree) → name_faults tree ≡ [] → Apart (texts (names_of (scopes_in tree.items)))
named_apart tree none =
    let later = twice (flat_map declared_name tree.items) in
    let front = later ++ faults_of (declared_of tree.items) in
    let names = front ++ flat_map (item_faults tree.items) tree.items in
    scopes_apart tree.items (names_apart (flat_map declared_name tree.items)
    (nothing_in later _ (nothing_in front _ (nothing_in names _ none))))

-- what a tree says of its scopes is typed
pub meant_typed : (ds : Decls) → AreSound ds → (tree : Tree) (bodies : List UnorderedBody) → IsNamed tree (parts_of ds)
    → bodies_meant ds tree ≡ Ok bodies → AreTypedBodies ds 0 ds.scopes bodies
meant_typed ds sound tree bodies named meant = bodies_typed ds sound tree.items
    (on_ok (DeclaredStand tree.items) (declared_of tree.items) (parts_of ds) named.declared (declared_stand tree.items))
    (named_apart tree named.names)
    0 ds.scopes bodies (λ k s e. subst (λ m. slice_get ds.scopes m ≡ Some s) (omega arith) e) meant

-- the program of a tree
pub well_formed : (ds : Decls) → AreSound ds → (tree : Tree) (bodies : List Body) (scope_order : List ℕ)
    → IsProgramOf tree ds bodies scope_order → IsWellFormed ds bodies scope_order
well_formed ds sound tree bodies scope_order is = record {
  counted = one_each ds.scopes bodies is.items;
  bodies_are = ordered_bodies ds 0 ds.scopes bodies
      (meant_typed ds sound tree (map unordered bodies) is.meant.named is.meant.meant) is.items;
  order = is.order;
  chains = is.chains;
}
