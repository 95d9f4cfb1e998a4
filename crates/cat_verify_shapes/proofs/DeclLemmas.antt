-- Types that declarations name are no higher than types may be, and what numbers of items and functions name.
use Rattle.std.proofs.Common.{◌≡◌, ◌≤◌, ◌⊎◌, inl, inr, ℕ, zero, suc, ◌+◌, Bool, true, false, List, [], ◌∷◌, ◌++◌}
use Rattle.std.proofs.Common.{length}
use Rattle.std.proofs.Common.{Option, Some, None, slice_get, IsTrue, refl, sym, ap, ◌∙◌, arith}
use Rattle.std.specs.Prelude.{if◌then◌else◌}
use Rattle.std.specs.List.{list_all}
use Rattle.std.proofs.lemmas.Bool.Decides.{nat_tests}
use Rattle.cat_value.specs.declared.ty.Ty.{Ty}
use Rattle.cat_value.specs.declared.declaration.Structure.{Structure}
use Rattle.cat_value.specs.declared.declaration.Enumeration.{Enumeration}
use Rattle.cat_value.specs.declared.declaration.Case.{Case}
use Rattle.cat_value.specs.declared.declaration.ItemDecl.{ItemDecl}
use Rattle.cat_value.specs.declared.declaration.Scope.{Scope}
use Rattle.cat_value.specs.declared.decls.Decls.{Decls}
use Rattle.cat_value.specs.Declarations.{are_sound, scope_is_sound, item_is_sound, is_sound}
use Rattle.cat_value.specs.Heights.{height_to, content_height, highest_content}
use Rattle.cat_value.proofs.Exported.{list_all_at, level_cut, height_Enumeration, enumeration_low, within}
use Rattle.cat_scope.specs.Names.{AllHave, is_function, items_in, scope_items}
use Rattle.cat_code.specs.declared.code.Constant.{Constant}
use Rattle.cat_code.specs.declared.code.Tables.{Tables}
use Rattle.cat_code.specs.Places.{FunctionPlace, functions_in, functions_from, function_places, called_scope}
use Rattle.cat_code.specs.Places.{inner_item}
use Rattle.cat_code.specs.Places.{inner_of, target_decl}
use Rattle.cat_code.specs.Valid.{constant_is_sound}
use Rattle.cat_verify_shapes.specs.inside.Senses.{IsLow}
use Rattle.cat_verify_shapes.proofs.ListLemmas.{none_some, some_is}

-- ---- items

scopes_sound : (ss : List Structure) (es : List Enumeration) (scopes : List Scope) → IsTrue (are_sound ss es scopes)
    → IsTrue (list_all (scope_is_sound ss es (length scopes)) scopes)
unfolding are_sound
scopes_sound ss es scopes h = grind arith

items_sound : (ds : Decls) (n : ℕ) (scope : Scope) → slice_get ds.scopes n ≡ Some scope
    → IsTrue (list_all (item_is_sound ds.structures ds.enumerations (length ds.scopes)) scope.items)
items_sound ds n scope e =
    let h = list_all_at _ ds.scopes n scope (scopes_sound ds.structures ds.enumerations ds.scopes ds.sound) e in
    grind arith

sound_low : (ds : Decls) (t : Ty) → IsTrue (is_sound ds.structures ds.enumerations t) → IsLow ds t
sound_low ds t h = grind (arith, nat_tests)

item_low : (ds : Decls) (count : ℕ) (item : ItemDecl)
    → IsTrue (item_is_sound ds.structures ds.enumerations count item) → IsLow ds item.ty
item_low ds count item h = grind (arith, nat_tests)

item_params : (ds : Decls) (count : ℕ) (item : ItemDecl)
    → IsTrue (item_is_sound ds.structures ds.enumerations count item)
    → IsTrue (list_all (is_sound ds.structures ds.enumerations) item.params)
item_params ds count item h = grind arith

all_low : (ds : Decls) (ts : List Ty) → IsTrue (list_all (is_sound ds.structures ds.enumerations) ts)
    → AllHave (IsLow ds) ts
all_low ds [] h = tt
all_low ds (t ∷ ts) h = (sound_low ds t (grind arith), all_low ds ts (grind arith))

-- an item of a scope is sound
item_sound : (ds : Decls) (scope slot : ℕ) (item : ItemDecl) → slice_get (scope_items ds scope) slot ≡ Some item
    → IsTrue (item_is_sound ds.structures ds.enumerations (length ds.scopes) item)
item_sound ds scope slot item e = by_scope (slice_get ds.scopes scope) refl
  where
    by_scope : (o : Option Scope) → slice_get ds.scopes scope ≡ o
        → IsTrue (item_is_sound ds.structures ds.enumerations (length ds.scopes) item)
    by_scope None is = absurd (none_some item (sym (ap (λ (s : Option Scope). slice_get (items_in s) slot) is) ∙ e))
    by_scope (Some s) is =
        list_all_at (item_is_sound ds.structures ds.enumerations (length ds.scopes)) s.items slot item
        (items_sound ds scope s is) (sym (ap (λ (o : Option Scope). slice_get (items_in o) slot) is) ∙ e)

pub slot_low : (ds : Decls) (scope slot : ℕ) (item : ItemDecl) → slice_get (scope_items ds scope) slot ≡ Some item
    → IsLow ds item.ty
slot_low ds scope slot item e = item_low ds (length ds.scopes) item (item_sound ds scope slot item e)

pub slot_params : (ds : Decls) (scope slot : ℕ) (item : ItemDecl) → slice_get (scope_items ds scope) slot ≡ Some item
    → AllHave (IsLow ds) item.params
slot_params ds scope slot item e =
    all_low ds item.params (item_params ds (length ds.scopes) item (item_sound ds scope slot item e))

pub target_low : (ds : Decls) (scope item : ℕ) (inner : Option ℕ) (decl : ItemDecl)
    → target_decl ds scope item inner ≡ Some decl → IsLow ds decl.ty
target_low ds scope item None decl e = slot_low ds scope item decl e
target_low ds scope item (Some inner) decl e = by_item (slice_get (scope_items ds scope) item) e
  where
    by_scope : (o : Option ℕ) → inner_item ds inner o ≡ Some decl → IsLow ds decl.ty
    by_scope None h = absurd (none_some decl h)
    by_scope (Some n) h = slot_low ds n inner decl h

    by_item : (o : Option ItemDecl) → inner_of ds inner o ≡ Some decl → IsLow ds decl.ty
    by_item None h = absurd (none_some decl h)
    by_item (Some i) h = by_scope (called_scope i.kind) h

pub constant_low : (tables : Tables) (k : ℕ) (c : Constant)
    → IsTrue (list_all (constant_is_sound tables.decls) tables.constants) → slice_get tables.constants k ≡ Some c
    → IsLow tables.decls c.ty
constant_low tables k c sound e =
    let h = list_all_at (constant_is_sound tables.decls) tables.constants k c sound e in
    sound_low tables.decls c.ty (grind arith)

any_content : (height : Ty → ℕ) (cs : List Case) (k : ℕ) (c : Case) (t : Ty) → slice_get cs k ≡ Some c
    → c.content ≡ Some t → height t ≤ highest_content height cs
any_content height [] k c t e f = absurd (none_some c e)
any_content height (b ∷ cs) zero c t e f =
    let same : content_height height b.content ≡ height t =
    ap (λ (x : Case). content_height height x.content) (some_is b c e) ∙ ap (content_height height) f in
    omega (arith, same)
any_content height (b ∷ cs) (suc k) c t e f = omega (arith, any_content height cs k c t e f)

pub content_low : (ds : Decls) (n k : ℕ) (e : Enumeration) (c : Case) (t : Ty) → slice_get ds.enumerations n ≡ Some e
    → slice_get e.cases k ≡ Some c → c.content ≡ Some t → IsLow ds t
content_low ds n k e c t at of has =
    omega (
      arith,
      enumeration_low ds n (within ds.enumerations n e at),
      height_Enumeration ds.structures ds.enumerations 63 n e at,
      any_content (height_to ds.structures ds.enumerations 63) e.cases k c t of has,
      level_cut ds.structures ds.enumerations 63 t,
    )

-- ---- functions

abbrev made_at : ℕ → ℕ → ItemDecl → FunctionPlace
made_at n k item = record { scope = n; item = k; decl = item }

-- an item of these is declared at a place
abbrev HasItem : ℕ → ℕ → List ItemDecl → FunctionPlace → Type 0
HasItem n k items place =
    (j : ℕ) × (place.scope ≡ n) × (place.item ≡ k + j) × (slice_get items j ≡ Some place.decl)

item_next : (n k : ℕ) (item : ItemDecl) (items : List ItemDecl) (place : FunctionPlace) → HasItem n (k + 1) items place
    → HasItem n k (item ∷ items) place
item_next n k item items place h = (suc h.0, h.1, omega (arith, h.2), h.3)

item_at : (n k : ℕ) (items : List ItemDecl) (f : ℕ) (place : FunctionPlace)
    → slice_get (functions_in n k items) f ≡ Some place → HasItem n k items place
item_at n k [] f place e = absurd (none_some place e)
item_at n k (item ∷ items) f place e = by_function (is_function item) f (λ g. item_at n (k + 1) items g place) e
  where
    plain : (k : ℕ) → k ≡ k + zero
    plain k = omega arith

    by_function : (b : Bool) (f : ℕ)
        → ((g : ℕ) → slice_get (functions_in n (k + 1) items) g ≡ Some place → HasItem n (k + 1) items place)
        → slice_get (if b then made_at n k item ∷ functions_in n (k + 1) items
        else functions_in n (k + 1) items) f ≡ Some place
        → HasItem n k (item ∷ items) place
    by_function false f rest e = item_next n k item items place (rest f e)
    by_function true (suc f) rest e = item_next n k item items place (rest f e)
    by_function true zero rest e =
        let is = some_is (made_at n k item) place e in (
          zero,
          sym (ap (λ (x : FunctionPlace). x.scope) is),
          sym (ap (λ (x : FunctionPlace). x.item) is) ∙ plain k,
          ap (λ (x : FunctionPlace). Some x.decl) is,
        )

get_joined : {A : Type 0} (xs ys : List A) (f : ℕ) (x : A) → slice_get (xs ++ ys) f ≡ Some x
    → (slice_get xs f ≡ Some x) ⊎ ((g : ℕ) × (slice_get ys g ≡ Some x))
get_joined [] ys f x e = inr (f, e)
get_joined (z ∷ xs) ys zero x e = inl e
get_joined (z ∷ xs) ys (suc f) x e = get_joined xs ys f x e

-- the same of an item of a scope
abbrev HasScope : ℕ → List Scope → FunctionPlace → Type 0
HasScope n scopes place = (j : ℕ) × (scope : Scope) × (place.scope ≡ n + j) × (slice_get scopes j ≡ Some scope)
    × (slice_get scope.items place.item ≡ Some place.decl)

scope_here : (n : ℕ) (scope : Scope) (scopes : List Scope) (place : FunctionPlace) → HasItem n 0 scope.items place
    → HasScope n (scope ∷ scopes) place
scope_here n scope scopes place h =
    let plain : place.item ≡ h.0 = omega (arith, h.2) in
    (zero, scope, omega (arith, h.1), refl, ap (slice_get scope.items) plain ∙ h.3)

place_at : (n : ℕ) (scopes : List Scope) (f : ℕ) (place : FunctionPlace)
    → slice_get (functions_from n scopes) f ≡ Some place → HasScope n scopes place
place_at n [] f place e = absurd (none_some place e)
place_at n (scope ∷ scopes) f place e =
    by_part (λ g. place_at (n + 1) scopes g place)
    (get_joined (functions_in n 0 scope.items) (functions_from (n + 1) scopes) f place e)
  where
    by_part : ((g : ℕ) → slice_get (functions_from (n + 1) scopes) g ≡ Some place → HasScope (n + 1) scopes place)
        → (slice_get (functions_in n 0 scope.items) f ≡ Some place)
        ⊎ ((g : ℕ) × (slice_get (functions_from (n + 1) scopes) g ≡ Some place))
        → HasScope n (scope ∷ scopes) place
    by_part all (inl h) = scope_here n scope scopes place (item_at n 0 scope.items f place h)
    by_part all (inr h) =
        let rest = all h.0 h.1 in
        (suc rest.0, rest.1, omega (arith, rest.2), rest.3, rest.4)

-- the item of a function's place is the one that is declared there
pub place_decl : (ds : Decls) (f : ℕ) (place : FunctionPlace) → slice_get (function_places ds) f ≡ Some place
    → slice_get (scope_items ds place.scope) place.item ≡ Some place.decl
place_decl ds f place e =
    let at = place_at 0 ds.scopes f place e in
    let plain : place.scope ≡ at.0 = omega (arith, at.2) in
    ap (λ (o : Option Scope). slice_get (items_in o) place.item) (ap (slice_get ds.scopes) plain ∙ at.3) ∙ at.4

pub place_low : (ds : Decls) (f : ℕ) (place : FunctionPlace) → slice_get (function_places ds) f ≡ Some place
    → IsLow ds place.decl.ty
place_low ds f place e = slot_low ds place.scope place.item place.decl (place_decl ds f place e)

pub place_params : (ds : Decls) (f : ℕ) (place : FunctionPlace) → slice_get (function_places ds) f ≡ Some place
    → AllHave (IsLow ds) place.decl.params
place_params ds f place e = slot_params ds place.scope place.item place.decl (place_decl ds f place e)
