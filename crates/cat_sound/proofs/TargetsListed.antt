-- The targets of definitions are among those of their scope.
use Rattle.std.proofs.Common.{◌≡◌, ◌⊎◌, inl, inr, ℕ, zero, suc, ◌+◌, ◌<◌, nat_eq, Bool, true, false, not, ◌&&◌, IsTrue}
use Rattle.std.proofs.Common.{List, [], ◌∷◌, ◌++◌, length, Option, Some, None, slice_get, refl, sym, ap, subst, arith}
use Rattle.std.proofs.Common.{true≢false, if◌then◌else◌}
use Rattle.std.proofs.Math.Logic.{⊎_elim}
use Rattle.std.proofs.lemmas.Bool.Decides.{nat_tests}
use Rattle.std.proofs.lemmas.Option.{slice_get_within}
use Rattle.cat_order.specs.Order.{IsOrder, times}
use Rattle.cat_value.specs.declared.ty.Ty.{Ty}
use Rattle.cat_value.specs.declared.decls.Decls.{Decls}
use Rattle.cat_value.specs.declared.declaration.Kind.{Kind}
use Rattle.cat_value.specs.declared.declaration.Kind.TheVariants as kind
use Rattle.cat_value.specs.declared.declaration.ItemDecl.{ItemDecl}
use Rattle.cat_value.specs.declared.outcome.Target.{Target}
use Rattle.cat_value.specs.Inputs.{must_be_given, may_be_given}
use Rattle.cat_scope.specs.declared.defs.Def.{Def}
use Rattle.cat_scope.specs.Names.{Names, IsOneOf, is_called, scope_items}
use Rattle.cat_scope.specs.Naming.{IsTargetAt}
use Rattle.cat_scope.specs.Forests.{called_targets, targets_at, item_targets, targets_of}
use Rattle.cat_scope.specs.Mentions.{items_named}
use Rattle.cat_scope.specs.Orders.{item_dependencies}
use Rattle.cat_sound.proofs.OrderFacts.{dependencies-length}

pub one_front : {A : Type 0} (x : A) (xs ys : List A) → IsOneOf x xs → IsOneOf x (xs ++ ys)
one_front x [] ys among = elim among [ ]
one_front x (y ∷ xs) ys among = ⊎_elim (λ same. inl same) (λ more. inr (one_front x xs ys more)) among

pub one_back : {A : Type 0} (x : A) (xs ys : List A) → IsOneOf x ys → IsOneOf x (xs ++ ys)
one_back x [] ys among = among
one_back x (y ∷ xs) ys among = inr (one_back x xs ys among)

-- ---- the order has each item

listed : (xs : List ℕ) (x : ℕ) → 0 < times xs x → IsOneOf x xs
listed [] x h = absurd (omega arith)
listed (y ∷ ys) x h = by (nat_eq y x) refl (listed ys x)
  where
    by : (b : Bool) → nat_eq y x ≡ b → (0 < times ys x → IsOneOf x ys) → IsOneOf x (y ∷ ys)
    by true e rest = inl (grind (arith, nat_tests))
    by false e rest = inr (rest (grind (arith, nat_tests)))

pub in_order : (items : List ItemDecl) (defs : List Def) (order : List ℕ) → IsOrder (item_dependencies items defs) order
    → (item : ℕ) (decl : ItemDecl) → slice_get items item ≡ Some decl → IsOneOf item order
in_order items defs order is item decl at =
    let within : item < length items = slice_get_within items item decl at in
    let many = dependencies-length items_named defs 0 items in
    let once = is.once item (omega (arith, many)) in
    listed order item (omega (arith, once))

-- ---- targets

own_listed : (ds : Decls) (scope item : ℕ) (k : Kind) → IsTrue (not (is_called k) && not (must_be_given k))
    → IsOneOf (record { scope = scope; item = item; inner = None }) (targets_at ds scope item k)
own_listed ds scope item kind.Input h = absurd (true≢false (sym h))
own_listed ds scope item kind.Output h = inl refl
own_listed ds scope item kind.Internal h = inl refl
own_listed ds scope item kind.Context h = inl refl
own_listed ds scope item kind.InputOutput h = absurd (true≢false (sym h))
own_listed ds scope item kind.ContextOutput h = inl refl
own_listed ds scope item (kind.Called n) h = absurd (true≢false (sym h))

inner_listed : (scope item n : ℕ) (items : List ItemDecl) (k : ℕ) (decl : ItemDecl) → slice_get items k ≡ Some decl
    → IsTrue (may_be_given decl.kind)
    → IsOneOf (record { scope = scope; item = item; inner = Some (n + k) }) (called_targets scope item n items)
inner_listed scope item n [] k decl at given = absurd (cc)
inner_listed scope item n (i ∷ items) zero decl at given =
    subst (λ (m : ℕ). IsOneOf (record { scope = scope; item = item; inner = Some m })
    (called_targets scope item n (i ∷ items))) (omega arith) (by (may_be_given i.kind) here)
  where
    or_decl : ItemDecl → Option ItemDecl → ItemDecl
    or_decl d None = d
    or_decl d (Some e) = e

    here : IsTrue (may_be_given i.kind)
    here = subst (λ (d : ItemDecl). IsTrue (may_be_given d.kind)) (sym (ap (or_decl i) at)) given

    by : (b : Bool) → IsTrue b
        → IsOneOf (record { scope = scope; item = item; inner = Some n })
        (if b then record { scope = scope; item = item; inner = Some n } ∷ called_targets scope item (n + 1) items
        else called_targets scope item (n + 1) items)
    by true h = inl refl
    by false h = absurd (true≢false (sym h))
inner_listed scope item n (i ∷ items) (suc k) decl at given =
    subst (λ (m : ℕ). IsOneOf (record { scope = scope; item = item; inner = Some m })
    (called_targets scope item n (i ∷ items))) (omega arith)
    (by (may_be_given i.kind) (inner_listed scope item (n + 1) items k decl at given))
  where
    by : (b : Bool)
        → IsOneOf (record { scope = scope; item = item; inner = Some ((n + 1) + k) })
        (called_targets scope item (n + 1) items)
        → IsOneOf (record { scope = scope; item = item; inner = Some ((n + 1) + k) })
        (if b then record { scope = scope; item = item; inner = Some n } ∷ called_targets scope item (n + 1) items
        else called_targets scope item (n + 1) items)
    by true h = inr h
    by false h = h

at_item : (ns : Names) (scope item : ℕ) (inner : Option ℕ) (ps : List Ty) (t : Ty) → IsTargetAt ns item inner ps t
    → IsOneOf (record { scope = scope; item = item; inner = inner })
    (item_targets ns.decls scope item (slice_get ns.items item))
at_item ns scope item None ps t h =
    subst (λ o. IsOneOf (record { scope = scope; item = item; inner = None }) (item_targets ns.decls scope item o))
    (sym h.decl_is) (own_listed ns.decls scope item h.decl.kind h.defined)
at_item ns scope item (Some n) ps t h =
    subst (λ o. IsOneOf (record { scope = scope; item = item; inner = Some n }) (item_targets ns.decls scope item o))
    (sym h.called_is)
    (subst (λ k. IsOneOf (record { scope = scope; item = item; inner = Some n }) (targets_at ns.decls scope item k))
    (sym h.kind_is)
    (subst (λ (m : ℕ). IsOneOf (record { scope = scope; item = item; inner = Some m })
    (called_targets scope item 0 (scope_items ns.decls h.scope))) (omega arith)
    (inner_listed scope item 0 (scope_items ns.decls h.scope) n h.decl h.decl_is h.given)))

in_targets : (ds : Decls) (scope : ℕ) (items : List ItemDecl) (order : List ℕ) (item : ℕ) (x : Target)
    → IsOneOf item order → IsOneOf x (item_targets ds scope item (slice_get items item))
    → IsOneOf x (targets_of ds scope items order)
in_targets ds scope items [] item x among h = elim among [ ]
in_targets ds scope items (i ∷ order) item x (inl e) h =
    one_front x (item_targets ds scope i (slice_get items i)) (targets_of ds scope items order)
    (subst (λ (j : ℕ). IsOneOf x (item_targets ds scope j (slice_get items j))) e h)
in_targets ds scope items (i ∷ order) item x (inr more) h =
    one_back x (item_targets ds scope i (slice_get items i)) (targets_of ds scope items order)
    (in_targets ds scope items order item x more h)

item_there : (ns : Names) (item : ℕ) (inner : Option ℕ) (ps : List Ty) (t : Ty) → IsTargetAt ns item inner ps t
    → (decl : ItemDecl) × (slice_get ns.items item ≡ Some decl)
item_there ns item None ps t h = (h.decl, h.decl_is)
item_there ns item (Some n) ps t h = (h.called, h.called_is)

pub target_listed : (ns : Names) (scope : ℕ) (defs : List Def) (order : List ℕ)
    → IsOrder (item_dependencies ns.items defs) order → (item : ℕ) (inner : Option ℕ) (ps : List Ty) (t : Ty)
    → IsTargetAt ns item inner ps t
    → IsOneOf (record { scope = scope; item = item; inner = inner }) (targets_of ns.decls scope ns.items order)
target_listed ns scope defs order is item inner ps t h =
    let there = item_there ns item inner ps t h in
    in_targets ns.decls scope ns.items order item (record { scope = scope; item = item; inner = inner })
    (in_order ns.items defs order is item there.0 there.1) (at_item ns scope item inner ps t h)
