-- Items in order, body by body.
use Rattle.std.proofs.Common.{◌≡◌, ◌⊎◌, ◌<◌, ◌∙◌, ◌+◌, ◌++◌, ℕ, zero, suc, List, [], ◌∷◌, length, map, Some, slice_get}
use Rattle.std.proofs.Common.{refl, sym, ap, subst, inl, inr, arith}
use Rattle.std.proofs.lemmas.List.{length-map, map-append}
use Rattle.cat_order.specs.Order.{IsOrder}
use Rattle.cat_order.specs.declared.refusal.OrderRefusal.{OrderRefusal}
use Rattle.cat_value.specs.declared.declaration.ItemDecl.{ItemDecl}
use Rattle.cat_value.specs.declared.declaration.Scope.{Scope}
use Rattle.cat_value.specs.declared.decls.Decls.{Decls}
use Rattle.cat_value.specs.Laws.{AreSound}
use Rattle.cat_tree.specs.declared.program.Tree.{Tree}
use Rattle.cat_scope.specs.declared.expr.Expr.{Expr}
use Rattle.cat_scope.specs.declared.defs.Def.{Def}
use Rattle.cat_scope.specs.declared.defs.Body.{Body}
use Rattle.cat_scope.specs.Mentions.{items_named}
use Rattle.cat_scope.specs.Orders.{dependencies_from, item_dependencies}
use Rattle.cat_names.specs.declared.fault.Fault.{Fault}
use Rattle.cat_names.specs.declared.fault.Refusal.{Refusal}
use Rattle.cat_names.specs.declared.fault.Refusal.TheVariants.{Memory, Refused}
use Rattle.cat_names.specs.Accepted.{unordered, IsMeant}
use Rattle.cat_names.specs.Bodies.{UnorderedBody}
use Rattle.cat_names.specs.Cycles.{IsItemCycle}
use Rattle.cat_names.proofs.Exported.{meant_counted, meant_items, meant_targets}
use Rattle.cat_depend.specs.Causes.{HasItemCause}
use Rattle.cat_check.specs.Cause.{Because}
use Rattle.cat_check.specs.inside.Ordered.{IsItemized, IsCyclicItem, IsWithOrder, AreInOrder, AreItemized}

-- ---- refusals

pub because : (P Q : Fault → Type 0) → ((fault : Fault) → P fault → Q fault) → (r : Refusal) → Because P r → Because Q r
because P Q go Memory h = tt
because P Q go (Refused fault) h = go fault h

-- ---- the items of one scope

pub cause_at : (items some : List ItemDecl) (defs parts : List Def) → some ≡ items → parts ≡ defs → (r : OrderRefusal)
    → HasItemCause (item_dependencies some parts) r → HasItemCause (item_dependencies items defs) r
cause_at items some defs parts same alike r h =
    subst (λ (ds : List Def). HasItemCause (item_dependencies items ds) r) alike
    (subst (λ (is : List ItemDecl). HasItemCause (item_dependencies is parts) r) same h)

as_long_from : (named : Expr → List ℕ) (defs : List Def) (k : ℕ) (items : List ItemDecl)
    → length (dependencies_from named defs k items) ≡ length items
as_long_from named defs k [] = refl
as_long_from named defs k (i ∷ items) = omega (arith, as_long_from named defs (k + 1) items)

pub as_long : (items : List ItemDecl) (defs : List Def) → length (item_dependencies items defs) ≡ length items
as_long items defs = as_long_from items_named defs 0 items

-- ---- lists that grow

-- where an element of a list with one more stands
pub last_or : {A : Type 0} (xs : List A) (x y : A) (k : ℕ) → slice_get (xs ++ x ∷ []) k ≡ Some y
    → (slice_get xs k ≡ Some y) ⊎ ((k ≡ length xs) × (x ≡ y))
last_or [] x y zero h = let same : x ≡ y = cc h in inr (refl, same)
last_or [] x y (suc k) h = cc h
last_or (z ∷ xs) x y zero h = inl h
last_or {A} (z ∷ xs) x y (suc k) h = by (last_or xs x y k h)
  where
    by : (slice_get xs k ≡ Some y) ⊎ ((k ≡ length xs) × (x ≡ y))
        → (slice_get xs k ≡ Some y) ⊎ ((suc k ≡ suc (length xs)) × (x ≡ y))
    by (inl i) = inl i
    by (inr (at, is)) = inr (ap suc at, is)

pub at_seam : {A : Type 0} (xs : List A) (x : A) (ys : List A) → slice_get (xs ++ x ∷ ys) (length xs) ≡ Some x
at_seam [] x ys = refl
at_seam (z ∷ xs) x ys = at_seam xs x ys

-- ---- bodies so far

-- so many bodies have the orders of their items, and are as they were but for these
pub record AreSoFar (scopes : List Scope) (made front : List Body) : Type 0 where
  pub kept : map unordered made ≡ map unordered front
  pub order : AreInOrder scopes made

pub counted : (made front : List Body) → map unordered made ≡ map unordered front → length made ≡ length front
counted made front same = omega (
  arith,
  length-map made unordered,
  length-map front unordered,
  ap (λ (us : List UnorderedBody). length us) same,
)

order_kept : (items : List ItemDecl) (b new : Body) (order : List ℕ) → IsWithOrder b order new
    → IsOrder (item_dependencies items b.defs) order → IsOrder (item_dependencies items new.defs) new.order
order_kept items b new order with_it is =
    subst (λ (xs : List ℕ). IsOrder (item_dependencies items new.defs) xs) (sym with_it.order_is)
    (subst (λ (u : UnorderedBody). IsOrder (item_dependencies items u.defs) order) (sym with_it.kept) is)

pub one_more : (scopes : List Scope) (made front : List Body) (s : Scope) (b new : Body) (order : List ℕ)
    → AreSoFar scopes made front → slice_get scopes (length made) ≡ Some s → IsWithOrder b order new
    → IsOrder (item_dependencies s.items b.defs) order → AreSoFar scopes (made ++ new ∷ []) (front ++ b ∷ [])
one_more scopes made front s b new order so_far at with_it is = record {
  kept = map-append unordered made (new ∷ []) ∙ ap (λ (us : List UnorderedBody). us ++ unordered new ∷ []) so_far.kept
      ∙ ap (λ u. map unordered front ++ u ∷ []) with_it.kept ∙ sym (map-append unordered front (b ∷ []));
  order = λ k t c here there. by k t c here (last_or made new c k there);
}
  where
    by : (k : ℕ) (t : Scope) (c : Body) → slice_get scopes k ≡ Some t
        → (slice_get made k ≡ Some c) ⊎ ((k ≡ length made) × (new ≡ c))
        → IsOrder (item_dependencies t.items c.defs) c.order
    by k t c here (inl i) = so_far.order k t c here i
    by k t c here (inr (last, same)) =
        let at_k : slice_get scopes k ≡ Some s = subst (λ n. slice_get scopes n ≡ Some s) (sym last) at in
        let scope_is : s ≡ t = cc (at_k, here) in
        subst (λ (x : Body). IsOrder (item_dependencies t.items x.defs) x.order) same
        (subst (λ (x : Scope). IsOrder (item_dependencies x.items new.defs) new.order) scope_is
        (order_kept s.items b new order with_it is))

-- ---- what is meant

pub all_itemized : (ds : Decls) → AreSound ds → (tree : Tree) (bodies : List Body) → IsMeant tree ds bodies
    → AreItemized ds.scopes bodies
all_itemized ds sound tree bodies meant = record {
  counted = meant_counted ds sound tree bodies meant;
  each = λ n s b at is. record {
    few = sound.items_counted n s at;
    targets = meant_targets ds sound tree bodies meant n s b at is;
    named = meant_items ds sound tree bodies meant n s b at is;
  };
}

module _ (ds : Decls) (bodies : List Body) (all : AreItemized ds.scopes bodies) where
  -- a body between others
  module _ (made front : List Body) (b : Body) (rest : List Body) (split : front ++ b ∷ rest ≡ bodies)
      (kept : map unordered made ≡ map unordered front) where
    body_at : slice_get bodies (length made) ≡ Some b
    body_at = ap (λ n. slice_get bodies n) (counted made front kept)
        ∙ ap (λ (bs : List Body). slice_get bs (length front)) (sym split) ∙ at_seam front b rest

    pub scope_there : length made < length ds.scopes
    scope_there = omega (
      arith,
      counted made front kept,
      all.counted,
      ap (λ (bs : List Body). length bs) (sym split),
      longer front rest,
    )
      where
        longer : (xs ys : List Body) → length xs < length (xs ++ b ∷ ys)
        longer [] ys = omega arith
        longer (x ∷ xs) ys = omega (arith, longer xs ys)

    module _ (s : Scope) (at : slice_get ds.scopes (length made) ≡ Some s) where
      pub itemized : IsItemized s.items b.defs
      itemized = all.each (length made) s b at body_at

      pub cyclic : (fault : Fault) → IsCyclicItem s.items b.defs fault → IsItemCycle ds bodies fault
      cyclic fault c = record {
        number = length made;
        item_number = c.number;
        scope = s;
        body = b;
        item = c.item;
        scope_is = at;
        body_is = body_at;
        item_is = c.item_is;
        on_cycle = c.on_cycle;
        fault_is = c.fault_is;
      }
