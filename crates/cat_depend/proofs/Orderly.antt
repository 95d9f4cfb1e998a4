-- What the order of a program's scopes says of where each stands.
use Rattle.std.proofs.Common.{◌≡◌, ◌<◌, ℕ, true, IsTrue, List, [], ◌∷◌, ◌++◌, length}
use Rattle.std.proofs.Common.{Some, slice_get, sym, ap, ◌∙◌, subst, arith}
use Rattle.std.proofs.Math.Bool.{Bool-set}
use Rattle.std.proofs.Math.Logic.{∥∥₁_elim}
use Rattle.std.proofs.Props.{props}
use Rattle.std.proofs.lemmas.Option.{slice_get_within}
use Rattle.cat_order.specs.Order.{dependencies_of, IsOrder}
use Rattle.cat_value.specs.declared.decls.Decls.{Decls}
use Rattle.cat_scope.specs.declared.defs.Body.{Body}
use Rattle.cat_scope.specs.Names.{AllHave, is_in, all_differ}
use Rattle.cat_scope.specs.Orders.{scope_dependencies}
use Rattle.cat_scope.specs.Running.{moved}
use Rattle.cat_scope.specs.WellFormed.{IsWellFormed}
use Rattle.cat_sound.proofs.Exported.{AllIn, Ahead, ahead-of_IsOrder, all-of_IsOrder, in_at, scopes-at, scopes-length}
use Rattle.cat_sound.proofs.Exported.{BodyAt, body_at, same_some}
use Rattle.cat_depend.proofs.Members.{differ_once, in_cons, in_here, in_later}

-- each number stands once, is an item, and stands behind those that it depends on
pub record IsOrderly (deps : List (List ℕ)) (order : List ℕ) : Type 0 where
  pub all : (n : ℕ) → n < length deps → is_in n order ≡ true
  pub below : (n : ℕ) → is_in n order ≡ true → n < length deps
  pub differ : all_differ order ≡ true
  pub needs : (front back : List ℕ) (n m : ℕ) → order ≡ front ++ n ∷ back → is_in m (dependencies_of deps n) ≡ true
      → is_in m front ≡ true

-- ---- what an order says

module _ (bound : ℕ) (needs : ℕ → List ℕ) where
  ahead_at : (before front back : List ℕ) (n : ℕ) → Ahead bound needs before (front ++ n ∷ back)
      → AllIn (moved before front) (needs n)
  ahead_at before [] back n h = h.1
  ahead_at before (m ∷ front) back n h = ahead_at (m ∷ before) front back n h.2

  ahead_below : (before ns : List ℕ) → Ahead bound needs before ns → AllHave (λ n. n < bound) ns
  ahead_below before [] h = tt
  ahead_below before (n ∷ ns) h = (h.0, ahead_below (n ∷ before) ns h.2)

moved_in : (x : ℕ) (before front : List ℕ) → is_in x (moved before front) ≡ true → (P : Type 0)
    → (is_in x before ≡ true → P) → (is_in x front ≡ true → P) → P
moved_in x before [] h P one other = one h
moved_in x before (n ∷ front) h P one other =
    moved_in x (n ∷ before) front h P
    (λ g. in_cons P x n before g
    (λ same. other (subst (λ (k : ℕ). is_in x (k ∷ front) ≡ true) same (in_here x front))) one)
    (λ g. other (in_later x n front g))

module _ (deps : List (List ℕ)) (order : List ℕ) (is : IsOrder deps order) where
  ahead : Ahead (length deps) (dependencies_of deps) [] order
  ahead = ahead-of_IsOrder deps order is

  pub order_below : (n : ℕ) → is_in n order ≡ true → n < length deps
  order_below n h = in_at (λ (m : ℕ). m < length deps) order n
      (ahead_below (length deps) (dependencies_of deps) [] order ahead) h

  pub order_differs : all_differ order ≡ true
  order_differs = differ_once (length deps) order
      (ahead_below (length deps) (dependencies_of deps) [] order ahead) (λ n within. omega (arith, is.once n within))

  pub order_needs : (front back : List ℕ) (n m : ℕ) → order ≡ front ++ n ∷ back
      → is_in m (dependencies_of deps n) ≡ true → is_in m front ≡ true
  order_needs front back n m at h =
      let those = ahead_at (length deps) (dependencies_of deps) [] front back n
      (subst (λ (ns : List ℕ). Ahead (length deps) (dependencies_of deps) [] ns) at ahead) in
      moved_in m [] front (in_at (λ (k : ℕ). IsTrue (is_in k (moved [] front))) (dependencies_of deps n) m those h)
      (is_in m front ≡ true) (λ none. absurd (cc)) (λ g. g)

-- ---- of a program

module _ (ds : Decls) (bodies : List Body) (order : List ℕ) (formed : ∥ IsWellFormed ds bodies order ∥₁) where
  abbrev pub deps : List (List ℕ)
  deps = scope_dependencies ds.scopes bodies

  pub orderly : IsOrderly deps order
  orderly = record {
    all = λ n within. ∥∥₁_elim formed (Bool-set (is_in n order) true) (λ f. all-of_IsOrder deps order f.order n within);
    below = λ n h. ∥∥₁_elim formed (hlevel props) (λ f. order_below deps order f.order n h);
    differ = ∥∥₁_elim formed (Bool-set (all_differ order) true) (λ f. order_differs deps order f.order);
    needs = λ front back n m at h. ∥∥₁_elim formed (Bool-set (is_in m front) true)
        (λ f. order_needs deps order f.order front back n m at h);
  }

  pub counted : length deps ≡ length bodies
  counted = ∥∥₁_elim formed (hlevel props) (λ f. omega (arith, scopes-length ds.scopes bodies f.counted, f.counted))

  -- a body lists what its scope calls
  pub called_as : (k : ℕ) (body : Body) → slice_get bodies k ≡ Some body → (m : ℕ)
      → is_in m body.calls ≡ is_in m (dependencies_of deps k)
  called_as k body there m = ∥∥₁_elim formed (Bool-set (is_in m body.calls) (is_in m (dependencies_of deps k)))
      (λ f. listed f (body_at ds 0 ds.scopes bodies k f.bodies_are
      (let within = slice_get_within bodies k body there in omega (arith, within, f.counted))))
    where
      listed : IsWellFormed ds bodies order → BodyAt ds 0 ds.scopes bodies k
          → is_in m body.calls ≡ is_in m (dependencies_of deps k)
      listed f b = ap (λ (x : Body). is_in m x.calls) (same_some body b.body (sym there ∙ b.body_is))
          ∙ ap (is_in m) (b.is.calls ∙ sym (scopes-at ds.scopes bodies k b.scope b.body b.scope_is b.body_is))
