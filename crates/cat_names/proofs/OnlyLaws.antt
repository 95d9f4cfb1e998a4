-- Where an unknown name may stand in what is found, by where it may in the parts.
use Rattle.std.proofs.Common.{◌≡◌, ◌⊎◌, Bool, true, false, List, [], ◌∷◌, ◌++◌, Option, Some, None, Ok, Err, refl, sym}
use Rattle.std.proofs.Common.{subst, inl, inr}
use Rattle.std.specs.Option.{is_some}
use Rattle.cat_pos.specs.declared.pos.Pos.{Pos}
use Rattle.cat_value.specs.declared.ty.Ty.{Ty}
use Rattle.cat_scope.specs.Names.{IsOneOf}
use Rattle.cat_names.specs.declared.fault.Fault.{Fault}
use Rattle.cat_names.specs.declared.fault.Fault.TheVariants.{NameUnknown, TypeMismatch}
use Rattle.cat_names.specs.declared.typed.Typed.{Typed}
use Rattle.cat_names.specs.Found.{Found, faulty, and_then, both, or_fault, where_true, where_none, each_found, Stands}
use Rattle.cat_names.specs.Operations.{as_expected}

-- an unknown name stands at one of these positions
pub record Only (ps : List Pos) {A : Type 0} (found : Found A) : Type 0 where
  pub only : (p : Pos) → Stands (NameUnknown p) found → IsOneOf p ps

-- no unknown name
abbrev pub IsOther : Fault → Type 0
IsOther fault = (p : Pos) → fault ≡ NameUnknown p → ⊥

same_position : (p q : Pos) → NameUnknown p ≡ NameUnknown q → p ≡ q
same_position p q h = cc h

pub only_ok : (ps : List Pos) {A : Type 0} (a : A) → Only ps (Ok a)
only_ok ps a = record { only = λ p h. absurd h }

pub only_other : (ps : List Pos) {A : Type 0} (fault : Fault) → IsOther fault → Only ps {A = A} (faulty fault)
only_other ps fault other = record { only = λ p h. by p h }
  where
    by : (p : Pos) → (NameUnknown p ≡ fault) ⊎ ⊥ → IsOneOf p ps
    by p (inl is) = absurd (other p (sym is))
    by p (inr h) = absurd h

pub only_at : (ps : List Pos) {A : Type 0} (q : Pos) → IsOneOf q ps → Only ps {A = A} (faulty (NameUnknown q))
only_at ps q there = record { only = λ p h. by p h }
  where
    by : (p : Pos) → (NameUnknown p ≡ NameUnknown q) ⊎ ⊥ → IsOneOf p ps
    by p (inl is) = subst (λ r. IsOneOf r ps) (sym (same_position p q is)) there
    by p (inr h) = absurd h

pub only_then : (ps : List Pos) {A B : Type 0} (found : Found A) (go : A → Found B) → Only ps found
    → ((a : A) → Only ps (go a)) → Only ps (and_then found go)
only_then ps (Ok a) go h next = next a
only_then ps (Err faults) go h next = record { only = λ p i. h.only p i }

pub split : (f : Fault) (xs ys : List Fault) → IsOneOf f (xs ++ ys) → IsOneOf f xs ⊎ IsOneOf f ys
split f [] ys h = inr h
split f (x ∷ xs) ys (inl is) = inl (inl is)
split f (x ∷ xs) ys (inr h) = by (split f xs ys h)
  where
    by : IsOneOf f xs ⊎ IsOneOf f ys → IsOneOf f (x ∷ xs) ⊎ IsOneOf f ys
    by (inl i) = inl (inr i)
    by (inr i) = inr i

pub only_both : (ps : List Pos) {A B C : Type 0} (x : Found A) (y : Found B) (go : A → B → Found C) → Only ps x
    → Only ps y → ((a : A) (b : B) → Only ps (go a b)) → Only ps (both x y go)
only_both ps (Ok a) (Ok b) go h i next = next a b
only_both ps (Ok a) (Err faults) go h i next = record { only = λ p j. i.only p j }
only_both ps (Err faults) (Ok b) go h i next = record { only = λ p j. h.only p j }
only_both ps (Err faults) (Err more) go h i next =
    record { only = λ p j. by p (split (NameUnknown p) faults more j) }
  where
    by : (p : Pos) → IsOneOf (NameUnknown p) faults ⊎ IsOneOf (NameUnknown p) more → IsOneOf p ps
    by p (inl j) = h.only p j
    by p (inr j) = i.only p j

pub only_where : (ps : List Pos) {A : Type 0} (test : Bool) (fault : Fault) (found : Found A) → IsOther fault
    → Only ps found → Only ps (where_true test fault found)
only_where ps true fault found other h = h
only_where ps false fault found other h = only_other ps fault other

-- of a test that fails at a name
pub only_where_at : (ps : List Pos) {A : Type 0} (test : Bool) (q : Pos) (found : Found A) → IsOneOf q ps
    → Only ps found → Only ps (where_true test (NameUnknown q) found)
only_where_at ps true q found there h = h
only_where_at ps false q found there h = only_at ps q there

pub only_or : (ps : List Pos) {A B : Type 0} (fault : Fault) (o : Option A) (go : A → Found B) → IsOther fault
    → ((a : A) → Only ps (go a)) → Only ps (and_then (or_fault fault o) go)
only_or ps fault (Some a) go other next = next a
only_or ps fault None go other next = only_other ps fault other

pub only_or_at : (ps : List Pos) {A B : Type 0} (q : Pos) (o : Option A) (go : A → Found B) → IsOneOf q ps
    → ((a : A) → Only ps (go a)) → Only ps (and_then (or_fault (NameUnknown q) o) go)
only_or_at ps q (Some a) go there next = next a
only_or_at ps q None go there next = only_at ps q there

-- of what is there
pub only_there : (ps : List Pos) {A B : Type 0} (fault : Fault) (o : Option A) (go : A → Found B) → is_some o ≡ true
    → ((a : A) → Only ps (go a)) → Only ps (and_then (or_fault fault o) go)
only_there ps fault (Some a) go there next = next a
only_there ps fault None go there next = cc there

pub only_known : (ps : List Pos) {A : Type 0} (fault : Fault) (o : Option A) → is_some o ≡ true
    → Only ps (or_fault fault o)
only_known ps fault (Some a) there = only_ok ps a
only_known ps fault None there = cc there

pub only_maybe : (ps : List Pos) {A : Type 0} (q : Pos) (o : Option A) → IsOneOf q ps
    → Only ps (or_fault (NameUnknown q) o)
only_maybe ps q (Some a) there = only_ok ps a
only_maybe ps q None there = only_at ps q there

pub only_option : (ps : List Pos) {A : Type 0} (fault : Fault) (o : Option A) → IsOther fault
    → Only ps (or_fault fault o)
only_option ps fault (Some a) other = only_ok ps a
only_option ps fault None other = only_other ps fault other

pub only_none : (ps : List Pos) {A : Type 0} (faults : List Fault) (found : Found A)
    → ((p : Pos) → IsOneOf (NameUnknown p) faults → ⊥) → Only ps found → Only ps (where_none faults found)
only_none ps [] found other h = h
only_none ps (fault ∷ faults) (Ok a) other h = record { only = λ p i. absurd (other p i) }
only_none ps (fault ∷ faults) (Err more) other h =
    record { only = λ p i. by p (split (NameUnknown p) (fault ∷ faults) more i) }
  where
    by : (p : Pos) → IsOneOf (NameUnknown p) (fault ∷ faults) ⊎ IsOneOf (NameUnknown p) more → IsOneOf p ps
    by p (inl j) = absurd (other p j)
    by p (inr j) = h.only p j

pub only_each : (ps : List Pos) {A B : Type 0} (f : A → Found B) (xs : List A) →
    ((x : A) → IsOneOf x xs → Only ps (f x))
    → Only ps (each_found f xs)
only_each ps f [] each = only_ok ps []
only_each ps f (x ∷ xs) each = only_both ps (f x) (each_found f xs) _ (each x (inl refl))
    (only_each ps f xs (λ y h. each y (inr h))) (λ y ys. only_ok ps (y ∷ ys))

pub only_expected : (ps : List Pos) (expected : Option Ty) (found : Found Typed) → Only ps found
    → Only ps (as_expected expected found)
only_expected ps expected found h =
    only_then ps found _ h (λ x. only_where ps _ (TypeMismatch x.operator) (Ok x) (λ p e. cc e) (only_ok ps x))

-- at more positions
pub only_more : (ps qs : List Pos) {A : Type 0} (found : Found A) → ((p : Pos) → IsOneOf p ps → IsOneOf p qs)
    → Only ps found → Only qs found
only_more ps qs found more h = record { only = λ p i. more p (h.only p i) }

-- of what follows from what follows
pub only_nested : (ps : List Pos) {A B C : Type 0} (found : Found A) (f : A → Found B) (go : B → Found C)
    → Only ps found → ((a : A) → Only ps (and_then (f a) go)) → Only ps (and_then (and_then found f) go)
only_nested ps (Ok a) f go h next = next a
only_nested ps (Err faults) f go h next = record { only = λ p i. h.only p i }

pub only_nested_where : (ps : List Pos) {B C : Type 0} (test : Bool) (fault : Fault) (found : Found B)
    (go : B → Found C) → IsOther fault → Only ps (and_then found go) → Only ps
    (and_then (where_true test fault found) go)
only_nested_where ps true fault found go other h = h
only_nested_where ps false fault found go other h = only_other ps fault other
