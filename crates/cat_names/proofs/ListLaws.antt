-- What holds of each element of a list, of parts of it and of lists behind one another.
use Rattle.std.proofs.Common.{◌≡◌, ℕ, ◌+◌, List, [], ◌∷◌, ◌++◌, arith, inl, inr}
use Rattle.cat_order.specs.Order.{times}
use Rattle.cat_scope.specs.Names.{AllHave, IsOneOf}
use Rattle.cat_scope.proofs.Exported.{all_append}

-- one of a list is one of a longer list
pub in_front : {A : Type 0} (x : A) (xs ys : List A) → IsOneOf x xs → IsOneOf x (xs ++ ys)
in_front x [] ys h = elim h [ ]
in_front x (y ∷ xs) ys (inl is) = inl is
in_front x (y ∷ xs) ys (inr h) = inr (in_front x xs ys h)

pub behind : {A : Type 0} (x : A) (xs ys : List A) → IsOneOf x ys → IsOneOf x (xs ++ ys)
behind x [] ys h = h
behind x (y ∷ xs) ys h = inr (behind x xs ys h)

pub all_left : {A : Type 0} (P : A → Type 0) (xs ys : List A) → AllHave P (xs ++ ys) → AllHave P xs
all_left P [] ys h = tt
all_left P (x ∷ xs) ys h = (h.0, all_left P xs ys h.1)

pub all_right : {A : Type 0} (P : A → Type 0) (xs ys : List A) → AllHave P (xs ++ ys) → AllHave P ys
all_right P [] ys h = h
all_right P (x ∷ xs) ys h = all_right P xs ys h.1

pub all_any : {A : Type 0} (P : A → Type 0) → ((x : A) → P x) → (xs : List A) → AllHave P xs
all_any P each [] = tt
all_any P each (x ∷ xs) = (each x, all_any P each xs)

pub each_of : {A : Type 0} (P Q : A → Type 0) → ((x : A) → P x → Q x) → (xs : List A) → AllHave P xs → AllHave Q xs
each_of P Q on [] all = tt
each_of P Q on (x ∷ xs) all = (on x all.0, each_of P Q on xs all.1)

-- how often a number stands in two lists
pub times_join : (xs ys : List ℕ) (m : ℕ) → times (xs ++ ys) m ≡ times xs m + times ys m
times_join [] ys m = omega arith
times_join (x ∷ xs) ys m = omega (arith, times_join xs ys m)
