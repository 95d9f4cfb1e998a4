-- Answers taken apart: where a whole has an answer, its parts have.
use Rattle.std.proofs.Common.{◌≡◌, ℕ, zero, suc, List, [], ◌∷◌, ◌++◌, Option, Some, None, Ok, Err, slice_get, refl}
use Rattle.std.proofs.Common.{subst}
use Rattle.cat_scope.specs.Names.{AllHave}
use Rattle.cat_names.specs.declared.fault.Fault.{Fault}
use Rattle.cat_names.specs.Found.{Found, and_then, both, or_fault, where_none}
use Rattle.cat_names.specs.TypedMeanings.{OnFound}

pub then_ok : {A B : Type 0} (found : Found A) (go : A → Found B) (b : B) → and_then found go ≡ Ok b
    → (a : A) × (found ≡ Ok a) × (go a ≡ Ok b)
then_ok (Ok a) go b h = (a, refl, h)
then_ok (Err faults) go b h = cc h

pub both_ok : {A B C : Type 0} (x : Found A) (y : Found B) (go : A → B → Found C) (c : C) → both x y go ≡ Ok c
    → (a : A) × (b : B) × (x ≡ Ok a) × (y ≡ Ok b) × (go a b ≡ Ok c)
both_ok (Ok a) (Ok b) go c h = (a, b, refl, refl, h)
both_ok (Ok a) (Err faults) go c h = cc h
both_ok (Err faults) (Ok b) go c h = cc h
both_ok (Err faults) (Err more) go c h = cc h

pub none_ok : {A : Type 0} (faults : List Fault) (found : Found A) (a : A) → where_none faults found ≡ Ok a
    → (faults ≡ []) × (found ≡ Ok a)
none_ok [] found a h = (refl, h)
none_ok (f ∷ fs) (Ok b) a h = cc h
none_ok (f ∷ fs) (Err more) a h = cc h

pub on_ok : {A : Type 0} (P : A → Type 0) (found : Found A) (a : A) → found ≡ Ok a → OnFound P found → P a
on_ok P found a is h = subst (OnFound P) is h

pub or_ok : {A : Type 0} (fault : Fault) (o : Option A) (a : A) → or_fault fault o ≡ Ok a → o ≡ Some a
or_ok fault (Some b) a h = cc h
or_ok fault None a h = cc h

-- ---- lists

pub nothing_in : (xs ys : List Fault) → xs ++ ys ≡ [] → xs ≡ []
nothing_in [] ys h = refl
nothing_in (x ∷ xs) ys h = cc h

pub nothing_behind : (xs ys : List Fault) → xs ++ ys ≡ [] → ys ≡ []
nothing_behind [] ys h = h
nothing_behind (x ∷ xs) ys h = cc h

pub all_at : {A : Type 0} (P : A → Type 0) (xs : List A) (k : ℕ) (x : A) → AllHave P xs → slice_get xs k ≡ Some x → P x
all_at P [] k x all h = cc h
all_at P (y ∷ ys) zero x all h = let is : y ≡ x = cc h in subst P is all.0
all_at P (y ∷ ys) (suc k) x all h = all_at P ys k x all.1 h
