-- What holds of what is found, by what holds of its parts.
use Rattle.std.proofs.Common.{◌≡◌, Bool, true, false, IsTrue, Option, Some, None, Ok, Err, refl, subst}
use Rattle.cat_names.specs.declared.fault.Fault.{Fault}
use Rattle.cat_names.specs.Found.{Found, and_then, both, or_fault, where_true}
use Rattle.cat_names.specs.TypedMeanings.{OnFound}

pub on_then : {A B : Type 0} (P : A → Type 0) (Q : B → Type 0) (found : Found A) (go : A → Found B) → OnFound P found
    → ((a : A) → P a → OnFound Q (go a)) → OnFound Q (and_then found go)
on_then P Q (Ok a) go h next = next a h
on_then P Q (Err faults) go h next = tt

pub on_both : {A B C : Type 0} (P : A → Type 0) (Q : B → Type 0) (R : C → Type 0) (x : Found A) (y : Found B)
    (go : A → B → Found C) → OnFound P x → OnFound Q y → ((a : A) (b : B) → P a → Q b → OnFound R (go a b))
    → OnFound R (both x y go)
on_both P Q R (Ok a) (Ok b) go h i next = next a b h i
on_both P Q R (Ok a) (Err faults) go h i next = tt
on_both P Q R (Err faults) (Ok b) go h i next = tt
on_both P Q R (Err faults) (Err more) go h i next = tt

pub on_where : {A : Type 0} (P : A → Type 0) (test : Bool) (fault : Fault) (found : Found A)
    → (IsTrue test → OnFound P found) → OnFound P (where_true test fault found)
on_where P true fault found h = h refl
on_where P false fault found h = tt

-- a test beside a part
pub on_both_where : {A B C : Type 0} (Q : B → Type 0) (R : C → Type 0) (test : Bool) (fault : Fault) (a : A)
    (y : Found B) (go : A → B → Found C) → (IsTrue test → OnFound Q y)
    → (IsTrue test → (b : B) → Q b → OnFound R (go a b)) → OnFound R (both (where_true test fault (Ok a)) y go)
on_both_where Q R true fault a (Ok b) go h next = next refl b (h refl)
on_both_where Q R true fault a (Err faults) go h next = tt
on_both_where Q R false fault a (Ok b) go h next = tt
on_both_where Q R false fault a (Err faults) go h next = tt

pub on_or : {A : Type 0} (fault : Fault) (o : Option A) → OnFound (λ a. o ≡ Some a) (or_fault fault o)
on_or fault (Some a) = refl
on_or fault None = tt

pub on_any : {A : Type 0} (found : Found A) → OnFound (λ a. Unit {0}) found
on_any (Ok a) = tt
on_any (Err faults) = tt

pub on_ok : {A : Type 0} (P : A → Type 0) (found : Found A) (a : A) → found ≡ Ok a → OnFound P found → P a
on_ok P found a is h = subst (OnFound P) is h
