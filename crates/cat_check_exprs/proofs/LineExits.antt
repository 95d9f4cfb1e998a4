-- What stands in one of two parts behind an answer stands in the whole.
use Rattle.std.proofs.Common.{◌≡◌, Ok, Err, sym, subst}
use Rattle.cat_names.specs.declared.fault.Refusal.{Refusal}
use Rattle.cat_names.specs.Found.{Found, Tells, and_then, both}
use Rattle.cat_names.proofs.Exported.{left_tells, right_tells}

pub first_behind : {A B C D : Type 0} (e : Refusal) (found : Found A) (x : A) (a : A → Found B) (b : A → Found C)
    (go : A → B → C → Found D) → found ≡ Ok x → Tells {A = B} (Err e) (a x)
    → Tells {A = D} (Err e) (and_then found (λ y. both (a y) (b y) (go y)))
first_behind {A} {B} {C} {D} e found x a b go is h =
    subst (λ (f : Found A). Tells {A = D} (Err e) (and_then f (λ y. both (a y) (b y) (go y)))) (sym is)
    (left_tells e (a x) (b x) (go x) h)

pub second_behind : {A B C D : Type 0} (e : Refusal) (found : Found A) (x : A) (a : A → Found B) (b : A → Found C)
    (go : A → B → C → Found D) → found ≡ Ok x → Tells {A = C} (Err e) (b x)
    → Tells {A = D} (Err e) (and_then found (λ y. both (a y) (b y) (go y)))
second_behind {A} {B} {C} {D} e found x a b go is h =
    subst (λ (f : Found A). Tells {A = D} (Err e) (and_then f (λ y. both (a y) (b y) (go y)))) (sym is)
    (right_tells e (a x) (b x) (go x) h)
