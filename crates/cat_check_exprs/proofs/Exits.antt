-- What stands in a part of a form stands in the form.
use Rattle.std.proofs.Common.{Option, Ok, Err}
use Rattle.cat_value.specs.declared.ty.Ty.{Ty}
use Rattle.cat_names.specs.declared.fault.Refusal.{Refusal}
use Rattle.cat_names.specs.declared.fault.Fault.TheVariants.{TypeMismatch}
use Rattle.cat_names.specs.declared.typed.Typed.{Typed}
use Rattle.cat_names.specs.Found.{Found, Tells, both, where_true}
use Rattle.cat_names.specs.Operations.{as_expected}
use Rattle.cat_names.specs.Types.{is_as_expected}
use Rattle.cat_names.proofs.Exported.{left_tells, right_tells, then_tells}

expecting : (ex : Option Ty) (e : Refusal) (found : Found Typed) → Tells {A = Typed} (Err e) found
    → Tells {A = Typed} (Err e) (as_expected ex found)
expecting ex e found h =
    then_tells e found (λ x. where_true (is_as_expected ex x.ty) (TypeMismatch x.operator) (Ok x)) h

-- in the first of two parts, and in the second
pub first_exit : {A B : Type 0} (ex : Option Ty) (e : Refusal) (a : Found A) (b : Found B)
    (go : A → B → Found Typed) → Tells {A = A} (Err e) a → Tells {A = Typed} (Err e) (as_expected ex (both a b go))
first_exit ex e a b go h = expecting ex e (both a b go) (left_tells e a b go h)

pub second_exit : {A B : Type 0} (ex : Option Ty) (e : Refusal) (a : Found A) (b : Found B)
    (go : A → B → Found Typed) → Tells {A = B} (Err e) b → Tells {A = Typed} (Err e) (as_expected ex (both a b go))
second_exit ex e a b go h = expecting ex e (both a b go) (right_tells e a b go h)
