-- A target that is there.
use Rattle.std.proofs.Common.{◌≡◌, [], Option, Some, None, refl, subst}
use Rattle.std.specs.Prelude.{IfSome}

pub at_some : {A : Type 0} (P : A → Type 0) (o : Option A) (t : A) → o ≡ Some t → IfSome o P → P t
at_some P o t is p = subst (λ o. IfSome o P) is p

pub if_some : {A : Type 0} {Q : A → Type 0} (o : Option A) → ((t : A) → o ≡ Some t → Q t) → IfSome o Q
if_some None go = tt
if_some (Some t) go = go t refl
