-- Results, and facts of what may be there, by cases.
use Rattle.std.proofs.Common.{Option, Some, None, Result, Ok, Err, IfSome, OnOk}

pub on_ok : {A E : Type 0} {P Q : Type 0} (r : Result A E) → OnOk r P → (P → Q) → OnOk r Q
on_ok (Ok a) p go = go p
on_ok (Err e) p go = tt

pub if_some : {A : Type 0} {P Q : A → Type 0} (o : Option A) → IfSome o P → ((a : A) → P a → Q a) → IfSome o Q
if_some None p go = tt
if_some (Some a) p go = go a p

pub both_some : {A : Type 0} (P Q : A → Type 0) (o : Option A) → IfSome o P → IfSome o Q → IfSome o (λ a. P a × Q a)
both_some P Q None p q = tt
both_some P Q (Some a) p q = (p, q)

-- a fact of what may be there, of what a call leaves
pub on_ok_some : {A E B : Type 0} (P Q : B → Type 0) (r : Result A E) (o : Option B) → IfSome o P
    → ((b : B) → P b → OnOk r (Q b)) → OnOk r (IfSome o Q)
on_ok_some P Q (Ok a) None p go = tt
on_ok_some P Q (Ok a) (Some b) p go = go b p
on_ok_some P Q (Err e) o p go = tt
