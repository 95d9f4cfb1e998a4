-- What a run gives, where it ends in a value.
use Rattle.std.proofs.Common.{◌≡◌, ℕ, true, false, ◌<◌, IsTrue, List, [], ◌∷◌, length, Some}
use Rattle.std.proofs.Common.{Result, Ok, Err, slice_get, zero, suc, refl, sym, ap, subst, arith, true≢false}
use Rattle.std.specs.Prelude.{IfOk, nat_eq}
use Rattle.std.proofs.lemmas.Bool.Decides.{nat_tests}
use Rattle.cat_scope.specs.declared.stop.Stop.{Stop}
use Rattle.cat_sound.specs.Endings.{Allowed, Ended}
pub use Rattle.cat_sound.proofs.Results.{both, and_both}
pub use Rattle.cat_sound.proofs.Exported.{IfGives, if_then}

pub not_true : {A : Type 0} → IsTrue false → A
not_true h = absurd (true≢false (sym h))

pub same_number : (a b : ℕ) → nat_eq a b ≡ true → a ≡ b
same_number a b h = grind (arith, nat_tests)

-- an entry below the length
pub found : {A : Type 0} (xs : List A) (k : ℕ) → k < length xs → (x : A) × (slice_get xs k ≡ Some x)
found [] k below = absurd (omega arith)
found (x ∷ xs) zero below = (x, refl)
found (x ∷ xs) (suc k) below = found xs k (omega arith)

pub if_more : {A : Type 0} (P Q : A → Type 0) (r : Result A Stop) → IfOk r P → ((a : A) → P a → Q a) → IfOk r Q
if_more P Q (Ok a) h go = go a h
if_more P Q (Err stop) h go = tt

pub if_ended : {A : Type 0} (allowed : Allowed) (P : A → Type 0) (r : Result A Stop) → Ended allowed P r → IfOk r P
if_ended allowed P (Ok a) h = h
if_ended allowed P (Err stop) h = tt

abbrev or_value : {A : Type 0} → A → Result A Stop → A
or_value a (Ok b) = b
or_value a (Err stop) = a

abbrev pub as_ok : {A : Type 0} → A → Result A Stop
as_ok a = Ok a

pub same_ok : {A : Type 0} (a b : A) → as_ok a ≡ as_ok b → a ≡ b
same_ok a b e = ap (or_value a) e

pub if_ok : {A : Type 0} (P : A → Type 0) (r : Result A Stop) (a : A) → IfOk r P → r ≡ Ok a → P a
if_ok P (Ok b) a h is = subst P (same_ok b a is) h
if_ok P (Err stop) a h is = absurd (cc)
