-- What holds of all that was passed, and results that are handed on.
use Rattle.std.proofs.Common.{◌≡◌, ◌<◌, ◌+◌, ℕ, Bool, true, false, List, get_or, Some}
use Rattle.std.proofs.Common.{sym, ap, ◌∙◌, subst, arith, true≢false}
use Rattle.std.proofs.lemmas.Option.{get_or_from_slice_get}
use Rattle.std.proofs.lemmas.Bool.{cases_lt}
use Rattle.std.proofs.Math.Logic.{⊎_elim}
use Rattle.std.specs.Prelude.{Result, Ok, Err, IfOk, slice_get}

-- none of those that were passed is such, and neither is this one
pub none_more : (P : ℕ → Type 0) (at : ℕ) → ((k : ℕ) → k < at → P k → ⊥) → (P at → ⊥) → (k : ℕ) → k < at + 1 → P k → ⊥
none_more P at before here k below is = ⊎_elim
    (λ less. before k less is)
    (λ past. here (subst P (omega (arith, past, below)) is))
    (cases_lt k at)

-- what is there at an index doesn't pass a test that fails there
pub fails_at : {A : Type 0} (test : A → Bool) (xs : List A) (k : ℕ) (d : A) → test (get_or xs k d) ≡ false
    → (x : A) × (slice_get xs k ≡ Some x) × (test x ≡ true) → ⊥
fails_at test xs k d fails is =
    true≢false (sym is.2 ∙ ap test (sym (get_or_from_slice_get xs k is.0 d is.1)) ∙ fails)

pub if_ok : {T E : Type 0} (P Q : T → Type 0) (r : Result T E) → IfOk r P → ((done : T) → P done → Q done) → IfOk r Q
if_ok P Q (Ok done) holds go = go done holds
if_ok P Q (Err why) holds go = tt
