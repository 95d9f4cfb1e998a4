-- Elements of lists by their numbers.
use Rattle.std.proofs.Common.{◌≡◌, ℕ, zero, suc, ◌<◌, List, [], ◌∷◌, ◌++◌, length, drop, Some, None}
use Rattle.std.proofs.Common.{slice_get, refl, arith}

-- what begins with an element
pub drop-at : {A : Type 0} (xs : List A) (k : ℕ) (x : A) → slice_get xs k ≡ Some x → drop k xs ≡ x ∷ drop (suc k) xs
drop-at [] k x h = absurd (cc)
drop-at (y ∷ ys) zero x h = cc
drop-at (y ∷ ys) (suc k) x h = drop-at ys k x h

pub drop-past : {A : Type 0} (xs : List A) (k : ℕ) → slice_get xs k ≡ None → drop k xs ≡ []
drop-past [] zero h = refl
drop-past [] (suc k) h = refl
drop-past (y ∷ ys) zero h = absurd (cc)
drop-past (y ∷ ys) (suc k) h = drop-past ys k h

pub front-slice_get : {A : Type 0} (xs ys : List A) (j : ℕ) → j < length xs → slice_get (xs ++ ys) j ≡ slice_get xs j
front-slice_get [] ys j h = absurd (omega arith)
front-slice_get (x ∷ xs) ys zero h = refl
front-slice_get (x ∷ xs) ys (suc j) h = front-slice_get xs ys j (omega arith)

pub last-slice_get : {A : Type 0} (xs : List A) (x : A) (k : ℕ) → k ≡ length xs → slice_get (xs ++ x ∷ []) k ≡ Some x
last-slice_get [] x k h = rw h refl
last-slice_get (y ∷ ys) x zero h = absurd (omega arith)
last-slice_get (y ∷ ys) x (suc k) h = last-slice_get ys x k (omega arith)

-- an element below the length is there
pub record IsThere {A : Type 0} (xs : List A) (k : ℕ) : Type 0 where
  pub value : A
  pub is : slice_get xs k ≡ Some value

pub there : {A : Type 0} (xs : List A) (k : ℕ) → k < length xs → IsThere xs k
there [] k h = absurd (omega arith)
there (x ∷ xs) zero h = record { value = x; is = refl }
there (x ∷ xs) (suc k) h = let at = there xs k (omega arith) in record { value = at.value; is = at.is }
