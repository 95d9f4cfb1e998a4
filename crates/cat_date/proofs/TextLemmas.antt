-- A text of the form of a day has ten bytes, digits in their places.
use Rattle.std.proofs.Common.{◌≡◌, ◌≢◌, ℕ, zero, suc, ◌+◌, ◌<◌, List, [], ◌∷◌, ◌++◌, if◌then◌else◌, length, take, drop}
use Rattle.std.proofs.Common.{get_or, drop-cons, add-one, ◌==◌, replicate, codes, bytes_eq, Bool, true, false, ◌&&◌}
use Rattle.std.proofs.Common.{refl, sym, ap, ◌∙◌, arith}
use Rattle.std.proofs.lemmas.Bool.Decides.{nat_tests}
use Rattle.std.proofs.lemmas.Slice.Eq.{bytes_eq-Decides}
use Rattle.std.specs.Char.{is_ascii_digit}
use Rattle.std.specs.Str.{all_ascii_digits}
use Rattle.cat_date.specs.Text.{form_of}

pub length-form_of : (xs : List ℕ) → length (form_of xs) ≡ length xs
length-form_of [] = refl
length-form_of (x ∷ xs) = ap suc (length-form_of xs)

form_of-take : (n : ℕ) (xs : List ℕ) → form_of (take n xs) ≡ take n (form_of xs)
form_of-take zero xs = refl
form_of-take (suc n) [] = refl
form_of-take (suc n) (x ∷ xs) = ap (λ ys. form_of (x ∷ []) ++ ys) (form_of-take n xs)

form_of-drop : (n : ℕ) (xs : List ℕ) → form_of (drop n xs) ≡ drop n (form_of xs)
form_of-drop zero xs = refl
form_of-drop (suc n) [] = refl
form_of-drop (suc n) (x ∷ xs) = form_of-drop n xs

-- a text whose form is all zeros is all digits
all_ascii_digits-zeros : (n : ℕ) (xs : List ℕ) → form_of xs ≡ replicate n 48 → all_ascii_digits xs ≡ true
all_ascii_digits-zeros n [] e = refl
all_ascii_digits-zeros zero (x ∷ xs) e = cc
all_ascii_digits-zeros (suc n) (x ∷ xs) e =
    let rest = all_ascii_digits-zeros n xs (cc) in
    let here : (if is_ascii_digit x then 48 else x) ≡ 48 = cc in
    grind (arith, nat_tests)

pub form_is : (text : List ℕ) → bytes_eq (form_of text) (codes "0000-00-00") ≡ true → form_of text ≡ codes "0000-00-00"
form_is text h = (bytes_eq-Decides (form_of text) (codes "0000-00-00")).0 h

pub form_length : (text : List ℕ) → form_of text ≡ codes "0000-00-00" → length text ≡ 10
form_length text e = sym (length-form_of text) ∙ ap length e

pub day_digits : (text : List ℕ) → form_of text ≡ codes "0000-00-00" → all_ascii_digits (take 2 (drop 8 text)) ≡ true
day_digits text e =
    all_ascii_digits-zeros 2 (take 2 (drop 8 text)) (form_of-take 2 (drop 8 text)
    ∙ ap (take 2) (form_of-drop 8 text ∙ ap (drop 8) e))

-- a text of another length has another form
pub other_length : (text form : List ℕ) → length text ≢ length form → bytes_eq (form_of text) form ≡ false
other_length text form apart = by (bytes_eq (form_of text) form) refl
  where
    by : (b : Bool) → bytes_eq (form_of text) form ≡ b → b ≡ false
    by false is = refl
    by true is =
        absurd (apart (sym (length-form_of text) ∙ ap (λ (l : List ℕ). length l) ((bytes_eq-Decides _ _).0 is)))

step : (text form : List ℕ) (i : ℕ) → i < length text → i < length form
    → bytes_eq (form_of (drop i text)) (drop i form)
    ≡ (((if is_ascii_digit (get_or text i 0) then 48 else get_or text i 0) == get_or form i 0)
    && bytes_eq (form_of (drop (i + 1) text)) (drop (i + 1) form))
step text form i within below = rw (add-one, drop-cons text i 0, drop-cons form i 0) refl

test_same : (x y : ℕ) (b : Bool) → x ≡ y → ((x == y) && b) ≡ b
test_same x y b e = grind (arith, nat_tests)

test_other : (x y : ℕ) (b : Bool) → x ≢ y → ((x == y) && b) ≡ false
test_other x y b e = grind (arith, nat_tests)

-- where the byte fits, the rest decides
pub form_same : (text form : List ℕ) (i f : ℕ) → i < length text → i < length form
    → f ≡ (if is_ascii_digit (get_or text i 0) then 48 else get_or text i 0) → f ≡ get_or form i 0
    → bytes_eq (form_of (drop (i + 1) text)) (drop (i + 1) form) ≡ bytes_eq (form_of (drop i text)) (drop i form)
form_same text form i f within below is same =
    sym (step text form i within below ∙ test_same _ _ _ (sym is ∙ same))

pub form_other : (text form : List ℕ) (i f : ℕ) → i < length text → i < length form
    → f ≡ (if is_ascii_digit (get_or text i 0) then 48 else get_or text i 0) → f ≢ get_or form i 0
    → bytes_eq (form_of (drop i text)) (drop i form) ≡ false
form_other text form i f within below is other =
    step text form i within below ∙ test_other _ _ _ (λ same. other (is ∙ same))
