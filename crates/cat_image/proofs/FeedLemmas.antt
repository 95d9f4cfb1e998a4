-- A text by its first byte of a kind: a line by its line feed, a word by its blank.
use Rattle.std.proofs.Common.{◌≡◌, ℕ, zero, suc, ◌+◌, ◌<◌, ◌≤◌, Bool, true, false, ◌==◌, [], ◌∷◌, length}
use Rattle.std.proofs.Common.{take}
use Rattle.std.proofs.Common.{drop, get_or, Some, None}
use Rattle.std.proofs.Common.{◌-◌, refl, sym, ap, subst, ◌∙◌, arith}
use Rattle.std.specs.Prelude.{◌≢◌}
use Rattle.std.specs.List.{prefix_len}
use Rattle.std.proofs.lemmas.Bool.Decides.{nat_tests}
use Rattle.std.proofs.lemmas.List.{take_rest}
use Rattle.std.proofs.lemmas.List.Sums.{prefix_len-drop_yes, prefix_len-drop_no, prefix_len-drop_all, prefix_len_stops}
use Rattle.cat_image.specs.Words.{Text}
use Rattle.cat_image.specs.inside.Reads.{cut, is_other}

pub first_later : (byte : ℕ) (bytes : Text) (i : ℕ) → i < length bytes → get_or bytes i 0 ≢ byte
    → i + prefix_len (is_other byte) (drop i bytes) ≡ (i + 1) + prefix_len (is_other byte) (drop (i + 1) bytes)
first_later byte bytes i inside other =
    let test : is_other byte (get_or bytes i 0) ≡ true = grind (arith, nat_tests) in
    omega (arith, prefix_len-drop_yes (is_other byte) bytes i 0 inside test)

pub first_here : (byte : ℕ) (bytes : Text) (i : ℕ) → i < length bytes → get_or bytes i 0 ≡ byte
    → prefix_len (is_other byte) (drop i bytes) ≡ 0
first_here byte bytes i inside same =
    let test : is_other byte (get_or bytes i 0) ≡ false = grind (arith, nat_tests) in
    prefix_len-drop_no (is_other byte) bytes i 0 inside test

pub first_none : (byte : ℕ) (bytes : Text) (i : ℕ) → length bytes ≤ i → prefix_len (is_other byte) (drop i bytes) ≡ 0
first_none byte bytes i past = prefix_len-drop_all (is_other byte) bytes i past

pub ruleset firsts = (first_later, first_here, first_none)

-- ---- where a text is cut

step : (byte b : ℕ) (bs : Text) (m : ℕ) (same : Bool) → (b == byte) ≡ same
    → ((k : ℕ) → prefix_len (is_other byte) bs ≡ k → k < length bs → cut byte bs ≡ Some (take k bs, drop (suc k) bs))
    → prefix_len (is_other byte) (b ∷ bs) ≡ m → m < suc (length bs)
    → cut byte (b ∷ bs) ≡ Some (take m (b ∷ bs), drop (suc m) (b ∷ bs))
unfolding cut
step byte b bs zero true is more count within = rw is refl
step byte b bs (suc m) true is more count within =
    let none : prefix_len (is_other byte) (b ∷ bs) ≡ 0 = rw is refl in
    absurd (omega (arith, none, count))
step byte b bs zero false is more count within =
    let some : prefix_len (is_other byte) (b ∷ bs) ≡ 1 + prefix_len (is_other byte) bs = rw is refl in
    absurd (omega (arith, some, count))
step byte b bs (suc m) false is more count within =
    let some : prefix_len (is_other byte) (b ∷ bs) ≡ 1 + prefix_len (is_other byte) bs = rw is refl in
    let others = more m (omega (arith, some, count)) (omega (arith, within)) in
    rw (is, others) refl

at_first : (byte : ℕ) (text : Text) (m : ℕ) → prefix_len (is_other byte) text ≡ m → m < length text
    → cut byte text ≡ Some (take m text, drop (suc m) text)
at_first byte [] m count within = absurd (omega (arith, within))
at_first byte (b ∷ bs) m count within =
    step byte b bs m (b == byte) refl (λ k one inside. at_first byte bs k one inside) count within

no_step : (byte b : ℕ) (bs : Text) (same : Bool) → (b == byte) ≡ same
    → (length bs ≤ prefix_len (is_other byte) bs → cut byte bs ≡ None)
    → suc (length bs) ≤ prefix_len (is_other byte) (b ∷ bs) → cut byte (b ∷ bs) ≡ None
unfolding cut
no_step byte b bs true is more past =
    let none : prefix_len (is_other byte) (b ∷ bs) ≡ 0 = rw is refl in
    absurd (omega (arith, none, past))
no_step byte b bs false is more past =
    let some : prefix_len (is_other byte) (b ∷ bs) ≡ 1 + prefix_len (is_other byte) bs = rw is refl in
    rw (is, more (omega (arith, some, past))) refl

pub not_cut : (byte : ℕ) (text : Text) → length text ≤ prefix_len (is_other byte) text → cut byte text ≡ None
unfolding cut
not_cut byte [] past = refl
not_cut byte (b ∷ bs) past = no_step byte b bs (b == byte) refl (not_cut byte bs) past

pub cut_here : (byte : ℕ) (text : Text) (m : ℕ) → prefix_len (is_other byte) text ≡ m → m < length text
    → cut byte text ≡ Some (take m text, drop (m + 1) text)
cut_here byte text m count within =
    let one : suc m ≡ m + 1 = omega arith in
    at_first byte text m count within ∙ ap (λ (k : ℕ). Some (take m text, drop k text)) one

-- as a slice has it
pub cut_behind : (byte : ℕ) (text : Text) (m : ℕ) → prefix_len (is_other byte) text ≡ m → m < length text
    → cut byte text ≡ Some (take m text, take (length text - (m + 1)) (drop (m + 1) text))
cut_behind byte text m count within =
    cut_here byte text m count within ∙ ap (λ (t : Text). Some (take m text, t)) (sym (take_rest text (m + 1)))

-- the byte that stands there
pub byte_there : (byte : ℕ) (text : Text) (m : ℕ) → prefix_len (is_other byte) text ≡ m → m < length text
    → get_or text m 0 ≡ byte
byte_there byte text m count within =
    let stops = prefix_len_stops (is_other byte) text 0 (omega (arith, count, within)) in
    let here : is_other byte (get_or text m 0) ≡ false =
    subst (λ (k : ℕ). is_other byte (get_or text k 0) ≡ false) count stops in
    grind (arith, nat_tests)
