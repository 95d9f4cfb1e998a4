-- What is read in front of a text is the longest token there, and the only one.
use Rattle.std.proofs.Common.{◌≡◌, ℕ, ◌<◌, Bool, true, false, ◌==◌, cond, ltb, List, [], ◌∷◌, ◌++◌, length, refl, sym}
use Rattle.std.proofs.Common.{ap, ◌∙◌, subst, arith, append_assoc}
use Rattle.std.specs.Prelude.{Some, None}
use Rattle.std.specs.Char.{encode_utf8, is_ascii_digit, is_ascii_uppercase, is_ascii_alphabetic}
use Rattle.std.specs.Str.{all_scalars, IsUtf8}
use Rattle.std.proofs.lemmas.Bool.Decides.{nat_tests}
use Rattle.std.proofs.lemmas.List.{length-append}
use Rattle.std.proofs.lemmas.Str.{length-encode, len_utf8_bounds, char_from_byte}
use Rattle.unicode_ident.proofs.IdentLemmas.{is_xid_start-ascii}
use Rattle.cat_lex.specs.declared.symbol.Symbol.{Symbol}
use Rattle.cat_lex.specs.declared.form.Form.{Form}
use Rattle.cat_lex.specs.declared.form.Form.TheVariants.{TypeWord, Word, Pair, Whole, Decimal, Percent, Amount, Date}
use Rattle.cat_lex.specs.declared.form.Form.TheVariants.{Mark}
use Rattle.cat_lex.specs.Forms.{AreDigits, IsWord, begins_name, HasForm}
use Rattle.cat_lex.specs.inside.Reading.{begins, skip, skip_groups, skip_cents, number_read, amount_read, date_read}
use Rattle.cat_lex.specs.inside.Reading.{mark_read}
use Rattle.cat_lex.specs.inside.Reading.{word_read, is_word_byte, read}
use Rattle.cat_lex.proofs.Skips.{and_left, and_right}
use Rattle.cat_lex.proofs.Goes.{Goes, Reaches}
use Rattle.cat_lex.proofs.NumberForms.{whole_read, decimal_read, percent_read, number_sound}
use Rattle.cat_lex.proofs.AmountForms.{amount_goes, amount_sound}
use Rattle.cat_lex.proofs.Listed.{is_mark_byte, is_mark_text}
use Rattle.cat_lex.proofs.MarkForms.{IsSound, mark_goes, mark_shape, mark_sound, date_goes, date_sound, head_bar}
use Rattle.cat_lex.proofs.Characters.{bytes_of, peel}
use Rattle.cat_lex.proofs.WordForms.{type_word_read, word_goes_chars, not_capital}
use Rattle.cat_lex.proofs.PairForms.{pair_goes, pair_begins}
use Rattle.cat_lex.proofs.WordSound.{word_sound}

-- where each kind of text is read
read_word : (text : List ℕ) → begins is_word_byte text ≡ true → read text ≡ word_read text
read_word [] h = cc
read_word (c ∷ cs) h = rw h refl

digit_is_no_word : (c : ℕ) → is_ascii_digit c ≡ true → is_word_byte c ≡ false
digit_is_no_word c h = grind (arith, nat_tests)

read_number : (text : List ℕ) → begins is_ascii_digit text ≡ true → read text ≡ Some (number_read text)
read_number [] h = cc
read_number (c ∷ cs) h =
    let other : is_word_byte c ≡ false = digit_is_no_word c h in
    rw other (rw h refl)

read_mark : (c : ℕ) (cs : List ℕ) → is_mark_byte c ≡ true → read (c ∷ cs) ≡ mark_read (c ∷ cs)
read_mark c cs h =
    let five = and_left _ _ h in
    let four = and_left _ _ five in
    let three = and_left _ _ four in
    let two = and_left _ _ three in
    let word : is_word_byte c ≡ false = not_capital c _ (and_left _ _ two) in
    let digit : is_ascii_digit c ≡ false = not_capital c _ (and_right _ _ two) in
    let dollar : (c == 36) ≡ false = not_capital c _ (and_right _ _ three) in
    let bar : (c == 124) ≡ false = not_capital c _ (and_right _ _ four) in
    rw word (rw digit (rw dollar (rw bar refl)))

-- the first byte of a word
pub capital_letter : (c : ℕ) → c < 128 → is_ascii_uppercase c ≡ true → is_ascii_alphabetic c ≡ true
capital_letter c low h = grind (arith, nat_tests)

pub name_letter : (c : ℕ) → c < 128 → begins_name c ≡ true → is_ascii_alphabetic c ≡ true
name_letter c low h = sym (is_xid_start-ascii c low) ∙ and_left _ _ h

letter_by : (b : ℕ) (low : Bool) → ltb b 128 ≡ low → (low ≡ true → is_ascii_alphabetic b ≡ true) → is_word_byte b ≡ true
letter_by b true h letter = let l : is_ascii_alphabetic b ≡ true = letter refl in rw l refl
letter_by b false h letter = grind (arith, nat_tests)

pub first_byte : (starts : ℕ → Bool) → ((c : ℕ) → c < 128 → starts c ≡ true → is_ascii_alphabetic c ≡ true)
    → (c : ℕ) (more text : List ℕ) → text ≡ encode_utf8 c ++ more → starts c ≡ true → begins is_word_byte text ≡ true
first_byte starts letter c more [] e h =
    let none : length (encode_utf8 c ++ more) ≡ 0 = ap (λ (w : List ℕ). length w) (sym e) in
    let bound = len_utf8_bounds c in
    absurd (omega (arith, bound.0, none, length-append (encode_utf8 c) more, length-encode c))
first_byte starts letter c more (b ∷ bytes) e h =
    letter_by b (ltb b 128) refl (λ is. let low : b < 128 = grind (arith, nat_tests) in
    let same : c ≡ b = char_from_byte (b ∷ bytes) more c e low (omega arith) in
    letter b low (ap starts (sym same) ∙ h))

-- a word's characters in front of the text
type_word_goes : (word rest : List ℕ) → IsWord is_ascii_uppercase word → IsUtf8 (word ++ rest)
    → Reaches TypeWord rest (read (word ++ rest))
type_word_goes word rest w utf8 =
    let rested = peel (w.first ∷ w.others) utf8.0 rest (utf8.1.1 ∙ ap (λ (x : List ℕ). x ++ rest) w.spelled) in
    let text : word ++ rest ≡ bytes_of (w.first ∷ (w.others ++ rested.0)) =
    sym utf8.1.1 ∙ ap (λ (x : List ℕ). bytes_of x) rested.1 in
    let all : all_scalars (w.first ∷ (w.others ++ rested.0)) ≡ true = ap all_scalars (sym rested.1) ∙ utf8.1.0 in
    let goes : Reaches TypeWord (bytes_of rested.0) (word_read (bytes_of (w.first ∷ (w.others ++ rested.0)))) =
    type_word_read w.first w.others rested.0 all w.begun w.continued in
    let begun : begins is_word_byte (word ++ rest) ≡ true = first_byte is_ascii_uppercase capital_letter w.first
    (bytes_of (w.others ++ rested.0)) (word ++ rest) text w.begun in
    subst (Reaches TypeWord rest) (ap word_read (sym text) ∙ sym (read_word (word ++ rest) begun))
    (subst (λ (x : List ℕ). Reaches TypeWord x (word_read (bytes_of (w.first ∷ (w.others ++ rested.0))))) rested.2 goes)

word_goes : (word rest : List ℕ) → IsWord begins_name word → IsUtf8 (word ++ rest)
    → Reaches Word rest (read (word ++ rest))
word_goes word rest w utf8 =
    let rested = peel (w.first ∷ w.others) utf8.0 rest (utf8.1.1 ∙ ap (λ (x : List ℕ). x ++ rest) w.spelled) in
    let text : word ++ rest ≡ bytes_of (w.first ∷ (w.others ++ rested.0)) =
    sym utf8.1.1 ∙ ap (λ (x : List ℕ). bytes_of x) rested.1 in
    let all : all_scalars (w.first ∷ (w.others ++ rested.0)) ≡ true = ap all_scalars (sym rested.1) ∙ utf8.1.0 in
    let goes : Reaches Word (bytes_of rested.0) (word_read (bytes_of (w.first ∷ (w.others ++ rested.0)))) =
    word_goes_chars w.first w.others rested.0 all w.begun w.continued in
    let begun : begins is_word_byte (word ++ rest) ≡ true =
    first_byte begins_name name_letter w.first (bytes_of (w.others ++ rested.0)) (word ++ rest) text w.begun in
    subst (Reaches Word rest) (ap word_read (sym text) ∙ sym (read_word (word ++ rest) begun))
    (subst (λ (x : List ℕ). Reaches Word x (word_read (bytes_of (w.first ∷ (w.others ++ rested.0))))) rested.2 goes)

pub begins_digits : (word rest : List ℕ) → AreDigits word → begins is_ascii_digit (word ++ rest) ≡ true
begins_digits [] rest d = absurd (d.some refl)
begins_digits (c ∷ cs) rest d = and_left _ _ d.digits

number_goes : (form : Form) (word rest units more : List ℕ) → word ≡ units ++ more → AreDigits units
    → Goes form rest (number_read (word ++ rest)) → Reaches form rest (read (word ++ rest))
number_goes form word rest units more spelled digits goes =
    let begun : begins is_ascii_digit (word ++ rest) ≡ true =
    ap (begins is_ascii_digit) (ap (λ (w : List ℕ). w ++ rest) spelled ∙ append_assoc units more rest)
    ∙ begins_digits units (more ++ rest) digits in
    subst (Reaches form rest) (sym (read_number (word ++ rest) begun)) goes

mark_reaches : (symbol : Symbol) (word rest : List ℕ) → is_mark_text word ≡ true → Reaches (Mark symbol) rest
    (mark_read (word ++ rest)) → Reaches (Mark symbol) rest (read (word ++ rest))
mark_reaches symbol [] rest shape goes = cc
mark_reaches symbol (c ∷ []) rest shape goes = subst (Reaches (Mark symbol) rest) (sym (read_mark c rest shape)) goes
mark_reaches symbol (c ∷ d ∷ []) rest shape goes =
    subst (Reaches (Mark symbol) rest) (sym (read_mark c (d ∷ rest) shape)) goes
mark_reaches symbol (c ∷ d ∷ e ∷ cs) rest shape goes = cc

-- the reading goes as far as any token that begins the text
pub goes : (form : Form) (word rest : List ℕ) → HasForm form word rest → IsUtf8 (word ++ rest)
    → Reaches form rest (read (word ++ rest))
goes TypeWord word rest h utf8 = type_word_goes word rest h utf8
goes Word word rest h utf8 = word_goes word rest h utf8
goes (Pair keyword) word rest h utf8 = subst (Reaches (Pair keyword) rest)
    (sym (read_word (word ++ rest) (pair_begins keyword word rest h))) (pair_goes keyword word rest h utf8)
goes Whole word rest h utf8 = subst (Reaches Whole rest) (sym (read_number (word ++ rest) (begins_digits word rest h)))
    (whole_read word rest h)
goes Decimal word rest h utf8 = number_goes Decimal word rest h.units _ h.spelled h.some (decimal_read word rest h)
goes Percent word rest h utf8 = number_goes Percent word rest h.units _ h.spelled h.some (percent_read word rest h)
goes Amount word rest h utf8 = let a = amount_goes word rest h in subst (λ (w : List ℕ). Reaches Amount rest (read w))
    (sym a.1) a.2
goes Date word rest h utf8 =
    let bar = head_bar word h in
    let is : date_read (word ++ rest) ≡ read (word ++ rest) = rw bar.1 refl in
    subst (Reaches Date rest) is (date_goes word rest h)
goes (Mark symbol) word rest h utf8 =
    mark_reaches symbol word rest (mark_shape symbol word h) (mark_goes symbol word rest h)

amount_by : (bytes : List ℕ) (b : Bool) → begins is_ascii_digit bytes ≡ b
    → IsSound (36 ∷ bytes) (cond b (Some (Amount, skip_cents (skip_groups (skip is_ascii_digit bytes)))) None)
amount_by bytes true h = amount_sound bytes h
amount_by bytes false h = tt

sound_by : (c : ℕ) (cs : List ℕ) (word digit dollar bar : Bool) → IsUtf8 (c ∷ cs) → is_ascii_digit c ≡ digit
    → (c == 36) ≡ dollar
    → IsSound (c ∷ cs)
    (cond word (word_read (c ∷ cs))
    (cond digit (Some (number_read (c ∷ cs)))
    (cond dollar (amount_read cs) (cond bar (date_read (c ∷ cs)) (mark_read (c ∷ cs))))))
sound_by c cs true digit dollar bar utf8 d a = word_sound (c ∷ cs) utf8
sound_by c cs false true dollar bar utf8 d a = number_sound (c ∷ cs) d
sound_by c cs false false true bar utf8 d a = let same : c ≡ 36 =
    grind (arith, nat_tests) in rw same (amount_by cs (begins is_ascii_digit cs) refl)
sound_by c cs false false false true utf8 d a = date_sound (c ∷ cs)
sound_by c cs false false false false utf8 d a = mark_sound (c ∷ cs)

-- what is read has its form
pub sound : (text : List ℕ) → IsUtf8 text → IsSound text (read text)
sound [] utf8 = tt
sound (c ∷ cs) utf8 = sound_by c cs (is_word_byte c) (is_ascii_digit c) (c == 36) (c == 124) utf8 refl refl
