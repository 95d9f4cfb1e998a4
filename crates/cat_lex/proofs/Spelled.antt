-- Each spelling is UTF-8, and begins with neither a blank nor a comment.
use Rattle.std.proofs.Common.{◌≡◌, ◌≢◌, ℕ, ◌<◌, Bool, true, false, not, ◌&&◌, ◌||◌, ◌==◌, ltb, List, [], ◌∷◌, ◌++◌, map}
use Rattle.std.proofs.Common.{refl, sym, ap, ◌∙◌, arith, append_assoc}
use Rattle.std.specs.Prelude.{codes, if◌then◌else◌}
use Rattle.std.specs.Char.{encode_utf8, is_ascii_digit, is_ascii_uppercase, is_ascii_alphabetic}
use Rattle.std.specs.List.{list_all, concat}
use Rattle.std.specs.Str.{all_scalars, IsUtf8}
use Rattle.std.proofs.lemmas.Bool.Decides.{nat_tests}
use Rattle.cat_date.specs.Text.{form_of}
use Rattle.cat_lex.specs.declared.form.Form.{Form}
use Rattle.cat_lex.specs.declared.form.Form.TheVariants.{TypeWord, Word, Pair, Whole, Decimal, Percent, Amount, Date}
use Rattle.cat_lex.specs.declared.form.Form.TheVariants.{Mark}
use Rattle.cat_lex.specs.Gaps.{is_white_space, begins_comment, begins_gap}
use Rattle.cat_lex.specs.Words.{symbols}
use Rattle.cat_pos.specs.Bytes.{is_blank}
use Rattle.cat_lex.specs.Forms.{AreDigits, after_point, after_comma, is_group, IsWord, begins_name, HasForm}
use Rattle.cat_lex.specs.inside.Reading.{begins, is_word_byte}
use Rattle.cat_lex.proofs.Skips.{and_left, and_right, and_true, all_append}
use Rattle.cat_lex.proofs.Listed.{fit, found, is_mark_byte, is_mark_text}
use Rattle.cat_lex.proofs.MarkForms.{mark_shape, head_bar}
use Rattle.cat_lex.proofs.Characters.{bytes_of, peel, scalars_append, ascii_chars, weaken}
use Rattle.cat_lex.proofs.PairForms.{pair_begins, pair_low, pair_some}
use Rattle.cat_lex.proofs.Longest.{first_byte, capital_letter, name_letter, begins_digits}

abbrev low : ℕ → Bool
low c = ltb c 128

-- characters that spell the word
abbrev IsSpelled : List ℕ → Type 0
IsSpelled word = (cs : List ℕ) × (word ≡ bytes_of cs)

ascii : (word : List ℕ) → list_all low word ≡ true → IsSpelled word
ascii word h = (word, sym (ascii_chars word h))

digit_low : (c : ℕ) → is_ascii_digit c ≡ true → low c ≡ true
digit_low c h = grind (arith, nat_tests)

space_low : (c : ℕ) → is_blank c ≡ true → low c ≡ true
space_low c h = grind (arith, nat_tests)

digits_low : (word : List ℕ) → list_all is_ascii_digit word ≡ true → list_all low word ≡ true
digits_low word h = weaken is_ascii_digit low digit_low word h

point_low : (places : List ℕ) → list_all is_ascii_digit places ≡ true → list_all low (after_point places) ≡ true
point_low [] h = refl
point_low (c ∷ cs) h = digits_low (c ∷ cs) h

groups_low : (groups : List (List ℕ)) → list_all is_group groups ≡ true → list_all low (concat (map after_comma groups))
    ≡ true
groups_low [] h = refl
groups_low (group ∷ groups) h = all_append low group (concat (map after_comma groups))
    (digits_low group (and_right _ _ (and_left _ _ h))) (groups_low groups (and_right _ _ h))

zeroed_low : (c : ℕ) → low (if is_ascii_digit c then 48 else c) ≡ true → low c ≡ true
zeroed_low c h = grind (arith, nat_tests)

form_low : (word : List ℕ) → list_all low (form_of word) ≡ true → list_all low word ≡ true
form_low [] h = refl
form_low (c ∷ cs) h = and_true (low c) (list_all low cs) (zeroed_low c (and_left _ _ h)) (form_low cs (and_right _ _ h))

symbols_low : fit (list_all low) symbols ≡ true
unfolding symbols
symbols_low = refl

spelled : (form : Form) (word rest : List ℕ) → HasForm form word rest → IsSpelled word
spelled TypeWord word rest h = (h.first ∷ h.others, h.spelled)
spelled Word word rest h = (h.first ∷ h.others, h.spelled)
spelled (Pair keyword) word rest h = ascii word (ap (list_all low) h.spelled ∙ pair_low keyword word rest h)
spelled Whole word rest h = ascii word (digits_low word h.digits)
spelled Decimal word rest h = ascii word (ap (list_all low) h.spelled ∙ all_append low h.units (after_point h.places)
    (digits_low h.units h.some.digits) (point_low h.places h.more.digits))
spelled Percent word rest h =
    ascii word (ap (list_all low) h.spelled ∙ all_append low h.units _ (digits_low h.units h.some.digits)
    (all_append low (after_point h.places) _ (point_low h.places h.digits)
    (all_append low h.spaces (codes "%") (weaken is_blank low space_low h.spaces h.spaced) refl)))
spelled Amount word rest h =
    ascii word (ap (list_all low) h.spelled ∙ all_append low h.units _ (digits_low h.units h.some.digits)
    (all_append low (concat (map after_comma h.groups)) (after_point h.cents) (groups_low h.groups h.grouped)
    (point_low h.cents h.digits)))
spelled Date word rest h = ascii word (form_low word (ap (list_all low) h))
spelled (Mark symbol) word rest h = ascii word (found (list_all low) symbols word symbol symbols_low h)

-- what follows a token is UTF-8 where the text is
pub rest_utf8 : (form : Form) (word rest : List ℕ) → HasForm form word rest → IsUtf8 (word ++ rest) → IsUtf8 rest
rest_utf8 form word rest h utf8 =
    let s = spelled form word rest h in
    let rested = peel s.0 utf8.0 rest (utf8.1.1 ∙ ap (λ (w : List ℕ). w ++ rest) s.1) in
    (rested.0, (scalars_append s.0 rested.0 (ap all_scalars (sym rested.1) ∙ utf8.1.0), rested.2))

-- a byte that may begin a token
abbrev begins_token : ℕ → Bool
begins_token c = not (is_white_space c) && not (c == 35)

begins_more : (p q : ℕ → Bool) → ((c : ℕ) → p c ≡ true → q c ≡ true) → (text : List ℕ) → begins p text ≡ true
    → begins q text ≡ true
begins_more p q more [] h = cc
begins_more p q more (c ∷ cs) h = more c h

word_token : (c : ℕ) → is_word_byte c ≡ true → begins_token c ≡ true
word_token c h = grind (arith, nat_tests)

digit_token : (c : ℕ) → is_ascii_digit c ≡ true → begins_token c ≡ true
digit_token c h = grind (arith, nat_tests)

mark_token : (c : ℕ) → is_mark_byte c ≡ true → begins_token c ≡ true
mark_token c h = and_true (not (is_white_space c)) (not (c == 35)) (and_right _ _ (and_left _ _ h)) (and_right _ _ h)

mark_begins : (word rest : List ℕ) → is_mark_text word ≡ true → begins begins_token (word ++ rest) ≡ true
mark_begins [] rest h = cc
mark_begins (c ∷ []) rest h = mark_token c h
mark_begins (c ∷ d ∷ []) rest h = mark_token c h
mark_begins (c ∷ d ∷ e ∷ cs) rest h = cc

word_begins : (starts : ℕ → Bool) → ((c : ℕ) → c < 128 → starts c ≡ true → is_ascii_alphabetic c ≡ true)
    → (word rest : List ℕ) → IsWord starts word → begins begins_token (word ++ rest) ≡ true
word_begins starts letter word rest w =
    let split : word ++ rest ≡ encode_utf8 w.first ++ (bytes_of w.others ++ rest) =
    ap (λ (x : List ℕ). x ++ rest) w.spelled ∙ append_assoc (encode_utf8 w.first) (bytes_of w.others) rest in
    begins_more is_word_byte begins_token word_token (word ++ rest)
    (first_byte starts letter w.first (bytes_of w.others ++ rest) (word ++ rest) split w.begun)

units_begin : (word rest units more : List ℕ) → word ≡ units ++ more → AreDigits units
    → begins begins_token (word ++ rest) ≡ true
units_begin word rest units more e digits =
    begins_more is_ascii_digit begins_token digit_token (word ++ rest)
    (ap (begins is_ascii_digit) (ap (λ (w : List ℕ). w ++ rest) e ∙ append_assoc units more rest)
    ∙ begins_digits units (more ++ rest) digits)

token_begins : (form : Form) (word rest : List ℕ) → HasForm form word rest → begins begins_token (word ++ rest) ≡ true
token_begins TypeWord word rest h = word_begins is_ascii_uppercase capital_letter word rest h
token_begins Word word rest h = word_begins begins_name name_letter word rest h
token_begins (Pair keyword) word rest h =
    begins_more is_word_byte begins_token word_token (word ++ rest) (pair_begins keyword word rest h)
token_begins Whole word rest h =
    begins_more is_ascii_digit begins_token digit_token (word ++ rest) (begins_digits word rest h)
token_begins Decimal word rest h = units_begin word rest h.units _ h.spelled h.some
token_begins Percent word rest h = units_begin word rest h.units _ h.spelled h.some
token_begins Amount word rest h = ap (λ (w : List ℕ). begins begins_token (w ++ rest)) h.spelled
token_begins Date word rest h = let bar = head_bar word h in ap (λ (w : List ℕ). begins begins_token (w ++ rest)) bar.1
token_begins (Mark symbol) word rest h = mark_begins word rest (mark_shape symbol word h)

no_blank_by : (text : List ℕ) → begins begins_token text ≡ true → begins_gap text ≡ false
no_blank_by [] h = refl
no_blank_by (c ∷ cs) h = not_both (is_white_space c) (c == 35) (begins_comment c cs) h (λ e. rw e refl)
  where
    not_both : (a b d : Bool) → (not a && not b) ≡ true → (b ≡ false → d ≡ false) → (a || d) ≡ false
    not_both true b d h g = cc
    not_both false true d h g = cc
    not_both false false d h g = g refl

pub token_no_gap : (form : Form) (word rest : List ℕ) → HasForm form word rest → begins_gap (word ++ rest) ≡ false
token_no_gap form word rest h = no_blank_by (word ++ rest) (token_begins form word rest h)

pub token_some : (form : Form) (word rest : List ℕ) → HasForm form word rest → word ++ rest ≢ []
token_some form word rest h none = let begun : begins begins_token [] ≡ true =
    ap (begins begins_token) (sym none) ∙ token_begins form word rest h in cc

append_some : (xs ys : List ℕ) → xs ≢ [] → xs ++ ys ≢ []
append_some [] ys some none = some refl
append_some (x ∷ xs) ys some none = cc

begun_some : (p : ℕ → Bool) (word : List ℕ) → begins p (word ++ []) ≡ true → word ≢ []
begun_some p [] h none = cc
begun_some p (c ∷ cs) h none = cc

named_some : (word rest : List ℕ) → word ≡ rest → rest ≢ [] → word ≢ []
named_some word rest same some none = some (sym same ∙ none)

-- no token is empty
pub word_some : (form : Form) (word rest : List ℕ) → HasForm form word rest → word ≢ []
word_some TypeWord word rest h = begun_some begins_token word (token_begins TypeWord word [] h)
word_some Word word rest h = begun_some begins_token word (token_begins Word word [] h)
word_some (Pair keyword) word rest h = named_some word (h.first ++ (h.spaces ++ h.second)) h.spelled
    (append_some h.first (h.spaces ++ h.second) (pair_some keyword word rest h))
word_some Whole word rest h = begun_some begins_token word (token_begins Whole word [] h)
word_some Decimal word rest h = begun_some begins_token word (token_begins Decimal word [] h)
word_some Percent word rest h = begun_some begins_token word (token_begins Percent word [] h)
word_some Amount word rest h = begun_some begins_token word (token_begins Amount word [] h)
word_some Date word rest h = begun_some begins_token word (token_begins Date word [] h)
word_some (Mark symbol) word rest h = begun_some begins_token word (token_begins (Mark symbol) word [] h)
