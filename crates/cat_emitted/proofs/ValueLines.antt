-- The text of a value that is read back is a line.
use Rattle.std.proofs.Common.{◌≡◌, ◌||◌, ◌+◌, ◌/◌, ◌%◌, ◌==◌, ℕ, zero, suc, pos, negsuc, Bool, true}
use Rattle.std.proofs.Common.{false}
use Rattle.std.proofs.Common.{cond, nat_lt, [], ◌∷◌, ◌++◌, None, Ok}
use Rattle.std.proofs.Common.{refl, ◌∙◌, arith, decimal}
use Rattle.std.specs.Prelude.{if◌then◌else◌, Result}
use Rattle.std.specs.Char.{digit_char}
use Rattle.std.specs.Fmt.{digits, digits_onto, digit_glyph}
use Rattle.std.specs.List.{list_all}
use Rattle.std.specs.Str.{is_utf8}
use Rattle.std.proofs.lemmas.Bool.Decides.{nat_tests}
use Rattle.std.proofs.lemmas.List.Folds.{list_all-append}
use Rattle.std.proofs.lemmas.Bool.{and_from}
use Rattle.json.specs.Print.{escape_letter, escape_byte, escape, quoted}
use Rattle.serde_json.specs.Data.{Num, unsigned, negative, float, Data, null, boolean, number, string, array, object}
use Rattle.serde_json.specs.Data.{Items, no_items, item, Members, no_members, member}
use Rattle.serde_json.specs.Read.{read}
use Rattle.serde_json.specs.Written.{number_text, compact_text, items_text, members_text, comma_if}
use Rattle.cat_value.specs.declared.decls.Decls.{Decls}
use Rattle.cat_code.specs.declared.code.Constant.{Constant}
use Rattle.cat_json.specs.declared.refusal.InputRefusal.{InputRefusal}
use Rattle.cat_json.specs.InputsRead.{json_of, read_from, answered}
use Rattle.cat_json.specs.Reads.{read_as}
use Rattle.cat_answer.specs.Writes.{value_bytes, data_of}
use Rattle.cat_image.specs.Words.{Text}
use Rattle.cat_image.specs.Listed.{is_line}
use Rattle.cat_emitted.proofs.Readings.{IsReadBack}
use Rattle.cat_emitted.proofs.WordFacts.{no_feed}

-- a text without a line feed
abbrev HasNone : Text → Type 0
HasNone text = list_all no_feed text ≡ true

joined : (one other : Text) → HasNone one → HasNone other → HasNone (one ++ other)
joined one other a b = list_all-append no_feed one other ∙ and_from (list_all no_feed one) (list_all no_feed other) a b

before : (b : ℕ) (text : Text) → no_feed b ≡ true → HasNone text → HasNone (b ∷ text)
before b text one more = and_from (no_feed b) (list_all no_feed text) one more

-- ---- texts

letter_none : (x : ℕ) → no_feed (escape_letter x) ≡ true
letter_none x = by (x == 34) (x == 92) (x == 8) (x == 12) (x == 10) (x == 13) (x == 9) refl refl
  where
    same : (b : Bool) (n : ℕ) → (x == n) ≡ true → no_feed n ≡ true → no_feed x ≡ true
    same b n is other = grind (arith, nat_tests, is, other)

    by : (a b c d e f g : Bool) → (x == 34) ≡ a → (x == 92) ≡ b
        → no_feed (cond (a || b) x (cond c 98 (cond d 102 (cond e 110 (cond f 114 (cond g 116 0)))))) ≡ true
    by true b c d e f g is other = same true 34 is refl
    by false true c d e f g is other = same true 92 other refl
    by false false true d e f g is other = refl
    by false false false true e f g is other = refl
    by false false false false true f g is other = refl
    by false false false false false true g is other = refl
    by false false false false false false true is other = refl
    by false false false false false false false is other = refl

digit_none : (d : ℕ) → no_feed (digit_char d) ≡ true
digit_none d = by (nat_lt d 10) refl
  where
    by : (b : Bool) → nat_lt d 10 ≡ b → no_feed (cond b (48 + d) (87 + d)) ≡ true
    by true is = grind (arith, nat_tests)
    by false is = grind (arith, nat_tests)

byte_none : (x : ℕ) → HasNone (escape_byte x)
unfolding escape_byte
byte_none x = by (nat_lt 0 (escape_letter x)) (nat_lt x 32) refl
  where
    by : (a b : Bool) → nat_lt x 32 ≡ b
        → HasNone (cond a (92 ∷ escape_letter x ∷ [])
        (cond b (92 ∷ 117 ∷ 48 ∷ 48 ∷ digit_char (x / 16) ∷ digit_char (x % 16) ∷ []) (x ∷ [])))
    by true b is = before (escape_letter x) [] (letter_none x) refl
    by false true is =
        before (digit_char (x / 16)) (digit_char (x % 16) ∷ []) (digit_none (x / 16))
        (before (digit_char (x % 16)) [] (digit_none (x % 16)) refl)
    by false false is = before x [] (grind (arith, nat_tests, is)) refl

escape_none : (s : Text) → HasNone (escape s)
escape_none [] = refl
escape_none (b ∷ bs) = joined (escape_byte b) (escape bs) (byte_none b) (escape_none bs)

quoted_none : (s : Text) → HasNone (quoted s)
quoted_none s = joined (escape s) (34 ∷ []) (escape_none s) refl

-- ---- numbers

glyph_none : (d : ℕ) → no_feed (digit_glyph false d) ≡ true
glyph_none d = by (nat_lt d 10) refl
  where
    by : (b : Bool) → nat_lt d 10 ≡ b → no_feed (if b then 48 + d else 87 + d) ≡ true
    by true is = grind (arith, nat_tests)
    by false is = grind (arith, nat_tests)

digits_none : (k n : ℕ) (acc : Text) → HasNone acc → HasNone (digits_onto k 10 false n acc)
digits_none zero n acc none = none
digits_none (suc k) n acc none =
    let more = before (digit_glyph false (n % 10)) acc (glyph_none (n % 10)) none in
    by (n / 10 == 0) more (digits_none k (n / 10) (digit_glyph false (n % 10) ∷ acc) more)
  where
    by : (b : Bool) → HasNone (digit_glyph false (n % 10) ∷ acc)
        → HasNone (digits_onto k 10 false (n / 10) (digit_glyph false (n % 10) ∷ acc))
        → HasNone (if b then digit_glyph false (n % 10) ∷ acc
        else digits_onto k 10 false (n / 10) (digit_glyph false (n % 10) ∷ acc))
    by true one more = one
    by false one more = more

decimal_none : (n : ℕ) → HasNone (decimal n)
unfolding digits
decimal_none n = digits_none 64 n [] refl

number_none : (n : Num) → HasNone (number_text n)
number_none (unsigned n) = decimal_none n
number_none (negative (pos n)) = decimal_none n
number_none (negative (negsuc n)) = before 45 (decimal (suc n)) refl (decimal_none (suc n))
number_none (float x) = refl

-- ---- the compact text

comma_none : (later : Bool) → HasNone (comma_if later)
comma_none true = refl
comma_none false = refl

mutual
  data_none : (d : Data) → HasNone (compact_text d)
  data_none null = refl
  data_none (boolean true) = refl
  data_none (boolean false) = refl
  data_none (number n) = number_none n
  data_none (string s) = quoted_none s
  data_none (array ds) = items_none false ds
  data_none (object ms) = members_none false ms

  items_none : (later : Bool) (ds : Items) → HasNone (items_text later ds)
  items_none later no_items = refl
  items_none later (item d ds) =
      joined (comma_if later) (compact_text d ++ items_text true ds) (comma_none later)
      (joined (compact_text d) (items_text true ds) (data_none d) (items_none true ds))

  members_none : (later : Bool) (ms : Members) → HasNone (members_text later ms)
  members_none later no_members = refl
  members_none later (member k d ms) =
      joined (comma_if later) (quoted k ++ 58 ∷ (compact_text d ++ members_text true ms)) (comma_none later)
      (joined (quoted k) (58 ∷ (compact_text d ++ members_text true ms)) (quoted_none k)
      (joined (compact_text d) (members_text true ms) (data_none d) (members_none true ms)))

-- ---- a line

-- what is read is UTF-8
read_utf8 : {A : Type 0} (reading : Data → Result A InputRefusal) (text : Text) (a : A)
    → read_from reading (json_of text) ≡ Ok a → is_utf8 text ≡ true
unfolding json_of
read_utf8 reading text a h = by (is_utf8 text) refl h
  where
    by : (b : Bool) → is_utf8 text ≡ b → read_from reading (if b then read text else None) ≡ Ok a → is_utf8 text ≡ true
    by true is g = is
    by false is g = cc g

pub value_line : (ds : Decls) (c : Constant) → IsReadBack ds c → is_line (value_bytes ds c.ty c.value) ≡ true
value_line ds c back =
    let text = value_bytes ds c.ty c.value in
    and_from (is_utf8 text) (list_all no_feed text)
    (read_utf8 (λ d. answered (read_as ds d c.ty)) text c.value back) (data_none (data_of ds c.value c.ty))
