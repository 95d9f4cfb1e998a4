-- Names have no blank and no line feed in them.
use Rattle.std.proofs.Common.{◌≡◌, ℕ, ◌/◌, ◌%◌, ◌<◌, ◌≤◌, ◌+◌, ◌==◌, ◌&&◌, Bool, true, false, not, cond, ltb, []}
use Rattle.std.proofs.Common.{◌∷◌, ◌++◌, refl, sym, ap, ◌∙◌, arith}
use Rattle.std.specs.Char.{encode_utf8, is_ascii_uppercase}
use Rattle.std.specs.List.{list_all}
use Rattle.std.specs.Str.{encode_utf8_all, is_utf8, IsUtf8}
use Rattle.std.proofs.lemmas.Bool.{and_parts, and_from}
use Rattle.std.proofs.lemmas.Bool.Decides.{nat_tests}
use Rattle.std.proofs.lemmas.List.Folds.{list_all-append}
use Rattle.std.proofs.lemmas.Str.{is_utf8-from_IsUtf8, IsUtf8-from_is_utf8, IsUtf8-append}
use Rattle.std.proofs.Math.Utf8.{encode}
use Rattle.unicode_ident.specs.Ident.{is_xid_start, is_xid_continue}
use Rattle.unicode_ident.proofs.IdentLemmas.{is_xid_continue-ascii, is_xid_start-is_xid_continue}
use Rattle.cat_lex.specs.Forms.{IsWord, begins_name}
use Rattle.cat_image.specs.Words.{Text, parts, words, has_bytes, is_name}
use Rattle.cat_image.specs.Listed.{is_line}
use Rattle.cat_verify_tables.proofs.Exported.{chars_bytes}
use Rattle.cat_emitted.specs.Spelled.{IsTypeWord, IsPartWord}

-- ---- bytes

-- a byte that is neither a blank nor a line feed
abbrev pub is_inner : ℕ → Bool
is_inner b = not (b == 32) && not (b == 10)

abbrev pub is_unparted : Text → Bool
is_unparted bytes = list_all is_inner bytes

high : (b : ℕ) → 128 ≤ b → is_inner b ≡ true
high b up = grind (arith, nat_tests)

low_byte : (c : ℕ) → ltb c 128 ≡ true → is_xid_continue c ≡ true → is_inner c ≡ true
low_byte c low continues =
    let below : c < 128 = grind (arith, nat_tests) in
    let is = sym (is_xid_continue-ascii c below) ∙ continues in
    grind (arith, nat_tests)

-- ---- names

capital_continues : (c : ℕ) → is_ascii_uppercase c ≡ true → is_xid_continue c ≡ true
capital_continues c h =
    let low : c < 128 = grind (arith, nat_tests) in
    is_xid_continue-ascii c low ∙ grind (arith, nat_tests)

pub type_inner : (word : Text) → IsTypeWord word → is_unparted word ≡ true
type_inner word t =
    let w = t.word in
    ap is_unparted w.spelled
    ∙ chars_bytes is_inner high low_byte (w.first ∷ w.others)
    (and_from (is_xid_continue w.first) (list_all is_xid_continue w.others) (capital_continues w.first w.begun)
    w.continued)

pub part_inner : (word : Text) → IsPartWord word → is_unparted word ≡ true
part_inner word p =
    let w = p.word in
    let starts = (and_parts (is_xid_start w.first) (not (is_ascii_uppercase w.first)) w.begun).0 in
    ap is_unparted w.spelled
    ∙ chars_bytes is_inner high low_byte (w.first ∷ w.others)
    (and_from (is_xid_continue w.first) (list_all is_xid_continue w.others)
    (is_xid_start-is_xid_continue w.first starts) w.continued)

char_some : (c : ℕ) (rest : Text) → has_bytes (encode_utf8 c ++ rest) ≡ true
unfolding encode
char_some c rest = by (ltb c 128) (ltb c 2048) (ltb c 65536)
  where
    by : (a b d : Bool)
        → has_bytes (cond a (c ∷ []) (cond b ((192 + c / 64) ∷ (128 + c % 64) ∷ [])
        (cond d ((224 + c / 4096) ∷ (128 + (c / 64) % 64) ∷ (128 + c % 64) ∷ [])
        ((240 + c / 262144) ∷ (128 + (c / 4096) % 64) ∷ (128 + (c / 64) % 64) ∷ (128 + c % 64) ∷ []))) ++ rest) ≡ true
    by true b d = refl
    by false true d = refl
    by false false true = refl
    by false false false = refl

pub word_some : (starts : ℕ → Bool) (word : Text) → IsWord starts word → has_bytes word ≡ true
word_some starts word w = ap has_bytes w.spelled ∙ char_some w.first (encode_utf8_all w.others)

-- ---- one word

one_word : (text : Text) → is_unparted text ≡ true → words text ≡ text ∷ []
unfolding parts
one_word [] inner = refl
one_word (b ∷ bs) inner =
    let parts = and_parts (is_inner b) (is_unparted bs) inner in
    let other : (b == 32) ≡ false = let own = parts.0 in grind (arith, nat_tests, own) in
    rw (other, one_word bs parts.1) refl

pub words_one : (text : Text) → is_unparted text ≡ true → words text ≡ text ∷ []
words_one = one_word

pub name_of : (text : Text) → has_bytes text ≡ true → is_unparted text ≡ true → is_name text ≡ true
name_of text some inner = rw (words_one text inner) some

pub type_name : (word : Text) → IsTypeWord word → is_name word ≡ true
type_name word t = name_of word (word_some is_ascii_uppercase word t.word) (type_inner word t)

pub part_name : (word : Text) → IsPartWord word → is_name word ≡ true
part_name word p = name_of word (word_some begins_name word p.word) (part_inner word p)

pub unparted_append : (one other : Text) → is_unparted one ≡ true → is_unparted other ≡ true
    → is_unparted (one ++ other) ≡ true
unparted_append one other a b =
    list_all-append is_inner one other ∙ and_from (is_unparted one) (is_unparted other) a b

-- ---- lines

-- a byte that is no line feed
abbrev pub no_feed : ℕ → Bool
no_feed b = not (b == 10)

pub line_append : (one other : Text) → is_line one ≡ true → is_line other ≡ true → is_line (one ++ other) ≡ true
line_append one other a b =
    let first = and_parts (is_utf8 one) (list_all no_feed one) a in
    let second = and_parts (is_utf8 other) (list_all no_feed other) b in
    and_from (is_utf8 (one ++ other)) (list_all no_feed (one ++ other))
    (is_utf8-from_IsUtf8 (one ++ other) (IsUtf8-append one other (IsUtf8-from_is_utf8 one first.0)
    (IsUtf8-from_is_utf8 other second.0)))
    (list_all-append no_feed one other ∙ and_from (list_all no_feed one) (list_all no_feed other) first.1 second.1)

inner_no_feed : (text : Text) → is_unparted text ≡ true → list_all no_feed text ≡ true
inner_no_feed [] inner = refl
inner_no_feed (b ∷ bs) inner =
    let parts = and_parts (is_inner b) (is_unparted bs) inner in
    and_from (no_feed b) (list_all no_feed bs) (and_parts (not (b == 32)) (not (b == 10)) parts.0).1
    (inner_no_feed bs parts.1)

pub line_of : (text : Text) → IsUtf8 text → is_unparted text ≡ true → is_line text ≡ true
line_of text utf8 inner =
    and_from (is_utf8 text) (list_all no_feed text) (is_utf8-from_IsUtf8 text utf8) (inner_no_feed text inner)

pub type_line : (word : Text) → IsTypeWord word → is_line word ≡ true
type_line word t = line_of word t.utf8 (type_inner word t)

pub part_line : (word : Text) → IsPartWord word → is_line word ≡ true
part_line word p = line_of word p.utf8 (part_inner word p)
