-- The bytes of words.
use Rattle.std.proofs.Common.{◌≡◌, ℕ, ◌<◌, ◌≤◌, Bool, true, false, not, ◌&&◌, ltb, List, ◌∷◌, refl, sym, ap, ◌∙◌, arith}
use Rattle.std.specs.Char.{is_ascii_uppercase}
use Rattle.std.specs.List.{list_all}
use Rattle.std.proofs.lemmas.Bool.Decides.{nat_tests}
use Rattle.unicode_ident.specs.Ident.{is_xid_start, is_xid_continue}
use Rattle.unicode_ident.proofs.IdentLemmas.{is_xid_continue-ascii, is_xid_start-is_xid_continue}
use Rattle.cat_lex.specs.Forms.{IsWord, begins_name}
use Rattle.cat_lex.proofs.WordBytes.{chars_bytes}
use Rattle.cat_laws.specs.Unbroken.{is_inner, is_unbroken}

both : (a b : Bool) → a ≡ true → b ≡ true → (a && b) ≡ true
both true b one two = two
both false b one two = one

left : (a b : Bool) → (a && b) ≡ true → a ≡ true
left true b h = refl
left false b h = h

-- ---- characters

high : (b : ℕ) → 128 ≤ b → is_inner b ≡ true
high b up = grind (arith, nat_tests)

low_byte : (c : ℕ) → ltb c 128 ≡ true → is_xid_continue c ≡ true → is_inner c ≡ true
low_byte c low continues =
    let below : c < 128 = grind (arith, nat_tests) in
    let is = sym (is_xid_continue-ascii c below) ∙ continues in
    grind (arith, nat_tests)

-- ---- words

capital_continues : (c : ℕ) → is_ascii_uppercase c ≡ true → is_xid_continue c ≡ true
capital_continues c h =
    let low : c < 128 = grind (arith, nat_tests) in
    is_xid_continue-ascii c low ∙ grind (arith, nat_tests)

name_continues : (c : ℕ) → begins_name c ≡ true → is_xid_continue c ≡ true
name_continues c h =
    is_xid_start-is_xid_continue c (left (is_xid_start c) (not (is_ascii_uppercase c)) h)

word_bytes : (begins : ℕ → Bool) → ((c : ℕ) → begins c ≡ true → is_xid_continue c ≡ true) → (word : List ℕ)
    → IsWord begins word → is_unbroken word ≡ true
word_bytes begins continues word is =
    ap is_unbroken is.spelled
    ∙ chars_bytes is_inner high low_byte (is.first ∷ is.others)
    (both (is_xid_continue is.first) (list_all is_xid_continue is.others) (continues is.first is.begun) is.continued)

-- a type word and a name word hold neither a line feed nor a hyphen
pub capital_bytes : (word : List ℕ) → IsWord is_ascii_uppercase word → is_unbroken word ≡ true
capital_bytes word is = word_bytes is_ascii_uppercase capital_continues word is

pub name_bytes : (word : List ℕ) → IsWord begins_name word → is_unbroken word ≡ true
name_bytes word is = word_bytes begins_name name_continues word is
