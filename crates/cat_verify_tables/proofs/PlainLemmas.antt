-- Words that are parted by no blank, comma or dot, and that don't begin as lists do.
use Rattle.std.proofs.Common.{zero, suc, ◌≡◌, ℕ, ◌<◌, ◌≤◌, ◌==◌, ◌&&◌, Bool, true, false, not, ltb, []}
use Rattle.std.proofs.Common.{◌∷◌, ◌++◌, Option, Some, None, refl, sym, ap, ◌∙◌, arith, true≢false}
use Rattle.std.specs.Prelude.{codes}
use Rattle.std.specs.Char.{is_ascii_uppercase}
use Rattle.std.specs.List.{list_all}
use Rattle.std.specs.Str.{encode_utf8_all}
use Rattle.std.proofs.lemmas.Bool.{and_parts, and_from}
use Rattle.std.proofs.lemmas.Bool.Decides.{nat_tests}
use Rattle.std.proofs.lemmas.Str.{encode_ascii}
use Rattle.unicode_ident.specs.Ident.{is_xid_start, is_xid_continue}
use Rattle.unicode_ident.proofs.IdentLemmas.{is_xid_continue-ascii, is_xid_start-is_xid_continue}
use Rattle.cat_value.specs.declared.ty.Ty.{Ty}
use Rattle.cat_image.specs.Words.{Text}
use Rattle.cat_image.specs.inside.Reads.{cut}
use Rattle.cat_verify_tables.specs.TypeWords.{IsTypeName, IsPartName}
use Rattle.cat_verify_tables.specs.inside.TypeNaming.{flat_type, listed}
use Rattle.cat_verify_tables.proofs.TypeLemmas.{flat_is}
use Rattle.cat_verify_tables.proofs.WordBytes.{chars_bytes}

-- ---- bytes

-- a byte that is neither a blank nor a comma nor a dot
abbrev is_inner : ℕ → Bool
is_inner b = not (b == 32) && not (b == 44) && not (b == 46)

abbrev pub is_unparted : Text → Bool
is_unparted bytes = list_all is_inner bytes

high : (b : ℕ) → 128 ≤ b → is_inner b ≡ true
high b up = grind (arith, nat_tests)

low_byte : (c : ℕ) → ltb c 128 ≡ true → is_xid_continue c ≡ true → is_inner c ≡ true
low_byte c low continues =
    let below : c < 128 = grind (arith, nat_tests) in
    let is = sym (is_xid_continue-ascii c below) ∙ continues in
    grind (arith, nat_tests)

-- ---- words

abbrev pub is_plain : Text → Bool
is_plain [] = false
is_plain (b ∷ bs) = not (b == 108) && is_unparted (b ∷ bs)

pub flat_plain : (word : Text) (t : Ty) → flat_type word ≡ Some t → is_plain word ≡ true
flat_plain = flat_is (λ word t. is_plain word ≡ true) refl refl refl refl refl refl

named_plain : (word : Text) → IsTypeName word → is_plain word ≡ true
named_plain word w =
    let begun = w.begun in
    let small : w.first < 128 = grind (arith, nat_tests, begun) in
    let inner : is_inner w.first ≡ true = grind (arith, nat_tests, begun) in
    let other : not (w.first == 108) ≡ true = grind (arith, nat_tests, begun) in
    let spelled : word ≡ w.first ∷ encode_utf8_all w.others =
    w.spelled ∙ ap (λ (front : Text). front ++ encode_utf8_all w.others) (encode_ascii w.first small) in
    ap is_plain spelled
    ∙ and_from (not (w.first == 108)) (is_unparted (w.first ∷ encode_utf8_all w.others)) other
    (and_from (is_inner w.first) (is_unparted (encode_utf8_all w.others)) inner
    (chars_bytes is_inner high low_byte w.others w.continued))

-- what is no other than the name of a type
pub not_other_plain : (word : Text) → ((IsTypeName word → ⊥) → ⊥) → is_plain word ≡ true
not_other_plain word typed = by (is_plain word) refl
  where
    by : (b : Bool) → is_plain word ≡ b → b ≡ true
    by true is = refl
    by false is = absurd (typed (λ name. true≢false (sym (named_plain word name) ∙ is)))

-- ---- where they are parted

no_cut : (byte : ℕ) (test : ℕ → Bool) → ((b : ℕ) → test b ≡ true → (b == byte) ≡ false) → (text : Text)
    → list_all test text ≡ true → cut byte text ≡ None
unfolding cut
no_cut byte test apart [] all = refl
no_cut byte test apart (b ∷ bs) all =
    let parts = and_parts (test b) (list_all test bs) all in
    rw (apart b parts.0, no_cut byte test apart bs parts.1) refl

unparted : (word : Text) → is_plain word ≡ true → is_unparted word ≡ true
unparted [] plain = refl
unparted (b ∷ bs) plain = (and_parts (not (b == 108)) (is_unparted (b ∷ bs)) plain).1

pub no_blank : (word : Text) → is_plain word ≡ true → cut 32 word ≡ None
no_blank word plain = no_cut 32 is_inner (λ b inner. grind (arith, nat_tests, inner)) word (unparted word plain)

pub no_comma : (word : Text) → is_plain word ≡ true → cut 44 word ≡ None
no_comma word plain = no_cut 44 is_inner (λ b inner. grind (arith, nat_tests, inner)) word (unparted word plain)

no_dot : (word : Text) → is_unparted word ≡ true → cut 46 word ≡ None
no_dot word plain = no_cut 46 is_inner (λ b inner. grind (arith, nat_tests, inner)) word plain

pub type_no_dot : (word : Text) → ((IsTypeName word → ⊥) → ⊥) → cut 46 word ≡ None
type_no_dot word typed = no_dot word (unparted word (not_other_plain word typed))

part_unparted : (word : Text) → IsPartName word → is_unparted word ≡ true
part_unparted word part =
    let w = part.0 in
    let starts = (and_parts (is_xid_start w.first) (not (is_ascii_uppercase w.first)) w.begun).0 in
    ap is_unparted w.spelled
    ∙ chars_bytes is_inner high low_byte (w.first ∷ w.others)
    (and_from (is_xid_continue w.first) (list_all is_xid_continue w.others)
    (is_xid_start-is_xid_continue w.first starts) w.continued)

pub part_no_dot : (word : Text) → ((IsPartName word → ⊥) → ⊥) → cut 46 word ≡ None
part_no_dot word part = no_dot word (by (is_unparted word) refl)
  where
    by : (b : Bool) → is_unparted word ≡ b → b ≡ true
    by true is = refl
    by false is = absurd (part (λ name. true≢false (sym (part_unparted word name) ∙ is)))

-- the byte with which a text begins
abbrev pub first_of : Text → ℕ
first_of [] = 0
first_of (b ∷ bs) = b

-- the word of conditions is no type
pub no_condition_name : IsTypeName (codes "condition") → ⊥
no_condition_name w =
    let begun = w.begun in
    let small : w.first < 128 = grind (arith, nat_tests, begun) in
    let upper : w.first ≤ 90 = grind (arith, nat_tests, begun) in
    let first : 99 ≡ w.first =
    ap first_of (w.spelled ∙ ap (λ (front : Text). front ++ encode_utf8_all w.others) (encode_ascii w.first small)) in
    omega (arith, first, upper)

-- no list begins with a word
pub no_list : (word more rest : Text) → is_plain word ≡ true → word ++ more ≡ codes "list of " ++ rest → ⊥
no_list [] more rest plain same = true≢false (sym plain)
no_list (b ∷ bs) more rest plain same =
    let first : b ≡ 108 = ap first_of same in
    let other = (and_parts (not (b == 108)) (is_unparted (b ∷ bs)) plain).0 in
    grind (arith, nat_tests, first, other)

-- two texts without the byte have none as one
pub no_byte : (byte : ℕ) (one other : Text) → cut byte one ≡ None → cut byte other ≡ None → cut byte (one ++ other)
    ≡ None
unfolding cut
no_byte byte [] other first second = second
no_byte byte (b ∷ one) other first second =
    by (λ none. no_byte byte one other none second) (b == byte) refl (cut byte one) refl first
  where
    by : (cut byte one ≡ None → cut byte (one ++ other) ≡ None) → (same : Bool) → (b == byte) ≡ same
        → (o : Option (Text × Text)) → cut byte one ≡ o → cut byte (b ∷ one) ≡ None
        → cut byte (b ∷ (one ++ other)) ≡ None
    by rest true is o at none =
        let there : cut byte (b ∷ one) ≡ Some ([], one) = rw is refl in absurd (cc (sym none ∙ there))
    by rest false is (Some p) at none =
        let there : cut byte (b ∷ one) ≡ Some (b ∷ p.0, p.1) = rw (is, at) refl in absurd (cc (sym none ∙ there))
    by rest false is None at none = rw (is, rest at) refl

-- a list of what has no comma has none
pub listed_single : (n : ℕ) (base : Text) → cut 44 base ≡ None → cut 44 (listed n base) ≡ None
unfolding cut
listed_single zero base none = none
listed_single (suc n) base none = no_byte 44 (codes "list of ") (listed n base) refl (listed_single n base none)
