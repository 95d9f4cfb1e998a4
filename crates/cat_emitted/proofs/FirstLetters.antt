-- Names of types, types without parts and lists begin with other letters.
use Rattle.std.proofs.Common.{◌≡◌, ◌<◌, ◌≤◌, [], ◌++◌, inl, inr, ap, ◌∙◌, arith}
use Rattle.std.specs.Prelude.{codes}
use Rattle.std.specs.Char.{is_ascii_uppercase}
use Rattle.std.specs.Str.{encode_utf8_all}
use Rattle.std.proofs.lemmas.Bool.Decides.{nat_tests}
use Rattle.std.proofs.lemmas.Str.{encode_ascii}
use Rattle.cat_lex.specs.Forms.{IsWord}
use Rattle.cat_scope.specs.Names.{IsOneOf}
use Rattle.cat_image.specs.Words.{Text}
use Rattle.cat_verify_tables.specs.TypeWords.{flat_types}
use Rattle.cat_verify_tables.proofs.Exported.{first_of}

-- the name of a type begins with a capital
pub first_capital : (word : Text) → IsWord is_ascii_uppercase word → first_of word ≤ 90
first_capital word w =
    let begun = w.begun in
    let small : w.first < 128 = grind (arith, nat_tests, begun) in
    let upper : w.first ≤ 90 = grind (arith, nat_tests, begun) in
    let first : first_of word ≡ w.first =
    ap first_of (w.spelled ∙ ap (λ (front : Text). front ++ encode_utf8_all w.others) (encode_ascii w.first small)) in
    omega (arith, first, upper)

pub named_some : (word : Text) → IsWord is_ascii_uppercase word → word ≡ [] → ⊥
named_some word w none =
    let begun = w.begun in
    let small : w.first < 128 = grind (arith, nat_tests, begun) in
    let lower : 65 ≤ w.first = grind (arith, nat_tests, begun) in
    let first : first_of word ≡ w.first =
    ap first_of (w.spelled ∙ ap (λ (front : Text). front ++ encode_utf8_all w.others) (encode_ascii w.first small)) in
    let zero : first_of word ≡ 0 = ap first_of none in
    omega (arith, first, lower, zero)

pub named_no_list : (word rest : Text) → IsWord is_ascii_uppercase word → word ≡ codes "list of " ++ rest → ⊥
named_no_list word rest w is =
    let capital = first_capital word w in
    let other : first_of word ≡ 108 = ap first_of is in
    omega (arith, capital, other)

-- a type without parts begins with a small letter
pub first_small : (word : Text) → IsOneOf word flat_types → 90 < first_of word
first_small word (inl is) = let e = ap first_of is in omega (arith, e)
first_small word (inr (inl is)) = let e = ap first_of is in omega (arith, e)
first_small word (inr (inr (inl is))) = let e = ap first_of is in omega (arith, e)
first_small word (inr (inr (inr (inl is)))) = let e = ap first_of is in omega (arith, e)
first_small word (inr (inr (inr (inr (inl is))))) = let e = ap first_of is in omega (arith, e)
first_small word (inr (inr (inr (inr (inr (inl is)))))) = let e = ap first_of is in omega (arith, e)
first_small word (inr (inr (inr (inr (inr (inr none)))))) = elim none [ ]

pub flat_no_name : (word : Text) → IsOneOf word flat_types → IsWord is_ascii_uppercase word → ⊥
flat_no_name word one w =
    let capital = first_capital word w in let small = first_small word one in omega (arith, capital, small)
