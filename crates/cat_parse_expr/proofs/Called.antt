-- Names and calls.
use Rattle.std.proofs.Common.{◌≡◌, ℕ, ◌≤◌, Bool, true, false, List, [], ◌∷◌, refl, sym, ap, ◌∙◌, arith, inl, inr, ◌⊎◌}
use Rattle.std.proofs.Common.{not, nat_eq, ◌&&◌, ◌||◌, cond}
use Rattle.std.proofs.lemmas.Bool.Decides.{nat_tests}
use Rattle.cat_lex.specs.declared.token.TokenKind.TheVariants as kind
use Rattle.cat_lex.specs.declared.words.DoubleKeyword.TheVariants as pair
use Rattle.cat_lex.specs.declared.symbol.Symbol.TheVariants as symbol
use Rattle.cat_parse_expr.specs.declared.behind.Behind.TheVariants.{Other, Field, Pattern as Tested}
use Rattle.cat_parse_expr.proofs.Common.{Token, TokenKind, End, phrase, Behind, Measured, MayFollow, is_taken}
use Rattle.cat_parse_expr.proofs.Common.{IsMeasured, elements, is_sign, heads, right_strength, last_in_form}
use Rattle.cat_parse_expr.proofs.Common.{last_in_match, is_asked, is_below, is_with_pattern, follow_of}
use Rattle.cat_parse_expr.proofs.Operands.{Next, match_is, ending_next}
use Rattle.cat_parse_expr.proofs.Nodes.{phrases_of, AreMeasured}
use Rattle.cat_parse_expr.proofs.Follows.{argument_ends}
use Rattle.cat_parse_expr.proofs.Positive.{ends_in_word, nine_strength}
use Rattle.cat_parse_expr.proofs.Truth.{first_true, third_true}

-- ---- arguments

-- an expression that may be one
abbrev pub Nine : Measured → Type 0
Nine x = IsMeasured x × (9 ≤ right_strength (phrase x.node))

abbrev pub AreNine : List Measured → Type 0
AreNine [] = Unit {0}
AreNine (x ∷ xs) = Nine x × AreNine xs

pub nine_measured : (xs : List Measured) → AreNine xs → AreMeasured xs
nine_measured [] m = tt
nine_measured (x ∷ xs) m = (m.0.0, nine_measured xs m.1)

pub nine_stands : (x : Measured) → Nine x → 9 ≤ x.strength
nine_stands x m =
    omega (arith, m.1, nine_strength x.node m.1, ap (λ (z : Measured). z.strength) m.0)

pub nine_match : (x : Measured) → Nine x → x.in_match ≡ false
nine_match x m = match_is x m.0 ∙ (ends_in_word x.node m.1).1

-- they end in no part that goes on
pub nine_last : (x : Measured) (xs : List Measured) (c d : Bool) → Nine x → AreNine xs
    → (last_in_form c (elements 9 symbol.Comma (phrases_of (x ∷ xs)) End) ≡ false)
    × (last_in_match d (elements 9 symbol.Comma (phrases_of (x ∷ xs)) End) ≡ false)
nine_last x [] c d m ms = ends_in_word x.node m.1
nine_last x (y ∷ xs) c d m ms = nine_last y xs false false ms.0 ms.1

-- a further argument may follow one
pub comma_follows : (x : Measured) (v : List Token) → heads (is_sign symbol.Comma) v ≡ true → MayFollow Other 9 x v
comma_follows x [] h = tt
comma_follows x (p ∷ ts) h =
    third_true (is_taken p.kind) (is_asked Other p.kind ts) (nat_eq 9 9 && is_sign symbol.Comma p.kind)
    (not x.in_match && is_sign symbol.MinusMinus p.kind)
    (not (nat_eq x.strength 0) && is_below 9 (follow_of p.kind)) (ap (λ (z : Bool). nat_eq 9 9 && z) h)

-- what an outer form asks for may follow one as well
pattern_below : (p : TokenKind) → is_with_pattern p ≡ true → is_below 9 (follow_of p) ≡ true
pattern_below (kind.Pair pair.WithPattern) h = refl
pattern_below _ h = absurd cc

unasked : (a b c d e : Bool) → (b ≡ true → (d ≡ true) ⊎ (e ≡ true)) → (not a || (b || (c || (d || e)))) ≡ true
    → (not a || (false || (c || (d || e)))) ≡ true
unasked false b c d e f h = refl
unasked true false c d e f h = h
unasked true true true d e f h = refl
unasked true true false true e f h = refl
unasked true true false false e f h = elim (f refl) [ inl x ↦ absurd cc | inr x ↦ x ]

pub nine_follows : (b : Behind) (x : Measured) (v : List Token) → Nine x → MayFollow b 9 x v → MayFollow Other 9 x v
nine_follows b x [] m h = tt
nine_follows b x (p ∷ ts) m h =
    unasked (is_taken p.kind) (is_asked b p.kind ts) (nat_eq 9 9 && is_sign symbol.Comma p.kind)
    (not x.in_match && is_sign symbol.MinusMinus p.kind)
    (not (nat_eq x.strength 0) && is_below 9 (follow_of p.kind)) (by b) h
  where
    by : (b : Behind) → is_asked b p.kind ts ≡ true → ((not x.in_match && is_sign symbol.MinusMinus p.kind) ≡ true)
        ⊎ ((not (nat_eq x.strength 0) && is_below 9 (follow_of p.kind)) ≡ true)
    by Tested e =
        let below : is_below 9 (follow_of p.kind) ≡ true = pattern_below p.kind (first_true _ _ e) in
        inr (ap (λ (z : Bool). not (nat_eq x.strength 0) && z) below ∙ stands (nine_stands x m))
      where
        stands : 9 ≤ x.strength → (not (nat_eq x.strength 0) && true) ≡ true
        stands le = grind (arith, nat_tests, le)
    by Field e = inl (ap (λ (z : Bool). not z && is_sign symbol.MinusMinus p.kind) (nine_match x m) ∙ first_true _ _ e)
    by Other e = absurd cc

-- what follows a call may follow its last argument
pub argument_follows : (b : Behind) (k : ℕ) (y x : Measured) (v : List Token) → k ≤ 8 → y.strength ≡ 8 → y.in_match
    ≡ false
    → Nine x → Next b k y v → MayFollow Other 9 x v
argument_follows b k y x v le s i m o =
    nine_follows b x v m
    (ending_next b k y 8 9 x v (argument_ends k le) (s ∙ sym (strong (nine_stands x m))) (i ∙ sym (nine_match x m)) o)
  where
    strong : 9 ≤ x.strength → ◌≡◌ {A = ℕ} (cond (nat_eq x.strength 0) 0 8) 8
    strong le = grind (arith, nat_tests, le)
