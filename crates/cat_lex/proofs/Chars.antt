-- One character more in front of a text.
use Rattle.std.proofs.Common.{◌≡◌, ℕ, ◌<◌, ◌-◌, Bool, true, false, cond, List, [], ◌∷◌, ◌++◌, length, refl, sym, ap}
use Rattle.std.proofs.Common.{◌∙◌, subst, arith}
use Rattle.std.specs.Prelude.{None}
use Rattle.std.specs.Char.{encode_utf8}
use Rattle.std.specs.Str.{encode_utf8_all, chars, IsUtf8, IsCharBoundary}
use Rattle.std.proofs.lemmas.Str.{chars-nil, chars_past_char, encodes-chars, encodes-append, length-encode}
use Rattle.std.proofs.lemmas.Str.{len_utf8_bounds, IsCharBoundary-at_seam}
use Rattle.std.proofs.lemmas.List.{length-append}
use Rattle.cat_lex.specs.inside.Reading.{skip, after, word_read}

pub after_none : (p : ℕ → Bool) (text : List ℕ) → text ≡ [] → after p text ≡ text
after_none p text none = rw none (rw chars-nil refl)

pub after_pass : (p : ℕ → Bool) (text rest : List ℕ) (c : ℕ) → IsUtf8 text → text ≡ encode_utf8 c ++ rest → p c ≡ true
    → after p rest ≡ after p text
after_pass p text rest c utf8 split passes = rw (chars_past_char text rest c utf8 split) (rw passes refl)

pub after_fail : (p : ℕ → Bool) (text rest : List ℕ) (c : ℕ) → IsUtf8 text → text ≡ encode_utf8 c ++ rest → p c ≡ false
    → after p text ≡ text
after_fail p text rest c utf8 split fails =
    let all : encode_utf8_all (chars text) ≡ text = encodes-chars text utf8 in
    let first : chars text ≡ c ∷ chars rest = chars_past_char text rest c utf8 split in
    rw first (rw fails (ap encode_utf8_all (sym first) ∙ all))

pub shorter : (text rest : List ℕ) (c : ℕ) → text ≡ encode_utf8 c ++ rest → length rest < length text
shorter text rest c split =
    let bound = len_utf8_bounds c in
    let same : length text ≡ length (encode_utf8 c ++ rest) = ap length split in
    omega (arith, bound.0, same, length-append (encode_utf8 c) rest, length-encode c)

suffix_at : (p : ℕ → Bool) (c : ℕ) (cs : List ℕ) (b : Bool) → (front : List ℕ) × (cs ≡ front ++ skip p cs)
    → (front : List ℕ) × (c ∷ cs ≡ front ++ cond b (skip p cs) (c ∷ cs))
suffix_at p c cs true s = (c ∷ s.0, ap (λ (w : List ℕ). c ∷ w) s.1)
suffix_at p c cs false s = ([], refl)

suffix : (p : ℕ → Bool) (cs : List ℕ) → (front : List ℕ) × (cs ≡ front ++ skip p cs)
suffix p [] = ([], refl)
suffix p (c ∷ cs) = suffix_at p c cs (p c) (suffix p cs)

pub after_split : (p : ℕ → Bool) (text : List ℕ) → IsUtf8 text → (front : List ℕ) × (text ≡ front ++ after p text)
after_split p text utf8 =
    let s = suffix p (chars text) in (
      encode_utf8_all s.0,
      sym (encodes-chars text utf8)
          ∙ (ap encode_utf8_all s.1 ∙ encodes-append s.0 (skip p (chars text))),
    )

-- where a rest begins, the text may be cut
pub seam : (text front rest : List ℕ) → text ≡ front ++ rest → IsUtf8 rest
    → IsCharBoundary text (length text - length rest)
seam text front rest split utf8 =
    let same : length text ≡ length (front ++ rest) = ap length split in
    let position : length front ≡ length text - length rest = omega (arith, same, length-append front rest) in
    subst (λ (n : ℕ). IsCharBoundary text n) position (IsCharBoundary-at_seam text front rest split utf8)

pub word_read_none : (text : List ℕ) → text ≡ [] → None ≡ word_read text
word_read_none text none = rw none (rw chars-nil refl)

-- a step over one character
pub ruleset stepping = (after_none, after_pass, after_fail, shorter)
