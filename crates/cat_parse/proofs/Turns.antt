-- A loop over a repetition, by places of a list of tokens.
use Rattle.std.proofs.Common.{◌≡◌, ◌≤◌, ◌<◌, ◌-◌, ℕ, true, false, List, [], ◌∷◌, ◌++◌, length, drop, Ok, Err, Bool, sym}
use Rattle.std.proofs.Common.{subst, arith, length-drop}
use Rattle.cat_parse.proofs.Common.{Token, TokenKind, Miss, Broken, Memory, Reader, ◌⨟◌, pure, heads, both, many, Gives}
use Rattle.cat_parse.proofs.Common.{left_behind}
use Rattle.cat_parse.proofs.Repeats.{Shrinks, Going, begun, begun_behind, goes_on, ends, breaks}

-- one part, and as many others as there are
abbrev pub one_and_more : {A : Type 0} → Reader A → (TokenKind → Bool) → Reader A → Reader (List A)
one_and_more q start r = both q (many start r) ⨟ λ x. pure (x.0 ∷ x.1)

-- the parts before the place were made
pub record Stands {A : Type 0} (start : TokenKind → Bool) (r : Reader A) (whole : Reader (List A)) (tokens : List Token)
    (at place : ℕ) (made : List A) : Type 0 where
  pub going : Going start r (whole (drop at tokens)) made (drop place tokens)
  pub low : at ≤ place
  pub within : place ≤ length tokens

module _ {A : Type 0} {start : TokenKind → Bool} {r : Reader A} {whole : Reader (List A)} {tokens : List Token} {at : ℕ}
    {place : ℕ} {made : List A} where
  -- one part further
  pub further : {more : List A} {x : A} {next : ℕ} → Stands start r whole tokens at place made → Shrinks r
      → heads start (drop place tokens) ≡ true → Gives r tokens place (Ok (x, next)) → more ≡ made ++ x ∷ []
      → Stands start r whole tokens at next more
  further {x = x} {next = next} s less h g e =
      subst (Stands start r whole tokens at next) (sym e)
      (record {
        going = goes_on start r (whole (drop at tokens)) made (drop place tokens) x
            (drop next tokens) less h g.0 s.going;
        low = omega (arith, s.low, g.1);
        within = g.2;
      })

  -- what is left of the tokens shrinks
  pub smaller : {x : A} {next : ℕ} → Stands start r whole tokens at place made → Shrinks r
      → Gives r tokens place (Ok (x, next)) → length tokens - next < length tokens - place
  smaller {x = x} {next = next} s less g =
      omega (
        arith,
        s.within,
        g.1,
        g.2,
        less (drop place tokens) x (drop next tokens) g.0,
        length-drop place tokens,
        length-drop next tokens,
      )

  -- no part is left
  pub last : Stands start r whole tokens at place made → heads start (drop place tokens) ≡ false
      → Gives whole tokens at (Ok (made, place))
  last s h = (ends start r (whole (drop at tokens)) made (drop place tokens) h s.going, s.low, s.within)

  -- a part broke off
  pub refused : (miss : Miss) → Stands start r whole tokens at place made → heads start (drop place tokens) ≡ true
      → Gives r tokens place (Err miss) → Gives whole tokens at (Err miss)
  refused (Broken b) s h g = (
    breaks start r (whole (drop at tokens)) made (drop place tokens) (drop b.at tokens) b.deep
        (left_behind tokens b.whole) h g.0 s.going,
    g.1,
    g.2,
  )
  refused Memory s h g = tt

module _ {A : Type 0} {start : TokenKind → Bool} {r : Reader A} {tokens : List Token} {at : ℕ} where
  pub at_none : {made : List A} → at ≤ length tokens → made ≡ [] → Stands start r (many start r) tokens at at made
  at_none le e =
      subst (Stands start r (many start r) tokens at at) (sym e)
      (record { going = begun start r (drop at tokens); low = omega arith; within = le })

  pub at_first : (q : Reader A) {x : A} {next : ℕ} {made : List A} → Gives q tokens at (Ok (x, next)) → made ≡ x ∷ []
      → Stands start r (one_and_more q start r) tokens at next made
  at_first q {x = x} {next = next} g e =
      subst (Stands start r (one_and_more q start r) tokens at next) (sym e)
      (record { going = begun_behind start r q (drop at tokens) x (drop next tokens) g.0; low = g.1; within = g.2 })
