-- A loop over turns, by indices of a list of tokens.
use Rattle.std.proofs.Common.{◌≡◌, ◌≤◌, ◌<◌, ◌-◌, ℕ, zero, suc, Bool, true, false, if◌then◌else◌, List, [], ◌∷◌, length}
use Rattle.std.proofs.Common.{drop, Ok, Err, refl, sym, ap, ◌∙◌, arith, length-drop}
use Rattle.cat_parse_expr.proofs.Common.{Token, Miss, Broken, Memory, Parsed, Reads, Reader, after, turns, Behind}
use Rattle.cat_parse_expr.proofs.Common.{MatchArms, as_many, has_arm, has_arm_behind, Gives}

-- no arm is read where there is no token
pub no_arm : (b : Behind) (l : MatchArms) → has_arm b l [] ≡ false
no_arm b l = by l.in_match
  where
    by : (c : Bool) → has_arm_behind b c [] ≡ false
    by true = refl
    by false = refl

-- reading that was begun at the index goes on at the place from what was read before it
pub record Stands {A : Type 0} (goes : A → List Token → Bool) (turn : A → Reader A) (first : A) (tokens : List Token)
    (at place : ℕ) (made : A) : Type 0 where
  pub fuel : ℕ
  pub enough : length (drop place tokens) ≤ fuel
  pub same : as_many goes turn first (drop at tokens) ≡ turns goes turn fuel made (drop place tokens)
  pub low : at ≤ place
  pub within : place ≤ length tokens

pub smaller : (tokens : List Token) (place next : ℕ) → place < next → next ≤ length tokens
    → length tokens - next < length tokens - place
smaller tokens place next lt le = omega (arith, lt, le)

nothing_left : (l : List Token) → length l ≤ 0 → l ≡ []
nothing_left [] le = refl
nothing_left (t ∷ ts) le = absurd (omega (arith, le))

one_turn : {A : Type 0} (goes : A → List Token → Bool) (turn : A → Reader A) (n : ℕ) (made : A) (ts : List Token)
    → goes made ts ≡ true → turns goes turn (suc n) made ts ≡ after (turn made ts) (turns goes turn n)
one_turn goes turn n made ts h =
    ap (λ (c : Bool). if c then after (turn made ts) (turns goes turn n) else Reads made ts) h

no_turn : {A : Type 0} (goes : A → List Token → Bool) (turn : A → Reader A) (n : ℕ) (made : A) (ts : List Token)
    → goes made ts ≡ false → turns goes turn n made ts ≡ Reads made ts
no_turn goes turn zero made ts h = refl
no_turn goes turn (suc n) made ts h =
    ap (λ (c : Bool). if c then after (turn made ts) (turns goes turn n) else Reads made ts) h

module _ {A : Type 0} {goes : A → List Token → Bool} {turn : A → Reader A} {first : A} {tokens : List Token}
    {at : ℕ} where
  pub begun : at ≤ length tokens → Stands goes turn first tokens at at first
  begun le = record {
    fuel = length (drop at tokens);
    enough = omega arith;
    same = refl;
    low = omega arith;
    within = le;
  }

  module _ {place : ℕ} {made : A} where
    -- one turn further
    pub further : {more : A} {next : ℕ} → Stands goes turn first tokens at place made
        → goes made (drop place tokens) ≡ true → place < next → Gives (turn made) tokens place (Ok (more, next))
        → Stands goes turn first tokens at next more
    further {more = more} {next = next} s h lt g = by s.fuel s.enough s.same
      where
        by : (n : ℕ) → length (drop place tokens) ≤ n
            → as_many goes turn first (drop at tokens) ≡ turns goes turn n made (drop place tokens)
            → Stands goes turn first tokens at next more
        by zero le e = absurd (omega (arith, le, lt, g.2, length-drop place tokens))
        by (suc n) le e = record {
          fuel = n;
          enough = omega (arith, le, lt, g.2, length-drop place tokens, length-drop next tokens);
          same = e ∙ one_turn goes turn n made (drop place tokens) h
              ∙ ap (λ (o : Parsed A). after o (turns goes turn n)) g.0;
          low = omega (arith, s.low, lt);
          within = g.2;
        }

    -- no turn is left
    pub last : Stands goes turn first tokens at place made → goes made (drop place tokens) ≡ false
        → Gives (as_many goes turn first) tokens at (Ok (made, place))
    last s h = (s.same ∙ no_turn goes turn s.fuel made (drop place tokens) h, s.low, s.within)

    -- a turn broke off
    pub refused : (miss : Miss) → Stands goes turn first tokens at place made → goes made (drop place tokens) ≡ true
        → Gives (turn made) tokens place (Err miss) → ((x : A) → goes x [] ≡ false)
        → Gives (as_many goes turn first) tokens at (Err miss)
    refused Memory s h g none = tt
    refused (Broken b) s h g none = (by s.fuel s.enough s.same ∙ g.0, g.1, g.2)
      where
        clash : (c : Bool) → c ≡ true → c ≡ false → ⊥
        clash c x y = absurd cc

        by : (n : ℕ) → length (drop place tokens) ≤ n
            → as_many goes turn first (drop at tokens) ≡ turns goes turn n made (drop place tokens)
            → as_many goes turn first (drop at tokens) ≡ turn made (drop place tokens)
        by zero le e =
            absurd (clash (goes made []) (sym (ap (goes made) (nothing_left (drop place tokens) le)) ∙ h) (none made))
        by (suc n) le e =
            e ∙ one_turn goes turn n made (drop place tokens) h
            ∙ ap (λ (o : Parsed A). after o (turns goes turn n)) g.0 ∙ sym g.0
