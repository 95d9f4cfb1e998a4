-- Readers that go by the first word: they are right, and keep the longest front, where those that are picked do.
use Rattle.std.proofs.Common.{◌≡◌, ℕ, ◌≤◌, Bool, false, List, [], ◌++◌, length, None, Some, refl, sym, ap, ◌∙◌, ◌⊎◌}
use Rattle.std.proofs.Common.{inl, inr}
use Rattle.cat_parse_expr.proofs.Common.{Token, TokenKind, Parts, AreSpelled, Parsed, Reader, Fails, Reads, after, pure}
use Rattle.cat_parse_expr.proofs.Common.{Is, Begun, IsRight, ReadsAsFar, Stood}
use Rattle.cat_parse_expr.proofs.Choices.{refit}
use Rattle.cat_parse_expr.proofs.Heads.{IsByHead, headed_right}
use Rattle.cat_parse_expr.proofs.Read.{IsRead}

module _ {T D E : Type 0} (g : T → D) (K F C : Type 0) (low : T → Type 0) (out : T → List Token → Type 0)
    (looks : TokenKind → Bool) (fits : T → Type 0) (row : T → Parts) (at : List Token → E) (class : T → E)
    (pick : E → Reader D) (by_head : IsByHead at)
    (classed : (y : T) (w v : List Token) → fits y → AreSpelled (row y) w → at (w ++ v) ≡ class y)
    (alive : F → Begun fits row []) where
  abbrev pub of_class : E → T → Type 0
  of_class c y = fits y × (class y ≡ c)

  -- either the reader of a class is right, or it has no value and nothing is read
  abbrev pub Picked : E → Type 0
  Picked c =
      IsRead g K F C low out looks (of_class c) row (pick c)
      ⊎ (((y : T) → fits y → class y ≡ c → ⊥) × ((ts : List Token) → pick c ts ≡ Fails ts false None))

  abbrev reader_of : (c : E) → Picked c → Reader T
  reader_of c (inl h) = h.reader
  reader_of c (inr none) = λ ts. Fails ts false None

  module _ (picked : (c : E) → Picked c) where
    maps_of : (c : E) (p : Picked c) (ts : List Token) → pick c ts ≡ after (reader_of c p ts) (λ y. pure (g y))
    maps_of c (inl h) ts = h.maps ts
    maps_of c (inr none) ts = none.1 ts

    sorted : (f : F) (k : C) (bound : ℕ) (c : E) (p : Picked c)
        → IsRight low bound out looks (of_class c) row (reader_of c p)
        ⊎ (((y : T) → fits y → class y ≡ c → ⊥) × ((ts : List Token) → reader_of c p ts ≡ Fails ts false None))
    sorted f k bound c (inl h) = inl (h.right f k bound)
    sorted f k bound c (inr none) = inr (none.0, λ ts. refl)

    longest : (n : K) (f : F) (k : C) (bound : ℕ) (ts : List Token) (y : T) (w v : List Token) → length ts ≤ bound
        → ts ≡ w ++ v → Is fits row y w → (c : E) → at ts ≡ c → (p : Picked c)
        → ReadsAsFar low (reader_of c p ts) y v
    longest n f k bound ts y w v le text i c e (inl h) =
        (h.keeps n f k bound).longest ts y w v le text
        (refit fits (of_class c) row y w
        (i.fit, sym (classed y w v i.fit i.spelled) ∙ ap at (sym text) ∙ e) i)
    longest n f k bound ts y w v le text i c e (inr none) =
        absurd (none.0 y i.fit (sym (classed y w v i.fit i.spelled) ∙ ap at (sym text) ∙ e))

    stood_as : (c : E) (o : Parsed T) (ts : List Token) → Stood low (of_class c) row o ts → Stood low fits row o ts
    stood_as c (Fails left deep None) ts s = tt
    stood_as c (Fails left deep (Some front)) ts s =
        (s.0, s.1, s.2, refit (of_class c) fits row s.0 s.1 s.3.fit.0 s.3, s.4)
    stood_as c (Reads y left) ts s = tt

    stood : (n : K) (f : F) (k : C) (bound : ℕ) (ts : List Token) → length ts ≤ bound → (c : E) (p : Picked c)
        → Stood low fits row (reader_of c p ts) ts
    stood n f k bound ts le c (inl h) = stood_as c (h.reader ts) ts ((h.keeps n f k bound).stood ts le)
    stood n f k bound ts le c (inr none) = tt

    pub headed_read : IsRead g K F C low out looks fits row (λ ts. pick (at ts) ts)
    headed_read = record {
      reader = λ ts. reader_of (at ts) (picked (at ts)) ts;
      maps = λ ts. maps_of (at ts) (picked (at ts)) ts;
      alive = alive;
      right =
          λ f k bound. headed_right low bound out looks fits row at class (λ c. reader_of c (picked c)) by_head classed
          (alive f) (λ c. sorted f k bound c (picked c));
      keeps =
          λ n f k bound. record {
            longest = λ ts y w v le text i. longest n f k bound ts y w v le text i (at ts) refl (picked (at ts));
            stood = λ ts le. stood n f k bound ts le (at ts) (picked (at ts));
          };
    }
