-- Readers of values that are made of what was read: they are right, and keep the longest front that is whole.
use Rattle.std.proofs.Common.{◌≡◌, ℕ, ◌≤◌, Bool, List, [], ◌∷◌, ◌++◌, length, Option, Some, None, refl, sym, ap, subst}
use Rattle.std.proofs.Common.{◌∙◌, arith}
use Rattle.std.proofs.lemmas.List.{length-append}
use Rattle.cat_parse_expr.proofs.Common.{Token, TokenKind, Parts, End, Word, Terminal, IsAt, AreSpelled, Parsed, Reader}
use Rattle.cat_parse_expr.proofs.Common.{Fails, Reads, after, ◌⨟◌, pure, made_of, one, Is, Begun, IsRight, ReadsAsFar}
use Rattle.cat_parse_expr.proofs.Common.{Stood, KeepsWhole}
use Rattle.cat_parse_expr.proofs.Joining.{pure_right}
use Rattle.cat_parse_expr.proofs.Token.{Terminals, heads_same, tails_same, token_right}
use Rattle.cat_parse_expr.proofs.Leaves.{lowered}

-- A reader gives what is made of values that another one reads. That one has some value where F holds; where C does
-- too, it is right, and it keeps the longest front where K does.
pub record IsRead {T D : Type 0} (g : T → D) (K F C : Type 0) (low : T → Type 0) (out : T → List Token → Type 0)
    (looks : TokenKind → Bool) (fits : T → Type 0) (row : T → Parts) (s : Reader D) : Type 0 where
  pub reader : Reader T
  pub maps : (ts : List Token) → s ts ≡ after (reader ts) (λ x. pure (g x))
  pub alive : F → Begun fits row []
  pub right : F → C → (bound : ℕ) → IsRight low bound out looks fits row reader
  pub keeps : K → F → C → (bound : ℕ) → KeepsWhole low bound fits row reader

pub mapped : {A T D : Type 0} (g : T → D) (o : Parsed A) (r : A → Reader T) (s : A → Reader D)
    → ((x : A) (ts : List Token) → s x ts ≡ after (r x ts) (λ y. pure (g y)))
    → after o s ≡ after (after o r) (λ y. pure (g y))
mapped g (Fails left deep whole) r s h = refl
mapped g (Reads x left) r s h = h x left

-- ---- nothing more

pure_keeps : {T : Type 0} (low : T → Type 0) (bound : ℕ) (fits : T → Type 0) (x : T)
    → KeepsWhole low bound fits (λ y. End) (pure x)
pure_keeps low bound fits x = record {
  longest =
      λ ts y w rest le text i. omega (arith, ap length text, ap length i.spelled, length-append w rest);
  stood = λ ts le. tt;
}

pub pure_read : {T D : Type 0} {g : T → D} {K F C : Type 0} {low : T → Type 0} {out : T → List Token → Type 0}
    {looks : TokenKind → Bool} {fits : T → Type 0} (x : T) → (F → fits x) → (F → C → low x)
    → ((y : T) → F → fits y → y ≡ x) → IsRead g K F C low out looks fits (λ y. End) (pure (g x))
pure_read {low = low} {out = out} {looks = looks} {fits = fits} x fit fine only = record {
  reader = pure x;
  maps = λ ts. refl;
  alive = λ f. record { value = x; more = []; is = record { fit = fit f; levels = tt; spelled = refl } };
  right = λ f c bound. pure_right low bound out looks fits x (fit f) (fine f c) (λ y is. only y f is);
  keeps = λ k f c bound. pure_keeps low bound fits x;
}

-- ---- a word

module _ {A T : Type 0} (low : T → Type 0) (bound : ℕ) (fits : T → Type 0) (terminal : T → Terminal) (rest : T → Parts)
    (take : Token → Option A) (at : A → T → Type 0) (r : A → Reader T) (m : Terminals fits terminal take at) where
  abbrev row : T → Parts
  row y = Word (terminal y) (rest y)

  pub token_alive : Begun (λ y. fits y × at m.made y) rest [] → Begun fits row []
  token_alive b = record {
    value = b.value;
    more = m.token ∷ b.more;
    is =
        record {
          fit = b.is.fit.0;
          levels = b.is.levels;
          spelled = (
            m.token,
            b.more,
            refl,
            m.is m.token m.made b.value m.sample b.is.fit.0 b.is.fit.1,
            b.is.spelled,
          );
        };
  }

  module _ (keeps : (x : A) → KeepsWhole low bound (λ y. fits y × at x y) rest (r x)) where
    token_longest : (ts : List Token) (y : T) (w v : List Token) → length ts ≤ bound → ts ≡ w ++ v → Is fits row y w
        → ReadsAsFar low ((one take ⨟ r) ts) y v
    token_longest [] y w v le text i =
        absurd (omega (arith, ap length text, ap length i.spelled.2, length-append w v))
    token_longest (p ∷ ts) y w v le text i = by (take p) refl
      where
        s : (t : Token) × (more : List Token) × (w ≡ t ∷ more) × IsAt (terminal y) t × AreSpelled (rest y) more
        s = i.spelled

        same : p ∷ ts ≡ s.0 ∷ (s.1 ++ v)
        same = text ∙ ap (λ (u : List Token). u ++ v) s.2

        there : IsAt (terminal y) p
        there = subst (IsAt (terminal y)) (sym (heads_same p s.0 ts (s.1 ++ v) same)) s.3

        by : (o : Option A) → take p ≡ o → ReadsAsFar low (after (made_of o (p ∷ ts) ts) r) y v
        by None e = absurd (m.none p y e i.fit there)
        by (Some x) e =
            (keeps x).longest ts y s.1 v (omega (arith, le)) (tails_same p s.0 ts (s.1 ++ v) same)
            (record { fit = (i.fit, m.gives p x y e i.fit there); levels = i.levels; spelled = s.4 })

    token_stood : (ts : List Token) → length ts ≤ bound → Stood low fits row ((one take ⨟ r) ts) ts
    token_stood [] le = tt
    token_stood (p ∷ ts) le = by (take p) refl
      where
        behind : (x : A) → take p ≡ Some x → (o : Parsed T) → Stood low (λ y. fits y × at x y) rest o ts
            → Stood low fits row o (p ∷ ts)
        behind x e (Fails left deep None) t = tt
        behind x e (Fails left deep (Some front)) t = (
          t.0,
          p ∷ t.1,
          ap (λ (u : List Token). p ∷ u) t.2,
          record {
            fit = t.3.fit.0;
            levels = t.3.levels;
            spelled = (p, t.1, refl, m.is p x t.0 e t.3.fit.0 t.3.fit.1, t.3.spelled);
          },
          t.4,
        )
        behind x e (Reads y left) t = tt

        by : (o : Option A) → take p ≡ o → Stood low fits row (after (made_of o (p ∷ ts) ts) r) (p ∷ ts)
        by None e = tt
        by (Some x) e = behind x e (r x ts) ((keeps x).stood ts (omega (arith, le)))

    pub token_keeps : KeepsWhole low bound fits row (one take ⨟ r)
    token_keeps = record { longest = token_longest; stood = token_stood }

abbrev pub token_read : {A T D : Type 0} {g : T → D} {K F C : Type 0} {low : T → Type 0} {out : T → List Token → Type 0}
    {looks : TokenKind → Bool} {fits : T → Type 0} (terminal : T → Terminal) (rest : T → Parts)
    (take : Token → Option A) (at : A → T → Type 0) (s : A → Reader D) → Terminals fits terminal take at
    → ((x : A) → IsRead g K F C low out looks (λ y. fits y × at x y) rest (s x))
    → IsRead g K F C low out looks fits (λ y. Word (terminal y) (rest y)) (one take ⨟ s)
token_read {g = g} {low = low} {out = out} {looks = looks} {fits = fits} terminal rest take at s m next = record {
  reader = one take ⨟ λ x. (next x).reader;
  maps = λ ts. mapped g (one take ts) (λ x. (next x).reader) s (λ x ts. (next x).maps ts);
  alive = λ f. token_alive low 0 fits terminal rest take at (λ x. (next x).reader) m ((next m.made).alive f);
  right =
      λ f c bound. lowered low bound out looks fits (λ y. Word (terminal y) (rest y)) (one take ⨟ λ x. (next x).reader)
      (token_right low bound out looks fits terminal rest take at (λ x. (next x).reader) m
      (λ x. (next x).right f c bound));
  keeps =
      λ k f c bound. token_keeps low bound fits terminal rest take at (λ x. (next x).reader) m
      (λ x. (next x).keeps k f c bound);
}
