-- A reader that takes one token first.
use Rattle.std.proofs.Common.{◌≡◌, ℕ, suc, ◌≤◌, Bool, true, false, List, [], ◌∷◌, ◌++◌, length, Option, Some, None}
use Rattle.std.proofs.Common.{refl, sym, ap, subst, ◌∙◌, arith}
use Rattle.std.proofs.lemmas.List.{append-nil, length-append}
use Rattle.cat_parse_expr.proofs.Common.{Token, TokenKind, Parts, Word, Terminal, IsAt, Parsed, Reader, Fails, Reads}
use Rattle.cat_parse_expr.proofs.Common.{left_of, after, ◌⨟◌, made_of, one, Agree, Is, Begun, Took, Taken, Says, Alike}
use Rattle.cat_parse_expr.proofs.Common.{IsRight}
use Rattle.cat_parse_expr.proofs.Joining.{no_front}

-- what is made of a token tells which terminal it is
pub record Terminals {A B : Type 0} (fits : B → Type 0) (terminal : B → Terminal) (take : Token → Option A)
    (at : A → B → Type 0) : Type 0 where
  pub gives : (p : Token) (x : A) (y : B) → take p ≡ Some x → fits y → IsAt (terminal y) p → at x y
  pub is : (p : Token) (x : A) (y : B) → take p ≡ Some x → fits y → at x y → IsAt (terminal y) p
  pub none : (p : Token) (y : B) → take p ≡ None → fits y → IsAt (terminal y) p → ⊥
  pub token : Token
  pub made : A
  pub sample : take token ≡ Some made

abbrev first_or : Token → List Token → Token
first_or t [] = t
first_or t (p ∷ ps) = p

abbrev rest_of : List Token → List Token
rest_of [] = []
rest_of (p ∷ ps) = ps

pub heads_same : (p q : Token) (ps qs : List Token) → p ∷ ps ≡ q ∷ qs → p ≡ q
heads_same p q ps qs e = ap (first_or p) e

pub tails_same : (p q : Token) (ps qs : List Token) → p ∷ ps ≡ q ∷ qs → ps ≡ qs
tails_same p q ps qs e = ap rest_of e

module _ {A B : Type 0} (low : B → Type 0) (bound : ℕ) (out : B → List Token → Type 0) (looks : TokenKind → Bool)
    (fits : B → Type 0) (terminal : B → Terminal) (rest : B → Parts)
    (take : Token → Option A) (at : A → B → Type 0) (r : A → Reader B) (m : Terminals fits terminal take at)
    (right : (x : A) → IsRight low bound out looks (λ y. fits y × at x y) rest (r x)) where
  abbrev row : B → Parts
  row y = Word (terminal y) (rest y)

  is_behind : (p : Token) (x : A) (y : B) (w : List Token) → take p ≡ Some x → Is (λ y. fits y × at x y) rest y w
      → Is fits row y (p ∷ w)
  is_behind p x y w t i =
      record { fit = i.fit.0; levels = i.levels; spelled = (p, w, refl, m.is p x y t i.fit.0 i.fit.1, i.spelled) }

  begun_behind : (p : Token) (x : A) (u : List Token) → take p ≡ Some x → Begun (λ y. fits y × at x y) rest u
      → Begun fits row (p ∷ u)
  begun_behind p x u t b = record { value = b.value; more = b.more; is = is_behind p x b.value (u ++ b.more) t b.is }

  alive : Begun fits row []
  alive =
      let b =
      (right m.made).alive in
      record { value = b.value; more = m.token ∷ b.more; is = is_behind m.token m.made b.value b.more m.sample b.is }

  took_behind : (p : Token) (x : A) (o : Parsed B) (u : List Token) → take p ≡ Some x
      → Took low (λ y. fits y × at x y) rest o u → Took low fits row o (p ∷ u)
  took_behind p x (Fails left false whole) u t b = begun_behind p x u t b
  took_behind p x (Fails left true whole) u t f =
      record { next = f.next; after = f.after; text = f.text; begun = begun_behind p x (u ++ f.next ∷ []) t f.begun }
  took_behind p x (Reads y left) u t i = (is_behind p x y u t i.0, i.1)

  taken_made : (p : Token) (ts : List Token) → length ts ≤ bound → (o : Option A) → take p ≡ o
      → Taken low fits row (after (made_of o (p ∷ ts) ts) r) (p ∷ ts)
  taken_made p ts le None e = record { front = []; text = refl; took = alive }
  taken_made p ts le (Some x) e =
      let t = (right x).taken ts le in
      record {
        front = p ∷ t.front;
        text = ap (λ (w : List Token). p ∷ w) t.text;
        took = took_behind p x (r x ts) t.front e t.took;
      }

  taken_one : (ts : List Token) → length ts ≤ suc bound → Taken low fits row ((one take ⨟ r) ts) ts
  taken_one [] le = record { front = []; text = refl; took = alive }
  taken_one (p ∷ ts) le = taken_made p ts (omega (arith, le)) (take p) refl

  says_behind : (p : Token) (o : Parsed B) (y : B) (w u : List Token) → Says low o y w u
      → Says low o y (p ∷ w) (p ∷ u)
  says_behind p (Fails left false whole) y w u s = s
  says_behind p (Fails left true whole) y w u s = s
  says_behind p (Reads x left) y w u s = (s.0, ap (λ (v : List Token). p ∷ v) s.1)

  nothing_spelled : (front : List Token) (y : B) (w : List Token) → [] ≡ front ++ [] → Alike out looks fits row
      (Fails [] false None) front y w
      → ⊥
  nothing_spelled front y w text a = by a.others a.seen a.text
    where
      by : (others : List Token) → Agree [] others → w ++ a.behind ≡ front ++ others → ⊥
      by [] g e =
          let s =
          a.is.spelled in omega (
            arith,
            ap length s.2,
            ap length e,
            length-append w a.behind,
            ap length
                (text ∙ append-nil front),
            length-append front [],
          )
      by (q ∷ qs) g e = g

  not_made : (p : Token) (ts front : List Token) (y : B) (w : List Token) → take p ≡ None → (p ∷ ts) ≡ front ++ (p ∷ ts)
      → Alike out looks fits row (Fails (p ∷ ts) false None) front y w → ⊥
  not_made p ts front y w e text a = by a.others a.seen a.text
    where
      by : (others : List Token) → Agree (p ∷ ts) others → w ++ a.behind ≡ front ++ others → ⊥
      by [] g t = g
      by (q ∷ qs) g t =
          let s = a.is.spelled in
          let same : (s.0 ∷ s.1) ++ a.behind ≡ q ∷ qs =
          ap (λ (v : List Token). v ++ a.behind) (sym s.2) ∙ t
          ∙ ap (λ (v : List Token). v ++ q ∷ qs) (no_front front (p ∷ ts) text) in
          let is : s.0 ≡ p = heads_same s.0 q (s.1 ++ a.behind) qs same ∙ sym g in
          m.none p y e a.is.fit (subst (IsAt (terminal y)) is s.3)

  says_made : (p : Token) (ts : List Token) (y : B) (w : List Token) → length ts ≤ bound → (x : A) → take p ≡ Some x
      → (front : List Token) → (p ∷ ts) ≡ front ++ left_of (r x ts) → Alike out looks fits row (r x ts) front y w
      → Says low (r x ts) y w front
  says_made p ts y w le x e [] text a =
      let t =
      (right x).taken ts le in
      absurd (omega (arith, ap length text, ap length t.text, length-append t.front (left_of (r x ts))))
  says_made p ts y w le x e (f ∷ front) text a =
      let s = a.is.spelled in
      let same : (s.0 ∷ s.1) ++ a.behind ≡ f ∷ (front ++ a.others) =
      ap (λ (v : List Token). v ++ a.behind) (sym s.2) ∙ a.text in
      let pf : p ≡ f = heads_same p f ts (front ++ left_of (r x ts)) text in
      let is : s.0 ≡ f = heads_same s.0 f (s.1 ++ a.behind) (front ++ a.others) same in
      let there : IsAt (terminal y) p = subst (IsAt (terminal y)) (is ∙ sym pf) s.3 in
      let inner = (right x).says ts front y s.1 le (tails_same p f ts (front ++ left_of (r x ts)) text) (record {
        others = a.others;
        behind = a.behind;
        seen = a.seen;
        is = record { fit = (a.is.fit, m.gives p x y e a.is.fit there); levels = a.is.levels; spelled = s.4 };
        outside = a.outside;
        text = tails_same s.0 f (s.1 ++ a.behind) (front ++ a.others) same;
      }) in
      let whole : f ∷ s.1 ≡ w = ap (λ (t : Token). t ∷ s.1) (sym is) ∙ sym s.2 in
      subst (λ (v : List Token). Says low (r x ts) y v (f ∷ front)) whole
      (says_behind f (r x ts) y s.1 front inner)

  says_of : (p : Token) (ts front : List Token) (y : B) (w : List Token) → length ts ≤ bound → (o : Option A) → take p
      ≡ o → (p ∷ ts) ≡ front ++ left_of (after (made_of o (p ∷ ts) ts) r)
      → Alike out looks fits row (after (made_of o (p ∷ ts) ts) r) front y w
      → Says low (after (made_of o (p ∷ ts) ts) r) y w front
  says_of p ts front y w le None e text a = not_made p ts front y w e text a
  says_of p ts front y w le (Some x) e text a = says_made p ts y w le x e front text a

  says_one : (ts front : List Token) (y : B) (w : List Token) → length ts ≤ suc bound → ts ≡ front
      ++ left_of ((one take ⨟ r) ts) → Alike out looks fits row ((one take ⨟ r) ts) front y w
      → Says low ((one take ⨟ r) ts) y w front
  says_one [] front y w le text a = nothing_spelled front y w text a
  says_one (p ∷ ts) front y w le text a = says_of p ts front y w (omega (arith, le)) (take p) refl text a

  pub token_right : IsRight low (suc bound) out looks fits (λ y. Word (terminal y) (rest y)) (one take ⨟ r)
  token_right = record { alive = alive; taken = taken_one; says = says_one }
