-- A choice by the next word, and what is made of what was read.
use Rattle.std.proofs.Common.{◌≡◌, ℕ, ◌≤◌, Bool, true, false, if◌then◌else◌, List, [], ◌∷◌, ◌++◌, length, refl, sym, ap}
use Rattle.std.proofs.Common.{subst, ◌∙◌, inl, inr, ◌⊎◌}
use Rattle.cat_parse_expr.proofs.Common.{Token, TokenKind, Parts, AreLevelled, AreSpelled, Parsed, Reader, Fails, Reads}
use Rattle.cat_parse_expr.proofs.Common.{left_of, after, ◌⨟◌, pure, heads, by_word, Agree, AgreePast, Seen, Is, Begun}
use Rattle.cat_parse_expr.proofs.Common.{Took, Taken, Says, Alike, IsRight}

-- ---- what is made of what was read

-- values of one kind as values of another, whose rows the same tokens spell
pub record Recast {A B : Type 0} (low : A → Type 0) (low2 : B → Type 0) (out : A → List Token → Type 0)
    (out2 : B → List Token → Type 0) (fits : A → Type 0) (fits2 : B → Type 0) (row : A → Parts) (row2 : B → Parts)
    (f : A → B) : Type 0 where
  pub to : (x : A) (w : List Token) → Is fits row x w → Is fits2 row2 (f x) w
  pub from : (y : B) (w : List Token) → Is fits2 row2 y w → (x : A) × (y ≡ f x) × Is fits row x w
  pub lows : (x : A) → fits x → low x → low2 (f x)
  pub back : (x : A) → fits x → low2 (f x) → low x
  pub outside : (x : A) (v : List Token) → fits x → out2 (f x) v → out x v

module _ {A B : Type 0} (bound : ℕ) (low : A → Type 0) (low2 : B → Type 0) (out : A → List Token → Type 0)
    (out2 : B → List Token → Type 0) (looks : TokenKind → Bool) (fits : A → Type 0) (fits2 : B → Type 0)
    (row : A → Parts) (row2 : B → Parts) (f : A → B) (r : Reader A)
    (c : Recast low low2 out out2 fits fits2 row row2 f) (right : IsRight low bound out looks fits row r) where
  begun_made : (u : List Token) → Begun fits row u → Begun fits2 row2 u
  begun_made u b = record { value = f b.value; more = b.more; is = c.to b.value (u ++ b.more) b.is }

  taken_made : (ts : List Token) (o : Parsed A) → Taken low fits row o ts
      → Taken low2 fits2 row2 (after o (λ x. pure (f x))) ts
  taken_made ts (Fails left false whole) t = record { front = t.front; text = t.text; took = begun_made t.front t.took }
  taken_made ts (Fails left true whole) t =
      record {
        front = t.front;
        text = t.text;
        took =
            record {
              next = t.took.next;
              after = t.took.after;
              text = t.took.text;
              begun = begun_made (t.front ++ t.took.next ∷ []) t.took.begun;
            };
      }
  taken_made ts (Reads x left) t =
      record {
        front = t.front;
        text = t.text;
        took = (c.to x t.front t.took.0, c.lows x t.took.0.fit t.took.1);
      }

  abbrev Sayer : List Token → Parsed A → Type 0
  Sayer ts o =
      (front : List Token) (x : A) (w : List Token) → ts ≡ front ++ left_of o → Alike out looks fits row o front x w
      → Says low o x w front

  says_made : (ts : List Token) (o : Parsed A) → Sayer ts o
      → (front : List Token) (y : B) (w : List Token) → ts ≡ front ++ left_of (after o (λ x. pure (f x)))
      → Alike out2 looks fits2 row2 (after o (λ x. pure (f x))) front y w
      → Says low2 (after o (λ x. pure (f x))) y w front
  says_made ts o says front y w text a = by o says text a.seen
    where
      m : (x : A) × (y ≡ f x) × Is fits row x w
      m = c.from y w a.is

      outside : out m.0 a.behind
      outside =
          c.outside m.0 a.behind m.2.fit (subst (λ (z : B). out2 z a.behind) m.1 a.outside)

      by : (o : Parsed A) → Sayer ts o → ts ≡ front ++ left_of (after o (λ x. pure (f x)))
          → Seen looks (after o (λ x. pure (f x))) a.others → Says low2 (after o (λ x. pure (f x))) y w front
      by (Fails left false whole) s t g =
          s front m.0 w t
          (record { others = a.others; behind = a.behind; seen = g; is = m.2; outside = outside; text = a.text })
      by (Fails left true whole) s t g =
          λ fine. s front m.0 w t
          (record { others = a.others; behind = a.behind; seen = g; is = m.2; outside = outside; text = a.text })
          (c.back m.0 m.2.fit (subst low2 m.1 fine))
      by (Reads x left) s t g =
          let e = s front m.0 w t
          (record { others = a.others; behind = a.behind; seen = g; is = m.2; outside = outside; text = a.text }) in
          (m.1 ∙ ap f e.0, e.1)

  pub recast : IsRight low2 bound out2 looks fits2 row2 (r ⨟ λ x. pure (f x))
  recast = record {
    alive = begun_made [] right.alive;
    taken = λ ts le. taken_made ts (r ts) (right.taken ts le);
    says =
        λ ts front y w le text a. says_made ts (r ts)
        (λ front x w text a. right.says ts front x w le text a) front y w text a;
  }

-- ---- the same of the same values

-- a reader that reads the same
pub same_reader : {B : Type 0} (low : B → Type 0) (bound : ℕ) (out : B → List Token → Type 0) (looks : TokenKind → Bool)
    (fits : B → Type 0) (row : B → Parts) (r s : Reader B) → ((ts : List Token) → r ts ≡ s ts)
    → IsRight low bound out looks fits row r → IsRight low bound out looks fits row s
same_reader {B = B} low bound out looks fits row r s e h = record {
  alive = h.alive;
  taken = λ ts le. subst (λ (o : Parsed B). Taken low fits row o ts) (e ts) (h.taken ts le);
  says =
      λ ts. subst (λ (o : Parsed B). (front : List Token) (y : B) (w : List Token) → length ts ≤ bound → ts ≡ front
      ++ left_of o → Alike out looks fits row o front y w → Says low o y w front) (e ts) (h.says ts);
}

-- other rows of the values, spelled by the same tokens
pub recast_self : {B : Type 0} (bound : ℕ) (low low2 : B → Type 0) (out out2 : B → List Token → Type 0)
    (looks : TokenKind → Bool) (fits fits2 : B → Type 0) (row row2 : B → Parts) (r : Reader B)
    → Recast low low2 out out2 fits fits2 row row2 (λ y. y) → IsRight low bound out looks fits row r
    → IsRight low2 bound out2 looks fits2 row2 r
recast_self {B = B} bound low low2 out out2 looks fits fits2 row row2 r c right =
    same_reader low2 bound out2 looks fits2 row2 (r ⨟ λ y. pure y) r (λ ts. by (r ts))
    (recast bound low low2 out out2 looks fits fits2 row row2 (λ y. y) r c right)
  where
    by : (o : Parsed B) → after o (λ y. pure y) ≡ o
    by (Fails left deep whole) = refl
    by (Reads x left) = refl

-- the same values and rows, written otherwise
pub record Same {B : Type 0} (fits fits2 : B → Type 0) (row row2 : B → Parts) : Type 0 where
  pub to : (y : B) → fits y → fits2 y
  pub from : (y : B) → fits2 y → fits y
  pub rows : (y : B) → fits y → row y ≡ row2 y

pub same_recast : {B : Type 0} (low : B → Type 0) (out : B → List Token → Type 0) (fits fits2 : B → Type 0)
    (row row2 : B → Parts) → Same fits fits2 row row2 → Recast low low out out fits fits2 row row2 (λ y. y)
same_recast {B = B} low out fits fits2 row row2 s = record {
  to =
      λ y w i. record {
        fit = s.to y i.fit;
        levels = subst AreLevelled (s.rows y i.fit) i.levels;
        spelled = subst (λ (ps : Parts). AreSpelled ps w) (s.rows y i.fit) i.spelled;
      };
  from = λ y w i. (y, refl, back y w i (s.from y i.fit));
  lows = λ y fit l. l;
  back = λ y fit l. l;
  outside = λ y v fit o. o;
}
  where
    back : (y : B) (w : List Token) → Is fits2 row2 y w → fits y → Is fits row y w
    back y w i fit = record {
      fit = fit;
      levels = subst AreLevelled (sym (s.rows y fit)) i.levels;
      spelled = subst (λ (ps : Parts). AreSpelled ps w) (sym (s.rows y fit)) i.spelled;
    }

pub reshaped : {B : Type 0} (low : B → Type 0) (bound : ℕ) (out : B → List Token → Type 0) (looks : TokenKind → Bool)
    (fits fits2 : B → Type 0) (row row2 : B → Parts) (r : Reader B) → Same fits fits2 row row2
    → IsRight low bound out looks fits row r → IsRight low bound out looks fits2 row2 r
reshaped low bound out looks fits fits2 row row2 r s =
    recast_self bound low low out out looks fits fits2 row row2 r (same_recast low out fits fits2 row row2 s)

-- ---- by the next word

pub heads_agree : (test : TokenKind → Bool) (front left others : List Token) → Agree left others
    → heads test (front ++ left) ≡ heads test (front ++ others)
heads_agree test [] [] [] a = refl
heads_agree test [] [] (q ∷ others) a = absurd a
heads_agree test [] (p ∷ left) [] a = absurd a
heads_agree test [] (p ∷ left) (q ∷ others) a = ap (λ (t : Token). test t.kind) a
heads_agree test (p ∷ front) left others a = refl

-- the next token is seen at the least
pub next_seen : {B : Type 0} (looks : TokenKind → Bool) (o : Parsed B) (others : List Token) → Seen looks o others
    → Agree (left_of o) others
next_seen looks (Fails l deep whole) others seen = seen
next_seen looks (Reads x l) others seen = by l others seen
  where
    by : (l others : List Token) → AgreePast looks l others → Agree l others
    by [] [] g = tt
    by [] (q ∷ qs) g = g
    by (p ∷ ps) [] g = g
    by (p ∷ ps) (q ∷ qs) g = g.0

pub record Decides {B : Type 0} (out : B → List Token → Type 0) (test : TokenKind → Bool)
    (fits yes_fits no_fits : B → Type 0) (row : B → Parts) : Type 0 where
  pub either : (y : B) → fits y → yes_fits y ⊎ no_fits y
  pub from_yes : (y : B) → yes_fits y → fits y
  pub from_no : (y : B) → no_fits y → fits y
  pub on : (y : B) (w v : List Token) → yes_fits y → AreSpelled (row y) w → out y v
      → heads test (w ++ v) ≡ true
  pub off : (y : B) (w v : List Token) → no_fits y → AreSpelled (row y) w → out y v
      → heads test (w ++ v) ≡ false

pub refit : {B : Type 0} (fits fits2 : B → Type 0) (row : B → Parts) (y : B) (w : List Token) → fits2 y
    → Is fits row y w
    → Is fits2 row y w
refit fits fits2 row y w fit i = record { fit = fit; levels = i.levels; spelled = i.spelled }

pub widened : {B : Type 0} (low fits fits2 : B → Type 0) (row : B → Parts) (o : Parsed B) (u : List Token)
    → ((y : B) → fits y → fits2 y) → Took low fits row o u → Took low fits2 row o u
widened low fits fits2 row (Fails left false whole) u f t =
    record {
      value = t.value;
      more = t.more;
      is = refit fits fits2 row t.value (u ++ t.more) (f t.value t.is.fit) t.is;
    }
widened low fits fits2 row (Fails left true whole) u f t =
    record {
      next = t.next;
      after = t.after;
      text = t.text;
      begun =
          record {
            value = t.begun.value;
            more = t.begun.more;
            is = refit fits fits2 row t.begun.value ((u ++ t.next ∷ []) ++ t.begun.more)
                (f t.begun.value t.begun.is.fit) t.begun.is;
          };
    }
widened low fits fits2 row (Reads y left) u f t = (refit fits fits2 row y u (f y t.0.fit) t.0, t.1)

module _ {B : Type 0} (low : B → Type 0) (bound : ℕ) (out : B → List Token → Type 0) (looks test : TokenKind → Bool)
    (fits yes_fits no_fits : B → Type 0) (row : B → Parts) (a b : Reader B)
    (d : Decides out test fits yes_fits no_fits row) (ra : IsRight low bound out looks yes_fits row a)
    (rb : IsRight low bound out looks no_fits row b) where
  clash : (c : Bool) → c ≡ true → c ≡ false → ⊥
  clash c x y = absurd cc

  taken_by : (ts : List Token) → length ts ≤ bound → (c : Bool) → Taken low fits row (if c then a ts else b ts) ts
  taken_by ts le true =
      let t = ra.taken ts le in
      record { front = t.front; text = t.text; took = widened low yes_fits fits row (a ts) t.front d.from_yes t.took }
  taken_by ts le false =
      let t = rb.taken ts le in
      record { front = t.front; text = t.text; took = widened low no_fits fits row (b ts) t.front d.from_no t.took }

  heads_are : (ts front : List Token) (o : Parsed B) (y : B) (w : List Token) → ts ≡ front ++ left_of o
      → (x : Alike out looks fits row o front y w) → heads test ts ≡ heads test (w ++ x.behind)
  heads_are ts front o y w text x =
      ap (heads test) text ∙ heads_agree test front (left_of o) x.others (next_seen looks o x.others x.seen)
      ∙ ap (heads test) (sym x.text)

  says_by : (ts : List Token) → length ts ≤ bound → (c : Bool) → heads test ts ≡ c
      → (front : List Token) (y : B) (w : List Token) → ts ≡ front ++ left_of (if c then a ts else b ts)
      → Alike out looks fits row (if c then a ts else b ts) front y w
      → Says low (if c then a ts else b ts) y w front
  says_by ts le true e front y w text x = elim (d.either y x.is.fit) [
    | inl f ↦ ra.says ts front y w le text
        (record {
          others = x.others;
          behind = x.behind;
          seen = x.seen;
          is = refit fits yes_fits row y w f x.is;
          outside = x.outside;
          text = x.text;
        })
    | inr f ↦ absurd (clash (heads test ts) e
        (heads_are ts front (a ts) y w text x ∙ d.off y w x.behind f x.is.spelled x.outside))
  ]
  says_by ts le false e front y w text x = elim (d.either y x.is.fit) [
    | inl f ↦ absurd (clash (heads test ts) (heads_are ts front (b ts) y w text x
        ∙ d.on y w x.behind f x.is.spelled x.outside) e)
    | inr f ↦ rb.says ts front y w le text
        (record {
          others = x.others;
          behind = x.behind;
          seen = x.seen;
          is = refit fits no_fits row y w f x.is;
          outside = x.outside;
          text = x.text;
        })
  ]

  pub choice_right : IsRight low bound out looks fits row (by_word test a b)
  choice_right = record {
    alive =
        let x = ra.alive in
        record {
          value = x.value;
          more = x.more;
          is = refit yes_fits fits row x.value x.more
              (d.from_yes x.value x.is.fit) x.is;
        };
    taken = λ ts le. taken_by ts le (heads test ts);
    says = λ ts front y w le text x. says_by ts le (heads test ts) refl front y w text x;
  }
