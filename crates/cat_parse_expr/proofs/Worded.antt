-- Readers that begin with a word.
use Rattle.std.proofs.Common.{◌≡◌, ℕ, zero, suc, ◌≤◌, Bool, false, List, [], ◌∷◌, ◌++◌, Option, Some, None, refl, sym}
use Rattle.std.proofs.Common.{ap, subst, ◌∙◌, arith}
use Rattle.cat_lex.specs.declared.token.TokenKind.TheVariants as kind
use Rattle.cat_parse_expr.specs.Cues.{lower, upper}
use Rattle.cat_parse_expr.proofs.Common.{Pos, Token, TokenKind, Name, Parts, Word, Terminal, At, Anywhere, Cue, Parsed}
use Rattle.cat_parse_expr.proofs.Common.{Reader, Fails, Reads, left_of, after, ◌⨟◌, made_of, one, too_high, with_room}
use Rattle.cat_parse_expr.proofs.Common.{Agree, Begun, Is, Taken, Says, Alike, IsRight, ReadsAsFar, Stood, KeepsWhole}
use Rattle.cat_parse_expr.proofs.Common.{kind_of, word_of, lower_of, upper_of, «word»}
use Rattle.cat_parse_expr.proofs.Joining.{no_front}
use Rattle.cat_parse_expr.proofs.Token.{Terminals, heads_same}
use Rattle.cat_parse_expr.proofs.Leaves.{word_marks, word_at_marks, lower_marks, upper_marks}
use Rattle.cat_parse_expr.proofs.Read.{IsRead, mapped, token_read, token_alive}
use Rattle.cat_parse_expr.proofs.Shaping.{reshape_read}

-- ---- a word that nothing can follow where there is no room for a part

one_reads : {A : Type 0} (take : Token → Option A) (ts left : List Token) (x : A) → one take ts ≡ Reads x left
    → (p : Token) × (ts ≡ p ∷ left) × (take p ≡ Some x)
one_reads take [] left x e = absurd cc
one_reads {A = A} take (p ∷ ts) left x e = by (take p) refl e
  where
    by : (o : Option A) → take p ≡ o → made_of o (p ∷ ts) ts ≡ Reads x left
        → (q : Token) × (p ∷ ts ≡ q ∷ left) × (take q ≡ Some x)
    by None e h = absurd cc
    by (Some y) e h = (
      p,
      ap (λ (o : Parsed A). p ∷ left_of o) h,
      e ∙ ap (λ (o : Parsed A). elim o [ Fails l d f ↦ Some y | Reads z l ↦ Some z ]) h,
    )

one_fails : {A : Type 0} (take : Token → Option A) (ts left : List Token) (deep : Bool) (whole : Option (List Token))
    → one take ts ≡ Fails left deep whole → (one take ts ≡ Fails ts false None)
    × ((p : Token) (us : List Token) → ts ≡ p ∷ us → take p ≡ None)
one_fails take [] left deep whole e = (refl, λ p us h. absurd cc)
one_fails {A = A} take (p ∷ ts) left deep whole e = by (take p) refl e
  where
    by : (o : Option A) → take p ≡ o → made_of o (p ∷ ts) ts ≡ Fails left deep whole
        → (made_of (take p) (p ∷ ts) ts ≡ Fails (p ∷ ts) false None)
        × ((q : Token) (us : List Token) → p ∷ ts ≡ q ∷ us → take q ≡ None)
    by None e h = (
      ap (λ (o : Option A). made_of o (p ∷ ts) ts) e,
      λ q us same. ap take (sym (heads_same p q ts us same)) ∙ e,
    )
    by (Some x) e h = absurd cc

module _ {A T : Type 0} (low : T → Type 0) (out : T → List Token → Type 0) (looks : TokenKind → Bool)
    (fits : T → Type 0)
    (terminal : T → Terminal) (rest : T → Parts) (take : Token → Option A) (at : A → T → Type 0) (r : A → Reader T)
    (m : Terminals fits terminal take at)
    (begun : (ts left : List Token) (x : A) → one take ts ≡ Reads x left
    → (p : Token) × (ts ≡ p ∷ left) × Begun fits (λ y. Word (terminal y) (rest y)) (p ∷ []))
    (alive : Begun fits (λ y. Word (terminal y) (rest y)) [])
    (high : (y : T) → fits y → low y → ⊥) where
  abbrev row : T → Parts
  row y = Word (terminal y) (rest y)

  abbrev blocked : List Token → Parsed A → Parsed T
  blocked ts o = after (too_high ts o) r

  -- a value begins with a token that is taken
  taken_first : (ts : List Token) (y : T) (w v : List Token) → ts ≡ w ++ v → Is fits row y w
      → ((p : Token) (us : List Token) → ts ≡ p ∷ us → take p ≡ None) → ⊥
  taken_first ts y w v text i none =
      let s = i.spelled in
      m.none s.0 y (none s.0 (s.1 ++ v) (text ∙ ap (λ (u : List Token). u ++ v) s.2)) i.fit s.3

  taken_by : (ts : List Token) (o : Parsed A) → one take ts ≡ o → Taken low fits row (blocked ts o) ts
  taken_by ts (Fails left deep whole) e =
      subst (λ (o : Parsed A). Taken low fits row (blocked ts o) ts)
      (sym (one_fails take ts left deep whole e).0 ∙ e)
      (record { front = []; text = refl; took = alive })
  taken_by ts (Reads x left) e =
      let b = begun ts left x e in
      record {
        front = [];
        text = refl;
        took = record { next = b.0; after = left; text = b.1; begun = b.2 };
      }

  abbrev Sayer : List Token → Parsed T → Type 0
  Sayer ts o =
      (front : List Token) (y : T) (w : List Token) → ts ≡ front ++ left_of o → Alike out looks fits row o front y w
      → Says low o y w front

  unread : (ts others : List Token) → Agree ts others
      → ((p : Token) (us : List Token) → ts ≡ p ∷ us → take p ≡ None) → (p : Token) (us : List Token) → others ≡ p ∷ us
      → take p ≡ None
  unread [] [] g none p us e = absurd cc
  unread [] (q ∷ qs) g none p us e = absurd g
  unread (t ∷ ts) [] g none p us e = absurd g
  unread (t ∷ ts) (q ∷ qs) g none p us e =
      ap take (sym (g ∙ heads_same q p qs us e)) ∙ none t ts refl

  says_fails : (ts : List Token) → ((p : Token) (us : List Token) → ts ≡ p ∷ us → take p ≡ None)
      → Sayer ts (Fails ts false None)
  says_fails ts none front y w text a =
      taken_first a.others y w a.behind
      (sym (a.text ∙ ap (λ (u : List Token). u ++ a.others) (no_front front ts text))) a.is
      (unread ts a.others a.seen none)

  says_by : (ts : List Token) (o : Parsed A) → one take ts ≡ o → Sayer ts (blocked ts o)
  says_by ts (Fails left deep whole) e =
      let f = one_fails take ts left deep whole e in
      subst (λ (o : Parsed A). Sayer ts (blocked ts o)) (sym f.0 ∙ e) (says_fails ts f.1)
  says_by ts (Reads x left) e = λ front y w text a. high y a.is.fit

  abbrev Longest : List Token → Parsed T → Type 0
  Longest ts o =
      (y : T) (w v : List Token) → ts ≡ w ++ v → Is fits row y w → ReadsAsFar low o y v

  longest_by : (ts : List Token) (o : Parsed A) → one take ts ≡ o → Longest ts (blocked ts o)
  longest_by ts (Fails left deep whole) e =
      λ y w v text i. absurd (taken_first ts y w v text i (one_fails take ts left deep whole e).1)
  longest_by ts (Reads x left) e = λ y w v text i. high y i.fit

  stood_by : (ts : List Token) (o : Parsed A) → one take ts ≡ o → Stood low fits row (blocked ts o) ts
  stood_by ts (Fails left deep whole) e =
      subst (λ (o : Parsed A). Stood low fits row (blocked ts o) ts)
      (sym (one_fails take ts left deep whole e).0 ∙ e) tt
  stood_by ts (Reads x left) e = tt

  pub blocked_right : (bound : ℕ) → IsRight low bound out looks fits row (with_room zero (one take) ⨟ r)
  blocked_right bound = record {
    alive = alive;
    taken = λ ts le. taken_by ts (one take ts) refl;
    says = λ ts front y w le text a. says_by ts (one take ts) refl front y w text a;
  }

  pub blocked_keeps : (bound : ℕ) → KeepsWhole low bound fits row (with_room zero (one take) ⨟ r)
  blocked_keeps bound = record {
    longest = λ ts y w v le text i. longest_by ts (one take ts) refl y w v text i;
    stood = λ ts le. stood_by ts (one take ts) refl;
  }

first_begun : {A T : Type 0} (fits : T → Type 0) (terminal : T → Terminal) (rest : T → Parts) (take : Token → Option A)
    (at : A → T → Type 0) (m : Terminals fits terminal take at)
    → ((x : A) → Begun (λ y. fits y × at x y) rest []) → (ts left : List Token) (x : A) → one take ts ≡ Reads x left
    → (p : Token) × (ts ≡ p ∷ left) × Begun fits (λ y. Word (terminal y) (rest y)) (p ∷ [])
first_begun fits terminal rest take at m alive ts left x e =
    let o = one_reads take ts left x e in
    let b = alive x in (
      o.0,
      o.1,
      record {
        value = b.value;
        more = b.more;
        is =
            record {
              fit = b.is.fit.0;
              levels = b.is.levels;
              spelled = (o.0, b.more, refl, m.is o.0 x b.value o.2 b.is.fit.0 b.is.fit.1, b.is.spelled);
            };
      },
    )

-- with what is there in front of it
pub given_read : {T D : Type 0} {g : T → D} {K F C : Type 0} {low : T → Type 0} {out : T → List Token → Type 0}
    {looks : TokenKind → Bool} {fits : T → Type 0} {row : T → Parts} {s : Reader D} (P : Type 0) → P
    → IsRead g K F (C × P) low out looks fits row s → IsRead g K F C low out looks fits row s
given_read P p h = record {
  reader = h.reader;
  maps = h.maps;
  alive = h.alive;
  right = λ f c bound. h.right f (c, p) bound;
  keeps = λ k f c bound. h.keeps k f (c, p) bound;
}

pub room_read : {A T D : Type 0} {g : T → D} {K F C : Type 0} {low : T → Type 0} {out : T → List Token → Type 0}
    {looks : TokenKind → Bool} {fits : T → Type 0} (room : ℕ) (terminal : T → Terminal) (rest : T → Parts)
    (take : Token → Option A) (at : A → T → Type 0) (s : A → Reader D) → Terminals fits terminal take at
    → (room ≡ 0 → F → C → (y : T) → fits y → low y → ⊥)
    → ((x : A) → IsRead g K F (C × (1 ≤ room)) low out looks (λ y. fits y × at x y) rest (s x))
    → IsRead g K F C low out looks fits (λ y. Word (terminal y) (rest y)) (with_room room (one take) ⨟ s)
room_read (suc room) terminal rest take at s m high next =
    token_read terminal rest take at s m (λ x. given_read (1 ≤ suc room) (omega arith) (next x))
room_read {g = g} {low = low} {out = out} {looks = looks} {fits = fits} zero terminal rest take at s m high next =
    record {
      reader = with_room zero (one take) ⨟ λ x. (next x).reader;
      maps = λ ts. mapped g (with_room zero (one take) ts) (λ x. (next x).reader) s (λ x ts. (next x).maps ts);
      alive = λ f. token_alive low 0 fits terminal rest take at (λ x. (next x).reader) m ((next m.made).alive f);
      right =
          λ f c bound. blocked_right low out looks fits terminal rest take at (λ x. (next x).reader) m
          (first_begun fits terminal rest take at m (λ x. (next x).alive f))
          (token_alive low 0 fits terminal rest take at (λ x. (next x).reader) m ((next m.made).alive f))
          (high refl f c)
          bound;
      keeps =
          λ k f c bound. blocked_keeps low out looks fits terminal rest take at (λ x. (next x).reader) m
          (first_begun fits terminal rest take at m (λ x. (next x).alive f))
          (token_alive low 0 fits terminal rest take at (λ x. (next x).reader) m ((next m.made).alive f))
          (high refl f c)
          bound;
    }

-- ---- by what kind of word it is

module _ {T D : Type 0} {g : T → D} {K F C : Type 0} {low : T → Type 0} {out : T → List Token → Type 0}
    {looks : TokenKind → Bool} {fits : T → Type 0} where
  -- a word, wherever it stands
  pub word_read : (c : Cue) (rest : T → Parts) (s : Pos → Reader D)
      → ((p : Pos) → IsRead g K F C low out looks fits rest (s p))
      → IsRead g K F C low out looks fits (λ y. Word (Anywhere (kind_of c)) (rest y)) («word» c ⨟ s)
  word_read c rest s next =
      token_read (λ y. Anywhere (kind_of c)) rest (word_of c) (λ x y. Unit {0}) s (word_marks c fits)
      (λ p. reshape_read fits (λ y. fits y × Unit {0}) rest rest (s p)
      (record { to = λ y f. (f, tt); from = λ y f. f.0; rows = λ y f. refl }) (next p))

  -- a word whose position is kept
  pub word_at_read : (c : Cue) (at : T → Pos) (rest : T → Parts) (s : Pos → Reader D)
      → ((p : Pos) → IsRead g K F C low out looks (λ y. fits y × (at y ≡ p)) rest (s p))
      → IsRead g K F C low out looks fits (λ y. Word (At (kind_of c) (at y)) (rest y)) («word» c ⨟ s)
  word_at_read c at rest s next =
      token_read (λ y. At (kind_of c) (at y)) rest (word_of c) (λ x y. at y ≡ x) s (word_at_marks c fits at) next

  pub lower_read : (name : T → Name) (rest : T → Parts) (s : Name → Reader D)
      → ((x : Name) → IsRead g K F C low out looks (λ y. fits y × (name y ≡ x)) rest (s x))
      → IsRead g K F C low out looks fits (λ y. Word (At (kind.Lower (name y).text) (name y).pos) (rest y)) (lower ⨟ s)
  lower_read name rest s next =
      token_read (λ y. At (kind.Lower (name y).text) (name y).pos) rest lower_of (λ x y. name y ≡ x) s
      (lower_marks fits name) next

  pub upper_read : (name : T → Name) (rest : T → Parts) (s : Name → Reader D)
      → ((x : Name) → IsRead g K F C low out looks (λ y. fits y × (name y ≡ x)) rest (s x))
      → IsRead g K F C low out looks fits (λ y. Word (At (kind.Upper (name y).text) (name y).pos) (rest y)) (upper ⨟ s)
  upper_read name rest s next =
      token_read (λ y. At (kind.Upper (name y).text) (name y).pos) rest upper_of (λ x y. name y ≡ x) s
      (upper_marks fits name) next

  -- a word that a part follows, with its position, or wherever it stands
  pub opened_at_read : (room : ℕ) (c : Cue) (at : T → Pos) (rest : T → Parts) (s : Pos → Reader D)
      → (room ≡ 0 → F → C → (y : T) → fits y → low y → ⊥)
      → ((p : Pos) → IsRead g K F (C × (1 ≤ room)) low out looks (λ y. fits y × (at y ≡ p)) rest (s p))
      → IsRead g K F C low out looks fits (λ y. Word (At (kind_of c) (at y)) (rest y)) (with_room room («word» c) ⨟ s)
  opened_at_read room c at rest s high next =
      room_read room (λ y. At (kind_of c) (at y)) rest (word_of c) (λ x y. at y ≡ x) s (word_at_marks c fits at) high
      next

  pub opened_read : (room : ℕ) (c : Cue) (rest : T → Parts) (s : Pos → Reader D)
      → (room ≡ 0 → F → C → (y : T) → fits y → low y → ⊥)
      → ((p : Pos) → IsRead g K F (C × (1 ≤ room)) low out looks fits rest (s p))
      → IsRead g K F C low out looks fits (λ y. Word (Anywhere (kind_of c)) (rest y)) (with_room room («word» c) ⨟ s)
  opened_read room c rest s high next =
      room_read room (λ y. Anywhere (kind_of c)) rest (word_of c) (λ x y. Unit {0}) s (word_marks c fits) high
      (λ p. reshape_read fits (λ y. fits y × Unit {0}) rest rest (s p)
      (record { to = λ y f. (f, tt); from = λ y f. f.0; rows = λ y f. refl }) (next p))

  pub lower_room_read : (room : ℕ) (name : T → Name) (rest : T → Parts) (s : Name → Reader D)
      → (room ≡ 0 → F → C → (y : T) → fits y → low y → ⊥)
      → ((x : Name) → IsRead g K F (C × (1 ≤ room)) low out looks (λ y. fits y × (name y ≡ x)) rest (s x))
      → IsRead g K F C low out looks fits (λ y. Word (At (kind.Lower (name y).text) (name y).pos) (rest y))
      (with_room room lower ⨟ s)
  lower_room_read room name rest s high next =
      room_read room (λ y. At (kind.Lower (name y).text) (name y).pos) rest lower_of (λ x y. name y ≡ x) s
      (lower_marks fits name) high next

  pub upper_room_read : (room : ℕ) (name : T → Name) (rest : T → Parts) (s : Name → Reader D)
      → (room ≡ 0 → F → C → (y : T) → fits y → low y → ⊥)
      → ((x : Name) → IsRead g K F (C × (1 ≤ room)) low out looks (λ y. fits y × (name y ≡ x)) rest (s x))
      → IsRead g K F C low out looks fits (λ y. Word (At (kind.Upper (name y).text) (name y).pos) (rest y))
      (with_room room upper ⨟ s)
  upper_room_read room name rest s high next =
      room_read room (λ y. At (kind.Upper (name y).text) (name y).pos) rest upper_of (λ x y. name y ≡ x) s
      (upper_marks fits name) high next
