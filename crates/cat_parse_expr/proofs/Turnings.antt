-- Turns that begin with one word.
use Rattle.std.proofs.Common.{◌≡◌, ℕ, ◌≤◌, ◌<◌, Bool, true, false, if◌then◌else◌, List, [], ◌∷◌, ◌++◌, length, Option}
use Rattle.std.proofs.Common.{Some, None, refl, sym, ap, subst, ◌∙◌, arith, inl, ◌⊎◌, nat_eq, ◌&&◌}
use Rattle.cat_lex.specs.declared.symbol.Symbol.TheVariants as symbol
use Rattle.cat_parse_expr.proofs.Common.{Pos, Token, TokenKind, Parts, AreSpelled, Behind, Cue, Measured, Parsed, Fails}
use Rattle.cat_parse_expr.proofs.Common.{Reads, Reader, ◌⨟◌, pure, after, left_of, heads, one, made_of, fallen}
use Rattle.cat_parse_expr.proofs.Common.{behind_whole, kind_of, cue_is, word_of, «word», is_taken, MayFollow, Agree}
use Rattle.cat_parse_expr.proofs.Common.{AgreePast, goes_on, is_sign}
use Rattle.cat_parse_expr.proofs.Chosen.{fallen_mapped}
use Rattle.cat_parse_expr.proofs.Follows.{not_taken, IsOwn, own_not}
use Rattle.cat_parse_expr.proofs.Leaves.{cue_found, cue_self}
use Rattle.cat_parse_expr.proofs.Sequel.{Past}
use Rattle.cat_parse_expr.proofs.Sequels.{no_longer}
use Rattle.cat_parse_expr.proofs.Wholes.{behind_right}
use Rattle.cat_parse_expr.proofs.Read.{IsRead}
use Rattle.cat_parse_expr.proofs.Lists as lists
use Rattle.cat_parse_expr.proofs.Loops as loops

-- ---- the next word

pub heads_begin : (c : Cue) {X : List Token → Type 0} (w v : List Token)
    → ((t : Token) × (more : List Token) × (w ≡ t ∷ more) × (t.kind ≡ kind_of c) × X more)
    → heads (cue_is c) (w ++ v) ≡ true
heads_begin c w v s =
    ap (λ (u : List Token). heads (cue_is c) (u ++ v)) s.2 ∙ ap (cue_is c) s.3 ∙ cue_self c

pub heads_other : (c d : Cue) (v : List Token) → cue_is d (kind_of c) ≡ false → heads (cue_is c) v ≡ true
    → heads (cue_is d) v ≡ false
heads_other c d [] e h = refl
heads_other c d (p ∷ ts) e h = ap (cue_is d) (cue_found c p.kind h) ∙ e

pub heads_follow : (b : Behind) (k : ℕ) (y : Measured) (c : Cue) (v : List Token) → is_taken (kind_of c) ≡ false
    → heads (cue_is c) v ≡ true → MayFollow b k y v
heads_follow b k y c [] e h = tt
heads_follow b k y c (p ∷ ts) e h =
    not_taken b k y.strength y.in_match p.kind ts (ap is_taken (cue_found c p.kind h) ∙ e)

pub heads_seen : (looks test : TokenKind → Bool) (ls others : List Token) → AgreePast looks ls others
    → heads test ls ≡ heads test others
heads_seen looks test [] [] g = refl
heads_seen looks test [] (q ∷ qs) g = absurd g
heads_seen looks test (p ∷ ps) [] g = absurd g
heads_seen looks test (p ∷ ps) (q ∷ qs) g = ap (λ (t : Token). test t.kind) g.0

-- a word that would have been taken doesn't follow
pub own_heads : (b : Behind) (k : ℕ) (y : Measured) (c : Cue) (v : List Token) → IsOwn (kind_of c)
    → (nat_eq k 9 && is_sign symbol.Comma (kind_of c)) ≡ false
    → MayFollow b k y v ⊎ (goes_on b k y v ≡ true) → heads (cue_is c) v ≡ false
own_heads b k y c [] own comma o = refl
own_heads b k y c (p ∷ ts) own comma o = by (cue_is c p.kind) refl
  where
    by : (z : Bool) → cue_is c p.kind ≡ z → cue_is c p.kind ≡ false
    by true e =
        let is = cue_found c p.kind e in
        absurd (own_not b k y p ts (subst IsOwn (sym is) own)
        (ap (λ (z : TokenKind). nat_eq k 9 && is_sign symbol.Comma z) is ∙ comma) o)
    by false e = e

-- ---- how far they read

pub left_mapped : {T D : Type 0} (g : T → D) (o : Parsed T) (d : Parsed D) → d ≡ after o (λ y. pure (g y))
    → left_of d ≡ left_of o
left_mapped {D = D} g (Fails left deep whole) d e = ap (λ (z : Parsed D). left_of z) e
left_mapped {D = D} g (Reads x left) d e = ap (λ (z : Parsed D). left_of z) e

pub left_fallen : {A : Type 0} (ts : List Token) (o : Parsed A) → left_of (fallen ts o) ≡ left_of o
left_fallen ts (Fails left deep whole) = refl
left_fallen ts (Reads x left) = refl

pub shrinks_after : {A B : Type 0} (o : Parsed A) (r : A → Reader B) (n : ℕ) → length (left_of o) ≤ n
    → ((x : A) (ts : List Token) → length (left_of (r x ts)) ≤ length ts) → length (left_of (after o r)) ≤ n
shrinks_after (Fails left deep whole) r n le h = le
shrinks_after (Reads x left) r n le h = omega (arith, le, h x left)

pub shrinks_one : {A : Type 0} (take : Token → Option A) (ts : List Token) → length (left_of (one take ts)) ≤ length ts
shrinks_one take [] = omega arith
shrinks_one {A = A} take (p ∷ ts) = by (take p)
  where
    by : (o : Option A) → length (left_of (made_of o (p ∷ ts) ts)) ≤ length (p ∷ ts)
    by None = omega arith
    by (Some x) = omega arith

-- a token that is there is taken
pub moves_one : {A B : Type 0} (take : Token → Option A) (r : A → Reader B) (ts : List Token)
    → ((x : A) (us : List Token) → length (left_of (r x us)) ≤ length us)
    → (heads_some : one take ts ≡ Fails ts false None → ⊥)
    → length (left_of ((one take ⨟ r) ts)) < length ts
moves_one take r [] h some = absurd (some refl)
moves_one {A = A} take r (p ∷ ts) h some = by (take p) refl
  where
    by : (o : Option A) → take p ≡ o → length (left_of (after (made_of o (p ∷ ts) ts) r)) < length (p ∷ ts)
    by None e = absurd (some (ap (λ (o : Option A). made_of o (p ∷ ts) ts) e))
    by (Some x) e = omega (arith, h x ts)

pub takes_one : {A B : Type 0} (take : Token → Option A) (r : A → Reader B) (ts left : List Token) (y : B)
    → ((x : A) (us : List Token) → length (left_of (r x us)) ≤ length us) → (one take ⨟ r) ts ≡ Reads y left
    → length left < length ts
takes_one take r [] left y h e = absurd cc
takes_one {A = A} {B = B} take r (p ∷ ts) left y h e = by (take p) e
  where
    by : (o : Option A) → after (made_of o (p ∷ ts) ts) r ≡ Reads y left → length left < length (p ∷ ts)
    by None e = absurd cc
    by (Some x) e = omega (arith, h x ts, ap (λ (z : Parsed B). length (left_of z)) e)

pub word_there : (c : Cue) (ts : List Token) → heads (cue_is c) ts ≡ true → «word» c ts ≡ Fails ts false None → ⊥
word_there c [] h e = absurd cc
word_there c (p ∷ ts) h e = absurd (by (cue_is c p.kind) h e)
  where
    by : (b : Bool) → b ≡ true → made_of (if b then Some p.pos else None) (p ∷ ts) ts ≡ Fails (p ∷ ts) false None → ⊥
    by true h e = absurd cc
    by false h e = absurd cc

-- what a reader of parts leaves
pub read_shrinks : {T D : Type 0} {g : T → D} {K F C : Type 0} {low : T → Type 0} {out : T → List Token → Type 0}
    {looks : TokenKind → Bool} {fits : T → Type 0} {row : T → Parts} {s : Reader D}
    → IsRead g K F C low out looks fits row s → F → C → (ts : List Token) → length (left_of (s ts)) ≤ length ts
read_shrinks {g = g} {low = low} {fits = fits} {row = row} {s = s} h f c ts =
    omega (
      arith,
      no_longer low fits row (h.reader ts) ts ((h.right f c (length ts)).taken ts (omega arith)),
      ap length (left_mapped g (h.reader ts) (s ts) (h.maps ts)),
    )

past_less : {B : Type 0} (near looks : TokenKind → Bool) (o : Parsed B) (ts : List Token)
    → (heads near ts ≡ true → length (left_of o) < length ts) → Past near looks o ts
past_less near looks (Fails left deep whole) ts h = h
past_less near looks (Reads x left) ts h = λ e. inl (h e)

-- what is looked past is a word that comes next
pub past_word : {B : Type 0} (c : Cue) (near looks : TokenKind → Bool) (r : Pos → Reader B)
    → ((k : TokenKind) → near k ≡ true → cue_is c k ≡ true)
    → ((x : Pos) (us : List Token) → length (left_of (r x us)) ≤ length us) → (ts : List Token)
    → Past near looks ((«word» c ⨟ r) ts) ts
past_word c near looks r is shrinks ts =
    past_less near looks ((«word» c ⨟ r) ts) ts
    (λ e. moves_one (word_of c) r ts shrinks (word_there c ts (there ts e)))
  where
    there : (ts : List Token) → heads near ts ≡ true → heads (cue_is c) ts ≡ true
    there [] e = absurd cc
    there (p ∷ us) e = is p.kind e

-- ---- turns

module _ {S X : Type 0} {K : Type 0} (l : loops.Loop S X) (c : Cue) (rest : S → Pos → Reader S)
    (read : (s : S) → IsRead (l.put s) K (l.Good s × ((us : List Token) × (l.goes s us ≡ true))) (l.Low s)
    (λ x. l.Low (l.put s x)) (λ x v. l.Out (l.put s x) v ⊎ l.More (l.put s x) v) l.looks (l.FitsOne s) l.row_one
    («word» c ⨟ rest s)) where
  -- what is asked of turns that begin with that word
  pub record Worded : Type 0 where
    pub starts : (s : S) (ts : List Token) → l.goes s ts ≡ true → heads (cue_is c) ts ≡ true
    pub shrinks : (s : S) (p : Pos) (ts : List Token) → length (left_of (rest s p ts)) ≤ length ts
    pub begins : (s : S) (x : X) (w v : List Token) → l.FitsOne s x → AreSpelled (l.row_one x) w → l.More s (w ++ v)
    pub leads : (s : S) (v : List Token) → l.More s v → l.goes s v ≡ true
    pub stops : (s : S) (v : List Token) → l.Out s v → l.goes s v ≡ false
    pub ends : (s : S) → l.goes s [] ≡ false
    pub sees : (s : S) (p : Token) (ps qs : List Token) → Agree ps qs → l.goes s (p ∷ ps) ≡ l.goes s (p ∷ qs)
    pub sees_past : (s : S) (ls others : List Token) → AgreePast l.looks ls others → l.goes s ls ≡ l.goes s others
    pub grows : (s : S) (x : X) → l.Low (l.put s x) → l.Low s
    pub stays : (s : S) (x : X) → l.FitsOne s x → l.Good s → l.Good (l.put s x)

  module _ (w : Worded) where
    moved : (s : S) (ts : List Token) → l.goes s ts ≡ true → length (left_of ((read s).reader ts)) < length ts
    moved s ts h =
        omega (
          arith,
          moves_one (word_of c) (rest s) ts (w.shrinks s) (word_there c ts (w.starts s ts h)),
          ap length (left_mapped (l.put s) ((read s).reader ts) ((«word» c ⨟ rest s) ts) ((read s).maps ts)),
        )

    took : (s : S) (ts : List Token) (x : X) (left : List Token) → (read s).reader ts ≡ Reads x left
        → length left < length ts
    took s ts x left e =
        takes_one (word_of c) (rest s) ts left (l.put s x) (w.shrinks s)
        ((read s).maps ts ∙ ap (λ (o : Parsed X). after o (λ y. pure (l.put s y))) e)

    abbrev pub inner : S → Reader X
    inner s = (read s).reader

    pub plain_turning : loops.Turning l inner
    plain_turning = record {
      right = λ s bound good low us e. (read s).right (good, (us, e)) low bound;
      begins = w.begins;
      leads = w.leads;
      stops = w.stops;
      ends = w.ends;
      sees = w.sees;
      sees_past = w.sees_past;
      moves = moved;
      takes = took;
      grows = w.grows;
      stays = w.stays;
    }

    pub plain_same : (s : S) (ts : List Token) → («word» c ⨟ rest s) ts ≡ lists.turn l.goes inner l.put s ts
    plain_same s ts = (read s).maps ts

    -- the same, each behind something whole
    abbrev pub outer : S → Reader X
    outer s = behind_whole (inner s)

    fallen_reads : {A : Type 0} (ts : List Token) (o : Parsed A) (x : A) (left : List Token) → fallen ts o
        ≡ Reads x left → o ≡ Reads x left
    fallen_reads ts (Fails us deep whole) x left e = absurd cc
    fallen_reads ts (Reads y us) x left e = e

    pub behind_turning : loops.Turning l outer
    behind_turning = record {
      right =
          λ s bound good low us e. behind_right (λ x. l.Low (l.put s x))
          (λ x v. l.Out (l.put s x) v ⊎ l.More (l.put s x) v) l.looks (l.FitsOne s) l.row_one bound (inner s)
          ((read s).right (good, (us, e)) low bound);
      begins = w.begins;
      leads = w.leads;
      stops = w.stops;
      ends = w.ends;
      sees = w.sees;
      sees_past = w.sees_past;
      moves = λ s ts h. omega (arith, moved s ts h, ap length (left_fallen ts (inner s ts)));
      takes = λ s ts x left e. took s ts x left (fallen_reads ts (inner s ts) x left e);
      grows = w.grows;
      stays = w.stays;
    }

    pub behind_same : (s : S) (ts : List Token)
        → behind_whole («word» c ⨟ rest s) ts ≡ lists.turn l.goes outer l.put s ts
    behind_same s ts = fallen_mapped (l.put s) ts (inner s ts) ((«word» c ⨟ rest s) ts) ((read s).maps ts)
