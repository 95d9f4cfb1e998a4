-- Fields of literals and of scope calls.
use Rattle.std.proofs.Common.{◌≡◌, ℕ, ◌≤◌, max, Bool, true, false, List, [], ◌∷◌, ◌++◌, refl, sym, ap, subst, ◌∙◌}
use Rattle.std.proofs.Common.{arith, inl, inr, ◌⊎◌, map, length, append_assoc, append-nil, ◌<◌, not, nat_eq, ◌&&◌}
use Rattle.cat_lex.specs.declared.symbol.Symbol.TheVariants as symbol
use Rattle.cat_parse_expr.specs.declared.cue.Cue.TheVariants as cue
use Rattle.cat_parse_expr.specs.Parts as parts
use Rattle.cat_parse_expr.specs.Parts.{is_sign, sign as a_sign}
use Rattle.cat_parse_expr.specs.Cues as cues
use Rattle.cat_parse_expr.proofs.Common.{Pos, Token, Name, Phrase, Parts, End, ◌▹◌, lower, sign, part}
use Rattle.cat_parse_expr.proofs.Common.{phrase, Field, Measured, Reader, ◌⨟◌, pure, Reads, Lower, MayFollow, is_taken}
use Rattle.cat_parse_expr.proofs.Common.{measured_of, IsMeasured, AreRight, ◌▸◌, all, AreSpelled, tallest, Parsed}
use Rattle.cat_parse_expr.proofs.Common.{Fails, after, left_of, heads, word_of, is_asked, is_below, follow_of}
use Rattle.cat_parse_expr.proofs.Common.{has_field, next_field, field_value, SurfaceField, fields}
use Rattle.cat_parse_expr.proofs.Common.{field_row, MeasuredFields}
use Rattle.cat_parse_expr.proofs.Common.{with_field, no_fields, is_lower, lower_of}
use Rattle.cat_parse_expr.proofs.Operands.{height_is, inner_read, part_shrinks, hidden_left}
use Rattle.cat_parse_expr.proofs.Read.{IsRead}
use Rattle.cat_parse_expr.proofs.Worded.{word_read, lower_read}
use Rattle.cat_parse_expr.proofs.NothingWhole.{hidden_shut, IsShut, shut_after, one_shut, shut_turns}
use Rattle.cat_parse_expr.proofs.Sequels.{last_read}
use Rattle.cat_parse_expr.proofs.Tuples.{two}
use Rattle.cat_parse_expr.proofs.Choices.{Recast}
use Rattle.cat_parse_expr.proofs.Shaping.{recast_read, unlook_read}
use Rattle.cat_parse_expr.proofs.Turnings.{heads_other, heads_follow, heads_seen, shrinks_after, shrinks_one, takes_one}
use Rattle.cat_parse_expr.proofs.Leaves.{cue_self}
use Rattle.cat_parse_expr.proofs.Truth.{second_is_true}
use Rattle.cat_parse_expr.proofs.Loops as loops
use Rattle.cat_parse_expr.proofs.Chaining as chaining
use Rattle.cat_parse_expr.proofs.Lists as lists
use Rattle.cat_parse_expr.proofs.Looping as looping
use Rattle.cat_parse_expr.proofs.Turnings as turnings

-- ---- lists of fields

abbrev pub Valued : Type 0
Valued = Name × Measured

abbrev pub values_of : List Valued → List SurfaceField
values_of [] = []
values_of (x ∷ xs) = record { name = x.0; value = x.1.node } ∷ values_of xs

abbrev pub field_rows : List Valued → List (Name × Phrase)
field_rows [] = []
field_rows (x ∷ xs) = (x.0, phrase x.1.node) ∷ field_rows xs

abbrev pub highest_of : List Valued → ℕ
highest_of [] = 0
highest_of (x ∷ xs) = max x.1.height (highest_of xs)

abbrev pub AreValued : List Valued → Type 0
AreValued [] = Unit {0}
AreValued (x ∷ xs) = IsMeasured x.1 × AreValued xs

abbrev pub valued_of : List SurfaceField → List Valued
valued_of [] = []
valued_of (f ∷ fs) = (f.name, measured_of f.value) ∷ valued_of fs

pub valued_are : (fs : List SurfaceField) → AreValued (valued_of fs)
valued_are [] = tt
valued_are (f ∷ fs) = (refl, valued_are fs)

pub values_back : (fs : List SurfaceField) → values_of (valued_of fs) ≡ fs
values_back [] = refl
values_back (f ∷ fs) = ap (λ (z : List SurfaceField). f ∷ z) (values_back fs)

pub rows_are : (xs : List Valued) → map field_row (values_of xs) ≡ field_rows xs
rows_are [] = refl
rows_are (x ∷ xs) = ap (λ (z : List (Name × Phrase)). (x.0, phrase x.1.node) ∷ z) (rows_are xs)

abbrev pub put : MeasuredFields → Valued → MeasuredFields
put l x = with_field l x.0 x.1

abbrev pub fields_from : MeasuredFields → List Valued → MeasuredFields
fields_from = lists.put_all put

pub values_are : (l : MeasuredFields) (xs : List Valued) → (fields_from l xs).values ≡ l.values ++ values_of xs
values_are l [] = sym (append-nil l.values)
values_are l (x ∷ xs) =
    values_are (with_field l x.0 x.1) xs
    ∙ append_assoc l.values (record { name = x.0; value = x.1.node } ∷ []) (values_of xs)

pub highest_is : (l : MeasuredFields) (xs : List Valued) → (fields_from l xs).tallest ≡ max l.tallest (highest_of xs)
highest_is l [] = omega arith
highest_is l (x ∷ xs) = omega (arith, highest_is (with_field l x.0 x.1) xs)

-- one field
abbrev pub field_parts : Valued → Parts
field_parts x = sign symbol.MinusMinus ▹ lower x.0 ▹ sign symbol.Colon ▹ part 0 (phrase x.1.node) ▹ End

pub fields_are : (xs : List Valued) (rest : Parts) → all field_parts xs ▸ rest ≡ fields (field_rows xs) rest
fields_are [] rest = refl
fields_are (x ∷ xs) rest =
    ap (λ (ps : Parts). sign symbol.MinusMinus ▹ lower x.0 ▹ sign symbol.Colon ▹ part 0 (phrase x.1.node) ▹ ps)
    (fields_are xs rest)

pub fields_height : (xs : List Valued) (rest : Parts) → AreValued xs
    → tallest (fields (field_rows xs) rest) ≡ max (highest_of xs) (tallest rest)
fields_height [] rest m = omega arith
fields_height (x ∷ xs) rest m = omega (arith, height_is x.1 m.0, fields_height xs rest m.1)

-- ---- what may follow a value

-- a field
abbrev pub FieldAt : List Token → Type 0
FieldAt [] = ⊥
FieldAt (p ∷ ts) = (is_sign symbol.MinusMinus p.kind ≡ true) × (heads is_lower ts ≡ true)

pub field_follows : (x : Measured) (v : List Token) → FieldAt v → MayFollow Field 0 x v
field_follows x [] h = absurd h
field_follows x (p ∷ ts) h =
    second_is_true (is_taken p.kind) (is_asked Field p.kind ts) (nat_eq 0 9 && is_sign symbol.Comma p.kind)
    (not x.in_match && is_sign symbol.MinusMinus p.kind)
    (not (nat_eq x.strength 0) && is_below 0 (follow_of p.kind))
    (ap (λ (z : Bool). z && heads is_lower ts) h.0 ∙ h.1)

module _ (ex : Lower) (room : ℕ) (right : AreRight room ex) where
  abbrev Out : MeasuredFields → List Token → Type 0
  Out s v = heads (is_sign symbol.RightBrace) v ≡ true

  abbrev loop : loops.Loop MeasuredFields Valued
  loop = record {
    goes = has_field;
    put = put;
    Good = λ s. Unit {0};
    Low = λ s. s.tallest ≤ room;
    Out = Out;
    More = λ s v. FieldAt v;
    looks = is_sign symbol.MinusMinus;
    FitsOne = λ s x. IsMeasured x.1;
    row_one = field_parts;
  }

  abbrev rest : MeasuredFields → Pos → Reader MeasuredFields
  rest s p = cues.lower ⨟ λ w. a_sign symbol.Colon ⨟ λ q. field_value ex ⨟ λ e. pure (with_field s w e)

  next_follows : (s : MeasuredFields) (x : Measured) (v : List Token) → Out s v ⊎ FieldAt v → MayFollow Field 0 x v
  next_follows s x v (inl o) = heads_follow Field 0 x (cue.Sign symbol.RightBrace) v refl o
  next_follows s x v (inr o) = field_follows x v o

  read_turn : {F : Type 0} (s : MeasuredFields) → IsRead (put s) ⊥ F (loop.Low s) (λ x. loop.Low (put s x))
      (λ x v. Out (put s x) v ⊎ FieldAt v) loop.looks (λ x. IsMeasured x.1) field_parts (next_field ex s)
  read_turn s =
      word_read (cue.Sign symbol.MinusMinus) _ _
      (λ p. lower_read (λ x. x.0) _ _
      (λ w. word_read (cue.Sign symbol.Colon) _ _
      (λ q. last_read (λ x. x.1) (λ e. (w, e)) _ (inner_read ex room right Field) (λ x ts. refl)
      (record {
        fit = λ y f. f.0;
        built = λ f x m. (m, refl);
        has = λ x. refl;
        only = λ f y h. two y w h.1;
        lows = λ f c x m low. omega (arith, c, low);
        part = λ f x m low. omega (arith, low);
        outside = λ f x v m o. next_follows s x v o;
      }))))

  rest_shrinks : (s : MeasuredFields) (p : Pos) (ts : List Token) → length (left_of (rest s p ts)) ≤ length ts
  rest_shrinks s p ts =
      shrinks_after (cues.lower ts) _ (length ts) (shrinks_one lower_of ts)
      (λ w us. shrinks_after (a_sign symbol.Colon us) _ (length us) (shrinks_one (word_of (cue.Sign symbol.Colon)) us)
      (λ q vs. shrinks_after (field_value ex vs) _ (length vs)
      (omega (
        arith,
        part_shrinks ex room right Field 0 (omega arith) vs,
        ap length (hidden_left (ex Field 0 vs)),
      )) (λ x us. omega arith)))

  field_at : (w v : List Token) (x : Valued) → AreSpelled (field_parts x) w → FieldAt (w ++ v)
  field_at w v x s =
      subst FieldAt (sym (ap (λ (u : List Token). u ++ v) s.2)) (
        ap loop.looks s.3 ∙ cue_self (cue.Sign symbol.MinusMinus),
        ap (λ (u : List Token). heads is_lower (u ++ v)) s.4.2 ∙ ap (λ (t : Token). is_lower t.kind) s.4.3,
      )

  leads : (v : List Token) → FieldAt v → heads loop.looks v ≡ true
  leads [] h = absurd h
  leads (p ∷ ts) h = h.0

  worded : turnings.Worded loop (cue.Sign symbol.MinusMinus) rest (λ s. read_turn s)
  worded = record {
    starts = λ s ts h. h;
    shrinks = rest_shrinks;
    begins = λ s x w v f sp. field_at w v x sp;
    leads = λ s v h. leads v h;
    stops = λ s v o. heads_other (cue.Sign symbol.RightBrace) (cue.Sign symbol.MinusMinus) v refl o;
    ends = λ s. refl;
    sees = λ s p ps qs g. refl;
    sees_past = λ s ls others g. heads_seen loop.looks loop.looks ls others g;
    grows = λ s x low. omega (arith, low);
    stays = λ s x f g. tt;
  }

  abbrev one : MeasuredFields → Reader Valued
  one s = (read_turn {F = Unit {0} × ((us : List Token) × (has_field s us ≡ true))} s).reader

  turning : loops.Turning loop one
  turning = turnings.plain_turning loop (cue.Sign symbol.MinusMinus) rest (λ s. read_turn s) worded

  same : (s : MeasuredFields) (ts : List Token) → next_field ex s ts ≡ lists.turn has_field one put s ts
  same = turnings.plain_same loop (cue.Sign symbol.MinusMinus) rest (λ s. read_turn s) worded

  takes : (s z : MeasuredFields) (ts left : List Token) → next_field ex s ts ≡ Reads z left → length left < length ts
  takes s z ts left e =
      takes_one (word_of (cue.Sign symbol.MinusMinus)) (rest s) ts left z (rest_shrinks s) e

  fields_end : (s z : MeasuredFields) (ts left : List Token) → parts.fields ex s ts ≡ Reads z left
      → heads loop.looks left ≡ false
  fields_end s z ts left e =
      looping.turns_end loop one turning (next_field ex) takes (length ts) s z ts left (omega arith) e

  fits_all : (s : MeasuredFields) (xs : List Valued) → AreValued xs → loops.FitsFrom loop one s xs
  fits_all s [] m = tt
  fits_all s (x ∷ xs) m = (m.0, fits_all (put s x) xs m.1)

  all_fits : (s : MeasuredFields) (xs : List Valued) → loops.FitsFrom loop one s xs → AreValued xs
  all_fits s [] m = tt
  all_fits s (x ∷ xs) m = (m.0, all_fits (put s x) xs m.1)

  abbrev pub all_low : List Valued → Type 0
  all_low xs = (fields_from no_fields xs).tallest ≤ room

  abbrev pub before_brace : List Valued → List Token → Type 0
  before_brace xs v = heads (is_sign symbol.RightBrace) v ≡ true

  -- [-- w : E]*
  pub fields_read : IsRead (fields_from no_fields) ⊥ (Unit {0}) (Unit {0}) all_low before_brace (λ k. false) AreValued
      (all field_parts) (parts.fields ex no_fields)
  fields_read =
      unlook_read loop.looks (λ ts left z e. fields_end no_fields z ts left e)
      (recast_read _ _ _ _ (λ xs. xs) (λ xs. refl) (λ f. tt) (λ f c. omega arith)
      (λ f x w i. record { fit = all_fits no_fields x i.fit; levels = i.levels; spelled = i.spelled })
      (λ f c. record {
        to = λ x w i. record { fit = all_fits no_fields x i.fit; levels = i.levels; spelled = i.spelled };
        from =
            λ y w i. (y, refl, record { fit = fits_all no_fields y i.fit; levels = i.levels; spelled = i.spelled });
        lows = λ x fit low. low;
        back = λ x fit low. low;
        outside = λ x v fit o. o;
      })
      (looping.loop_read loop one turning (next_field ex) same no_fields))

  turn_shut : (s : MeasuredFields) (ts : List Token) → IsShut (next_field ex s ts)
  turn_shut s ts =
      shut_after (a_sign symbol.MinusMinus ts) _ (one_shut (word_of (cue.Sign symbol.MinusMinus)) ts)
      (λ p ts. shut_after (cues.lower ts) _ (one_shut lower_of ts)
      (λ w ts. shut_after (a_sign symbol.Colon ts) _ (one_shut (word_of (cue.Sign symbol.Colon)) ts)
      (λ q ts. shut_after (field_value ex ts) _ (hidden_shut (ex Field 0 ts)) (λ e ts. tt))))

  pub fields_shut : (s : MeasuredFields) (ts : List Token) → IsShut (parts.fields ex s ts)
  fields_shut s ts = shut_turns has_field (next_field ex) turn_shut (length ts) s ts

  -- -- w : E, and further fields
  abbrev Chained : Type 0
  Chained = Valued × List Valued

  abbrev head : chaining.Head Valued MeasuredFields MeasuredFields
  head = record {
    made = put no_fields;
    Low = λ x. loop.Low (put no_fields x);
    Fits = λ x. IsMeasured x.1;
    row = field_parts;
    begin = λ z. z;
  }

  abbrev pub some_low : Chained → Type 0
  some_low c = (fields_from no_fields (c.0 ∷ c.1)).tallest ≤ room

  some_end : (ts left : List Token) (z : MeasuredFields)
      → (next_field ex no_fields ⨟ λ first. parts.fields ex first) ts ≡ Reads z left → heads loop.looks left ≡ false
  some_end ts left z e = by (next_field ex no_fields ts) e
    where
      by : (o : Parsed MeasuredFields) → after o (λ first. parts.fields ex first) ≡ Reads z left
          → heads loop.looks left ≡ false
      by (Fails l d f) e = absurd cc
      by (Reads y us) e = fields_end y z us left e

  pub some_fields_read : IsRead (λ c. fields_from no_fields (c.0 ∷ c.1)) ⊥ (Unit {0}) (Unit {0}) some_low
      (λ c v. heads (is_sign symbol.RightBrace) v ≡ true) (λ k. false) (λ c. IsMeasured c.0.1 × AreValued c.1)
      (λ c. all field_parts (c.0 ∷ c.1)) (next_field ex no_fields ⨟ λ first. parts.fields ex first)
  some_fields_read =
      unlook_read loop.looks (λ ts left z e. some_end ts left z e)
      (recast_read _ _ _ _ (λ c. c) (λ c. refl) (λ f. f) (λ f c. c) (λ f. cast.to) (λ f c. cast)
      (chaining.inner_chain_read loop one head turning (next_field ex) same
      (record {
        good = λ a f. tt;
        low = λ a f low. low;
        back = λ a f low. low;
      })
      (next_field ex no_fields) first_read))
    where
      first_read : IsRead (put no_fields) ⊥ (Unit {0}) (Unit {0}) (λ x. loop.Low (put no_fields x))
          (λ x v. Out (put no_fields x) v ⊎ FieldAt v) loop.looks (λ x. IsMeasured x.1) field_parts
          (next_field ex no_fields)
      first_read =
          recast_read _ _ _ _ (λ x. x) (λ x. refl) (λ f. f) (λ f c. omega arith) (λ f x w i. i)
          (λ f c. record {
            to = λ x w i. i;
            from = λ y w i. (y, refl, i);
            lows = λ x fit l. l;
            back = λ x fit l. l;
            outside = λ x v fit o. o;
          }) (read_turn {F = Unit {0}} no_fields)

      cast : Recast (chaining.Low_chain loop one head) some_low (chaining.Out_chain loop one head)
          (λ c v. heads (is_sign symbol.RightBrace) v ≡ true) (chaining.fits_chain loop one head)
          (λ c. IsMeasured c.0.1 × AreValued c.1) (chaining.row_chain loop one head)
          (λ c. all field_parts (c.0 ∷ c.1)) (λ c. c)
      cast = record {
        to =
            λ y w i. record {
              fit = (i.fit.0, all_fits (put no_fields y.0) y.1 i.fit.1);
              levels = i.levels;
              spelled = i.spelled;
            };
        from =
            λ y w i. (
              y,
              refl,
              record {
                fit = (i.fit.0, fits_all (put no_fields y.0) y.1 i.fit.1);
                levels = i.levels;
                spelled = i.spelled;
              },
            );
        lows = λ y fit low. low;
        back = λ y fit low. low;
        outside = λ y v fit o. o;
      }

  pub some_fields_shut : (ts : List Token) → IsShut ((next_field ex no_fields ⨟ λ first. parts.fields ex first) ts)
  some_fields_shut ts =
      shut_after (next_field ex no_fields ts) _ (turn_shut no_fields ts) (λ first us. fields_shut first us)
