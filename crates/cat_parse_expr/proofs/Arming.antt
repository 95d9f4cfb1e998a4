-- The arms of a match.
use Rattle.std.proofs.Common.{◌≡◌, ℕ, ◌≤◌, Bool, true, false, List, [], ◌∷◌, ◌++◌, None, Some, refl, sym, ap, subst}
use Rattle.std.proofs.Common.{◌∙◌, arith, inl, inr, ◌⊎◌, length, not, nat_eq, ◌&&◌}
use Rattle.cat_lex.specs.declared.symbol.Symbol.TheVariants as symbol
use Rattle.cat_parse_expr.specs.declared.behind.Behind.TheVariants.{Other, Field, Pattern as Tested}
use Rattle.cat_parse_expr.specs.declared.cue.Cue.TheVariants as cue
use Rattle.cat_parse_expr.specs.Arms as arms
use Rattle.cat_parse_expr.specs.Parts.{is_sign, sign as a_sign}
use Rattle.cat_tree.specs.declared.expression.Pattern.TheVariants as pattern
use Rattle.cat_parse_expr.proofs.Common.{Pos, Token, TokenKind, Parts, End, ◌▹◌, sign, part, phrase, Behind, Measured}
use Rattle.cat_parse_expr.proofs.Common.{Reader, ◌⨟◌, pure, Reads, Lower, MayFollow, looks_of, is_taken, KeepsWhole}
use Rattle.cat_parse_expr.proofs.Common.{IsMeasured, IsLow, operand_row, AreRight, ◌▸◌, AreSpelled, Parsed, Fails}
use Rattle.cat_parse_expr.proofs.Common.{after, left_of, heads, word_of, is_asked, is_below, follow_of, behind_whole}
use Rattle.cat_parse_expr.proofs.Common.{pattern_parts, MatchArms, with_arm, no_arms, is_lower, Pattern, Bare}
use Rattle.cat_parse_expr.proofs.Common.{Qualified, Agree, AgreePast, a_pattern, next_arm, further_arm, has_arm}
use Rattle.cat_parse_expr.proofs.Common.{ends_arms, fallen}
use Rattle.cat_parse_expr.proofs.Operands.{end_read, part_shrinks}
use Rattle.cat_parse_expr.proofs.Read.{IsRead}
use Rattle.cat_parse_expr.proofs.Worded.{word_read}
use Rattle.cat_parse_expr.proofs.Sequels.{part_read, last_read, past_none, no_longer}
use Rattle.cat_parse_expr.proofs.Tuples.{two}
use Rattle.cat_parse_expr.proofs.Choices.{Recast}
use Rattle.cat_parse_expr.proofs.Shaping.{recast_read, reshape_read}
use Rattle.cat_parse_expr.proofs.Turnings.{heads_begin, shrinks_after, shrinks_one}
use Rattle.cat_parse_expr.proofs.Leaves.{cue_self}
use Rattle.cat_parse_expr.proofs.Chosen.{same_read}
use Rattle.cat_parse_expr.proofs.Patterns.{pattern_row, pattern_behind, pattern_read, pattern_shut}
use Rattle.cat_parse_expr.proofs.Armed.{put_arm, Armed, arms_from, arm_parts, AreArmed, armed_first, arms_row_of}
use Rattle.cat_parse_expr.proofs.Armed.{to_arms_spelled, from_arms_spelled, to_arms_levels, from_arms_levels}
use Rattle.cat_parse_expr.proofs.Armed.{head_regrouped}
use Rattle.cat_parse_expr.proofs.Truth.{first_true, fourth_true, second_false, second_true}
use Rattle.cat_parse_expr.proofs.Loops as loops
use Rattle.cat_parse_expr.proofs.Chaining as chaining
use Rattle.cat_parse_expr.proofs.Lists as lists
use Rattle.cat_parse_expr.proofs.Looping as looping
use Rattle.cat_parse_expr.proofs.Turnings as turnings

-- ---- where an arm may begin

-- an arm that isn't the field of an outer form
abbrev pub ArmAt : Behind → List Token → Type 0
ArmAt b v = (heads (is_sign symbol.MinusMinus) v && not (ends_arms b v)) ≡ true

-- a further arm may follow a body that doesn't end in a match
pub arm_follows : (b : Behind) (x : Measured) (v : List Token) → x.in_match ≡ false
    → heads (is_sign symbol.MinusMinus) v ≡ true → MayFollow b 0 x v
arm_follows b x [] i h = tt
arm_follows b x (p ∷ ts) i h =
    fourth_true (is_taken p.kind) (is_asked b p.kind ts) (nat_eq 0 9 && is_sign symbol.Comma p.kind)
    (not x.in_match && is_sign symbol.MinusMinus p.kind)
    (not (nat_eq x.strength 0) && is_below 0 (follow_of p.kind))
    (ap (λ (z : Bool). not z && is_sign symbol.MinusMinus p.kind) i ∙ h)

-- a pattern begins with no name
pattern_begins : (a : Pattern) (rest : Parts) (w v : List Token) → AreSpelled (pattern_parts a rest) w
    → heads is_lower (w ++ v) ≡ false
pattern_begins pattern.Anything rest w v s =
    ap (λ (z : List Token). heads is_lower (z ++ v)) s.2 ∙ ap is_lower s.3
pattern_begins (pattern.Case (Bare u) None) rest w v s =
    ap (λ (z : List Token). heads is_lower (z ++ v)) s.2 ∙ ap (λ (t : Token). is_lower t.kind) s.3
pattern_begins (pattern.Case (Qualified d u) None) rest w v s =
    ap (λ (z : List Token). heads is_lower (z ++ v)) s.2 ∙ ap (λ (t : Token). is_lower t.kind) s.3
pattern_begins (pattern.Case (Bare u) (Some x)) rest w v s =
    ap (λ (z : List Token). heads is_lower (z ++ v)) s.2 ∙ ap (λ (t : Token). is_lower t.kind) s.3
pattern_begins (pattern.Case (Qualified d u) (Some x)) rest w v s =
    ap (λ (z : List Token). heads is_lower (z ++ v)) s.2 ∙ ap (λ (t : Token). is_lower t.kind) s.3

arm_at : (b : Behind) (a : Pattern) (rest : Parts) (w v : List Token)
    → AreSpelled (sign symbol.MinusMinus ▹ pattern_parts a rest) w → ArmAt b (w ++ v)
arm_at b a rest w v s =
    subst (λ (z : List Token). ArmAt b (z ++ v)) (sym s.2)
    (ap (λ (z : Bool). z && not (ends_arms b (s.0 ∷ (s.1 ++ v)))) (ap (is_sign symbol.MinusMinus) s.3
    ∙ cue_self (cue.Sign symbol.MinusMinus)) ∙ ap not (by b))
  where
    by : (b : Behind) → ends_arms b (s.0 ∷ (s.1 ++ v)) ≡ false
    by Field = pattern_begins a rest s.1 v s.4
    by Other = refl
    by Tested = refl

heads_agree : (test : TokenKind → Bool) (ps qs : List Token) → Agree ps qs → heads test ps ≡ heads test qs
heads_agree test [] [] g = refl
heads_agree test [] (q ∷ qs) g = absurd g
heads_agree test (p ∷ ps) [] g = absurd g
heads_agree test (p ∷ ps) (q ∷ qs) g = ap (λ (t : Token). test t.kind) g

arm_seen : (b : Behind) (ls others : List Token) → AgreePast (looks_of b) ls others
    → (heads (is_sign symbol.MinusMinus) ls && not (ends_arms b ls))
    ≡ (heads (is_sign symbol.MinusMinus) others && not (ends_arms b others))
arm_seen b [] [] g = refl
arm_seen b [] (q ∷ qs) g = absurd g
arm_seen b (p ∷ ps) [] g = absurd g
arm_seen Other (p ∷ ps) (q ∷ qs) g = ap (λ (t : Token). is_sign symbol.MinusMinus t.kind && not false) g.0
arm_seen Tested (p ∷ ps) (q ∷ qs) g = ap (λ (t : Token). is_sign symbol.MinusMinus t.kind && not false) g.0
arm_seen Field (p ∷ ps) (q ∷ qs) g =
    by (is_sign symbol.MinusMinus p.kind) refl
    ∙ ap (λ (t : Token). is_sign symbol.MinusMinus t.kind && not (heads is_lower qs)) g.0
  where
    by : (c : Bool) → is_sign symbol.MinusMinus p.kind ≡ c
        → (is_sign symbol.MinusMinus p.kind && not (heads is_lower ps))
        ≡ (is_sign symbol.MinusMinus p.kind && not (heads is_lower qs))
    by true e =
        ap (λ (z : Bool). is_sign symbol.MinusMinus p.kind && not z) (heads_agree is_lower ps qs (g.1 e))
    by false e =
        ap (λ (z : Bool). z && not (heads is_lower ps)) e ∙ ap (λ (z : Bool). z && not (heads is_lower qs)) (sym e)

not_first : (a c : Bool) → (not a && c) ≡ true → a ≡ false
not_first true c h = absurd cc
not_first false c h = refl

module _ (ex : Lower) (room : ℕ) (right : AreRight room ex)
    (kept : (b : Behind) (j bound : ℕ) → j ≤ 9 → KeepsWhole (IsLow room) bound IsMeasured (operand_row j) (ex b j))
    (b : Behind) where
  abbrev Out : MatchArms → List Token → Type 0
  Out s v =
      ((x : Measured) → MayFollow b 0 x v)
      × ((heads (is_sign symbol.MinusMinus) v && not (ends_arms b v)) ≡ false)

  abbrev loop : loops.Loop MatchArms Armed
  loop = record {
    goes = has_arm b;
    put = put_arm;
    Good = λ s. Unit {0};
    Low = λ s. s.tallest ≤ room;
    Out = Out;
    More = λ s v. (s.in_match ≡ false) × ArmAt b v;
    looks = looks_of b;
    FitsOne = λ s x. (s.in_match ≡ false) × IsMeasured x.1;
    row_one = arm_parts;
  }

  abbrev rest : MatchArms → Pos → Reader MatchArms
  rest s p = a_pattern ⨟ λ a. a_sign symbol.Colon ⨟ λ q. ex b 0 ⨟ λ e. pure (with_arm s a e)

  abbrev whole_arm : MatchArms → Reader MatchArms
  whole_arm s = a_sign symbol.MinusMinus ⨟ rest s

  next_follows : (s : MatchArms) (x : Armed) (v : List Token) → Out (put_arm s x) v ⊎ loop.More (put_arm s x) v
      → MayFollow b 0 x.1 v
  next_follows s x v (inl o) = o.0 x.1
  next_follows s x v (inr o) = arm_follows b x.1 v o.0 (first_true _ _ o.1)

  turn_read : {K F : Type 0} (s : MatchArms) → (F → s.in_match ≡ false)
      → IsRead (put_arm s) K F (loop.Low s) (λ x. loop.Low (put_arm s x))
      (λ x v. Out (put_arm s x) v ⊎ loop.More (put_arm s x) v) (looks_of b) (loop.FitsOne s) arm_parts (whole_arm s)
  turn_read s none =
      word_read (cue.Sign symbol.MinusMinus) _ _
      (λ p. reshape_read (loop.FitsOne s) (loop.FitsOne s)
      (λ x. pattern_row x.0 ▸ (sign symbol.Colon ▹ part 0 (phrase x.1.node) ▹ End))
      (λ x. pattern_parts x.0 (sign symbol.Colon ▹ part 0 (phrase x.1.node) ▹ End)) _
      (record {
        to = λ x f. f;
        from = λ x f. f;
        rows = λ x f. pattern_behind x.0 (sign symbol.Colon ▹ part 0 (phrase x.1.node) ▹ End);
      })
      (part_read (λ x. x.0) _ _ pattern_read pattern_shut (λ x ts. past_none (looks_of b) _ ts)
      (record {
        fit = λ y f. tt;
        behind = λ y w v f s. heads_begin (cue.Sign symbol.Colon) w v s;
        part = λ y f low. tt;
      })
      (λ a. word_read (cue.Sign symbol.Colon) _ _
      (λ q. last_read (λ x. x.1) (λ e. (a, e)) _
      (end_read ex room right b 0 (omega arith) (λ bound. kept b 0 bound (omega arith))) (λ x ts. refl)
      (record {
        fit = λ y f. f.0.1;
        built = λ f x m. ((none f.0, m), refl);
        has = λ x. refl;
        only = λ f y h. two y a h.1;
        lows = λ f c x m low. omega (arith, c.0, low);
        part = λ f x m low. omega (arith, low);
        outside = λ f x v m o. next_follows s (a, x) v o;
      })))))

  rest_shrinks : (s : MatchArms) (p : Pos) (ts : List Token) → length (left_of (rest s p ts)) ≤ length ts
  rest_shrinks s p ts =
      shrinks_after (a_pattern ts) _ (length ts) (pattern_shrinks ts)
      (λ a us. shrinks_after (a_sign symbol.Colon us) _ (length us) (shrinks_one (word_of (cue.Sign symbol.Colon)) us)
      (λ q vs. shrinks_after (ex b 0 vs) _ (length vs) (part_shrinks ex room right b 0 (omega arith) vs)
      (λ x us. omega arith)))
    where
      whole_same : {A : Type 0} (o : Parsed A) → left_of (after {B = A} o pure) ≡ left_of o
      whole_same (Fails left deep whole) = refl
      whole_same (Reads x left) = refl

      pattern_shrinks : (ts : List Token) → length (left_of (a_pattern ts)) ≤ length ts
      pattern_shrinks ts =
          omega (
            arith,
            no_longer _ _ _ (pattern_read.reader ts) ts ((pattern_read.right tt tt (length ts)).taken ts (omega arith)),
            ap (λ (o : Parsed Pattern). length (left_of o)) (pattern_read.maps ts),
            ap length (whole_same (pattern_read.reader ts)),
          )

  read_turn : (s : MatchArms) → IsRead (put_arm s) (Unit {0}) (Unit {0} × ((us : List Token) × (has_arm b s us ≡ true)))
      (loop.Low s) (λ x. loop.Low (put_arm s x)) (λ x v. Out (put_arm s x) v ⊎ loop.More (put_arm s x) v)
      (looks_of b) (loop.FitsOne s) arm_parts (whole_arm s)
  read_turn s = turn_read s (λ f. not_first s.in_match _ f.1.1)

  sees : (s : MatchArms) (p : Token) (ps qs : List Token) → Agree ps qs → has_arm b s (p ∷ ps) ≡ has_arm b s (p ∷ qs)
  sees s p ps qs g = by b
    where
      by : (b : Behind) → has_arm b s (p ∷ ps) ≡ has_arm b s (p ∷ qs)
      by Other = refl
      by Tested = refl
      by Field =
          ap (λ (z : Bool). not s.in_match && (is_sign symbol.MinusMinus p.kind && not z))
          (heads_agree is_lower ps qs g)

  none_left : (s : MatchArms) → has_arm b s [] ≡ false
  none_left s = second_false (not s.in_match) _ refl

  worded : turnings.Worded loop (cue.Sign symbol.MinusMinus) rest read_turn
  worded = record {
    starts = λ s ts h. first_true _ _ (second_true (not s.in_match) _ h);
    shrinks = rest_shrinks;
    begins =
        λ s x w v f sp. (f.0, arm_at b x.0 (sign symbol.Colon ▹ part 0 (phrase x.1.node) ▹ End) w v sp);
    leads =
        λ s v h. ap (λ (z : Bool). not z && (heads (is_sign symbol.MinusMinus) v && not (ends_arms b v))) h.0 ∙ h.1;
    stops = λ s v o. second_false (not s.in_match) _ o.1;
    ends = none_left;
    sees = sees;
    sees_past = λ s ls others g. ap (λ (z : Bool). not s.in_match && z) (arm_seen b ls others g);
    grows = λ s x low. omega (arith, low);
    stays = λ s x f g. tt;
  }

  abbrev one : MatchArms → Reader Armed
  one s = behind_whole (read_turn s).reader

  turning : loops.Turning loop one
  turning = turnings.behind_turning loop (cue.Sign symbol.MinusMinus) rest read_turn worded

  arm_same : (s : MatchArms) (ts : List Token) → next_arm ex b s ts ≡ whole_arm s ts
  arm_same s ts =
      head_regrouped (a_sign symbol.MinusMinus ts) a_pattern (a_sign symbol.Colon) (λ a. ex b 0
      ⨟ λ e. pure (with_arm s a e))

  same : (s : MatchArms) (ts : List Token) → further_arm ex b s ts ≡ lists.turn (has_arm b) one put_arm s ts
  same s ts =
      ap (λ (o : Parsed MatchArms). fallen ts o) (arm_same s ts)
      ∙ turnings.behind_same loop (cue.Sign symbol.MinusMinus) rest read_turn worded s ts

  inner_kept : (s : MatchArms) (bound : ℕ) → loop.Good s → loop.Low s → (us : List Token) → has_arm b s us ≡ true
      → KeepsWhole (λ x. loop.Low (put_arm s x)) bound (loop.FitsOne s) arm_parts (read_turn s).reader
  inner_kept s bound good low us e = (read_turn s).keeps tt (good, (us, e)) low bound

  abbrev head : chaining.Head Armed MatchArms MatchArms
  head = record {
    made = put_arm no_arms;
    Low = λ x. loop.Low (put_arm no_arms x);
    Fits = loop.FitsOne no_arms;
    row = arm_parts;
    begin = λ z. z;
  }

  first_read : {K : Type 0} → IsRead (put_arm no_arms) K (Unit {0}) (Unit {0}) head.Low
      (λ x v. Out (put_arm no_arms x) v ⊎ loop.More (put_arm no_arms x) v) (looks_of b) head.Fits arm_parts
      (next_arm ex b no_arms)
  first_read =
      same_read (whole_arm no_arms) (next_arm ex b no_arms) (arm_same no_arms)
      (recast_read _ _ _ _ (λ x. x) (λ x. refl) (λ f. f) (λ f c. omega arith) (λ f x w i. i)
      (λ f c. record {
        to = λ x w i. i;
        from = λ y w i. (y, refl, i);
        lows = λ x fit l. l;
        back = λ x fit l. l;
        outside = λ x v fit o. o;
      }) (turn_read {F = Unit {0}} no_arms (λ f. refl)))

  -- the arms of a match, with all words of theirs
  chain_read : {K : Type 0} → chaining.IsChain loop one head K (arms.arms ex b)
  chain_read =
      chaining.chain_read loop one head turning (further_arm ex b) same
      (record {
        good = λ a f. tt;
        low = λ a f low. low;
        back = λ a f low. low;
      })
      (next_arm ex b no_arms) first_read
      (λ k. looping.loop_keeps loop one turning (λ s. (read_turn s).reader) (λ s ts. refl) inner_kept)
      (λ k. looping.loop_far loop one turning (λ s. (read_turn s).reader) (λ s ts. refl) inner_kept)

  from_armed : (s : MatchArms) (x : Armed) (xs : List Armed) → AreArmed x xs
      → loops.FitsFrom loop one (put_arm s x) xs
  from_armed s x [] m = tt
  from_armed s x (y ∷ ys) m = ((m.1, armed_first y ys m.2), from_armed (put_arm s x) y ys m.2)

  to_armed : (s : MatchArms) (x : Armed) (xs : List Armed) → IsMeasured x.1
      → loops.FitsFrom loop one (put_arm s x) xs → AreArmed x xs
  to_armed s x [] m f = m
  to_armed s x (y ∷ ys) m f = (m, f.0.0, to_armed (put_arm s x) y ys f.0.1 f.1)

  abbrev pub Arms : Type 0
  Arms = Armed × List Armed

  abbrev pub made : Arms → MatchArms
  made c = arms_from no_arms (c.0 ∷ c.1)

  arms_cast : Recast (chaining.Low_chain loop one head) (λ c. (made c).tallest ≤ room)
      (chaining.Out_chain loop one head) (λ c v. Out no_arms v) (chaining.fits_chain loop one head)
      (λ c. AreArmed c.0 c.1) (chaining.row_chain loop one head) (λ c. arms_row_of c.0 c.1) (λ c. c)
  arms_cast = record {
    to =
        λ y w i. let m = to_armed no_arms y.0 y.1 i.fit.0.1 i.fit.1 in
        record {
          fit = m;
          levels = to_arms_levels y.0 y.1 m i.levels;
          spelled = (to_arms_spelled y.0 y.1).to w i.spelled;
        };
    from =
        λ y w i. (
          y,
          refl,
          record {
            fit = ((refl, armed_first y.0 y.1 i.fit), from_armed no_arms y.0 y.1 i.fit);
            levels = from_arms_levels y.0 y.1 i.levels;
            spelled = (from_arms_spelled y.0 y.1).to w i.spelled;
          },
        );
    lows = λ y fit low. low;
    back = λ y fit low. low;
    outside = λ y v fit o. o;
  }

  -- [-- P : E]*, one at least
  pub arms_read : {K : Type 0} → IsRead made K (Unit {0}) (Unit {0}) (λ c. (made c).tallest ≤ room)
      (λ c v. Out no_arms v) (looks_of b) (λ c. AreArmed c.0 c.1) (λ c. arms_row_of c.0 c.1) (arms.arms ex b)
  arms_read =
      recast_read _ _ _ _ (λ c. c) (λ y. refl) (λ f. f) (λ f c. c) (λ f. arms_cast.to) (λ f c. arms_cast) chain_read
