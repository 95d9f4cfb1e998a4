-- The loop of climbing.
use Rattle.std.proofs.Common.{◌≡◌, ℕ, suc, ◌≤◌, ◌<◌, Bool, true, false, not, nat_le, ◌&&◌, if◌then◌else◌, List, [], ◌∷◌}
use Rattle.std.proofs.Common.{length, refl, sym, ap, subst, ◌∙◌, arith}
use Rattle.cat_lex.specs.declared.words.DoubleKeyword.TheVariants as pair
use Rattle.cat_lex.specs.declared.symbol.Symbol.TheVariants as symbol
use Rattle.cat_tree.specs.declared.expression.Node.TheViews as node
use Rattle.cat_parse_expr.specs.declared.cue.Cue.TheVariants as cue
use Rattle.cat_parse_expr.specs.declared.follow.Follow.TheVariants as follow
use Rattle.cat_parse_expr.specs.Steps as steps
use Rattle.cat_parse_expr.specs.Cues as cues
use Rattle.cat_parse_expr.proofs.Common.{Pos, Token, Operator, operator_level, phrase, Behind, Follow, Measured}
use Rattle.cat_parse_expr.proofs.Common.{ends_test, goes_so, goes_on, room_beside, nothing_at, cue_is, word_of}
use Rattle.cat_parse_expr.proofs.Common.{lower_of, upper_of, MayFollow, looks_of, KeepsWhole, closed, follow_at, Lower}
use Rattle.cat_parse_expr.proofs.Common.{is_sign, case_from, Parsed, Fails, Reads, Reader, ◌⨟◌, pure, nothing, after}
use Rattle.cat_parse_expr.proofs.Common.{heads, behind_whole, with_room, IsMeasured, IsLow, operand_row, AreRight}
use Rattle.cat_parse_expr.proofs.Common.{left_of, fallen}
use Rattle.cat_parse_expr.proofs.Chains.{Step, Operates, Selects, TestsFor, put, step_parts}
use Rattle.cat_parse_expr.proofs.Firsts.{is_bare}
use Rattle.cat_parse_expr.proofs.Follows.{one_level}
use Rattle.cat_parse_expr.proofs.Leaves.{cue_self}
use Rattle.cat_parse_expr.proofs.Operands.{goes_past, part_shrinks, Next as NextAt}
use Rattle.cat_parse_expr.proofs.Patterns.{whole_case_read}
use Rattle.cat_parse_expr.proofs.Chosen.{fallen_mapped}
use Rattle.cat_parse_expr.proofs.StepWords.{cue_of, operator_word, operator_is, FitsOne}
use Rattle.cat_parse_expr.proofs.Turnings.{left_mapped, left_fallen, moves_one, takes_one, word_there, shrinks_after}
use Rattle.cat_parse_expr.proofs.Turnings.{read_shrinks}
use Rattle.cat_parse_expr.proofs.Wholes.{behind_right}
use Rattle.cat_parse_expr.proofs.Climbs.{seen_past, agree_past, stops_at, tests_is, dotted_is, room_shrinks, step_goes}
use Rattle.cat_parse_expr.proofs.Truth.{both_are, both_true, second_false}
use Rattle.cat_parse_expr.proofs.Lists as lists
use Rattle.cat_parse_expr.proofs.Loops as loops
use Rattle.cat_parse_expr.proofs.Climbed as climbed

module _ (ex : Lower) (room : ℕ) (right : AreRight room ex)
    (kept : (b : Behind) (j bound : ℕ) → j ≤ 9 → KeepsWhole (IsLow room) bound IsMeasured (operand_row j) (ex b j))
    (b : Behind) (k : ℕ) (le : k ≤ 9) where
  abbrev allowed : Measured → Follow → Bool
  allowed = climbed.allowed ex room right kept b k le

  abbrev reader_at : Measured → Follow → Reader Measured
  reader_at = climbed.reader_at ex room right kept b k le

  abbrev pick : Measured → Follow → Reader Measured
  pick = climbed.pick ex room right kept b k le

  abbrev inner_turn : Measured → Reader Measured
  inner_turn = climbed.inner_turn ex room right kept b k le

  abbrev Good : Measured → Type 0
  Good = climbed.Good ex room right kept b k le

  abbrev LowAs : Measured → Type 0
  LowAs = climbed.LowAs ex room right kept b k le

  -- ---- how far a step reads

  beside_shrinks : (s : Measured) (j : ℕ) → j ≤ 9 → (ts : List Token)
      → length (left_of (steps.beside ex room s b j ts)) ≤ length ts
  beside_shrinks s j high ts = by (nat_le s.height room)
    where
      by : (c : Bool) → length (left_of ((if c then ex b j else nothing_at j) ts)) ≤ length ts
      by true = part_shrinks ex room right b j high ts
      by false = omega arith

  operated_shrinks : (s : Measured) (o : Operator) (p : Pos) (ts : List Token)
      → length (left_of ((steps.beside ex room s b (suc (operator_level o))
      ⨟ λ e. pure (put s (Operates o p e))) ts)) ≤ length ts
  operated_shrinks s o p ts =
      shrinks_after (steps.beside ex room s b (suc (operator_level o)) ts) _ (length ts)
      (beside_shrinks s (suc (operator_level o)) (omega (arith, (one_level o).3)) ts) (λ x us. omega arith)

  selected_shrinks : (s : Measured) (ts : List Token)
      → length (left_of ((with_room (room_beside room s) cues.lower
      ⨟ λ w. pure (closed 9 s.height (node.Field s.node w))) ts)) ≤ length ts
  selected_shrinks s ts =
      shrinks_after (with_room (room_beside room s) cues.lower ts) _ (length ts)
      (room_shrinks (room_beside room s) lower_of ts) (λ x us. omega arith)

  tested_shrinks : (s : Measured) (p : Pos) (ts : List Token)
      → length (left_of ((with_room (room_beside room s) cues.upper ⨟ λ u. behind_whole (case_from u)
      ⨟ λ c. pure (closed 4 s.height (node.Test s.node p c))) ts)) ≤ length ts
  tested_shrinks s p ts =
      shrinks_after (with_room (room_beside room s) cues.upper ts) _ (length ts)
      (room_shrinks (room_beside room s) upper_of ts)
      (λ u us. shrinks_after (behind_whole (case_from u) us) _ (length us)
      (read_shrinks (whole_case_read u {K = Unit {0}} {F = Unit {0}} {C = Unit {0}} {looks = λ q. false}) tt tt us)
      (λ x vs. omega arith))

  operator_there : (o : Operator) (ts : List Token) → follow_at ts ≡ follow.Operated o
      → heads (cue_is (cue_of o)) ts ≡ true
  operator_there o [] e = absurd cc
  operator_there o (p ∷ ts) e =
      ap (cue_is (cue_of o)) (operator_is p.kind o e ∙ sym (operator_word o).0) ∙ cue_self (cue_of o)

  dot_there : (ts : List Token) → follow_at ts ≡ follow.Dotted → heads (cue_is (cue.Sign symbol.Dot)) ts ≡ true
  dot_there [] e = absurd cc
  dot_there (p ∷ ts) e = ap (cue_is (cue.Sign symbol.Dot)) (dotted_is p.kind e) ∙ cue_self (cue.Sign symbol.Dot)

  test_there : (ts : List Token) → follow_at ts ≡ follow.Tests → heads (cue_is (cue.Pair pair.WithPattern)) ts ≡ true
  test_there [] e = absurd cc
  test_there (p ∷ ts) e = ap (cue_is (cue.Pair pair.WithPattern)) (tests_is p.kind e) ∙ cue_self
      (cue.Pair pair.WithPattern)

  pub goes_allowed : (s : Measured) (ts : List Token) → goes_past b k s ts ≡ true → (f : Follow) → follow_at ts ≡ f
      → allowed s f ≡ true
  goes_allowed s ts h f e = by f e (ap (λ (g : Follow). goes_so b k s.strength g ts) (sym e) ∙ (both_are _ _ h).1)
    where
      dotless : not (is_bare (phrase s.node) && heads (is_sign symbol.Dot) ts) ≡ true
      dotless = (both_are (not (is_bare (phrase s.node) && heads (is_sign symbol.Dot) ts)) (goes_on b k s ts) h).0

      bare_not : (c d : Bool) → d ≡ true → not (c && d) ≡ true → not c ≡ true
      bare_not true true e h = absurd cc
      bare_not true false e h = absurd cc
      bare_not false d e h = refl

      tests : (x y z : Bool) → (x && (y && z)) ≡ true → (x && y) ≡ true
      tests true true z h = refl
      tests true false z h = absurd cc
      tests false y z h = absurd cc

      by : (f : Follow) → follow_at ts ≡ f → goes_so b k s.strength f ts ≡ true → allowed s f ≡ true
      by (follow.Operated o) e g = g
      by follow.Dotted e g =
          both_true (nat_le 9 s.strength) (not (is_bare (phrase s.node))) g
          (bare_not (is_bare (phrase s.node)) (heads (is_sign symbol.Dot) ts) (dot_there ts e) dotless)
      by follow.Tests e g = tests (nat_le k 4) (nat_le 5 s.strength) (not (ends_test b ts)) g
      by follow.Other e g = g

  pick_is : (s : Measured) (f : Follow) → allowed s f ≡ true → pick s f ≡ reader_at s f
  pick_is s f e = ap (λ (c : Bool). if c then reader_at s f else nothing) e

  moves_at : (s : Measured) (ts : List Token) (f : Follow) → follow_at ts ≡ f → allowed s f ≡ true
      → length (left_of (reader_at s f ts)) < length ts
  moves_at s ts (follow.Operated o) e h =
      moves_one (word_of (cue_of o)) _ ts (operated_shrinks s o) (word_there (cue_of o) ts (operator_there o ts e))
  moves_at s ts follow.Dotted e h =
      moves_one (word_of (cue.Sign symbol.Dot)) _ ts (λ p us. selected_shrinks s us)
      (word_there (cue.Sign symbol.Dot) ts (dot_there ts e))
  moves_at s ts follow.Tests e h =
      moves_one (word_of (cue.Pair pair.WithPattern)) _ ts (tested_shrinks s)
      (word_there (cue.Pair pair.WithPattern) ts (test_there ts e))
  moves_at s ts follow.Other e h = absurd cc

  turn_moves : (s : Measured) (ts : List Token) → goes_past b k s ts ≡ true
      → length (left_of (inner_turn s ts)) < length ts
  turn_moves s ts h =
      let e = goes_allowed s ts h (follow_at ts) refl in
      subst (λ (r : Reader Measured). length (left_of (r ts)) < length ts) (sym (pick_is s (follow_at ts) e))
      (moves_at s ts (follow_at ts) refl e)

  takes_at : (s z : Measured) (ts left : List Token) (f : Follow) → reader_at s f ts ≡ Reads z left
      → length left < length ts
  takes_at s z ts left (follow.Operated o) e =
      takes_one (word_of (cue_of o)) _ ts left z (operated_shrinks s o) e
  takes_at s z ts left follow.Dotted e =
      takes_one (word_of (cue.Sign symbol.Dot)) _ ts left z (λ p us. selected_shrinks s us) e
  takes_at s z ts left follow.Tests e =
      takes_one (word_of (cue.Pair pair.WithPattern)) _ ts left z (tested_shrinks s) e
  takes_at s z ts left follow.Other e = absurd cc

  turn_takes : (s z : Measured) (ts left : List Token) → inner_turn s ts ≡ Reads z left → length left < length ts
  turn_takes s z ts left e = by (allowed s (follow_at ts)) e
    where
      by : (c : Bool) → (if c then reader_at s (follow_at ts) else nothing) ts ≡ Reads z left → length left < length ts
      by true e = takes_at s z ts left (follow_at ts) e
      by false e = absurd cc

  -- ---- the loop

  abbrev pub Out : Measured → List Token → Type 0
  Out s v = MayFollow b k s v

  abbrev pub loop : loops.Loop Measured Step
  loop = record {
    goes = goes_past b k;
    put = put;
    Good = Good;
    Low = LowAs;
    Out = Out;
    More = λ s v. goes_past b k s v ≡ true;
    looks = looks_of b;
    FitsOne = FitsOne k;
    row_one = step_parts;
  }

  abbrev pub inner_step : Measured → Reader Step
  inner_step s = (climbed.turn_read ex room right kept b k le {K = Unit {0}} s).reader

  abbrev pub one_step : Measured → Reader Step
  one_step s = behind_whole (inner_step s)

  abbrev pub turn : Measured → Reader Measured
  turn s = behind_whole (inner_turn s)

  fallen_reads : {A : Type 0} (ts : List Token) (o : Parsed A) (x : A) (left : List Token) → fallen ts o ≡ Reads x left
      → o ≡ Reads x left
  fallen_reads ts (Fails l deep whole) x left e = absurd cc
  fallen_reads ts (Reads y l) x left e = e

  pub turning : loops.Turning loop one_step
  turning = record {
    right =
        λ s bound good low us e. behind_right (λ x. LowAs (put s x)) (λ x v. NextAt b k (put s x) v) (looks_of b)
        (FitsOne k s) step_parts bound (inner_step s)
        ((climbed.turn_read ex room right kept b k le s).right (good, (us, e)) low bound);
    begins = λ s x w v f i. step_goes b k s x w v f i;
    leads = λ s v h. h;
    stops = λ s v o. stops_at b k s v le o;
    ends = λ s. second_false _ _ refl;
    sees = λ s p ps qs g. seen_past b k s (p ∷ ps) (p ∷ qs) (agree_past (looks_of b) p ps qs g);
    sees_past = λ s ls others g. seen_past b k s ls others g;
    moves =
        λ s ts h. omega (
          arith,
          turn_moves s ts h,
          ap length (left_mapped (put s) (inner_step s ts) (inner_turn s ts)
              ((climbed.turn_read ex room right kept b k le s).maps ts)),
          ap length (left_fallen ts (inner_step s ts)),
        );
    takes =
        λ s ts x left e. turn_takes s (put s x) ts left
        ((climbed.turn_read ex room right kept b k le {K = Unit {0}} s).maps ts
        ∙ ap (λ (o : Parsed Step). after o (λ y. pure (put s y))) (fallen_reads ts (inner_step s ts) x left e));
    grows = λ s x low. grows s x low;
    stays = λ s x f g. taller s x;
  }
    where
      grows : (s : Measured) (x : Step) → LowAs (put s x) → LowAs s
      grows s (Operates o p e) low = omega (arith, low)
      grows s (Selects w) low = omega (arith, low)
      grows s (TestsFor p c) low = omega (arith, low)

      taller : (s : Measured) (x : Step) → Good (put s x)
      taller s (Operates o p e) = omega arith
      taller s (Selects w) = omega arith
      taller s (TestsFor p c) = omega arith

  pub same : (s : Measured) (ts : List Token) → turn s ts ≡ lists.turn (goes_past b k) one_step put s ts
  same s ts = fallen_mapped (put s) ts (inner_step s ts) (inner_turn s ts)
      ((climbed.turn_read ex room right kept b k le s).maps ts)

  pub inner_kept : (s : Measured) (bound : ℕ) → Good s → LowAs s → (us : List Token) → goes_past b k s us ≡ true
      → KeepsWhole (λ x. LowAs (put s x)) bound (FitsOne k s) step_parts (inner_step s)
  inner_kept s bound good low us e = (climbed.turn_read ex room right kept b k le {K = Unit {0}} s).keeps tt
      (good, (us, e)) low bound
