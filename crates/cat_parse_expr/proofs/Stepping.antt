-- The readers of the steps behind a whole expression.
use Rattle.std.proofs.Common.{◌≡◌, ℕ, suc, ◌≤◌, max, Bool, true, false, nat_le, if◌then◌else◌, List, refl, sym, ap}
use Rattle.std.proofs.Common.{subst, arith}
use Rattle.std.proofs.lemmas.Bool.Decides.{nat_tests}
use Rattle.cat_lex.specs.declared.token.TokenKind.TheVariants as kind
use Rattle.cat_lex.specs.declared.words.DoubleKeyword.TheVariants as pair
use Rattle.cat_lex.specs.declared.symbol.Symbol.TheVariants as symbol
use Rattle.cat_tree.specs.Wording as wording
use Rattle.cat_parse_expr.specs.declared.cue.Cue.TheVariants as cue
use Rattle.cat_parse_expr.specs.declared.follow.Follow.TheVariants as follow
use Rattle.cat_parse_expr.specs.Steps as steps
use Rattle.cat_parse_expr.proofs.Common.{Pos, Token, TokenKind, Name, CaseName, Bare, Qualified, Operator, case_parts}
use Rattle.cat_parse_expr.proofs.Common.{operator_level, left_level, Parts, End, Word, At, AreLevelled, AreSpelled, ◌▹◌}
use Rattle.cat_parse_expr.proofs.Common.{part, pair_at, phrase, Behind, Follow, Measured, room_beside, nothing_at}
use Rattle.cat_parse_expr.proofs.Common.{kind_of, «word», MayFollow, looks_of, KeepsWhole, Lower, Reader, ◌⨟◌, pure, Is}
use Rattle.cat_parse_expr.proofs.Common.{IsMeasured, IsLow, operand_row, AreRight}
use Rattle.cat_parse_expr.proofs.Chains.{Step, Operates, Selects, TestsFor, put, step_parts}
use Rattle.cat_parse_expr.proofs.Choices.{Recast}
use Rattle.cat_parse_expr.proofs.Firsts.{is_bare}
use Rattle.cat_parse_expr.proofs.Follows.{operator_ends, one_level}
use Rattle.cat_parse_expr.proofs.NoRoom.{nothing_read}
use Rattle.cat_parse_expr.proofs.Operands.{Next, ending_next, end_read}
use Rattle.cat_parse_expr.proofs.Patterns.{case_first, case_rest, whole_case_read}
use Rattle.cat_parse_expr.proofs.Read.{IsRead, pure_read}
use Rattle.cat_parse_expr.proofs.Sequels.{last_read}
use Rattle.cat_parse_expr.proofs.Shaping.{recast_read}
use Rattle.cat_parse_expr.proofs.Tuples.{two}
use Rattle.cat_parse_expr.proofs.Worded.{word_read, word_at_read, lower_room_read, upper_room_read}
use Rattle.cat_parse_expr.proofs.StepWords.{cue_of, operator_word, or_that, follow_in, FitsOne, no_dot}

module _ (ex : Lower) (room : ℕ) (right : AreRight room ex)
    (kept : (b : Behind) (j bound : ℕ) → j ≤ 9 → KeepsWhole (IsLow room) bound IsMeasured (operand_row j) (ex b j))
    (b : Behind) (k : ℕ) (le : k ≤ 9) (s : Measured) where
  abbrev pub Low : Measured → Type 0
  Low m = m.height ≤ suc room

  abbrev pub Low_step : Step → Type 0
  Low_step x = Low (put s x)

  abbrev pub Next_step : Step → List Token → Type 0
  Next_step x v = Next b k (put s x) v

  abbrev pub Of_follow : Follow → Step → Type 0
  Of_follow f x = FitsOne k s x × (follow_in x ≡ f)

  abbrev pub ReadsStep : (K F : Type 0) → (Step → Type 0) → Reader Measured → Type 0
  ReadsStep K F fits r = IsRead (put s) K F (Low s) Low_step Next_step (looks_of b) fits step_parts r

  -- ---- o E

  beside_low : (j : ℕ) → j ≤ 9 → {K : Type 0}
      → IsRead (λ (y : Measured). y) K (Unit {0}) (Unit {0}) (λ e. max s.height e.height ≤ room) (MayFollow b j)
      (looks_of b) IsMeasured (operand_row j) (steps.beside ex room s b j)
  beside_low j high = by (nat_le s.height room) refl
    where
      by : {K : Type 0} (c : Bool) → nat_le s.height room ≡ c
          → IsRead (λ (y : Measured). y) K (Unit {0}) (Unit {0}) (λ e. max s.height e.height ≤ room) (MayFollow b j)
          (looks_of b) IsMeasured (operand_row j) (if c then ex b j else nothing_at j)
      by false e =
          nothing_read (λ y. max s.height y.height ≤ room) (MayFollow b j) (looks_of b) j high
          (λ y m low. above (omega (arith, low)))
        where
          above : s.height ≤ room → ⊥
          above h = grind (arith, nat_tests, e, h)
      by true e =
          recast_read _ _ _ _ (λ y. y) (λ y. refl) (λ f. f) (λ f c. c) (λ f x w i. i)
          (λ f c. record {
            to = λ x w i. i;
            from = λ y w i. (y, refl, i);
            lows = λ x fit l. omega (arith, l, below);
            back = λ x fit l. omega (arith, l);
            outside = λ x v fit o. o;
          })
          (end_read ex room right b j high (λ bound. kept b j bound high))
        where
          below : s.height ≤ room
          below = grind (arith, nat_tests, e)

  abbrev operating : Operator → Reader Measured
  operating o =
      «word» (cue_of o) ⨟ λ p. steps.beside ex room s b (suc (operator_level o)) ⨟ λ e. pure (put s (Operates o p e))

  operation_row : (o : Operator) (t : Pos × Measured)
      → Word (At (kind_of (cue_of o)) t.0) (part (suc (operator_level o)) (phrase t.1.node) ▹ End)
      ≡ step_parts (Operates o t.0 t.1)
  operation_row o t =
      ap (λ (q : TokenKind). Word (At q t.0) (part (suc (operator_level o)) (phrase t.1.node) ▹ End))
      (operator_word o).0

  operation_cast : (o : Operator) → k ≤ operator_level o → left_level o ≤ s.strength
      → Recast (λ (t : Pos × Measured). Low_step (Operates o t.0 t.1)) Low_step
      (λ t v. Next_step (Operates o t.0 t.1) v) Next_step (λ t. IsMeasured t.1) (Of_follow (follow.Operated o))
      (λ t. Word (At (kind_of (cue_of o)) t.0) (part (suc (operator_level o)) (phrase t.1.node) ▹ End)) step_parts
      (λ t. Operates o t.0 t.1)
  operation_cast o low strong = record {
    to =
        λ t w i. record {
          fit = ((low, strong, i.fit), refl);
          levels = subst AreLevelled (operation_row o t) i.levels;
          spelled = subst (λ (ps : Parts). AreSpelled ps w) (operation_row o t) i.spelled;
        };
    from = from;
    lows = λ t fit l. l;
    back = λ t fit l. l;
    outside = λ t v fit o. o;
  }
    where
      from : (y : Step) (w : List Token) → Is (Of_follow (follow.Operated o)) step_parts y w → (t : Pos × Measured)
          × (y ≡ Operates o t.0 t.1)
          × Is (λ (t : Pos × Measured). IsMeasured t.1)
          (λ t. Word (At (kind_of (cue_of o)) t.0) (part (suc (operator_level o)) (phrase t.1.node) ▹ End)) t w
      from (Operates x p e) w i =
          let same : x ≡ o = ap (or_that x) i.fit.1 in (
            (p, e),
            ap (λ (z : Operator). Operates z p e) same,
            record {
              fit = i.fit.0.2;
              levels =
                  subst AreLevelled (sym (operation_row o (p, e)))
                  (subst (λ (z : Operator). AreLevelled (step_parts (Operates z p e))) same i.levels);
              spelled =
                  subst (λ (ps : Parts). AreSpelled ps w) (sym (operation_row o (p, e)))
                  (subst (λ (z : Operator). AreSpelled (step_parts (Operates z p e)) w) same i.spelled);
            },
          )
      from (Selects x) w i = absurd (no_operator i.fit.1)
        where
          no_operator : follow.Dotted ≡ follow.Operated o → ⊥
          no_operator h = absurd cc
      from (TestsFor p c) w i = absurd (no_operator i.fit.1)
        where
          no_operator : follow.Tests ≡ follow.Operated o → ⊥
          no_operator h = absurd cc

  pub operated_read : {K F : Type 0} (o : Operator) → k ≤ operator_level o → left_level o ≤ s.strength
      → ReadsStep K F (Of_follow (follow.Operated o)) (operating o)
  operated_read o low strong =
      recast_read _ _ _ _ (λ t. Operates o t.0 t.1) (λ t. refl) (λ f. f) (λ f c. c)
      (λ f. (operation_cast o low strong).to)
      (λ f c. operation_cast o low strong)
      (word_at_read (cue_of o) (λ t. t.0) _ _
      (λ p. last_read (λ t. t.1) (λ e. (p, e)) _
      (beside_low (suc (operator_level o)) (omega (arith, (one_level o).3))) (λ x ts. refl)
      (record {
        fit = λ y f. f.0;
        built = λ f x m. (m, refl);
        has = λ x. refl;
        only = λ f y h. two y p h.1;
        lows = λ f c x m l. omega (arith, l);
        part = λ f x m l. omega (arith, l);
        outside =
            λ f x v m n. ending_next b k (put s (Operates o p x)) (operator_level o) (suc (operator_level o)) x v
            (operator_ends k o low) refl refl n;
      })))

  -- ---- . w

  beside_small : 1 ≤ room_beside room s → s.height ≤ room
  beside_small = by (nat_le s.height room) refl
    where
      by : (c : Bool) → nat_le s.height room ≡ c → 1 ≤ (if c then room else 0) → s.height ≤ room
      by true e h = grind (arith, nat_tests, e)
      by false e h = absurd (omega (arith, h))

  beside_none : 1 ≤ s.height → room_beside room s ≡ 0 → s.height ≤ room → ⊥
  beside_none tall = by (nat_le s.height room) refl
    where
      by : (c : Bool) → nat_le s.height room ≡ c → (if c then room else 0) ≡ 0 → s.height ≤ room → ⊥
      by true e h l = omega (arith, h, l, tall)
      by false e h l = grind (arith, nat_tests, e, l)

  selection_cast : 9 ≤ s.strength → is_bare (phrase s.node) ≡ false
      → Recast (λ (w : Name). Low_step (Selects w)) Low_step (λ w v. Next_step (Selects w) v) Next_step (λ w. Unit {0})
      (Of_follow follow.Dotted) (λ w. wording.sign symbol.Dot ▹ wording.lower w ▹ End) step_parts Selects
  selection_cast strong plain = record {
    to = λ t w i. record { fit = ((strong, plain), refl); levels = i.levels; spelled = i.spelled };
    from = from;
    lows = λ t fit l. l;
    back = λ t fit l. l;
    outside = λ t v fit o. o;
  }
    where
      from : (y : Step) (w : List Token) → Is (Of_follow follow.Dotted) step_parts y w → (t : Name) × (y ≡ Selects t)
          × Is (λ (t : Name). Unit {0}) (λ t. wording.sign symbol.Dot ▹ wording.lower t ▹ End) t w
      from (Selects x) w i = (x, refl, record { fit = tt; levels = i.levels; spelled = i.spelled })
      from (Operates x p e) w i = absurd (no_dot i.fit.1)
        where
          no_dot : follow.Operated x ≡ follow.Dotted → ⊥
          no_dot h = absurd cc
      from (TestsFor p c) w i = absurd (no_dot i.fit.1)
        where
          no_dot : follow.Tests ≡ follow.Dotted → ⊥
          no_dot h = absurd cc

  pub selected_read : {K F : Type 0} → (F → 1 ≤ s.height) → 9 ≤ s.strength → is_bare (phrase s.node) ≡ false
      → ReadsStep K F (Of_follow follow.Dotted) (steps.selected ex room s)
  selected_read tall strong plain =
      recast_read _ _ _ _ Selects (λ t. refl) (λ f. f) (λ f c. c) (λ f. (selection_cast strong plain).to)
      (λ f c. selection_cast strong plain)
      (word_read (cue.Sign symbol.Dot) _ _
      (λ p. lower_room_read (room_beside room s) (λ w. w) _ _
      (λ none f c y m low. beside_none (tall f) none (omega (arith, low)))
      (λ w. pure_read w (λ f. (tt, refl)) (λ f c. small (beside_small c.1)) (λ y f h. h.1))))
    where
      small : s.height ≤ room → suc s.height ≤ suc room
      small h = omega (arith, h)

  -- ---- with pattern C

  case_row : (c : CaseName) → Word (At (kind.Upper (case_first c).text) (case_first c).pos) (case_rest c)
      ≡ case_parts c End
  case_row (Bare u) = refl
  case_row (Qualified d u) = refl

  abbrev test_row : Pos × CaseName → Parts
  test_row t =
      pair_at pair.WithPattern t.0
      ▹ Word (At (kind.Upper (case_first t.1).text) (case_first t.1).pos) (case_rest t.1)

  test_row_is : (t : Pos × CaseName) → test_row t ≡ step_parts (TestsFor t.0 t.1)
  test_row_is t = ap (λ (ps : Parts). pair_at pair.WithPattern t.0 ps) (case_row t.1)

  test_cast : k ≤ 4 → 5 ≤ s.strength
      → Recast (λ (t : Pos × CaseName). Low_step (TestsFor t.0 t.1)) Low_step
      (λ t v. Next_step (TestsFor t.0 t.1) v) Next_step (λ t. Unit {0}) (Of_follow follow.Tests) test_row step_parts
      (λ t. TestsFor t.0 t.1)
  test_cast low strong = record {
    to =
        λ t w i. record {
          fit = ((low, strong), refl);
          levels = subst AreLevelled (test_row_is t) i.levels;
          spelled = subst (λ (ps : Parts). AreSpelled ps w) (test_row_is t) i.spelled;
        };
    from = from;
    lows = λ t fit l. l;
    back = λ t fit l. l;
    outside = λ t v fit o. o;
  }
    where
      from : (y : Step) (w : List Token) → Is (Of_follow follow.Tests) step_parts y w → (t : Pos × CaseName)
          × (y ≡ TestsFor t.0 t.1) × Is (λ (t : Pos × CaseName). Unit {0}) test_row t w
      from (TestsFor p c) w i = (
        (p, c),
        refl,
        record {
          fit = tt;
          levels = subst AreLevelled (sym (test_row_is (p, c))) i.levels;
          spelled = subst (λ (ps : Parts). AreSpelled ps w) (sym (test_row_is (p, c))) i.spelled;
        },
      )
      from (Operates x p e) w i = absurd (no_test i.fit.1)
        where
          no_test : follow.Operated x ≡ follow.Tests → ⊥
          no_test h = absurd cc
      from (Selects x) w i = absurd (no_test i.fit.1)
        where
          no_test : follow.Dotted ≡ follow.Tests → ⊥
          no_test h = absurd cc

  pub tested_read : {K F : Type 0} → (F → 1 ≤ s.height) → k ≤ 4 → 5 ≤ s.strength
      → ReadsStep K F (Of_follow follow.Tests) (steps.tested ex room s)
  tested_read tall low strong =
      recast_read _ _ _ _ (λ t. TestsFor t.0 t.1) (λ t. refl) (λ f. f) (λ f c. c) (λ f. (test_cast low strong).to)
      (λ f c. test_cast low strong)
      (word_at_read (cue.Pair pair.WithPattern) (λ t. t.0) _ _
      (λ p. upper_room_read (room_beside room s) (λ t. case_first t.1) (λ t. case_rest t.1) _
      (λ none f c y m low. beside_none (tall f) none (omega (arith, low)))
      (λ u. last_read (λ t. t.1) (λ c. (p, c)) _ (whole_case_read u) (λ x ts. refl)
      (record {
        fit = λ y f. f.1;
        built = λ f x m. ((tt, refl), m);
        has = λ x. refl;
        only = λ f y h. two y p h.0.1;
        lows = λ f c x m l. small (beside_small c.1);
        part = λ f x m l. tt;
        outside = λ f x v m n. no_dot b k (put s (TestsFor p x)) x v le refl n;
      }))))
    where
      small : s.height ≤ room → suc s.height ≤ suc room
      small h = omega (arith, h)
