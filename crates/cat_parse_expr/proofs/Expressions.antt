-- Expressions are read rightly, and the longest front that is whole is kept.
use Rattle.std.proofs.Common.{◌≡◌, ℕ, zero, suc, ◌≤◌, Bool, true, false, not, ◌&&◌, if◌then◌else◌, List, [], ◌∷◌, ◌++◌}
use Rattle.std.proofs.Common.{length, None, Some, refl, sym, ap, subst, ◌∙◌, arith}
use Rattle.std.proofs.lemmas.List.{append-nil}
use Rattle.cat_lex.specs.declared.symbol.Symbol.TheVariants as symbol
use Rattle.cat_parse_expr.specs.declared.follow.Follow.TheVariants as follow
use Rattle.cat_parse_expr.specs.Climbing as climbing
use Rattle.cat_parse_expr.specs.Steps as steps
use Rattle.cat_parse_expr.specs.Climbing.{operand}
use Rattle.cat_parse_expr.proofs.Common.{Parts, Token, operator_level, phrase, Behind, Follow, Measured, goes_on}
use Rattle.cat_parse_expr.proofs.Common.{nothing_at, cue_is, MayFollow, looks_of, KeepsWhole, follow_at, Lower, is_sign}
use Rattle.cat_parse_expr.proofs.Common.{Parsed, Fails, Reads, Reader, ◌⨟◌, pure, nothing, after, heads, Is, IsRight}
use Rattle.cat_parse_expr.proofs.Common.{IsMeasured, IsLow, operand_row, AreRight, fallen, made_of, turns, as_many}
use Rattle.cat_parse_expr.proofs.Common.{IsSpelling}
use Rattle.cat_parse_expr.proofs.Chains.{Step, Operates, put, put_all, steps_spelled}
use Rattle.cat_parse_expr.proofs.Choices.{Recast}
use Rattle.cat_parse_expr.proofs.Firsts.{is_bare}
use Rattle.cat_parse_expr.proofs.Follows.{tall_enough}
use Rattle.cat_parse_expr.proofs.Leaves.{cue_self}
use Rattle.cat_parse_expr.proofs.NoRoom.{nothing_read}
use Rattle.cat_parse_expr.proofs.Operands.{goes_past, Placed}
use Rattle.cat_parse_expr.proofs.Read.{IsRead}
use Rattle.cat_parse_expr.proofs.StepWords.{cue_of, operator_word, operator_is}
use Rattle.cat_parse_expr.proofs.Chosen.{same_read}
use Rattle.cat_parse_expr.proofs.Climbed.{step_not_bare}
use Rattle.cat_parse_expr.proofs.ShortListReaders.{near_right, near_keeps}
use Rattle.cat_parse_expr.proofs.Primary.{primary_read}
use Rattle.cat_parse_expr.proofs.Shaping.{made_read}
use Rattle.cat_parse_expr.proofs.Spines.{FitsAll, all_measured, all_stood, spine}
use Rattle.cat_parse_expr.proofs.Truth.{first_false}
use Rattle.cat_parse_expr.proofs.NoDotBehind.{AreKept, bare_stops}
use Rattle.cat_parse_expr.proofs.Loops as loops
use Rattle.cat_parse_expr.proofs.Chaining as chaining
use Rattle.cat_parse_expr.proofs.Climbed as climbed
use Rattle.cat_parse_expr.proofs.Climber as climber
use Rattle.cat_parse_expr.proofs.Looping as looping

module _ (ex : Lower) (room : ℕ) (right : AreRight room ex) (kept : AreKept room ex) (b : Behind) (k : ℕ)
    (le : k ≤ 9) where
  abbrev one : Measured → Reader Step
  one = climber.one_step ex room right kept b k le

  abbrev turn : Measured → Reader Measured
  turn = climber.turn ex room right kept b k le

  abbrev prim : Reader Measured
  prim = climbing.primary ex room b k

  -- ---- climbing goes by steps that fit

  step_is : (s : Measured) (ts : List Token) (f : Follow) → follow_at ts ≡ f
      → climbed.allowed ex room right kept b k le s f ≡ true
      → steps.step_by ex room b s f ts ≡ climbed.pick ex room right kept b k le s f ts
  step_is s ts f e h =
      by ts f e
      ∙ sym (ap (λ (c : Bool). (if c then climbed.reader_at ex room right kept b k le s f else nothing) ts) h)
    where
      by : (ts : List Token) (f : Follow) → follow_at ts ≡ f
          → steps.step_by ex room b s f ts ≡ climbed.reader_at ex room right kept b k le s f ts
      by [] (follow.Operated o) e = absurd cc
      by (p ∷ us) (follow.Operated o) e =
          ap (λ (c : Bool). after (made_of (if c then Some p.pos else None) (p ∷ us) us)
          (λ q. steps.beside ex room s b (suc (operator_level o)) ⨟ λ e. pure (put s (Operates o q e))))
          (sym (ap (cue_is (cue_of o)) (operator_is p.kind o e ∙ sym (operator_word o).0) ∙ cue_self (cue_of o)))
      by ts follow.Dotted e = refl
      by ts follow.Tests e = refl
      by ts follow.Other e = refl

  turns_climb : (n : ℕ) (s : Measured) (ts : List Token) → (is_bare (phrase s.node) && heads (is_sign symbol.Dot) ts)
      ≡ false
      → turns (goes_on b k) (steps.step ex room b) n s ts ≡ turns (goes_past b k) turn n s ts
  turns_climb zero s ts c = refl
  turns_climb (suc n) s ts c =
      by (λ z us d. turns_climb n z us d) (goes_on b k s ts) refl
    where
      past_on : goes_past b k s ts ≡ goes_on b k s ts
      past_on = ap (λ (z : Bool). not z && goes_on b k s ts) c

      rests : ((z : Measured) (us : List Token) → (is_bare (phrase z.node) && heads (is_sign symbol.Dot) us) ≡ false
          → turns (goes_on b k) (steps.step ex room b) n z us ≡ turns (goes_past b k) turn n z us)
          → (o : Parsed Step)
          → after (after o (λ x. pure (put s x))) (turns (goes_on b k) (steps.step ex room b) n)
          ≡ after (after o (λ x. pure (put s x))) (turns (goes_past b k) turn n)
      rests rest (Fails l d w) = refl
      rests rest (Reads x l) =
          rest (put s x) l (first_false (is_bare (phrase (put s x).node)) (heads (is_sign symbol.Dot) l)
          (step_not_bare s x))

      by : ((z : Measured) (us : List Token) → (is_bare (phrase z.node) && heads (is_sign symbol.Dot) us) ≡ false
          → turns (goes_on b k) (steps.step ex room b) n z us ≡ turns (goes_past b k) turn n z us)
          → (d : Bool) → goes_on b k s ts ≡ d
          → (if goes_on b k s ts then after (steps.step ex room b s ts)
          (turns (goes_on b k) (steps.step ex room b) n)
          else Reads s ts)
          ≡ (if goes_past b k s ts then after (turn s ts) (turns (goes_past b k) turn n) else Reads s ts)
      by rest false e =
          ap (λ (d : Bool). if d then after (steps.step ex room b s ts)
          (turns (goes_on b k) (steps.step ex room b) n)
          else Reads s ts) e
          ∙ sym (ap (λ (d : Bool). if d then after (turn s ts) (turns (goes_past b k) turn n) else Reads s ts)
          (past_on ∙ e))
      by rest true e =
          ap (λ (d : Bool). if d then after (steps.step ex room b s ts)
          (turns (goes_on b k) (steps.step ex room b) n)
          else Reads s ts) e
          ∙ ap (λ (o : Parsed Measured). after (fallen ts o) (turns (goes_on b k) (steps.step ex room b) n))
          (step_is s ts (follow_at ts) refl (climber.goes_allowed ex room right kept b k le s ts (past_on ∙ e)
          (follow_at ts) refl))
          ∙ ap (λ (o : Parsed Measured). after o (turns (goes_on b k) (steps.step ex room b) n))
          (climber.same ex room right kept b k le s ts)
          ∙ rests rest (one s ts)
          ∙ ap (λ (o : Parsed Measured). after o (turns (goes_past b k) turn n))
          (sym (climber.same ex room right kept b k le s ts))
          ∙ sym (ap (λ (d : Bool). if d then after (turn s ts) (turns (goes_past b k) turn n) else Reads s ts)
          (past_on ∙ e))

  climb_same : (ts : List Token) → climbing.climb ex room b k ts
      ≡ (prim ⨟ λ z. as_many (goes_past b k) turn z) ts
  climb_same ts = by (prim ts) refl
    where
      by : (o : Parsed Measured) → prim ts ≡ o
          → after o (as_many (goes_on b k) (steps.step ex room b)) ≡ after o (λ z. as_many (goes_past b k) turn z)
      by (Fails l d w) e = refl
      by (Reads a left) e = turns_climb (length left) a left (bare_stops ex room right kept b k le ts left a e)

  -- ---- as expressions

  abbrev Chain : Type 0
  Chain = Measured × List Step

  abbrev loop : loops.Loop Measured Step
  loop = climber.loop ex room right kept b k le

  abbrev head : chaining.Head Measured Measured Measured
  head = record { made = λ a. a; Low = IsLow (suc room); Fits = Placed k; row = operand_row k; begin = λ z. z }

  abbrev fits_chain : Chain → Type 0
  fits_chain = chaining.fits_chain loop one head

  abbrev row_chain : Chain → Parts
  row_chain = chaining.row_chain loop one head

  to_all : (s : Measured) (xs : List Step) → loops.FitsFrom loop one s xs → FitsAll k s xs
  to_all s [] f = tt
  to_all s (x ∷ xs) f = (f.0, to_all (put s x) xs f.1)

  from_all : (s : Measured) (xs : List Step) → FitsAll k s xs → loops.FitsFrom loop one s xs
  from_all s [] f = tt
  from_all s (x ∷ xs) f = (f.0, from_all (put s x) xs f.1)

  to_operand : (y : Chain) (w : List Token) → Is fits_chain row_chain y w
      → Is IsMeasured (operand_row k) (put_all y.0 y.1) w
  to_operand y w i =
      let f = to_all y.0 y.1 i.fit.1 in
      let m = i.fit.0.measured in
      let st = all_stood k y.0 y.1 le m f (i.levels.0, i.levels.1) i.levels.2 in
      let s = i.spelled in
      record {
        fit = all_measured k y.0 y.1 m f;
        levels = (st.0, st.1, tt);
        spelled = (
          w,
          [],
          sym (append-nil w),
          subst (IsSpelling (phrase (put_all y.0 y.1).node)) (sym s.2) (steps_spelled y.0 y.1 s.0 s.1 s.3 s.4),
          refl,
        );
      }

  from_operand : (y : Measured) (w : List Token) → Is IsMeasured (operand_row k) y w
      → (c : Chain) × (y ≡ put_all c.0 c.1) × Is fits_chain row_chain c w
  from_operand y w i =
      let s = i.spelled in
      let sp = spine y.node k s.0 le i.levels.1 i.levels.0 s.3 in (
        (sp.first, sp.steps),
        i.fit ∙ sp.is,
        record {
          fit = (sp.placed, from_all sp.first sp.steps sp.fits);
          levels = (sp.placed.level, sp.levels, sp.rows);
          spelled = (
            sp.front,
            sp.rest,
            s.2 ∙ ap (λ (z : List Token). s.0 ++ z) s.4 ∙ append-nil s.0 ∙ sp.text,
            sp.spelled,
            sp.words,
          );
        },
      )

  cast : Recast (chaining.Low_chain loop one head) (IsLow (suc room)) (chaining.Out_chain loop one head) (MayFollow b k)
      fits_chain IsMeasured row_chain (operand_row k) (chaining.chain_of loop one head)
  cast = record {
    to = to_operand;
    from = from_operand;
    lows = λ y fit l. l;
    back = λ y fit l. l;
    outside = λ y v fit o. o;
  }

  -- an operand, and the operators behind it
  pub climb_read : {K : Type 0} → IsRead (λ y. y) K (Unit {0}) (Unit {0}) (IsLow (suc room)) (MayFollow b k)
      (looks_of b)
      IsMeasured (operand_row k) (climbing.climb ex room b k)
  climb_read =
      same_read (prim ⨟ λ z. as_many (goes_past b k) turn z) (climbing.climb ex room b k) climb_same
      (made_read _ _ _ _ (λ f. f) (λ f c. c) (λ f. to_operand) (λ f c. cast)
      (chaining.chain_read loop one head (climber.turning ex room right kept b k le) turn
      (climber.same ex room right kept b k le)
      (record {
        good = λ a f. tall_enough a f.measured;
        low = λ a f l. l;
        back = λ a f l. l;
      })
      prim (primary_read ex room right kept b k le)
      (λ q. looping.loop_keeps loop one (climber.turning ex room right kept b k le)
      (climber.inner_step ex room right kept b k le) (λ s ts. refl) (climber.inner_kept ex room right kept b k le))
      (λ q. looping.loop_far loop one (climber.turning ex room right kept b k le)
      (climber.inner_step ex room right kept b k le) (λ s ts. refl) (climber.inner_kept ex room right kept b k le))))

-- ---- by the room that is left

plain_right : (room bound : ℕ) (b : Behind) (k : ℕ) (s : Reader Measured)
    → IsRead (λ y. y) (Unit {0}) (Unit {0}) (Unit {0}) (IsLow room) (MayFollow b k) (looks_of b) IsMeasured
    (operand_row k) s
    → IsRight (IsLow room) bound (MayFollow b k) (looks_of b) IsMeasured (operand_row k) s
plain_right room bound b k s h =
    near_right (IsLow room) bound (MayFollow b k) (looks_of b) IsMeasured (operand_row k) h.reader s
    (λ ts le. by (h.reader ts) ∙ sym (h.maps ts)) (h.right tt tt bound)
  where
    by : (o : Parsed Measured) → o ≡ after o pure
    by (Fails l d w) = refl
    by (Reads x l) = refl

plain_keeps : (room bound : ℕ) (b : Behind) (k : ℕ) (s : Reader Measured)
    → IsRead (λ y. y) (Unit {0}) (Unit {0}) (Unit {0}) (IsLow room) (MayFollow b k) (looks_of b) IsMeasured
    (operand_row k) s
    → KeepsWhole (IsLow room) bound IsMeasured (operand_row k) s
plain_keeps room bound b k s h =
    near_keeps (IsLow room) bound IsMeasured (operand_row k) h.reader s
    (λ ts le. by (h.reader ts) ∙ sym (h.maps ts)) (h.keeps tt tt tt bound)
  where
    by : (o : Parsed Measured) → o ≡ after o pure
    by (Fails l d w) = refl
    by (Reads x l) = refl

-- expressions are read rightly up to each height, and their longest front is kept
pub operands_read : (room : ℕ) → AreRight room (operand room) × AreKept room (operand room)
unfolding operand
operands_read zero = (
  λ b k bound le. plain_right 0 bound b k (nothing_at k)
      (nothing_read (IsLow 0) (MayFollow b k) (looks_of b) k le high),
  λ b k bound le. plain_keeps 0 bound b k (nothing_at k)
      (nothing_read (IsLow 0) (MayFollow b k) (looks_of b) k le high),
)
  where
    high : (y : Measured) → IsMeasured y → IsLow 0 y → ⊥
    high y m low = omega (arith, low, tall_enough y m)
operands_read (suc room) =
    let lower = operands_read room in (
      λ b k bound le. plain_right (suc room) bound b k (climbing.climb (operand room) room b k)
          (climb_read (operand room) room lower.0 lower.1 b k le),
      λ b k bound le. plain_keeps (suc room) bound b k (climbing.climb (operand room) room b k)
          (climb_read (operand room) room lower.0 lower.1 b k le),
    )
