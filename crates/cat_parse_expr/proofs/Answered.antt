-- What is read of an expression, and what is refused, by the indices of a list of tokens.
use Rattle.std.proofs.Common.{◌≡◌, ℕ, ◌≤◌, max, Bool, true, false, cond, List, length, take, drop, Option, Some, None}
use Rattle.std.proofs.Common.{Ok, Err, refl, sym, ap, subst, ◌∙◌, arith}
use Rattle.cat_parse_expr.specs.declared.refusal.ParseRefusal.TheVariants as refused
use Rattle.cat_parse_expr.specs.Climbing.{operand}
use Rattle.cat_parse_expr.specs.Reach.{expression_reach}
use Rattle.cat_parse_expr.proofs.Common.{Token, Node, Spells, IsFront, height_of, Other, Measured, Break, Broken}
use Rattle.cat_parse_expr.proofs.Common.{ParseRefusal, HasCause, HasReachCause, GoesUpTo, IsTooHigh, KeepsWhole, Gives}
use Rattle.cat_parse_expr.proofs.Common.{left_behind, IsWithin, Found, front_found, before, reach_of, Parsed, Fails}
use Rattle.cat_parse_expr.proofs.Common.{Reads, IsRight, MayFollow, looks_of, IsMeasured, IsLow, operand_row}
use Rattle.cat_parse_expr.proofs.Indexed.{was_read, ends_read, goes_up_to, is_too_high, one}
use Rattle.cat_parse_expr.proofs.Kept.{before_place, longest_read, longest_whole, none_spelled, none_low, Whole}
use Rattle.cat_parse_expr.proofs.Kept.{stood_whole, found_again}
use Rattle.cat_parse_expr.proofs.Rightness.{rightly, keeping}

right : (room bound : ℕ)
    → IsRight (IsLow room) bound (MayFollow Other 0) (looks_of Other) IsMeasured (operand_row 0) (operand room Other 0)
right room bound = rightly room Other 0 bound (omega arith)

keeps : (bound : ℕ) → KeepsWhole (IsLow 256) bound IsMeasured (operand_row 0) (operand 256 Other 0)
keeps bound = keeping 256 Other 0 bound (omega arith)

-- a list of tokens spells at most one expression
pub one_expression : (a b : Node) (tokens : List Token) → Spells a tokens → Spells b tokens → a ≡ b
one_expression a b tokens sa sb =
    let room = max (height_of a) (height_of b) in
    one room (operand room Other 0) (right room) a b tokens sa sb (omega arith) (omega arith)

module _ (tokens : List Token) (at : ℕ) (le : at ≤ length tokens) where
  -- ---- an expression that was read to its end

  pub front_read : (e : Measured) (place : ℕ) → Gives (operand 256 Other 0) tokens at (Ok (e, place))
      → IsFront tokens at place e.node
  front_read e place g =
      let x = was_read 256 (operand 256 Other 0) (right 256) tokens at le e place g in
      record { order = x.order; within = g.2; spells = x.spells; low = x.low }

  pub longest_front : (e : Measured) (place : ℕ) → Gives (operand 256 Other 0) tokens at (Ok (e, place))
      → (f : Node) (next : ℕ)
      → IsFront tokens at next f → next ≤ place
  longest_front e place g = longest_read 256 (operand 256 Other 0) (right 256) keeps tokens at le e place g refl

  pub front_ends : (e : Measured) (place : ℕ) → Gives (operand 256 Other 0) tokens at (Ok (e, place))
      → GoesUpTo tokens at place
  front_ends = ends_read 256 (operand 256 Other 0) (right 256) tokens at le

  -- ---- a break

  broken_off : (b : Break) → Gives (operand 256 Other 0) tokens at (Err (Broken b)) → (deep : Bool) (whole : Option ℕ)
      → b.deep ≡ deep → b.whole ≡ whole
      → operand 256 Other 0 (drop at tokens) ≡ Fails (drop b.at tokens) deep (left_behind tokens whole)
  broken_off b g deep whole d w =
      g.0 ∙ ap (λ (x : Bool). Fails (drop b.at tokens) x (left_behind tokens b.whole)) d
      ∙ ap (λ (x : Option ℕ). Fails (drop b.at tokens) deep (left_behind tokens x)) w

  cause_by : (b : Break) → Gives (operand 256 Other 0) tokens at (Err (Broken b)) → b.whole ≡ None → (deep : Bool)
      → b.deep ≡ deep
      → HasCause tokens at (cond deep (refused.TooDeep b.at) (refused.Unexpected b.at))
  cause_by b g none true d =
      let is = broken_off b g true None d none in (
        is_too_high 256 (operand 256 Other 0) (right 256) tokens at le b.at None is g.1 refl,
        none_low 256 (operand 256 Other 0) (right 256) keeps tokens at le (drop b.at tokens) true is refl,
      )
  cause_by b g none false d =
      let is = broken_off b g false None d none in (
        goes_up_to 256 (operand 256 Other 0) (right 256) tokens at le b.at None is g.1,
        none_spelled 256 (operand 256 Other 0) (right 256) keeps tokens at le (drop b.at tokens) is,
      )

  pub cause_of : (b : Break) (refusal : ParseRefusal) → Gives (operand 256 Other 0) tokens at (Err (Broken b))
      → b.whole ≡ None
      → refusal ≡ cond b.deep (refused.TooDeep b.at) (refused.Unexpected b.at) → HasCause tokens at refusal
  cause_of b refusal g none e = subst (HasCause tokens at) (sym e) (cause_by b g none b.deep refl)

  -- ---- where the reach is asked for

  pub too_deep : (b : Break) → Gives (operand 256 Other 0) tokens at (Err (Broken b)) → b.deep ≡ true
      → IsTooHigh tokens at b.at
  too_deep b g d =
      is_too_high 256 (operand 256 Other 0) (right 256) tokens at le b.at (left_behind tokens b.whole)
      (broken_off b g true b.whole d refl) g.1 refl

  pub reaches : (b : Break) → Gives (operand 256 Other 0) tokens at (Err (Broken b)) → b.deep ≡ false
      → GoesUpTo tokens at b.at
  reaches b g d =
      goes_up_to 256 (operand 256 Other 0) (right 256) tokens at le b.at (left_behind tokens b.whole)
      (broken_off b g false b.whole d refl) g.1

  pub none_reaches : (b : Break) → Gives (operand 256 Other 0) tokens at (Err (Broken b)) → b.deep ≡ false
      → b.whole ≡ None
      → HasReachCause tokens at (refused.Unexpected b.at)
  none_reaches b g d none =
      let is = broken_off b g false None d none in (
        goes_up_to 256 (operand 256 Other 0) (right 256) tokens at le b.at None is g.1,
        none_spelled 256 (operand 256 Other 0) (right 256) keeps tokens at le (drop b.at tokens) is,
      )

  -- ---- a front that stood whole

  module _ (b : Break) (g : Gives (operand 256 Other 0) tokens at (Err (Broken b))) (end : ℕ) (w : b.whole ≡ Some end)
      (within : end ≤ length tokens) where
    stood : Whole 256 (operand 256 Other 0) (right 256) keeps tokens at le end
    stood =
        stood_whole 256 (operand 256 Other 0) (right 256) keeps tokens at le (drop b.at tokens) b.deep end
        (broken_off b g b.deep (Some end) refl w) within

    pub behind_front : at ≤ end
    behind_front = stood.order

    pub front_again : (e : Measured) (none : ℕ) → Gives (operand 256 Other 0) (take end tokens) at (Ok (e, none))
        → IsFront tokens at end e.node
    front_again e none again =
        let s = stood in
        let r = found_again 256 (operand 256 Other 0) (right 256) keeps tokens at le e end none s within again in
        record { order = s.order; within = within; spells = r.0; low = r.1 }

    pub none_longer : (f : Node) (next : ℕ) → IsFront tokens at next f → next ≤ end
    none_longer =
        longest_whole 256 (operand 256 Other 0) (right 256) keeps tokens at le (drop b.at tokens) b.deep end
        (broken_off b g b.deep (Some end) refl w) within refl

    pub never_broken : (x : Break) → Gives (operand 256 Other 0) (take end tokens) at (Err (Broken x)) → ⊥
    never_broken x again = differ (sym stood.again ∙ again.0)
      where
        differ : {A : Type 0} {a : A} {ls l : List Token} {d : Bool} {f : Option (List Token)}
            → Reads a ls ≡ Fails l d f → ⊥
        differ e = absurd cc

    pub again_found : (e : Measured) (none : ℕ) → Gives (operand 256 Other 0) (take end tokens) at (Ok (e, none))
        → (left : List Token)
        → front_found (operand 256 Other 0 (before (drop end tokens) (drop at tokens))) (drop end tokens) left
        ≡ Found e.node (drop end tokens) left
    again_found e none again left =
        ap (λ (ts : List Token). front_found (operand 256 Other 0 ts) (drop end tokens) left)
        (before_place tokens at end behind_front within)
        ∙ ap (λ (o : Parsed Measured). front_found o (drop end tokens) left) again.0

-- ---- the reach, by what was read

pub reach_is : (ts : List Token) (o : Parsed Measured) → operand 256 Other 0 ts ≡ o
    → expression_reach 256 ts ≡ reach_of (operand 256 Other 0) ts o
unfolding expression_reach
reach_is ts o e = ap (reach_of (operand 256 Other 0) ts) e

pub reach_broken : (tokens : List Token) (at : ℕ) (b : Break) → Gives (operand 256 Other 0) tokens at (Err (Broken b))
    → (deep : Bool)
    (whole : Option ℕ) → b.deep ≡ deep → b.whole ≡ whole
    → expression_reach 256 (drop at tokens)
    ≡ reach_of (operand 256 Other 0) (drop at tokens) (Fails (drop b.at tokens) deep (left_behind tokens whole))
reach_broken tokens at b g deep whole d w =
    reach_is (drop at tokens) (Fails (drop b.at tokens) deep (left_behind tokens whole))
    (g.0 ∙ ap (λ (x : Bool). Fails (drop b.at tokens) x (left_behind tokens b.whole)) d
    ∙ ap (λ (x : Option ℕ). Fails (drop b.at tokens) deep (left_behind tokens x)) w)

-- the place behind what stood whole is none past the end
pub within_whole : (tokens : List Token) (at : ℕ) (b : Break) (end : ℕ)
    → Gives (operand 256 Other 0) tokens at (Err (Broken b))
    → b.whole ≡ Some end → end ≤ length tokens
within_whole tokens at b end g w = subst (IsWithin (length tokens)) w g.2
