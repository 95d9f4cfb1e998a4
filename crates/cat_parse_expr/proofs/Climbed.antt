-- Climbing: a step behind what was read so far, for as long as one goes on.
use Rattle.std.proofs.Common.{◌≡◌, ℕ, suc, ◌≤◌, Bool, true, false, not, nat_le, ◌&&◌, if◌then◌else◌, List, [], ◌∷◌}
use Rattle.std.proofs.Common.{None, refl, sym, ap, ◌∙◌, arith, inl, inr, ◌⊎◌}
use Rattle.cat_lex.specs.declared.token.TokenKind.TheVariants as kind
use Rattle.cat_lex.specs.declared.words.DoubleKeyword.TheVariants as pair
use Rattle.cat_lex.specs.declared.symbol.Symbol.TheVariants as symbol
use Rattle.cat_parse_expr.specs.declared.cue.Cue.TheVariants as cue
use Rattle.cat_parse_expr.specs.declared.follow.Follow.TheVariants as follow
use Rattle.cat_parse_expr.specs.Steps as steps
use Rattle.cat_parse_expr.proofs.Common.{Token, Bare, Operator, operator_kind, operator_level, left_level, phrase}
use Rattle.cat_parse_expr.proofs.Common.{Behind, Follow, Measured, goes_so, «word», looks_of, KeepsWhole, follow_at}
use Rattle.cat_parse_expr.proofs.Common.{Lower, is_sign, Fails, Reader, ◌⨟◌, pure, nothing, heads, Begun, measured_of}
use Rattle.cat_parse_expr.proofs.Common.{IsMeasured, IsLow, operand_row, AreRight, phrase_Binary, phrase_Field}
use Rattle.cat_parse_expr.proofs.Common.{phrase_Test}
use Rattle.cat_parse_expr.proofs.Chains.{Step, Operates, Selects, TestsFor, put, step_parts}
use Rattle.cat_parse_expr.proofs.Firsts.{is_bare}
use Rattle.cat_parse_expr.proofs.Follows.{one_level}
use Rattle.cat_parse_expr.proofs.Leaves.{cue_self, anywhere}
use Rattle.cat_parse_expr.proofs.Operands.{goes_past, Next as NextAt}
use Rattle.cat_parse_expr.proofs.Read.{IsRead}
use Rattle.cat_parse_expr.proofs.StepWords.{cue_of, follow_in, FitsOne}
use Rattle.cat_parse_expr.proofs.Stepping.{operated_read, selected_read, tested_read}
use Rattle.cat_parse_expr.proofs.Climbs.{dotted_is, step_follows}
use Rattle.cat_parse_expr.proofs.Sampling.{a_name, a_node, a_token, lower_token, node_levels, node_spelled}
use Rattle.cat_parse_expr.proofs.Truth.{both_are, both_true, clash, le_of, le_true, unnot}
use Rattle.cat_parse_expr.proofs.Heading as heading

-- one with a step more is no bare case
pub step_not_bare : (s : Measured) (x : Step) → is_bare (phrase (put s x).node) ≡ false
step_not_bare s (Operates o p e) = ap is_bare (phrase_Binary o p s.node e.node)
step_not_bare s (Selects w) = ap is_bare (phrase_Field s.node w)
step_not_bare s (TestsFor p c) = ap is_bare (phrase_Test s.node p c)

module _ (ex : Lower) (room : ℕ) (right : AreRight room ex)
    (kept : (b : Behind) (j bound : ℕ) → j ≤ 9 → KeepsWhole (IsLow room) bound IsMeasured (operand_row j) (ex b j))
    (b : Behind) (k : ℕ) (le : k ≤ 9) where
  -- ---- the reader of a step that fits

  abbrev pub allowed : Measured → Follow → Bool
  allowed s (follow.Operated o) = nat_le k (operator_level o) && nat_le (left_level o) s.strength
  allowed s follow.Dotted = nat_le 9 s.strength && not (is_bare (phrase s.node))
  allowed s follow.Tests = nat_le k 4 && nat_le 5 s.strength
  allowed s follow.Other = false

  abbrev pub operating : Measured → Operator → Reader Measured
  operating s o =
      «word» (cue_of o) ⨟ λ p. steps.beside ex room s b (suc (operator_level o)) ⨟ λ e. pure (put s (Operates o p e))

  abbrev pub reader_at : Measured → Follow → Reader Measured
  reader_at s (follow.Operated o) = operating s o
  reader_at s follow.Dotted = steps.selected ex room s
  reader_at s follow.Tests = steps.tested ex room s
  reader_at s follow.Other = nothing

  abbrev pub pick : Measured → Follow → Reader Measured
  pick s f = if allowed s f then reader_at s f else nothing

  abbrev pub inner_turn : Measured → Reader Measured
  inner_turn s ts = pick s (follow_at ts) ts

  abbrev pub Good : Measured → Type 0
  Good s = 1 ≤ s.height

  abbrev pub LowAs : Measured → Type 0
  LowAs s = s.height ≤ suc room

  abbrev pub Ready : Measured → Type 0
  Ready s = Good s × ((us : List Token) × (goes_past b k s us ≡ true))

  abbrev Picked : (K : Type 0) → Measured → Follow → Reader Measured → Type 0
  Picked K s f r =
      IsRead (put s) K (Ready s) (LowAs s) (λ x. LowAs (put s x)) (λ x v. NextAt b k (put s x) v) (looks_of b)
      (λ x. FitsOne k s x × (follow_in x ≡ f)) step_parts r
      ⊎ (((x : Step) → FitsOne k s x → follow_in x ≡ f → ⊥) × ((ts : List Token) → r ts ≡ Fails ts false None))

  no_operator : (s : Measured) (o : Operator) → allowed s (follow.Operated o) ≡ false → (x : Step) → FitsOne k s x
      → follow_in x ≡ follow.Operated o → ⊥
  no_operator s o e (Operates x p a) f i =
      let same : x ≡ o = ap (λ (g : Follow). elim g [
        | follow.Operated y ↦ y
        | follow.Dotted ↦ x
        | follow.Tests ↦ x
        | follow.Other ↦ x
      ]) i in
      clash (allowed s (follow.Operated o))
      (ap (λ (y : Operator). allowed s (follow.Operated y)) (sym same)
      ∙ both_true _ _ (le_true k (operator_level x) f.0) (le_true (left_level x) s.strength f.1)) e
  no_operator s o e (Selects x) f i = absurd cc
  no_operator s o e (TestsFor p c) f i = absurd cc

  no_selection : (s : Measured) → allowed s follow.Dotted ≡ false → (x : Step) → FitsOne k s x
      → follow_in x ≡ follow.Dotted → ⊥
  no_selection s e (Selects x) f i =
      clash (allowed s follow.Dotted) (both_true _ _ (le_true 9 s.strength f.0) (ap not f.1)) e
  no_selection s e (Operates x p a) f i = absurd cc
  no_selection s e (TestsFor p c) f i = absurd cc

  no_test : (s : Measured) → allowed s follow.Tests ≡ false → (x : Step) → FitsOne k s x
      → follow_in x ≡ follow.Tests → ⊥
  no_test s e (TestsFor p c) f i =
      clash (allowed s follow.Tests) (both_true _ _ (le_true k 4 f.0) (le_true 5 s.strength f.1)) e
  no_test s e (Operates x p a) f i = absurd cc
  no_test s e (Selects x) f i = absurd cc

  no_other : (s : Measured) (x : Step) → follow_in x ≡ follow.Other → ⊥
  no_other s (Operates x p a) i = absurd cc
  no_other s (Selects x) i = absurd cc
  no_other s (TestsFor p c) i = absurd cc

  picked : {K : Type 0} (s : Measured) (f : Follow) → Picked K s f (pick s f)
  picked s (follow.Operated o) = by (allowed s (follow.Operated o)) refl
    where
      by : {K : Type 0} (c : Bool) → allowed s (follow.Operated o) ≡ c
          → Picked K s (follow.Operated o) (if c then operating s o else nothing)
      by true e =
          inl (operated_read ex room right kept b k le s o (le_of k (operator_level o) (both_are _ _ e).0)
          (le_of (left_level o) s.strength (both_are _ _ e).1))
      by false e = inr (no_operator s o e, λ ts. refl)
  picked s follow.Dotted = by (allowed s follow.Dotted) refl
    where
      by : {K : Type 0} (c : Bool) → allowed s follow.Dotted ≡ c
          → Picked K s follow.Dotted (if c then steps.selected ex room s else nothing)
      by true e =
          inl (selected_read ex room right kept b k le s (λ f. f.0) (le_of 9 s.strength (both_are _ _ e).0)
          (unnot (is_bare (phrase s.node)) (both_are _ _ e).1))
      by false e = inr (no_selection s e, λ ts. refl)
  picked s follow.Tests = by (allowed s follow.Tests) refl
    where
      by : {K : Type 0} (c : Bool) → allowed s follow.Tests ≡ c
          → Picked K s follow.Tests (if c then steps.tested ex room s else nothing)
      by true e =
          inl (tested_read ex room right kept b k le s (λ f. f.0) (le_of k 4 (both_are _ _ e).0)
          (le_of 5 s.strength (both_are _ _ e).1))
      by false e = inr (no_test s e, λ ts. refl)
  picked s follow.Other = inr (λ x f i. no_other s x i, λ ts. refl)

  -- ---- some step fits where one goes on

  alive_of : (s : Measured) → Ready s → Begun (FitsOne k s) step_parts []
  alive_of s r = by (follow_at r.1.0) refl (both_are _ _ r.1.1).1
    where
      dot_there : (us : List Token) → follow_at us ≡ follow.Dotted → heads (is_sign symbol.Dot) us ≡ true
      dot_there [] e = absurd cc
      dot_there (p ∷ us) e = ap (is_sign symbol.Dot) (dotted_is p.kind e) ∙ cue_self (cue.Sign symbol.Dot)

      bare_not : (c d : Bool) → d ≡ true → not (c && d) ≡ true → c ≡ false
      bare_not true true e h = absurd cc
      bare_not true false e h = absurd cc
      bare_not false d e h = refl

      by : (f : Follow) → follow_at r.1.0 ≡ f → goes_so b k s.strength (follow_at r.1.0) r.1.0 ≡ true
          → Begun (FitsOne k s) step_parts []
      by (follow.Operated o) e h =
          let g = both_are (nat_le k (operator_level o)) (nat_le (left_level o) s.strength)
          (ap (λ (f : Follow). goes_so b k s.strength f r.1.0) (sym e) ∙ h) in
          let l = node_levels (suc (operator_level o)) (omega (arith, (one_level o).3)) in
          record {
            value = Operates o anywhere (measured_of a_node);
            more = a_token (operator_kind o) ∷ lower_token ∷ [];
            is =
                record {
                  fit = (le_of k (operator_level o) g.0, le_of (left_level o) s.strength g.1, refl);
                  levels = (l.0, l.1, tt);
                  spelled = (
                    a_token (operator_kind o),
                    lower_token ∷ [],
                    refl,
                    refl,
                    (lower_token ∷ [], [], refl, node_spelled, refl),
                  );
                };
          }
      by follow.Dotted e h =
          record {
            value = Selects a_name;
            more = a_token (kind.Symbol symbol.Dot) ∷ lower_token ∷ [];
            is =
                record {
                  fit = (
                    le_of 9 s.strength (ap (λ (f : Follow). goes_so b k s.strength f r.1.0) (sym e) ∙ h),
                    bare_not (is_bare (phrase s.node)) (heads (is_sign symbol.Dot) r.1.0) (dot_there r.1.0 e)
                        (both_are _ _ r.1.1).0,
                  );
                  levels = tt;
                  spelled = (
                    a_token (kind.Symbol symbol.Dot),
                    lower_token ∷ [],
                    refl,
                    refl,
                    (lower_token, [], refl, refl, refl),
                  );
                };
          }
      by follow.Tests e h =
          let g = both_are _ _ (ap (λ (f : Follow). goes_so b k s.strength f r.1.0) (sym e) ∙ h) in
          record {
            value = TestsFor anywhere (Bare a_name);
            more = a_token (kind.Pair pair.WithPattern) ∷ a_token (kind.Upper []) ∷ [];
            is =
                record {
                  fit = (le_of k 4 g.0, le_of 5 s.strength (both_are _ _ g.1).0);
                  levels = tt;
                  spelled = (
                    a_token (kind.Pair pair.WithPattern),
                    a_token (kind.Upper []) ∷ [],
                    refl,
                    refl,
                    (a_token (kind.Upper []), [], refl, refl, refl),
                  );
                };
          }
      by follow.Other e h = absurd (none (ap (λ (f : Follow). goes_so b k s.strength f r.1.0) (sym e) ∙ h))
        where
          none : false ≡ true → ⊥
          none h = absurd cc

  pub turn_read : {K : Type 0} (s : Measured)
      → IsRead (put s) K (Ready s) (LowAs s) (λ x. LowAs (put s x)) (λ x v. NextAt b k (put s x) v) (looks_of b)
      (FitsOne k s) step_parts (inner_turn s)
  turn_read {K = K} s =
      heading.headed_read (put s) K (Ready s) (LowAs s) (λ x. LowAs (put s x)) (λ x v. NextAt b k (put s x) v)
      (looks_of b) (FitsOne k s) step_parts follow_at follow_in (pick s) (λ p ps qs. refl)
      (λ y w v f i. step_follows k s y w v i) (alive_of s) (picked s)
