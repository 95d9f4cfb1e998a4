-- The words of steps, and where they stand.
use Rattle.std.proofs.Common.{◌≡◌, ℕ, ◌≤◌, Bool, true, false, not, nat_eq, nat_le, nat_lt, ◌&&◌, List, [], ◌∷◌, refl}
use Rattle.std.proofs.Common.{sym, ap, ◌∙◌, arith, inl, inr, ◌⊎◌}
use Rattle.std.proofs.lemmas.Bool.Decides.{nat_tests}
use Rattle.cat_lex.specs.declared.token.TokenKind.TheVariants as kind
use Rattle.cat_lex.specs.declared.words.Keyword.TheVariants as key
use Rattle.cat_lex.specs.declared.words.DoubleKeyword.TheVariants as pair
use Rattle.cat_lex.specs.declared.symbol.Symbol.TheVariants as symbol
use Rattle.cat_tree.specs.declared.expression.Operator.TheVariants as op
use Rattle.cat_parse_expr.specs.declared.behind.Behind.TheVariants.{Other, Field, Pattern as Tested}
use Rattle.cat_parse_expr.specs.declared.cue.Cue.TheVariants as cue
use Rattle.cat_parse_expr.specs.declared.follow.Follow.TheVariants as follow
use Rattle.cat_parse_expr.proofs.Common.{Token, TokenKind, CaseName, Bare, Qualified, Operator, operator_kind}
use Rattle.cat_parse_expr.proofs.Common.{operator_level, left_level, phrase, Behind, Cue, Follow, Measured, goes_so}
use Rattle.cat_parse_expr.proofs.Common.{goes_on, kind_of, is_asked, is_below, may_stand, MayFollow, follow_of, is_sign}
use Rattle.cat_parse_expr.proofs.Common.{heads, IsMeasured}
use Rattle.cat_parse_expr.proofs.Chains.{Step, Operates, Selects, TestsFor}
use Rattle.cat_parse_expr.proofs.Firsts.{is_bare}
use Rattle.cat_parse_expr.proofs.Leaves.{cue_found}
use Rattle.cat_parse_expr.proofs.Operands.{Next, goes_then}
use Rattle.cat_parse_expr.proofs.Patterns.{NoDot}
use Rattle.cat_parse_expr.proofs.Truth.{none_of, second_false}

-- ---- the words of operators

abbrev pub cue_of : Operator → Cue
cue_of op.Or = cue.Word key.Or
cue_of op.Xor = cue.Word key.Xor
cue_of op.And = cue.Word key.And
cue_of op.Less = cue.Sign symbol.Less
cue_of op.LessEqual = cue.Sign symbol.LessEqual
cue_of op.Greater = cue.Sign symbol.Greater
cue_of op.GreaterEqual = cue.Sign symbol.GreaterEqual
cue_of op.Equal = cue.Sign symbol.Equal
cue_of op.NotEqual = cue.Sign symbol.NotEqual
cue_of op.Contains = cue.Word key.Contains
cue_of op.Plus = cue.Sign symbol.Plus
cue_of op.Minus = cue.Sign symbol.Minus
cue_of op.Times = cue.Sign symbol.Star
cue_of op.Divide = cue.Sign symbol.Slash

pub operator_word : (o : Operator) → (kind_of (cue_of o) ≡ operator_kind o)
    × (follow_of (operator_kind o) ≡ follow.Operated o)
operator_word op.Or = (refl, refl)
operator_word _ = (refl, refl)

abbrev operator_in : TokenKind → Follow → TokenKind
operator_in q (follow.Operated o) = operator_kind o
operator_in q f = q

abbrev pub or_that : Operator → Follow → Operator
or_that o (follow.Operated x) = x
or_that o f = o

pub operator_is : (q : TokenKind) (o : Operator) → follow_of q ≡ follow.Operated o → q ≡ operator_kind o
operator_is (kind.Word key.Or) o e = ap (operator_in (kind.Word key.Or)) e
operator_is (kind.Word key.Xor) o e = ap (operator_in (kind.Word key.Xor)) e
operator_is (kind.Word key.And) o e = ap (operator_in (kind.Word key.And)) e
operator_is (kind.Word key.Contains) o e = ap (operator_in (kind.Word key.Contains)) e
operator_is (kind.Symbol symbol.Less) o e = ap (operator_in (kind.Symbol symbol.Less)) e
operator_is (kind.Symbol symbol.LessEqual) o e = ap (operator_in (kind.Symbol symbol.LessEqual)) e
operator_is (kind.Symbol symbol.Greater) o e = ap (operator_in (kind.Symbol symbol.Greater)) e
operator_is (kind.Symbol symbol.GreaterEqual) o e = ap (operator_in (kind.Symbol symbol.GreaterEqual)) e
operator_is (kind.Symbol symbol.Equal) o e = ap (operator_in (kind.Symbol symbol.Equal)) e
operator_is (kind.Symbol symbol.NotEqual) o e = ap (operator_in (kind.Symbol symbol.NotEqual)) e
operator_is (kind.Symbol symbol.Plus) o e = ap (operator_in (kind.Symbol symbol.Plus)) e
operator_is (kind.Symbol symbol.Minus) o e = ap (operator_in (kind.Symbol symbol.Minus)) e
operator_is (kind.Symbol symbol.Star) o e = ap (operator_in (kind.Symbol symbol.Star)) e
operator_is (kind.Symbol symbol.Slash) o e = ap (operator_in (kind.Symbol symbol.Slash)) e
operator_is (kind.Pair pair.WithPattern) o e = absurd cc
operator_is _ o e = absurd cc

-- what each step is, by its first word
abbrev pub follow_in : Step → Follow
follow_in (Operates o p e) = follow.Operated o
follow_in (Selects w) = follow.Dotted
follow_in (TestsFor p c) = follow.Tests

-- ---- what steps ask for

-- the step may stand behind the expression
abbrev pub FitsOne : (k : ℕ) → Measured → Step → Type 0
FitsOne k s (Operates o p e) = (k ≤ operator_level o) × (left_level o ≤ s.strength) × IsMeasured e
FitsOne k s (Selects w) = (9 ≤ s.strength) × (is_bare (phrase s.node) ≡ false)
FitsOne k s (TestsFor p c) = (k ≤ 4) × (5 ≤ s.strength)

-- ---- no dot behind a test

asked_dot : (b : Behind) (ts : List Token) → is_asked b (kind.Symbol symbol.Dot) ts ≡ false
asked_dot Other ts = refl
asked_dot Field ts = refl
asked_dot Tested ts = refl

pub dot_refused : (b : Behind) (k s : ℕ) (m : Bool) (ts : List Token) → k ≤ 9
    → may_stand b k s m (kind.Symbol symbol.Dot) ts ≡ true → ⊥
dot_refused b k s m ts le h =
    none_of true (is_asked b (kind.Symbol symbol.Dot) ts) (nat_eq k 9 && is_sign symbol.Comma (kind.Symbol symbol.Dot))
    (not m && is_sign symbol.MinusMinus (kind.Symbol symbol.Dot)) (not (nat_eq s 0) && is_below k follow.Dotted) refl
    (asked_dot b ts) (second_false (nat_eq k 9) (is_sign symbol.Comma (kind.Symbol symbol.Dot)) refl)
    (second_false (not m) (is_sign symbol.MinusMinus (kind.Symbol symbol.Dot)) refl)
    (second_false (not (nat_eq s 0)) (is_below k follow.Dotted) not_above) h
  where
    not_above : nat_lt 9 k ≡ false
    not_above = grind (arith, nat_tests, le)

-- behind what is no left operand of a dot stands none
pub dot_not : (b : Behind) (k : ℕ) (y : Measured) (v : List Token) → k ≤ 9 → y.strength ≤ 8 → Next b k y v
    → heads (is_sign symbol.Dot) v ≡ false
dot_not b k y [] le weak o = refl
dot_not b k y (p ∷ ts) le weak o = by (is_sign symbol.Dot p.kind) refl (goes_then b k y (p ∷ ts) o)
  where
    by : (z : Bool) → is_sign symbol.Dot p.kind ≡ z → MayFollow b k y (p ∷ ts) ⊎ (goes_on b k y (p ∷ ts) ≡ true)
        → is_sign symbol.Dot p.kind ≡ false
    by false e o = e
    by true e (inl h) =
        absurd (dot_refused b k y.strength y.in_match ts le
        (ap (λ (q : TokenKind). may_stand b k y.strength y.in_match q ts)
        (sym (cue_found (cue.Sign symbol.Dot) p.kind e)) ∙ h))
    by true e (inr h) =
        absurd (weak_not (ap (λ (q : TokenKind). goes_so b k y.strength (follow_of q) (p ∷ ts))
        (sym (cue_found (cue.Sign symbol.Dot) p.kind e)) ∙ h))
      where
        weak_not : nat_le 9 y.strength ≡ true → ⊥
        weak_not h = grind (arith, nat_tests, h, weak)

pub no_dot : (b : Behind) (k : ℕ) (y : Measured) (c : CaseName) (v : List Token) → k ≤ 9 → y.strength ≡ 4 → Next b k y v
    → NoDot c v
no_dot b k y (Bare u) v le is o = dot_not b k y v le (omega (arith, is)) o
no_dot b k y (Qualified d u) v le is o = tt
