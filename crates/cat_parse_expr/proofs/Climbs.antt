-- Turns of climbing: a step behind what was read so far.
use Rattle.std.proofs.Common.{◌≡◌, ℕ, zero, suc, ◌≤◌, Bool, true, false, not, nat_eq, nat_le, nat_lt, ◌&&◌, ◌||◌, List}
use Rattle.std.proofs.Common.{[], ◌∷◌, ◌++◌, length, Option, refl, sym, ap, ◌∙◌, arith, inl, inr, ◌⊎◌}
use Rattle.std.proofs.lemmas.Bool.Decides.{nat_tests}
use Rattle.cat_lex.specs.declared.token.TokenKind.TheVariants as kind
use Rattle.cat_lex.specs.declared.words.Keyword.TheVariants as key
use Rattle.cat_lex.specs.declared.words.DoubleKeyword.TheVariants as pair
use Rattle.cat_lex.specs.declared.symbol.Symbol.TheVariants as symbol
use Rattle.cat_tree.specs.declared.expression.Operator.TheVariants as op
use Rattle.cat_parse_expr.specs.declared.behind.Behind.TheVariants.{Other, Field, Pattern as Tested}
use Rattle.cat_parse_expr.specs.declared.cue.Cue.TheVariants as cue
use Rattle.cat_parse_expr.specs.declared.follow.Follow.TheVariants as follow
use Rattle.cat_parse_expr.proofs.Common.{Pos, Token, TokenKind, CaseName, Bare, Qualified, Operator, case_parts}
use Rattle.cat_parse_expr.proofs.Common.{operator_kind, operator_level, left_level, End, AreSpelled, phrase, Behind}
use Rattle.cat_parse_expr.proofs.Common.{Follow, Measured, ends_test, goes_so, goes_on, is_taken, is_asked, is_below}
use Rattle.cat_parse_expr.proofs.Common.{may_stand, MayFollow, looks_of, follow_of, follow_at, is_sign, Parsed, Fails}
use Rattle.cat_parse_expr.proofs.Common.{Reads, heads, with_room, left_of, one, too_high, Agree, AgreePast}
use Rattle.cat_parse_expr.proofs.Common.{is_with_pattern}
use Rattle.cat_parse_expr.proofs.Chains.{Step, Operates, Selects, TestsFor, step_parts}
use Rattle.cat_parse_expr.proofs.Firsts.{is_bare}
use Rattle.cat_parse_expr.proofs.Leaves.{cue_found}
use Rattle.cat_parse_expr.proofs.Operands.{goes_past}
use Rattle.cat_parse_expr.proofs.StepWords.{operator_word, operator_is, follow_in, FitsOne, dot_refused}
use Rattle.cat_parse_expr.proofs.Turnings.{shrinks_one}
use Rattle.cat_parse_expr.proofs.Truth.{both_are, both_true, first_false, last_of, le_true, second_false}

-- ---- the next word of a step

pub step_follows : (k : ℕ) (s : Measured) (x : Step) (w v : List Token) → AreSpelled (step_parts x) w
    → follow_at (w ++ v) ≡ follow_in x
step_follows k s (Operates o p e) w v i =
    ap (λ (u : List Token). follow_at (u ++ v)) i.2 ∙ ap (λ (t : Token). follow_of t.kind) i.3 ∙ (operator_word o).1
step_follows k s (Selects x) w v i = ap (λ (u : List Token). follow_at (u ++ v)) i.2 ∙ ap follow_of i.3
step_follows k s (TestsFor p c) w v i =
    ap (λ (u : List Token). follow_at (u ++ v)) i.2 ∙ ap (λ (t : Token). follow_of t.kind) i.3

-- no arms stand behind a test
case_no_arms : (c : CaseName) (w v : List Token) → AreSpelled (case_parts c End) w
    → heads (is_sign symbol.MinusMinus) (w ++ v) ≡ false
case_no_arms (Bare u) w v s =
    ap (λ (z : List Token). heads (is_sign symbol.MinusMinus) (z ++ v)) s.2
    ∙ ap (λ (t : Token). is_sign symbol.MinusMinus t.kind) s.3
case_no_arms (Qualified d u) w v s =
    ap (λ (z : List Token). heads (is_sign symbol.MinusMinus) (z ++ v)) s.2
    ∙ ap (λ (t : Token). is_sign symbol.MinusMinus t.kind) s.3

pub test_ends_not : (b : Behind) (p : Pos) (c : CaseName) (w v : List Token) → AreSpelled (step_parts (TestsFor p c)) w
    → ends_test b (w ++ v) ≡ false
test_ends_not Other p c w v s = refl
test_ends_not Field p c w v s = refl
test_ends_not Tested p c w v s =
    ap (λ (z : List Token). ends_test Tested (z ++ v)) s.2 ∙ case_no_arms c s.1 v s.4

-- whether the next word is a dot
pub dot_at : (ts : List Token) → heads (is_sign symbol.Dot) ts ≡ true → follow_at ts ≡ follow.Dotted
dot_at [] e = absurd cc
dot_at (p ∷ ts) e = ap follow_of (cue_found (cue.Sign symbol.Dot) p.kind e)

follow_differs : (f : Follow) → (f ≡ follow.Dotted → ⊥) → (ts : List Token) → follow_at ts ≡ f
    → heads (is_sign symbol.Dot) ts ≡ false
follow_differs f other ts e = by (heads (is_sign symbol.Dot) ts) refl
  where
    by : (c : Bool) → heads (is_sign symbol.Dot) ts ≡ c → heads (is_sign symbol.Dot) ts ≡ false
    by true h = absurd (other (sym e ∙ dot_at ts h))
    by false h = h

-- a step that fits is gone on with
pub step_goes : (b : Behind) (k : ℕ) (s : Measured) (x : Step) (w v : List Token) → FitsOne k s x
    → AreSpelled (step_parts x) w → goes_past b k s (w ++ v) ≡ true
step_goes b k s x w v f i = by x f i (step_follows k s x w v i)
  where
    so : (f : Follow) → follow_at (w ++ v) ≡ f → goes_so b k s.strength f (w ++ v) ≡ true
        → goes_on b k s (w ++ v) ≡ true
    so f e h = ap (λ (g : Follow). goes_so b k s.strength g (w ++ v)) e ∙ h

    plain : heads (is_sign symbol.Dot) (w ++ v) ≡ false
        → not (is_bare (phrase s.node) && heads (is_sign symbol.Dot) (w ++ v)) ≡ true
    plain h = ap not (second_false (is_bare (phrase s.node)) _ h)

    by : (x : Step) → FitsOne k s x → AreSpelled (step_parts x) w → follow_at (w ++ v) ≡ follow_in x
        → goes_past b k s (w ++ v) ≡ true
    by (Operates o p e) f i a =
        both_true _ _ (plain (follow_differs (follow.Operated o) not_dot (w ++ v) a))
        (so (follow.Operated o) a (both_true _ _ (le_true k (operator_level o) f.0)
        (le_true (left_level o) s.strength f.1)))
      where
        not_dot : follow.Operated o ≡ follow.Dotted → ⊥
        not_dot h = absurd cc
    by (Selects y) f i a =
        both_true _ _ (bare_not (is_bare (phrase s.node)) f.1) (so follow.Dotted a (le_true 9 s.strength f.0))
      where
        bare_not : (c : Bool) → c ≡ false → not (c && heads (is_sign symbol.Dot) (w ++ v)) ≡ true
        bare_not true e = absurd cc
        bare_not false e = refl
    by (TestsFor p c) f i a =
        both_true _ _ (plain (follow_differs follow.Tests not_dot (w ++ v) a))
        (so follow.Tests a
        (both_true _ _ (le_true k 4 f.0)
        (both_true _ _ (le_true 5 s.strength f.1) (ap not (test_ends_not b p c w v i)))))
      where
        not_dot : follow.Tests ≡ follow.Dotted → ⊥
        not_dot h = absurd cc

-- ---- what ends climbing

pub seen_past : (b : Behind) (k : ℕ) (s : Measured) (ls others : List Token) → AgreePast (looks_of b) ls others
    → goes_past b k s ls ≡ goes_past b k s others
seen_past b k s [] [] g = refl
seen_past b k s [] (q ∷ qs) g = absurd g
seen_past b k s (p ∷ ps) [] g = absurd g
seen_past b k s (p ∷ ps) (q ∷ qs) g =
    ends_same b g ∙ ap (λ (t : Token). goes_past b k s (t ∷ qs)) g.0
  where
    agreed : (ps qs : List Token) → Agree ps qs → heads (is_sign symbol.MinusMinus) ps ≡ heads
        (is_sign symbol.MinusMinus) qs
    agreed [] [] g = refl
    agreed [] (q ∷ qs) g = absurd g
    agreed (p ∷ ps) [] g = absurd g
    agreed (p ∷ ps) (q ∷ qs) g = ap (λ (t : Token). is_sign symbol.MinusMinus t.kind) g

    tests_pattern : (q : TokenKind) → follow_of q ≡ follow.Tests → is_with_pattern q ≡ true
    tests_pattern (kind.Pair pair.WithPattern) e = refl
    tests_pattern (kind.Word key.Or) e = absurd cc
    tests_pattern (kind.Word key.Xor) e = absurd cc
    tests_pattern (kind.Word key.And) e = absurd cc
    tests_pattern (kind.Word key.Contains) e = absurd cc
    tests_pattern (kind.Symbol symbol.Less) e = absurd cc
    tests_pattern (kind.Symbol symbol.LessEqual) e = absurd cc
    tests_pattern (kind.Symbol symbol.Greater) e = absurd cc
    tests_pattern (kind.Symbol symbol.GreaterEqual) e = absurd cc
    tests_pattern (kind.Symbol symbol.Equal) e = absurd cc
    tests_pattern (kind.Symbol symbol.NotEqual) e = absurd cc
    tests_pattern (kind.Symbol symbol.Plus) e = absurd cc
    tests_pattern (kind.Symbol symbol.Minus) e = absurd cc
    tests_pattern (kind.Symbol symbol.Star) e = absurd cc
    tests_pattern (kind.Symbol symbol.Slash) e = absurd cc
    tests_pattern (kind.Symbol symbol.Dot) e = absurd cc
    tests_pattern _ e = absurd cc

    by : (f : Follow) → follow_of p.kind ≡ f → AgreePast (looks_of Tested) (p ∷ ps) (q ∷ qs)
        → goes_so Tested k s.strength f (p ∷ ps) ≡ goes_so Tested k s.strength f (p ∷ qs)
    by (follow.Operated o) e g = refl
    by follow.Dotted e g = refl
    by follow.Other e g = refl
    by follow.Tests e g =
        ap (λ (z : Bool). nat_le k 4 && (nat_le 5 s.strength && not z)) (agreed ps qs (g.1 (tests_pattern p.kind e)))

    other : (f : Follow) → goes_so Other k s.strength f (p ∷ ps) ≡ goes_so Other k s.strength f (p ∷ qs)
    other (follow.Operated o) = refl
    other follow.Dotted = refl
    other follow.Tests = refl
    other follow.Other = refl

    field : (f : Follow) → goes_so Field k s.strength f (p ∷ ps) ≡ goes_so Field k s.strength f (p ∷ qs)
    field (follow.Operated o) = refl
    field follow.Dotted = refl
    field follow.Tests = refl
    field follow.Other = refl

    ends_same : (b : Behind) → AgreePast (looks_of b) (p ∷ ps) (q ∷ qs)
        → goes_past b k s (p ∷ ps) ≡ goes_past b k s (p ∷ qs)
    ends_same Tested g =
        ap (λ (z : Bool). not (is_bare (phrase s.node) && is_sign symbol.Dot p.kind) && z)
        (by (follow_of p.kind) refl g)
    ends_same Other g =
        ap (λ (z : Bool). not (is_bare (phrase s.node) && is_sign symbol.Dot p.kind) && z) (other (follow_of p.kind))
    ends_same Field g =
        ap (λ (z : Bool). not (is_bare (phrase s.node) && is_sign symbol.Dot p.kind) && z) (field (follow_of p.kind))

pub agree_past : (looks : TokenKind → Bool) (p : Token) (ps qs : List Token) → Agree ps qs
    → AgreePast looks (p ∷ ps) (p ∷ qs)
agree_past looks p ps qs g = (refl, λ h. g)

-- what counts of the words of operators
pub operator_facts : (o : Operator) → (is_taken (operator_kind o) ≡ true) × (is_with_pattern (operator_kind o) ≡ false)
    × (is_sign symbol.Comma (operator_kind o) ≡ false) × (is_sign symbol.MinusMinus (operator_kind o) ≡ false)
operator_facts op.Or = (refl, refl, refl, refl)
operator_facts _ = (refl, refl, refl, refl)

operator_asked : (b : Behind) (o : Operator) (ts : List Token) → is_asked b (operator_kind o) ts ≡ false
operator_asked Other o ts = refl
operator_asked Tested o ts = first_false _ _ (operator_facts o).1
operator_asked Field o ts = first_false _ _ (operator_facts o).3

either_of : (a d e g h : Bool) → a ≡ true → e ≡ false → g ≡ false → (not a || (d || (e || (g || h)))) ≡ true
    → (d ≡ true) ⊎ (h ≡ true)
either_of false d e g h p q r x = absurd cc
either_of true true e g h p q r x = inl refl
either_of true false true g h p q r x = absurd cc
either_of true false false true h p q r x = absurd cc
either_of true false false false h p q r x = inr x

pub tests_is : (q : TokenKind) → follow_of q ≡ follow.Tests → q ≡ kind.Pair pair.WithPattern
tests_is (kind.Pair pair.WithPattern) e = refl
tests_is (kind.Word key.Or) e = absurd cc
tests_is (kind.Word key.Xor) e = absurd cc
tests_is (kind.Word key.And) e = absurd cc
tests_is (kind.Word key.Contains) e = absurd cc
tests_is (kind.Symbol symbol.Less) e = absurd cc
tests_is (kind.Symbol symbol.LessEqual) e = absurd cc
tests_is (kind.Symbol symbol.Greater) e = absurd cc
tests_is (kind.Symbol symbol.GreaterEqual) e = absurd cc
tests_is (kind.Symbol symbol.Equal) e = absurd cc
tests_is (kind.Symbol symbol.NotEqual) e = absurd cc
tests_is (kind.Symbol symbol.Plus) e = absurd cc
tests_is (kind.Symbol symbol.Minus) e = absurd cc
tests_is (kind.Symbol symbol.Star) e = absurd cc
tests_is (kind.Symbol symbol.Slash) e = absurd cc
tests_is (kind.Symbol symbol.Dot) e = absurd cc
tests_is _ e = absurd cc

pub dotted_is : (q : TokenKind) → follow_of q ≡ follow.Dotted → q ≡ kind.Symbol symbol.Dot
dotted_is (kind.Symbol symbol.Dot) e = refl
dotted_is (kind.Word key.Or) e = absurd cc
dotted_is (kind.Word key.Xor) e = absurd cc
dotted_is (kind.Word key.And) e = absurd cc
dotted_is (kind.Word key.Contains) e = absurd cc
dotted_is (kind.Symbol symbol.Less) e = absurd cc
dotted_is (kind.Symbol symbol.LessEqual) e = absurd cc
dotted_is (kind.Symbol symbol.Greater) e = absurd cc
dotted_is (kind.Symbol symbol.GreaterEqual) e = absurd cc
dotted_is (kind.Symbol symbol.Equal) e = absurd cc
dotted_is (kind.Symbol symbol.NotEqual) e = absurd cc
dotted_is (kind.Symbol symbol.Plus) e = absurd cc
dotted_is (kind.Symbol symbol.Minus) e = absurd cc
dotted_is (kind.Symbol symbol.Star) e = absurd cc
dotted_is (kind.Symbol symbol.Slash) e = absurd cc
dotted_is (kind.Pair pair.WithPattern) e = absurd cc
dotted_is _ e = absurd cc

-- what may follow isn't gone on with
pub stops_at : (b : Behind) (k : ℕ) (s : Measured) (v : List Token) → k ≤ 9 → MayFollow b k s v
    → goes_past b k s v ≡ false
stops_at b k s [] le o = second_false _ _ refl
stops_at b k s (p ∷ ts) le o = second_false _ _ (by (follow_of p.kind) refl)
  where
    at : (q : TokenKind) → p.kind ≡ q → may_stand b k s.strength s.in_match q ts ≡ true
    at q e = ap (λ (z : TokenKind). may_stand b k s.strength s.in_match z ts) (sym e) ∙ o

    asked_tests : (b : Behind) → is_asked b (kind.Pair pair.WithPattern) ts ≡ true
        → (nat_le k 4 && (nat_le 5 s.strength && not (ends_test b (p ∷ ts)))) ≡ false
    asked_tests Other h = absurd cc
    asked_tests Field h = absurd cc
    asked_tests Tested h = second_false _ _ (second_false _ _ (ap not h))

    by : (f : Follow) → follow_of p.kind ≡ f → goes_so b k s.strength (follow_of p.kind) (p ∷ ts) ≡ false
    by follow.Other e = ap (λ (g : Follow). goes_so b k s.strength g (p ∷ ts)) e
    by (follow.Operated x) e =
        let q = operator_is p.kind x e in
        let f = operator_facts x in
        let below : (not (nat_eq s.strength 0) && is_below k (follow_of (operator_kind x))) ≡ true =
        last_of (is_taken (operator_kind x)) (is_asked b (operator_kind x) ts)
        (nat_eq k 9 && is_sign symbol.Comma (operator_kind x))
        (not s.in_match && is_sign symbol.MinusMinus (operator_kind x))
        (not (nat_eq s.strength 0) && is_below k (follow_of (operator_kind x))) f.0 (operator_asked b x ts)
        (second_false (nat_eq k 9) _ f.2) (second_false (not s.in_match) _ f.3) (at (operator_kind x) q) in
        ap (λ (g : Follow). goes_so b k s.strength g (p ∷ ts)) e
        ∙ first_false (nat_le k (operator_level x)) _
        (loose (ap (is_below k) (sym (operator_word x).1) ∙ (both_are _ _ below).1))
      where
        loose : nat_lt (operator_level x) k ≡ true → nat_le k (operator_level x) ≡ false
        loose h = grind (arith, nat_tests, h)
    by follow.Dotted e =
        absurd (dot_refused b k s.strength s.in_match ts le (at (kind.Symbol symbol.Dot) (dotted_is p.kind e)))
    by follow.Tests e =
        ap (λ (g : Follow). goes_so b k s.strength g (p ∷ ts)) e
        ∙ tests (either_of true (is_asked b (kind.Pair pair.WithPattern) ts)
        (nat_eq k 9 && is_sign symbol.Comma (kind.Pair pair.WithPattern))
        (not s.in_match && is_sign symbol.MinusMinus (kind.Pair pair.WithPattern))
        (not (nat_eq s.strength 0) && nat_lt 4 k) refl
        (second_false (nat_eq k 9) _ refl) (second_false (not s.in_match) _ refl)
        (at (kind.Pair pair.WithPattern) (tests_is p.kind e)))
      where
        loose : nat_lt 4 k ≡ true → nat_le k 4 ≡ false
        loose h = grind (arith, nat_tests, h)

        tests : (is_asked b (kind.Pair pair.WithPattern) ts ≡ true) ⊎ ((not (nat_eq s.strength 0) && nat_lt 4 k) ≡ true)
            → (nat_le k 4 && (nat_le 5 s.strength && not (ends_test b (p ∷ ts)))) ≡ false
        tests (inl h) = asked_tests b h
        tests (inr h) = first_false (nat_le k 4) _ (loose (both_are _ _ h).1)

-- ---- how far steps read

pub room_shrinks : {A : Type 0} (room : ℕ) (take : Token → Option A) (ts : List Token)
    → length (left_of (with_room room (one take) ts)) ≤ length ts
room_shrinks (suc room) take ts = shrinks_one take ts
room_shrinks {A = A} zero take ts = by (one take ts) (shrinks_one take ts)
  where
    by : (o : Parsed A) → length (left_of o) ≤ length ts → length (left_of (too_high ts o)) ≤ length ts
    by (Fails left deep whole) h = h
    by (Reads x left) h = omega arith
