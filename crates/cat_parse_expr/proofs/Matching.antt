-- Matches.
use Rattle.std.proofs.Common.{◌≡◌, ℕ, suc, ◌≤◌, max, Bool, true, false, List, [], ◌∷◌, ◌++◌, None, Some, refl, sym, ap}
use Rattle.std.proofs.Common.{subst, ◌∙◌, arith, inl, inr, ◌⊎◌, map, length, not, nat_eq, ◌&&◌, ◌||◌}
use Rattle.std.proofs.lemmas.Bool.Decides.{nat_tests}
use Rattle.cat_lex.specs.declared.token.TokenKind.TheVariants as kind
use Rattle.cat_lex.specs.declared.words.Keyword.TheVariants as key
use Rattle.cat_lex.specs.declared.words.DoubleKeyword.TheVariants as pair
use Rattle.cat_lex.specs.declared.symbol.Symbol.TheVariants as symbol
use Rattle.cat_tree.specs.declared.expression.Node.TheViews as node
use Rattle.cat_parse_expr.specs.declared.behind.Behind.TheVariants.{Other, Field, Pattern as Tested}
use Rattle.cat_parse_expr.specs.declared.cue.Cue.TheVariants as cue
use Rattle.cat_parse_expr.specs.declared.opening.Opening.TheVariants as opening
use Rattle.cat_parse_expr.specs.Forms as forms
use Rattle.cat_parse_expr.specs.Arms as arms
use Rattle.cat_tree.specs.Wording.{words}
use Rattle.cat_parse_expr.specs.Parts.{is_sign}
use Rattle.cat_tree.specs.declared.expression.Pattern.TheVariants as pattern
use Rattle.cat_parse_expr.proofs.Common.{Pos, Token, TokenKind, Node, Phrase, Row, Parts, End, Part, ◌▹◌, key_at, sign}
use Rattle.cat_parse_expr.proofs.Common.{part, phrase, phrase_Match, arm_row, Behind, Measured, form, Lower}
use Rattle.cat_parse_expr.proofs.Common.{MayFollow, looks_of, is_taken, KeepsWhole, measured_of, IsMeasured, IsLow}
use Rattle.cat_parse_expr.proofs.Common.{operand_row, AreRight, AreSpelled, tallest, heads, cue_is, IsLevelled}
use Rattle.cat_parse_expr.proofs.Common.{is_asked, is_below, is_with_pattern, follow_of, SurfaceArm, arms}
use Rattle.cat_parse_expr.proofs.Common.{pattern_parts, MatchArms, with_arm, no_arms, Pattern, Bare, Qualified, Inner}
use Rattle.cat_parse_expr.proofs.Common.{match_of, ends_arms, goes_so}
use Rattle.cat_parse_expr.proofs.Firsts.{class_Match}
use Rattle.cat_parse_expr.proofs.Follows.{tall_enough, no_going, not_taken}
use Rattle.cat_parse_expr.proofs.Operands.{Next, OfClass, Form, form_read, measured_by, height_is, inner_read}
use Rattle.cat_parse_expr.proofs.Operands.{goes_then}
use Rattle.cat_parse_expr.proofs.Read.{IsRead}
use Rattle.cat_parse_expr.proofs.Worded.{word_read, opened_at_read}
use Rattle.cat_parse_expr.proofs.NothingWhole.{hidden_shut}
use Rattle.cat_parse_expr.proofs.Sequels.{part_read, last_read}
use Rattle.cat_parse_expr.proofs.Turnings.{heads_begin, shrinks_after, past_word, read_shrinks}
use Rattle.cat_parse_expr.proofs.Leaves.{cue_found, cue_self}
use Rattle.cat_parse_expr.proofs.Armed.{Armed, arm_rows, highest_of, armed_of, arms_back, rows_are, arms_from, arms_are}
use Rattle.cat_parse_expr.proofs.Armed.{highest_is, AreArmed, arms_row_of, levelled_armed}
use Rattle.cat_parse_expr.proofs.Arming.{arms_read}
use Rattle.cat_parse_expr.proofs.Tuples.{three}
use Rattle.cat_parse_expr.proofs.Truth.{both_are, first_false, second_false, second_is_true}

-- ---- how high arms are

pattern_height : (a : Pattern) (ps : Parts) → tallest (pattern_parts a ps) ≡ tallest ps
pattern_height pattern.Anything ps = refl
pattern_height (pattern.Case (Bare u) None) ps = refl
pattern_height (pattern.Case (Qualified d u) None) ps = refl
pattern_height (pattern.Case (Bare u) (Some w)) ps = refl
pattern_height (pattern.Case (Qualified d u) (Some w)) ps = refl

arms_height : (x : Armed) (xs : List Armed) → AreArmed x xs → tallest (arms_row_of x xs) ≡ highest_of (x ∷ xs)
arms_height x [] m =
    omega (
      arith,
      pattern_height x.0 (sign symbol.Colon ▹ part 0 (phrase x.1.node) ▹ End),
      height_is x.1 m,
    )
arms_height x (y ∷ ys) m =
    omega (
      arith,
      pattern_height x.0 (sign symbol.Colon ▹ Part Inner (phrase x.1.node) (arms_row_of y ys)),
      height_is x.1 m.0,
      arms_height y ys m.2,
    )

arms_first : (x : Armed) (xs : List Armed) (w v : List Token) → AreSpelled (arms_row_of x xs) w
    → heads (is_sign symbol.MinusMinus) (w ++ v) ≡ true
arms_first x [] w v s = heads_begin (cue.Sign symbol.MinusMinus) w v s
arms_first x (y ∷ ys) w v s = heads_begin (cue.Sign symbol.MinusMinus) w v s

-- ---- what follows a match

-- the words before its arms may follow what is matched
pub matched_follows : (y : Measured) (w v : List Token) (x : Armed) (xs : List Armed)
    → AreSpelled (words pair.WithPattern ▹ arms_row_of x xs) w → MayFollow Tested 0 y (w ++ v)
matched_follows y w v x xs s =
    subst (λ (z : List Token). MayFollow Tested 0 y (z ++ v)) (sym s.2)
    (second_is_true (is_taken s.0.kind) (is_asked Tested s.0.kind (s.1 ++ v))
    (nat_eq 0 9 && is_sign symbol.Comma s.0.kind) (not y.in_match && is_sign symbol.MinusMinus s.0.kind)
    (not (nat_eq y.strength 0) && is_below 0 (follow_of s.0.kind))
    (ap (λ (z : TokenKind). is_with_pattern z && heads (is_sign symbol.MinusMinus) (s.1 ++ v)) s.3
    ∙ arms_first x xs s.1 v s.4))

either_of : (a b c d e : Bool) → c ≡ false → d ≡ false → e ≡ false → (not a || (b || (c || (d || e)))) ≡ true
    → (a ≡ false) ⊎ (b ≡ true)
either_of false b c d e p q r h = inl refl
either_of true true c d e p q r h = inr refl
either_of true false true d e p q r h = absurd cc
either_of true false false true e p q r h = absurd cc
either_of true false false false true p q r h = absurd cc
either_of true false false false false p q r h = absurd cc

minus_taken : (p : TokenKind) → is_taken p ≡ false → is_sign symbol.MinusMinus p ≡ false
minus_taken p h = by (is_sign symbol.MinusMinus p) refl
  where
    clash : (c : Bool) → c ≡ true → c ≡ false → ⊥
    clash c x y = absurd cc

    by : (c : Bool) → is_sign symbol.MinusMinus p ≡ c → is_sign symbol.MinusMinus p ≡ false
    by true e = absurd (clash (is_taken p) (ap is_taken (cue_found (cue.Sign symbol.MinusMinus) p e)) h)
    by false e = e

pattern_no_sign : (p : TokenKind) → is_with_pattern p ≡ true → is_sign symbol.MinusMinus p ≡ false
pattern_no_sign (kind.Pair pair.WithPattern) h = refl
pattern_no_sign _ h = absurd cc

pattern_cue : (p : TokenKind) → is_with_pattern p ≡ true → cue_is (cue.Pair pair.WithPattern) p ≡ true
pattern_cue (kind.Pair pair.WithPattern) h = cue_self (cue.Pair pair.WithPattern)
pattern_cue _ h = absurd cc

abbrev NoArm : Behind → List Token → Type 0
NoArm b v = (heads (is_sign symbol.MinusMinus) v && not (ends_arms b v)) ≡ false

no_arm : (b : Behind) (p : Token) (ts : List Token) → is_asked b p.kind ts ≡ true → NoArm b (p ∷ ts)
no_arm Other p ts h = absurd cc
no_arm Tested p ts h =
    first_false (is_sign symbol.MinusMinus p.kind) _ (pattern_no_sign p.kind (both_are _ _ h).0)
no_arm Field p ts h = second_false (is_sign symbol.MinusMinus p.kind) _ (ap not (both_are _ _ h).1)

-- behind a match stands no arm of it
pub match_next : (b : Behind) (k : ℕ) (y : Measured) (v : List Token) → k ≤ 8 → y.strength ≡ 0 → y.in_match ≡ true
    → Next b k y v → ((x : Measured) → MayFollow b 0 x v) × NoArm b v
match_next b k y [] le s i o = (λ x. tt, refl)
match_next b k y (p ∷ ts) le s i o = elim (goes_then b k y (p ∷ ts) o) [
  | inr h ↦ absurd (no_going b k (follow_of p.kind) (p ∷ ts)
      (ap (λ (z : ℕ). goes_so b k z (follow_of p.kind) (p ∷ ts)) (sym s) ∙ h))
  | inl h ↦ by (either_of (is_taken p.kind) (is_asked b p.kind ts) (nat_eq k 9 && is_sign symbol.Comma p.kind)
      (not y.in_match && is_sign symbol.MinusMinus p.kind)
      (not (nat_eq y.strength 0) && is_below k (follow_of p.kind))
      (first_false (nat_eq k 9) (is_sign symbol.Comma p.kind) not_nine)
      (first_false (not y.in_match) (is_sign symbol.MinusMinus p.kind) (ap not i))
      (first_false (not (nat_eq y.strength 0)) (is_below k (follow_of p.kind))
      (ap (λ (z : ℕ). not (nat_eq z 0)) s)) h)
]
  where
    not_nine : nat_eq k 9 ≡ false
    not_nine = grind (arith, nat_tests, le)

    by : (is_taken p.kind ≡ false) ⊎ (is_asked b p.kind ts ≡ true)
        → ((x : Measured) → MayFollow b 0 x (p ∷ ts)) × NoArm b (p ∷ ts)
    by (inl h) = (
      λ x. not_taken b 0 x.strength x.in_match p.kind ts h,
      first_false (is_sign symbol.MinusMinus p.kind) _ (minus_taken p.kind h),
    )
    by (inr h) = (
      λ x. second_is_true (is_taken p.kind) (is_asked b p.kind ts) (nat_eq 0 9 && is_sign symbol.Comma p.kind)
          (not x.in_match && is_sign symbol.MinusMinus p.kind)
          (not (nat_eq x.strength 0) && is_below 0 (follow_of p.kind)) h,
      no_arm b p ts h,
    )

module _ (ex : Lower) (room : ℕ) (right : AreRight room ex)
    (kept : (b : Behind) (j bound : ℕ) → j ≤ 9 → KeepsWhole (IsLow room) bound IsMeasured (operand_row j) (ex b j))
    (b : Behind) (k : ℕ) where
  abbrev Matched : Type 0
  Matched = Pos × Measured × (Armed × List Armed)

  abbrev made : Armed × List Armed → MatchArms
  made c = arms_from no_arms (c.0 ∷ c.1)

  abbrev matched_of : Matched → Measured
  matched_of t = form (max t.1.height (made t.2).tallest) true (node.Match t.0 t.1.node (made t.2).arms)

  abbrev matched_row : Matched → Parts
  matched_row t =
      key_at key.Match t.0 ▹ part 0 (phrase t.1.node) ▹ words pair.WithPattern ▹ arms_row_of t.2.0 t.2.1

  abbrev matched_fits : Matched → Type 0
  matched_fits t = IsMeasured t.1 × AreArmed t.2.0 t.2.1

  matched_is : (t : Matched) → phrase (matched_of t).node ≡ Row (match_of (arm_rows (t.2.0 ∷ t.2.1))) (matched_row t)
  matched_is t =
      phrase_Match t.0 t.1.node (made t.2).arms
      ∙ ap (λ (xs : List SurfaceArm). Row (match_of (map arm_row xs)) (key_at key.Match t.0 ▹ part 0 (phrase t.1.node)
      ▹ words pair.WithPattern ▹ arms (map arm_row xs))) (arms_are (with_arm no_arms t.2.0.0 t.2.0.1) t.2.1)
      ∙ ap (λ (rs : List (Pattern × Phrase)). Row (match_of ((t.2.0.0, phrase t.2.0.1.node) ∷ rs))
      (key_at key.Match t.0 ▹ part 0 (phrase t.1.node) ▹ words pair.WithPattern
      ▹ arms ((t.2.0.0, phrase t.2.0.1.node) ∷ rs))) (rows_are t.2.1)

  matched_form : k ≤ 8 → Form k opening.Match matched_fits matched_row matched_of
  matched_form le = record {
    rank = λ t. match_of (arm_rows (t.2.0 ∷ t.2.1));
    is = matched_is;
    measured =
        λ t m. measured_by (matched_of t).node _ _ _ _ (matched_is t)
        (omega (
          arith,
          height_is t.1 m.0,
          highest_is (with_arm no_arms t.2.0.0 t.2.0.1) t.2.1,
          arms_height t.2.0 t.2.1 m.1,
        )) refl refl;
    level = λ t m. le;
    bounded = λ t m. refl;
    class = λ t. class_Match t.0 t.1.node (made t.2).arms;
    shape = λ t. (t.0, t.1.node, (made t.2).arms, refl);
    split = λ n s levels low. split n s.0 s.1 s.2 s.3 levels;
  }
    where
      split : (n : Node) (p : Pos) (e : Node) (more : List SurfaceArm) → n ≡ node.Match p e more → IsLevelled (phrase n)
          → (t : Matched) × (n ≡ (matched_of t).node) × matched_fits t
      split n p e [] is l = absurd (clash (subst IsLevelled (ap phrase is ∙ phrase_Match p e []) l).0)
        where
          clash : false ≡ true → ⊥
          clash h = absurd cc
      split n p e (a ∷ more) is l = (
        (p, measured_of e, ((a.pattern, measured_of a.body), armed_of more)),
        is ∙ ap (λ (xs : List SurfaceArm). node.Match p e xs)
            (sym (arms_are (with_arm no_arms a.pattern (measured_of a.body)) (armed_of more)
            ∙ ap (λ (xs : List SurfaceArm). a ∷ xs) (arms_back more))),
        (refl, levelled_armed a more (subst IsLevelled (ap phrase is ∙ phrase_Match p e (a ∷ more)) l).1.2),
      )

  pub matched_read : {K : Type 0} → k ≤ 8
      → IsRead (λ y. y) K (Unit {0}) (Unit {0}) (IsLow (suc room)) (Next b k) (looks_of b) (OfClass k opening.Match)
      (operand_row k) (forms.matched ex room b)
  matched_read le =
      form_read k (suc room) (Next b k) opening.Match matched_fits matched_row matched_of (forms.matched ex room b)
      (matched_form le)
      (opened_at_read room (cue.Word key.Match) (λ t. t.0) _ _
      (λ none f c y m low. omega (arith, none, low, tall_enough y.1 m.0))
      (λ p. part_read (λ t. t.1) _ _ (inner_read ex room right Tested) (λ ts. hidden_shut (ex Tested 0 ts))
      (λ x ts. past_word (cue.Pair pair.WithPattern) (looks_of Tested) (looks_of b) _ pattern_cue
      (λ q us. shrinks_after (arms.arms ex b us) _ (length us)
      (read_shrinks (arms_read ex room right kept b {K = Unit {0}}) tt tt us) (λ l vs. omega arith)) ts)
      (record {
        fit = λ y f. f.0.0;
        behind = λ y w v f s. matched_follows y.1 w v y.2.0 y.2.1 s;
        part = λ y f low. omega (arith, low);
      })
      (λ e. word_read (cue.Pair pair.WithPattern) _ _
      (λ q. last_read (λ t. t.2) (λ c. (p, e, c)) _ (arms_read ex room right kept b) (λ x ts. refl)
      (record {
        fit = λ y f. f.0.0.1;
        built = λ f x m. (((f.1, m), refl), refl);
        has = λ x. refl;
        only = λ f y h. three y p e h.0.1 h.1;
        lows = λ f c x m low. omega (arith, c.1, low);
        part = λ f x m low. omega (arith, low);
        outside = λ f x v m o. match_next b k (matched_of (p, e, x)) v le refl refl o;
      })))))
