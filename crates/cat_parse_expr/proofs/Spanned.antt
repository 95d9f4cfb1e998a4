-- A literal, which may be a number of years, months or days.
use Rattle.std.proofs.Common.{◌≡◌, ℕ, suc, ◌≤◌, Bool, true, false, if◌then◌else◌, int_lt, List, [], ◌∷◌, ◌++◌, ℤ}
use Rattle.std.proofs.Common.{Option, None, Some, refl, sym, ap, subst, ◌∙◌, arith, inl, inr, ◌⊎◌, nat_eq, ◌&&◌}
use Rattle.cat_lex.specs.declared.token.TokenKind.TheVariants as kind
use Rattle.cat_lex.specs.declared.words.Keyword.TheVariants as key
use Rattle.cat_lex.specs.declared.symbol.Symbol.TheVariants as symbol
use Rattle.cat_tree.specs.declared.expression.SurfaceLiteral.TheVariants as literal
use Rattle.cat_tree.specs.declared.expression.Unit.{Unit as TimeUnit}
use Rattle.cat_tree.specs.declared.expression.Unit.TheVariants as unit
use Rattle.cat_tree.specs.declared.expression.Node.TheVariants as leaves
use Rattle.cat_parse_expr.specs.declared.behind.Behind.TheVariants.{Other, Field, Pattern as Tested}
use Rattle.cat_parse_expr.specs.declared.opening.Opening.TheVariants as opening
use Rattle.cat_parse_expr.specs.Literals as literals
use Rattle.cat_parse_expr.proofs.Common.{Pos, Token, TokenKind, SurfaceLiteral, literal_parts, span_bound, unit_word}
use Rattle.cat_parse_expr.proofs.Common.{Parts, End, Word, At, Anywhere, AreSpelled, Behind, Measured, looks_of}
use Rattle.cat_parse_expr.proofs.Common.{is_asked, literal_kind, placed, literal_of, unit_kind, is_unit, spanned, leaf}
use Rattle.cat_parse_expr.proofs.Common.{is_sign, Reader, ◌⨟◌, pure, after, one, made_of, heads, by_word, behind_whole}
use Rattle.cat_parse_expr.proofs.Common.{fallen, IsLow, operand_row}
use Rattle.cat_parse_expr.proofs.Choices.{Decides}
use Rattle.cat_parse_expr.proofs.Chosen.{choice_read, same_read}
use Rattle.cat_parse_expr.proofs.Follows.{IsOwn, own_not}
use Rattle.cat_parse_expr.proofs.Leaves.{some_one, not_both, anywhere}
use Rattle.cat_parse_expr.proofs.Operands.{Next, goes_then, OfClass, form_read}
use Rattle.cat_parse_expr.proofs.Read.{IsRead, pure_read, token_read}
use Rattle.cat_parse_expr.proofs.Shaping.{reshape_read}
use Rattle.cat_parse_expr.proofs.Token.{Terminals}
use Rattle.cat_parse_expr.proofs.Literate.{literal_rest, literal_row_is, Bounded, head_of, literal_form, literal_marks}
use Rattle.cat_parse_expr.proofs.Literate.{Placed as PlacedLiteral, literal_node, shortened, literal_word}

-- ---- units

abbrev unit_in : SurfaceLiteral → TimeUnit
unit_in (literal.Span n u) = u
unit_in l = unit.Year

abbrev IsSpan : SurfaceLiteral → Type 0
IsSpan (literal.Span n u) = Unit {0}
IsSpan l = ⊥

unit_found : (k : TokenKind) (u : TimeUnit) → unit_kind k ≡ Some u → k ≡ kind.Word (unit_word u)
unit_found (kind.Word key.Year) u e = ap (λ (x : TimeUnit). kind.Word (unit_word x)) (some_one unit.Year u e)
unit_found (kind.Word key.Month) u e = ap (λ (x : TimeUnit). kind.Word (unit_word x)) (some_one unit.Month u e)
unit_found (kind.Word key.Day) u e = ap (λ (x : TimeUnit). kind.Word (unit_word x)) (some_one unit.Day u e)
unit_found _ u e = absurd cc

unit_self : (u : TimeUnit) → (unit_kind (kind.Word (unit_word u)) ≡ Some u) × (is_unit (kind.Word (unit_word u)) ≡ true)
unit_self unit.Year = (refl, refl)
unit_self _ = (refl, refl)

unit_marks : (fits : PlacedLiteral → Type 0)
    → Terminals fits (λ y. Anywhere (kind.Word (unit_word (unit_in y.0)))) (λ t. unit_kind t.kind)
    (λ u y. unit_in y.0 ≡ u)
unit_marks fits = record {
  gives = λ p u y e f i. some_one (unit_in y.0) u (sym (ap unit_kind i ∙ (unit_self (unit_in y.0)).0) ∙ e);
  is = λ p u y e f i. unit_found p.kind u e ∙ ap (λ (x : TimeUnit). kind.Word (unit_word x)) (sym i);
  none = λ p y e f i. not_both (unit_kind p.kind) (unit_in y.0) e (ap unit_kind i ∙ (unit_self (unit_in y.0)).0);
  token = record { kind = kind.Word key.Year; pos = anywhere };
  made = unit.Year;
  sample = refl;
}

-- a unit doesn't follow what doesn't take it
unit_own : (p : TokenKind) → is_unit p ≡ true → IsOwn p × (is_sign symbol.Comma p ≡ false)
unit_own (kind.Word key.Year) h = ((refl, refl, refl, by), refl)
  where
    by : (b : Behind) (ts : List Token) → is_asked b (kind.Word key.Year) ts ≡ false
    by Other ts = refl
    by Field ts = refl
    by Tested ts = refl
unit_own (kind.Word key.Month) h = ((refl, refl, refl, by), refl)
  where
    by : (b : Behind) (ts : List Token) → is_asked b (kind.Word key.Month) ts ≡ false
    by Other ts = refl
    by Field ts = refl
    by Tested ts = refl
unit_own (kind.Word key.Day) h = ((refl, refl, refl, by), refl)
  where
    by : (b : Behind) (ts : List Token) → is_asked b (kind.Word key.Day) ts ≡ false
    by Other ts = refl
    by Field ts = refl
    by Tested ts = refl
unit_own _ h = absurd cc

no_unit : (b : Behind) (k : ℕ) (y : Measured) (v : List Token) → Next b k y v → heads is_unit v ≡ false
no_unit b k y [] o = refl
no_unit b k y (p ∷ ts) o = by (is_unit p.kind) refl
  where
    second : (a c : Bool) → c ≡ false → (a && c) ≡ false
    second true c h = h
    second false c h = refl

    by : (z : Bool) → is_unit p.kind ≡ z → is_unit p.kind ≡ false
    by true e =
        let own = unit_own p.kind e in
        absurd (own_not b k y p ts own.0 (second (nat_eq k 9) (is_sign symbol.Comma p.kind) own.1)
        (goes_then b k y (p ∷ ts) o))
    by false e = e

-- ---- n | n U

module _ (room : ℕ) (b : Behind) (k : ℕ) where
  abbrev low : PlacedLiteral → Type 0
  low t = (literal_node t).height ≤ suc room

  abbrev out : PlacedLiteral → List Token → Type 0
  out t v = Next b k (literal_node t) v

  abbrev At_word : PlacedLiteral → PlacedLiteral → Type 0
  At_word x y = Bounded y.0 × (head_of y ≡ x)

  abbrev ReadAs : Type 0 → (PlacedLiteral → Type 0) → (PlacedLiteral → Parts) → Reader Measured → Type 0
  ReadAs K fits row s = IsRead literal_node K (Unit {0}) (Unit {0}) low out (looks_of b) fits row s

  -- what is no number takes nothing more
  alone : {K : Type 0} (x : PlacedLiteral) → Bounded x.0 → shortened x.0 ≡ x.0 → literal_rest x.0 ≡ End
      → ((y : SurfaceLiteral) → Bounded y → shortened y ≡ x.0 → y ≡ x.0)
      → ReadAs K (At_word x) (λ y. literal_rest y.0) (pure (literal_node x))
  alone x bounded same none only =
      reshape_read (At_word x) (At_word x) (λ y. End) (λ y. literal_rest y.0) (pure (literal_node x))
      (record {
        to = λ y f. f;
        from = λ y f. f;
        rows = λ y f. sym (ap literal_rest (only y.0 f.0 (ap (λ (t : PlacedLiteral). t.0) f.1)) ∙ none);
      })
      (pure_read x (λ f. (bounded, ap (λ (l : SurfaceLiteral). (l, x.1)) same)) (λ f c. omega arith)
      (λ y f h. ap (λ (l : SurfaceLiteral). (l, y.1)) (only y.0 h.0 (ap (λ (t : PlacedLiteral). t.0) h.1))
      ∙ ap (λ (p : Pos). (x.0, p)) (ap (λ (t : PlacedLiteral). t.1) h.1)))

  module _ (n : ℤ) (p : Pos) (within : int_lt span_bound n ≡ false) where
    abbrev Yes : PlacedLiteral → Type 0
    Yes y = At_word (literal.Int n, p) y × IsSpan y.0

    abbrev No : PlacedLiteral → Type 0
    No y = y ≡ (literal.Int n, p)

    span_is : (y : PlacedLiteral) (u : TimeUnit) → Yes y → unit_in y.0 ≡ u → y ≡ (literal.Span n u, p)
    span_is (literal.Span m v, q) u f e =
        ap (λ (t : PlacedLiteral). (literal.Span (number t.0) v, t.1)) f.0.1
        ∙ ap (λ (w : TimeUnit). (literal.Span n w, p)) e
      where
        number : SurfaceLiteral → ℤ
        number (literal.Int z) = z
        number l = m
    span_is (literal.Int m, q) u f e = absurd f.1
    span_is (literal.Dec d, q) u f e = absurd f.1
    span_is (literal.Pct d, q) u f e = absurd f.1
    span_is (literal.Money d, q) u f e = absurd f.1
    span_is (literal.Date d, q) u f e = absurd f.1
    span_is (literal.Boolean d, q) u f e = absurd f.1

    unit_rows : (y : PlacedLiteral) → Yes y
        → Word (Anywhere (kind.Word (unit_word (unit_in y.0)))) End ≡ literal_rest y.0
    unit_rows (literal.Span m v, q) f = refl
    unit_rows (literal.Int m, q) f = absurd f.1
    unit_rows (literal.Dec d, q) f = absurd f.1
    unit_rows (literal.Pct d, q) f = absurd f.1
    unit_rows (literal.Money d, q) f = absurd f.1
    unit_rows (literal.Date d, q) f = absurd f.1
    unit_rows (literal.Boolean d, q) f = absurd f.1

    abbrev a_unit : Reader Measured
    a_unit = one (λ t. unit_kind t.kind) ⨟ λ u. pure (literal_node (literal.Span n u, p))

    unit_read : {K : Type 0} → ReadAs K Yes (λ y. literal_rest y.0) a_unit
    unit_read =
        reshape_read Yes Yes (λ y. Word (Anywhere (kind.Word (unit_word (unit_in y.0)))) End) (λ y. literal_rest y.0)
        a_unit
        (record { to = λ y f. f; from = λ y f. f; rows = unit_rows })
        (token_read (λ y. Anywhere (kind.Word (unit_word (unit_in y.0)))) _ (λ t. unit_kind t.kind)
        (λ u y. unit_in y.0 ≡ u) _ (unit_marks Yes)
        (λ u. pure_read (literal.Span n u, p) (λ f. (((within, refl), tt), refl)) (λ f c. omega arith)
        (λ y f h. span_is y u h.0 h.1)))

    either : (y : PlacedLiteral) → At_word (literal.Int n, p) y → Yes y ⊎ No y
    either (literal.Span m u, q) f = inl (f, tt)
    either (literal.Int m, q) f = inr f.1
    either (literal.Dec d, q) f = inr f.1
    either (literal.Pct d, q) f = inr f.1
    either (literal.Money d, q) f = inr f.1
    either (literal.Date d, q) f = inr f.1
    either (literal.Boolean d, q) f = inr f.1

    begins : (y : PlacedLiteral) (w v : List Token) → Yes y → AreSpelled (literal_rest y.0) w
        → heads is_unit (w ++ v) ≡ true
    begins y w v f s =
        let t = subst (λ (ps : Parts). AreSpelled ps w) (sym (unit_rows y f)) s in
        ap (λ (u : List Token). heads is_unit (u ++ v)) t.2 ∙ ap is_unit t.3 ∙ (unit_self (unit_in y.0)).1

    nothing_spelled : (y : PlacedLiteral) (w : List Token) → No y → AreSpelled (literal_rest y.0) w → w ≡ []
    nothing_spelled y w f s = subst (λ (t : PlacedLiteral). AreSpelled (literal_rest t.0) w) f s

    decides : Decides out is_unit (At_word (literal.Int n, p)) Yes No (λ y. literal_rest y.0)
    decides = record {
      either = either;
      from_yes = λ y f. f.0;
      from_no = λ y f. subst (At_word (literal.Int n, p)) (sym f) (tt, refl);
      on = λ y w v f s o. begins y w v f s;
      off =
          λ y w v f s o. ap (λ (u : List Token). heads is_unit (u ++ v)) (nothing_spelled y w f s)
          ∙ no_unit b k (literal_node y) v o;
    }

    number_read : {K : Type 0} → ReadAs K (At_word (literal.Int n, p)) (λ y. literal_rest y.0)
        (by_word is_unit (behind_whole a_unit) (pure (literal_node (literal.Int n, p))))
    number_read =
        choice_read is_unit Yes No decides begins (λ y w v f s h. nothing_spelled y w f s) (literal.Int n, p)
        (λ f. record { fit = refl; levels = tt; spelled = refl }) (λ f c. omega arith) unit_read
        (reshape_read No No (λ y. End) (λ y. literal_rest y.0) (pure (literal_node (literal.Int n, p)))
        (record {
          to = λ y f. f;
          from = λ y f. f;
          rows = λ y f. sym (ap (λ (t : PlacedLiteral). literal_rest t.0) f);
        })
        (pure_read (literal.Int n, p) (λ f. refl) (λ f c. omega arith) (λ y f h. h)))

    -- a unit that is there is read
    as_whole : (ts : List Token)
        → after (by_word is_unit (one (λ t. unit_kind t.kind) ⨟ λ u. pure (literal.Span n u)) (pure (literal.Int n)) ts)
        (λ l. pure (literal_node (l, p)))
        ≡ by_word is_unit (behind_whole a_unit) (pure (literal_node (literal.Int n, p))) ts
    as_whole [] = refl
    as_whole (t ∷ ts) = by t.kind
      where
        by : (q : TokenKind)
            → after (if is_unit q then after (made_of (unit_kind q) (t ∷ ts) ts) (λ u. pure (literal.Span n u))
            else pure (literal.Int n) (t ∷ ts)) (λ l. pure (literal_node (l, p)))
            ≡ (if is_unit q then fallen (t ∷ ts) (after (made_of (unit_kind q) (t ∷ ts) ts)
            (λ u. pure (literal_node (literal.Span n u, p)))) else pure (literal_node (literal.Int n, p)) (t ∷ ts))
        by (kind.Word key.Year) = refl
        by (kind.Word key.Month) = refl
        by (kind.Word key.Day) = refl
        by _ = refl

  abbrev behind : PlacedLiteral → Reader Measured
  behind x = spanned x.0 ⨟ λ l. pure (leaf (leaves.Literal l x.1))

  number_alone : (n : ℤ) → int_lt span_bound n ≡ true → (y : SurfaceLiteral) → Bounded y → shortened y ≡ literal.Int n
      → y ≡ literal.Int n
  number_alone n h (literal.Span m u) f e = absurd (clash (int_lt span_bound n) h
      (ap (λ (z : ℤ). int_lt span_bound z) (sym (ap number e)) ∙ f))
    where
      number : SurfaceLiteral → ℤ
      number (literal.Int z) = z
      number l = m

      clash : (c : Bool) → c ≡ true → c ≡ false → ⊥
      clash c x y = absurd cc
  number_alone n h (literal.Int m) f e = e
  number_alone n h _ f e = e

  abbrev IsNumber : SurfaceLiteral → Type 0
  IsNumber (literal.Int n) = Unit {0}
  IsNumber l = ⊥

  other_alone : (x : SurfaceLiteral) → (IsNumber x → ⊥) → (y : SurfaceLiteral) → shortened y ≡ x → y ≡ x
  other_alone x never (literal.Span m u) e = absurd (never (subst IsNumber e tt))
  other_alone x never _ e = e

  behind_read : {K : Type 0} (x : PlacedLiteral) → (IsSpan x.0 → ⊥)
      → ReadAs K (At_word x) (λ y. literal_rest y.0) (behind x)
  behind_read (literal.Int n, p) never = by (int_lt span_bound n) refl
    where
      by : {K : Type 0} (c : Bool) → int_lt span_bound n ≡ c
          → ReadAs K (At_word (literal.Int n, p)) (λ y. literal_rest y.0)
          ((if c then pure (literal.Int n) else by_word is_unit
          (one (λ t. unit_kind t.kind) ⨟ λ u. pure (literal.Span n u)) (pure (literal.Int n)))
          ⨟ λ l. pure (leaf (leaves.Literal l p)))
      by true e = alone (literal.Int n, p) tt refl refl (number_alone n e)
      by false e =
          same_read (by_word is_unit (behind_whole (a_unit n p e)) (pure (literal_node (literal.Int n, p)))) _
          (as_whole n p e) (number_read n p e)
  behind_read (literal.Dec d, p) never =
      alone (literal.Dec d, p) tt refl refl (λ y f e. other_alone (literal.Dec d) (λ h. h) y e)
  behind_read (literal.Pct d, p) never =
      alone (literal.Pct d, p) tt refl refl (λ y f e. other_alone (literal.Pct d) (λ h. h) y e)
  behind_read (literal.Money d, p) never =
      alone (literal.Money d, p) tt refl refl (λ y f e. other_alone (literal.Money d) (λ h. h) y e)
  behind_read (literal.Date d, p) never =
      alone (literal.Date d, p) tt refl refl (λ y f e. other_alone (literal.Date d) (λ h. h) y e)
  behind_read (literal.Boolean d, p) never =
      alone (literal.Boolean d, p) tt refl refl (λ y f e. other_alone (literal.Boolean d) (λ h. h) y e)
  behind_read (literal.Span n u, p) never = absurd (never tt)

  -- ---- a token is no such number

  abbrev Taken_word : Type 0
  Taken_word = (x : PlacedLiteral) × (IsSpan x.0 → ⊥)

  abbrev word_kind : TokenKind → Pos → Option Taken_word
  word_kind (kind.Int n) p = Some ((literal.Int n, p), λ h. h)
  word_kind (kind.Dec d) p = Some ((literal.Dec d, p), λ h. h)
  word_kind (kind.Pct d) p = Some ((literal.Pct d, p), λ h. h)
  word_kind (kind.Money m) p = Some ((literal.Money m, p), λ h. h)
  word_kind (kind.Date d) p = Some ((literal.Date d, p), λ h. h)
  word_kind (kind.Word key.True) p = Some ((literal.Boolean true, p), λ h. h)
  word_kind (kind.Word key.False) p = Some ((literal.Boolean false, p), λ h. h)
  word_kind _ p = None

  abbrev forgotten : Option Taken_word → Option PlacedLiteral
  forgotten None = None
  forgotten (Some a) = Some a.0

  words_same : (q : TokenKind) (p : Pos) → placed (literal_kind q) p ≡ forgotten (word_kind q p)
  words_same (kind.Int n) p = refl
  words_same (kind.Dec d) p = refl
  words_same (kind.Pct d) p = refl
  words_same (kind.Money m) p = refl
  words_same (kind.Date d) p = refl
  words_same (kind.Word key.True) p = refl
  words_same (kind.Word key.False) p = refl
  words_same _ p = refl

  abbrev a_word : Token → Option Taken_word
  a_word t = word_kind t.kind t.pos

  abbrev fits : PlacedLiteral → Type 0
  fits y = Bounded y.0

  taken_marks : Terminals fits (λ y. At (literal_word y.0) y.1) a_word (λ a y. head_of y ≡ a.0)
  taken_marks = record {
    gives = λ p a y e f i. m.gives p a.0 y (words_same p.kind p.pos ∙ ap forgotten e) f i;
    is = λ p a y e f i. m.is p a.0 y (words_same p.kind p.pos ∙ ap forgotten e) f i;
    none = λ p y e f i. m.none p y (words_same p.kind p.pos ∙ ap forgotten e) f i;
    token = record { kind = kind.Word key.True; pos = anywhere };
    made = ((literal.Boolean true, anywhere), λ h. h);
    sample = refl;
  }
    where
      m : Terminals fits (λ y. At (literal_word y.0) y.1) literal_of (λ x y. head_of y ≡ x)
      m = literal_marks fits

  taken_same : (ts : List Token) → (one literal_of ⨟ behind) ts ≡ (one a_word ⨟ λ a. behind a.0) ts
  taken_same [] = refl
  taken_same (t ∷ ts) =
      ap (λ (o : Option PlacedLiteral). after (made_of o (t ∷ ts) ts) behind) (words_same t.kind t.pos)
      ∙ by (a_word t)
    where
      by : (o : Option Taken_word)
          → after (made_of (forgotten o) (t ∷ ts) ts) behind ≡ after (made_of o (t ∷ ts) ts) (λ a. behind a.0)
      by None = refl
      by (Some a) = refl

  pub literal_read : {K : Type 0} → k ≤ 9
      → IsRead (λ y. y) K (Unit {0}) (Unit {0}) (IsLow (suc room)) (Next b k) (looks_of b) (OfClass k opening.Literal)
      (operand_row k) literals.a_literal
  literal_read le =
      form_read k (suc room) (Next b k) opening.Literal fits
      (λ t. literal_parts t.0 t.1) literal_node literals.a_literal
      (literal_form k le)
      (same_read (one a_word ⨟ λ a. behind a.0) literals.a_literal taken_same
      (reshape_read fits fits (λ t. Word (At (literal_word t.0) t.1) (literal_rest t.0)) (λ t. literal_parts t.0 t.1) _
      (record { to = λ y f. f; from = λ y f. f; rows = λ y f. literal_row_is y.0 y.1 })
      (token_read (λ y. At (literal_word y.0) y.1) _ a_word (λ a y. head_of y ≡ a.0) _ taken_marks
      (λ a. behind_read a.0 a.1))))
