-- Accumulations, sums and prefixes.
use Rattle.std.proofs.Common.{◌≡◌, ℕ, zero, suc, ◌≤◌, Bool, false, List, refl, sym, ap, if◌then◌else◌, ◌∙◌, arith}
use Rattle.cat_lex.specs.declared.token.TokenKind.TheVariants as kind
use Rattle.cat_lex.specs.declared.words.Keyword.TheVariants as key
use Rattle.cat_lex.specs.declared.words.DoubleKeyword.TheVariants as pair
use Rattle.cat_lex.specs.declared.symbol.Symbol.TheVariants as symbol
use Rattle.cat_tree.specs.declared.name.Type as types
use Rattle.cat_tree.specs.declared.expression.Node.TheViews as node
use Rattle.cat_tree.specs.declared.expression.Prefix.TheVariants as prefix
use Rattle.cat_tree.specs.Wording as wording
use Rattle.cat_parse_expr.specs.declared.cue.Cue.TheVariants as cue
use Rattle.cat_parse_expr.specs.declared.opening.Opening.TheVariants as opening
use Rattle.cat_parse_expr.specs.Cues as cues
use Rattle.cat_parse_expr.specs.Prefixes as prefixes
use Rattle.cat_parse_expr.specs.Forms as forms
use Rattle.cat_tree.specs.Wording.{words}
use Rattle.cat_parse_expr.proofs.Common.{Pos, Token, Keyword, Name, Node, type_parts, lists_of, base_kind, ◌▸◌}
use Rattle.cat_parse_expr.proofs.Common.{prefix_parts, prefix_level, Prefix, Parts, End, Word, Terminal, At, height}
use Rattle.cat_parse_expr.proofs.Common.{tallest, last_in_form, last_in_match, ends_in_form, ends_in_match, ◌▹◌, key_at}
use Rattle.cat_parse_expr.proofs.Common.{pair_at, first, lower, part, of_level, phrase, phrase_Combine}
use Rattle.cat_parse_expr.proofs.Common.{phrase_Prefixed, phrase_Sum, Behind, Other, Cue, Measured, kind_of, lower_of}
use Rattle.cat_parse_expr.proofs.Common.{word_of, ending, Parsed, Reader, Fails, Reads, hidden, ◌⨟◌, pure, after, Lower}
use Rattle.cat_parse_expr.proofs.Common.{key_word, MayFollow, looks_of, KeepsWhole, measured_of, IsMeasured, IsLow}
use Rattle.cat_parse_expr.proofs.Common.{operand_row, AreRight}
use Rattle.cat_parse_expr.proofs.Firsts.{class_Combine, class_Sum, class_Prefixed}
use Rattle.cat_parse_expr.proofs.Follows.{word_follows, tall_enough, call_ends, prefix_ends}
use Rattle.cat_parse_expr.proofs.Positive.{positive, prefix_low}
use Rattle.cat_parse_expr.proofs.ListForms.{among_read, among_shut}
use Rattle.cat_parse_expr.proofs.Chosen.{same_read}
use Rattle.cat_parse_expr.proofs.Shaping.{reshape_read}
use Rattle.cat_parse_expr.proofs.Types.{type_read, type_shut}
use Rattle.cat_parse_expr.proofs.Operands.{Next, form_next, ending_next, OfClass, Form, form_read, measured_by}
use Rattle.cat_parse_expr.proofs.Operands.{height_is, match_is, strength_by, inner_read, end_read}
use Rattle.cat_parse_expr.proofs.Read.{IsRead}
use Rattle.cat_parse_expr.proofs.Worded.{word_read, word_at_read, lower_read, opened_at_read, opened_read}
use Rattle.cat_parse_expr.proofs.NothingWhole.{hidden_shut, IsShut, shut_after, one_shut}
use Rattle.cat_parse_expr.proofs.Sequels.{part_read, last_read, past_none}
use Rattle.cat_parse_expr.proofs.Tuples.{two, three, four}

-- ---- in w initially E

module _ (ex : Lower) (room : ℕ) (right : AreRight room ex) where
  abbrev pub initially_row : Name × Measured → Parts
  initially_row t =
      wording.«word» key.In ▹ lower t.0 ▹ wording.«word» key.Initially ▹ part 0 (phrase t.1.node) ▹ End

  pub initially_read : IsRead (λ y. y) ⊥ (Unit {0}) (Unit {0}) (λ t. t.1.height ≤ room) (λ t v. MayFollow Other 0 t.1 v)
      (λ k. false) (λ t. IsMeasured t.1) initially_row (forms.initially ex room)
  initially_read =
      word_read (cue.Word key.In) _ _
      (λ a. lower_read (λ t. t.0) _ _
      (λ w. word_read (cue.Word key.Initially) _ _
      (λ p. last_read (λ t. t.1) (λ l. (w, l)) _ (inner_read ex room right Other) (λ x ts. refl)
      (record {
        fit = λ y f. f.0;
        built = λ f x m. (m, refl);
        has = λ x. refl;
        only = λ f y h. two y w h.1;
        lows = λ f c x m low. low;
        part = λ f x m low. low;
        outside = λ f x v m o. o;
      }))))

  pub initially_shut : (ts : List Token) → IsShut (forms.initially ex room ts)
  initially_shut ts =
      shut_after (key_word key.In ts) _ (one_shut (word_of (cue.Word key.In)) ts)
      (λ a ts. shut_after (cues.lower ts) _ (one_shut lower_of ts)
      (λ w ts. shut_after (key_word key.Initially ts) _ (one_shut (word_of (cue.Word key.Initially)) ts)
      (λ p ts. shut_after (hidden (ex Other 0) ts) _ (hidden_shut (ex Other 0 ts)) (λ l ts. tt))))

-- ---- combine all w among E in w initially E with E

regrouped : {A B D : Type 0} (o : Parsed A) (second : Reader B) (r : A → Reader D)
    → after o (λ p ts. after (second ts) (λ q. r p))
    ≡ after (after o (λ p ts. after (second ts) (λ q. pure p))) r
regrouped (Fails left deep whole) second r = refl
regrouped {A = A} {B = B} {D = D} (Reads x left) second r = by (second left)
  where
    by : (o : Parsed B) → after o (λ q. r x) ≡ after {B = D} (after {B = A} o (λ q. pure x)) r
    by (Fails left deep whole) = refl
    by (Reads y left) = refl

module _ (ex : Lower) (room : ℕ) (right : AreRight room ex)
    (kept : (b : Behind) (j bound : ℕ) → j ≤ 9 → KeepsWhole (IsLow room) bound IsMeasured (operand_row j) (ex b j))
    (b : Behind) (k : ℕ) where
  abbrev Combined : Type 0
  Combined = Pos × (Name × Measured) × (Name × Measured) × Measured

  abbrev combined_of : Combined → Measured
  combined_of t = forms.combination t.0 t.1.0 t.2.0 t.1.1 t.2.1 t.3

  abbrev combined_row : Combined → Parts
  combined_row t =
      pair_at pair.CombineAll t.0 ▹ lower t.1.0 ▹ wording.«word» key.Among ▹ part 0 (phrase t.1.1.node)
      ▹ wording.«word» key.In ▹ lower t.2.0 ▹ wording.«word» key.Initially ▹ part 0 (phrase t.2.1.node)
      ▹ wording.«word» key.With ▹ part 0 (phrase t.3.node) ▹ End

  abbrev combined_fits : Combined → Type 0
  combined_fits t = IsMeasured t.1.1 × IsMeasured t.2.1 × IsMeasured t.3

  combined_form : k ≤ 8 → Form k opening.Combine combined_fits combined_row combined_of
  combined_form le = record {
    rank = λ t. wording.form;
    is = λ t. phrase_Combine t.0 t.1.0 t.1.1.node t.2.0 t.2.1.node t.3.node;
    measured =
        λ t m. measured_by (combined_of t).node _ _ _ _ (phrase_Combine t.0 t.1.0 t.1.1.node t.2.0 t.2.1.node t.3.node)
        (omega (arith, height_is t.1.1 m.0, height_is t.2.1 m.1, height_is t.3 m.2)) refl (match_is t.3 m.2);
    level = λ t m. le;
    bounded = λ t m. refl;
    class = λ t. class_Combine t.0 t.1.0 t.1.1.node t.2.0 t.2.1.node t.3.node;
    shape = λ t. (t.0, t.1.0, t.1.1.node, t.2.0, t.2.1.node, t.3.node, refl);
    split =
        λ n s levels low. (
          (s.0, (s.1, measured_of s.2), (s.3, measured_of s.4), measured_of s.5),
          s.6,
          (refl, refl, refl),
        );
  }

  pub combined_read : {K : Type 0} → k ≤ 8
      → IsRead (λ y. y) K (Unit {0}) (Unit {0}) (IsLow (suc room)) (Next b k) (looks_of b) (OfClass k opening.Combine)
      (operand_row k) (forms.combined ex room b)
  combined_read le =
      form_read k (suc room) (Next b k) opening.Combine combined_fits combined_row combined_of
      (forms.combined ex room b)
      (combined_form le)
      (word_at_read (cue.Pair pair.CombineAll) (λ t. t.0) _ _
      (λ p. part_read (λ t. t.1) _ _ (among_read ex room right) (λ ts. among_shut ex room right ts)
      (λ x ts. past_none (looks_of b) _ ts)
      (record {
        fit = λ y f. f.0.0;
        behind = λ y w v f s. word_follows Other 0 y.1.1 (kind.Word key.In) w v refl s;
        part = λ y f low. omega (arith, low);
      })
      (λ l. part_read (λ t. t.2) _ _ (initially_read ex room right) (λ ts. initially_shut ex room right ts)
      (λ x ts. past_none (looks_of b) _ ts)
      (record {
        fit = λ y f. f.0.0.1;
        behind = λ y w v f s. word_follows Other 0 y.2.1 (kind.Word key.With) w v refl s;
        part = λ y f low. omega (arith, low);
      })
      (λ i. word_read (cue.Word key.With) _ _
      (λ q. last_read (λ y. y.3) (λ e. (p, l, i, e)) _
      (end_read ex room right b 0 (omega arith) (λ bound. kept b 0 bound (omega arith))) (λ x ts. refl)
      (record {
        fit = λ y f. f.0.0.0.2;
        built = λ f x m. ((((f.0.1, f.1, m), refl), refl), refl);
        has = λ x. refl;
        only = λ f y h. four y p l i h.0.0.1 h.0.1 h.1;
        lows = λ f c x m low. omega (arith, c.0.1, c.1, low);
        part = λ f x m low. omega (arith, low);
        outside = λ f x v m o. form_next b k (combined_of (p, l, i, x)) 0 x v le refl refl o;
      }))))))

  -- ---- sum T of E

  abbrev Summed : Type 0
  Summed = Pos × types.Type × Measured

  abbrev summed_of : Summed → Measured
  summed_of t = ending 8 t.2.height t.2.strength t.2.in_match (node.Sum t.0 t.1 t.2.node)

  abbrev summed_row : Summed → Parts
  summed_row t = key_at key.Sum t.0 ▹ type_parts t.1 (wording.«word» key.Of ▹ part 8 (phrase t.2.node) ▹ End)

  lists_behind : (n : ℕ) (ps rest : Parts) → lists_of n ps ▸ rest ≡ lists_of n (ps ▸ rest)
  lists_behind zero ps rest = refl
  lists_behind (suc n) ps rest = ap (λ (z : Parts). words pair.ListOf z) (lists_behind n ps rest)

  summed_height : (n : ℕ) (ps : Parts) → tallest (lists_of n ps) ≡ tallest ps
  summed_height zero ps = refl
  summed_height (suc n) ps = summed_height n ps

  summed_last : (n : ℕ) (m : Terminal) (ps : Parts) → last_in_form false (lists_of n (Word m ps))
      ≡ last_in_form false ps
  summed_last zero m ps = refl
  summed_last (suc n) m ps = summed_last n m ps

  summed_match : (n : ℕ) (m : Terminal) (ps : Parts) → last_in_match false (lists_of n (Word m ps))
      ≡ last_in_match false ps
  summed_match zero m ps = refl
  summed_match (suc n) m ps = summed_match n m ps

  summed_form : k ≤ 8 → Form k opening.Sum (λ t. IsMeasured t.2) summed_row summed_of
  summed_form le = record {
    rank = λ t. of_level 8;
    is = λ t. phrase_Sum t.0 t.1 t.2.node;
    measured =
        λ t m. measured_by (summed_of t).node _ _ _ _ (phrase_Sum t.0 t.1 t.2.node)
        (omega (arith, height_is t.2 m, summed_height t.1.lists (first (base_kind t.1.base) t.1.pos (ending_of t))))
        (strength_by t.2 8 m (positive t.2.node)
        ∙ ap (λ (c : Bool). if c then 0 else 8) (sym
        (summed_last t.1.lists (At (base_kind t.1.base) t.1.pos) (ending_of t))))
        (match_is t.2 m ∙ sym (summed_match t.1.lists (At (base_kind t.1.base) t.1.pos) (ending_of t)));
    level = λ t m. le;
    bounded = λ t m. refl;
    class = λ t. class_Sum t.0 t.1 t.2.node;
    shape = λ t. (t.0, t.1, t.2.node, refl);
    split = λ n s levels low. ((s.0, s.1, measured_of s.2), s.3, refl);
  }
    where
      ending_of : Summed → Parts
      ending_of t = wording.«word» key.Of ▹ part 8 (phrase t.2.node) ▹ End

  pub summed_read : {K : Type 0} → k ≤ 8
      → IsRead (λ y. y) K (Unit {0}) (Unit {0}) (IsLow (suc room)) (Next b k) (looks_of b) (OfClass k opening.Sum)
      (operand_row k) (prefixes.sum ex room b)
  summed_read le =
      form_read k (suc room) (Next b k) opening.Sum (λ t. IsMeasured t.2) summed_row summed_of (prefixes.sum ex room b)
      (summed_form le)
      (word_at_read (cue.Word key.Sum) (λ t. t.0) _ _
      (λ p. reshape_read (λ t. IsMeasured t.2 × (t.0 ≡ p)) (λ t. IsMeasured t.2 × (t.0 ≡ p))
      (λ t. type_parts t.1 End ▸ (wording.«word» key.Of ▹ part 8 (phrase t.2.node) ▹ End))
      (λ t. type_parts t.1 (wording.«word» key.Of ▹ part 8 (phrase t.2.node) ▹ End)) _
      (record {
        to = λ t f. f;
        from = λ t f. f;
        rows = λ t f. lists_behind t.1.lists (first (base_kind t.1.base) t.1.pos End) _;
      })
      (part_read (λ t. t.1) _ _ type_read type_shut (λ x ts. past_none (looks_of b) _ ts)
      (record { fit = λ y f. tt; behind = λ y w v f s. tt; part = λ y f low. tt })
      (λ t. word_read (cue.Word key.Of) _ _
      (λ q. last_read (λ y. y.2) (λ e. (p, t, e)) _
      (end_read ex room right b 8 (omega arith) (λ bound. kept b 8 bound (omega arith))) (λ x ts. refl)
      (record {
        fit = λ y f. f.0.0;
        built = λ f x m. ((m, refl), refl);
        has = λ x. refl;
        only = λ f y h. three y p t h.0.1 h.1;
        lows = λ f c x m low. omega (arith, low);
        part = λ f x m low. omega (arith, low);
        outside = λ f x v m o. ending_next b k (summed_of (p, t, x)) 8 8 x v (call_ends k le) refl refl o;
      }))))))

  -- ---- the words of a prefix, and E

  abbrev Prefixed : Type 0
  Prefixed = Pos × Measured

  abbrev prefixed_of : Prefix → Prefixed → Measured
  prefixed_of o t =
      ending (prefix_level o) t.1.height t.1.strength t.1.in_match (node.Prefixed o t.0 t.1.node)

  abbrev prefixed_row : Prefix → Prefixed → Parts
  prefixed_row o t = prefix_parts o t.0 (part (prefix_level o) (phrase t.1.node) ▹ End)

  prefix_counts : (o : Prefix) (p : Pos) (e : Node)
      → (tallest (prefix_parts o p (part (prefix_level o) (phrase e) ▹ End)) ≡ height (phrase e))
      × (last_in_form false (prefix_parts o p (part (prefix_level o) (phrase e) ▹ End)) ≡ ends_in_form (phrase e))
      × (last_in_match false (prefix_parts o p (part (prefix_level o) (phrase e) ▹ End)) ≡ ends_in_match (phrase e))
  prefix_counts prefix.Not p e = (omega arith, refl, refl)
  prefix_counts _ p e = (omega arith, refl, refl)

  prefixed_form : (o : Prefix) → k ≤ prefix_level o
      → Form k (opening.Prefixed o) (λ t. IsMeasured t.1) (prefixed_row o) (prefixed_of o)
  prefixed_form o le = record {
    rank = λ t. of_level (prefix_level o);
    is = λ t. phrase_Prefixed o t.0 t.1.node;
    measured =
        λ t m. let c = prefix_counts o t.0 t.1.node in
        measured_by (prefixed_of o t).node _ _ _ _ (phrase_Prefixed o t.0 t.1.node)
        (omega (arith, height_is t.1 m, c.0))
        (strength_by t.1 (prefix_level o) m (positive t.1.node)
        ∙ ap (λ (z : Bool). if z then 0 else prefix_level o) (sym c.1))
        (match_is t.1 m ∙ sym c.2);
    level = λ t m. le;
    bounded = λ t m. refl;
    class = λ t. class_Prefixed o t.0 t.1.node;
    shape = λ t. (t.0, t.1.node, refl);
    split = λ n s levels low. ((s.0, measured_of s.1), s.2, refl);
  }

  abbrev ReadAs : Type 0 → Prefix → (Prefixed → Parts) → Reader Measured → Type 0
  ReadAs K o row s =
      IsRead (prefixed_of o) K (Unit {0}) (Unit {0}) (λ t. (prefixed_of o t).height ≤ suc room)
      (λ t v. Next b k (prefixed_of o t) v) (looks_of b) (λ t. IsMeasured t.1) row s

  -- the operand
  abbrev operand_reader : Prefix → Pos → Reader Measured
  operand_reader o p =
      ex b (prefix_level o)
      ⨟ λ e. pure (ending (prefix_level o) e.height e.strength e.in_match (node.Prefixed o p e.node))

  operand_read : {K C : Type 0} (o : Prefix) → k ≤ prefix_level o → (p : Pos)
      → IsRead (prefixed_of o) K (Unit {0}) C (λ t. (prefixed_of o t).height ≤ suc room)
      (λ t v. Next b k (prefixed_of o t) v) (looks_of b) (λ t. IsMeasured t.1 × (t.0 ≡ p))
      (λ t. part (prefix_level o) (phrase t.1.node) ▹ End) (operand_reader o p)
  operand_read o le p =
      last_read (λ y. y.1) (λ e. (p, e)) _
      (end_read ex room right b (prefix_level o) (omega (arith, (prefix_low o).1))
      (λ bound. kept b (prefix_level o) bound (omega (arith, (prefix_low o).1)))) (λ x ts. refl)
      (record {
        fit = λ y f. f.0;
        built = λ f x m. (m, refl);
        has = λ x. refl;
        only = λ f y h. two y p h.1;
        lows = λ f c x m low. omega (arith, low);
        part = λ f x m low. omega (arith, low);
        outside =
            λ f x v m o2. ending_next b k (prefixed_of o (p, x)) (prefix_level o) (prefix_level o) x v
            (prefix_ends k o le)
            refl refl o2;
      })

  one_word : {K : Type 0} (o : Prefix) (c : Cue) → k ≤ prefix_level o
      → ReadAs K o (λ t. Word (At (kind_of c) t.0) (part (prefix_level o) (phrase t.1.node) ▹ End))
      (prefixes.opened ex room c ⨟ operand_reader o)
  one_word o c le =
      opened_at_read room c (λ t. t.0) _ _
      (λ none f d y m low. omega (arith, none, low, tall_enough y.1 m)) (λ p. operand_read o le p)

  two_words : {K : Type 0} (o : Prefix) (w : Keyword) → k ≤ prefix_level o
      → ReadAs K o (λ t. key_at w t.0 ▹ wording.«word» key.Of ▹ part (prefix_level o) (phrase t.1.node) ▹ End)
      (prefixes.word_of ex room w ⨟ operand_reader o)
  two_words o w le =
      same_read (key_word w ⨟ λ p. prefixes.opened ex room (cue.Word key.Of) ⨟ λ q. operand_reader o p)
      (prefixes.word_of ex room w ⨟ operand_reader o)
      (λ ts. sym (regrouped (key_word w ts) (prefixes.opened ex room (cue.Word key.Of)) (operand_reader o)))
      (word_at_read (cue.Word w) (λ t. t.0) _ _
      (λ p. opened_read room (cue.Word key.Of) _ _
      (λ none f d y m low. omega (arith, none, low, tall_enough y.1 m.0)) (λ q. operand_read o le p)))

  words_read : {K : Type 0} (o : Prefix) → k ≤ prefix_level o
      → ReadAs K o (prefixed_row o) (prefixes.prefixed ex room b o)
  words_read prefix.Not le = one_word prefix.Not (cue.Word key.Not) le
  words_read prefix.Negate le = one_word prefix.Negate (cue.Sign symbol.Minus) le
  words_read prefix.IntegerOf le = two_words prefix.IntegerOf key.Integer le
  words_read prefix.DecimalOf le = two_words prefix.DecimalOf key.Decimal le
  words_read prefix.MoneyOf le = two_words prefix.MoneyOf key.Money le
  words_read prefix.RoundOf le = one_word prefix.RoundOf (cue.Pair pair.RoundOf) le
  words_read prefix.GetYear le = two_words prefix.GetYear key.GetYear le
  words_read prefix.GetMonth le = two_words prefix.GetMonth key.GetMonth le
  words_read prefix.GetDay le = two_words prefix.GetDay key.GetDay le
  words_read prefix.NumberOf le = one_word prefix.NumberOf (cue.Pair pair.NumberOf) le

  pub prefixed_read : {K : Type 0} (o : Prefix) → k ≤ prefix_level o
      → IsRead (λ y. y) K (Unit {0}) (Unit {0}) (IsLow (suc room)) (Next b k) (looks_of b)
      (OfClass k (opening.Prefixed o))
      (operand_row k) (prefixes.prefixed ex room b o)
  prefixed_read o le =
      form_read k (suc room) (Next b k) (opening.Prefixed o) (λ t. IsMeasured t.1) (prefixed_row o) (prefixed_of o)
      (prefixes.prefixed ex room b o) (prefixed_form o le) (words_read o le)
