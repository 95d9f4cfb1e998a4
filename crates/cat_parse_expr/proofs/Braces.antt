-- Literals of structures, and scope calls.
use Rattle.std.proofs.Common.{◌≡◌, ℕ, suc, ◌≤◌, Bool, false, List, ◌∷◌, refl, sym, ap, ◌∙◌, arith, map, if◌then◌else◌}
use Rattle.cat_lex.specs.declared.token.TokenKind.TheVariants as kind
use Rattle.cat_lex.specs.declared.words.Keyword.TheVariants as key
use Rattle.cat_lex.specs.declared.words.DoubleKeyword.TheVariants as pair
use Rattle.cat_lex.specs.declared.symbol.Symbol.TheVariants as symbol
use Rattle.cat_tree.specs.declared.expression.Node.TheViews as node
use Rattle.cat_tree.specs.Wording as wording
use Rattle.cat_parse_expr.specs.declared.cue.Cue.TheVariants as cue
use Rattle.cat_parse_expr.specs.declared.opening.Opening.TheVariants as opening
use Rattle.cat_parse_expr.specs.Cases as cased
use Rattle.cat_parse_expr.specs.Brackets as brackets
use Rattle.cat_parse_expr.specs.Parts as parts
use Rattle.cat_parse_expr.specs.Parts.{sign as a_sign}
use Rattle.cat_parse_expr.specs.Cues as cues
use Rattle.cat_parse_expr.proofs.Common.{Pos, Token, Name, Phrase, Row, Parts, End, Anywhere, ◌▹◌, pair_at, first}
use Rattle.cat_parse_expr.proofs.Common.{lower, sign, of_level, phrase, phrase_ScopeCall, Behind, Measured}
use Rattle.cat_parse_expr.proofs.Common.{closed, Reader, ◌⨟◌, pure, Reads, Lower, key_word, pair_word, looks_of}
use Rattle.cat_parse_expr.proofs.Common.{IsMeasured, IsLow, operand_row, AreRight, ◌▸◌, all, Parsed, Fails, after}
use Rattle.cat_parse_expr.proofs.Common.{word_of, next_field, SurfaceField, fields, field_row}
use Rattle.cat_parse_expr.proofs.Common.{MeasuredFields, no_fields}
use Rattle.cat_parse_expr.proofs.Common.{upper_of, upper}
use Rattle.cat_parse_expr.proofs.Firsts.{class_ScopeCall}
use Rattle.cat_parse_expr.proofs.Operands.{Next, OfClass, Form, form_read, measured_by}
use Rattle.cat_parse_expr.proofs.Read.{IsRead, pure_read}
use Rattle.cat_parse_expr.proofs.Worded.{word_read, word_at_read, lower_read, upper_read}
use Rattle.cat_parse_expr.proofs.NothingWhole.{IsShut, shut_after, one_shut}
use Rattle.cat_parse_expr.proofs.Sequels.{part_read, last_read, past_none}
use Rattle.cat_parse_expr.proofs.Tuples.{both, three}
use Rattle.cat_parse_expr.proofs.Shaping.{reshape_read, look_read}
use Rattle.cat_parse_expr.proofs.Turnings.{heads_begin}
use Rattle.cat_parse_expr.proofs.Chosen.{same_read}
use Rattle.cat_parse_expr.proofs.Positive.{fields_form, fields_match}
use Rattle.cat_parse_expr.proofs.FieldParts.{Valued, field_rows, AreValued, valued_of, valued_are, values_back}
use Rattle.cat_parse_expr.proofs.FieldParts.{rows_are}
use Rattle.cat_parse_expr.proofs.FieldParts.{fields_from, values_are, highest_is, field_parts, fields_are}
use Rattle.cat_parse_expr.proofs.FieldParts.{fields_height}
use Rattle.cat_parse_expr.proofs.FieldParts.{fields_read, fields_shut, some_fields_read, some_fields_shut}

-- ---- output of U with { [-- w : E]* } . w

callee_read : IsRead (λ (c : Pos × Name). c) ⊥ (Unit {0}) (Unit {0}) (λ c. Unit {0}) (λ c v. Unit {0}) (λ k. false)
    (λ c. Unit {0})
    (λ c. pair_at pair.OutputOf c.0 ▹ upper c.1 ▹ wording.«word» key.With ▹ sign symbol.LeftBrace ▹ End) brackets.callee
callee_read =
    word_at_read (cue.Pair pair.OutputOf) (λ c. c.0) _ _
    (λ p. upper_read (λ c. c.1) _ _
    (λ u. word_read (cue.Word key.With) _ _
    (λ q. word_read (cue.Sign symbol.LeftBrace) _ _
    (λ r. pure_read (p, u) (λ f. ((tt, refl), refl)) (λ f c. tt) (λ y f h. both y p u h.0.1 h.1)))))

callee_shut : (ts : List Token) → IsShut (brackets.callee ts)
callee_shut ts =
    shut_after (pair_word pair.OutputOf ts) _ (one_shut (word_of (cue.Pair pair.OutputOf)) ts)
    (λ p ts. shut_after (cues.upper ts) _ (one_shut upper_of ts)
    (λ u ts. shut_after (key_word key.With ts) _ (one_shut (word_of (cue.Word key.With)) ts)
    (λ q ts. shut_after (a_sign symbol.LeftBrace ts) _ (one_shut (word_of (cue.Sign symbol.LeftBrace)) ts)
    (λ r ts. tt))))

a_lower_read : {K : Type 0} → IsRead (λ (w : Name). w) K (Unit {0}) (Unit {0}) (λ w. Unit {0}) (λ w v. Unit {0})
    (λ k. false) (λ w. Unit {0}) (λ w. lower w ▹ End) cues.lower
a_lower_read =
    same_read (cues.lower ⨟ pure) cues.lower (λ ts. by (cues.lower ts))
    (lower_read (λ w. w) _ _ (λ x. pure_read x (λ f. (tt, refl)) (λ f c. tt) (λ y f h. h.1)))
  where
    by : (o : Parsed Name) → o ≡ after o pure
    by (Fails left deep whole) = refl
    by (Reads x left) = refl

output_read : {K : Type 0} → IsRead (λ (w : Name). w) K (Unit {0}) (Unit {0}) (λ w. Unit {0}) (λ w v. Unit {0})
    (λ k. false) (λ w. Unit {0}) (λ w. sign symbol.RightBrace ▹ sign symbol.Dot ▹ lower w ▹ End) brackets.output
output_read =
    word_read (cue.Sign symbol.RightBrace) _ _ (λ p. word_read (cue.Sign symbol.Dot) _ _ (λ q. a_lower_read))

module _ (ex : Lower) (room : ℕ) (right : AreRight room ex) (b : Behind) (k : ℕ) where
  abbrev Scoped : Type 0
  Scoped = (Pos × Name) × List Valued × Name

  abbrev made : List Valued → MeasuredFields
  made xs = fields_from no_fields xs

  abbrev scoped_of : Scoped → Measured
  scoped_of t = closed 9 (made t.1).tallest (node.ScopeCall t.0.0 t.0.1 (made t.1).values t.2)

  abbrev scoped_row : Scoped → Parts
  scoped_row t =
      pair_at pair.OutputOf t.0.0 ▹ upper t.0.1 ▹ wording.«word» key.With ▹ sign symbol.LeftBrace
      ▹ fields (field_rows t.1) (sign symbol.RightBrace ▹ sign symbol.Dot ▹ lower t.2 ▹ End)

  scoped_is : (t : Scoped) → phrase (scoped_of t).node ≡ Row (of_level 9) (scoped_row t)
  scoped_is t =
      phrase_ScopeCall t.0.0 t.0.1 (made t.1).values t.2
      ∙ ap (λ (fs : List (Name × Phrase)). Row (of_level 9) (pair_at pair.OutputOf t.0.0 ▹ upper t.0.1
      ▹ wording.«word» key.With ▹ sign symbol.LeftBrace
      ▹ fields fs (sign symbol.RightBrace ▹ sign symbol.Dot ▹ lower t.2 ▹ End)))
      (ap (map field_row) (values_are no_fields t.1) ∙ rows_are t.1)

  scoped_form : k ≤ 9 → Form k opening.ScopeCall (λ t. AreValued t.1) scoped_row scoped_of
  scoped_form le = record {
    rank = λ t. of_level 9;
    is = λ t. scoped_is t;
    measured =
        λ t m. let ends = sign symbol.Dot ▹ lower t.2 ▹ End in
        measured_by (scoped_of t).node _ _ _ _ (scoped_is t)
        (omega (
          arith,
          highest_is no_fields t.1,
          fields_height t.1 (sign symbol.RightBrace ▹ sign symbol.Dot ▹ lower t.2 ▹ End) m,
        ))
        (ap (λ (c : Bool). if c then 0 else 9)
        (sym (fields_form (field_rows t.1) (Anywhere (kind.Symbol symbol.RightBrace))
        (sign symbol.Dot ▹ lower t.2 ▹ End) false)))
        (sym (fields_match (field_rows t.1) (Anywhere (kind.Symbol symbol.RightBrace))
        (sign symbol.Dot ▹ lower t.2 ▹ End) false));
    level = λ t m. le;
    bounded = λ t m. refl;
    class = λ t. class_ScopeCall t.0.0 t.0.1 (made t.1).values t.2;
    shape = λ t. (t.0.0, t.0.1, (made t.1).values, t.2, refl);
    split =
        λ n s levels low. (
          ((s.0, s.1), valued_of s.2, s.3),
          s.4 ∙ ap (λ (fs : List SurfaceField). node.ScopeCall s.0 s.1 fs s.3)
              (sym (values_are no_fields (valued_of s.2) ∙ values_back s.2)),
          valued_are s.2,
        );
  }

  pub scoped_read : {K : Type 0} → k ≤ 9
      → IsRead (λ y. y) K (Unit {0}) (Unit {0}) (IsLow (suc room)) (Next b k) (looks_of b) (OfClass k opening.ScopeCall)
      (operand_row k) (brackets.scope_call ex room)
  scoped_read le =
      form_read k (suc room) (Next b k) opening.ScopeCall (λ t. AreValued t.1) scoped_row scoped_of
      (brackets.scope_call ex room) (scoped_form le)
      (part_read (λ t. t.0) _ _ callee_read callee_shut (λ x ts. past_none (looks_of b) _ ts)
      (record { fit = λ y f. tt; behind = λ y w v f s. tt; part = λ y f low. tt })
      (λ c. reshape_read (λ t. AreValued t.1 × (t.0 ≡ c)) (λ t. AreValued t.1 × (t.0 ≡ c))
      (λ t. all field_parts t.1 ▸ (sign symbol.RightBrace ▹ sign symbol.Dot ▹ lower t.2 ▹ End))
      (λ t. fields (field_rows t.1) (sign symbol.RightBrace ▹ sign symbol.Dot ▹ lower t.2 ▹ End)) _
      (record {
        to = λ t f. f;
        from = λ t f. f;
        rows = λ t f. fields_are t.1 (sign symbol.RightBrace ▹ sign symbol.Dot ▹ lower t.2 ▹ End);
      })
      (part_read (λ t. t.1) _ _ (fields_read ex room right) (fields_shut ex room right no_fields)
      (λ x ts. past_none (looks_of b) _ ts)
      (record {
        fit = λ y f. f.0;
        behind = λ y w v f s. heads_begin (cue.Sign symbol.RightBrace) w v s;
        part = λ y f low. omega (arith, low);
      })
      (λ xs. last_read (λ t. t.2) (λ w. (c, xs, w)) _ (look_read output_read) (λ x ts. refl)
      (record {
        fit = λ y f. tt;
        built = λ f x m. ((f.1, refl), refl);
        has = λ x. refl;
        only = λ f y h. three y c xs h.0.1 h.1;
        lows = λ f c x m low. omega (arith, c.1);
        part = λ f x m low. tt;
        outside = λ f x v m o. tt;
      })))))

-- ---- { [-- w : E]* }, one field at least

pub regrouped : {A B D : Type 0} (o : Parsed A) (second : A → Reader B) (r : B → Reader D)
    → after o (λ x ts. after (second x ts) r) ≡ after (after o second) r
regrouped (Fails left deep whole) second r = refl
regrouped (Reads x left) second r = refl

module _ (ex : Lower) (room : ℕ) (right : AreRight room ex) (b : Behind) (k : ℕ) (u : Name) where
  abbrev pub Built : Type 0
  Built = Valued × List Valued

  abbrev pub built_fields : Built → MeasuredFields
  built_fields c = fields_from no_fields (c.0 ∷ c.1)

  abbrev pub built_of : Built → Measured
  built_of c = closed 9 (built_fields c).tallest (node.Structure u (built_fields c).values)

  abbrev pub built_rest : Built → Parts
  built_rest c = sign symbol.LeftBrace ▹ fields (field_rows (c.0 ∷ c.1)) (sign symbol.RightBrace ▹ End)

  abbrev pub built_fits : Built → Type 0
  built_fits c = IsMeasured c.0.1 × AreValued c.1

  pub structure_read : {K : Type 0}
      → IsRead built_of K (Unit {0}) (Unit {0}) (λ c. (built_of c).height ≤ suc room) (λ c v. Next b k (built_of c) v)
      (looks_of b) built_fits built_rest (cased.structure ex room u)
  structure_read =
      word_read (cue.Sign symbol.LeftBrace) _ _
      (λ p. same_read
      ((next_field ex no_fields ⨟ λ first. parts.fields ex first) ⨟ behind)
      (next_field ex no_fields ⨟ λ first. parts.fields ex first ⨟ behind)
      (λ ts. regrouped (next_field ex no_fields ts) (λ first. parts.fields ex first) behind)
      (reshape_read built_fits built_fits
      (λ c. all field_parts (c.0 ∷ c.1) ▸ (sign symbol.RightBrace ▹ End))
      (λ c. fields (field_rows (c.0 ∷ c.1)) (sign symbol.RightBrace ▹ End)) _
      (record {
        to = λ t f. f;
        from = λ t f. f;
        rows = λ t f. fields_are (t.0 ∷ t.1) (sign symbol.RightBrace ▹ End);
      })
      (part_read (λ t. t) _ _ (some_fields_read ex room right) (some_fields_shut ex room right)
      (λ x ts. past_none (looks_of b) _ ts)
      (record {
        fit = λ y f. f;
        behind = λ y w v f s. heads_begin (cue.Sign symbol.RightBrace) w v s;
        part = λ y f low. omega (arith, low);
      })
      (λ c. word_read (cue.Sign symbol.RightBrace) _ _
      (λ q. pure_read c (λ f. (f.1, refl)) (λ f l. omega (arith, l.1)) (λ y f h. h.1))))))
    where
      behind : MeasuredFields → Reader Measured
      behind l = a_sign symbol.RightBrace ⨟ λ q. pure (closed 9 l.tallest (node.Structure u l.values))
