-- Forms that end in a part, and parentheses.
use Rattle.std.proofs.Common.{ℕ, suc, ◌≤◌, max, refl, arith}
use Rattle.cat_lex.specs.declared.token.TokenKind.TheVariants as kind
use Rattle.cat_lex.specs.declared.words.Keyword.TheVariants as key
use Rattle.cat_lex.specs.declared.symbol.Symbol.TheVariants as symbol
use Rattle.cat_tree.specs.declared.expression.Node.TheViews as node
use Rattle.cat_tree.specs.Wording as wording
use Rattle.cat_parse_expr.specs.declared.cue.Cue.TheVariants as cue
use Rattle.cat_parse_expr.specs.declared.opening.Opening.TheVariants as opening
use Rattle.cat_parse_expr.specs.Brackets as brackets
use Rattle.cat_parse_expr.specs.Forms as forms
use Rattle.cat_parse_expr.proofs.Common.{Pos, Parts, End, ◌▹◌, symbol_at, key_at, sign, part, of_level, phrase}
use Rattle.cat_parse_expr.proofs.Common.{phrase_If, phrase_Parens, Behind, Other, Measured, closed, form, Lower}
use Rattle.cat_parse_expr.proofs.Common.{looks_of, KeepsWhole, measured_of, IsMeasured, IsLow, operand_row, AreRight}
use Rattle.cat_parse_expr.proofs.Firsts.{class_Parens, class_If}
use Rattle.cat_parse_expr.proofs.Follows.{word_follows, tall_enough}
use Rattle.cat_parse_expr.proofs.Operands.{Next, form_next, OfClass, Form, form_read, measured_by, height_is, match_is}
use Rattle.cat_parse_expr.proofs.Operands.{inner_read, end_read}
use Rattle.cat_parse_expr.proofs.Read.{IsRead, pure_read}
use Rattle.cat_parse_expr.proofs.Worded.{word_read, opened_at_read}
use Rattle.cat_parse_expr.proofs.NothingWhole.{hidden_shut}
use Rattle.cat_parse_expr.proofs.Sequels.{part_read, last_read, past_none}
use Rattle.cat_parse_expr.proofs.Tuples.{both, four}

module _ (ex : Lower) (room : ℕ) (right : AreRight room ex)
    (kept : (b : Behind) (j bound : ℕ) → j ≤ 9 → KeepsWhole (IsLow room) bound IsMeasured (operand_row j) (ex b j))
    (b : Behind) (k : ℕ) where
  -- ---- ( E )

  abbrev parens_of : Pos × Measured → Measured
  parens_of t = closed 9 t.1.height (node.Parens t.0 t.1.node)

  abbrev parens_row : Pos × Measured → Parts
  parens_row t = symbol_at symbol.LeftParen t.0 ▹ part 0 (phrase t.1.node) ▹ sign symbol.RightParen ▹ End

  parens_form : k ≤ 9 → Form k opening.Parens (λ t. IsMeasured t.1) parens_row parens_of
  parens_form le = record {
    rank = λ t. of_level 9;
    is = λ t. phrase_Parens t.0 t.1.node;
    measured =
        λ t m. measured_by (node.Parens t.0 t.1.node) _ _ _ _ (phrase_Parens t.0 t.1.node)
        (omega (arith, height_is t.1 m)) refl refl;
    level = λ t m. le;
    bounded = λ t m. refl;
    class = λ t. class_Parens t.0 t.1.node;
    shape = λ t. (t.0, t.1.node, refl);
    split = λ n s levels low. ((s.0, measured_of s.1), s.2, refl);
  }

  pub parens_read : {K : Type 0} → k ≤ 9
      → IsRead (λ y. y) K (Unit {0}) (Unit {0}) (IsLow (suc room)) (Next b k) (looks_of b) (OfClass k opening.Parens)
      (operand_row k) (brackets.parens ex room)
  parens_read le =
      form_read k (suc room) (Next b k) opening.Parens (λ t. IsMeasured t.1) parens_row parens_of
      (brackets.parens ex room)
      (parens_form le)
      (opened_at_read room (cue.Sign symbol.LeftParen) (λ t. t.0) _ _
      (λ none f c y m low. omega (arith, none, low, tall_enough y.1 m))
      (λ p. part_read (λ t. t.1) _ _ (inner_read ex room right Other) (λ ts. hidden_shut (ex Other 0 ts))
      (λ x ts. past_none (looks_of b) _ ts)
      (record {
        fit = λ y f. f.0;
        behind = λ y w v f s. word_follows Other 0 y.1 (kind.Symbol symbol.RightParen) w v refl s;
        part = λ y f low. omega (arith, low);
      })
      (λ e. word_read (cue.Sign symbol.RightParen) _ _
      (λ q. pure_read (p, e) (λ f. ((f.1, refl), refl)) (λ f c. omega (arith, c.1)) (λ y f h. both y p e h.0.1 h.1)))))

  -- ---- if E then E else E

  abbrev Choice : Type 0
  Choice = Pos × Measured × Measured × Measured

  abbrev choice_of : Choice → Measured
  choice_of t =
      form (max (max t.1.height t.2.height) t.3.height) t.3.in_match (node.If t.0 t.1.node t.2.node t.3.node)

  abbrev choice_row : Choice → Parts
  choice_row t =
      key_at key.If t.0 ▹ part 0 (phrase t.1.node) ▹ wording.«word» key.Then ▹ part 0 (phrase t.2.node)
      ▹ wording.«word» key.Else ▹ part 0 (phrase t.3.node) ▹ End

  abbrev choice_fits : Choice → Type 0
  choice_fits t = IsMeasured t.1 × IsMeasured t.2 × IsMeasured t.3

  choice_form : k ≤ 8 → Form k opening.If choice_fits choice_row choice_of
  choice_form le = record {
    rank = λ t. wording.form;
    is = λ t. phrase_If t.0 t.1.node t.2.node t.3.node;
    measured =
        λ t m. measured_by (node.If t.0 t.1.node t.2.node t.3.node) _ _ _ _ (phrase_If t.0 t.1.node t.2.node t.3.node)
        (omega (arith, height_is t.1 m.0, height_is t.2 m.1, height_is t.3 m.2)) refl (match_is t.3 m.2);
    level = λ t m. le;
    bounded = λ t m. refl;
    class = λ t. class_If t.0 t.1.node t.2.node t.3.node;
    shape = λ t. (t.0, t.1.node, t.2.node, t.3.node, refl);
    split = λ n s levels low. ((s.0, measured_of s.1, measured_of s.2, measured_of s.3), s.4, (refl, refl, refl));
  }

  pub choice_read : {K : Type 0} → k ≤ 8
      → IsRead (λ y. y) K (Unit {0}) (Unit {0}) (IsLow (suc room)) (Next b k) (looks_of b) (OfClass k opening.If)
      (operand_row k) (forms.choice ex room b)
  choice_read le =
      form_read k (suc room) (Next b k) opening.If choice_fits choice_row choice_of (forms.choice ex room b)
      (choice_form le)
      (opened_at_read room (cue.Word key.If) (λ t. t.0) _ _
      (λ none f c y m low. omega (arith, none, low, tall_enough y.1 m.0))
      (λ p. part_read (λ t. t.1) _ _ (inner_read ex room right Other) (λ ts. hidden_shut (ex Other 0 ts))
      (λ x ts. past_none (looks_of b) _ ts)
      (record {
        fit = λ y f. f.0.0;
        behind = λ y w v f s. word_follows Other 0 y.1 (kind.Word key.Then) w v refl s;
        part = λ y f low. omega (arith, low);
      })
      (λ c. word_read (cue.Word key.Then) _ _
      (λ q. part_read (λ t. t.2) _ _ (inner_read ex room right Other) (λ ts. hidden_shut (ex Other 0 ts))
      (λ x ts. past_none (looks_of b) _ ts)
      (record {
        fit = λ y f. f.0.0.1;
        behind = λ y w v f s. word_follows Other 0 y.2 (kind.Word key.Else) w v refl s;
        part = λ y f low. omega (arith, low);
      })
      (λ t. word_read (cue.Word key.Else) _ _
      (λ r. last_read (λ y. y.3) (λ e. (p, c, t, e)) _
      (end_read ex room right b 0 (omega arith) (λ bound. kept b 0 bound (omega arith))) (λ x ts. refl)
      (record {
        fit = λ y f. f.0.0.0.2;
        built = λ f x m. ((((f.0.1, f.1, m), refl), refl), refl);
        has = λ x. refl;
        only = λ f y h. four y p c t h.0.0.1 h.0.1 h.1;
        lows = λ f c x m low. omega (arith, c.0.1, c.1, low);
        part = λ f x m low. omega (arith, low);
        outside = λ f x v m o. form_next b k (choice_of (p, c, t, x)) 0 x v le refl refl o;
      })))))))
