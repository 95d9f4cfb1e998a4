-- Forms over a list.
use Rattle.std.proofs.Common.{◌≡◌, ℕ, suc, ◌≤◌, max, false, List, refl, ap, ◌∙◌, arith}
use Rattle.cat_lex.specs.declared.words.Keyword.TheVariants as key
use Rattle.cat_tree.specs.declared.expression.Each.TheVariants as each
use Rattle.cat_tree.specs.declared.expression.Node.TheViews as node
use Rattle.cat_tree.specs.Wording as wording
use Rattle.cat_parse_expr.specs.declared.cue.Cue.TheVariants as cue
use Rattle.cat_parse_expr.specs.declared.opening.Opening.TheVariants as opening
use Rattle.cat_parse_expr.specs.Cues as cues
use Rattle.cat_parse_expr.specs.Forms as forms
use Rattle.cat_parse_expr.proofs.Common.{Pos, Token, Name, Each, Row, Parts, End, each_parts, ◌▹◌, first, then_, lower}
use Rattle.cat_parse_expr.proofs.Common.{part, phrase, phrase_Each, Behind, Other, Measured, kind_of, lower_of, word_of}
use Rattle.cat_parse_expr.proofs.Common.{form, hidden, Lower, key_word, MayFollow, looks_of, is_taken, KeepsWhole}
use Rattle.cat_parse_expr.proofs.Common.{measured_of, IsMeasured, IsLow, operand_row, AreRight}
use Rattle.cat_parse_expr.proofs.Firsts.{class_Each}
use Rattle.cat_parse_expr.proofs.Follows.{word_follows}
use Rattle.cat_parse_expr.proofs.Operands.{Next, form_next, OfClass, Form, form_read, measured_by, height_is, match_is}
use Rattle.cat_parse_expr.proofs.Operands.{inner_read, end_read}
use Rattle.cat_parse_expr.proofs.Read.{IsRead}
use Rattle.cat_parse_expr.proofs.Worded.{word_read, word_at_read, lower_read}
use Rattle.cat_parse_expr.proofs.NothingWhole.{hidden_shut, IsShut, shut_after, one_shut}
use Rattle.cat_parse_expr.proofs.Sequels.{part_read, last_read, past_none}
use Rattle.cat_parse_expr.proofs.Tuples.{two, three}

-- ---- w among E

module _ (ex : Lower) (room : ℕ) (right : AreRight room ex) where
  abbrev pub among_row : Name × Measured → Parts
  among_row t = lower t.0 ▹ wording.«word» key.Among ▹ part 0 (phrase t.1.node) ▹ End

  pub among_read : IsRead (λ y. y) ⊥ (Unit {0}) (Unit {0}) (λ t. t.1.height ≤ room) (λ t v. MayFollow Other 0 t.1 v)
      (λ k. false) (λ t. IsMeasured t.1) among_row (forms.among ex room)
  among_read =
      lower_read (λ t. t.0) _ _
      (λ w. word_read (cue.Word key.Among) _ _
      (λ p. last_read (λ t. t.1) (λ l. (w, l)) _ (inner_read ex room right Other) (λ x ts. refl)
      (record {
        fit = λ y f. f.0;
        built = λ f x m. (m, refl);
        has = λ x. refl;
        only = λ f y h. two y w h.1;
        lows = λ f c x m low. low;
        part = λ f x m low. low;
        outside = λ f x v m o. o;
      })))

  pub among_shut : (ts : List Token) → IsShut (forms.among ex room ts)
  among_shut ts =
      shut_after (cues.lower ts) _ (one_shut lower_of ts)
      (λ w ts. shut_after (key_word key.Among ts) _ (one_shut (word_of (cue.Word key.Among)) ts)
      (λ p ts. shut_after (hidden (ex Other 0) ts) _ (hidden_shut (ex Other 0 ts)) (λ l ts. tt)))

module _ (ex : Lower) (room : ℕ) (right : AreRight room ex)
    (kept : (b : Behind) (j bound : ℕ) → j ≤ 9 → KeepsWhole (IsLow room) bound IsMeasured (operand_row j) (ex b j))
    (b : Behind) (k : ℕ) where
  -- ---- for all w among E we have E

  abbrev Over : Type 0
  Over = Pos × (Name × Measured) × Measured

  abbrev over_of : Each → Over → Measured
  over_of c t = form (max t.1.1.height t.2.height) t.2.in_match (node.Each c t.0 t.1.0 t.1.1.node t.2.node)

  abbrev over_row : Each → Over → Parts
  over_row c t =
      first (kind_of (forms.each_cue c)) t.0 ▹ lower t.1.0 ▹ wording.«word» key.Among ▹ part 0 (phrase t.1.1.node)
      ▹ then_ (kind_of (forms.body_cue c)) ▹ part 0 (phrase t.2.node) ▹ End

  over_row_is : (c : Each) (t : Over) → each_parts c t.0 t.1.0 (phrase t.1.1.node) (phrase t.2.node) ≡ over_row c t
  over_row_is each.ForAll t = refl
  over_row_is _ t = refl

  body_not_taken : (c : Each) → is_taken (kind_of (forms.body_cue c)) ≡ false
  body_not_taken each.ForAll = refl
  body_not_taken _ = refl

  abbrev over_fits : Over → Type 0
  over_fits t = IsMeasured t.1.1 × IsMeasured t.2

  over_is : (c : Each) (t : Over) → phrase (over_of c t).node ≡ Row wording.form (over_row c t)
  over_is c t =
      phrase_Each c t.0 t.1.0 t.1.1.node t.2.node ∙ ap (λ (ps : Parts). Row wording.form ps) (over_row_is c t)

  over_form : (c : Each) → k ≤ 8 → Form k (opening.Each c) over_fits (over_row c) (over_of c)
  over_form c le = record {
    rank = λ t. wording.form;
    is = λ t. over_is c t;
    measured =
        λ t m. measured_by (over_of c t).node _ _ _ _ (over_is c t)
        (omega (arith, height_is t.1.1 m.0, height_is t.2 m.1)) refl (match_is t.2 m.1);
    level = λ t m. le;
    bounded = λ t m. refl;
    class = λ t. class_Each c t.0 t.1.0 t.1.1.node t.2.node;
    shape = λ t. (t.0, t.1.0, t.1.1.node, t.2.node, refl);
    split = λ n s levels low. ((s.0, (s.1, measured_of s.2), measured_of s.3), s.4, (refl, refl));
  }

  pub over_read : {K : Type 0} (c : Each) → k ≤ 8
      → IsRead (λ y. y) K (Unit {0}) (Unit {0}) (IsLow (suc room)) (Next b k) (looks_of b) (OfClass k (opening.Each c))
      (operand_row k) (forms.over_each ex room b c)
  over_read c le =
      form_read k (suc room) (Next b k) (opening.Each c) over_fits (over_row c) (over_of c)
      (forms.over_each ex room b c)
      (over_form c le)
      (word_at_read (forms.each_cue c) (λ t. t.0) _ _
      (λ p. part_read (λ t. t.1) _ _ (among_read ex room right) (λ ts. among_shut ex room right ts)
      (λ x ts. past_none (looks_of b) _ ts)
      (record {
        fit = λ y f. f.0.0;
        behind = λ y w v f s. word_follows Other 0 y.1.1 (kind_of (forms.body_cue c)) w v (body_not_taken c) s;
        part = λ y f low. omega (arith, low);
      })
      (λ l. word_read (forms.body_cue c) _ _
      (λ q. last_read (λ y. y.2) (λ e. (p, l, e)) _
      (end_read ex room right b 0 (omega arith) (λ bound. kept b 0 bound (omega arith))) (λ x ts. refl)
      (record {
        fit = λ y f. f.0.0.1;
        built = λ f x m. (((f.1, m), refl), refl);
        has = λ x. refl;
        only = λ f y h. three y p l h.0.1 h.1;
        lows = λ f c x m low. omega (arith, c.1, low);
        part = λ f x m low. omega (arith, low);
        outside = λ f x v m o. form_next b k (over_of c (p, l, x)) 0 x v le refl refl o;
      })))))
