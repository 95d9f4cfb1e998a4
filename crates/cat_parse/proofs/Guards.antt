-- The readers of conditions, definitions and rules are right, where that of expressions is.
use Rattle.std.proofs.Common.{◌≡◌, ℕ, Bool, true, false, List, [], ◌∷◌, ◌++◌, Option, Some, None, refl, sym, ap, subst}
use Rattle.std.proofs.Common.{◌∙◌, inl, inr, ◌⊎◌}
use Rattle.cat_lex.specs.declared.token.TokenKind.TheVariants as kind
use Rattle.cat_lex.specs.declared.words.Keyword.TheVariants as key
use Rattle.cat_lex.specs.declared.words.DoubleKeyword.TheVariants as pair
use Rattle.cat_lex.specs.declared.symbol.Symbol.TheVariants as symbol
use Rattle.cat_tree.specs.declared.program.Fulfilled.TheVariants as fulfilled
use Rattle.cat_parse_expr.specs.declared.cue.Cue.TheVariants as cue
use Rattle.cat_parse.proofs.Common.{Pos, Token, TokenKind, Node, TargetName, Fulfilled, Parts, End, Word, At, Anywhere}
use Rattle.cat_parse.proofs.Common.{AreSpelled, ◌▸◌, target_parts, use_condition_parts, fulfilled_parts, Reader, heads}
use Rattle.cat_parse.proofs.Common.{optional, Outside, IsRightTo, is_word, behind_use, behind_expression, is_under}
use Rattle.cat_parse.proofs.Common.{guard, whether_fulfilled, defined, ruled, expression_row, ReadsExpressionsTo}
use Rattle.cat_parse.proofs.Steps.{pure_right}
use Rattle.cat_parse.proofs.Sequel.{part_right}
use Rattle.cat_parse.proofs.Choices.{OptionFits, optional_right, reshaped, choice_right, narrowed, opens_word}
use Rattle.cat_parse.proofs.Leaves.{word_right, word_at_right}
use Rattle.cat_parse.proofs.Last.{last_right}
use Rattle.cat_parse.proofs.Listed.{any_word, outside_any}
use Rattle.cat_parse.proofs.Declarations.{Any}
use Rattle.cat_parse.proofs.Leads.{any_option}
use Rattle.cat_parse.proofs.Targets.{behind_target, target_right}

-- ---- whether a rule is fulfilled

fulfilled_right : (limit bound : ℕ) → IsRightTo limit bound any_word Any fulfilled_parts whether_fulfilled
fulfilled_right limit bound =
    choice_right (λ f. f ≡ fulfilled.No) (λ f. f ≡ fulfilled.Yes) (record {
      either = either;
      from_yes = λ f e. tt;
      from_no = λ f e. tt;
      on =
          λ f w v e s o. let t = subst (λ (z : Fulfilled). AreSpelled (fulfilled_parts z) w) e s in
          ap (λ (u : List Token). heads (is_word key.Not) (u ++ v)) t.2 ∙ ap (is_word key.Not) t.3;
      off =
          λ f w v e s o. let t = subst (λ (z : Fulfilled). AreSpelled (fulfilled_parts z) w) e s in
          ap (λ (u : List Token). heads (is_word key.Not) (u ++ v)) t.2 ∙ ap (is_word key.Not) t.3;
    }) (reshaped (λ f. f ≡ fulfilled.No)
    (λ f. Word (Anywhere (kind.Word key.Not)) (Word (Anywhere (kind.Word key.Fulfilled)) End))
    (record { to = λ f e. e; from = λ f e. e; rows = λ f e. ap fulfilled_parts (sym e) })
    (word_right (cue.Word key.Not) λ p.
    word_right (cue.Word key.Fulfilled) λ q.
    pure_right refl (λ f e. e)))
    (reshaped (λ f. f ≡ fulfilled.Yes) (λ f. Word (Anywhere (kind.Word key.Fulfilled)) End)
    (record { to = λ f e. e; from = λ f e. e; rows = λ f e. ap fulfilled_parts (sym e) })
    (word_right (cue.Word key.Fulfilled) λ q.
    pure_right refl (λ f e. e)))
  where
    either : (f : Fulfilled) → Any f → (f ≡ fulfilled.No) ⊎ (f ≡ fulfilled.Yes)
    either fulfilled.No e = inl refl
    either fulfilled.Yes e = inr refl

-- ---- over a reader of expressions

-- what may follow a condition of a definition
abbrev behind_guard : TokenKind → Bool
behind_guard (kind.Pair d) = false
behind_guard k = true

guard_off : (k : TokenKind) → behind_guard k ≡ true → is_under k ≡ false
guard_off (kind.Pair d) e = let t : false ≡ true = e in absurd cc
guard_off _ e = refl

behind_both : (k : TokenKind) → behind_use k ≡ true → behind_expression k ≡ true
behind_both (kind.Word key.Consequence) e = refl
behind_both (kind.Symbol symbol.Colon) e = refl
behind_both (kind.Word key.Label) e = refl
behind_both (kind.Word key.Exception) e = refl
behind_both (kind.Word key.Definition) e = refl
behind_both (kind.Word key.Rule) e = refl
behind_both (kind.Word key.Assertion) e = refl
behind_both (kind.Pair pair.DateRound) e = refl
behind_both (kind.Word key.Declaration) e = refl
behind_both (kind.Word key.Scope) e = refl
behind_both _ e = absurd cc

pub use_behind : (v : List Token) → Outside behind_use v → Outside behind_expression v
use_behind [] o = tt
use_behind (p ∷ v) o = behind_both p.kind o

abbrev pub Meant : Type 0 → Type 0
Meant X = Pos × TargetName × Option Node × X

abbrev pub ruled_row : Meant Fulfilled → Parts
ruled_row x = Word (At (kind.Word key.Rule) x.0) (target_parts x.1 ▸ use_condition_parts x.2 ▸ fulfilled_parts x.3)

abbrev pub defined_row : Meant Node → Parts
defined_row x =
    Word (At (kind.Word key.Definition) x.0)
    (target_parts x.1 ▸ use_condition_parts x.2 ▸ Word (Anywhere (kind.Word key.Equals)) (expression_row x.3))

module _ (limit : ℕ) (ex : Reader Node) (right : ReadsExpressionsTo limit ex) where
  guard_right : (bound : ℕ) → IsRightTo limit bound behind_guard Any (λ e. use_condition_parts (Some e)) (guard ex)
  guard_right bound =
      word_right (cue.Pair pair.UnderCondition) λ p.
      part_right (λ e. e) expression_row (right bound) (λ e f. tt)
      (λ e w v f s o. subst (λ (u : List Token). Outside behind_expression (u ++ v)) (sym s.2)
      (ap behind_expression s.3)) λ e g.
      word_right (cue.Word key.Consequence) λ q.
      pure_right (tt, refl) (λ y f. f.1)

  guards : (bound : ℕ) → IsRightTo limit bound behind_guard (OptionFits Any) use_condition_parts
      (optional is_under (guard ex))
  guards bound =
      optional_right Any (λ e. use_condition_parts (Some e)) (opens_word refl) guard_off refl (λ e. refl)
      (guard_right bound)

  -- a condition, or a word that may stand behind it
  guard_behind : (c : Option Node) (k : TokenKind) (rest : Parts) (w v : List Token)
      → AreSpelled (use_condition_parts c ▸ Word (Anywhere k) rest) w → behind_target k ≡ true
      → Outside behind_target (w ++ v)
  guard_behind None k rest w v s e =
      subst (λ (u : List Token). Outside behind_target (u ++ v)) (sym s.2) (ap behind_target s.3 ∙ e)
  guard_behind (Some c) k rest w v s e =
      subst (λ (u : List Token). Outside behind_target (u ++ v)) (sym s.2) (ap behind_target s.3)

  fulfilled_behind : (c : Option Node) (f : Fulfilled) (w v : List Token)
      → AreSpelled (use_condition_parts c ▸ fulfilled_parts f) w → Outside behind_target (w ++ v)
  fulfilled_behind c fulfilled.Yes w v s = guard_behind c (kind.Word key.Fulfilled) End w v s refl
  fulfilled_behind c fulfilled.No w v s =
      guard_behind c (kind.Word key.Not) (Word (Anywhere (kind.Word key.Fulfilled)) End) w v s refl

  fulfilled_guard : (f : Fulfilled) (w v : List Token) → AreSpelled (fulfilled_parts f) w
      → Outside behind_guard (w ++ v)
  fulfilled_guard fulfilled.Yes w v s =
      subst (λ (u : List Token). Outside behind_guard (u ++ v)) (sym s.2) (ap behind_guard s.3)
  fulfilled_guard fulfilled.No w v s =
      subst (λ (u : List Token). Outside behind_guard (u ++ v)) (sym s.2) (ap behind_guard s.3)

  pub ruled_right : (bound : ℕ) → IsRightTo limit bound behind_use Any ruled_row (ruled ex)
  ruled_right bound =
      word_at_right (cue.Word key.Rule) λ p.
      part_right (λ x. x.1) target_parts (target_right limit bound) (λ x f. tt)
      (λ x w v f s o. fulfilled_behind x.2 x.3 w v s) λ t g.
      part_right (λ x. x.2) use_condition_parts (guards bound) (λ x f. any_option x.2)
      (λ x w v f s o. fulfilled_guard x.3 w v s) λ c g.
      last_right (λ x. x.3) fulfilled_parts (narrowed any_word (λ v o. outside_any v) (fulfilled_right limit bound))
      (record {
        to = λ f e. (((tt, refl), refl), refl);
        from = λ x f. tt;
        back = λ f. refl;
        only =
            λ x f. ap (λ (z : Pos). (z, x.1, x.2, x.3)) f.0.0.1 ∙ ap (λ (z : TargetName). (p, z, x.2, x.3)) f.0.1
            ∙ ap (λ (z : Option Node). (p, t, z, x.3)) f.1;
      })

  pub defined_right : (bound : ℕ) → IsRightTo limit bound behind_use Any defined_row (defined ex)
  defined_right bound =
      word_at_right (cue.Word key.Definition) λ p.
      part_right (λ x. x.1) target_parts (target_right limit bound) (λ x f. tt)
      (λ x w v f s o. guard_behind x.2 (kind.Word key.Equals) (expression_row x.3) w v s refl) λ t g.
      part_right (λ x. x.2) use_condition_parts (guards bound) (λ x f. any_option x.2)
      (λ x w v f s o. subst (λ (u : List Token). Outside behind_guard (u ++ v)) (sym s.2) (ap behind_guard s.3)) λ c g.
      word_right (cue.Word key.Equals) λ q.
      last_right (λ x. x.3) expression_row (narrowed behind_expression use_behind (right bound)) (record {
        to = λ f e. (((tt, refl), refl), refl);
        from = λ x f. tt;
        back = λ f. refl;
        only =
            λ x f. ap (λ (z : Pos). (z, x.1, x.2, x.3)) f.0.0.1 ∙ ap (λ (z : TargetName). (p, z, x.2, x.3)) f.0.1
            ∙ ap (λ (z : Option Node). (p, t, z, x.3)) f.1;
      })
