-- The readers of scope blocks are right, where that of expressions is.
use Rattle.std.proofs.Common.{◌≡◌, ℕ, Bool, true, false, List, [], ◌∷◌, ◌++◌, Option, Some, None, refl, sym, ap, subst}
use Rattle.std.proofs.Common.{◌∙◌, inl, inr, ◌⊎◌}
use Rattle.cat_lex.specs.declared.token.TokenKind.TheVariants as kind
use Rattle.cat_lex.specs.declared.words.Keyword.TheVariants as key
use Rattle.cat_lex.specs.declared.words.DoubleKeyword.TheVariants as pair
use Rattle.cat_lex.specs.declared.symbol.Symbol.TheVariants as symbol
use Rattle.cat_tree.specs.declared.program.Exception.TheVariants as exception
use Rattle.cat_tree.specs.declared.program.Use.TheVariants as uses
use Rattle.cat_parse_expr.specs.declared.cue.Cue.TheVariants as cue
use Rattle.cat_parse.proofs.Common.{Pos, Token, TokenKind, Name, Node, SurfaceLabel, Exception, Lead, Fulfilled, Use}
use Rattle.cat_parse.proofs.Common.{Parts, End, Word, At, Anywhere, AreSpelled, ◌▸◌, all, target_parts}
use Rattle.cat_parse.proofs.Common.{use_condition_parts, fulfilled_parts, label_parts, exception_parts, lead_parts}
use Rattle.cat_parse.proofs.Common.{rounding_word, use_parts, condition_parts, block_parts, Reader, ◌⨟◌, pure, heads}
use Rattle.cat_parse.proofs.Common.{both, optional, many, Outside, IsRightTo, is_word, is_lower, lead, is_use, is_item}
use Rattle.cat_parse.proofs.Common.{behind_use, behind_expression, is_under, condition, Tail, Defined, asserted}
use Rattle.cat_parse.proofs.Common.{direction, is_rounding, rounded, Ruled, tail, use_of, a_use, block, expression_row}
use Rattle.cat_parse.proofs.Common.{ReadsExpressionsTo}
use Rattle.cat_parse.proofs.Steps.{pure_right}
use Rattle.cat_parse.proofs.Sequel.{no_longer, part_right}
use Rattle.cat_parse.proofs.Choices.{Opens, OptionFits, optional_right, reshaped, made_right, choice_right, narrowed}
use Rattle.cat_parse.proofs.Choices.{opens_word}
use Rattle.cat_parse.proofs.Leaves.{word_right, word_at_right, upper_right}
use Rattle.cat_parse.proofs.Last.{last_right}
use Rattle.cat_parse.proofs.Lists.{BothFit, both_rows, both_right, AllFit, many_right}
use Rattle.cat_parse.proofs.Listed.{any_word, outside_any}
use Rattle.cat_parse.proofs.Declarations.{Any}
use Rattle.cat_parse.proofs.Leads.{any_option, any_list, lead_right}
use Rattle.cat_parse.proofs.Guards.{Meant, use_behind, ruled_row, ruled_right, defined_row, defined_right}

-- what a spelling begins with, by its first word
pub head_at : (test : TokenKind → Bool) (k : TokenKind) (p : Pos) (rest : Parts) (w v : List Token)
    → AreSpelled (Word (At k p) rest) w → heads test (w ++ v) ≡ test k
head_at test k p rest w v s = ap (λ (u : List Token). heads test (u ++ v)) s.2 ∙ ap (λ (t : Token). test t.kind) s.3

pub head_any : (test : TokenKind → Bool) (k : TokenKind) (rest : Parts) (w v : List Token)
    → AreSpelled (Word (Anywhere k) rest) w → heads test (w ++ v) ≡ test k
head_any test k rest w v s = ap (λ (u : List Token). heads test (u ++ v)) s.2 ∙ ap test s.3

pub outside_heads : (out : TokenKind → Bool) (u : List Token) → heads out u ≡ true → Outside out u
outside_heads out [] h = tt
outside_heads out (p ∷ u) h = h

-- ---- a tail, and a lead before it

abbrev tail_row : Tail → Parts
tail_row (Defined x) = defined_row x
tail_row (Ruled x) = ruled_row x

-- what may follow a lead
abbrev behind_lead : TokenKind → Bool
behind_lead (kind.Word key.Definition) = true
behind_lead (kind.Word key.Rule) = true
behind_lead _ = false

lead_no_lower : (k : TokenKind) → behind_lead k ≡ true → is_lower k ≡ false
lead_no_lower (kind.Lower w) e = absurd cc
lead_no_lower _ e = refl

lead_no_exception : (k : TokenKind) → behind_lead k ≡ true → is_word key.Exception k ≡ false
lead_no_exception (kind.Word key.Definition) e = refl
lead_no_exception (kind.Word key.Rule) e = refl
lead_no_exception _ e = absurd cc

lead_no_label : (k : TokenKind) → behind_lead k ≡ true → is_word key.Label k ≡ false
lead_no_label (kind.Word key.Definition) e = refl
lead_no_label (kind.Word key.Rule) e = refl
lead_no_label _ e = absurd cc

tail_behind : (x : Tail) (w v : List Token) → AreSpelled (tail_row x) w → Outside behind_lead (w ++ v)
tail_behind (Defined x) w v s =
    outside_heads behind_lead (w ++ v)
    (head_at behind_lead (kind.Word key.Definition) x.0
    (target_parts x.1 ▸ use_condition_parts x.2 ▸ Word (Anywhere (kind.Word key.Equals)) (expression_row x.3)) w v s)
tail_behind (Ruled x) w v s =
    outside_heads behind_lead (w ++ v)
    (head_at behind_lead (kind.Word key.Rule) x.0 (target_parts x.1 ▸ use_condition_parts x.2 ▸ fulfilled_parts x.3) w v
    s)

-- the first word of a use with a lead
lead_head : (test : TokenKind → Bool) (b : Bool) → test (kind.Word key.Label) ≡ b → test (kind.Word key.Exception) ≡ b
    → test (kind.Word key.Definition) ≡ b → test (kind.Word key.Rule) ≡ b
    → (l : Lead) (x : Tail) (w v : List Token) → AreSpelled (lead_parts l ▸ tail_row x) w → heads test (w ++ v) ≡ b
lead_head test b el ee ed er l x w v s = by l.label l.exception x s
  where
    by : (o : Option SurfaceLabel) (e : Exception) (x : Tail)
        → AreSpelled ((label_parts o ▸ exception_parts e) ▸ tail_row x) w
        → heads test (w ++ v) ≡ b
    by (Some l) e x s = ap (λ (u : List Token). heads test (u ++ v)) s.2 ∙ ap (λ (t : Token). test t.kind) s.3 ∙ el
    by None (exception.OnlyRoot p) x s =
        ap (λ (u : List Token). heads test (u ++ v)) s.2 ∙ ap (λ (t : Token). test t.kind) s.3 ∙ ee
    by None (exception.Labelled p n) x s =
        ap (λ (u : List Token). heads test (u ++ v)) s.2 ∙ ap (λ (t : Token). test t.kind) s.3 ∙ ee
    by None exception.No (Defined y) s =
        ap (λ (u : List Token). heads test (u ++ v)) s.2 ∙ ap (λ (t : Token). test t.kind) s.3 ∙ ed
    by None exception.No (Ruled y) s =
        ap (λ (u : List Token). heads test (u ++ v)) s.2 ∙ ap (λ (t : Token). test t.kind) s.3 ∙ er

-- ---- roundings

direction_right : (limit bound : ℕ)
    → IsRightTo limit bound any_word Any (λ up. Word (Anywhere (kind.Word (rounding_word up))) End) direction
direction_right limit bound =
    choice_right (λ up. up ≡ true) (λ up. up ≡ false) (record {
      either = either;
      from_yes = λ up f. tt;
      from_no = λ up f. tt;
      on =
          λ up w v f s o. head_any (is_word key.Increasing) (kind.Word (rounding_word up)) End w v s
          ∙ ap (λ (b : Bool). is_word key.Increasing (kind.Word (rounding_word b))) f;
      off =
          λ up w v f s o. head_any (is_word key.Increasing) (kind.Word (rounding_word up)) End w v s
          ∙ ap (λ (b : Bool). is_word key.Increasing (kind.Word (rounding_word b))) f;
    }) (reshaped (λ up. up ≡ true) (λ up. Word (Anywhere (kind.Word key.Increasing)) End) (record {
      to = λ up f. f;
      from = λ up f. f;
      rows = λ up f. ap (λ (b : Bool). Word (Anywhere (kind.Word (rounding_word b))) End) (sym f);
    }) (word_right (cue.Word key.Increasing) (λ q. pure_right refl (λ up f. f))))
    (reshaped (λ up. up ≡ false) (λ up. Word (Anywhere (kind.Word key.Decreasing)) End) (record {
      to = λ up f. f;
      from = λ up f. f;
      rows = λ up f. ap (λ (b : Bool). Word (Anywhere (kind.Word (rounding_word b))) End) (sym f);
    }) (word_right (cue.Word key.Decreasing) (λ q. pure_right refl (λ up f. f))))
  where
    either : (up : Bool) → Any up → (up ≡ true) ⊎ (up ≡ false)
    either true f = inl refl
    either false f = inr refl

abbrev rounded_row : Pos × Bool → Parts
rounded_row x = Word (At (kind.Pair pair.DateRound) x.0) (Word (Anywhere (kind.Word (rounding_word x.1))) End)

rounded_right : (limit bound : ℕ) → IsRightTo limit bound behind_use Any rounded_row rounded
rounded_right limit bound =
    word_at_right (cue.Pair pair.DateRound) λ p.
    last_right (λ x. x.1) (λ up. Word (Anywhere (kind.Word (rounding_word up))) End)
    (narrowed any_word (λ v o. outside_any v) (direction_right limit bound)) (record {
      to = λ up f. (tt, refl);
      from = λ x f. tt;
      back = λ up. refl;
      only = λ x f. ap (λ (q : Pos). (q, x.1)) f.1;
    })

-- ---- a line of a scope block

use_rows : (x : Lead × Tail) → use_parts (use_of x) ≡ lead_parts x.0 ▸ tail_row x.1
use_rows (l, Defined x) = refl
use_rows (l, Ruled x) = refl

abbrev IsAsserted : Use → Type 0
IsAsserted y = (x : Pos × Node) × Any x × (y ≡ uses.Assertion x.0 x.1)

abbrev IsRounded : Use → Type 0
IsRounded y = (x : Pos × Bool) × Any x × (y ≡ uses.DateRound x.0 x.1)

abbrev IsLed : Use → Type 0
IsLed y = (x : Lead × Tail) × BothFit Any Any x × (y ≡ use_of x)

abbrev IsOther : Use → Type 0
IsOther y = IsRounded y ⊎ IsLed y

asserted_head : (test : TokenKind → Bool) (y : Use) (w v : List Token) → IsAsserted y → AreSpelled (use_parts y) w
    → heads test (w ++ v) ≡ test (kind.Word key.Assertion)
asserted_head test y w v f s =
    head_at test (kind.Word key.Assertion) f.0.0 (expression_row f.0.1) w v
    (subst (λ (z : Use). AreSpelled (use_parts z) w) f.2 s)

rounded_head : (test : TokenKind → Bool) (y : Use) (w v : List Token) → IsRounded y → AreSpelled (use_parts y) w
    → heads test (w ++ v) ≡ test (kind.Pair pair.DateRound)
rounded_head test y w v f s =
    head_at test (kind.Pair pair.DateRound) f.0.0 (Word (Anywhere (kind.Word (rounding_word f.0.1))) End) w v
    (subst (λ (z : Use). AreSpelled (use_parts z) w) f.2 s)

led_head : (test : TokenKind → Bool) (b : Bool) → test (kind.Word key.Label) ≡ b → test (kind.Word key.Exception) ≡ b
    → test (kind.Word key.Definition) ≡ b → test (kind.Word key.Rule) ≡ b
    → (y : Use) (w v : List Token) → IsLed y → AreSpelled (use_parts y) w → heads test (w ++ v) ≡ b
led_head test b el ee ed er y w v f s =
    lead_head test b el ee ed er f.0.0 f.0.1 w v
    (subst (λ (ps : Parts). AreSpelled ps w) (ap use_parts f.2 ∙ use_rows f.0) s)

either_use : (y : Use) → IsAsserted y ⊎ IsOther y
either_use (uses.Definition l p t c e) = inr (inr ((l, Defined (p, t, c, e)), (tt, tt), refl))
either_use (uses.Rule l p t c f) = inr (inr ((l, Ruled (p, t, c, f)), (tt, tt), refl))
either_use (uses.Assertion p e) = inl ((p, e), tt, refl)
either_use (uses.DateRound p up) = inr (inl ((p, up), tt, refl))

-- ---- what follows and what begins

abbrev is_colon : TokenKind → Bool
is_colon (kind.Symbol symbol.Colon) = true
is_colon _ = false

abbrev expression_after : Node → Parts
expression_after e = Word (Anywhere (kind.Pair pair.UnderCondition)) (expression_row e)

colon_both : (k : TokenKind) → is_colon k ≡ true → behind_expression k ≡ true
colon_both (kind.Symbol symbol.Colon) e = refl
colon_both _ e = absurd cc

colon_behind : (v : List Token) → Outside is_colon v → Outside behind_expression v
colon_behind [] o = tt
colon_behind (p ∷ v) o = colon_both p.kind o

colon_off : (k : TokenKind) → is_colon k ≡ true → is_under k ≡ false
colon_off (kind.Symbol symbol.Colon) e = refl
colon_off _ e = absurd cc

item_no_use : (k : TokenKind) → is_item k ≡ true → is_use k ≡ false
item_no_use (kind.Word key.Declaration) e = refl
item_no_use (kind.Word key.Scope) e = refl
item_no_use _ e = absurd cc

use_behind_use : (k : TokenKind) → is_use k ≡ true → behind_use k ≡ true
use_behind_use (kind.Word key.Label) e = refl
use_behind_use (kind.Word key.Exception) e = refl
use_behind_use (kind.Word key.Definition) e = refl
use_behind_use (kind.Word key.Rule) e = refl
use_behind_use (kind.Word key.Assertion) e = refl
use_behind_use (kind.Pair pair.DateRound) e = refl
use_behind_use _ e = absurd cc

item_behind_use : (k : TokenKind) → is_item k ≡ true → behind_use k ≡ true
item_behind_use (kind.Word key.Declaration) e = refl
item_behind_use (kind.Word key.Scope) e = refl
item_behind_use _ e = absurd cc

pub use_opens : Opens is_use Any use_parts
use_opens = record { at = λ y w v f s. by y w v (either_use y) s }
  where
    by : (y : Use) (w v : List Token) → IsAsserted y ⊎ IsOther y → AreSpelled (use_parts y) w → heads is_use (w ++ v)
        ≡ true
    by y w v (inl f) s = asserted_head is_use y w v f s
    by y w v (inr (inl f)) s = rounded_head is_use y w v f s
    by y w v (inr (inr f)) s = led_head is_use true refl refl refl refl y w v f s

module _ (limit : ℕ) (ex : Reader Node) (right : ReadsExpressionsTo limit ex) where
  tail_right : (bound : ℕ) → IsRightTo limit bound behind_use Any tail_row (tail ex)
  tail_right bound =
      choice_right (λ y. (x : Meant Fulfilled) × Any x × (y ≡ Ruled x))
      (λ y. (x : Meant Node) × Any x × (y ≡ Defined x)) (record {
        either = either;
        from_yes = λ y f. tt;
        from_no = λ y f. tt;
        on =
            λ y w v f s o. head_at (is_word key.Rule) (kind.Word key.Rule) f.0.0
            (target_parts f.0.1 ▸ use_condition_parts f.0.2 ▸ fulfilled_parts f.0.3) w v
            (subst (λ (z : Tail). AreSpelled (tail_row z) w) f.2 s);
        off =
            λ y w v f s o. head_at (is_word key.Rule) (kind.Word key.Definition) f.0.0
            (target_parts f.0.1 ▸ use_condition_parts f.0.2 ▸ Word (Anywhere (kind.Word key.Equals))
            (expression_row f.0.3)) w v
            (subst (λ (z : Tail). AreSpelled (tail_row z) w) f.2 s);
      }) (made_right Any ruled_row (λ x. refl) (ruled_right limit ex right bound))
      (made_right Any defined_row (λ x. refl) (defined_right limit ex right bound))
    where
      either : (y : Tail) → Any y → ((x : Meant Fulfilled) × Any x × (y ≡ Ruled x))
          ⊎ ((x : Meant Node) × Any x × (y ≡ Defined x))
      either (Ruled x) f = inl (x, tt, refl)
      either (Defined x) f = inr (x, tt, refl)

  led_right : (bound : ℕ)
      → IsRightTo limit bound behind_use IsLed use_parts (both lead (tail ex) ⨟ λ x. pure (use_of x))
  led_right bound =
      made_right (BothFit Any Any) (both_rows lead_parts tail_row) use_rows
      (both_right limit bound bound behind_use behind_lead Any Any lead_parts tail_row lead (tail ex)
      (λ y w v f s o. tail_behind y w v s) (no_longer (leads bound))
      (leads bound) (tail_right bound))
    where
      leads : (bound : ℕ) → IsRightTo limit bound behind_lead Any lead_parts lead
      leads bound = lead_right limit bound behind_lead lead_no_lower lead_no_exception lead_no_label

  asserted_right : (bound : ℕ)
      → IsRightTo limit bound behind_use Any (λ x. Word (At (kind.Word key.Assertion) x.0) (expression_row x.1))
      (asserted ex)
  asserted_right bound =
      word_at_right (cue.Word key.Assertion) λ p.
      last_right (λ x. x.1) expression_row (narrowed behind_expression use_behind (right bound)) (record {
        to = λ e f. (tt, refl);
        from = λ x f. tt;
        back = λ e. refl;
        only = λ x f. ap (λ (q : Pos). (q, x.1)) f.1;
      })

  pub use_right : (bound : ℕ) → IsRightTo limit bound behind_use Any use_parts (a_use ex)
  use_right bound =
      choice_right IsAsserted IsOther (record {
        either = λ y f. either_use y;
        from_yes = λ y f. tt;
        from_no = λ y f. tt;
        on = λ y w v f s o. asserted_head (is_word key.Assertion) y w v f s;
        off = λ y w v f s o. other_off y w v f s;
      }) (made_right Any (λ x. Word (At (kind.Word key.Assertion) x.0) (expression_row x.1)) (λ x. refl)
      (asserted_right bound)) (choice_right IsRounded IsLed (record {
        either = λ y f. f;
        from_yes = λ y f. inl f;
        from_no = λ y f. inr f;
        on = λ y w v f s o. rounded_head is_rounding y w v f s;
        off = λ y w v f s o. led_head is_rounding false refl refl refl refl y w v f s;
      }) (made_right Any rounded_row (λ x. refl) (rounded_right limit bound)) (led_right bound))
    where
      other_off : (y : Use) (w v : List Token) → IsOther y → AreSpelled (use_parts y) w
          → heads (is_word key.Assertion) (w ++ v) ≡ false
      other_off y w v (inl f) s = rounded_head (is_word key.Assertion) y w v f s
      other_off y w v (inr f) s = led_head (is_word key.Assertion) false refl refl refl refl y w v f s

  -- ---- a scope block

  condition_right : (bound : ℕ) → IsRightTo limit bound is_colon Any expression_after (condition ex)
  condition_right bound =
      word_right (cue.Pair pair.UnderCondition) (λ p. narrowed behind_expression colon_behind (right bound))

  conditions : (bound : ℕ) → IsRightTo limit bound is_colon (OptionFits Any) condition_parts
      (optional is_under (condition ex))
  conditions bound =
      optional_right Any expression_after (opens_word refl) colon_off refl (λ e. refl) (condition_right bound)

  uses_right : (bound : ℕ) → IsRightTo limit bound is_item (AllFit Any) (all use_parts) (many is_use (a_use ex))
  uses_right bound =
      many_right limit is_item behind_use is_use Any use_parts
      (a_use ex) use_opens item_no_use use_behind_use item_behind_use use_right bound

  pub block_right : (bound : ℕ) → IsRightTo limit bound is_item Any block_parts (block ex)
  block_right bound =
      word_at_right (cue.Word key.Scope) λ p.
      upper_right (λ b. b.name) λ u.
      part_right (λ b. b.condition) condition_parts (conditions bound) (λ b f. any_option b.condition)
      (λ b w v f s o. outside_heads is_colon (w ++ v)
      (head_any is_colon (kind.Symbol symbol.Colon) (all use_parts b.uses) w v s)) λ c g.
      word_right (cue.Sign symbol.Colon) λ q.
      last_right (λ b. b.uses) (all use_parts) (uses_right bound) (record {
        to = λ us f. (((tt, refl), refl), refl);
        from = λ b f. any_list b.uses;
        back = λ us. refl;
        only =
            λ b f. ap (λ (z : Pos). record { pos = z; name = b.name; condition = b.condition; uses = b.uses }) f.0.0.1
            ∙ ap (λ (z : Name). record { pos = p; name = z; condition = b.condition; uses = b.uses }) f.0.1
            ∙ ap (λ (z : Option Node). record { pos = p; name = u; condition = z; uses = b.uses }) f.1;
      })
