-- Lists in brackets.
use Rattle.std.proofs.Common.{◌≡◌, ℕ, suc, ◌≤◌, Bool, true, false, List, [], ◌∷◌, ◌++◌, refl, sym, ap, subst, ◌∙◌}
use Rattle.std.proofs.Common.{arith, inl, inr, ◌⊎◌, map, length, if◌then◌else◌, append_assoc}
use Rattle.cat_lex.specs.declared.token.TokenKind.TheVariants as kind
use Rattle.cat_lex.specs.declared.symbol.Symbol.TheVariants as symbol
use Rattle.cat_tree.specs.declared.expression.Node.TheViews as node
use Rattle.cat_parse_expr.specs.declared.cue.Cue.TheVariants as cue
use Rattle.cat_parse_expr.specs.declared.opening.Opening.TheVariants as opening
use Rattle.cat_parse_expr.specs.Brackets as brackets
use Rattle.cat_parse_expr.specs.Parts as parts
use Rattle.cat_parse_expr.specs.Parts.{has_element, next_element, as_many, is_sign, inner, sign as a_sign}
use Rattle.cat_parse_expr.proofs.Common.{Pos, Token, Node, Row, Parts, End, Anywhere, ◌▹◌, symbol_at, sign}
use Rattle.cat_parse_expr.proofs.Common.{part, of_level, phrase, phrase_List, Behind, Other, Measured, closed, Reader}
use Rattle.cat_parse_expr.proofs.Common.{◌⨟◌, pure, Lower, MayFollow, looks_of, IsMeasured, IsLow, operand_row}
use Rattle.cat_parse_expr.proofs.Common.{AreRight, ◌▸◌, all, elements, AreLevelled, AreSpelled}
use Rattle.cat_parse_expr.proofs.Common.{MeasuredNodes, with_element}
use Rattle.cat_parse_expr.proofs.Common.{no_elements, heads, word_of, Is}
use Rattle.cat_parse_expr.proofs.Firsts.{class_List}
use Rattle.cat_parse_expr.proofs.Operands.{Next, OfClass, Form, form_read, measured_by, inner_read, part_shrinks}
use Rattle.cat_parse_expr.proofs.Operands.{hidden_left}
use Rattle.cat_parse_expr.proofs.Read.{IsRead, pure_read}
use Rattle.cat_parse_expr.proofs.Worded.{word_read, word_at_read}
use Rattle.cat_parse_expr.proofs.NothingWhole.{hidden_shut, IsShut, shut_after, one_shut, shut_turns}
use Rattle.cat_parse_expr.proofs.Sequels.{part_read, last_read, past_none}
use Rattle.cat_parse_expr.proofs.Tuples.{both}
use Rattle.cat_parse_expr.proofs.Choices.{Decides, Recast}
use Rattle.cat_parse_expr.proofs.Chosen.{inner_choice_read}
use Rattle.cat_parse_expr.proofs.Nodes.{phrases_of, AreMeasured, measures_of, measures_are, nodes_back, elements_from}
use Rattle.cat_parse_expr.proofs.Nodes.{nodes_are, tallest_is, row_behind, chain_elements, elements_behind}
use Rattle.cat_parse_expr.proofs.Nodes.{elements_height, elements_last, behind_end}
use Rattle.cat_parse_expr.proofs.Openers.{begins_not}
use Rattle.cat_parse_expr.proofs.Shaping.{narrow_read, recast_read, reshape_read}
use Rattle.cat_parse_expr.proofs.Turnings.{heads_begin, heads_other, heads_follow, heads_seen, shrinks_after}
use Rattle.cat_parse_expr.proofs.Loops as loops
use Rattle.cat_parse_expr.proofs.Chaining as chaining
use Rattle.cat_parse_expr.proofs.Turnings as turnings

module _ (ex : Lower) (room : ℕ) (right : AreRight room ex) where
  abbrev Out : MeasuredNodes → List Token → Type 0
  Out s v = heads (is_sign symbol.RightBracket) v ≡ true

  abbrev loop : loops.Loop MeasuredNodes Measured
  loop = record {
    goes = has_element;
    put = with_element;
    Good = λ s. Unit {0};
    Low = λ s. s.tallest ≤ room;
    Out = Out;
    More = λ s v. has_element s v ≡ true;
    looks = λ k. false;
    FitsOne = λ s x. IsMeasured x;
    row_one = row_behind 0 symbol.Semicolon;
  }

  abbrev rest : MeasuredNodes → Pos → Reader MeasuredNodes
  rest s p = inner ex ⨟ λ e. pure (with_element s e)

  next_follows : (s : MeasuredNodes) (x : Measured) (v : List Token)
      → Out s v ⊎ (has_element s v ≡ true) → MayFollow Other 0 x v
  next_follows s x v (inl o) = heads_follow Other 0 x (cue.Sign symbol.RightBracket) v refl o
  next_follows s x v (inr o) = heads_follow Other 0 x (cue.Sign symbol.Semicolon) v refl o

  read_turn : (s : MeasuredNodes) → IsRead (with_element s) ⊥
      (Unit {0} × ((us : List Token) × (has_element s us ≡ true))) (loop.Low s) (λ x. loop.Low (with_element s x))
      (λ x v. Out (with_element s x) v ⊎ (has_element (with_element s x) v ≡ true)) loop.looks IsMeasured loop.row_one
      (next_element ex s)
  read_turn s =
      word_read (cue.Sign symbol.Semicolon) _ _
      (λ p. last_read (λ x. x) (λ x. x) _ (inner_read ex room right Other) (λ x ts. refl)
      (record {
        fit = λ y f. f;
        built = λ f x m. m;
        has = λ x. refl;
        only = λ f y h. refl;
        lows = λ f c x m low. omega (arith, c, low);
        part = λ f x m low. omega (arith, low);
        outside = λ f x v m o. next_follows s x v o;
      }))

  worded : turnings.Worded loop (cue.Sign symbol.Semicolon) rest read_turn
  worded = record {
    starts = λ s ts h. h;
    shrinks =
        λ s p ts. shrinks_after (inner ex ts) (λ e. pure (with_element s e)) (length ts)
        (omega (
          arith,
          part_shrinks ex room right Other 0 (omega arith) ts,
          ap length (hidden_left (ex Other 0 ts)),
        )) (λ x us. omega arith);
    begins = λ s x w v f sp. heads_begin (cue.Sign symbol.Semicolon) w v sp;
    leads = λ s v h. h;
    stops = λ s v o. heads_other (cue.Sign symbol.RightBracket) (cue.Sign symbol.Semicolon) v refl o;
    ends = λ s. refl;
    sees = λ s p ps qs g. refl;
    sees_past = λ s ls others g. heads_seen loop.looks (is_sign symbol.Semicolon) ls others g;
    grows = λ s x low. omega (arith, low);
    stays = λ s x f g. tt;
  }

  abbrev one : MeasuredNodes → Reader Measured
  one s = (read_turn s).reader

  turning : loops.Turning loop one
  turning = turnings.plain_turning loop (cue.Sign symbol.Semicolon) rest read_turn worded

  -- ---- E ; E

  abbrev Some_of : List Measured → Type 0
  Some_of [] = ⊥
  Some_of (x ∷ xs) = IsMeasured x × AreMeasured xs

  abbrev all_row : List Measured → Parts
  all_row xs = elements 0 symbol.Semicolon (phrases_of xs) End

  abbrev all_low : List Measured → Type 0
  all_low xs = (elements_from no_elements xs).tallest ≤ room

  abbrev all_out : List Measured → List Token → Type 0
  all_out xs v = heads (is_sign symbol.RightBracket) v ≡ true

  abbrev begin : Measured → MeasuredNodes
  begin e = with_element no_elements e

  abbrev Chained : Type 0
  Chained = Measured × List Measured

  abbrev head : chaining.Head Measured Measured MeasuredNodes
  head = record { made = λ e. e; Low = IsLow room; Fits = IsMeasured; row = operand_row 0; begin = begin }

  fits_all : (s : MeasuredNodes) (xs : List Measured) → AreMeasured xs → loops.FitsFrom loop one s xs
  fits_all s [] m = tt
  fits_all s (x ∷ xs) m = (m.0, fits_all (with_element s x) xs m.1)

  all_fits : (s : MeasuredNodes) (xs : List Measured) → loops.FitsFrom loop one s xs → AreMeasured xs
  all_fits s [] m = tt
  all_fits s (x ∷ xs) m = (m.0, all_fits (with_element s x) xs m.1)

  row_is : (y : Chained) → operand_row 0 y.0 ▸ all loop.row_one y.1 ≡ all_row (y.0 ∷ y.1)
  row_is y =
      ap (λ (ps : Parts). part 0 (phrase y.0.node) ps) (sym (behind_end (all loop.row_one y.1)))
      ∙ sym (chain_elements 0 symbol.Semicolon y.0 y.1 End)

  some_read : IsRead (elements_from no_elements) ⊥ (Unit {0}) (Unit {0}) all_low all_out loop.looks Some_of all_row
      (inner ex ⨟ λ e. as_many has_element (next_element ex) (with_element no_elements e))
  some_read =
      recast_read _ _ _ _ (λ y. y.0 ∷ y.1) (λ y. refl) (λ f. f) (λ f c. c) (λ f. cast.to) (λ f c. cast)
      (chaining.inner_chain_read loop one head turning (next_element ex)
      (turnings.plain_same loop (cue.Sign symbol.Semicolon) rest read_turn worded)
      (record {
        good = λ a f. tt;
        low = λ a f low. omega (arith, low);
        back = λ a f low. omega (arith, low);
      })
      (inner ex)
      (narrow_read (MayFollow Other 0) (λ y v f o. next_follows no_elements y v o) (inner_read ex room right Other)))
    where
      to : (y : Chained) (w : List Token)
          → Is (chaining.fits_chain loop one head) (chaining.row_chain loop one head) y w
          → Is Some_of all_row (y.0 ∷ y.1) w
      to y w i = record {
        fit = (i.fit.0, all_fits (begin y.0) y.1 i.fit.1);
        levels = subst AreLevelled (row_is y) i.levels;
        spelled = subst (λ (ps : Parts). AreSpelled ps w) (row_is y) i.spelled;
      }

      from : (xs : List Measured) (w : List Token) → Is Some_of all_row xs w → (y : Chained) × (xs ≡ y.0 ∷ y.1)
          × Is (chaining.fits_chain loop one head) (chaining.row_chain loop one head) y w
      from [] w i = absurd i.fit
      from (x ∷ xs) w i = (
        (x, xs),
        refl,
        record {
          fit = (i.fit.0, fits_all (begin x) xs i.fit.1);
          levels = subst AreLevelled (sym (row_is (x, xs))) i.levels;
          spelled = subst (λ (ps : Parts). AreSpelled ps w) (sym (row_is (x, xs))) i.spelled;
        },
      )

      cast : Recast (chaining.Low_chain loop one head) all_low (chaining.Out_chain loop one head) all_out
          (chaining.fits_chain loop one head) Some_of (chaining.row_chain loop one head) all_row (λ y. y.0 ∷ y.1)
      cast = record {
        to = to;
        from = from;
        lows = λ y fit low. low;
        back = λ y fit low. low;
        outside = λ y v fit o. o;
      }

  -- ---- [E [; E]*]

  decides : Decides all_out (is_sign symbol.RightBracket) AreMeasured (λ xs. xs ≡ []) Some_of all_row
  decides = record {
    either = either;
    from_yes = λ y f. subst AreMeasured (sym f) tt;
    from_no = from_some;
    on = λ y w v f s o. on y w v f s o;
    off = off;
  }
    where
      either : (y : List Measured) → AreMeasured y → (y ≡ []) ⊎ Some_of y
      either [] f = inl refl
      either (x ∷ xs) f = inr f

      from_some : (y : List Measured) → Some_of y → AreMeasured y
      from_some [] f = tt
      from_some (x ∷ xs) f = f

      on : (y : List Measured) (w v : List Token) → y ≡ [] → AreSpelled (all_row y) w
          → heads (is_sign symbol.RightBracket) v ≡ true → heads (is_sign symbol.RightBracket) (w ++ v) ≡ true
      on y w v f s o =
          ap (λ (u : List Token). heads (is_sign symbol.RightBracket) (u ++ v))
          (subst (λ (xs : List Measured). AreSpelled (all_row xs) w) f s) ∙ o

      off : (y : List Measured) (w v : List Token) → Some_of y → AreSpelled (all_row y) w
          → heads (is_sign symbol.RightBracket) v ≡ true → heads (is_sign symbol.RightBracket) (w ++ v) ≡ false
      off [] w v f s o = absurd f
      off (x ∷ xs) w v f s o =
          let p = subst (λ (ps : Parts). AreSpelled ps w) (chain_elements 0 symbol.Semicolon x xs End) s in
          ap (λ (u : List Token). heads (is_sign symbol.RightBracket) (u ++ v)) p.2
          ∙ ap (heads (is_sign symbol.RightBracket)) (append_assoc p.0 p.1 v)
          ∙ begins_not (cue.Sign symbol.RightBracket) x.node p.0 (p.1 ++ v) refl p.3

  pub elements_read : IsRead (elements_from no_elements) ⊥ (Unit {0})
      (Unit {0}) all_low all_out loop.looks AreMeasured all_row (parts.elements ex)
  elements_read =
      inner_choice_read (is_sign symbol.RightBracket) (λ xs. xs ≡ []) Some_of decides
      (reshape_read (λ xs. xs ≡ []) (λ xs. xs ≡ []) (λ xs. End) all_row _
      (record { to = λ y f. f; from = λ y f. f; rows = λ y f. sym (ap all_row f) })
      (pure_read [] (λ f. refl) (λ f c. omega arith) (λ y f h. h)))
      some_read

  turn_shut : (s : MeasuredNodes) (ts : List Token) → IsShut (next_element ex s ts)
  turn_shut s ts =
      shut_after (a_sign symbol.Semicolon ts) _ (one_shut (word_of (cue.Sign symbol.Semicolon)) ts)
      (λ p ts. shut_after (inner ex ts) _ (hidden_shut (ex Other 0 ts)) (λ e ts. tt))

  pub elements_shut : (ts : List Token) → IsShut (parts.elements ex ts)
  elements_shut ts = by (heads (is_sign symbol.RightBracket) ts)
    where
      by : (c : Bool) → IsShut (if c then pure no_elements ts else (inner ex
          ⨟ λ e. as_many has_element (next_element ex) (with_element no_elements e)) ts)
      by true = tt
      by false =
          shut_after (inner ex ts) _ (hidden_shut (ex Other 0 ts))
          (λ e us. shut_turns has_element (next_element ex) turn_shut (length us) (with_element no_elements e) us)

-- ---- [ E ; E ]

module _ (ex : Lower) (room : ℕ) (right : AreRight room ex) (b : Behind) (k : ℕ) where
  abbrev Listed : Type 0
  Listed = Pos × List Measured

  abbrev made : List Measured → MeasuredNodes
  made xs = elements_from no_elements xs

  abbrev listed_of : Listed → Measured
  listed_of t = closed 9 (made t.1).tallest (node.List t.0 (made t.1).nodes)

  abbrev listed_row : Listed → Parts
  listed_row t =
      symbol_at symbol.LeftBracket t.0 ▹ elements 0 symbol.Semicolon (phrases_of t.1) (sign symbol.RightBracket ▹ End)

  listed_is : (t : Listed) → phrase (listed_of t).node ≡ Row (of_level 9) (listed_row t)
  listed_is t =
      phrase_List t.0 (made t.1).nodes
      ∙ ap (λ (ns : List Node). Row (of_level 9) (symbol_at symbol.LeftBracket t.0
      ▹ elements 0 symbol.Semicolon (map phrase ns) (sign symbol.RightBracket ▹ End))) (nodes_are no_elements t.1)

  listed_form : k ≤ 9 → Form k opening.List (λ t. AreMeasured t.1) listed_row listed_of
  listed_form le = record {
    rank = λ t. of_level 9;
    is = λ t. listed_is t;
    measured =
        λ t m. let l = elements_last 0 symbol.Semicolon (phrases_of t.1)
        (Anywhere (kind.Symbol symbol.RightBracket)) false in
        measured_by (listed_of t).node _ _ _ _ (listed_is t)
        (omega (
          arith,
          tallest_is no_elements t.1,
          elements_height 0 symbol.Semicolon t.1 (sign symbol.RightBracket ▹ End) m,
        ))
        (ap (λ (c : Bool). if c then 0 else 9) (sym l.0)) (sym l.1);
    level = λ t m. le;
    bounded = λ t m. refl;
    class = λ t. class_List t.0 (made t.1).nodes;
    shape = λ t. (t.0, (made t.1).nodes, refl);
    split =
        λ n s levels low. (
          (s.0, measures_of s.1),
          s.2 ∙ ap (λ (ns : List Node). node.List s.0 ns)
              (sym (nodes_are no_elements (measures_of s.1) ∙ nodes_back s.1)),
          measures_are s.1,
        );
  }

  pub listed_read : {K : Type 0} → k ≤ 9
      → IsRead (λ y. y) K (Unit {0}) (Unit {0}) (IsLow (suc room)) (Next b k) (looks_of b) (OfClass k opening.List)
      (operand_row k) (brackets.list ex room)
  listed_read le =
      form_read k (suc room) (Next b k) opening.List (λ t. AreMeasured t.1) listed_row listed_of (brackets.list ex room)
      (listed_form le)
      (word_at_read (cue.Sign symbol.LeftBracket) (λ t. t.0) _ _
      (λ p. reshape_read (λ t. AreMeasured t.1 × (t.0 ≡ p)) (λ t. AreMeasured t.1 × (t.0 ≡ p))
      (λ t. elements 0 symbol.Semicolon (phrases_of t.1) End ▸ (sign symbol.RightBracket ▹ End))
      (λ t. elements 0 symbol.Semicolon (phrases_of t.1) (sign symbol.RightBracket ▹ End)) _
      (record {
        to = λ t f. f;
        from = λ t f. f;
        rows = λ t f. elements_behind 0 symbol.Semicolon t.1 (sign symbol.RightBracket ▹ End);
      })
      (part_read (λ t. t.1) _ _ (elements_read ex room right) (elements_shut ex room right)
      (λ x ts. past_none (looks_of b) _ ts)
      (record {
        fit = λ y f. f.0;
        behind = λ y w v f s. heads_begin (cue.Sign symbol.RightBracket) w v s;
        part = λ y f low. omega (arith, low);
      })
      (λ xs. word_read (cue.Sign symbol.RightBracket) _ _
      (λ q. pure_read (p, xs) (λ f. ((f.1, refl), refl)) (λ f c. omega (arith, c.1))
      (λ y f h. both y p xs h.0.1 h.1))))))
