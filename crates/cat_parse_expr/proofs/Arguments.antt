-- The arguments of a call.
use Rattle.std.proofs.Common.{◌≡◌, ℕ, ◌≤◌, true, false, List, [], ◌∷◌, refl, sym, ap, subst, ◌∙◌, arith, inl, inr}
use Rattle.std.proofs.Common.{◌⊎◌, length}
use Rattle.cat_lex.specs.declared.symbol.Symbol.TheVariants as symbol
use Rattle.cat_parse_expr.specs.declared.cue.Cue.TheVariants as cue
use Rattle.cat_parse_expr.proofs.Common.{Pos, Token, Parts, End, part, phrase, Behind, Other, Measured}
use Rattle.cat_parse_expr.proofs.Common.{Reader, ◌⨟◌, pure, Lower, MayFollow, KeepsWhole, IsMeasured, IsLow}
use Rattle.cat_parse_expr.proofs.Common.{operand_row, AreRight, ◌▸◌, all, elements, AreLevelled}
use Rattle.cat_parse_expr.proofs.Common.{AreSpelled, MeasuredNodes}
use Rattle.cat_parse_expr.proofs.Common.{with_element, no_elements, is_sign, heads, has_argument, next_argument}
use Rattle.cat_parse_expr.proofs.Common.{behind_comma, arguments, behind_whole}
use Rattle.cat_parse_expr.proofs.Operands.{end_read, part_shrinks}
use Rattle.cat_parse_expr.proofs.Read.{IsRead}
use Rattle.cat_parse_expr.proofs.Worded.{word_read}
use Rattle.cat_parse_expr.proofs.Sequels.{last_read}
use Rattle.cat_parse_expr.proofs.Choices.{Recast}
use Rattle.cat_parse_expr.proofs.Nodes.{phrases_of, elements_from, row_behind, chain_elements, behind_end}
use Rattle.cat_parse_expr.proofs.Shaping.{narrow_read, recast_read, made_read}
use Rattle.cat_parse_expr.proofs.Turnings.{heads_begin, heads_seen, shrinks_after}
use Rattle.cat_parse_expr.proofs.Called.{Nine, AreNine, comma_follows}
use Rattle.cat_parse_expr.proofs.Loops as loops
use Rattle.cat_parse_expr.proofs.Chaining as chaining
use Rattle.cat_parse_expr.proofs.Looping as looping
use Rattle.cat_parse_expr.proofs.Turnings as turnings

module _ (ex : Lower) (room : ℕ) (right : AreRight room ex)
    (kept : (b : Behind) (j bound : ℕ) → j ≤ 9 → KeepsWhole (IsLow room) bound IsMeasured (operand_row j)
    (ex b j)) where
  nine_cast : Recast (IsLow room) (IsLow room) (MayFollow Other 9) (MayFollow Other 9) IsMeasured Nine (operand_row 9)
      (operand_row 9) (λ y. y)
  nine_cast = record {
    to = λ x w i. record { fit = (i.fit, i.levels.0); levels = i.levels; spelled = i.spelled };
    from = λ y w i. (y, refl, record { fit = i.fit.0; levels = i.levels; spelled = i.spelled });
    lows = λ x fit l. l;
    back = λ x fit l. l;
    outside = λ x v fit o. o;
  }

  pub nine_read : {K : Type 0} → IsRead (λ y. y) K (Unit {0}) (Unit {0}) (IsLow room) (MayFollow Other 9)
      (λ k. false) Nine (operand_row 9) (ex Other 9)
  nine_read =
      made_read (IsLow room) (MayFollow Other 9) IsMeasured (operand_row 9) (λ f. f) (λ f c. c) (λ f. nine_cast.to)
      (λ f c. nine_cast)
      (end_read ex room right Other 9 (omega arith) (λ bound. kept Other 9 bound (omega arith)))

  abbrev Out : MeasuredNodes → List Token → Type 0
  Out s v = ((x : Measured) → Nine x → MayFollow Other 9 x v) × (heads (is_sign symbol.Comma) v ≡ false)

  abbrev loop : loops.Loop MeasuredNodes Measured
  loop = record {
    goes = has_argument;
    put = with_element;
    Good = λ s. Unit {0};
    Low = λ s. s.tallest ≤ room;
    Out = Out;
    More = λ s v. has_argument s v ≡ true;
    looks = λ k. false;
    FitsOne = λ s x. Nine x;
    row_one = row_behind 9 symbol.Comma;
  }

  abbrev rest : MeasuredNodes → Pos → Reader MeasuredNodes
  rest s p = ex Other 9 ⨟ λ e. pure (with_element s e)

  next_follows : (s : MeasuredNodes) (x : Measured) (v : List Token) → Nine x
      → Out s v ⊎ (has_argument s v ≡ true) → MayFollow Other 9 x v
  next_follows s x v m (inl o) = o.0 x m
  next_follows s x v m (inr o) = comma_follows x v o

  read_turn : (s : MeasuredNodes) → IsRead (with_element s) (Unit {0})
      (Unit {0} × ((us : List Token) × (has_argument s us ≡ true))) (loop.Low s) (λ x. loop.Low (with_element s x))
      (λ x v. Out (with_element s x) v ⊎ (has_argument (with_element s x) v ≡ true)) loop.looks Nine loop.row_one
      (behind_comma ex s)
  read_turn s =
      word_read (cue.Sign symbol.Comma) _ _
      (λ p. last_read (λ x. x) (λ x. x) _ nine_read (λ x ts. refl)
      (record {
        fit = λ y f. f;
        built = λ f x m. m;
        has = λ x. refl;
        only = λ f y h. refl;
        lows = λ f c x m low. omega (arith, c, low);
        part = λ f x m low. omega (arith, low);
        outside = λ f x v m o. next_follows s x v m o;
      }))

  worded : turnings.Worded loop (cue.Sign symbol.Comma) rest read_turn
  worded = record {
    starts = λ s ts h. h;
    shrinks =
        λ s p ts. shrinks_after (ex Other 9 ts) (λ e. pure (with_element s e)) (length ts)
        (part_shrinks ex room right Other 9 (omega arith) ts) (λ x us. omega arith);
    begins = λ s x w v f sp. heads_begin (cue.Sign symbol.Comma) w v sp;
    leads = λ s v h. h;
    stops = λ s v o. o.1;
    ends = λ s. refl;
    sees = λ s p ps qs g. refl;
    sees_past = λ s ls others g. heads_seen loop.looks (is_sign symbol.Comma) ls others g;
    grows = λ s x low. omega (arith, low);
    stays = λ s x f g. tt;
  }

  abbrev one : MeasuredNodes → Reader Measured
  one s = behind_whole (read_turn s).reader

  turning : loops.Turning loop one
  turning = turnings.behind_turning loop (cue.Sign symbol.Comma) rest read_turn worded

  inner_kept : (s : MeasuredNodes) (bound : ℕ) → loop.Good s → loop.Low s → (us : List Token)
      → has_argument s us ≡ true
      → KeepsWhole (λ x. loop.Low (with_element s x)) bound Nine loop.row_one (read_turn s).reader
  inner_kept s bound good low us e = (read_turn s).keeps tt (good, (us, e)) low bound

  abbrev begin : Measured → MeasuredNodes
  begin e = with_element no_elements e

  abbrev Chained : Type 0
  Chained = Measured × List Measured

  abbrev head : chaining.Head Measured Measured MeasuredNodes
  head = record { made = λ e. e; Low = IsLow room; Fits = Nine; row = operand_row 9; begin = begin }

  chain_read : {K : Type 0} → chaining.IsChain loop one head K (arguments ex)
  chain_read =
      chaining.chain_read loop one head turning (next_argument ex)
      (turnings.behind_same loop (cue.Sign symbol.Comma) rest read_turn worded)
      (record {
        good = λ a f. tt;
        low = λ a f low. omega (arith, low);
        back = λ a f low. omega (arith, low);
      })
      (ex Other 9)
      (narrow_read (MayFollow Other 9) (λ y v f o. next_follows (begin y) y v f o) nine_read)
      (λ k. looping.loop_keeps loop one turning (λ s. (read_turn s).reader) (λ s ts. refl) inner_kept)
      (λ k. looping.loop_far loop one turning (λ s. (read_turn s).reader) (λ s ts. refl) inner_kept)

  fits_all : (s : MeasuredNodes) (xs : List Measured) → AreNine xs → loops.FitsFrom loop one s xs
  fits_all s [] m = tt
  fits_all s (x ∷ xs) m = (m.0, fits_all (with_element s x) xs m.1)

  all_fits : (s : MeasuredNodes) (xs : List Measured) → loops.FitsFrom loop one s xs → AreNine xs
  all_fits s [] m = tt
  all_fits s (x ∷ xs) m = (m.0, all_fits (with_element s x) xs m.1)

  abbrev made : Chained → MeasuredNodes
  made c = elements_from no_elements (c.0 ∷ c.1)

  abbrev chained_row : Chained → Parts
  chained_row c = elements 9 symbol.Comma (phrases_of (c.0 ∷ c.1)) End

  row_is : (y : Chained) → operand_row 9 y.0 ▸ all loop.row_one y.1 ≡ chained_row y
  row_is y =
      ap (λ (ps : Parts). part 9 (phrase y.0.node) ps) (sym (behind_end (all loop.row_one y.1)))
      ∙ sym (chain_elements 9 symbol.Comma y.0 y.1 End)

  chain_cast : Recast (chaining.Low_chain loop one head) (λ c. (made c).tallest ≤ room)
      (chaining.Out_chain loop one head) (λ c v. Out no_elements v) (chaining.fits_chain loop one head)
      (λ c. Nine c.0 × AreNine c.1) (chaining.row_chain loop one head) chained_row (λ c. c)
  chain_cast = record {
    to =
        λ y w i. record {
          fit = (i.fit.0, all_fits (begin y.0) y.1 i.fit.1);
          levels = subst AreLevelled (row_is y) i.levels;
          spelled = subst (λ (ps : Parts). AreSpelled ps w) (row_is y) i.spelled;
        };
    from =
        λ y w i. (
          y,
          refl,
          record {
            fit = (i.fit.0, fits_all (begin y.0) y.1 i.fit.1);
            levels = subst AreLevelled (sym (row_is y)) i.levels;
            spelled = subst (λ (ps : Parts). AreSpelled ps w) (sym (row_is y)) i.spelled;
          },
        );
    lows = λ y fit low. low;
    back = λ y fit low. low;
    outside = λ y v fit o. o;
  }

  -- E, E
  pub arguments_read : {K : Type 0} → IsRead made K (Unit {0}) (Unit {0}) (λ c. (made c).tallest ≤ room)
      (λ c v. Out no_elements v) (λ k. false) (λ c. Nine c.0 × AreNine c.1) chained_row (arguments ex)
  arguments_read =
      recast_read _ _ _ _ (λ c. c) (λ y. refl) (λ f. f) (λ f c. c) (λ f. chain_cast.to)
      (λ f c. chain_cast) chain_read
