-- The reader of what begins with a case.
use Rattle.std.proofs.Common.{◌≡◌, ℕ, suc, ◌≤◌, true, false, List, [], ◌++◌, refl, ap, ◌∙◌, arith, inl, inr, ◌⊎◌}
use Rattle.std.proofs.Common.{nat_eq}
use Rattle.cat_lex.specs.declared.words.Keyword.TheVariants as key
use Rattle.cat_lex.specs.declared.symbol.Symbol.TheVariants as symbol
use Rattle.cat_parse_expr.specs.declared.cue.Cue.TheVariants as cue
use Rattle.cat_parse_expr.specs.declared.opening.Opening.TheVariants as opening
use Rattle.cat_parse_expr.specs.Cases as cased
use Rattle.cat_parse_expr.proofs.Common.{Token, Name, Parts, Behind, Measured, Reader, Lower, looks_of, KeepsWhole}
use Rattle.cat_parse_expr.proofs.Common.{IsMeasured, IsLow, operand_row, AreRight, AreSpelled, is_sign, heads, by_word}
use Rattle.cat_parse_expr.proofs.Common.{Is, behind_whole, Bare}
use Rattle.cat_parse_expr.proofs.Operands.{Next, OfClass, form_read, goes_then}
use Rattle.cat_parse_expr.proofs.Read.{IsRead}
use Rattle.cat_parse_expr.proofs.Choices.{Recast}
use Rattle.cat_parse_expr.proofs.Shaping.{recast_read}
use Rattle.cat_parse_expr.proofs.Turnings.{heads_begin, heads_other, own_heads}
use Rattle.cat_parse_expr.proofs.Chosen.{choice_read}
use Rattle.cat_parse_expr.proofs.Worded.{upper_read}
use Rattle.cat_parse_expr.proofs.FieldParts.{Valued, AreValued}
use Rattle.cat_parse_expr.proofs.Braces.{structure_read}
use Rattle.cat_parse_expr.proofs.CaseContent.{Held, held_of, held_row, held_fits, Nothing as Without, Content as With}
use Rattle.cat_parse_expr.proofs.Cased.{Cased, Plain, Dotted, Holds, DottedHolds, Builds, Selects, first_in, cased_of}
use Rattle.cat_parse_expr.proofs.Cased.{cased_rest, cased_flat, cased_fits, cased_row, to_parts, from_parts, cased_form}
use Rattle.cat_parse_expr.proofs.Casing.{brace_own, no_dot, no_comma, IsUndotted, IsBuilt, IsBare}
use Rattle.cat_parse_expr.proofs.Truth.{clash}
use Rattle.cat_parse_expr.proofs.Casing as casing

module _ (ex : Lower) (room : ℕ) (right : AreRight room ex)
    (kept : (b : Behind) (j bound : ℕ) → j ≤ 9 → KeepsWhole (IsLow room) bound IsMeasured (operand_row j) (ex b j))
    (b : Behind) (k : ℕ) (le : k ≤ 9) where
  abbrev low : Cased → Type 0
  low = casing.low ex room right kept b k le

  abbrev out : Cased → List Token → Type 0
  out = casing.out ex room right kept b k le

  abbrev ReadAs : Type 0 → (Cased → Type 0) → (Cased → Parts) → Reader Measured → Type 0
  ReadAs = casing.ReadAs ex room right kept b k le

  abbrev At_first : Name → Cased → Type 0
  At_first = casing.At_first ex room right kept b k le

  abbrev InDot : Name → Cased → Type 0
  InDot = casing.InDot ex room right kept b k le

  abbrev bare : Name → Held → Cased
  bare = casing.bare ex room right kept b k le

  -- ---- with no dot

  abbrev Struct : Name → Cased → Type 0
  Struct u y = At_first u y × IsBuilt y

  abbrev BareOnes : Name → Cased → Type 0
  BareOnes u y = At_first u y × IsBare y

  abbrev Undotted : Name → Cased → Type 0
  Undotted u y = At_first u y × IsUndotted y

  struct_read : {K : Type 0} (u : Name) → ReadAs K (Struct u) cased_rest (cased.structure ex room u)
  struct_read u =
      recast_read _ _ _ _ (λ c. Builds u c.0 c.1) (λ c. refl) (λ z. z) (λ z c. c) (λ z. cast.to) (λ z c. cast)
      (structure_read ex room right b k u)
    where
      cast : Recast (λ c. low (Builds u c.0 c.1)) low (λ c v. out (Builds u c.0 c.1) v) out
          (λ (c : Valued × List Valued). IsMeasured c.0.1 × AreValued c.1) (Struct u)
          (λ c. cased_rest (Builds u c.0 c.1)) cased_rest (λ c. Builds u c.0 c.1)
      cast = record {
        to = λ c w i. record { fit = ((i.fit, refl), tt); levels = i.levels; spelled = i.spelled };
        from = from;
        lows = λ c fit l. l;
        back = λ c fit l. l;
        outside = λ c v fit o. o;
      }
        where
          from : (y : Cased) (w : List Token) → Is (Struct u) cased_rest y w → (c : Valued × List Valued)
              × (y ≡ Builds u c.0 c.1)
              × Is (λ (c : Valued × List Valued). IsMeasured c.0.1 × AreValued c.1)
              (λ c. cased_rest (Builds u c.0 c.1)) c w
          from (Builds x g gs) w i = (
            (g, gs),
            ap (λ (n : Name). Builds n g gs) i.fit.0.1,
            record { fit = i.fit.0.0; levels = i.levels; spelled = i.spelled },
          )
          from _ w i = absurd i.fit.1

  bare_read : {K : Type 0} (u : Name) → ReadAs K (BareOnes u) cased_rest (cased.case_content ex room b k (Bare u))
  bare_read u = casing.held_as ex room right kept b k le (Bare u) (BareOnes u) cased_rest (bare u) same rows to from
    where
      same : (h : Held) → cased_of (bare u h) ≡ held_of (Bare u) h
      same Without = refl
      same (With e) = refl

      rows : (h : Held) → cased_rest (bare u h) ≡ held_row h
      rows Without = refl
      rows (With e) = refl

      to : (h : Held) → held_fits k h → BareOnes u (bare u h)
      to Without f = ((tt, refl), tt)
      to (With e) f = ((f, refl), tt)

      from : (y : Cased) → BareOnes u y → (h : Held) × (y ≡ bare u h) × held_fits k h
      from (Plain x) f = (Without, ap Plain f.0.1, tt)
      from (Holds x m) f = (With m, ap (λ (n : Name). Holds n m) f.0.1, f.0.0)
      from _ f = absurd f.1

  brace_either : (u : Name) (y : Cased) → Undotted u y → Struct u y ⊎ BareOnes u y
  brace_either u (Plain x) f = inr f
  brace_either u (Holds x m) f = inr f
  brace_either u (Builds x g gs) f = inl f
  brace_either u _ f = absurd f.1

  struct_undotted : (u : Name) (y : Cased) → Struct u y → Undotted u y
  struct_undotted u (Builds x g gs) f = f
  struct_undotted u _ f = absurd f.1

  bare_undotted : (u : Name) (y : Cased) → BareOnes u y → Undotted u y
  bare_undotted u (Plain x) f = f
  bare_undotted u (Holds x m) f = f
  bare_undotted u _ f = absurd f.1

  struct_begins : (u : Name) (y : Cased) (w v : List Token) → Struct u y → AreSpelled (cased_rest y) w
      → heads (is_sign symbol.LeftBrace) (w ++ v) ≡ true
  struct_begins u (Builds x g gs) w v f s = heads_begin (cue.Sign symbol.LeftBrace) w v s
  struct_begins u _ w v f s = absurd f.1

  bare_follows : (u : Name) (y : Cased) (w v : List Token) → BareOnes u y → AreSpelled (cased_rest y) w → out y v
      → heads (is_sign symbol.LeftBrace) (w ++ v) ≡ false
  bare_follows u (Plain x) w v f s o = ap (λ (n : List Token). heads (is_sign symbol.LeftBrace) (n ++ v)) s
      ∙ own_heads b k (cased_of (Plain x)) (cue.Sign symbol.LeftBrace) v brace_own (no_comma (nat_eq k 9))
      (goes_then b k (cased_of (Plain x)) v o)
  bare_follows u (Holds x m) w v f s o = heads_other (cue.Word key.Content) (cue.Sign symbol.LeftBrace) (w ++ v) refl
      (heads_begin (cue.Word key.Content) w v s)
  bare_follows u _ w v f s o = absurd f.1

  bare_spent : (u : Name) (y : Cased) (w v : List Token) → BareOnes u y → AreSpelled (cased_rest y) w
      → heads (is_sign symbol.LeftBrace) (w ++ v) ≡ true → w ≡ []
  bare_spent u (Plain x) w v f s h = s
  bare_spent u (Holds x m) w v f s h = absurd (clash (heads (is_sign symbol.LeftBrace) (w ++ v)) h
      (heads_other (cue.Word key.Content) (cue.Sign symbol.LeftBrace) (w ++ v) refl
      (heads_begin (cue.Word key.Content) w v s)))
  bare_spent u _ w v f s h = absurd f.1

  undotted_read : {K : Type 0} (u : Name) → ReadAs K (Undotted u) cased_rest
      (by_word (is_sign symbol.LeftBrace) (behind_whole (cased.structure ex room u))
      (cased.case_content ex room b k (Bare u)))
  undotted_read u =
      choice_read (is_sign symbol.LeftBrace) (Struct u) (BareOnes u)
      (record {
        either = brace_either u;
        from_yes = struct_undotted u;
        from_no = bare_undotted u;
        on = λ y w v f s o. struct_begins u y w v f s;
        off = bare_follows u;
      })
      (struct_begins u) (bare_spent u) (Plain u)
      (λ f. record { fit = ((tt, refl), tt); levels = tt; spelled = refl }) (λ f c. omega arith) (struct_read u)
      (bare_read u)

  -- ---- either

  either : (u : Name) (y : Cased) → At_first u y → InDot u y ⊎ Undotted u y
  either u (Plain x) f = inr (f, tt)
  either u (Dotted d x) f = inl (f, tt)
  either u (Holds x m) f = inr (f, tt)
  either u (DottedHolds d x m) f = inl (f, tt)
  either u (Builds x g gs) f = inr (f, tt)
  either u (Selects x z) f = inl (f, tt)

  dot_begins : (u : Name) (y : Cased) (w v : List Token) → InDot u y → AreSpelled (cased_rest y) w
      → heads (is_sign symbol.Dot) (w ++ v) ≡ true
  dot_begins u (Dotted d x) w v f s = heads_begin (cue.Sign symbol.Dot) w v s
  dot_begins u (DottedHolds d x m) w v f s = heads_begin (cue.Sign symbol.Dot) w v s
  dot_begins u (Selects x z) w v f s = heads_begin (cue.Sign symbol.Dot) w v s
  dot_begins u _ w v f s = absurd f.1

  undotted_follows : (u : Name) (y : Cased) (w v : List Token) → Undotted u y → AreSpelled (cased_rest y) w → out y v
      → heads (is_sign symbol.Dot) (w ++ v) ≡ false
  undotted_follows u (Plain x) w v f s o = ap (λ (n : List Token). heads (is_sign symbol.Dot) (n ++ v)) s
      ∙ no_dot b k x v le o
  undotted_follows u (Holds x m) w v f s o = heads_other (cue.Word key.Content) (cue.Sign symbol.Dot) (w ++ v) refl
      (heads_begin (cue.Word key.Content) w v s)
  undotted_follows u (Builds x g gs) w v f s o = heads_other (cue.Sign symbol.LeftBrace) (cue.Sign symbol.Dot)
      (w ++ v) refl (heads_begin (cue.Sign symbol.LeftBrace) w v s)
  undotted_follows u _ w v f s o = absurd f.1

  undotted_spent : (u : Name) (y : Cased) (w v : List Token) → Undotted u y → AreSpelled (cased_rest y) w
      → heads (is_sign symbol.Dot) (w ++ v) ≡ true → w ≡ []
  undotted_spent u (Plain x) w v f s h = s
  undotted_spent u (Holds x m) w v f s h = absurd (clash (heads (is_sign symbol.Dot) (w ++ v)) h
      (heads_other (cue.Word key.Content) (cue.Sign symbol.Dot) (w ++ v) refl
      (heads_begin (cue.Word key.Content) w v s)))
  undotted_spent u (Builds x g gs) w v f s h = absurd (clash (heads (is_sign symbol.Dot) (w ++ v)) h
      (heads_other (cue.Sign symbol.LeftBrace) (cue.Sign symbol.Dot) (w ++ v) refl
      (heads_begin (cue.Sign symbol.LeftBrace) w v s)))
  undotted_spent u _ w v f s h = absurd f.1

  behind_read : {K : Type 0} (u : Name) → ReadAs K (At_first u) cased_rest
      (by_word (is_sign symbol.Dot) (behind_whole (cased.dotted ex room b k u))
      (by_word (is_sign symbol.LeftBrace) (behind_whole (cased.structure ex room u))
      (cased.case_content ex room b k (Bare u))))
  behind_read u =
      choice_read (is_sign symbol.Dot) (InDot u) (Undotted u)
      (record {
        either = either u;
        from_yes = λ y f. f.0;
        from_no = λ y f. f.0;
        on = λ y w v f s o. dot_begins u y w v f s;
        off = undotted_follows u;
      })
      (dot_begins u) (undotted_spent u) (Plain u)
      (λ f. record { fit = ((tt, refl), tt); levels = tt; spelled = refl }) (λ f c. omega arith)
      (casing.dotted_read ex room right kept b k le u)
      (undotted_read u)

  parts_cast : Recast low low out out (cased_fits k) (cased_fits k) cased_flat cased_row (λ y. y)
  parts_cast = record {
    to =
        λ y w i. let p = to_parts y w i.levels i.spelled in
        record { fit = i.fit; levels = p.0; spelled = p.1 };
    from =
        λ y w i. let p = from_parts y w i.levels i.spelled in
        (y, refl, record { fit = i.fit; levels = p.0; spelled = p.1 });
    lows = λ y fit l. l;
    back = λ y fit l. l;
    outside = λ y v fit o. o;
  }

  pub case_read : {K : Type 0}
      → IsRead (λ y. y) K (Unit {0}) (Unit {0}) (IsLow (suc room)) (Next b k) (looks_of b) (OfClass k opening.Case)
      (operand_row k) (cased.case ex room b k)
  case_read =
      form_read k (suc room) (Next b k) opening.Case (cased_fits k) cased_row cased_of (cased.case ex room b k)
      (cased_form k le)
      (recast_read _ _ _ _ (λ y. y) (λ y. refl) (λ f. f) (λ f c. c) (λ f. parts_cast.to) (λ f c. parts_cast)
      (upper_read first_in cased_rest _ (λ u. behind_read u)))
