-- What stands behind the dot of a case.
use Rattle.std.proofs.Common.{◌≡◌, ℕ, suc, ◌≤◌, Bool, true, false, List, [], ◌∷◌, ◌++◌, refl, sym, ap, subst, ◌∙◌}
use Rattle.std.proofs.Common.{arith, inl, inr, ◌⊎◌, not, nat_eq, nat_lt, ◌&&◌, ◌||◌}
use Rattle.std.proofs.lemmas.Bool.Decides.{nat_tests}
use Rattle.cat_lex.specs.declared.token.TokenKind.TheVariants as kind
use Rattle.cat_lex.specs.declared.symbol.Symbol.TheVariants as symbol
use Rattle.cat_parse_expr.specs.declared.behind.Behind.TheVariants.{Other, Field, Pattern as Tested}
use Rattle.cat_parse_expr.specs.declared.cue.Cue.TheVariants as cue
use Rattle.cat_parse_expr.specs.Cases as cased
use Rattle.cat_tree.specs.declared.expression.Node.TheVariants as leaves
use Rattle.cat_parse_expr.specs.declared.follow.Follow.TheVariants as follow
use Rattle.cat_parse_expr.specs.Cues as cues
use Rattle.cat_parse_expr.proofs.Common.{Token, TokenKind, Name, Parts, End, Word, At, Anywhere, phrase, phrase_Case}
use Rattle.cat_parse_expr.proofs.Common.{Behind, Measured, kind_of, Reader, ◌⨟◌, Lower, looks_of, KeepsWhole}
use Rattle.cat_parse_expr.proofs.Common.{IsMeasured, IsLow, operand_row, AreRight, AreLevelled, AreSpelled, is_sign}
use Rattle.cat_parse_expr.proofs.Common.{heads, is_asked, is_below, may_stand, is_lower, CaseName, Bare, Qualified}
use Rattle.cat_parse_expr.proofs.Common.{goes_on}
use Rattle.cat_parse_expr.proofs.Operands.{Next}
use Rattle.cat_parse_expr.proofs.Read.{IsRead, pure_read}
use Rattle.cat_parse_expr.proofs.Worded.{word_read, upper_read, lower_room_read}
use Rattle.cat_parse_expr.proofs.Choices.{Recast}
use Rattle.cat_parse_expr.proofs.Shaping.{recast_read, reshape_read}
use Rattle.cat_parse_expr.proofs.Follows.{IsOwn}
use Rattle.cat_parse_expr.proofs.Leaves.{cue_found}
use Rattle.cat_parse_expr.proofs.Firsts.{is_bare}
use Rattle.cat_parse_expr.proofs.Chosen.{sharp_choice_read}
use Rattle.cat_parse_expr.proofs.CaseContent.{Held, held_of, held_row, held_fits, held_read, Nothing as Without}
use Rattle.cat_parse_expr.proofs.CaseContent.{Content as With}
use Rattle.cat_parse_expr.proofs.Cased.{Cased, Plain, Dotted, Holds, DottedHolds, Builds, Selects, first_in, second_in}
use Rattle.cat_parse_expr.proofs.Cased.{cased_of, after_dot, after_second, cased_rest, cased_fits}

pub brace_own : IsOwn (kind_of (cue.Sign symbol.LeftBrace))
brace_own = (refl, refl, refl, λ b ts. by b ts)
  where
    by : (b : Behind) (ts : List Token) → is_asked b (kind.Symbol symbol.LeftBrace) ts ≡ false
    by Other ts = refl
    by Field ts = refl
    by Tested ts = refl

-- no dot follows a bare case that stands alone
pub no_dot : (b : Behind) (k : ℕ) (u : Name) (v : List Token) → k ≤ 9 → Next b k (cased_of (Plain u)) v
    → heads (is_sign symbol.Dot) v ≡ false
no_dot b k u [] le o = refl
no_dot b k u (p ∷ ts) le o = by (is_sign symbol.Dot p.kind) refl
  where
    bare : is_bare (phrase (leaves.Case (Bare u))) ≡ true
    bare = ap is_bare (phrase_Case (Bare u))

    asked : (b : Behind) → is_asked b (kind.Symbol symbol.Dot) ts ≡ false
    asked Other = refl
    asked Field = refl
    asked Tested = refl

    none : (a d e g h : Bool) → a ≡ true → d ≡ false → e ≡ false → g ≡ false → h ≡ false
        → (not a || (d || (e || (g || h)))) ≡ true → ⊥
    none false d e g h p q r s t x = absurd cc
    none true true e g h p q r s t x = absurd cc
    none true false true g h p q r s t x = absurd cc
    none true false false true h p q r s t x = absurd cc
    none true false false false true p q r s t x = absurd cc
    none true false false false false p q r s t x = absurd cc

    second : (a c : Bool) → c ≡ false → (a && c) ≡ false
    second true c h = h
    second false c h = refl

    refused : (q : TokenKind) → q ≡ kind.Symbol symbol.Dot → may_stand b k 9 false q ts ≡ true → ⊥
    refused q e h =
        let there : may_stand b k 9 false (kind.Symbol symbol.Dot) ts ≡ true =
        ap (λ (z : TokenKind). may_stand b k 9 false z ts) (sym e) ∙ h in
        none true (is_asked b (kind.Symbol symbol.Dot) ts) (nat_eq k 9 && is_sign symbol.Comma (kind.Symbol symbol.Dot))
        (not false && is_sign symbol.MinusMinus (kind.Symbol symbol.Dot))
        (not (nat_eq 9 0) && is_below k follow.Dotted) refl (asked b)
        (second (nat_eq k 9) (is_sign symbol.Comma (kind.Symbol symbol.Dot)) refl) refl
        (second (not (nat_eq 9 0)) (is_below k follow.Dotted) not_above) there
      where
        not_above : nat_lt 9 k ≡ false
        not_above = grind (arith, nat_tests, le)

    goes_not : (c d e : Bool) → c ≡ true → d ≡ true → (not (c && d) && e) ≡ true → ⊥
    goes_not true true e p q h = absurd cc
    goes_not true false e p q h = absurd cc
    goes_not false d e p q h = absurd cc

    by : (z : Bool) → is_sign symbol.Dot p.kind ≡ z → is_sign symbol.Dot p.kind ≡ false
    by false e = e
    by true e = elim o [
      | inl h ↦ absurd (refused p.kind (cue_found (cue.Sign symbol.Dot) p.kind e) h)
      | inr h ↦ absurd (goes_not (is_bare (phrase (leaves.Case (Bare u)))) (is_sign symbol.Dot p.kind)
          (goes_on b k (cased_of (Plain u)) (p ∷ ts)) bare e h)
    ]

pub no_comma : (z : Bool) → (z && false) ≡ false
no_comma true = refl
no_comma false = refl

-- ---- kinds of them

abbrev pub IsDotted : Cased → Type 0
IsDotted (Dotted d u) = Unit {0}
IsDotted (DottedHolds d u e) = Unit {0}
IsDotted (Selects u w) = Unit {0}
IsDotted y = ⊥

abbrev pub IsUndotted : Cased → Type 0
IsUndotted (Plain u) = Unit {0}
IsUndotted (Holds u e) = Unit {0}
IsUndotted (Builds u f fs) = Unit {0}
IsUndotted y = ⊥

abbrev pub IsSelected : Cased → Type 0
IsSelected (Selects u w) = Unit {0}
IsSelected y = ⊥

abbrev pub IsQualified : Cased → Type 0
IsQualified (Dotted d u) = Unit {0}
IsQualified (DottedHolds d u e) = Unit {0}
IsQualified y = ⊥

abbrev pub IsBuilt : Cased → Type 0
IsBuilt (Builds u f fs) = Unit {0}
IsBuilt y = ⊥

abbrev pub IsBare : Cased → Type 0
IsBare (Plain u) = Unit {0}
IsBare (Holds u e) = Unit {0}
IsBare y = ⊥

module _ (ex : Lower) (room : ℕ) (right : AreRight room ex)
    (kept : (b : Behind) (j bound : ℕ) → j ≤ 9 → KeepsWhole (IsLow room) bound IsMeasured (operand_row j) (ex b j))
    (b : Behind) (k : ℕ) (le : k ≤ 9) where
  abbrev pub low : Cased → Type 0
  low y = (cased_of y).height ≤ suc room

  abbrev pub out : Cased → List Token → Type 0
  out y v = Next b k (cased_of y) v

  abbrev pub ReadAs : Type 0 → (Cased → Type 0) → (Cased → Parts) → Reader Measured → Type 0
  ReadAs K fits row s = IsRead cased_of K (Unit {0}) (Unit {0}) low out (looks_of b) fits row s

  abbrev pub At_first : Name → Cased → Type 0
  At_first u y = cased_fits k y × (first_in y ≡ u)

  -- ---- behind a dot

  abbrev pub Chosen : Name → Cased → Type 0
  Chosen u y = At_first u y × IsSelected y

  abbrev pub Named : Name → Cased → Type 0
  Named u y = At_first u y × IsQualified y

  abbrev pub InDot : Name → Cased → Type 0
  InDot u y = At_first u y × IsDotted y

  selects_is : (u w : Name) (y : Cased) → Chosen u y → second_in y ≡ w → y ≡ Selects u w
  selects_is u w (Selects x z) f e =
      ap (λ (n : Name). Selects n z) f.0.1 ∙ ap (λ (n : Name). Selects u n) e
  selects_is u w _ f e = absurd f.1

  selects_row : (u : Name) (y : Cased) → Chosen u y
      → Word (At (kind.Lower (second_in y).text) (second_in y).pos) End ≡ after_dot y
  selects_row u (Selects x z) f = refl
  selects_row u _ f = absurd f.1

  selects_high : (u : Name) → room ≡ 0 → (y : Cased) → Chosen u y → low y → ⊥
  selects_high u none (Selects x z) f l = omega (arith, none, l)
  selects_high u none _ f l = absurd f.1

  select_read : {K : Type 0} (u : Name) → ReadAs K (Chosen u) after_dot (cased.case_field ex room u)
  select_read u =
      reshape_read (Chosen u) (Chosen u) (λ y. Word
      (At (kind.Lower (second_in y).text) (second_in y).pos) End) after_dot _
      (record { to = λ y f. f; from = λ y f. f; rows = selects_row u })
      (lower_room_read room second_in _ _ (λ none f c y m low. selects_high u none y m low)
      (λ w. pure_read (Selects u w) (λ f. (((tt, refl), tt), refl)) (λ f c. omega (arith, c.1))
      (λ y f h. selects_is u w y h.0 h.1)))

  -- values with some content, or without
  pub held_as : {K : Type 0} (c : CaseName) (Fits : Cased → Type 0) (row : Cased → Parts) (f : Held → Cased)
      → ((h : Held) → cased_of (f h) ≡ held_of c h) → ((h : Held) → row (f h) ≡ held_row h)
      → ((h : Held) → held_fits k h → Fits (f h)) → ((y : Cased) → Fits y → (h : Held) × (y ≡ f h) × held_fits k h)
      → ReadAs K Fits row (cased.case_content ex room b k c)
  held_as c Fits row f same rows to from =
      recast_read _ _ _ _ f (λ h. sym (same h)) (λ z. z) (λ z c. c) (λ z. cast.to) (λ z c. cast)
      (held_read ex room right kept b k c)
    where
      cast : Recast (λ h. (held_of c h).height ≤ suc room) low (λ h v. Next b k (held_of c h) v) out (held_fits k) Fits
          held_row row f
      cast = record {
        to =
            λ h w i. record {
              fit = to h i.fit;
              levels = subst AreLevelled (sym (rows h)) i.levels;
              spelled = subst (λ (ps : Parts). AreSpelled ps w) (sym (rows h)) i.spelled;
            };
        from =
            λ y w i. let s = from y i.fit in (
              s.0,
              s.1,
              record {
                fit = s.2;
                levels = subst AreLevelled (ap row s.1 ∙ rows s.0) i.levels;
                spelled = subst (λ (ps : Parts). AreSpelled ps w) (ap row s.1 ∙ rows s.0) i.spelled;
              },
            );
        lows = λ h fit l. subst (λ (m : Measured). m.height ≤ suc room) (sym (same h)) l;
        back = λ h fit l. subst (λ (m : Measured). m.height ≤ suc room) (same h) l;
        outside = λ h v fit o. subst (λ (m : Measured). Next b k m v) (same h) o;
      }

  abbrev qualified : Name → Name → Held → Cased
  qualified u v Without = Dotted u v
  qualified u v (With e) = DottedHolds u v e

  abbrev pub bare : Name → Held → Cased
  bare u Without = Plain u
  bare u (With e) = Holds u e

  abbrev At_second : Name → Name → Cased → Type 0
  At_second u v y = Named u y × (second_in y ≡ v)

  second_rest_read : {K : Type 0} (u v : Name)
      → ReadAs K (At_second u v) after_second (cased.case_content ex room b k (Qualified u v))
  second_rest_read u v = held_as (Qualified u v) (At_second u v) after_second (qualified u v) same rows to from
    where
      same : (h : Held) → cased_of (qualified u v h) ≡ held_of (Qualified u v) h
      same Without = refl
      same (With e) = refl

      rows : (h : Held) → after_second (qualified u v h) ≡ held_row h
      rows Without = refl
      rows (With e) = refl

      to : (h : Held) → held_fits k h → At_second u v (qualified u v h)
      to Without f = (((tt, refl), tt), refl)
      to (With e) f = (((f, refl), tt), refl)

      from : (y : Cased) → At_second u v y → (h : Held) × (y ≡ qualified u v h) × held_fits k h
      from (Dotted d x) f =
          (Without, ap (λ (n : Name). Dotted n x) f.0.0.1 ∙ ap (λ (n : Name). Dotted u n) f.1, tt)
      from (DottedHolds d x m) f =
          (With m, ap (λ (n : Name). DottedHolds n x m) f.0.0.1 ∙ ap (λ (n : Name). DottedHolds u n m) f.1, f.0.0.0)
      from _ f = absurd f.0.1

  named_row : (u : Name) (y : Cased) → Named u y
      → Word (At (kind.Upper (second_in y).text) (second_in y).pos) (after_second y) ≡ after_dot y
  named_row u (Dotted d x) f = refl
  named_row u (DottedHolds d x m) f = refl
  named_row u _ f = absurd f.1

  named_read : {K : Type 0} (u : Name)
      → ReadAs K (Named u) after_dot (cues.upper ⨟ λ v. cased.case_content ex room b k (Qualified u v))
  named_read u =
      reshape_read (Named u) (Named u)
      (λ y. Word (At (kind.Upper (second_in y).text) (second_in y).pos) (after_second y)) after_dot _
      (record { to = λ y f. f; from = λ y f. f; rows = named_row u })
      (upper_read second_in after_second _ (λ v. second_rest_read u v))

  dot_row : (u : Name) (y : Cased) → InDot u y
      → Word (Anywhere (kind.Symbol symbol.Dot)) (after_dot y) ≡ cased_rest y
  dot_row u (Dotted d x) f = refl
  dot_row u (DottedHolds d x m) f = refl
  dot_row u (Selects x z) f = refl
  dot_row u _ f = absurd f.1

  dot_either : (u : Name) (y : Cased) → InDot u y → Chosen u y ⊎ Named u y
  dot_either u (Dotted d x) f = inr f
  dot_either u (DottedHolds d x m) f = inr f
  dot_either u (Selects x z) f = inl f
  dot_either u _ f = absurd f.1

  chosen_dot : (u : Name) (y : Cased) → Chosen u y → InDot u y
  chosen_dot u (Selects x z) f = f
  chosen_dot u _ f = absurd f.1

  named_dot : (u : Name) (y : Cased) → Named u y → InDot u y
  named_dot u (Dotted d x) f = f
  named_dot u (DottedHolds d x m) f = f
  named_dot u _ f = absurd f.1

  chosen_begins : (u : Name) (y : Cased) (w v : List Token) → Chosen u y → AreSpelled (after_dot y) w
      → heads is_lower (w ++ v) ≡ true
  chosen_begins u (Selects x z) w v f s = ap (λ (x : List Token). heads is_lower (x ++ v)) s.2 ∙ ap
      (λ (t : Token). is_lower t.kind) s.3
  chosen_begins u _ w v f s = absurd f.1

  named_begins : (u : Name) (y : Cased) (w v : List Token) → Named u y → AreSpelled (after_dot y) w
      → heads is_lower (w ++ v) ≡ false
  named_begins u (Dotted d x) w v f s = ap (λ (x : List Token). heads is_lower (x ++ v)) s.2 ∙ ap
      (λ (t : Token). is_lower t.kind) s.3
  named_begins u (DottedHolds d x m) w v f s = ap (λ (x : List Token). heads is_lower (x ++ v)) s.2 ∙ ap
      (λ (t : Token). is_lower t.kind) s.3
  named_begins u _ w v f s = absurd f.1

  pub dotted_read : {K : Type 0} (u : Name) → ReadAs K (InDot u) cased_rest (cased.dotted ex room b k u)
  dotted_read u =
      reshape_read (InDot u) (InDot u) (λ y. Word (Anywhere (kind.Symbol symbol.Dot)) (after_dot y)) cased_rest _
      (record { to = λ y f. f; from = λ y f. f; rows = dot_row u })
      (word_read (cue.Sign symbol.Dot) after_dot _
      (λ p. sharp_choice_read is_lower (Chosen u) (Named u) (dot_either u) (chosen_dot u) (named_dot u)
      (chosen_begins u) (named_begins u) (select_read u) (named_read u)))
