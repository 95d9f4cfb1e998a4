-- No dot is left behind a bare case.
use Rattle.std.proofs.Common.{◌≡◌, ℕ, suc, ◌≤◌, ◌<◌, Bool, true, false, ◌&&◌, if◌then◌else◌, List, [], ◌∷◌, ◌++◌}
use Rattle.std.proofs.Common.{length, refl, sym, ap, subst, ◌∙◌, arith}
use Rattle.std.proofs.lemmas.List.{append-nil}
use Rattle.cat_lex.specs.declared.token.TokenKind.TheVariants as kind
use Rattle.cat_lex.specs.declared.symbol.Symbol.TheVariants as symbol
use Rattle.cat_parse_expr.specs.declared.cue.Cue.TheVariants as cue
use Rattle.cat_parse_expr.specs.Climbing as climbing
use Rattle.cat_parse_expr.specs.Cues as cues
use Rattle.cat_parse_expr.specs.Cases as cased
use Rattle.cat_parse_expr.proofs.Common.{Token, Name, Bare, Qualified, Phrase, phrase, Behind, Measured, word_of}
use Rattle.cat_parse_expr.proofs.Common.{lower_of, upper_of, KeepsWhole, Lower, is_sign, Parsed, Fails, Reads, Reader}
use Rattle.cat_parse_expr.proofs.Common.{◌⨟◌, heads, behind_whole, with_room, IsMeasured, IsLow, operand_row, AreRight}
use Rattle.cat_parse_expr.proofs.Common.{left_of, fallen, is_lower, IsSpelling, by_word, phrase_Case, Taken}
use Rattle.cat_parse_expr.proofs.Firsts.{is_bare}
use Rattle.cat_parse_expr.proofs.Turnings.{takes_one, shrinks_after, shrinks_one, read_shrinks}
use Rattle.cat_parse_expr.proofs.Climbs.{room_shrinks}
use Rattle.cat_parse_expr.proofs.CaseContent.{held_read}
use Rattle.cat_parse_expr.proofs.Operands.{Placed, whole_same}
use Rattle.cat_parse_expr.proofs.Primary.{primary_read}
use Rattle.cat_parse_expr.proofs.Spines.{bare_case}
use Rattle.cat_parse_expr.proofs.Truth.{first_false, second_false}

-- the longest front is kept by readers of operands
abbrev pub AreKept : (room : ℕ) → Lower → Type 0
AreKept room ex =
    (b : Behind) (j bound : ℕ) → j ≤ 9 → KeepsWhole (IsLow room) bound IsMeasured (operand_row j) (ex b j)

module _ (ex : Lower) (room : ℕ) (right : AreRight room ex) (kept : AreKept room ex) (b : Behind) (k : ℕ)
    (le : k ≤ 9) where
  abbrev pub prim : Reader Measured
  prim = climbing.primary ex room b k

  fallen_reads : {A : Type 0} (ts : List Token) (o : Parsed A) (x : A) (left : List Token) → fallen ts o ≡ Reads x left
      → o ≡ Reads x left
  fallen_reads ts (Fails l deep whole) x left e = absurd cc
  fallen_reads ts (Reads y l) x left e = e

  dotted_takes : (u : Name) (ts left : List Token) (a : Measured) → cased.dotted ex room b k u ts ≡ Reads a left
      → length left < length ts
  dotted_takes u ts left a e =
      takes_one (word_of (cue.Sign symbol.Dot)) _ ts left a (λ p us. by (heads is_lower us) us) e
    where
      by : (c : Bool) (us : List Token)
          → length (left_of (if c then cased.case_field ex room u us
          else (cues.upper ⨟ λ v. cased.case_content ex room b k (Qualified u v)) us)) ≤ length us
      by true us =
          shrinks_after (with_room room cues.lower us) _ (length us) (room_shrinks room lower_of us)
          (λ x vs. omega arith)
      by false us =
          shrinks_after (cues.upper us) _ (length us) (shrinks_one upper_of us)
          (λ v vs. read_shrinks (held_read ex room right kept b k (Qualified u v) {K = Unit {0}}) tt tt vs)

  taken_prim : (ts : List Token) → Taken (IsLow (suc room)) (Placed k) (operand_row k) (prim ts) ts
  taken_prim ts =
      let h = primary_read ex room right kept b k le {K = Unit {0}} in
      subst (λ (o : Parsed Measured). Taken (IsLow (suc room)) (Placed k) (operand_row k) o ts)
      (whole_same ex room right (h.reader ts) ∙ sym (h.maps ts))
      ((h.right tt tt (length ts)).taken ts (omega arith))

  bare_ends : (u : Name) (left : List Token) (a : Measured)
      → prim (record { kind = kind.Upper u.text; pos = u.pos } ∷ left) ≡ Reads a left
      → heads (is_sign symbol.Dot) left ≡ false
  bare_ends u left a e = by (heads (is_sign symbol.Dot) left) refl
    where
      none : (n : ℕ) → n < n → ⊥
      none n lt = omega (arith, lt)

      by : (c : Bool) → heads (is_sign symbol.Dot) left ≡ c → heads (is_sign symbol.Dot) left ≡ false
      by false h = h
      by true h =
          absurd (none (length left) (dotted_takes (record { text = u.text; pos = u.pos }) left left a
          (fallen_reads left (cased.dotted ex room b k (record { text = u.text; pos = u.pos }) left) a left
          (sym (ap (λ (c : Bool). if c then fallen left
          (cased.dotted ex room b k (record { text = u.text; pos = u.pos }) left)
          else by_word (is_sign symbol.LeftBrace)
          (behind_whole (cased.structure ex room (record { text = u.text; pos = u.pos })))
          (cased.case_content ex room b k (Bare (record { text = u.text; pos = u.pos }))) left) h) ∙ e))))

  pub bare_stops : (ts left : List Token) (a : Measured) → prim ts ≡ Reads a left
      → (is_bare (phrase a.node) && heads (is_sign symbol.Dot) left) ≡ false
  bare_stops ts left a e = by (is_bare (phrase a.node)) refl
    where
      by : (c : Bool) → is_bare (phrase a.node) ≡ c
          → (is_bare (phrase a.node) && heads (is_sign symbol.Dot) left) ≡ false
      by false h = first_false (is_bare (phrase a.node)) (heads (is_sign symbol.Dot) left) h
      by true h =
          let t = subst (λ (o : Parsed Measured). Taken (IsLow (suc room)) (Placed k) (operand_row k) o ts) e
          (taken_prim ts) in
          let u = bare_case a.node h in
          let s = t.took.0.spelled in
          let i = subst (λ (f : Phrase). IsSpelling f s.0) (ap phrase u.1 ∙ phrase_Case (Bare u.0)) s.3 in
          let front : t.front ≡ record { kind = kind.Upper u.0.text; pos = u.0.pos } ∷ [] =
          s.2 ∙ ap (λ (z : List Token). s.0 ++ z) s.4 ∙ append-nil s.0 ∙ i.2 ∙ ap (λ (z : List Token). i.0 ∷ z) i.4
          ∙ ap (λ (z : Token). z ∷ []) i.3 in
          second_false (is_bare (phrase a.node)) (heads (is_sign symbol.Dot) left)
          (bare_ends u.0 left a
          (sym (ap prim (t.text ∙ ap (λ (z : List Token). z ++ left) front)) ∙ e))
