-- Positions in a piece are those of its file.
use Rattle.std.proofs.Common.{◌≡◌, ℕ, ◌+◌, ◌<◌, Bool, true, false, List, [], ◌∷◌, ◌++◌, length, take, drop, get_or}
use Rattle.std.proofs.Common.{drop-cons, add-one, refl, sym, ap, ◌∙◌, arith}
use Rattle.std.proofs.lemmas.List.{length-drop}
use Rattle.cat_pos.specs.declared.limits.TheConstants.{MOST_FILES}
use Rattle.cat_pos.specs.declared.pos.Pos.{Pos}
use Rattle.cat_pos.specs.Position.{is_line_feed, pos_of, line_of, column_of, position_of}
use Rattle.cat_pos.proofs.Walking.{line_of_feed, line_of_other, column_of_feed, column_of_other}
use Rattle.cat_pos.proofs.Packing.{file_kept, column_kept}
use Rattle.cat_lex.specs.Positions.{next_position, position_after}

module _ (text : List ℕ) (file : ℕ) (known : file < MOST_FILES) where
  one_more : (at byte : ℕ) (feed : Bool) → at < length text → get_or text at 0 ≡ byte → is_line_feed byte ≡ feed
      → next_position (position_of text file at) byte ≡ position_of text file (at + 1)
  one_more at byte true below is h =
      let here : is_line_feed (get_or text at 0) ≡ true = ap is_line_feed is ∙ h in
      rw (h, file_kept file (line_of (take at text)) (column_of (take at text)) known)
      (sym (ap (λ (n : ℕ). pos_of file n (column_of (take (at + 1) text))) (line_of_feed text at below here)
      ∙ ap (λ (n : ℕ). pos_of file (line_of (take at text) + 1) n) (column_of_feed text at below here)))
  one_more at byte false below is h =
      let here : is_line_feed (get_or text at 0) ≡ false = ap is_line_feed is ∙ h in
      rw (
        h,
        file_kept file (line_of (take at text)) (column_of (take at text)) known,
        column_kept file (line_of (take at text)) (column_of (take at text)) known,
      )
      (sym (ap (λ (n : ℕ). pos_of file n (column_of (take (at + 1) text))) (line_of_other text at below here)
      ∙ ap (λ (n : ℕ). pos_of file (line_of (take at text)) n) (column_of_other text at below here)))

below : (text : List ℕ) (at : ℕ) (byte : ℕ) (bytes : List ℕ) → drop at text ≡ byte ∷ bytes → at < length text
below text at byte bytes e =
    let long : length (drop at text) ≡ length (byte ∷ bytes) =
    ap (λ (w : List ℕ). length w) e in omega (arith, long, length-drop at text)

step : (text : List ℕ) (at byte : ℕ) (bytes : List ℕ) → drop at text ≡ byte ∷ bytes
    → (get_or text at 0 ≡ byte) × (drop (at + 1) text ≡ bytes)
step text at byte bytes e =
    let low : at < length text = below text at byte bytes e in
    let cut : drop at text ≡ get_or text at 0 ∷ drop (at + 1) text = rw (add-one, drop-cons text at 0) refl in
    let same : get_or text at 0 ∷ drop (at + 1) text ≡ byte ∷ bytes = sym cut ∙ e in
    (cc, cc)

-- after a front of what stands at an offset, the position is that of the offset past it
pub positions : (text : List ℕ) (file at : ℕ) (front rest : List ℕ) → file < MOST_FILES → drop at text ≡ front ++ rest
    → position_after (position_of text file at) front ≡ position_of text file (at + length front)
positions text file at [] rest known e = ap (position_of text file) (let same : at ≡ at + 0 = omega arith in same)
positions text file at (byte ∷ front) rest known e =
    let s = step text at byte (front ++ rest) e in
    let next = one_more text file known at byte (is_line_feed byte) (below text at byte (front ++ rest) e) s.0 refl in
    let more = positions text file (at + 1) front rest known s.1 in
    let far : at + 1 + length front ≡ at + length (byte ∷ front) = omega arith in
    ap (λ (p : Pos). position_after p front) next ∙ (more ∙ ap (position_of text file) far)
