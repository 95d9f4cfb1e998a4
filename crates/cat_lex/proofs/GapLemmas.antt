-- Blanks and comments: what is skipped is blank, and all of it.
use Rattle.std.proofs.Common.{◌≡◌, ◌≢◌, ℕ, ◌+◌, ◌<◌, ◌⊎◌, Bool, true, false, not, ◌&&◌, ◌||◌, ◌==◌, cond, List, [], ◌∷◌}
use Rattle.std.proofs.Common.{◌++◌, length, drop, get_or, refl, sym, ap, ◌∙◌, subst, inl, inr, arith}
use Rattle.std.specs.Str.{IsUtf8}
use Rattle.std.proofs.lemmas.Bool.Decides.{nat_tests}
use Rattle.std.proofs.lemmas.List.{length-append}
use Rattle.std.proofs.lemmas.Str.{IsUtf8-drop, IsCharBoundary-after_ascii, IsUtf8-nil}
use Rattle.std.proofs.Math.Seq.{drop-append-add, get_or-append_seam}
use Rattle.cat_pos.specs.Position.{is_line_feed}
use Rattle.cat_lex.specs.Gaps.{is_white_space, begins_comment, is_gap, begins_gap}
use Rattle.cat_lex.specs.inside.Reading.{skip_gap}
use Rattle.cat_lex.proofs.Skips.{and_left, and_right, and_true, not_true}

-- the gap, and what follows them
pub record EndsGap (inside : Bool) (text rest : List ℕ) : Type 0 where
  pub gap : List ℕ
  pub split : text ≡ gap ++ rest
  pub whole : rest ≢ [] → is_gap inside false gap ≡ true
  pub last : is_gap inside true gap ≡ true

comment_front : (byte : ℕ) (gap rest : List ℕ) → begins_comment byte (gap ++ rest) ≡ true → begins_comment byte gap
    ≡ true
comment_front byte [] rest h = and_true (byte == 35) true (and_left _ _ h) refl
comment_front byte (c ∷ gap) rest h = h

gap_by : (byte : ℕ) (bytes : List ℕ) (white comment : Bool) → is_white_space byte ≡ white → begins_comment byte bytes
    ≡ comment → EndsGap false bytes (skip_gap false bytes) → EndsGap true bytes (skip_gap true bytes)
    → EndsGap false (byte ∷ bytes)
    (cond white (skip_gap false bytes) (cond comment (skip_gap true bytes) (byte ∷ bytes)))
gap_by byte bytes true comment h k g i = record {
  gap = byte ∷ g.gap;
  split = ap (λ (w : List ℕ). byte ∷ w) g.split;
  whole = λ some. rw h (g.whole some);
  last = rw h g.last;
}
gap_by byte bytes false true h k g i =
    let front : begins_comment byte i.gap ≡ true =
    comment_front byte i.gap (skip_gap true bytes) (ap (begins_comment byte) (sym i.split) ∙ k) in
    record {
      gap = byte ∷ i.gap;
      split = ap (λ (w : List ℕ). byte ∷ w) i.split;
      whole = λ some. rw h (and_true (begins_comment byte i.gap) (is_gap true false i.gap) front (i.whole some));
      last = rw h (and_true (begins_comment byte i.gap) (is_gap true true i.gap) front i.last);
    }
gap_by byte bytes false false h k g i = record { gap = []; split = refl; whole = λ some. refl; last = refl }

pub gap_of : (inside : Bool) (text : List ℕ) → EndsGap inside text (skip_gap inside text)
gap_of true [] = record { gap = []; split = refl; whole = λ some. absurd (some refl); last = refl }
gap_of false [] = record { gap = []; split = refl; whole = λ some. refl; last = refl }
gap_of true (byte ∷ bytes) =
    let g = gap_of (not (is_line_feed byte)) bytes in
    record { gap = byte ∷ g.gap; split = ap (λ (w : List ℕ). byte ∷ w) g.split; whole = g.whole; last = g.last }
gap_of false (byte ∷ bytes) = gap_by byte bytes (is_white_space byte) (begins_comment byte bytes) refl refl
    (gap_of false bytes) (gap_of true bytes)

or_false : (a b : Bool) → a ≡ false → b ≡ false → (a || b) ≡ false
or_false a b g h = rw g h

stops_by : (byte : ℕ) (bytes : List ℕ) (white comment : Bool) → is_white_space byte ≡ white → begins_comment byte bytes
    ≡ comment → begins_gap (skip_gap false bytes) ≡ false → begins_gap (skip_gap true bytes) ≡ false
    → begins_gap (cond white (skip_gap false bytes) (cond comment (skip_gap true bytes) (byte ∷ bytes))) ≡ false
stops_by byte bytes true comment h k g i = g
stops_by byte bytes false true h k g i = i
stops_by byte bytes false false h k g i = or_false (is_white_space byte) (begins_comment byte bytes) h k

pub gap_stops : (inside : Bool) (text : List ℕ) → begins_gap (skip_gap inside text) ≡ false
gap_stops true [] = refl
gap_stops false [] = refl
gap_stops true (byte ∷ bytes) = gap_stops (not (is_line_feed byte)) bytes
gap_stops false (byte ∷ bytes) = stops_by byte bytes (is_white_space byte) (begins_comment byte bytes) refl refl
    (gap_stops false bytes) (gap_stops true bytes)

or_left : (a b : Bool) → (a || b) ≡ false → a ≡ false
or_left true b h = cc
or_left false b h = refl

or_right : (a b : Bool) → (a || b) ≡ false → b ≡ false
or_right true b h = cc
or_right false b h = h

nothing_skipped : (rest : List ℕ) → begins_gap rest ≡ false → skip_gap false rest ≡ rest
nothing_skipped [] h = refl
nothing_skipped (byte ∷ bytes) h =
    let white : is_white_space byte ≡ false = or_left _ _ h in
    let comment : begins_comment byte bytes ≡ false = or_right _ _ h in
    rw white (rw comment refl)

comment_more : (byte : ℕ) (gap rest : List ℕ) → (begins_comment byte gap && is_gap true false gap) ≡ true
    → begins_comment byte (gap ++ rest) ≡ true
comment_more byte [] rest h = absurd (not_true (is_gap true false []) (and_right (begins_comment byte []) _ h) refl)
comment_more byte (c ∷ gap) rest h = and_left _ _ h

skipped_by : (byte : ℕ) (gap rest : List ℕ) (white : Bool) → is_white_space byte ≡ white
    → cond white (is_gap false false gap) (begins_comment byte gap && is_gap true false gap) ≡ true
    → (is_gap false false gap ≡ true → skip_gap false (gap ++ rest) ≡ rest)
    → (is_gap true false gap ≡ true → skip_gap true (gap ++ rest) ≡ rest)
    → skip_gap false (byte ∷ (gap ++ rest)) ≡ rest
skipped_by byte gap rest true h g out inside = rw h (out g)
skipped_by byte gap rest false h g out inside =
    let more : begins_comment byte (gap ++ rest) ≡ true = comment_more byte gap rest g in
    rw h (rw more (inside (and_right _ _ g)))

-- white space and whole comments are skipped
pub gap_skipped : (inside : Bool) (gap rest : List ℕ) → is_gap inside false gap ≡ true → begins_gap rest ≡ false
    → skip_gap inside (gap ++ rest) ≡ rest
gap_skipped true [] rest h stop = cc
gap_skipped false [] rest h stop = nothing_skipped rest stop
gap_skipped true (byte ∷ gap) rest h stop = gap_skipped (not (is_line_feed byte)) gap rest h stop
gap_skipped false (byte ∷ gap) rest h stop = skipped_by byte gap rest (is_white_space byte) refl h
    (λ g. gap_skipped false gap rest g stop) (λ g. gap_skipped true gap rest g stop)

last_by : (byte : ℕ) (gap : List ℕ) (white : Bool) → is_white_space byte ≡ white → cond white (is_gap false true gap)
    (begins_comment byte gap && is_gap true true gap) ≡ true
    → (is_gap false true gap ≡ true → skip_gap false gap ≡ [])
    → (is_gap true true gap ≡ true → skip_gap true gap ≡ []) → skip_gap false (byte ∷ gap) ≡ []
last_by byte gap true h g out inside = rw h (out g)
last_by byte gap false h g out inside =
    let comment : begins_comment byte gap ≡ true = and_left _ _ g in
    rw h (rw comment (inside (and_right _ _ g)))

-- the last gap leave nothing
pub last_skipped : (inside : Bool) (gap : List ℕ) → is_gap inside true gap ≡ true → skip_gap inside gap ≡ []
last_skipped true [] h = refl
last_skipped false [] h = refl
last_skipped true (byte ∷ gap) h = last_skipped (not (is_line_feed byte)) gap h
last_skipped false (byte ∷ gap) h = last_by byte gap (is_white_space byte) refl h (λ g. last_skipped false gap g)
    (λ g. last_skipped true gap g)

-- what is skipped ends with an ASCII byte, or is nothing, or all
record EndsLow (text rest : List ℕ) : Type 0 where
  front : List ℕ
  byte : ℕ
  split : text ≡ front ++ (byte ∷ rest)
  low : byte < 128

abbrev HasEnd : Bool → List ℕ → List ℕ → Type 0
HasEnd inside text rest = (rest ≡ []) ⊎ (((inside ≡ false) × (rest ≡ text)) ⊎ EndsLow text rest)

more_front : (byte : ℕ) (text rest : List ℕ) → EndsLow text rest → EndsLow (byte ∷ text) rest
more_front byte text rest e =
    record { front = byte ∷ e.front; byte = e.byte; split = ap (λ (w : List ℕ). byte ∷ w) e.split; low = e.low }

end_more : (byte : ℕ) (state inside : Bool) (text rest : List ℕ) → (state ≡ false → byte < 128) → HasEnd state text rest
    → HasEnd inside (byte ∷ text) rest
end_more byte state inside text rest low (inl e) = inl e
end_more byte state inside text rest low (inr (inl e)) =
    inr (inr (record { front = []; byte = byte; split = ap (λ (w : List ℕ). byte ∷ w) (sym e.1); low = low e.0 }))
end_more byte state inside text rest low (inr (inr e)) = inr (inr (more_front byte text rest e))

feed_low : (byte : ℕ) → not (is_line_feed byte) ≡ false → byte < 128
feed_low byte h = grind (arith, nat_tests)

blank_low : (byte : ℕ) → is_white_space byte ≡ true → byte < 128
blank_low byte h = grind (arith, nat_tests)

end_by : (byte : ℕ) (bytes : List ℕ) (white comment : Bool) → is_white_space byte ≡ white
    → HasEnd false bytes (skip_gap false bytes) → HasEnd true bytes (skip_gap true bytes)
    → HasEnd false (byte ∷ bytes)
    (cond white (skip_gap false bytes) (cond comment (skip_gap true bytes) (byte ∷ bytes)))
end_by byte bytes true comment h g i = end_more byte false false bytes (skip_gap false bytes) (λ e. blank_low byte h)
    g
end_by byte bytes false true h g i = end_more byte true false bytes (skip_gap true bytes) (λ e. cc) i
end_by byte bytes false false h g i = inr (inl (refl, refl))

end_of : (inside : Bool) (text : List ℕ) → HasEnd inside text (skip_gap inside text)
end_of true [] = inl refl
end_of false [] = inl refl
end_of true (byte ∷ bytes) = end_more byte (not (is_line_feed byte)) true bytes
    (skip_gap (not (is_line_feed byte)) bytes) (feed_low byte) (end_of (not (is_line_feed byte)) bytes)
end_of false (byte ∷ bytes) = end_by byte bytes (is_white_space byte) (begins_comment byte bytes) refl
    (end_of false bytes)
    (end_of true bytes)

utf8_low : (text rest : List ℕ) → IsUtf8 text → EndsLow text rest → IsUtf8 rest
utf8_low text rest utf8 e =
    let at : get_or text (length e.front) 0 ≡ e.byte = ap (λ (w : List ℕ). get_or w (length e.front) 0) e.split
    ∙ get_or-append_seam e.front e.byte rest 0 in
    let long : length text ≡ length e.front + (1 + length rest) =
    ap (λ (w : List ℕ). length w) e.split ∙ (length-append e.front (e.byte ∷ rest) ∙ omega arith) in
    let dropped : drop (length e.front + 1) text ≡ rest =
    ap (drop (length e.front + 1)) e.split ∙ drop-append-add e.front (e.byte ∷ rest) 1 in
    let cut = IsUtf8-drop text (length e.front + 1) utf8 (IsCharBoundary-after_ascii text (length e.front) utf8
    (omega arith) (let low = e.low in omega arith)) in
    subst IsUtf8 dropped cut

utf8_by : (text rest : List ℕ) → IsUtf8 text → HasEnd false text rest → IsUtf8 rest
utf8_by text rest utf8 (inl e) = subst IsUtf8 (sym e) IsUtf8-nil
utf8_by text rest utf8 (inr (inl e)) = subst IsUtf8 (sym e.1) utf8
utf8_by text rest utf8 (inr (inr e)) = utf8_low text rest utf8 e

-- what follows a gap is UTF-8 where the text is
pub gap_utf8 : (text : List ℕ) → IsUtf8 text → IsUtf8 (skip_gap false text)
gap_utf8 text utf8 = utf8_by text (skip_gap false text) utf8 (end_of false text)
