-- Which headings stand over positions, as one piece more is passed.
use Rattle.std.proofs.Common.{◌≡◌, ◌<◌, ◌≤◌, ◌+◌, ◌∙◌, ℕ, zero, suc, nat_le, nat_eq, ◌&&◌, Bool, true, false, List, []}
use Rattle.std.proofs.Common.{◌∷◌, ◌++◌, length, take, drop, set, get_or, replicate, Option, Some, None, refl, sym, ap}
use Rattle.std.proofs.Common.{subst, arith}
use Rattle.std.specs.Prelude.{if◌then◌else◌}
use Rattle.std.specs.List.{prefix_len}
use Rattle.std.specs.Option.{option_or}
use Rattle.std.proofs.Math.Logic.{⊎_elim}
use Rattle.std.proofs.lemmas.Bool.{cases_eq}
use Rattle.std.proofs.lemmas.Bool.Decides.{nat_tests}
use Rattle.std.proofs.lemmas.List.{length-set, get_or-set_same, get_or-set_other, take_more, length-take-le}
use Rattle.std.proofs.lemmas.List.{length-replicate}
use Rattle.std.proofs.lemmas.List.Sums.{prefix_len-drop_yes, prefix_len-drop_no, prefix_len-drop_all}
use Rattle.std.proofs.lemmas.List.Sorted.{IsNonDecreasingBy-short}
use Rattle.cat_pos.specs.declared.limits.TheConstants.{MOST_FILES}
use Rattle.cat_pos.specs.declared.pos.Pos.{Pos}
use Rattle.cat_pos.specs.declared.pos.Piece.{Piece}
use Rattle.cat_pos.specs.Position.{pos_file}
use Rattle.cat_weave.specs.declared.segment.Heading.{Heading}
use Rattle.cat_trace.specs.declared.starts.Start.{Start}
use Rattle.cat_trace.specs.Over.{begins_by, headings_before, headings_in_front, is_in_front, number_if, piece_from}
use Rattle.cat_trace.specs.Over.{headings_over}
use Rattle.cat_trace.specs.inside.Starts.{AreStarts, Ascend, headings_at, starts_in, with_start, Puts}

-- ---- headings in front of a piece

pub in_front_yes : (n : ℕ) (hs : List Heading) (i : ℕ) (d : Heading) → i < length hs
    → nat_le (get_or hs i d).pieces n ≡ true
    → prefix_len (is_in_front n) (drop i hs) ≡ 1 + prefix_len (is_in_front n) (drop (i + 1) hs)
in_front_yes n hs i d inside passes = prefix_len-drop_yes (is_in_front n) hs i d inside passes

pub in_front_no : (n : ℕ) (hs : List Heading) (i : ℕ) (d : Heading) → i < length hs
    → nat_le (get_or hs i d).pieces n ≡ false → prefix_len (is_in_front n) (drop i hs) ≡ 0
in_front_no n hs i d inside fails = prefix_len-drop_no (is_in_front n) hs i d inside fails

pub in_front_none : (n : ℕ) (hs : List Heading) (i : ℕ) → length hs ≤ i
    → prefix_len (is_in_front n) (drop i hs) ≡ 0
in_front_none n hs i past = prefix_len-drop_all (is_in_front n) hs i past

pub ruleset counting = (in_front_yes, in_front_no, in_front_none)

-- what stands in front of a piece stands in front of the next one
pub counted_on : (n : ℕ) (hs : List Heading)
    → prefix_len (is_in_front n) hs + prefix_len (is_in_front (n + 1)) (drop (prefix_len (is_in_front n) hs) hs)
    ≡ prefix_len (is_in_front (n + 1)) hs
counted_on n [] = refl
counted_on n (h ∷ hs) = by (nat_le h.pieces n) refl (counted_on n hs)
  where
    by : (test : Bool) → nat_le h.pieces n ≡ test
        → prefix_len (is_in_front n) hs + prefix_len (is_in_front (n + 1)) (drop (prefix_len (is_in_front n) hs) hs)
        ≡ prefix_len (is_in_front (n + 1)) hs
        → prefix_len (is_in_front n) (h ∷ hs)
        + prefix_len (is_in_front (n + 1)) (drop (prefix_len (is_in_front n) (h ∷ hs)) (h ∷ hs))
        ≡ prefix_len (is_in_front (n + 1)) (h ∷ hs)
    by true passes rest =
        let too : nat_le h.pieces (n + 1) ≡ true = grind (arith, nat_tests) in
        let more : 1 + prefix_len (is_in_front n) hs ≡ suc (prefix_len (is_in_front n) hs) = omega arith in
        rw (passes, too, more) (omega (arith, rest))
    by false fails rest = rw fails (omega arith)

-- ---- the piece in which a position stands

or_none : (o : Option ℕ) → option_or o None ≡ o
or_none None = refl
or_none (Some n) = refl

or_assoc : (a b c : Option ℕ) → option_or (option_or a b) c ≡ option_or a (option_or b c)
or_assoc None b c = refl
or_assoc (Some n) b c = refl

pub piece_from-push : (pos : Pos) (n : ℕ) (xs : List Piece) (y : Piece)
    → piece_from pos n (xs ++ y ∷ []) ≡ option_or (number_if (n + length xs) (begins_by pos y)) (piece_from pos n xs)
unfolding piece_from
piece_from-push pos n [] y =
    let none : n ≡ n + 0 = omega arith in
    sym (or_none (number_if n (begins_by pos y)))
    ∙ ap (λ (m : ℕ). option_or (number_if m (begins_by pos y)) None) none
piece_from-push pos n (x ∷ xs) y =
    let count : n + 1 + length xs ≡ n + suc (length xs) = omega arith in
    ap (λ (o : Option ℕ). option_or o (number_if n (begins_by pos x)))
    (piece_from-push pos (n + 1) xs y
    ∙ ap (λ m. option_or (number_if m (begins_by pos y)) (piece_from pos (n + 1) xs)) count)
    ∙ or_assoc (number_if (n + suc (length xs)) (begins_by pos y)) (piece_from pos (n + 1) xs)
    (number_if n (begins_by pos x))

-- how many headings are over it, where one piece more stands behind
counts_more : (hs : List Heading) (n : ℕ) (test : Bool) (o : Option ℕ)
    → headings_in_front hs (option_or (number_if n test) o)
    ≡ (if test then headings_before hs n else headings_in_front hs o)
counts_more hs n true o = refl
counts_more hs n false o = refl

-- ---- the pieces of each file, as one more is passed

-- a piece with so many headings in front of it, as it is put to its file
abbrev pub start_with : Piece → ℕ → Start
start_with piece k = record { line = piece.pos.line; headings = k }

-- the same, of piece n
abbrev pub start_of : List Heading → ℕ → Piece → Start
start_of hs n piece = start_with piece (headings_before hs n)

module _ (hs : List Heading) (ps : List Piece) (n : ℕ) (p : Piece) (lists : List (List Start)) (new : List Start) where
  over_more : AreStarts hs (take n ps) lists → length (take n ps) ≡ n → pos_file p.pos < length lists
      → Puts (start_of hs n p) (starts_in lists (pos_file p.pos)) new
      → (pos : Pos) → headings_at pos.line (starts_in (set lists (pos_file p.pos) new) (pos_file pos))
      ≡ headings_over hs (take n ps ++ p ∷ []) pos
  over_more are long within put pos =
      let same : 0 + length (take n ps) ≡ n = omega (arith, long) in
      let read : headings_over hs (take n ps ++ p ∷ []) pos
      ≡ (if begins_by pos p then headings_before hs n else headings_over hs (take n ps) pos) =
      ap (headings_in_front hs) (piece_from-push pos 0 (take n ps) p
      ∙ ap (λ m. option_or (number_if m (begins_by pos p)) (piece_from pos 0 (take n ps))) same)
      ∙ counts_more hs n (begins_by pos p) (piece_from pos 0 (take n ps)) in
      ⊎_elim
      (λ here.
      let here_is : nat_eq (pos_file p.pos) (pos_file pos) ≡ true = grind (arith, nat_tests, here) in
      let there : starts_in (set lists (pos_file p.pos) new) (pos_file pos) ≡ new =
      subst (λ (f : ℕ). starts_in (set lists (pos_file p.pos) new) f ≡ new) here
      (get_or-set_same lists (pos_file p.pos) new [] within) in
      let before : headings_at pos.line (starts_in lists (pos_file p.pos)) ≡ headings_over hs (take n ps) pos =
      ap (λ f. headings_at pos.line (starts_in lists f)) here ∙ are.over pos in
      ap (headings_at pos.line) there ∙ (put pos.line
      ∙ (ap (with_start pos.line (start_of hs n p)) before
      ∙ sym (read ∙ ap (λ (b : Bool). if b && nat_le p.pos.line pos.line then headings_before hs n
      else headings_over hs (take n ps) pos) here_is))))
      (λ elsewhere.
      let other : nat_eq (pos_file p.pos) (pos_file pos) ≡ false = grind (arith, nat_tests, elsewhere) in
      let there : starts_in (set lists (pos_file p.pos) new) (pos_file pos) ≡ starts_in lists (pos_file pos) =
      get_or-set_other lists (pos_file p.pos) (pos_file pos) new [] (λ e. elsewhere (sym e)) in
      ap (headings_at pos.line) there ∙ (are.over pos
      ∙ sym (read ∙ ap (λ (b : Bool). if b && nat_le p.pos.line pos.line then headings_before hs n
      else headings_over hs (take n ps) pos) other)))
      (cases_eq (pos_file p.pos) (pos_file pos))

  ascends_more : AreStarts hs (take n ps) lists → pos_file p.pos < length lists → Ascend new
      → (f : ℕ) → Ascend (starts_in (set lists (pos_file p.pos) new) f)
  ascends_more are within up f =
      ⊎_elim
      (λ here. subst (λ (g : ℕ). Ascend (starts_in (set lists (pos_file p.pos) new) g)) here
      (subst Ascend (sym (get_or-set_same lists (pos_file p.pos) new [] within)) up))
      (λ elsewhere. subst Ascend
      (sym (get_or-set_other lists (pos_file p.pos) f new [] (λ e. elsewhere (sym e)))) (are.ascend f))
      (cases_eq (pos_file p.pos) f)

  pub one_more : (d : Piece) → n < length ps → p ≡ get_or ps n d → AreStarts hs (take n ps) lists
      → pos_file p.pos < length lists → Ascend new
      → Puts (start_of hs n p) (starts_in lists (pos_file p.pos)) new
      → AreStarts hs (take (n + 1) ps) (set lists (pos_file p.pos) new)
  one_more d inside is are within up put =
      let long : length (take n ps) ≡ n = length-take-le n ps (omega (arith, inside)) in
      let more : take (n + 1) ps ≡ take n ps ++ p ∷ [] =
      take_more ps n d inside ∙ ap (λ (x : Piece). take n ps ++ x ∷ []) (sym is) in
      subst (λ (qs : List Piece). AreStarts hs qs (set lists (pos_file p.pos) new)) (sym more)
      (record {
        files = length-set lists (pos_file p.pos) new ∙ are.files;
        ascend = ascends_more are within up;
        over = over_more are long within put;
      })

-- no piece is passed yet
none_at : (count f : ℕ) → starts_in (replicate count []) f ≡ []
none_at zero f = refl
none_at (suc count) zero = refl
none_at (suc count) (suc f) = none_at count f

pub none_yet : (hs : List Heading) (lists : List (List Start)) → lists ≡ replicate MOST_FILES [] → AreStarts hs [] lists
unfolding piece_from
none_yet hs lists is = let empty : List Start = [] in record {
  files = ap (λ (ls : List (List Start)). length ls) is ∙ length-replicate MOST_FILES empty;
  ascend = λ f. subst Ascend (sym (ap (λ (ls : List (List Start)). starts_in ls f) is ∙ none_at MOST_FILES f))
      (IsNonDecreasingBy-short (λ (s : Start). s.line) [] (omega arith));
  over = λ pos. ap (headings_at pos.line)
      (ap (λ (ls : List (List Start)). starts_in ls (pos_file pos)) is ∙ none_at MOST_FILES (pos_file pos));
}

-- what is counted in front of a piece goes on at the next one
pub counted_next : (n before : ℕ) (hs : List Heading) → before ≡ headings_before hs n
    → before + prefix_len (is_in_front (n + 1)) (drop before hs) ≡ headings_before hs (n + 1)
unfolding headings_before
counted_next n before hs is =
    subst (λ (k : ℕ). k + prefix_len (is_in_front (n + 1)) (drop k hs) ≡ prefix_len (is_in_front (n + 1)) hs) (sym is)
    (counted_on n hs)

pub counted_first : (hs : List Heading) → 0 + prefix_len (is_in_front 0) (drop 0 hs) ≡ headings_before hs 0
unfolding headings_before
counted_first hs = omega arith

pub ruleset passing = (none_yet, counted_next, counted_first)
