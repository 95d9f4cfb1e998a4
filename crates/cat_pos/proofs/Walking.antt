-- Line and column after one byte more.
use Rattle.std.proofs.Common.{◌≡◌, ◌<◌, ℕ, ◌+◌, ◌-◌, Bool, true, false, List, [], length, take, get_or, refl, ap}
use Rattle.std.proofs.Common.{arith, length-drop}
use Rattle.std.specs.Prelude.{not}
use Rattle.std.specs.List.{suffix_len}
use Rattle.std.proofs.lemmas.List.Sums.{count_by_more_yes, count_by_more_no, suffix_len-le-length, suffix_len-take_no}
use Rattle.std.proofs.lemmas.List.Sums.{suffix_len-take_yes}
use Rattle.cat_pos.specs.Position.{is_line_feed, line_of, column_of}

abbrev is_other : ℕ → Bool
is_other byte = not (is_line_feed byte)

column_of_suffix : (front : List ℕ) → column_of front ≡ 1 + suffix_len is_other front
unfolding column_of
column_of_suffix front =
    omega (arith, length-drop (length front - suffix_len is_other front) front, suffix_len-le-length is_other front)

pub line_of_none : line_of [] ≡ 1
unfolding line_of
line_of_none = refl

pub column_of_none : column_of [] ≡ 1
unfolding column_of
column_of_none = refl

pub line_of_feed : (text : List ℕ) (n : ℕ) → n < length text → is_line_feed (get_or text n 0) ≡ true →
    line_of (take (n + 1) text) ≡ line_of (take n text) + 1
unfolding line_of
line_of_feed text n below feed = omega (arith, count_by_more_yes is_line_feed text n 0 below feed)

pub line_of_other : (text : List ℕ) (n : ℕ) → n < length text → is_line_feed (get_or text n 0) ≡ false →
    line_of (take (n + 1) text) ≡ line_of (take n text)
unfolding line_of
line_of_other text n below other = omega (arith, count_by_more_no is_line_feed text n 0 below other)

pub column_of_feed : (text : List ℕ) (n : ℕ) → n < length text → is_line_feed (get_or text n 0) ≡ true →
    column_of (take (n + 1) text) ≡ 1
column_of_feed text n below feed =
    let same : (n + 1) - 1 ≡ n = omega arith in
    let stops : is_other (get_or text ((n + 1) - 1) 0) ≡ false = rw same (ap not feed) in
    let none = suffix_len-take_no is_other text (n + 1) 0 (omega arith) (omega arith) stops in
    omega (arith, column_of_suffix (take (n + 1) text), none)

pub column_of_other : (text : List ℕ) (n : ℕ) → n < length text → is_line_feed (get_or text n 0) ≡ false →
    column_of (take (n + 1) text) ≡ column_of (take n text) + 1
column_of_other text n below other =
    let same : (n + 1) - 1 ≡ n = omega arith in
    let goes_on : is_other (get_or text ((n + 1) - 1) 0) ≡ true = rw same (ap not other) in
    let more = rw same at (suffix_len-take_yes is_other text (n + 1) 0 (omega arith) (omega arith) goes_on) in
    omega (arith, column_of_suffix (take (n + 1) text), column_of_suffix (take n text), more)

-- what one byte more does to line and column
pub ruleset walking = (line_of_none, column_of_none, line_of_feed, line_of_other, column_of_feed, column_of_other)
