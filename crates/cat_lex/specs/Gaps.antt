-- Gaps: white space and comments, which stand between tokens.
use Rattle.std.specs.Prelude.{◌≡◌, ℕ, Bool, true, false, not, ◌&&◌, ◌||◌, ◌==◌, if◌then◌else◌, List, [], ◌∷◌}
use Rattle.cat_pos.specs.Position.{is_line_feed}

-- white space is space, tab, carriage return and line feed
abbrev pub is_white_space : ℕ → Bool
is_white_space byte = byte == 32 || byte == 9 || byte == 13 || byte == 10

-- a bracket comes first
abbrev pub is_bracket_first : List ℕ → Bool
is_bracket_first [] = false
is_bracket_first (byte ∷ bytes) = byte == 91

-- a `#` begins a comment unless a bracket follows it
abbrev pub begins_comment : ℕ → List ℕ → Bool
begins_comment byte bytes = byte == 35 && not (is_bracket_first bytes)

-- White space and comments alone: `inside` tells that they begin inside a comment, `ending` that they may end inside
-- one. A
-- line feed ends a comment.
abbrev pub is_gap : Bool → Bool → List ℕ → Bool
is_gap inside ending [] = not inside || ending
is_gap true ending (byte ∷ bytes) = is_gap (not (is_line_feed byte)) ending bytes
is_gap false ending (byte ∷ bytes) = if is_white_space byte then is_gap false ending bytes else
    (begins_comment byte bytes && is_gap true ending bytes)

-- white space and whole comments; at the end of a piece, its last line may be a comment
abbrev pub IsGap : List ℕ → Type 0
IsGap text = is_gap false false text ≡ true

-- white space and comments up to the end of the text, the last comment without a line feed perhaps
abbrev pub IsLastGap : List ℕ → Type 0
IsLastGap text = is_gap false true text ≡ true

-- white space or a comment comes first
abbrev pub begins_gap : List ℕ → Bool
begins_gap [] = false
begins_gap (byte ∷ bytes) = is_white_space byte || begins_comment byte bytes
