-- Which pieces of source can be read as tokens.
use Rattle.std.specs.Prelude.{◌≤◌, List, length, All}
use Rattle.cat_pos.specs.declared.limits.TheConstants.{LAST_LINE}
use Rattle.cat_pos.specs.Limits.{most_file_bytes}
use Rattle.cat_pos.specs.Position.{pos_column}
use Rattle.cat_pos.specs.declared.pos.Piece.{Piece}

-- a piece of no more bytes than a file, whose line and column are within the last line
pub record IsReadable (piece : Piece) : Type 0 where
  pub size : length piece.text ≤ most_file_bytes
  pub line : piece.pos.line ≤ LAST_LINE
  pub column : pos_column piece.pos ≤ LAST_LINE

-- pieces that can be read
abbrev pub AreReadable : List Piece → Type 0
AreReadable pieces = All (λ piece. IsReadable piece) pieces
