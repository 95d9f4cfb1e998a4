-- Positions that a source of a program may have.
use Rattle.std.specs.Prelude.{◌≡◌, ℕ, nat_lt, ◌&&◌, Bool, true, false}
use Rattle.cat_pos.specs.declared.pos.Pos.{Pos}
use Rattle.cat_pos.specs.Limits.{most_files, most_input_bytes}
use Rattle.cat_image.specs.declared.tables.ImagePos.{ImagePos}
use Rattle.cat_image.specs.Listed.{pos_words}

-- whether a position is in one of so many files, where a source of a program may have it
abbrev pub is_found : ℕ → ImagePos → Bool
is_found files p = nat_lt p.file files && nat_lt p.file most_files && nat_lt p.column most_input_bytes

-- a position that a line tells, in one of so many files
pub record IsPosOf (files : ℕ) (line : ImagePos) (pos : Pos) : Type 0 where
  pub words : pos_words pos ≡ line
  pub found : is_found files line ≡ true

abbrev pub IsPosLost : ℕ → ImagePos → Type 0
IsPosLost files line = is_found files line ≡ false
