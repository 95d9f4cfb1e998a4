-- What is packed into a position is read back.
use Rattle.std.proofs.Common.{◌≡◌, ◌<◌, ℕ, arith}
use Rattle.cat_pos.specs.declared.limits.TheConstants.{MOST_FILES}
use Rattle.cat_pos.specs.Position.{pos_of, pos_file, pos_column}

pub file_kept : (file line column : ℕ) → file < MOST_FILES → pos_file (pos_of file line column) ≡ file
file_kept file line column below = omega arith

pub column_kept : (file line column : ℕ) → file < MOST_FILES → pos_column (pos_of file line column) ≡ column
column_kept file line column below = omega arith
