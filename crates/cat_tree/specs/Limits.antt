-- What expressions are limited to.
use Rattle.std.specs.Prelude.{ℕ}

-- the height of an expression, parentheses counted
abbrev pub most_height : ℕ
most_height = 256
