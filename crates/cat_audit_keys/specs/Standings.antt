-- In which definitions an expression stands, by its function and how many parameters that has.
use Rattle.std.specs.Prelude.{ℕ}
use Rattle.cat_scope.specs.Same.{Standing}

-- what stands in a function of that number with that many parameters
abbrev pub standing : ℕ → ℕ → Standing
standing function params = record { function = function; params = params }
