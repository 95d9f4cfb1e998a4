-- What programs are limited to.
use Rattle.std.specs.Prelude.{ℕ}

-- the items of a scope
abbrev pub most_items : ℕ
most_items = 4096

-- the definitions and rules of a program
abbrev pub most_definitions : ℕ
most_definitions = 65536

-- the parameters of a function
abbrev pub most_parameters : ℕ
most_parameters = 8
