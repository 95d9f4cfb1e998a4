-- Numbers of which the least is looked for.
use Rattle.std.specs.Prelude.{ℕ, min, Option, None, Some}

-- the lesser of two numbers, of which the first may be missing
abbrev pub lesser : Option ℕ → ℕ → Option ℕ
lesser None n = Some n
lesser (Some m) n = Some (min m n)

-- the lesser of two numbers, which both may be missing
abbrev pub lesser_of : Option ℕ → Option ℕ → Option ℕ
lesser_of least None = least
lesser_of least (Some n) = lesser least n
