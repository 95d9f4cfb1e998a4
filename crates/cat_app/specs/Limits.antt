-- What a drill is limited to.
use Rattle.std.specs.Prelude.{ℕ}

-- the bands of a drill
abbrev pub most_bands : ℕ
most_bands = 1000

-- the runs of a drill
abbrev pub runs : ℕ
runs = 1000
