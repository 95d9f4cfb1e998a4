-- For each instruction whether it is one of some places.
use Rattle.std.specs.Prelude.{ℕ, ◌-◌, ◌||◌, true, false, Bool, List, [], ◌∷◌, length, replicate, slice_set}
use Rattle.std.specs.Prelude.{slice_index_or}
use Rattle.cat_code.specs.declared.instr.Instr.{Instr}
use Rattle.cat_code.specs.declared.code.Tables.{Tables}
use Rattle.cat_code.specs.Valid.{places_entered}

-- the marks with those of some places
abbrev pub marked : List Bool → List ℕ → List Bool
marked marks [] = marks
marked marks (place ∷ places) = marked (slice_set marks place true) places

-- whether a place or one of the three in front of it is marked
abbrev pub is_led_into : List Bool → ℕ → Bool
is_led_into marks p = slice_index_or marks p false || slice_index_or marks (p - 1) false
    || slice_index_or marks (p - 2) false || slice_index_or marks (p - 3) false

-- for each instruction whether it is jumped to or entered
abbrev pub entered_in : Tables → List Instr → List Bool
entered_in tables code = marked (replicate (length code) false) (places_entered tables code)
