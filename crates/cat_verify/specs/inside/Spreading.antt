-- A step in which a stamp comes to a place, and goes on from there.
use Rattle.std.specs.Prelude.{ℕ, ◌+◌, nat_eq, if◌then◌else◌, List, [], ◌∷◌, ◌++◌, map, Option, Some, None}
use Rattle.std.specs.Prelude.{slice_get, slice_set, slice_index_or, option_to_list}
use Rattle.cat_code.specs.declared.instr.Instr.{Instr}
use Rattle.cat_code.specs.declared.instr.Instr.TheVariants as instr
use Rattle.cat_code.specs.Jumps.{jump_of, with_jump}
use Rattle.cat_verify_shapes.specs.Belonging.{goes_on, leads_on}
use Rattle.cat_verify.specs.declared.stamps.Arrival.{Arrival}
use Rattle.cat_verify.specs.declared.stamps.Stamps.{Stamps}
use Rattle.cat_verify.specs.declared.stamps.Stamps.TheVariants.{Nobody, One, Two}

-- the marks of the instructions, and where stamps wait to come to
pub record State : Type 0 where
  pub marks : List Stamps
  pub waiting : List Arrival

-- what tells more with a stamp, where anything does
abbrev pub with_stamp : Stamps → ℕ → Option Stamps
with_stamp Nobody stamp = Some (One stamp)
with_stamp (One a) stamp = if nat_eq a stamp then None else Some (Two a stamp)
with_stamp (Two a b) stamp = None

-- the place behind an instruction, where it goes on there
abbrev pub to_next : Instr → ℕ → List ℕ
to_next i p = if goes_on i then (p + 1) ∷ [] else []

-- the place to which it jumps
abbrev pub by_jump : Instr → List ℕ
by_jump i = with_jump (jump_of i) []

-- a stamp on its way to a place
abbrev pub to_each : ℕ → ℕ → Arrival
to_each stamp p = record { place = p; stamp = stamp }

-- the stamp of the function that an instruction calls, on its way to where that begins
abbrev pub by_call : List Arrival → Instr → List Arrival
by_call calls (instr.Call f n) = option_to_list (slice_get calls f)
by_call calls _ = []

-- what is new at a place is marked there, and waits to come to what its instruction leads to and calls
abbrev pub spread_by : List Arrival → Instr → Arrival → State → Option Stamps → State
spread_by calls i arrival s None = s
spread_by calls i arrival s (Some stamps) = record {
  marks = slice_set s.marks arrival.place stamps;
  waiting = (s.waiting ++ map (to_each arrival.stamp) (leads_on i arrival.place)) ++ by_call calls i;
}

-- the same, where there is an instruction
abbrev pub spread_at : List Arrival → Arrival → State → Option Instr → State
spread_at calls arrival s None = s
spread_at calls arrival s (Some i) =
    spread_by calls i arrival s (with_stamp (slice_index_or s.marks arrival.place Nobody) arrival.stamp)

-- a stamp comes to a place
abbrev pub spread : List Instr → List Arrival → Arrival → State → State
spread code calls arrival s = spread_at calls arrival s (slice_get code arrival.place)
