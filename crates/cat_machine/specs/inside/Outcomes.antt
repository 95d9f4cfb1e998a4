-- The definitions of a conflict, by their numbers.
use Rattle.std.specs.Prelude.{ℕ, suc, ◌<◌, nat_lt, List, [], ◌∷◌, length, slice_get, if◌then◌else◌}
use Rattle.cat_pos.specs.declared.pos.Pos.{Pos}
use Rattle.cat_code.specs.declared.code.Tables.{Tables}
use Rattle.cat_machine.specs.declared.machine.HeldRef.{HeldRef}
use Rattle.cat_machine.specs.States.{position_or}

-- each is a definition of the tables
abbrev pub AreDefinitions : Tables → List HeldRef → Type 0
AreDefinitions tables [] = Unit {0}
AreDefinitions tables (h ∷ hs) = (h.definition < length tables.definitions) × AreDefinitions tables hs

-- how many stand in front of the first of a higher number
abbrev pub place_among : HeldRef → List HeldRef → ℕ
place_among h [] = 0
place_among h (i ∷ is) = if nat_lt h.definition i.definition then 0 else suc (place_among h is)

-- put behind those of lower numbers
abbrev pub put_ref : HeldRef → List HeldRef → List HeldRef
put_ref h [] = h ∷ []
put_ref h (i ∷ is) = if nat_lt h.definition i.definition then h ∷ i ∷ is else i ∷ put_ref h is

-- by their numbers, the lowest first
abbrev pub by_number : List HeldRef → List HeldRef
by_number [] = []
by_number (h ∷ hs) = put_ref h (by_number hs)

-- where a definition stands
abbrev pub position_of : Tables → HeldRef → Pos
position_of tables h = position_or (slice_get tables.definitions h.definition)
