-- What shelves and sinks in memory answer, and what is kept of it.
use Rattle.std.specs.Prelude.{ℕ, ◌-◌, nat_le, List, [], ◌∷◌, ◌++◌, length, map, Option, Some, None, Result, Ok, Err}
use Rattle.std.specs.Prelude.{String, Vec, string_bytes, bytes_eq, if◌then◌else◌}
use Rattle.std.specs.Option.{option_map}
use Rattle.std.specs.declared.alloc.Global.{Global}
use Rattle.cat_io.specs.Count.{next_count}
use Rattle.cat_io.specs.Shelf.{Shelved}
use Rattle.cat_io.specs.Sink.{Sunk}
use Rattle.cat_io.specs.declared.shelf.ShelfFault.{ShelfFault}
use Rattle.cat_io.specs.declared.shelf.ShelfFault.TheVariants.{Missing, Failed, Long, Memory}
use Rattle.cat_io.specs.declared.sink.SinkFault.{SinkFault}

-- the content under a name: that of its first entry
abbrev pub content_of : List (String Global × Vec ℕ Global) → List ℕ → Option (List ℕ)
content_of [] name = None
content_of (file ∷ files) name =
    if bytes_eq (string_bytes file.0) name then Some file.1.items else content_of files name

-- the texts of a list of names
abbrev pub texts_of : List (String Global) → List (List ℕ)
texts_of names = map string_bytes names

-- the answer to a read that doesn't fail, while memory lasts
abbrev pub answer_of : Option (List ℕ) → ℕ → Result (Unit {0}) ShelfFault
answer_of None limit = Err Missing
answer_of (Some content) limit = if nat_le (length content) limit then Ok tt else Err Long

-- a shelf after a read that was answered so: a refused name stands at the end of one list
abbrev pub after_read : Shelved → List ℕ → Result (Unit {0}) ShelfFault → Shelved
after_read shelf name (Ok _) = shelf
after_read shelf name (Err Missing) = record shelf { misses = shelf.misses ++ name ∷ [] }
after_read shelf name (Err Failed) = record shelf { faults = shelf.faults ++ name ∷ [] }
after_read shelf name (Err Long) = record shelf { longs = shelf.longs ++ name ∷ [] }
after_read shelf name (Err Memory) = shelf

-- a sink after a put that was answered so: it takes the whole piece, or counts a fault
abbrev pub after_put : Sunk → List ℕ → Result (Unit {0}) SinkFault → Sunk
after_put sink piece (Ok _) = record sink {
  taken = option_map (λ taken. taken ++ piece) sink.taken;
  room = option_map (λ room. room - length piece) sink.room;
}
after_put sink piece (Err _) = record sink { faults = next_count sink.faults }
