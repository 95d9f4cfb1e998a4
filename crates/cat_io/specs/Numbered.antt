-- Calls by their numbers, from 1.
use Rattle.std.specs.Prelude.{ℕ, ◌==◌, Bool, List}
use Rattle.std.specs.List.{list_any}
use Rattle.cat_io.specs.Count.{next_count}
use Rattle.cat_io.specs.declared.calls.Calls.{Calls}

-- the number of the last call, and the numbers of those that fail
pub record Numbered : Type 0 where
  pub made : ℕ
  pub failing : List ℕ

-- the calls of a device, with the numbers of those that fail as a list
abbrev pub numbered : Calls → Numbered
numbered calls = record { made = calls.made; failing = calls.failing.items }

-- after one call more
abbrev pub after_call : Numbered → Numbered
after_call calls = record calls { made = next_count calls.made }

-- whether the next call's number is listed
abbrev pub fails_next : Numbered → Bool
fails_next calls = list_any (λ number. number == next_count calls.made) calls.failing
