-- On what the regions of ways hang.
use Rattle.std.specs.Prelude.{Bool, List}
use Rattle.std.specs.List.{list_any}
use Rattle.cat_guard.specs.declared.table.Table.{Table}
use Rattle.cat_search.specs.declared.way.Answer.{Answer}
use Rattle.cat_audit.specs.Hanging.{asks_derived}

-- one of some answers is to an atom of a derived term
abbrev pub hang_somewhere : Table → List Answer → Bool
hang_somewhere table way = list_any (asks_derived table) way
