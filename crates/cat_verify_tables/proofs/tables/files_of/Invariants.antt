use Rattle.std.proofs.Common.{◌≡◌, take}
use Rattle.cat_verify_tables.proofs.tables.files_of.Given as goal

abbrev pub invariant-loop-name : goal.invariant-loop-name
invariant-loop-name l = l.files ≡ take l.name-index l.names
