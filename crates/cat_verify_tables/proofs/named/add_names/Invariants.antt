use Rattle.std.proofs.Common.{◌≡◌, ◌+◌, ◌++◌, [], map, take}
use Rattle.cat_verify_tables.specs.inside.Causes.{lines_in}
use Rattle.cat_verify_tables.specs.inside.Entries.{AreRight}
use Rattle.cat_verify_tables.specs.inside.NamedWords.{IsWrongHeader, names_in, numbered}
use Rattle.cat_verify_tables.proofs.named.add_names.Given as goal

abbrev pub invariant-loop-at : goal.invariant-loop-at
invariant-loop-at g l = record {
  names : l.names ≡ l.fn.names ++ numbered l.from (map g.T.Headed.name_of (take l.at l.entries));
  line : l.line ≡ l.first + lines_in g.T.Headed.parts_of (take l.at l.entries);
  right : AreRight (IsWrongHeader g.T.Headed.name_of (names_in l.fn.names)) [] (take l.at l.entries);
}
