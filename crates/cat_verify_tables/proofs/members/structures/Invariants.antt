use Rattle.std.proofs.Common.{◌≡◌, ◌+◌, [], take}
use Rattle.cat_verify_tables.specs.inside.Causes.{lines_in}
use Rattle.cat_verify_tables.specs.inside.NamedWords.{field_count}
use Rattle.cat_verify_tables.specs.inside.Entries.{AreTold}
use Rattle.cat_verify_tables.specs.inside.PartWords.{IsStructureOf}
use Rattle.cat_verify_tables.proofs.members.structures.Given as goal

abbrev pub invariant-loop-line : goal.invariant-loop-line
invariant-loop-line l = record {
  number : l.number ≡ l.first + lines_in field_count (take l.line-index l.lines);
  told : AreTold (λ _. IsStructureOf l.types) [] (take l.line-index l.lines) l.structures;
}
