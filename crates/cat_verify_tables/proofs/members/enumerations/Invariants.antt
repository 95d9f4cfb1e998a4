use Rattle.std.proofs.Common.{◌≡◌, ◌+◌, [], take}
use Rattle.cat_verify_tables.specs.inside.Causes.{lines_in}
use Rattle.cat_verify_tables.specs.inside.NamedWords.{case_count}
use Rattle.cat_verify_tables.specs.inside.Entries.{AreTold}
use Rattle.cat_verify_tables.specs.inside.PartWords.{IsEnumerationOf}
use Rattle.cat_verify_tables.proofs.members.enumerations.Given as goal

abbrev pub invariant-loop-line : goal.invariant-loop-line
invariant-loop-line l = record {
  number : l.number ≡ l.first + lines_in case_count (take l.line-index l.lines);
  told : AreTold (λ _. IsEnumerationOf l.types) [] (take l.line-index l.lines) l.enumerations;
}
