use Rattle.std.proofs.Common.{◌≡◌, [], take}
use Rattle.cat_verify_tables.specs.inside.Entries.{AreTold}
use Rattle.cat_verify_tables.specs.inside.NamedWords.{names_in}
use Rattle.cat_verify_tables.specs.inside.PartWords.{IsFieldOf, field_names}
use Rattle.cat_verify_tables.proofs.members.fields.Given as goal

abbrev pub invariant-loop-at : goal.invariant-loop-at
invariant-loop-at l = record {
  names : names_in l.names ≡ field_names (take l.at l.lines);
  told : AreTold (λ front. IsFieldOf l.types (field_names front)) [] (take l.at l.lines) l.fields;
}
