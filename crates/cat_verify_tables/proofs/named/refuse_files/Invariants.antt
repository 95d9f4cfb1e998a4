use Rattle.std.proofs.Common.{◌≡◌, [], take}
use Rattle.cat_verify_tables.specs.inside.Entries.{AreRight}
use Rattle.cat_verify_tables.specs.inside.NamedWords.{IsFileTwice, names_in}
use Rattle.cat_verify_tables.proofs.named.refuse_files.Given as goal

abbrev pub invariant-loop-at : goal.invariant-loop-at
invariant-loop-at l = record {
  names : names_in l.names ≡ take l.at l.files;
  right : AreRight IsFileTwice [] (take l.at l.files);
}
