use Rattle.std.proofs.Common.{◌≡◌, [], drop}
use Rattle.cat_cert.specs.Lines.{dues_of}
use Rattle.cat_cert.specs.inside.States.{AtDue}
use Rattle.cat_cert.specs.inside.Outcomes.{IsWithin, ending}
use Rattle.cat_cert.proofs.dues.read_tables.Given as goal

abbrev pub invariant-loop-table : goal.invariant-loop-table
invariant-loop-table l = record {
  within : IsWithin l.bytes l.place;
  read : ending (AtDue l.version (dues_of l.tables) []) l.bytes l.fn.place
      ≡ ending (AtDue l.version (dues_of (drop l.table-index l.tables)) l.trees) l.bytes l.place;
}
