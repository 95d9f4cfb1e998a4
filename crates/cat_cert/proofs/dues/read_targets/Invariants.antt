use Rattle.std.proofs.Common.{◌≡◌, ◌++◌, List, drop, map}
use Rattle.cat_cert.specs.Lines.{Due, TargetDue}
use Rattle.cat_cert.specs.inside.States.{AtDue}
use Rattle.cat_cert.specs.inside.Outcomes.{IsWithin, ending}
use Rattle.cat_cert.proofs.dues.read_targets.Given as goal

abbrev pub invariant-loop-target : goal.invariant-loop-target
invariant-loop-target l = record {
  within : IsWithin l.bytes l.place;
  read : (dues : List Due)
      → ending (AtDue l.version (map TargetDue l.targets ++ dues) l.fn.trees) l.bytes l.fn.place
      ≡ ending (AtDue l.version (map TargetDue (drop l.target-index l.targets) ++ dues) l.trees) l.bytes l.place;
}
