use Rattle.std.proofs.Common.{◌≡◌, ◌-◌, ◌≤◌, [], Bool, length}
use Rattle.cat_cert.specs.declared.certificate.Version.{Version}
use Rattle.cat_cert.specs.inside.Atoms.{HasAtoms}
use Rattle.cat_cert.specs.inside.States.{Growing, AtNode}
use Rattle.cat_cert.specs.inside.Outcomes.{IsWithin, ending}
use Rattle.cat_cert.proofs.nodes.read_nodes.Given as goal

abbrev pub invariant-loop-line : goal.invariant-loop-line
invariant-loop-line l = record {
  within : IsWithin l.bytes l.place;
  later : l.fn.place.at ≤ l.place.at;
  few : l.pending ≤ length l.nodes;
  read : (v : Version) (main : Bool) (p : Growing) → HasAtoms l.atoms p.target → l.named ≡ p.named
      → ending (AtNode v main p [] 0 0) l.bytes l.fn.place
      ≡ ending (AtNode v main p l.nodes l.pending l.count) l.bytes l.place;
}

abbrev pub decreases-loop-line : goal.decreases-loop-line
decreases-loop-line l = length l.bytes - l.place.at
