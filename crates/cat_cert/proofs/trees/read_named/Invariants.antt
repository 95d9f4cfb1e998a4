use Rattle.std.proofs.Common.{◌≡◌, ◌-◌, List, length}
use Rattle.cat_guard.specs.declared.table.TableTarget.{TableTarget}
use Rattle.cat_cert.specs.declared.certificate.CertTree.{CertTree}
use Rattle.cat_cert.specs.declared.certificate.Version.TheVariants as version
use Rattle.cat_cert.specs.Lines.{Due}
use Rattle.cat_cert.specs.inside.Atoms.{HasAtoms}
use Rattle.cat_cert.specs.inside.States.{AtList}
use Rattle.cat_cert.specs.inside.Steps.{at_tree}
use Rattle.cat_cert.specs.inside.Outcomes.{IsWithin, ending}
use Rattle.cat_cert.proofs.trees.read_named.Given as goal

abbrev pub invariant-loop-line : goal.invariant-loop-line
invariant-loop-line l = record {
  within : IsWithin l.bytes l.place;
  read : (t : TableTarget) (dues : List Due) (trees : List CertTree) → HasAtoms l.atoms t
      → ending (at_tree version.Two t dues trees l.fn.place.line) l.bytes l.fn.place
      ≡ ending (AtList (record {
        target = t;
        dues = dues;
        trees = trees;
        names = l.names;
        named = l.named;
        heads = l.heads;
      })) l.bytes l.place;
}

abbrev pub decreases-loop-line : goal.decreases-loop-line
decreases-loop-line l = length l.bytes - l.place.at
