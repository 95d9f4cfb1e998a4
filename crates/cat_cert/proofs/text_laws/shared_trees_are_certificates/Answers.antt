use Rattle.cat_cert.specs.Lines.{dues_of}
use Rattle.cat_cert.proofs.SharedLemmas.{shared_certificate, found_again}
use Rattle.cat_cert.proofs.text_laws.shared_trees_are_certificates.Goals as goal

pub returns : goal.returns
returns c = record {
  certificate = λ tables found are.
      shared_certificate c.named_parts_are_subtrees.ensures c.shared_trees_stand_for_the_tree.ensures tables found are;
  stand = λ tables found are. found_again c.shared_trees_stand_for_the_tree.ensures (dues_of tables) found are;
}
