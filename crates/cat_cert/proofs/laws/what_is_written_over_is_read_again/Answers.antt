use Rattle.cat_cert.proofs.OverLemmas.{certified_again}
use Rattle.cat_cert.proofs.laws.what_is_written_over_is_read_again.Goals as goal

pub returns : goal.returns
returns c = λ tables bytes read named is.
    certified_again c.cited_trees_are_whole.ensures.whole c.trees_split_as_they_are_written.ensures
    c.read_trees_are_those_of_targets.ensures c.shared_trees_are_certificates.ensures.certificate
    c.shared_trees_are_certificates.ensures.stand c.written_certificates_are_read.ensures tables bytes read named is
