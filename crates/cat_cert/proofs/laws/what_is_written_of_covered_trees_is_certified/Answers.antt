use Rattle.cat_cert.proofs.OverLemmas.{certified_of}
use Rattle.cat_cert.proofs.laws.what_is_written_of_covered_trees_is_certified.Goals as goal

pub returns : goal.returns
returns c = λ tables found named are covered.
    certified_of c.shared_trees_are_certificates.ensures.certificate c.shared_trees_are_certificates.ensures.stand
    c.written_certificates_are_read.ensures tables found named are covered
