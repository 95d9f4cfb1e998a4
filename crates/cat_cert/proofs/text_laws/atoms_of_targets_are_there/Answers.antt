use Rattle.cat_cert.proofs.AtomLemmas.{atoms_below}
use Rattle.cat_cert.proofs.text_laws.atoms_of_targets_are_there.Goals as goal

pub returns : goal.returns
returns c = λ table. atoms_below table
