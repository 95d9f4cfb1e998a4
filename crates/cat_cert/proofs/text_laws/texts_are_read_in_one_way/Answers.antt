use Rattle.cat_cert.proofs.OnceLemmas.{read_once}
use Rattle.cat_cert.proofs.text_laws.texts_are_read_in_one_way.Goals as goal

pub returns : goal.returns
returns c = λ tables bytes one other few short first second. read_once tables bytes one other few short first second
