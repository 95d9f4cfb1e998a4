use Rattle.cat_cert.proofs.OverLemmas.{certified_stays}
use Rattle.cat_cert.proofs.laws.certified_texts_are_not_refused.Goals as goal

pub returns : goal.returns
returns c = λ tables bytes why few short is cause.
    certified_stays c.read_texts_are_not_refused.ensures c.texts_are_read_in_one_way.ensures tables bytes why
    few short is cause
