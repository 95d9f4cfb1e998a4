use Rattle.cat_cert.proofs.RefusalLaws.{read_not_refused}
use Rattle.cat_cert.proofs.text_laws.read_texts_are_not_refused.Goals as goal

pub returns : goal.returns
returns c = λ tables bytes read why is refused. read_not_refused tables bytes read why is refused
