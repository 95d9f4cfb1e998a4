use Rattle.cat_cert.proofs.ScopeLemmas.{not_refused}
use Rattle.cat_cert.proofs.scope_laws.certified_scopes_are_not_refused.Goals as goal

pub returns : goal.returns
returns c scope bytes why short is cause =
    not_refused c.args.program.now scope c.certified_texts_are_not_refused.ensures bytes short is why cause
