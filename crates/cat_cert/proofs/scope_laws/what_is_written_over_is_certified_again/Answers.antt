use Rattle.cat_cert.proofs.NameLemmas.{certified_again}
use Rattle.cat_cert.proofs.scope_laws.what_is_written_over_is_certified_again.Goals as goal

pub returns : goal.returns
returns c scope bytes text named is =
    certified_again c.args.program.now named c.what_is_written_over_is_read_again.ensures scope bytes text is
