use Rattle.std.proofs.Common.{◌∙◌, sym}
use Rattle.cat_date.proofs.TextLemmas.{form_is, form_length}
use Rattle.cat_date.proofs.text.has_date_form.Goals as goal

pub returns-clause-length : goal.returns-clause-length
returns-clause-length c is = form_length c.args.text.now (form_is c.args.text.now (sym c.has_form.ensures ∙ is))
