use Rattle.cat_audit_table.proofs.numbering.Numbering.new.Goals as goal

pub returns : goal.returns
returns c = λ items. record { terms = c.new.ensures items; atoms = c.new-2.ensures }
