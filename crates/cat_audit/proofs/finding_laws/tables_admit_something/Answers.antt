use Rattle.cat_audit.proofs.TermValues.{all_valued}
use Rattle.cat_audit.proofs.finding_laws.tables_admit_something.Goals as goal

pub returns : goal.returns
returns c scope table tabled =
    let program = c.args.program.now in
    c.terms_with_values_admit_something.ensures table.terms
    (all_valued program.decls program.bodies program.scope_order scope tabled.0 tabled.1 table
    c.programs_are_well_formed.ensures tabled.2 tabled.3 tabled.4)
