use Rattle.std.proofs.Common.{refl, rules}
use Rattle.cat_audit_sound.proofs.Failures.{values_cover}
use Rattle.cat_audit_sound.proofs.leaf_laws.values_come_of_covered_targets.Goals as goal

pub returns : goal.returns
returns c scope input shown outputs tabled typed valid shows ends =
    values_cover c.args.program.now.decls c.args.program.now.bodies c.args.program.now.scope_order scope
    c.args.table.now tabled (search rules) (λ q. (c.terms_have_one_key_where_they_are_one.ensures q q).1 refl)
    c.guards_tell.ensures input typed shown valid shows c.programs_are_well_formed.ensures outputs ends
