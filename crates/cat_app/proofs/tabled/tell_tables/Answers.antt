use Rattle.std.proofs.Common.{◌≡◌, ◌<◌, length, subst, sym, rules}
use Rattle.std.proofs.lemmas.Option.{slice_get_within}
use Rattle.cat_table.specs.Wanted.{AreTables, wanted_of}
use Rattle.cat_app.proofs.tabled.tell_tables.Goals as goal

pub tables_text-requires-clause-scope : goal.tables_text-requires-clause-scope
tables_text-requires-clause-scope c =
    let tabled = c.requires.tabled in
    subst (λ n. n < length c.args.built.now.program.decls.scopes) (sym tabled.1.4.scope_is)
    (slice_get_within c.args.built.now.program.decls.scopes tabled.0 tabled.1.0 tabled.1.2)

pub tables_text-requires-clause-some : goal.tables_text-requires-clause-some
tables_text-requires-clause-some c =
    c.tables_admit_something.ensures c.requires.tabled.0 c.args.table.now c.requires.tabled.1
