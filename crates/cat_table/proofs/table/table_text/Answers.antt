use Rattle.std.proofs.Common.{rules, ◌≡◌, ℕ, Some, slice_get, IfOk, subst, string_bytes}
use Rattle.std.specs.Prelude.{IfSome}
use Rattle.cat_search.specs.Searched.{IsSearchOf}
use Rattle.cat_table.specs.Conditions.{Naming}
use Rattle.cat_table.specs.Rows.{naming, table_by}
use Rattle.cat_sound.proofs.Exported.{all_at}
use Rattle.cat_table.proofs.TableLemmas.{at_some, found_tree, if_some, named_here, rows_keep}
use Rattle.cat_table.proofs.table.table_text.Goals as goal

pub returns-clause-text : goal.returns-clause-text
returns-clause-text c =
    let ds = c.args.program.now.decls in
    let files = c.args.files.now in
    let table = c.args.table.now in
    let s = c.args.search.now in
    let here : c.decls-decls.result.now ≡ ds = search rules in
    let there : slice_get ds.scopes table.scope ≡ Some c.at.result.now = search rules in
    subst (λ (ns : Naming). IfSome (slice_get table.targets c.args.target)
    (λ t. IfOk c.written.result (λ text. string_bytes text ≡ table_by ns table t s)))
    (named_here files table ds c.decls-decls.result.now c.at.result.now here there) c.written.ensures

pub returns-clause-kept : goal.returns-clause-kept
returns-clause-kept c =
    let table = c.args.table.now in
    let s = c.args.search.now in
    let names = naming c.args.program.now.decls c.args.files.now table in
    if_some (slice_get table.targets c.args.target) (λ t is.
    let searched = at_some (λ t. (budget : ℕ) × IsSearchOf table.terms table.atoms t budget s)
    (slice_get table.targets c.args.target) t is c.requires.searched in
    rows_keep names table t s (found_tree table.terms table.atoms t searched.0 s searched.1)
    (all_at _ table.targets c.args.target t c.tables_say_what_decides.ensures is))
