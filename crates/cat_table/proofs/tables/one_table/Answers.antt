use Rattle.std.proofs.Common.{◌≡◌, slice_get, string_bytes}
use Rattle.cat_search.specs.Cells.{IsSpentWithin}
use Rattle.cat_search.specs.Searched.{IsSearchOf}
use Rattle.cat_table.specs.Kept.{AreKept}
use Rattle.cat_table.specs.Rows.{naming, rows_of, table_text}
use Rattle.cat_table.proofs.TableLemmas.{at_some, if_some}
use Rattle.cat_table.proofs.tables.one_table.Goals as goal

pub table_text-requires-clause-searched : goal.table_text-requires-clause-searched
table_text-requires-clause-searched c =
    let table = c.args.table.now in
    let s = c.in_ok-search.search in
    if_some (slice_get table.targets c.args.target) (λ t is. (
      c.args.budget,
      at_some (λ t. IsSearchOf table.terms table.atoms t c.args.budget s) (slice_get table.targets c.args.target) t is
          (c.in_ok-search.ensures.found c.requires.some),
    ))

pub returns-clause-table : goal.returns-clause-table
returns-clause-table c =
    let table = c.args.table.now in
    let s = c.in_ok-search.search in
    let o = slice_get table.targets c.args.target in
    let ds = c.args.program.now.decls in
    let files = c.args.files.now in
    if_some o (λ t is. record {
      search = s;
      tabled = record {
        searched = at_some (λ t. IsSearchOf table.terms table.atoms t c.args.budget s) o t is
            (c.in_ok-search.ensures.found c.requires.some);
        spent = at_some (λ t. IsSpentWithin table.terms table.atoms t c.args.budget s) o t is
            c.in_ok-search.ensures.spent;
        kept = at_some (λ t. AreKept (naming ds files table) table t (rows_of table s)) o t is
            c.in_ok-text.ensures.kept;
      };
      text_is = at_some (λ t. string_bytes c.in_ok-text.text ≡ table_text ds files table t s) o t is
          c.in_ok-text.ensures.text;
      spent_is = c.is_spent-spent.ensures;
    })
