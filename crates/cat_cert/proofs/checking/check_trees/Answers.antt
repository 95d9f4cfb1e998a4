use Rattle.std.proofs.Common.{◌≡◌, ◌+◌, ℕ, Some, slice_get, length, refl, sym, ap, subst, add-one}
use Rattle.std.proofs.lemmas.Option.{slice_get_read}
use Rattle.std.proofs.lemmas.Result.{err_from_is_err_and}
use Rattle.cat_cert.proofs.TableLemmas.{IsOnWay, tables_start, next_of, next_stops, next_done}
use Rattle.cat_cert.proofs.checking.check_trees.Goals as goal

pub loop-table-init : goal.loop-table-init
loop-table-init c = tables_start c.args.tables.now c.args.trees.now c.requires

pub check_table-requires : goal.check_table-requires
check_table-requires c =
    let tables = c.args.tables.now in
    let l = c.loop-table in
    let table = c.table-item.result in
    let here : slice_get tables l.table-index ≡ Some table =
    slice_get_read tables (length tables) l.table-index table refl c.loop-table-test.true c.table-item.is in
    next_of tables c.args.trees.now l.table-index l.at l.invariant table here (l.at + c.len.result)
    (ap (λ n. l.at + n) c.len.ensures)

pub returns-in_err-check_table-clause-first : goal.returns-in_err-check_table-clause-first
returns-in_err-check_table-clause-first c =
    let p = err_from_is_err_and c.from_residual.result c.from_residual.ensures.1 in
    let tables = c.args.tables.now in
    let l = c.loop-table in
    let table = c.table-item.result in
    let here : slice_get tables l.table-index ≡ Some table =
    slice_get_read tables (length tables) l.table-index table refl c.loop-table-test.true c.table-item.is in
    rw (p.1, p.2) (next_stops tables c.args.trees.now l.table-index l.at l.invariant table here (l.at + c.len.result)
    (ap (λ n. l.at + n) c.len.ensures) c.in_err-check_table.field-0.0 c.in_err-check_table.ensures.first)

pub loop-table-preserved : goal.loop-table-preserved
loop-table-preserved c =
    let tables = c.args.tables.now in
    let trees = c.args.trees.now in
    let l = c.loop-table in
    let table = c.table-item.result in
    let end = l.at + c.len.result in
    let here : slice_get tables l.table-index ≡ Some table =
    slice_get_read tables (length tables) l.table-index table refl c.loop-table-test.true c.table-item.is in
    subst (λ (k : ℕ). IsOnWay tables trees k end) (sym (add-one l.table-index))
    (next_done tables trees l.table-index l.at l.invariant table here end (ap (λ n. l.at + n) c.len.ensures)
    c.in_ok-check_table.ensures.covered c.in_ok-check_table.ensures.closed)
