use Rattle.std.proofs.Common.{◌≡◌, ◌+◌, length, refl, string_bytes, sym, arith, slice_get, Some}
use Rattle.std.specs.List.{slice_range}
use Rattle.std.proofs.lemmas.List.Folds.{drop_split}
use Rattle.std.proofs.lemmas.Option.{slice_get_read}
use Rattle.cat_cert.specs.Texts.{certificate_text}
use Rattle.cat_cert.proofs.TextLemmas.{table_written, targets_left}
use Rattle.cat_cert.proofs.writing.certificate_text.Goals as goal

pub loop-table-preserved : goal.loop-table-preserved
loop-table-preserved c =
    let l = c.loop-table in
    let tables = c.args.tables.now in
    let trees = c.args.trees.now in
    let table = c.table-item.result in
    let end = l.at + c.len.result in
    let here : slice_get tables l.table-index ≡ Some table =
    slice_get_read tables (length tables) l.table-index table refl c.loop-table-test.true c.table-item.is in
    let count = c.len.ensures in
    let left = targets_left tables l.table-index l.at (length trees) table here l.invariant.left in
    record {
      left = omega (arith, left, count);
      made =
          table_written c.args.version tables trees l.table-index l.at end table (slice_range trees l.at end)
          (certificate_text c.args.version tables trees) (string_bytes l.text) (string_bytes c.push_table.new.text)
          here (sym (drop_split trees l.at end (omega arith)))
          (λ more rest. c.in_ok-push_table.ensures more rest) l.invariant.made;
    }
