use Rattle.std.proofs.Common.{rules, ◌≡◌, ◌<◌, ◌++◌, length, string_bytes, Some, slice_get}
use Rattle.cat_listing.specs.Listing.{file_line}
use Rattle.cat_listing.proofs.NextFile.{one_more}
use Rattle.cat_listing.proofs.whole.push_files.Goals as goal

pub loop-n-preserved : goal.loop-n-preserved
loop-n-preserved c =
    let below : c.loop-n.n < length c.args.files.now = search rules in
    let there : Some c.name.result.now ≡ slice_get c.args.files.now c.loop-n.n = search rules in
    let grown : string_bytes c.push_file.new.text
    ≡ string_bytes c.loop-n.text ++ file_line c.name.result.now = search rules in
    one_more c.args.files.now c.loop-n.n c.name.result.now (string_bytes c.loop-n.text)
    (string_bytes c.push_file.new.text) _ below there grown c.loop-n.invariant
