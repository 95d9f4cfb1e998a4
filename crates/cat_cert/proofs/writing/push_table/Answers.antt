use Rattle.std.proofs.Common.{◌<◌, ◌++◌, map, length, refl, string_bytes, arith}
use Rattle.std.proofs.lemmas.Option.{slice_get_read}
use Rattle.cat_cert.specs.Lines.{TargetDue, due_lines}
use Rattle.cat_cert.specs.Texts.{text_of}
use Rattle.cat_cert.proofs.TextLemmas.{drop_at, target_written}
use Rattle.cat_cert.proofs.writing.push_table.Goals as goal

pub loop-at-preserved : goal.loop-at-preserved
loop-at-preserved c = λ more rest.
    let l = c.loop-at in
    let table = c.args.table.now in
    let trees = c.args.trees.now in
    let count = c.requires in
    let test = c.loop-at-test.true in
    let size = c.len-at-end.ensures in
    let within : l.at < length trees = omega (arith, count, test, size) in
    target_written c.args.version table.targets trees l.at c.at.result.now c.index-trees-at.result more rest
    (string_bytes c.write.new.self ++ text_of (due_lines c.args.version (map TargetDue table.targets ++ more)
    (trees ++ rest)))
    (string_bytes l.text) (string_bytes c.push_target.new.text) c.at.ensures
    (drop_at trees l.at c.index-trees-at.result
    (slice_get_read trees (length trees) l.at c.index-trees-at.result refl within c.index-trees-at.is))
    c.in_ok-push_target.ensures (l.invariant more rest)
