use Rattle.std.proofs.Common.{sym}
use Rattle.cat_verify_shapes.proofs.DeclLemmas.{target_low}
use Rattle.cat_verify_shapes.proofs.lookups.target_form.Goals as goal

pub of_held-requires : goal.of_held-requires
of_held-requires c =
    let target = c.in-Some.entry.now.target in
    target_low c.get-decls.result.now target.scope target.item target.inner c.in-Some-target_item.item.now
    (sym c.in-Some-target_item.ensures)
