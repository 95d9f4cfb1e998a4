use Rattle.std.proofs.Common.{sym}
use Rattle.cat_verify_shapes.proofs.DeclLemmas.{slot_low}
use Rattle.cat_verify_shapes.proofs.lookups.slot_form.Goals as goal

pub of_item-requires : goal.of_item-requires
of_item-requires c =
    slot_low c.get-decls.result.now c.args.scope c.args.slot c.in-Some.item.now (sym c.in-Some.ensures)
