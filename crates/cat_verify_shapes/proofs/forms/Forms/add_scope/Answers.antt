use Rattle.std.proofs.Common.{length, refl, subst, sym}
use Rattle.std.proofs.lemmas.Option.{slice_get_read}
use Rattle.cat_value.specs.declared.declaration.ItemDecl.{ItemDecl}
use Rattle.cat_scope.specs.Names.{AllHave}
use Rattle.cat_verify_shapes.specs.inside.Senses.{IsLow}
use Rattle.cat_verify_shapes.proofs.PassLemmas.{grows_then}
use Rattle.cat_verify_shapes.proofs.DeclLemmas.{slot_low, slot_params}
use Rattle.cat_verify_shapes.proofs.LowLemmas.{item_here, items_low}
use Rattle.cat_verify_shapes.proofs.AddLemmas.{scope_added}
use Rattle.cat_verify_shapes.proofs.forms.Forms.add_scope.Goals as goal

pub add_ty-requires : goal.add_ty-requires
add_ty-requires c =
    let ds = c.args.decls.now in
    let n = length c.args.self.now.outputs in
    let items = c.as_slice-item-items.result.now in
    let k = c.loop-item.item-index in
    slot_low ds n k c.item-item.result
    (item_here ds n c.args.scope.now items k c.item-item.result c.requires.here c.as_slice-item-items.ensures
    (slice_get_read items (length items) k c.item-item.result refl c.loop-item-test.true c.item-item.is))

pub add_tys-requires : goal.add_tys-requires
add_tys-requires c =
    let ds = c.args.decls.now in
    let n = length c.args.self.now.outputs in
    let items = c.as_slice-item-items.result.now in
    let k = c.loop-item.item-index in
    subst (AllHave (IsLow ds)) (sym c.as_slice.ensures)
    (slot_params ds n k c.item-item.result
    (item_here ds n c.args.scope.now items k c.item-item.result c.requires.here c.as_slice-item-items.ensures
    (slice_get_read items (length items) k c.item-item.result refl c.loop-item-test.true c.item-item.is)))

pub loop-item-preserved : goal.loop-item-preserved
loop-item-preserved c =
    grows_then c.args.self.now c.loop-item.self c.add_tys.new.self c.loop-item.invariant
    (grows_then c.loop-item.self c.add_ty.new.self c.add_tys.new.self c.in_ok-add_ty.ensures.grows
    c.in_ok-add_tys.ensures)

pub add_outputs-requires : goal.add_outputs-requires
add_outputs-requires c =
    let ds = c.args.decls.now in
    subst (AllHave (λ (item : ItemDecl). IsLow ds item.ty)) (sym c.as_slice-2.ensures)
    (items_low ds (length c.args.self.now.outputs) c.args.scope.now c.requires.here)

pub returns : goal.returns
returns c =
    scope_added c.args.decls.now c.args.self.now c.loop-item.self c.add_outputs.new.self c.push.result c.args.scope.now
    c.as_slice-2.result.now c.in_ok-outputs.outputs c.push.new.self c.requires.table c.requires.here
    c.as_slice-2.ensures c.loop-item.invariant c.in_ok-outputs.ensures c.push.ensures.ok
