use Rattle.std.proofs.Common.{◌≡◌, ◌<◌, ◌+◌, ◌-◌, ℕ, Some, arith, drop, length, refl, slice_get, subst}
use Rattle.std.proofs.lemmas.Option.{slice_get_read}
use Rattle.cat_value.specs.Inputs.{outputs_in}
use Rattle.cat_code.specs.Forms.{items_forms}
use Rattle.cat_verify_shapes.specs.inside.Growing.{StandsRow}
use Rattle.cat_verify_shapes.proofs.PassLemmas.{grows_then}
use Rattle.cat_verify_shapes.proofs.AddLemmas.{adds_fields, items_none, items_next}
use Rattle.cat_verify_shapes.proofs.forms.Forms.add_outputs.Goals as goal

pub loop-left-init : goal.loop-left-init
loop-left-init c = record {
  within = omega arith;
  grows = c.in_ok-row.ensures.grows;
  row = items_none c.args.decls.now c.add.new.self c.args.items.now c.in_ok-row.row c.in_ok-row.ensures.entry;
}

pub loop-left-preserved : goal.loop-left-preserved
loop-left-preserved c =
    let ds = c.args.decls.now in
    let items = c.args.items.now in
    let l = c.loop-left in
    let item = c.index-items-left.result in
    let within : l.left - 1 < length items = omega (arith, l.invariant.within, c.loop-left-test.true) in
    let next : l.left ≡ l.left - 1 + 1 = omega (arith, c.loop-left-test.true) in
    let at : slice_get items (l.left - 1) ≡ Some item =
    slice_get_read items (length items) (l.left - 1) item refl within c.index-items-left.is in
    record {
      within = omega (arith, within);
      grows = grows_then c.args.self.now l.self c.add_output.new.self l.invariant.grows c.in_ok-row-2.ensures.grows;
      row = items_next ds l.self c.add_output.new.self items l.left (l.left - 1) l.row c.in_ok-row-2.row item next at
          l.invariant.row c.in_ok-row-2.ensures;
    }

pub returns : goal.returns
returns c =
    let ds = c.args.decls.now in
    let items = c.args.items.now in
    let l = c.loop-left in
    let none : l.left ≡ 0 = omega (arith, c.loop-left-test.false) in
    adds_fields ds c.args.self.now c.add-2.new.self l.self c.add-2.result l.row (items_forms ds (outputs_in items))
    l.invariant.grows (subst (λ (n : ℕ). StandsRow ds l.self l.row (items_forms ds (outputs_in (drop n items)))) none
    l.invariant.row)
    c.add-2.ensures
