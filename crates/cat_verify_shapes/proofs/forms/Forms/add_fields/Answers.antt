use Rattle.std.proofs.Common.{◌≡◌, ◌<◌, ◌+◌, ◌-◌, ℕ, Some, arith, drop, length, refl, slice_get, subst, sym}
use Rattle.cat_value.specs.declared.declaration.Field.{Field}
use Rattle.std.proofs.lemmas.Option.{slice_get_read}
use Rattle.cat_code.specs.Forms.{form_of, forms_in}
use Rattle.cat_verify_shapes.specs.inside.Growing.{AddsType, StandsRow}
use Rattle.cat_verify_shapes.proofs.PassLemmas.{grows_then}
use Rattle.cat_verify_shapes.proofs.AddLemmas.{adds_fields, fields_none, fields_next}
use Rattle.cat_verify_shapes.proofs.forms.Forms.add_fields.Goals as goal

pub loop-left-init : goal.loop-left-init
loop-left-init c = record {
  within = omega arith;
  grows = c.in_ok-row.ensures.grows;
  row = fields_none c.args.decls.now c.add.new.self c.args.fields.now c.in_ok-row.row c.in_ok-row.ensures.entry;
}

pub loop-left-preserved : goal.loop-left-preserved
loop-left-preserved c =
    let ds = c.args.decls.now in
    let fields = c.args.fields.now in
    let l = c.loop-left in
    let f = c.index-fields-left.result in
    let within : l.left - 1 < length fields = omega (arith, l.invariant.within, c.loop-left-test.true) in
    let next : l.left ≡ l.left - 1 + 1 = omega (arith, c.loop-left-test.true) in
    let at : slice_get fields (l.left - 1) ≡ Some f =
    slice_get_read fields (length fields) (l.left - 1) f refl within c.index-fields-left.is in
    record {
      within = omega (arith, within);
      grows = grows_then c.args.self.now l.self c.add-in-loop-left.new.self l.invariant.grows
          (grows_then l.self c.add_ty.new.self c.add-in-loop-left.new.self c.in_ok-form.ensures.grows
          c.in_ok-row-2.ensures.grows);
      row = fields_next ds l.self c.add_ty.new.self c.add-in-loop-left.new.self fields l.left (l.left - 1)
          c.in_ok-form.form l.row c.in_ok-row-2.row f next at l.invariant.row
          (subst (λ (g : Field). AddsType ds l.self c.add_ty.new.self (form_of ds g.ty) c.in_ok-form.form)
          (sym c.index-fields-left.is) c.in_ok-form.ensures)
          c.in_ok-row-2.ensures;
    }

pub returns : goal.returns
returns c =
    let ds = c.args.decls.now in
    let fields = c.args.fields.now in
    let l = c.loop-left in
    let none : l.left ≡ 0 = omega (arith, c.loop-left-test.false) in
    adds_fields ds c.args.self.now c.add-2.new.self l.self c.add-2.result l.row (forms_in (form_of ds) fields)
    l.invariant.grows (subst (λ (n : ℕ). StandsRow ds l.self l.row (forms_in (form_of ds) (drop n fields))) none
    l.invariant.row)
    c.add-2.ensures
