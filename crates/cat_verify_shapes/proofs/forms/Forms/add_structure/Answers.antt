use Rattle.std.proofs.Common.{List, Some, ap, refl, slice_set, subst, sym, ◌∙◌}
use Rattle.cat_value.specs.declared.declaration.Field.{Field}
use Rattle.cat_scope.specs.Names.{AllHave}
use Rattle.cat_code.specs.Forms as code
use Rattle.cat_code.specs.Forms.{form_of, forms_in}
use Rattle.cat_verify_shapes.specs.declared.forms.Forms.{Forms}
use Rattle.cat_verify_shapes.specs.inside.Senses.{IsLow, IsTable}
use Rattle.cat_verify_shapes.proofs.GrowLemmas.{structure_set, table_on}
use Rattle.cat_verify_shapes.proofs.LowLemmas.{fields_low, form_Structure}
use Rattle.cat_verify_shapes.proofs.forms.Forms.add_structure.Goals as goal

pub add_fields-requires : goal.add_fields-requires
add_fields-requires c =
    let ds = c.args.decls.now in
    let s = c.in-Some.structure.now in
    subst (AllHave (λ (f : Field). IsLow ds f.ty)) (sym c.as_slice.ensures)
    (fields_low ds c.args.number s (sym c.in-Some.ensures.value))

pub returns : goal.returns
returns c =
    let ds = c.args.decls.now in
    let s = c.in-Some.structure.now in
    let grown = c.add_fields.new.self in
    let fields = c.as_slice.result.now in
    let n = c.in_ok-form.form in
    let set = slice_set grown.structures c.args.number (Some n) in (
      subst (IsTable ds) (sym c.name_structure.ensures)
          (structure_set ds grown c.args.number n (forms_in (form_of ds) fields) set
          (table_on ds c.args.self.now grown c.in_ok-form.ensures.grows c.requires) c.in_ok-form.ensures.stands
          (form_Structure ds c.args.number s (sym c.in-Some.ensures.value)
          ∙ ap (λ (fs : List Field). code.Fields (forms_in (form_of ds) fs)) (sym c.as_slice.ensures))
          refl),
      ap (λ (forms : Forms). forms.outputs) c.name_structure.ensures ∙ c.in_ok-form.ensures.grows.outputs,
    )
