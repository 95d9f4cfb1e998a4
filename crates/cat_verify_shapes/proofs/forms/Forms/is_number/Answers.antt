use Rattle.std.proofs.Common.{◌≡◌, ◌∙◌, Some, false, slice_get, sym, subst, true}
use Rattle.std.proofs.Common.{rules}
use Rattle.std.proofs.lemmas.Bool.{not-true}
use Rattle.cat_verify_shapes.specs.inside.Growing.{IsNumber, is_row}
use Rattle.cat_verify_shapes.proofs.GrowLemmas.{is_number}
use Rattle.cat_verify_shapes.proofs.forms.Forms.is_number.Goals as goal

pub returns-then-asks_row : goal.returns-then-asks_row
returns-then-asks_row c so =
    let at : slice_get c.args.self.now.kinds.keys c.args.number ≡ Some c.in-Some.field-0.now = search rules in
    subst (IsNumber c.args.self.now c.args.number) (sym c.if-asks_row.true)
    (is_number c.args.self.now c.args.number c.in-Some.field-0.now true at (sym c.is_row.ensures ∙ so))

pub returns : goal.returns
returns c so =
    let at : slice_get c.args.self.now.kinds.keys c.args.number ≡ Some c.in-Some.field-0.now = search rules in
    subst (IsNumber c.args.self.now c.args.number) (sym c.if-asks_row.false)
    (is_number c.args.self.now c.args.number c.in-Some.field-0.now false at
    (sym c.is_row-2.ensures ∙ not-true c.is_row-2.result so))
