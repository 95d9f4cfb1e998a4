use Rattle.std.proofs.Common.{sym, length, ap, subst, List, take, ◌∙◌, ◌≤◌, ℕ, ◌-◌}
use Rattle.cat_verify_shapes.proofs.OperandLemmas.{le_so, le_not}
use Rattle.cat_verify_shapes.proofs.ValueSteps.{drop_too_many, drop_so}
use Rattle.cat_verify_shapes.proofs.values.unbind.Goals as goal

pub returns-in_default : goal.returns-in_default
returns-in_default c =
    let tables = c.args.tables.now in
    let forms = c.args.forms.now in
    let p = c.args.place in
    let s = c.args.shape in
    drop_too_many tables forms p s c.args.count (le_not c.args.count (length s.locals)
    (λ h. c.in_default.ensures (subst (λ (n : ℕ). c.args.count ≤ n) (sym c.len.ensures) h)))

pub returns : goal.returns
returns c =
    let tables = c.args.tables.now in
    let forms = c.args.forms.now in
    let p = c.args.place in
    let s = c.args.shape in
    drop_so tables forms p s c.args.count c.in_ok-shape.field-0
    (le_so c.args.count (length s.locals) (subst (λ (n : ℕ). c.args.count ≤ n) c.len.ensures c.in-Some.ensures.0))
    (c.in_ok-shape.ensures ∙ ap (λ (l : List ℕ). take c.in-Some.left l) c.as_slice.ensures
    ∙ ap (λ (k : ℕ). take k s.locals) (c.in-Some.ensures.1 ∙ ap (λ (n : ℕ). n - c.args.count) c.len.ensures))
