use Rattle.std.proofs.Common.{◌≡◌, List, Option, IsTrue, slice_get, ap, sym, ◌∙◌, subst, rules}
use Rattle.std.proofs.Math.Path.{fun_ext}
use Rattle.cat_value.specs.declared.declaration.ItemDecl.{ItemDecl}
use Rattle.cat_value.specs.Inputs.{are_given_for}
use Rattle.cat_region.specs.declared.point.Point.{Point}
use Rattle.cat_region.specs.Chosen.{point_at}
use Rattle.cat_scope.specs.Names.{scope_items}
use Rattle.cat_guard.specs.declared.table.InputPath.{InputPath}
use Rattle.cat_audit_sound.specs.PointInputs.{given_from, point_from}
use Rattle.cat_audit_sound.specs.inside.PointTables.{found_in}
use Rattle.cat_audit_sound.proofs.TypedLaws.{well_typed_of}
use Rattle.cat_audit_sound.proofs.input.input_of.Goals as goal

pub given-requires-clause-items : goal.given-requires-clause-items
given-requires-clause-items c k item at =
    c.declarations_are_sound.ensures.items c.args.table.now.scope k c.at.result.now item c.at.ensures
    (ap (λ (items : List ItemDecl). slice_get items k) (sym c.as_slice-items.ensures) ∙ at)

pub returns-clause-value : goal.returns-clause-value
returns-clause-value c =
    let ds = c.args.decls.now in
    let table = c.args.table.now in
    let v = point_at c.args.region.now in
    let same : found_in c.in_ok-points.points ≡ point_from v 0 table.terms =
    fun_ext c.in_ok-points.ensures ∙ ap (point_from v 0) c.as_slice-terms.ensures in
    let items : c.as_slice-items.result.now ≡ scope_items ds table.scope = search rules in
    c.in_ok-input.ensures.are
    ∙ ap (λ (points : InputPath → Option Point). given_from ds points 0 c.as_slice-items.result.now) same
    ∙ ap (given_from ds (point_from v 0 table.terms) 0) items

pub returns-clause-typed : goal.returns-clause-typed
returns-clause-typed c =
    well_typed_of c.args.decls.now c.args.table.now.scope c.at.result.now c.in_ok-input.input c.at.ensures
    (subst (λ (items : List ItemDecl). IsTrue (are_given_for c.args.decls.now items c.in_ok-input.input))
    c.as_slice-items.ensures c.in_ok-input.ensures.typed)
