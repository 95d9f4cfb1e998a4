use Rattle.std.proofs.Common.{◌≡◌, ◌∙◌, List, length, slice_get, Some, None, if◌then◌else◌, ap, sym, refl, arith}
use Rattle.std.proofs.lemmas.Option.{slice_get_read}
use Rattle.std.proofs.lemmas.List.{drop_all}
use Rattle.cat_region.specs.declared.point.Point.{Point}
use Rattle.cat_region.specs.Chosen.{point_at}
use Rattle.cat_guard.specs.declared.table.InputPath.{InputPath}
use Rattle.cat_guard.specs.declared.table.Term.{Term}
use Rattle.cat_audit_sound.specs.PointInputs.{is_at, point_from}
use Rattle.cat_audit_sound.specs.inside.PointTables.{earlier, found_in}
use Rattle.cat_audit_sound.proofs.PointTableLemmas.{term_added, earlier_none}
use Rattle.cat_audit_sound.proofs.points.points_of.Goals as goal

pub loop-number-preserved : goal.loop-number-preserved
loop-number-preserved c =
    let terms = c.args.terms.now in
    let term = c.index-terms-number.result in
    let at : slice_get terms c.loop-number.number ≡ Some term =
    slice_get_read terms (length terms) c.loop-number.number term refl (omega (arith, c.loop-number-test.true))
    c.index-terms-number.is in
    term_added (point_at c.args.region.now) terms c.loop-number.number term c.loop-number.points
    c.add_term.new.points at
    (λ (path : InputPath). c.in_ok-add_term.ensures path
    ∙ ap (λ (x : Point). earlier (found_in c.loop-number.points path) (if is_at path term.path then Some x else None))
    c.point.ensures.value)
    c.loop-number.invariant

pub returns : goal.returns
returns c path =
    let terms = c.args.terms.now in
    sym (earlier_none (found_in c.loop-number.points path))
    ∙ ap (λ (ts : List Term). earlier (found_in c.loop-number.points path)
    (point_from (point_at c.args.region.now) c.loop-number.number ts path))
    (sym (drop_all c.loop-number.number terms (omega (arith, c.loop-number-test.false))))
    ∙ c.loop-number.invariant path
