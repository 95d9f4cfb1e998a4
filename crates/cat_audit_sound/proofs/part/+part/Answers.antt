use Rattle.std.proofs.Common.{sym, ap, ◌∙◌, subst, IfOk, arith, ◌≤◌}
use Rattle.cat_value.specs.declared.ty.Ty.{Ty}
use Rattle.cat_value.specs.Heights.{height_to}
use Rattle.cat_value.proofs.Exported.{fields_declared, height_positive, fields_lower}
use Rattle.cat_value.specs.declared.value.Value.{Value}
use Rattle.cat_audit_sound.specs.PointInputs.{with_point}
use Rattle.cat_audit_sound.specs.inside.PointTables.{found_in}
use Rattle.cat_audit_sound.specs.inside.TypedParts.{IsPart}
use Rattle.cat_audit_sound.proofs.PartEquations.{part_other}
use Rattle.cat_audit_sound.proofs.TypedLaws.{structure_part}
use Rattle.cat_audit_sound.proofs.part.+part.Goals as goal

pub part-returns-in_default : goal.part-returns-in_default
part-returns-in_default t c =
    let ds = c.args.decls.now in
    let positive = height_positive ds.structures ds.enumerations c.args.depth c.args.ty.now in
    subst (λ (meant : Value). IfOk c.with_point.result (λ value. IsPart ds c.args.ty.now meant value))
    (ap (with_point ds c.args.ty.now) c.in_ok-point.ensures
    ∙ sym (part_other ds (found_in c.args.points.now) c.args.path.now c.args.depth c.args.ty.now
    (omega (arith, positive, c.requires.height)) c.in_default.not-Structure))
    c.with_point.ensures

pub part-overflow_sub-depth : goal.part-overflow_sub-depth
part-overflow_sub-depth t c =
    let positive = height_positive c.args.decls.now.structures c.args.decls.now.enumerations c.args.depth c.args.ty.now
    in omega (arith, positive, c.requires.height)

pub part-parts-requires : goal.part-parts-requires
part-parts-requires t c =
    let ds = c.args.decls.now in
    let n = c.in-Structure.number in
    let s = c.at-structure.result.now in
    let positive = height_positive ds.structures ds.enumerations c.args.depth c.args.ty.now in
    let low = subst (λ (t : Ty). height_to ds.structures ds.enumerations c.args.depth t ≤ c.args.depth)
    c.in-Structure.is c.requires.height in (
      omega (arith, positive, c.requires.height),
      (
        (c.declarations_are_sound.ensures.structures n s c.at-structure.ensures).counted,
        (
          fields_declared ds n s c.at-structure.ensures,
          fields_lower ds.structures ds.enumerations c.args.depth n s low c.at-structure.ensures,
        ),
      ),
    )

pub part-returns : goal.part-returns
part-returns t c =
    let ds = c.args.decls.now in
    let points = found_in c.args.points.now in
    let positive = height_positive ds.structures ds.enumerations c.args.depth c.args.ty.now in
    structure_part ds points c.args.path.now c.args.depth c.args.ty.now c.in-Structure.number c.at-structure.result.now
    c.in_ok-values.values (omega (arith, positive, c.requires.height)) c.in-Structure.is c.at-structure.ensures
    c.in_ok-values.ensures
