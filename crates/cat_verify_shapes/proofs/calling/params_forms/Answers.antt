use Rattle.std.proofs.Common.{subst, sym}
use Rattle.cat_verify_shapes.specs.inside.Senses.{IsLow}
use Rattle.cat_verify_shapes.proofs.CallLoops.{have_at, forms_more}
use Rattle.cat_verify_shapes.proofs.calling.params_forms.Goals as goal

pub of_ty-requires : goal.of_ty-requires
of_ty-requires c =
    subst (IsLow c.args.decls.now) (sym c.ty-item.is)
    (have_at (IsLow c.args.decls.now) c.args.params.now c.loop-ty.ty-index c.ty-item.result c.loop-ty-test.true
    c.requires)

pub loop-ty-preserved : goal.loop-ty-preserved
loop-ty-preserved c =
    forms_more c.args.decls.now c.args.forms.now c.args.params.now c.loop-ty.ty-index c.ty-item.result
    c.loop-ty.numbers c.push.new.self c.in_ok-of_ty.field-0 c.loop-ty-test.true c.ty-item.is c.loop-ty.invariant
    c.in_ok-of_ty.ensures c.in_ok-push.ensures.ok
