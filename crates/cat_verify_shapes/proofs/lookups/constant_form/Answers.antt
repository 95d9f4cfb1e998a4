use Rattle.std.proofs.Common.{subst, sym}
use Rattle.cat_value.specs.declared.decls.Decls.{Decls}
use Rattle.cat_verify_shapes.specs.inside.Senses.{IsLow}
use Rattle.cat_verify_shapes.proofs.DeclLemmas.{constant_low}
use Rattle.cat_verify_shapes.proofs.lookups.constant_form.Goals as goal

pub of_ty-requires : goal.of_ty-requires
of_ty-requires c =
    subst (λ (ds : Decls). IsLow ds c.in-Some.constant.now.ty) (sym c.get-in-Some.ensures)
    (constant_low c.args.tables.now c.args.constant c.in-Some.constant.now c.requires (sym c.in-Some.ensures.value))
