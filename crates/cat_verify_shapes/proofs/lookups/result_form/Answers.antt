use Rattle.cat_verify_shapes.proofs.LookupLemmas.{function_low}
use Rattle.cat_verify_shapes.proofs.lookups.result_form.Goals as goal

pub of_ty-requires : goal.of_ty-requires
of_ty-requires c =
    function_low c.get-decls.result.now c.in-Some.function c.in-Some-function_item.item.now
    c.in-Some-function_item.ensures
