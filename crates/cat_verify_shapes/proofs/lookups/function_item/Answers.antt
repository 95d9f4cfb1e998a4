use Rattle.std.proofs.Common.{◌∙◌, length, refl}
use Rattle.std.proofs.lemmas.Option.{slice_get_read, slice_get_past}
use Rattle.cat_verify_shapes.proofs.LookupLemmas.{function_decl, function_past}
use Rattle.cat_verify_shapes.proofs.lookups.function_item.Goals as goal

pub returns-in-Some : goal.returns-in-Some
returns-in-Some c =
    let fs = c.args.functions.now in
    c.item_of.ensures
    ∙ function_decl c.args.decls.now fs c.args.function c.in-Some.place.now c.requires
    (slice_get_read fs (length fs) c.args.function c.in-Some.place.now refl c.in-Some.ensures.lookup.3.0
    c.in-Some.ensures.lookup.1)

pub returns-in-None : goal.returns-in-None
returns-in-None c =
    let fs = c.args.functions.now in
    function_past c.args.decls.now fs c.args.function c.requires
    (slice_get_past fs c.args.function c.in-None.ensures.lookup.3)
