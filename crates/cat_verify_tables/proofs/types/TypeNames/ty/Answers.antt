use Rattle.cat_verify_tables.proofs.TypeLemmas.{typed_by}
use Rattle.cat_verify_tables.proofs.types.TypeNames.ty.Goals as goal

pub returns : goal.returns
returns c =
    let names = c.args.self.now in
    let found = c.behind_lists-lists in
    typed_by names.numbers names.structures found.result.0 c.args.text.now found.result.1.now c.in_lists.result
    found.ensures c.in_lists.ensures
