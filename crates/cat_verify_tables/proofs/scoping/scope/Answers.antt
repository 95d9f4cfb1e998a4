use Rattle.std.proofs.Common.{◌+◌, ℕ, List, subst}
use Rattle.std.proofs.lemmas.Result.{err_from_is_err_and}
use Rattle.cat_image.specs.declared.tables.ImageItem.{ImageItem}
use Rattle.cat_verify_tables.specs.inside.ItemWords.{HasWrongItem, IsWrongScope, AreItemsOf}
use Rattle.cat_verify_tables.proofs.CauseLemmas.{refuses_more}
use Rattle.cat_verify_tables.proofs.scoping.scope.Goals as goal

pub returns-in_err-items-clause-cause : goal.returns-in_err-items-clause-cause
returns-in_err-items-clause-cause c =
    let p = err_from_is_err_and c.from_residual-in_err-items.result c.from_residual-in_err-items.ensures.1 in
    let known = c.args.known.now in
    let line = c.args.line.now in
    rw (p.1, p.2) (refuses_more (HasWrongItem known c.as_slice.result.now c.in_ok-first.first)
    (IsWrongScope known line c.args.number)
    (λ n wrong. subst (λ (is : List ImageItem). HasWrongItem known is (c.args.number + 1) n) c.as_slice.ensures
    (subst (λ (k : ℕ). HasWrongItem known c.as_slice.result.now k n) c.in_ok-first.ensures wrong))
    c.in_err-items.field-0.0 c.in_err-items.ensures.cause)

pub returns-clause-told : goal.returns-clause-told
returns-clause-told c = record {
  name = c.in_ok-name.ensures;
  items = subst (λ (is : List ImageItem). AreItemsOf c.args.known.now is c.in_ok-items.items) c.as_slice.ensures
      c.in_ok-items.ensures.told;
}
