use Rattle.std.proofs.Common.{◌≡◌, ◌<◌, Some, length, rules, subst, sym, ℕ}
use Rattle.cat_check.specs.inside.ByScope.{scope_about}
use Rattle.cat_check.proofs.Listed.{about_within}
use Rattle.cat_check.proofs.by_scope.add_item.Goals as goal

pub index_mut-requires : goal.index_mut-requires
index_mut-requires c =
    let about : scope_about c.args.decls.now c.args.item ≡ Some c.in-Some.scope = search rules in
    let few : c.in-Some.scope < length c.args.lists.now.items =
    subst (λ (n : ℕ). c.in-Some.scope < n) (sym c.requires.counted)
    (about_within c.args.decls.now c.args.item c.in-Some.scope about) in
    search (rules, few)
