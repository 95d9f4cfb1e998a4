use Rattle.std.proofs.Common.{◌≡◌, ◌∙◌, ◌<◌, ℕ, List, length, Option, Some, ap, subst, arith}
use Rattle.std.proofs.lemmas.List.{with_items_is}
use Rattle.cat_scope.specs.declared.forest.ForestGroup.{ForestGroup}
use Rattle.cat_except.specs.inside.Linking.{pairs_at}
use Rattle.cat_except.specs.inside.Linked.{with_pairs}
use Rattle.cat_except.specs.inside.Chains.{target_at}
use Rattle.cat_except.proofs.Pairs.{bare_are, length_bare}
use Rattle.cat_except.proofs.linked.forest_target.Goals as goal

pub add_exceptions-requires-clause-within : goal.add_exceptions-requires-clause-within
add_exceptions-requires-clause-within c g h is =
    let low : h < length c.args.linked.lists.items =
    c.requires.within g h (subst (λ (ts : List (Option ℕ)). target_at ts g ≡ Some h) c.deref.ensures.value is) in
    omega (
      arith,
      low,
      length_bare c.args.linked.lists.items,
      ap (λ (gs : List ForestGroup). length gs) (c.deref_mut.ensures.value ∙ c.in_ok-groups.ensures),
    )

pub returns-clause-groups : goal.returns-clause-groups
returns-clause-groups c =
    c.from_vec.ensures
    ∙ with_items_is c.in_ok-groups.groups c.add_exceptions.new.groups
    (c.add_exceptions.auto.groups ∙ c.deref_mut.ensures.len)
    ∙ c.in_ok-add_exceptions.ensures c.args.linked.lists.items
    (c.deref_mut.ensures.value ∙ c.in_ok-groups.ensures ∙ bare_are 0 c.args.linked.lists.items)
    ∙ ap (λ (ts : List (Option ℕ)). with_pairs (pairs_at 0 ts) 0 c.args.linked.lists.items) c.deref.ensures.value
