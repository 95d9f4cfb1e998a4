use Rattle.std.proofs.Common.{[], List, sym, subst}
use Rattle.std.proofs.lemmas.List.Sorted.{All-permutation}
use Rattle.cat_scope.specs.Names.{IsOneOf}
use Rattle.cat_guard.specs.declared.conjuncts.Conjunct.{Conjunct}
use Rattle.cat_guard.specs.GuardFormulas.{formula_of}
use Rattle.cat_guard.specs.Conjuncts.{joined, AreAmong}
use Rattle.cat_guard.specs.inside.Joining.{Adds}
use Rattle.cat_guard.proofs.ConjunctLaws.{in_any_order, none_among}
use Rattle.cat_guard.proofs.conjuncts.conjuncts_of.Goals as goal

pub returns-then-not-is_long : goal.returns-then-not-is_long
returns-then-not-is_long c =
    subst (AreAmong (joined (formula_of c.args.guard.now))) (sym c.new.ensures)
    (none_among (joined (formula_of c.args.guard.now)))

pub returns : goal.returns
returns c =
    let all = joined (formula_of c.args.guard.now) in
    let P : Conjunct → Type 0 = λ l. IsOneOf l all in
    let adds : Adds all [] c.into_vec-sorted.result.items =
    subst (λ (made : List Conjunct). Adds all [] made) (sym c.into_vec-sorted.ensures)
    (subst (λ (old : List Conjunct). Adds all old c.add_conjuncts.new.conjuncts) c.new-conjuncts.ensures
    c.in_ok-add_conjuncts.ensures) in
    subst (AreAmong all) (sym c.from_vec.ensures)
    (in_any_order all c.into_vec-sorted.result.items c.sort_by_key.new.self.items adds
    (All-permutation P c.into_vec-sorted.result.items c.sort_by_key.new.self.items
    c.in_ok-sort_by_key.ensures.permutation))
