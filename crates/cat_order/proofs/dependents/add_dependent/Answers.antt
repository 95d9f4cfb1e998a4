use Rattle.std.proofs.Common.{rules, ◌≡◌, ◌∙◌, ◌==◌, ◌+◌, ◌<◌, ℕ, cond, List, [], ◌∷◌, ◌++◌, length, take, set, get_or}
use Rattle.std.proofs.Common.{arith, ap, sym, subst}
use Rattle.std.proofs.lemmas.List.{get_or-set_same, get_or-set_other, get_or_default}
use Rattle.std.proofs.lemmas.Bool.{cases_eq}
use Rattle.std.proofs.lemmas.Bool.Decides.{nat_tests}
use Rattle.std.proofs.Math.Logic.{⊎_elim}
use Rattle.cat_order.specs.Order.{times}
use Rattle.cat_order.specs.inside.Steps.{dependents_of}
use Rattle.cat_order.proofs.Counts.{times_push, times_take}
use Rattle.cat_order.proofs.dependents.add_dependent.Goals as goal

-- a list that grew by one item, among the others
one_more : (lists : List (List ℕ)) (grown : List ℕ) (x item on other : ℕ) → x < length lists → grown ≡ get_or lists x []
    ++ item ∷ [] → times (get_or (set lists x grown) on []) other ≡ times (get_or lists on []) other + cond
    (item == other) (cond (x == on) 1 0) 0
one_more lists grown x item on other within grows = ⊎_elim
    (λ here. subst (λ (n : ℕ). times (get_or (set lists x grown) n []) other ≡ times (get_or lists n []) other + cond
    (item == other) (cond (x == n) 1 0) 0) here
    (let now : times (get_or (set lists x grown) x []) other ≡ times (get_or lists x []) other + cond (item == other) 1
    0 =
    ap (λ (ys : List ℕ). times ys other) (get_or-set_same lists x grown [] within ∙ grows)
    ∙ times_push (get_or lists x []) item other in
    grind (arith, nat_tests)))
    (λ elsewhere. let same : times (get_or (set lists x grown) on []) other ≡ times (get_or lists on []) other =
    ap (λ (ys : List ℕ). times ys other) (get_or-set_other lists x on grown [] (λ e. elsewhere (sym e))) in
    grind (arith, nat_tests))
    (cases_eq x on)

pub loop-dependency-preserved : goal.loop-dependency-preserved
loop-dependency-preserved c = λ on other.
    let x : ℕ = get_or c.args.dependencies.now c.loop-dependency.dependency-index 0 in
    let within : get_or c.args.dependencies.now c.loop-dependency.dependency-index 0 < length
    c.loop-dependency.dependents = search rules in
    let grows : c.push.new.self ≡ get_or c.loop-dependency.dependents
    (get_or c.args.dependencies.now c.loop-dependency.dependency-index 0) [] ++ c.args.item ∷ [] =
    search (rules, get_or_default) in
    let more : times (take (c.loop-dependency.dependency-index + 1) c.args.dependencies.now) on ≡ times
    (take c.loop-dependency.dependency-index c.args.dependencies.now) on + cond
    (get_or c.args.dependencies.now c.loop-dependency.dependency-index 0 == on) 1 0 =
    times_take c.args.dependencies.now c.loop-dependency.dependency-index on c.loop-dependency-test.true in
    let grown : times
    (dependents_of
    (set c.loop-dependency.dependents (get_or c.args.dependencies.now c.loop-dependency.dependency-index 0)
    c.push.new.self) on) other ≡ times (dependents_of c.loop-dependency.dependents on) other + cond
    (c.args.item == other) (cond (get_or c.args.dependencies.now c.loop-dependency.dependency-index 0 == on) 1 0) 0 =
    one_more c.loop-dependency.dependents c.push.new.self
    (get_or c.args.dependencies.now c.loop-dependency.dependency-index 0) c.args.item on other within grows in
    grind (arith, nat_tests, more, grown, c.loop-dependency.invariant on other)
