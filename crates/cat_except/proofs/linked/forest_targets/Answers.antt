use Rattle.std.proofs.Common.{◌≡◌, ◌∙◌, List, [], ◌∷◌, ◌++◌, sym, ap, subst}
use Rattle.std.proofs.lemmas.List.{append_assoc}
use Rattle.std.specs.Vec.Iter.{into_iter_items}
use Rattle.cat_scope.specs.Names.{AllHave}
use Rattle.cat_except.specs.declared.linked.Linked.{Linked}
use Rattle.cat_except.specs.inside.Linked.{IsLinked}
use Rattle.cat_except.proofs.EachTarget.{forest_step, linked_few, linked_low}
use Rattle.cat_except.proofs.linked.forest_targets.Goals as goal

pub forest_target-requires-clause-few : goal.forest_target-requires-clause-few
forest_target-requires-clause-few c =
    linked_few c.args.defs.now c.in-Some.target
    (subst (λ (ls : List Linked). AllHave (IsLinked c.args.defs.now) ls) c.in-Some.ensures.steps.0
    c.loop-target.invariant.left).0

pub forest_target-requires-clause-within : goal.forest_target-requires-clause-within
forest_target-requires-clause-within c =
    linked_low c.args.defs.now c.in-Some.target
    (subst (λ (ls : List Linked). AllHave (IsLinked c.args.defs.now) ls) c.in-Some.ensures.steps.0
    c.loop-target.invariant.left).0

pub loop-target-preserved : goal.loop-target-preserved
loop-target-preserved c =
    let steps : into_iter_items c.loop-target.target-iterator ≡ c.in-Some.target ∷ into_iter_items c.next.new.self =
    c.in-Some.ensures.steps.0 in
    let left : AllHave (IsLinked c.args.defs.now) (c.in-Some.target ∷ into_iter_items c.next.new.self) =
    subst (λ (ls : List Linked). AllHave (IsLinked c.args.defs.now) ls) steps c.loop-target.invariant.left in
    record {
      made = forest_step c.args.defs.now c.loop-target.forest c.push.new.self c.in_ok-forest_target.field-0
          c.in-Some.target
          (into_iter_items c.loop-target.target-iterator) (into_iter_items c.next.new.self)
          (into_iter_items c.into_iter-target-iterator.result) steps left.0 c.in_ok-forest_target.ensures.target
          c.in_ok-forest_target.ensures.groups c.in_ok-push.ensures.ok c.loop-target.invariant.made;
      left = left.1;
      yielded = append_assoc c.loop-target.yielded (c.in-Some.target ∷ []) (into_iter_items c.next.new.self)
          ∙ ap (λ (ls : List Linked). c.loop-target.yielded ++ ls) (sym steps) ∙ c.loop-target.invariant.yielded;
    }
