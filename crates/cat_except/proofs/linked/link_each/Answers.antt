use Rattle.std.proofs.Common.{◌≡◌, ◌∙◌, List, [], ◌∷◌, ◌++◌, sym, ap}
use Rattle.std.proofs.lemmas.Result.{err_from_is_err_and}
use Rattle.std.proofs.lemmas.List.{append_assoc}
use Rattle.std.specs.Vec.Iter.{into_iter_items}
use Rattle.cat_except.specs.declared.groups.Groups.{Groups}
use Rattle.cat_except.proofs.EachTarget.{cycle_here, so_far_step}
use Rattle.cat_except.proofs.linked.link_each.Goals as goal

pub returns-in_err-link-clause-cause : goal.returns-in_err-link-clause-cause
returns-in_err-link-clause-cause c =
    let p = err_from_is_err_and c.from_residual.result c.from_residual.ensures.1 in
    rw (p.1, p.2) (cycle_here c.args.defs.now c.loop-groups.linked c.in-Some.groups
    (into_iter_items c.loop-groups.groups-iterator) (into_iter_items c.next.new.self)
    (into_iter_items c.into_iter-groups-iterator.result) c.args.targets c.in_err-link.field-0.0
    c.in-Some.ensures.steps.0
    (c.into_iter-groups-iterator.ensures.into_iter_gives.0 ∙ c.into_vec-groups-items.ensures) c.loop-groups.invariant.0
    c.in_err-link.ensures.cause)

pub loop-groups-preserved : goal.loop-groups-preserved
loop-groups-preserved c =
    let steps : into_iter_items c.loop-groups.groups-iterator ≡ c.in-Some.groups ∷ into_iter_items c.next.new.self =
    c.in-Some.ensures.steps.0 in (
      so_far_step c.args.defs.now c.loop-groups.linked c.push.new.self c.in-Some.groups
          (into_iter_items c.loop-groups.groups-iterator) (into_iter_items c.next.new.self)
          (into_iter_items c.into_iter-groups-iterator.result) c.in_ok-link.field-0 steps c.loop-groups.invariant.0
          c.in_ok-link.ensures.target c.in_ok-link.ensures.lists c.in_ok-link.ensures.linked c.in_ok-push.ensures.ok,
      append_assoc c.loop-groups.yielded (c.in-Some.groups ∷ []) (into_iter_items c.next.new.self)
          ∙ ap (λ (gs : List Groups). c.loop-groups.yielded ++ gs) (sym steps) ∙ c.loop-groups.invariant.1,
    )
