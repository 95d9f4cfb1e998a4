use Rattle.std.proofs.Common.{rules, ◌∙◌, ◌<◌, length, None, sym, ap}
use Rattle.std.proofs.lemmas.List.{length-set}
use Rattle.cat_except.specs.inside.Linked.{with_pairs}
use Rattle.cat_except.proofs.Pairs.{pairs_none, add_step}
use Rattle.cat_except.proofs.linked.add_exceptions.Goals as goal

pub loop-group-preserved-in_default : goal.loop-group-preserved-in_default
loop-group-preserved-in_default c = (
  c.loop-group.invariant.0,
  λ lists is. c.loop-group.invariant.1 lists is
      ∙ ap (λ ps. with_pairs ps 0 lists)
      (sym (pairs_none c.args.excepted.now c.loop-group.group None c.loop-group-test.true c.in_default.is)),
)

pub loop-group-preserved : goal.loop-group-preserved
loop-group-preserved c =
    let low : c.in-Some.target < length c.args.groups.now =
    c.requires.within c.loop-group.group c.in-Some.target c.in-Some.is in (
      search (rules, length-set),
      λ lists is.
          add_step c.args.excepted.now c.loop-group.group c.in-Some.target None c.args.groups.now c.loop-group.groups
          c.index-groups-target.result c.push.new.self lists c.loop-group-test.true c.in-Some.is low
          c.in_ok-push.ensures.ok is (c.loop-group.invariant.1 lists is),
    )
