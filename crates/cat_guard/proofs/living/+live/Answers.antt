use Rattle.std.proofs.Common.{◌<◌, ◌≤◌, ◌∙◌, ℕ, List, All, get_or, length, sym, ap, subst, arith, rules}
use Rattle.std.proofs.lemmas.List.{drop_all}
use Rattle.cat_guard.specs.Judged.{answers_in}
use Rattle.cat_guard.specs.declared.live.LiveGroup.TheViews as live
use Rattle.cat_guard.specs.declared.live.LiveGroup.TheViews.{out-LiveGroup}
use Rattle.cat_guard.specs.Live.{defs_verdict, live_verdict, lives_verdict}
use Rattle.cat_guard.specs.inside.Found.{Finds}
use Rattle.cat_guard.proofs.CountLaws.{item_at, member_counted, all_counted}
use Rattle.cat_guard.proofs.GroupLaws.{all_below, found_own, found_above}
use Rattle.cat_guard.proofs.LiveLaws.{live_out, named_parts}
use Rattle.cat_guard.proofs.living.+live.Goals as goal

pub live_group-live_groups-requires : goal.live_group-live_groups-requires
live_group-live_groups-requires t c = (
  search (rules, arith, live.the_lemmas),
  (c.requires.cuts, (named_parts (length c.args.target.now.defs) c.args.group.now c.requires.named).0),
)

pub live_group-judged_defs-requires-clause-numbers : goal.live_group-judged_defs-requires-clause-numbers
live_group-judged_defs-requires-clause-numbers t c =
    subst (All (λ d. d < length c.args.target.now.defs)) (sym c.as_slice.ensures)
    (all_below (length c.args.target.now.defs) (out-LiveGroup c.args.group.now).defs
    (named_parts (length c.args.target.now.defs) c.args.group.now c.requires.named).1)

pub live_group-returns-in-Empty : goal.live_group-returns-in-Empty
live_group-returns-in-Empty t c =
    let answers = answers_in c.args.atoms.now c.args.region.now in
    let target = c.args.target.now in
    let group = c.args.group.now in
    subst (λ w. Finds answers target w c.judged_defs.result) (sym (live_out target answers group))
    (found_own answers target (lives_verdict target answers (out-LiveGroup group).excepted_by)
    (defs_verdict target answers (out-LiveGroup group).defs) c.judged_defs.result c.in-Empty.ensures
    (subst (λ (ns : List ℕ). Finds answers target (defs_verdict target answers ns) c.judged_defs.result)
    c.as_slice.ensures c.judged_defs.ensures))

pub live_group-returns-in_default : goal.live_group-returns-in_default
live_group-returns-in_default t c =
    let answers = answers_in c.args.atoms.now c.args.region.now in
    let target = c.args.target.now in
    let group = c.args.group.now in
    subst (λ w. Finds answers target w c.live_groups.result) (sym (live_out target answers group))
    (found_above answers target (lives_verdict target answers (out-LiveGroup group).excepted_by)
    (defs_verdict target answers (out-LiveGroup group).defs) c.live_groups.result c.in_default.not-Empty
    c.live_groups.ensures)

pub live_groups-loop-group-preserved : goal.live_groups-loop-group-preserved
live_groups-loop-group-preserved t c =
    let answers = answers_in c.args.atoms.now c.args.region.now in
    let groups = c.args.groups.now in
    let i = c.loop-group.group-index in
    let group = c.group-item.result in
    let within : i < length groups = search rules in
    let more = member_counted answers c.args.target.now (live_verdict c.args.target.now answers) groups i
    c.loop-group.tally c.with_member-tally.result c.live_group.result group
    (item_at groups i group within (c.group-item.is ∙ ap (λ gs. get_or gs i group) c.as_slice-group-items.ensures))
    c.with_member-tally.ensures c.live_group.ensures c.loop-group.invariant.total c.loop-group.invariant.needs in
    record { total = more.0; needs = more.1 }

pub live_groups-returns : goal.live_groups-returns
live_groups-returns t c =
    let answers = answers_in c.args.atoms.now c.args.region.now in
    let groups = c.args.groups.now in
    let past : length groups ≤ c.loop-group.group-index = search rules in
    all_counted answers c.args.target.now (live_verdict c.args.target.now answers) groups c.loop-group.group-index
    c.loop-group.tally c.total.result (drop_all c.loop-group.group-index groups past) c.loop-group.invariant.total
    (c.total.ensures answers c.args.target.now c.loop-group.invariant.needs)
