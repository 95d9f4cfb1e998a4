use Rattle.std.proofs.Common.{◌≡◌, ◌<◌, ◌≤◌, ◌+◌, ◌++◌, ◌∙◌, true, ℕ, List, drop, get_or, length, sym, ap}
use Rattle.std.proofs.Common.{subst, arith, rules}
use Rattle.std.proofs.lemmas.List.{drop_all}
use Rattle.cat_guard.specs.Judged.{answers_in}
use Rattle.cat_guard.specs.Soundness.{are_below}
use Rattle.cat_guard.specs.declared.live.LiveGroup.{LiveGroup}
use Rattle.cat_guard.specs.declared.live.LiveGroup.TheViews as live
use Rattle.cat_guard.specs.Live.{live_verdict, names_defs}
use Rattle.cat_guard.specs.inside.Pruned.{DefsStandFor, GroupsStandFor}
use Rattle.cat_guard.proofs.CountLaws.{item_at}
use Rattle.cat_guard.proofs.LiveLaws.{named_parts, group_stands, all_stand, left_out, put_on, all_left}
use Rattle.cat_guard.proofs.pruned.+pruned.Goals as goal

pub pruned_group-pruned_groups-requires : goal.pruned_group-pruned_groups-requires
pruned_group-pruned_groups-requires t c = (
  search (rules, arith, live.the_lemmas),
  (
    c.requires.cuts,
    ((named_parts (length c.args.target.now.defs) c.args.group.now c.requires.named).0, c.requires.conjuncts),
  ),
)

pub pruned_group-pruned_defs-requires-clause-numbers : goal.pruned_group-pruned_defs-requires-clause-numbers
pruned_group-pruned_defs-requires-clause-numbers t c =
    subst (λ (ns : List ℕ). are_below (length c.args.target.now.defs) ns ≡ true) (sym c.as_slice.ensures)
    (named_parts (length c.args.target.now.defs) c.args.group.now c.requires.named).1

pub pruned_group-returns : goal.pruned_group-returns
pruned_group-returns t c =
    let answers = answers_in c.args.atoms.now c.args.region.now in
    group_stands c.args.target.now answers c.args.group.now
    (record { excepted_by = c.in_ok-excepted_by.excepted_by; defs = c.in_ok-defs.defs })
    c.in_ok-excepted_by.ensures
    (subst (λ (ns : List ℕ). DefsStandFor c.args.target.now answers ns c.in_ok-defs.defs) c.as_slice.ensures
    c.in_ok-defs.ensures)

pub pruned_groups-loop-group-init : goal.pruned_groups-loop-group-init
pruned_groups-loop-group-init t c =
    subst (λ (left : List LiveGroup). GroupsStandFor c.args.target.now
    (answers_in c.args.atoms.now c.args.region.now) c.args.groups.now (left ++ c.args.groups.now))
    (sym c.new-left.ensures)
    (all_stand (names_defs (length c.args.target.now.defs)) (live_verdict c.args.target.now)
    (answers_in c.args.atoms.now c.args.region.now) c.args.groups.now c.requires.named)

pub pruned_groups-loop-group-preserved-then-is_gone : goal.pruned_groups-loop-group-preserved-then-is_gone
pruned_groups-loop-group-preserved-then-is_gone t c =
    let groups = c.args.groups.now in
    let i = c.loop-group.group-index in
    let group = c.group-item.result in
    let within : i < length groups = search rules in
    left_out (names_defs (length c.args.target.now.defs)) (live_verdict c.args.target.now)
    (answers_in c.args.atoms.now c.args.region.now) groups c.loop-group.left i group
    (item_at groups i group within
    (c.group-item.is ∙ ap (λ gs. get_or gs i group) c.as_slice-group-items.ensures)) c.loop-group.invariant
    (λ more kept. sym (c.in_ok-pruned.ensures.judged more kept)
    ∙ c.is_gone.ensures c.args.target.now c.if-is_gone.true more)

pub pruned_groups-loop-group-preserved : goal.pruned_groups-loop-group-preserved
pruned_groups-loop-group-preserved t c =
    let groups = c.args.groups.now in
    let i = c.loop-group.group-index in
    let group = c.group-item.result in
    let within : i < length groups = search rules in
    subst (λ (left : List LiveGroup). GroupsStandFor c.args.target.now
    (answers_in c.args.atoms.now c.args.region.now) groups (left ++ drop (i + 1) groups)) (sym c.in_ok-push.ensures.ok)
    (put_on (names_defs (length c.args.target.now.defs)) (live_verdict c.args.target.now)
    (answers_in c.args.atoms.now c.args.region.now) groups c.loop-group.left i group
    (item_at groups i group within
    (c.group-item.is ∙ ap (λ gs. get_or gs i group) c.as_slice-group-items.ensures)) c.loop-group.invariant
    c.in_ok-pruned.pruned c.in_ok-pruned.ensures.named c.in_ok-pruned.ensures.judged)

pub pruned_groups-returns : goal.pruned_groups-returns
pruned_groups-returns t c =
    let past : length c.args.groups.now ≤ c.loop-group.group-index = search rules in
    all_left (names_defs (length c.args.target.now.defs)) (live_verdict c.args.target.now)
    (answers_in c.args.atoms.now c.args.region.now) c.args.groups.now c.loop-group.left c.loop-group.group-index
    (drop_all c.loop-group.group-index c.args.groups.now past) c.loop-group.invariant
