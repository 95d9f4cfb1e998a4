use Rattle.std.proofs.Common.{◌≡◌, ◌<◌, ◌-◌, true, [], All, Some, map, length, drop, slice_get}
use Rattle.std.proofs.Common.{sym, subst, ap, ◌∙◌, arith}
use Rattle.cat_scope.specs.Chains.{is_within}
use Rattle.std.proofs.lemmas.List.{drop_all}
use Rattle.cat_guard.specs.Judged.{answers_in}
use Rattle.cat_guard.specs.Soundness.{above}
use Rattle.cat_guard.specs.Verdicts.{listed, def_verdict, own_verdict, group_verdict}
use Rattle.cat_guard.specs.inside.Found.{Finds}
use Rattle.cat_guard.proofs.CountLaws.{one_counted, all_counted}
use Rattle.cat_guard.proofs.GroupLaws.{has_room, reached, group_is, found_own, found_above}
use Rattle.cat_guard.proofs.judge.+group.Goals as goal

pub judged_group-overflow_sub-room : goal.judged_group-overflow_sub-room
judged_group-overflow_sub-room t c =
    omega (arith, has_room c.args.target.now c.args.room c.args.number c.requires.short)

pub judged_group-judged_groups-requires : goal.judged_group-judged_groups-requires
judged_group-judged_groups-requires t c =
    let found = reached (length c.args.atoms.now) c.args.target.now c.args.room c.args.number c.at-group.result.now
    c.requires.sound c.at-group.ensures c.requires.short in (
      omega (arith, has_room c.args.target.now c.args.room c.args.number c.requires.short),
      (
        c.requires.cuts,
        (
          c.requires.sound,
          (
            subst (All (λ e. e < length c.args.target.now.groups)) (sym c.as_slice.ensures) found.there,
            subst (All (λ e. is_within (above c.args.target.now.groups) (c.args.room - 1) e ≡ true))
                (sym c.as_slice.ensures) found.short,
          ),
        ),
      ),
    )

pub judged_group-judged_defs-requires-clause-numbers : goal.judged_group-judged_defs-requires-clause-numbers
judged_group-judged_defs-requires-clause-numbers t c =
    let found = reached (length c.args.atoms.now) c.args.target.now c.args.room c.args.number c.at-group.result.now
    c.requires.sound c.at-group.ensures c.requires.short in
    subst (All (λ d. d < length c.args.target.now.defs)) (sym c.as_slice-in-Empty.ensures) found.defs

pub judged_group-returns-in-Empty : goal.judged_group-returns-in-Empty
judged_group-returns-in-Empty t c =
    let answers = answers_in c.args.atoms.now c.args.region.now in
    let target = c.args.target.now in
    let group = c.at-group.result.now in
    subst (λ w. Finds answers target w c.judged_defs.result)
    (sym (group_is answers target c.args.room c.args.number group c.at-group.ensures c.requires.short))
    (found_own answers target (listed (map (group_verdict target answers (c.args.room - 1)) group.excepted_by))
    (own_verdict target answers (Some group)) c.judged_defs.result
    (ap (λ ns. listed (map (group_verdict target answers (c.args.room - 1)) ns)) (sym c.as_slice.ensures)
    ∙ c.in-Empty.ensures)
    (subst (λ ns. Finds answers target (listed (map (λ d. def_verdict answers d (slice_get target.defs d)) ns))
    c.judged_defs.result) c.as_slice-in-Empty.ensures c.judged_defs.ensures))

pub judged_group-returns-in_default : goal.judged_group-returns-in_default
judged_group-returns-in_default t c =
    let answers = answers_in c.args.atoms.now c.args.region.now in
    let target = c.args.target.now in
    let group = c.at-group.result.now in
    subst (λ w. Finds answers target w c.judged_groups.result)
    (sym (group_is answers target c.args.room c.args.number group c.at-group.ensures c.requires.short))
    (found_above answers target (listed (map (group_verdict target answers (c.args.room - 1)) group.excepted_by))
    (own_verdict target answers (Some group)) c.judged_groups.result c.in_default.not-Empty
    (subst (λ ns. Finds answers target (listed (map (group_verdict target answers (c.args.room - 1)) ns))
    c.judged_groups.result) c.as_slice.ensures c.judged_groups.ensures))

pub judged_groups-loop-number-preserved : goal.judged_groups-loop-number-preserved
judged_groups-loop-number-preserved t c =
    let more = one_counted (answers_in c.args.atoms.now c.args.region.now) c.args.target.now
    (group_verdict c.args.target.now (answers_in c.args.atoms.now c.args.region.now) c.args.room) c.args.numbers.now
    c.loop-number.number-index c.loop-number.tally c.with_member-tally.result c.judged_group.result
    (omega (arith, c.loop-number-test.true)) c.with_member-tally.ensures c.judged_group.ensures
    c.loop-number.invariant.total c.loop-number.invariant.needs in
    record { total = more.0; needs = more.1 }

pub judged_groups-returns : goal.judged_groups-returns
judged_groups-returns t c =
    let gone : drop c.loop-number.number-index c.args.numbers.now ≡ [] =
    drop_all c.loop-number.number-index c.args.numbers.now (omega (arith, c.loop-number-test.false)) in
    all_counted (answers_in c.args.atoms.now c.args.region.now) c.args.target.now
    (group_verdict c.args.target.now (answers_in c.args.atoms.now c.args.region.now) c.args.room) c.args.numbers.now
    c.loop-number.number-index c.loop-number.tally c.total.result gone c.loop-number.invariant.total
    (c.total.ensures (answers_in c.args.atoms.now c.args.region.now) c.args.target.now c.loop-number.invariant.needs)
