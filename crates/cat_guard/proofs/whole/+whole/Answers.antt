use Rattle.std.proofs.Common.{◌≡◌, ◌<◌, ◌-◌, ◌+◌, ◌∙◌, ℕ, List, true, All, length, get_or, refl, sym, subst, arith}
use Rattle.std.proofs.lemmas.List.{drop_more, drop_all}
use Rattle.cat_scope.specs.Chains.{is_within}
use Rattle.cat_guard.specs.Soundness.{above}
use Rattle.cat_guard.specs.declared.live.LiveGroup.{LiveGroup}
use Rattle.cat_guard.specs.inside.Whole.{AreWholeGroups}
use Rattle.cat_guard.proofs.GroupLaws.{has_room}
use Rattle.cat_guard.proofs.WholeLaws.{names, group_whole, AreMade, more_made, all_made}
use Rattle.cat_guard.proofs.whole.+whole.Goals as goal

pub whole_group-overflow_sub-room : goal.whole_group-overflow_sub-room
whole_group-overflow_sub-room t c =
    omega (arith, has_room c.args.target.now c.args.room c.args.number c.requires.short)

pub whole_group-whole_groups-requires : goal.whole_group-whole_groups-requires
whole_group-whole_groups-requires t c =
    let named = names c.args.target.now c.args.room c.args.number c.at-group.result.now c.requires.sound
    c.at-group.ensures c.requires.short in (
      omega (arith, has_room c.args.target.now c.args.room c.args.number c.requires.short),
      (
        c.requires.sound,
        (
          subst (All (λ e. e < length c.args.target.now.groups)) (sym c.as_slice.ensures) named.there,
          subst (All (λ e. is_within (above c.args.target.now.groups) (c.args.room - 1) e ≡ true))
              (sym c.as_slice.ensures) named.short,
        ),
      ),
    )

pub whole_group-returns : goal.whole_group-returns
whole_group-returns t c =
    let named = names c.args.target.now c.args.room c.args.number c.at-group.result.now c.requires.sound
    c.at-group.ensures c.requires.short in
    group_whole c.args.target.now c.args.room c.args.number c.at-group.result.now
    (record { excepted_by = c.in_ok-excepted_by.excepted_by; defs = c.in_ok-defs.defs }) c.at-group.ensures
    c.requires.short named.defs
    (subst (λ (ns : List ℕ). AreWholeGroups c.args.target.now (c.args.room - 1) ns c.in_ok-excepted_by.excepted_by)
    c.as_slice.ensures c.in_ok-excepted_by.ensures)
    (c.in_ok-defs.ensures ∙ c.as_slice-2.ensures)

pub whole_groups-loop-number-init : goal.whole_groups-loop-number-init
whole_groups-loop-number-init t c =
    subst (λ (groups : List LiveGroup). AreMade c.args.target.now c.args.room c.args.numbers.now 0 groups)
    (sym c.new-groups.ensures) (record { named = refl; judged = λ answers. refl })

pub whole_groups-loop-number-preserved : goal.whole_groups-loop-number-preserved
whole_groups-loop-number-preserved t c =
    let numbers = c.args.numbers.now in
    let i = c.loop-number.number-index in
    subst (λ (groups : List LiveGroup). AreMade c.args.target.now c.args.room numbers (i + 1) groups)
    (sym c.in_ok-push.ensures.ok)
    (more_made c.args.target.now c.args.room numbers i (get_or numbers i 0) c.loop-number.groups c.in_ok-made.made
    (drop_more numbers i 0 c.loop-number-test.true) c.loop-number.invariant c.in_ok-made.ensures)

pub whole_groups-returns : goal.whole_groups-returns
whole_groups-returns t c =
    all_made c.args.target.now c.args.room c.args.numbers.now c.loop-number.number-index c.loop-number.groups
    (drop_all c.loop-number.number-index c.args.numbers.now (omega (arith, c.loop-number-test.false)))
    c.loop-number.invariant
