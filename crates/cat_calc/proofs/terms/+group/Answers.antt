use Rattle.std.proofs.Common.{◌≡◌, ◌<◌, ◌-◌, true, All, map, length, sym, subst, ap, ◌∙◌, arith}
use Rattle.cat_scope.specs.Groups.{exceptions_of}
use Rattle.cat_scope.specs.Chains.{is_within}
use Rattle.cat_calc.specs.inside.Numbered.{numbered_at, groups_in}
use Rattle.cat_calc.specs.inside.Terms.{definition_term, one_of, group_term}
use Rattle.cat_calc.proofs.Chains.{has_room, reached, group_term_is}
use Rattle.cat_calc.proofs.terms.+group.Goals as goal

pub group_term-overflow_sub-room : goal.group_term-overflow_sub-room
group_term-overflow_sub-room t c =
    omega (
      arith,
      has_room (groups_in c.args.defs.now c.args.forest.now.target) c.args.room c.args.number
          c.requires.short,
    )

pub group_term-group_terms-requires : goal.group_term-group_terms-requires
group_term-group_terms-requires t c =
    let found = reached c.args.defs.now c.args.forest.now.target c.args.forest.now.groups c.args.room c.args.number
    c.at-group.result.now c.requires.stands c.requires.there c.requires.short c.at-group.ensures in (
      omega (
        arith,
        has_room (groups_in c.args.defs.now c.args.forest.now.target) c.args.room c.args.number
            c.requires.short,
      ),
      (
        c.requires.stands,
        (
          subst (All (λ e. e < length c.args.forest.now.groups)) (sym c.as_slice.ensures) found.there,
          subst (All (λ e. is_within (exceptions_of (groups_in c.args.defs.now c.args.forest.now.target))
              (c.args.room - 1) e ≡ true)) (sym c.as_slice.ensures) found.short,
        ),
      ),
    )

pub group_term-own_term-requires : goal.group_term-own_term-requires
group_term-own_term-requires t c =
    let found = reached c.args.defs.now c.args.forest.now.target c.args.forest.now.groups c.args.room c.args.number
    c.at-group.result.now c.requires.stands c.requires.there c.requires.short c.at-group.ensures in
    subst (All (λ n. n < length c.args.defs.now)) (sym c.as_slice-2.ensures) found.known.named

pub group_term-returns : goal.group_term-returns
group_term-returns t c =
    let groups = groups_in c.args.defs.now c.args.forest.now.target in
    let found = reached c.args.defs.now c.args.forest.now.target c.args.forest.now.groups c.args.room c.args.number
    c.at-group.result.now c.requires.stands c.requires.there c.requires.short c.at-group.ensures in
    group_term_is groups c.args.room c.args.number c.in_ok-exceptions.exceptions c.in_ok-own-2.own c.requires.short
    (c.in_ok-exceptions.ensures ∙ ap (map (group_term groups (c.args.room - 1)))
    (c.as_slice.ensures ∙ found.known.above))
    (c.in_ok-own-2.ensures ∙ c.in_ok-own.ensures
    ∙ ap (λ ns. one_of (map definition_term (numbered_at c.args.defs.now ns))) c.as_slice-2.ensures ∙ found.known.own)
