use Rattle.std.proofs.Common.{◌≡◌, ◌<◌, true, All, length, sym, subst, ◌∙◌}
use Rattle.cat_scope.specs.Groups.{exceptions_of}
use Rattle.cat_scope.specs.Chains.{is_within, longest_chain}
use Rattle.cat_calc.specs.inside.Numbered.{groups_in}
use Rattle.cat_calc.proofs.Chains.{roots_there, roots_short}
use Rattle.cat_calc.proofs.terms.target_term.Goals as goal

pub group_terms-requires-clause-there : goal.group_terms-requires-clause-there
group_terms-requires-clause-there c =
    subst (All (λ n. n < length c.args.forest.now.groups)) (sym (c.as_slice.ensures ∙ c.in_ok-roots.ensures))
    (roots_there (groups_in c.args.defs.now c.args.forest.now.target) c.args.forest.now.groups c.requires.stands)

pub group_terms-requires-clause-short : goal.group_terms-requires-clause-short
group_terms-requires-clause-short c =
    let groups = groups_in c.args.defs.now c.args.forest.now.target in
    subst (All (λ n. is_within (exceptions_of groups) longest_chain n ≡ true))
    (sym (c.as_slice.ensures ∙ c.in_ok-roots.ensures)) (roots_short groups c.requires.low)
