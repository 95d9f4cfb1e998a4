use Rattle.std.proofs.Common.{◌≡◌, ◌<◌, true, All, List, ℕ, Bool, Option, length, sym, subst, rules}
use Rattle.std.specs.Prelude.{IfSome}
use Rattle.cat_scope.specs.Chains.{is_within, longest_chain}
use Rattle.cat_guard.specs.Soundness.{above}
use Rattle.cat_guard.specs.Live.{IsLiveOf}
use Rattle.cat_guard.specs.inside.Whole.{AreWholeGroups}
use Rattle.cat_guard.proofs.GroupLaws.{sound_target, roots_there, roots_short}
use Rattle.cat_guard.proofs.WholeLaws.{if_ok, sound_groups, roots_live}
use Rattle.cat_guard.proofs.whole.all_live.Goals as goal

pub whole_groups-requires-clause-sound : goal.whole_groups-requires-clause-sound
whole_groups-requires-clause-sound c =
    let table = c.args.table.now in
    sound_groups (length table.atoms) c.at-target.result.now
    (sound_target table.terms table.atoms table.targets c.args.target c.at-target.result.now (search rules)
    c.at-target.ensures)

pub whole_groups-requires-clause-numbers : goal.whole_groups-requires-clause-numbers
whole_groups-requires-clause-numbers c =
    let table = c.args.table.now in
    subst (All (λ n. n < length c.at-target.result.now.groups)) (sym c.as_slice.ensures)
    (roots_there (length table.atoms) c.at-target.result.now
    (sound_target table.terms table.atoms table.targets c.args.target c.at-target.result.now (search rules)
    c.at-target.ensures))

pub whole_groups-requires-clause-short : goal.whole_groups-requires-clause-short
whole_groups-requires-clause-short c =
    let table = c.args.table.now in
    subst (All (λ n. is_within (above c.at-target.result.now.groups) longest_chain n ≡ true)) (sym c.as_slice.ensures)
    (roots_short (length table.atoms) c.at-target.result.now
    (sound_target table.terms table.atoms table.targets c.args.target c.at-target.result.now (search rules)
    c.at-target.ensures))

pub returns : goal.returns
returns c =
    let t = c.at-target.result.now in
    if_ok c.whole_groups.result c.whole_groups.ensures (λ live whole.
    subst (λ o. IfSome o (λ t. (answers : ℕ → Option Bool) → IsLiveOf t answers live)) (sym c.at-target.ensures)
    (roots_live t live
    (subst (λ (ns : List ℕ). AreWholeGroups t longest_chain ns live) c.as_slice.ensures whole)))
