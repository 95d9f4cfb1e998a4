use Rattle.std.proofs.Common.{◌≡◌, ◌<◌, true, IsTrue, All, IfSome, List, ℕ, map, length, sym, subst, rules}
use Rattle.cat_scope.specs.Chains.{is_within, longest_chain}
use Rattle.cat_guard.specs.declared.table.Atom.{Atom}
use Rattle.cat_guard.specs.Judged.{answers_in, judged_in}
use Rattle.cat_guard.specs.Soundness.{above, target_is_sound}
use Rattle.cat_guard.specs.Verdicts.{listed, group_verdict}
use Rattle.cat_guard.specs.inside.Telling.{are_cuts_of}
use Rattle.cat_guard.specs.inside.Found.{Finds}
use Rattle.cat_guard.proofs.RegionLaws.{cuts_of, sound_atoms}
use Rattle.cat_guard.proofs.GroupLaws.{sound_target, roots_there, roots_short}
use Rattle.cat_guard.proofs.judge.judged.Goals as goal

pub judged_groups-requires-clause-cuts : goal.judged_groups-requires-clause-cuts
judged_groups-requires-clause-cuts c =
    let table = c.args.table.now in
    subst (λ (atoms : List Atom). IsTrue (are_cuts_of c.args.region.now.dims atoms)) (sym c.as_slice-atoms.ensures)
    (cuts_of c.args.region.now.dims table.terms table.atoms c.requires.dims
    (sound_atoms table.terms table.atoms table.targets (search rules)))

pub judged_groups-requires-clause-sound : goal.judged_groups-requires-clause-sound
judged_groups-requires-clause-sound c =
    let table = c.args.table.now in
    subst (λ (atoms : List Atom). IsTrue (target_is_sound (length atoms) c.at-target.result.now))
    (sym c.as_slice-atoms.ensures)
    (sound_target table.terms table.atoms table.targets c.args.target c.at-target.result.now (search rules)
    c.at-target.ensures)

pub judged_groups-requires-clause-numbers : goal.judged_groups-requires-clause-numbers
judged_groups-requires-clause-numbers c =
    let table = c.args.table.now in
    subst (All (λ n. n < length c.at-target.result.now.groups)) (sym c.as_slice.ensures)
    (roots_there (length table.atoms) c.at-target.result.now
    (sound_target table.terms table.atoms table.targets c.args.target c.at-target.result.now (search rules)
    c.at-target.ensures))

pub judged_groups-requires-clause-short : goal.judged_groups-requires-clause-short
judged_groups-requires-clause-short c =
    let table = c.args.table.now in
    subst (All (λ n. is_within (above c.at-target.result.now.groups) longest_chain n ≡ true)) (sym c.as_slice.ensures)
    (roots_short (length table.atoms) c.at-target.result.now
    (sound_target table.terms table.atoms table.targets c.args.target c.at-target.result.now (search rules)
    c.at-target.ensures))

pub returns : goal.returns
returns c =
    let table = c.args.table.now in
    let t = c.at-target.result.now in
    let region = c.args.region.now in
    let found = c.judged_groups.result in
    subst (λ o. IfSome o (λ x. Finds (answers_in table.atoms region) x (judged_in table.atoms region x) found))
    (sym c.at-target.ensures)
    (subst (λ (ns : List ℕ). Finds (answers_in table.atoms region) t
    (listed (map (group_verdict t (answers_in table.atoms region) longest_chain) ns)) found) c.as_slice.ensures
    (subst (λ (atoms : List Atom). Finds (answers_in atoms region) t
    (listed (map (group_verdict t (answers_in atoms region) longest_chain) c.as_slice.result.now)) found)
    c.as_slice-atoms.ensures c.judged_groups.ensures))
