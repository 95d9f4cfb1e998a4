use Rattle.std.proofs.Common.{List, IsTrue, sym, subst, rules}
use Rattle.std.specs.Prelude.{IfSome}
use Rattle.cat_guard.specs.declared.table.Atom.{Atom}
use Rattle.cat_guard.specs.Judged.{answers_in, judged_in}
use Rattle.cat_guard.specs.Live.{lives_verdict, IsLiveOf}
use Rattle.cat_guard.specs.inside.Found.{Finds}
use Rattle.cat_guard.specs.inside.Telling.{are_cuts_of}
use Rattle.cat_guard.proofs.LiveLaws.{self_kept}
use Rattle.cat_guard.proofs.RegionLaws.{cuts_of, sound_atoms}
use Rattle.cat_guard.proofs.living.living.Goals as goal

pub live_groups-requires-clause-cuts : goal.live_groups-requires-clause-cuts
live_groups-requires-clause-cuts c =
    let table = c.args.table.now in
    subst (λ (atoms : List Atom). IsTrue (are_cuts_of c.args.region.now.dims atoms)) (sym c.as_slice-atoms.ensures)
    (cuts_of c.args.region.now.dims table.terms table.atoms c.requires.dims
    (sound_atoms table.terms table.atoms table.targets (search rules)))

pub live_groups-requires-clause-named : goal.live_groups-requires-clause-named
live_groups-requires-clause-named c =
    let answers = answers_in c.args.table.now.atoms c.args.region.now in
    let live : IsLiveOf c.at-target.result.now answers c.args.live.now =
    subst (λ o. IfSome o (λ t. IsLiveOf t answers c.args.live.now)) c.at-target.ensures c.requires.live in
    live.named

pub returns : goal.returns
returns c =
    let region = c.args.region.now in
    let answers = answers_in c.args.table.now.atoms region in
    let t = c.at-target.result.now in
    let found = c.live_groups.result in
    let live : IsLiveOf t answers c.args.live.now =
    subst (λ o. IfSome o (λ t. IsLiveOf t answers c.args.live.now)) c.at-target.ensures c.requires.live in
    subst (λ o. IfSome o (λ x. Finds answers x (judged_in c.args.table.now.atoms region x) found))
    (sym c.at-target.ensures)
    (subst (λ w. Finds answers t w found) (live.judged answers (self_kept answers))
    (subst (λ (atoms : List Atom). Finds (answers_in atoms region) t
    (lives_verdict t (answers_in atoms region) c.args.live.now) found) c.as_slice-atoms.ensures c.live_groups.ensures))
