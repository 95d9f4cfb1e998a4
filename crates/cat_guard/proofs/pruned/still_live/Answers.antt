use Rattle.std.proofs.Common.{List, IsTrue, sym, subst, rules}
use Rattle.std.specs.Prelude.{IfSome}
use Rattle.cat_guard.specs.declared.table.Atom.{Atom}
use Rattle.cat_guard.specs.Judged.{answers_in}
use Rattle.cat_guard.specs.Conjuncts.{AreOfDefs}
use Rattle.cat_guard.specs.Live.{IsLiveOf}
use Rattle.cat_guard.specs.inside.Pruned.{GroupsStandFor}
use Rattle.cat_guard.specs.inside.Telling.{are_cuts_of}
use Rattle.cat_guard.proofs.LiveLaws.{live_stands}
use Rattle.cat_guard.proofs.RegionLaws.{cuts_of, sound_atoms}
use Rattle.cat_guard.proofs.WholeLaws.{if_ok}
use Rattle.cat_guard.proofs.pruned.still_live.Goals as goal

pub pruned_groups-requires-clause-cuts : goal.pruned_groups-requires-clause-cuts
pruned_groups-requires-clause-cuts c =
    let table = c.args.table.now in
    subst (λ (atoms : List Atom). IsTrue (are_cuts_of c.args.region.now.dims atoms)) (sym c.as_slice-atoms.ensures)
    (cuts_of c.args.region.now.dims table.terms table.atoms c.requires.dims
    (sound_atoms table.terms table.atoms table.targets (search rules)))

pub pruned_groups-requires-clause-named : goal.pruned_groups-requires-clause-named
pruned_groups-requires-clause-named c =
    let answers = answers_in c.args.table.now.atoms c.args.region.now in
    let live : IsLiveOf c.at-target.result.now answers c.args.live.now =
    subst (λ o. IfSome o (λ t. IsLiveOf t answers c.args.live.now)) c.at-target.ensures c.requires.live in
    live.named

pub pruned_groups-requires-clause-conjuncts : goal.pruned_groups-requires-clause-conjuncts
pruned_groups-requires-clause-conjuncts c =
    subst (λ o. IfSome o (λ t. AreOfDefs t.defs c.args.conjuncts.now)) c.at-target.ensures c.requires.conjuncts

pub returns : goal.returns
returns c =
    let answers = answers_in c.args.table.now.atoms c.args.region.now in
    let t = c.at-target.result.now in
    let live : IsLiveOf t answers c.args.live.now =
    subst (λ o. IfSome o (λ t. IsLiveOf t answers c.args.live.now)) c.at-target.ensures c.requires.live in
    if_ok c.pruned_groups.result c.pruned_groups.ensures (λ left stand.
    subst (λ o. IfSome o (λ t. IsLiveOf t answers left)) (sym c.at-target.ensures)
    (live_stands t answers c.args.live.now left live
    (subst (λ (atoms : List Atom). GroupsStandFor t (answers_in atoms c.args.region.now) c.args.live.now left)
    c.as_slice-atoms.ensures stand)))
