use Rattle.std.proofs.Common.{slice_get}
use Rattle.cat_guard.proofs.LevelLemmas.{live_here}
use Rattle.cat_guard.proofs.ResultLemmas.{if_some}
use Rattle.cat_guard.proofs.levels.Levels.live_in.Goals as goal

pub still_live-requires-clause-conjuncts : goal.still_live-requires-clause-conjuncts
still_live-requires-clause-conjuncts c =
    if_some (slice_get c.args.table.now.targets c.args.target) c.requires.live (λ t are. are.conjuncts)

pub still_live-requires-clause-live : goal.still_live-requires-clause-live
still_live-requires-clause-live c =
    let table = c.args.table.now in
    if_some (slice_get table.targets c.args.target) c.requires.live (λ t are.
    live_here table.terms table.atoms c.narrowing_keeps_what_is_live.ensures t c.args.region.now c.live.result.now
    c.room-room.ensures.sound c.requires.dims c.requires.some
    (c.live.ensures table.atoms t c.args.region.now are))
