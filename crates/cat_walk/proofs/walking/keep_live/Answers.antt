use Rattle.std.proofs.Common.{slice_get}
use Rattle.cat_guard.specs.Live.{IsLiveOf}
use Rattle.cat_guard.specs.Judged.{answers_in}
use Rattle.cat_guard.specs.Levels.{AreLiveTo}
use Rattle.cat_guard.proofs.Exported.{both_some, on_ok_some}
use Rattle.cat_walk.proofs.walking.keep_live.Goals as goal

pub returns : goal.returns
returns c =
    let table = c.args.table.now in
    let target = slice_get table.targets c.args.target in
    on_ok_some _ _ c.keep.result target
    (both_some (λ t. IsLiveOf t (answers_in table.atoms c.args.region.now) c.in_ok-live.live)
    (λ t. AreLiveTo table.atoms t c.args.region.now c.args.levels.now) target c.in_ok-live.ensures c.requires.live)
    (λ t both. c.keep.ensures table.atoms t both.0 both.1)
