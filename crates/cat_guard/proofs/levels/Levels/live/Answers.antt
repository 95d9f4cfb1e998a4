use Rattle.std.proofs.Common.{◌≡◌, Some, slice_get, rules}
use Rattle.cat_guard.proofs.LevelLemmas.{live_on_top, live_anyway}
use Rattle.cat_guard.proofs.levels.Levels.live.Goals as goal

pub returns-in-Some : goal.returns-in-Some
returns-in-Some c atoms t region are =
    let at : slice_get c.args.self.now.levels 0 ≡ Some c.in-Some.level.now = search rules in
    live_on_top atoms t region c.args.self.now.levels c.in-Some.level.now at are.levels

pub returns-in-None : goal.returns-in-None
returns-in-None c atoms t region are = live_anyway atoms t region c.args.self.now.whole are.whole
