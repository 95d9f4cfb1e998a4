use Rattle.std.proofs.Common.{◌≡◌, Some, slice_get, rules}
use Rattle.cat_pos.proofs.StackLemmas.{top_some}
use Rattle.cat_guard.proofs.LevelLemmas.{past_top}
use Rattle.cat_guard.proofs.levels.Levels.is_past.Goals as goal

pub returns-in-Some-clause-past : goal.returns-in-Some-clause-past
returns-in-Some-clause-past c =
    let at : slice_get c.args.self.now.levels 0 ≡ Some c.in-Some.level.now = search rules in
    past_top c.args.room c.args.self.now.levels c.in-Some.level.now at

pub returns-in-Some-clause-some : goal.returns-in-Some-clause-some
returns-in-Some-clause-some c so =
    let at : slice_get c.args.self.now.levels 0 ≡ Some c.in-Some.level.now = search rules in
    top_some c.args.self.now.levels c.in-Some.level.now at
