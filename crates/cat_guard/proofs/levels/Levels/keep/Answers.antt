use Rattle.std.proofs.Common.{sym, subst}
use Rattle.cat_guard.proofs.ResultLemmas.{on_ok}
use Rattle.cat_guard.specs.Levels.{AreLevels}
use Rattle.cat_guard.proofs.LevelLemmas.{put_on}
use Rattle.cat_guard.proofs.levels.Levels.keep.Goals as goal

pub returns : goal.returns
returns c atoms t live are =
    on_ok c.push.result c.push.ensures.ok (λ same. record {
      conjuncts = are.conjuncts;
      whole = are.whole;
      levels = subst (λ ls. AreLevels atoms t c.args.region.now ls) (sym same)
          (put_on atoms t c.args.region.now
          (record { room = c.room-room.result; live = c.args.live; beside = c.beside_half-beside.result })
          c.args.self.now.levels (sym c.room-room.ensures.value) live are.levels);
    })
