use Rattle.std.proofs.Common.{◌≡◌, ◌∙◌, false, sym, subst}
use Rattle.cat_guard.specs.inside.Past.{is_past}
use Rattle.cat_guard.proofs.LevelLemmas.{turned}
use Rattle.cat_guard.proofs.levels.Levels.back_to.Goals as goal

pub loop-self-preserved : goal.loop-self-preserved
loop-self-preserved c atoms t region are =
    c.drop_last.ensures.kept atoms t region (c.loop-self.invariant atoms t region are)

pub returns : goal.returns
returns c atoms t base before path at turn are =
    let now = c.loop-self.invariant atoms t before are in
    record {
      conjuncts = now.conjuncts;
      whole = now.whole;
      levels = turned atoms t base before c.args.region.now path c.loop-self.self.levels at turn
          (subst (λ n. is_past n c.loop-self.self.levels ≡ false) c.room-room.ensures.value
          (sym c.is_past.ensures.past ∙ c.loop-self-test.false)) now.levels;
    }
