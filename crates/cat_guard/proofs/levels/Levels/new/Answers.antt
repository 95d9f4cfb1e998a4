use Rattle.std.proofs.Common.{slice_get, sym, subst}
use Rattle.std.specs.Prelude.{ℕ, Bool, Option}
use Rattle.cat_guard.specs.Conjuncts.{AreOfDefs}
use Rattle.cat_guard.specs.Live.{IsLiveOf}
use Rattle.cat_guard.specs.Levels.{AreLevels}
use Rattle.cat_guard.proofs.ResultLemmas.{both_some, if_some}
use Rattle.cat_guard.proofs.levels.Levels.new.Goals as goal

pub returns : goal.returns
returns c =
    let target = slice_get c.args.table.now.targets c.args.target in
    let both = both_some (λ t. AreOfDefs t.defs c.in_ok-conjuncts.conjuncts)
    (λ t. (answers : ℕ → Option Bool) → IsLiveOf t answers c.in_ok-whole.whole) target c.in_ok-conjuncts.ensures
    c.in_ok-whole.ensures in
    if_some target both (λ t both atoms region. record {
      conjuncts = both.0;
      whole = both.1;
      levels = subst (λ ls. AreLevels atoms t region ls) (sym c.new.ensures) tt;
    })
