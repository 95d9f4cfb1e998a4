-- Definitions beside positions in the same order, as the code goes through them.
use Rattle.std.specs.Prelude.{ℕ, List, [], ◌∷◌, ◌++◌, if◌then◌else◌}
use Rattle.cat_pos.specs.declared.pos.Pos.{Pos}
use Rattle.cat_guard.specs.declared.guard.GuardDef.{GuardDef}
use Rattle.cat_guard.specs.declared.table.TableTarget.{TableTarget}
use Rattle.cat_dead.specs.Winners.{is_same}
use Rattle.cat_app.specs.DeadChecks.{never_line}

-- the lines of those definitions of a target that stand at the next of some positions
abbrev pub target_beside : List (List ℕ) → List ℕ → List GuardDef → List Pos → List ℕ
target_beside files name [] ps = []
target_beside files name (d ∷ ds) [] = []
target_beside files name (d ∷ ds) (p ∷ ps) =
    if is_same d.pos p then never_line files name d.pos ++ target_beside files name ds ps
    else target_beside files name ds (p ∷ ps)

-- the positions that are left behind them
abbrev pub left_beside : List GuardDef → List Pos → List Pos
left_beside [] ps = ps
left_beside (d ∷ ds) [] = []
left_beside (d ∷ ds) (p ∷ ps) = if is_same d.pos p then left_beside ds ps else left_beside ds (p ∷ ps)

-- the lines of some targets, one behind the other
abbrev pub lines_beside : List (List ℕ) → List TableTarget → List Pos → List ℕ
lines_beside files [] ps = []
lines_beside files (t ∷ ts) ps =
    target_beside files t.name t.defs ps ++ lines_beside files ts (left_beside t.defs ps)
