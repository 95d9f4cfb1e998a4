use Rattle.std.proofs.Common.{◌≡◌, ◌<◌, ◌^◌, ◌||◌, drop}
use Rattle.std.specs.List.{list_any}
use Rattle.cat_pos.specs.declared.pos.Pos.{Pos}
use Rattle.cat_dead.specs.Winners.{is_same}
use Rattle.cat_dead.specs.inside.Keys.{has_key}
use Rattle.cat_dead.proofs.winning.keys_of.Given as goal

-- the positions so far and those to come
abbrev pub invariant-loop-pos : goal.invariant-loop-pos
invariant-loop-pos l =
    (p : Pos) → p.place < 2 ^ 32
    → (has_key l.keys p || list_any (is_same p) (drop l.pos-index l.positions)) ≡ list_any (is_same p) l.positions
