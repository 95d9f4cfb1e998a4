-- How lists lie one on the other in one vector.
use Rattle.std.specs.Prelude.{◌≡◌, ◌≤◌, ℕ, List, [], ◌∷◌, take, drop}
use Rattle.cat_machine.specs.declared.layers.LayerStart.{LayerStart}

-- the lists that begin at these places of the items, the last of them first
abbrev pub layers_of : {H T : Type 0} → List (LayerStart H) → List T → List (H × List T)
layers_of [] items = []
layers_of (l ∷ ls) items = (l.head, drop l.start items) ∷ layers_of ls (take l.start items)

-- each begins behind those below, and the first at the first of so many items
abbrev pub AreNested : {H : Type 0} → List (LayerStart H) → ℕ → Type 0
AreNested [] n = n ≡ 0
AreNested (l ∷ ls) n = (l.start ≤ n) × AreNested ls l.start

-- where the list on top begins in so many items
abbrev pub start_of : {H : Type 0} → List (LayerStart H) → ℕ → ℕ
start_of [] n = n
start_of (l ∷ ls) n = l.start
