-- What comes of a value that is loaded.
use Rattle.std.specs.Prelude.{◌≡◌, ℕ, ◌+◌, List, [], ◌∷◌, length, map, take, Option, Some, None}
use Rattle.cat_value.specs.declared.value.Value.{Value}
use Rattle.cat_value.specs.declared.value.Value.TheOpen.{Value-F}
use Rattle.cat_value.specs.declared.value.Value.TheFolds.{fold-Value}
use Rattle.cat_pool.specs.Nodes.{Standing}

-- the sum of some numbers
abbrev pub sum_of : List ℕ → ℕ
sum_of [] = 0
sum_of (n ∷ ns) = n + sum_of ns

-- the nodes of a content, where there is one
abbrev pub content_count : Option ℕ → ℕ
content_count None = 0
content_count (Some n) = n

-- one level of a value, with the number of nodes of each part in its place
abbrev pub count_at : Value-F ℕ → ℕ
count_at (Value-F.List parts) = 1 + sum_of parts
count_at (Value-F.Structure parts) = 1 + sum_of parts
count_at (Value-F.Case k content) = 1 + content_count content
count_at _ = 1

-- the nodes of a value: one for itself, and those of each of its parts
unfoldable pub node_count : Value → ℕ
node_count = fold-Value ℕ count_at

-- the nodes of some values
abbrev pub node_counts : List Value → ℕ
node_counts vs = sum_of (map node_count vs)

-- all nodes of a pool are still there
abbrev pub Extends : List Standing → List Standing → Type 0
Extends old new = take (length old) new ≡ old
