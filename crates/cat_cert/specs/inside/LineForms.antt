-- What is read of one line: numbers, and the nodes of trees.
use Rattle.std.specs.Prelude.{ℕ, ◌+◌, ◌*◌, ◌-◌, ◌^◌, nat_eq, nat_lt, ◌==◌, ◌&&◌, not, Bool, true, false, List, []}
use Rattle.std.specs.Prelude.{◌∷◌, ◌++◌}
use Rattle.std.specs.Prelude.{Option, Some, None, length, drop, codes, decimal, if◌then◌else◌}
use Rattle.std.specs.List.{starts_with}
use Rattle.std.specs.Char.{is_ascii_digit}
use Rattle.std.specs.Str.{bytes_eq}
use Rattle.cat_guard.specs.declared.tree.CitedNode.{CitedNode}
use Rattle.cat_guard.specs.declared.tree.CitedNode.TheVariants as cited

-- the number whose digits are those of a number and then these, where it is below 2 ^ 64
unfoldable pub digits_after : List ℕ → ℕ → Option ℕ
digits_after [] n = Some n
digits_after (b ∷ bs) n =
    if is_ascii_digit b && nat_lt (n * 10 + (b - 48)) (2 ^ 64) then digits_after bs (n * 10 + (b - 48)) else None

-- no zero stands before other digits, and there are some
abbrev pub is_plain : List ℕ → Bool
is_plain [] = false
is_plain (b ∷ []) = true
is_plain (b ∷ c ∷ bs) = not (b == 48)

-- the number below 2 ^ 64 that is written so
unfoldable pub number_of : List ℕ → Option ℕ
number_of text = if is_plain text then digits_after text 0 else None

-- the number behind a word
unfoldable pub numbered : List ℕ → List ℕ → Option ℕ
numbered word line = if starts_with nat_eq line word then number_of (drop (length word) line) else None

-- a split or a citation, by what is read of it
abbrev pub node_or : Option ℕ → Option ℕ → Option CitedNode
node_or (Some a) cite = Some (cited.Split a)
node_or None (Some i) = Some (cited.Cite i)
node_or None None = None

-- the node that a line is
unfoldable pub node_of : List ℕ → Option CitedNode
node_of line =
    if bytes_eq line (codes "leaf") then Some cited.Leaf
    else node_or (numbered (codes "split ") line) (numbered (codes "cite ") line)

-- the line of the name of that number
abbrev pub name_line : ℕ → List ℕ
name_line i = codes "name " ++ decimal i

-- which list of a tree a line begins, where so many are named: the tree itself, or the next named one
abbrev pub list_begun : ℕ → List ℕ → Option Bool
list_begun count line =
    if bytes_eq line (codes "tree") then Some true
    else if bytes_eq line (name_line count) then Some false else None
