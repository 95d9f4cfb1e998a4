-- The rows of a table, and its text.
use Rattle.std.specs.Prelude.{ℕ, Bool, true, false, List, [], ◌∷◌, ◌++◌, Option, Some, None, codes, decimal}
use Rattle.std.specs.Prelude.{if◌then◌else◌}
use Rattle.cat_value.specs.declared.decls.Decls.{Decls}
use Rattle.cat_region.specs.Regions.{Constraints}
use Rattle.cat_scope.specs.Names.{scope_items}
use Rattle.cat_guard.specs.declared.table.Atom.{Atom}
use Rattle.cat_guard.specs.declared.table.Table.{Table}
use Rattle.cat_guard.specs.declared.table.TableTarget.{TableTarget}
use Rattle.cat_guard.specs.declared.tree.TreeNode.{TreeNode}
use Rattle.cat_guard.specs.Judged.{judged_in}
use Rattle.cat_guard.specs.Trees.{Tree, tree_of, answering, leaves}
use Rattle.cat_guard.specs.Trees as tree
use Rattle.cat_search.specs.declared.found.Search.{Search}
use Rattle.cat_search.specs.declared.found.Search.TheVariants as search
use Rattle.cat_search.specs.declared.way.Answer.{Answer}
use Rattle.cat_search.specs.Searched.{everything}
use Rattle.cat_table.specs.Conditions.{Naming, way_text}
use Rattle.cat_table.specs.Results.{verdict_text}

-- what a tree ends in: the answers that lead there from the root on, the region that they leave, and whether it is a
-- leaf, whose line is shown, or a rest
pub record Row : Type 0 where
  pub way : List Answer
  pub region : Constraints
  pub shown : Bool

-- a row of these
abbrev pub row : List Answer → Constraints → Bool → Row
row way region shown = record { way = way; region = region; shown = shown }

-- an answer to the atom of that number
abbrev pub answered : ℕ → Bool → Answer
answered a b = record { atom = a; yes = b }

-- the rows of a tree in preorder, in a region to which these answers lead
abbrev pub rows_from : List Atom → List Answer → Constraints → Tree → List Row
rows_from atoms way region tree.Leaf = row way region true ∷ []
rows_from atoms way region tree.Rest = row way region false ∷ []
rows_from atoms way region (tree.Split a left right) =
    rows_from atoms (way ++ answered a true ∷ []) (answering atoms region a true) left
    ++ rows_from atoms (way ++ answered a false ∷ []) (answering atoms region a false) right

-- the rows of a tree, where there is one, from the whole on
abbrev pub rows_in : Table → Option Tree → List Row
rows_in table None = []
rows_in table (Some t) = rows_from table.atoms [] (everything table.terms) t

-- the nodes of the tree that a search made
abbrev pub nodes_in : Search → List TreeNode
nodes_in (search.Closed tree bad) = tree.nodes
nodes_in (search.Spent tree bad) = tree.nodes

-- the rows of the tree that a search made
abbrev pub rows_of : Table → Search → List Row
rows_of table s = rows_in table (tree_of (nodes_in s))

-- ---- lines

-- a line, with its line feed
abbrev pub ended : List ℕ → List ℕ
ended line = line ++ 10 ∷ []

-- the line of a leaf: its region, and how the target is judged there
abbrev pub row_text : Naming → Table → TableTarget → Row → List ℕ
row_text ns table t r =
    way_text ns table.terms table.atoms r.way
    ++ (codes " : " ++ verdict_text ns t (judged_in table.atoms r.region t))

-- a row, where it is shown
abbrev pub shown_text : Naming → Table → TableTarget → Row → List ℕ
shown_text ns table t r = if r.shown then ended (row_text ns table t r) else []

-- rows
abbrev pub rows_text : Naming → Table → TableTarget → List Row → List ℕ
rows_text ns table t [] = []
rows_text ns table t (r ∷ rows) = shown_text ns table t r ++ rows_text ns table t rows

-- the first line: `table S.x`, or `table S.t.x`
abbrev pub first_line : Table → TableTarget → List ℕ
first_line table t = codes "table " ++ (table.name ++ (codes "." ++ t.name))

-- the number of leaves, where there is a tree
abbrev pub leaves_in : Option Tree → ℕ
leaves_in None = 0
leaves_in (Some t) = leaves t

-- what stands behind the lines: where leaves were spent, that the rest isn't shown, with the number of them
abbrev pub end_text : Search → List ℕ
end_text (search.Closed tree bad) = []
end_text (search.Spent tree bad) =
    ended (codes "rest not shown, budget " ++ decimal (leaves_in (tree_of tree.nodes)))

-- what names stand for in the table of a scope
abbrev pub naming : Decls → List (List ℕ) → Table → Naming
naming ds files table = record { decls = ds; items = scope_items ds table.scope; files = files }

-- the text of a target's table by a search, by what names stand for
abbrev pub table_by : Naming → Table → TableTarget → Search → List ℕ
table_by ns table t s = ended (first_line table t) ++ (rows_text ns table t (rows_of table s) ++ end_text s)

-- the text of a target's table by a search
abbrev pub table_text : Decls → List (List ℕ) → Table → TableTarget → Search → List ℕ
table_text ds files table t s = table_by (naming ds files table) table t s
