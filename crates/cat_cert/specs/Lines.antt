-- The lines of a certificate, each without its line feed.
use Rattle.std.specs.Prelude.{ℕ, suc, ◌+◌, List, [], ◌∷◌, ◌++◌, map, length, codes, decimal}
use Rattle.cat_guard.specs.declared.table.Table.{Table}
use Rattle.cat_guard.specs.declared.table.TableTarget.{TableTarget}
use Rattle.cat_guard.specs.declared.tree.CitedNode.{CitedNode}
use Rattle.cat_guard.specs.declared.tree.CitedNode.TheVariants as cited
use Rattle.cat_guard.specs.declared.tree.CitedTree.{CitedTree}
use Rattle.cat_cert.specs.declared.certificate.Version.{Version}
use Rattle.cat_cert.specs.declared.certificate.Version.TheVariants as version

-- ---- trees

-- a node
abbrev pub node_line : CitedNode → List ℕ
node_line (cited.Split a) = codes "split " ++ decimal a
node_line cited.Leaf = codes "leaf"
node_line (cited.Cite i) = codes "cite " ++ decimal i

-- named trees, of which the first has that number, each behind its name
abbrev pub named_lines : ℕ → List (List CitedNode) → List (List ℕ)
named_lines i [] = []
named_lines i (nodes ∷ more) = (codes "name " ++ decimal i) ∷ map node_line nodes ++ named_lines (suc i) more

-- a tree: its nodes alone, or in version 2 its named trees before them
abbrev pub tree_lines : Version → CitedTree → List (List ℕ)
tree_lines version.One tree = map node_line tree.main
tree_lines version.Two tree = named_lines 0 tree.names ++ codes "tree" ∷ map node_line tree.main

-- ---- scopes and targets

-- what is due in a certificate: the name of a scope, or a target with its tree
pub data Due : Type 0 where
  ScopeDue : List ℕ → Due
  TargetDue : TableTarget → Due

-- what is due for tables: each scope's name, and then its targets
abbrev pub dues_of : List Table → List Due
dues_of [] = []
dues_of (table ∷ tables) = ScopeDue table.name ∷ map TargetDue table.targets ++ dues_of tables

-- the targets of tables, in their order
abbrev pub targets_of : List Table → List TableTarget
targets_of [] = []
targets_of (table ∷ tables) = table.targets ++ targets_of tables

-- the word that something due begins with
abbrev pub heading_word : Due → List ℕ
heading_word (ScopeDue name) = codes "scope "
heading_word (TargetDue t) = codes "var "

-- and the name behind it
abbrev pub due_name : Due → List ℕ
due_name (ScopeDue name) = name
due_name (TargetDue t) = t.name

-- both, as a line
abbrev pub heading_line : Due → List ℕ
heading_line due = heading_word due ++ due_name due

-- ---- the whole

-- the number of a version
abbrev pub version_number : Version → ℕ
version_number version.One = 1
version_number version.Two = 2

-- what the first line begins with
abbrev pub first_words : List ℕ
first_words = codes "catala-certificate"

-- the first line
abbrev pub first_line : Version → List ℕ
first_line v = first_words ++ codes " " ++ decimal (version_number v)

-- what is due, each target with its tree, and the last line
abbrev pub due_lines : Version → List Due → List CitedTree → List (List ℕ)
due_lines v [] trees = codes "end" ∷ []
due_lines v (ScopeDue name ∷ dues) trees = heading_line (ScopeDue name) ∷ due_lines v dues trees
due_lines v (TargetDue t ∷ dues) [] = []
due_lines v (TargetDue t ∷ dues) (tree ∷ trees) =
    heading_line (TargetDue t) ∷ tree_lines v tree ++ due_lines v dues trees

-- the lines of a certificate with these trees, one for each target of the tables
abbrev pub certificate_lines : Version → List Table → List CitedTree → List (List ℕ)
certificate_lines v tables trees = first_line v ∷ due_lines v (dues_of tables) trees

-- ---- where they stand

-- the line before each of some lists, of which the first is that one
abbrev pub list_heads : ℕ → List (List CitedNode) → List ℕ
list_heads n [] = []
list_heads n (nodes ∷ more) = n ∷ list_heads (suc n + length nodes) more

-- the line before each list of a tree, where its target's line is that one
abbrev pub tree_heads : Version → ℕ → CitedTree → List ℕ
tree_heads version.One n tree = list_heads n (tree.main ∷ [])
tree_heads version.Two n tree = list_heads (suc n) (tree.names ++ tree.main ∷ [])

-- the same of each tree, where the first line of what is due is that one
abbrev pub due_heads : Version → ℕ → List Due → List CitedTree → List (List ℕ)
due_heads v n [] trees = []
due_heads v n (ScopeDue name ∷ dues) trees = due_heads v (suc n) dues trees
due_heads v n (TargetDue t ∷ dues) [] = []
due_heads v n (TargetDue t ∷ dues) (tree ∷ trees) =
    tree_heads v n tree ∷ due_heads v (suc n + length (tree_lines v tree)) dues trees
