-- What the lines of a certificate are read as.
use Rattle.std.proofs.Common.{◌≡◌, ℕ, suc, ◌+◌, List, [], ◌∷◌, ◌++◌, length, map, refl, sym, ap, ◌∙◌, arith}
use Rattle.std.proofs.Common.{length-append}
use Rattle.std.proofs.lemmas.List.{map-append, length-map}
use Rattle.std.specs.Prelude.{codes}
use Rattle.cat_guard.specs.declared.tree.CitedNode.{CitedNode}
use Rattle.cat_guard.specs.declared.tree.CitedTree.{CitedTree}
use Rattle.cat_cert.specs.declared.certificate.Version.{Version}
use Rattle.cat_cert.specs.declared.certificate.Version.TheVariants as version
use Rattle.cat_cert.specs.Lines.{Due, ScopeDue, TargetDue, heading_line, node_line, named_lines, tree_lines}
use Rattle.cat_cert.specs.Lines.{due_lines, list_heads}
use Rattle.cat_cert.specs.inside.LineForms.{name_line}
use Rattle.cat_cert.specs.inside.Steps.{Item, Plain, Node}
use Rattle.cat_cert.proofs.StepLemmas.{item_line}

-- named trees, of which the first has that number
abbrev pub named_items : ℕ → List (List CitedNode) → List Item
named_items i [] = []
named_items i (nodes ∷ more) = Plain (name_line i) ∷ (map Node nodes ++ named_items (suc i) more)

-- a tree
abbrev pub tree_items : Version → CitedTree → List Item
tree_items version.One tree = map Node tree.main
tree_items version.Two tree = named_items 0 tree.names ++ Plain (codes "tree") ∷ map Node tree.main

-- what is due
abbrev pub due_items : Version → List Due → List CitedTree → List Item
due_items v [] trees = Plain (codes "end") ∷ []
due_items v (ScopeDue name ∷ dues) trees = Plain (heading_line (ScopeDue name)) ∷ due_items v dues trees
due_items v (TargetDue t ∷ dues) [] = []
due_items v (TargetDue t ∷ dues) (tree ∷ trees) =
    Plain (heading_line (TargetDue t)) ∷ (tree_items v tree ++ due_items v dues trees)

-- ---- their lines

pub node_items_lines : (nodes : List CitedNode) → map item_line (map Node nodes) ≡ map node_line nodes
node_items_lines [] = refl
node_items_lines (n ∷ nodes) = ap (λ ls. node_line n ∷ ls) (node_items_lines nodes)

named_items_lines : (i : ℕ) (names : List (List CitedNode)) → map item_line (named_items i names) ≡ named_lines i names
named_items_lines i [] = refl
named_items_lines i (nodes ∷ more) =
    ap (λ ls. name_line i ∷ ls) (map-append item_line (map Node nodes) (named_items (suc i) more)
    ∙ ap (λ ls. ls ++ map item_line (named_items (suc i) more)) (node_items_lines nodes)
    ∙ ap (λ ls. map node_line nodes ++ ls) (named_items_lines (suc i) more))

tree_items_lines : (v : Version) (tree : CitedTree) → map item_line (tree_items v tree) ≡ tree_lines v tree
tree_items_lines version.One tree = node_items_lines tree.main
tree_items_lines version.Two tree =
    map-append item_line (named_items 0 tree.names) (Plain (codes "tree") ∷ map Node tree.main)
    ∙ ap (λ ls. ls ++ codes "tree" ∷ map item_line (map Node tree.main)) (named_items_lines 0 tree.names)
    ∙ ap (λ ls. named_lines 0 tree.names ++ codes "tree" ∷ ls) (node_items_lines tree.main)

pub due_items_lines : (v : Version) (dues : List Due) (trees : List CitedTree)
    → map item_line (due_items v dues trees) ≡ due_lines v dues trees
due_items_lines v [] trees = refl
due_items_lines v (ScopeDue name ∷ dues) trees =
    ap (λ ls. heading_line (ScopeDue name) ∷ ls) (due_items_lines v dues trees)
due_items_lines v (TargetDue t ∷ dues) [] = refl
due_items_lines v (TargetDue t ∷ dues) (tree ∷ trees) =
    ap (λ ls. heading_line (TargetDue t) ∷ ls) (map-append item_line (tree_items v tree) (due_items v dues trees)
    ∙ ap (λ ls. ls ++ map item_line (due_items v dues trees)) (tree_items_lines v tree)
    ∙ ap (λ ls. tree_lines v tree ++ ls) (due_items_lines v dues trees))

-- as many
pub tree_items_count : (v : Version) (tree : CitedTree) → length (tree_items v tree) ≡ length (tree_lines v tree)
tree_items_count v tree =
    sym (length-map (tree_items v tree) item_line) ∙ ap length (tree_items_lines v tree)

-- ---- where the tree itself stands behind its named trees

pub heads_last : (i k : ℕ) (names : List (List CitedNode)) (main : List CitedNode)
    → list_heads k (names ++ main ∷ []) ≡ list_heads k names ++ (k + length (named_items i names)) ∷ []
heads_last i k [] main = ap (λ (n : ℕ). n ∷ []) (omega arith)
heads_last i k (nodes ∷ more) main =
    let count = length-append (map Node nodes) (named_items (suc i) more) in
    let nodes_count = length-map nodes Node in
    let same : (suc k + length nodes) + length (named_items (suc i) more) ≡ k + length (named_items i (nodes ∷ more)) =
    omega (arith, count, nodes_count) in
    ap (λ hs. k ∷ hs) (heads_last (suc i) (suc k + length nodes) more main)
    ∙ ap (λ (n : ℕ). k ∷ list_heads (suc k + length nodes) more ++ n ∷ []) same
