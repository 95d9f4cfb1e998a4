-- The numbers that a certificate writes can be told apart, so that it is read in one way.
use Rattle.std.proofs.Common.{◌≡◌, ℕ, zero, suc, ◌+◌, ◌^◌, ◌<◌, ◌≤◌, true, List, [], ◌∷◌, ◌++◌, map}
use Rattle.std.proofs.Common.{length, codes, decimal, Option, None, Some, slice_get, refl, sym, ap, ◌∙◌, subst, arith}
use Rattle.std.proofs.Common.{length-append}
use Rattle.std.specs.List.{list_all}
use Rattle.std.proofs.lemmas.Fmt.{decimal_injective}
use Rattle.cat_scope.specs.Names.{AllHave}
use Rattle.cat_guard.specs.declared.table.Table.{Table}
use Rattle.cat_guard.specs.declared.table.TableTarget.{TableTarget}
use Rattle.cat_guard.specs.declared.tree.CitedNode.{CitedNode}
use Rattle.cat_guard.specs.declared.tree.CitedNode.TheVariants as cited
use Rattle.cat_guard.specs.declared.tree.CitedTree.{CitedTree}
use Rattle.cat_guard.specs.Trees.{Tree, one_tree, named_before, cited_before, cited_trees_of, cited_tree_of}
use Rattle.cat_guard.specs.Trees.{name_behind, named_from, main_of}
use Rattle.cat_guard.proofs.Exported.{both_true, all_more}
use Rattle.cat_walk.specs.Walkable.{nodes_pass}
use Rattle.cat_cert.specs.declared.certificate.Version.{Version}
use Rattle.cat_cert.specs.declared.certificate.Version.TheVariants as version
use Rattle.cat_cert.specs.declared.certificate.CertTree.{CertTree}
use Rattle.cat_cert.specs.declared.certificate.Certificate.{Certificate}
use Rattle.cat_cert.specs.Lines.{Due, ScopeDue, TargetDue, dues_of, node_line, named_lines, tree_lines, first_line}
use Rattle.cat_cert.specs.Lines.{due_lines, certificate_lines, due_heads}
use Rattle.cat_cert.specs.Certified.{is_atom_of, MayName, IsTreeOf, AreTreesOf}
use Rattle.cat_cert.specs.Texts.{parted, passed_over, lines_read}
use Rattle.cat_cert.specs.Causes.{IsRead}
use Rattle.cat_cert.proofs.AtomLemmas.{AtomsBelow, atoms_below}
use Rattle.cat_cert.proofs.ReadTreeLemmas.{length-ended, lines_within}
use Rattle.cat_cert.proofs.ReadingLemmas.{HasNumber, IsNumbered, same_trees}

-- ---- citations are of earlier names

abbrev CitesBelow : ℕ → CitedNode → Type 0
CitesBelow k (cited.Split a) = Unit {0}
CitesBelow k cited.Leaf = Unit {0}
CitesBelow k (cited.Cite i) = i < k

below_length : {A : Type 0} (xs : List A) (k : ℕ) (x : A) → slice_get xs k ≡ Some x → k < length xs
below_length [] k x h = absurd (cc)
below_length (y ∷ ys) zero x h = omega arith
below_length (y ∷ ys) (suc k) x h = let rest = below_length ys k x h in omega (arith, rest)

cite_below : (names : List Tree) (i : ℕ) (us ts : List Tree) (o : Option Tree) → slice_get names i ≡ o
    → named_before o us ≡ Some ts → i < length names
cite_below names i us ts None at is = absurd (cc)
cite_below names i us ts (Some t) at is = below_length names i t at

node_below : (names : List Tree) (n : CitedNode) (us ts : List Tree) → cited_before names n (Some us) ≡ Some ts
    → CitesBelow (length names) n
node_below names (cited.Split a) us ts is = tt
node_below names cited.Leaf us ts is = tt
node_below names (cited.Cite i) us ts is = cite_below names i us ts (slice_get names i) refl is

nodes_below : (names : List Tree) (ns : List CitedNode) (ts : List Tree) → cited_trees_of names ns ≡ Some ts
    → AllHave (CitesBelow (length names)) ns
nodes_below names [] ts is = tt
nodes_below names (n ∷ ns) ts is = by (cited_trees_of names ns) (λ us h. nodes_below names ns us h) refl is
  where
    by : (o : Option (List Tree)) → ((us : List Tree) → cited_trees_of names ns ≡ Some us
        → AllHave (CitesBelow (length names)) ns) → cited_trees_of names ns ≡ o → cited_before names n o ≡ Some ts
        → AllHave (CitesBelow (length names)) (n ∷ ns)
    by None rest at is = absurd (cc)
    by (Some us) rest at is = (node_below names n us ts is, rest us at)

tree_below : (names : List Tree) (ns : List CitedNode) (o : Option (List Tree)) (t : Tree) → cited_trees_of names ns ≡ o
    → one_tree o ≡ Some t → AllHave (CitesBelow (length names)) ns
tree_below names ns None t at is = absurd (cc)
tree_below names ns (Some ts) t at is = nodes_below names ns ts at

further_below : (k m : ℕ) → k ≤ m → (n : CitedNode) → CitesBelow k n → CitesBelow m n
further_below k m up (cited.Split a) is = tt
further_below k m up cited.Leaf is = tt
further_below k m up (cited.Cite i) is = omega (arith, up, is)

all_further : (k m : ℕ) → k ≤ m → (ns : List CitedNode) → AllHave (CitesBelow k) ns → AllHave (CitesBelow m) ns
all_further k m up ns all = all_more (CitesBelow k) (CitesBelow m) ns all (further_below k m up)

-- the lists of a tree cite names below that number
abbrev ListsBelow : ℕ → List (List CitedNode) → Type 0
ListsBelow k lists = AllHave (λ ns. AllHave (CitesBelow k) ns) lists

none_named : (lists : List (List CitedNode)) (main : List CitedNode) (t : Tree)
    → main_of (named_from None lists) main ≡ Some t → ⊥
none_named [] main t is = absurd (cc)
none_named (nodes ∷ lists) main t is = none_named lists main t is

lists_below : (names : List Tree) (lists : List (List CitedNode)) (main : List CitedNode) (t : Tree)
    → main_of (named_from (Some names) lists) main ≡ Some t
    → ListsBelow (length names + length lists) (lists ++ main ∷ [])
lists_below names [] main t is = (
  all_further (length names) (length names + 0) (omega arith) main
      (tree_below names main (cited_trees_of names main) t refl is),
  tt,
)
lists_below names (nodes ∷ lists) main t is =
    by (cited_tree_of names nodes) refl (λ u h. lists_below (names ++ u ∷ []) lists main t h) is
  where
    by : (o : Option Tree) → cited_tree_of names nodes ≡ o
        → ((u : Tree) → main_of (named_from (Some (names ++ u ∷ [])) lists) main ≡ Some t
        → ListsBelow (length (names ++ u ∷ []) + length lists) (lists ++ main ∷ []))
        → main_of (named_from (name_behind names o) lists) main ≡ Some t
        → ListsBelow (length names + suc (length lists)) (nodes ∷ lists ++ main ∷ [])
    by None at rest is = absurd (none_named lists main t is)
    by (Some u) at rest is =
        let size = length-append names (u ∷ []) in
        let same : length (names ++ u ∷ []) + length lists ≡ length names + suc (length lists) =
        omega (arith, size) in (
          all_further (length names) (length names + suc (length lists)) (omega arith) nodes
              (tree_below names nodes (cited_trees_of names nodes) u refl at),
          subst (λ k. ListsBelow k (lists ++ main ∷ [])) same (rest u is),
        )

-- ---- numbers

numbered_node : (t : TableTarget) (k : ℕ) → AtomsBelow (2 ^ 64) t → k ≤ 2 ^ 64 → (ns : List CitedNode)
    → nodes_pass (is_atom_of t) ns ≡ true → AllHave (CitesBelow k) ns → AllHave HasNumber ns
numbered_node t k atoms up [] passes below = tt
numbered_node t k atoms up (cited.Split a ∷ ns) passes below =
    let two = both_true (is_atom_of t a) (nodes_pass (is_atom_of t) ns) passes in
    (atoms a two.0, numbered_node t k atoms up ns two.1 below.1)
numbered_node t k atoms up (cited.Leaf ∷ ns) passes below = (tt, numbered_node t k atoms up ns passes below.1)
numbered_node t k atoms up (cited.Cite i ∷ ns) passes below =
    let first = below.0 in
    (omega (arith, up, first), numbered_node t k atoms up ns passes below.1)

numbered_lists : (t : TableTarget) (k : ℕ) → AtomsBelow (2 ^ 64) t → k ≤ 2 ^ 64 → (names : List (List CitedNode))
    (main : List CitedNode) → list_all (nodes_pass (is_atom_of t)) (names ++ main ∷ []) ≡ true
    → ListsBelow k (names ++ main ∷ []) → AllHave (λ ns. AllHave HasNumber ns) names × AllHave HasNumber main
numbered_lists t k atoms up [] main passes below =
    let two = both_true (nodes_pass (is_atom_of t) main) true passes in
    (tt, numbered_node t k atoms up main two.0 below.0)
numbered_lists t k atoms up (nodes ∷ names) main passes below =
    let two = both_true (nodes_pass (is_atom_of t) nodes) (list_all (nodes_pass (is_atom_of t)) (names ++ main ∷ []))
    passes in
    let rest = numbered_lists t k atoms up names main two.1 below.1 in
    ((numbered_node t k atoms up nodes two.0 below.0, rest.0), rest.1)

length-named_lines : (i : ℕ) (names : List (List CitedNode)) → length names ≤ length (named_lines i names)
length-named_lines i [] = omega arith
length-named_lines i (nodes ∷ names) =
    let rest = length-named_lines (suc i) names in
    let both = length-append (map node_line nodes) (named_lines (suc i) names) in
    omega (arith, rest, both)

names_within : (v : Version) (c : CitedTree) → MayName v c.names → length c.names ≤ length (tree_lines v c)
names_within version.One c none = let size : length c.names ≡ 0 = ap length none in omega (arith, size)
names_within version.Two c none =
    let names = length-named_lines 0 c.names in
    let both = length-append (named_lines 0 c.names) (codes "tree" ∷ map node_line c.main) in
    omega (arith, names, both)

numbered_tree : (v : Version) (t : TableTarget) (c : CitedTree) → AtomsBelow (2 ^ 64) t → IsTreeOf v t c
    → length (tree_lines v c) ≤ 2 ^ 64 → IsNumbered c
numbered_tree v t c atoms is few =
    let size = names_within v c is.names in
    let both = numbered_lists t (0 + length c.names) atoms (omega (arith, few, size)) c.names c.main is.splits
    (lists_below [] c.names c.main is.whole is.stands) in
    record { names = both.0; main = both.1 }

-- the atoms of what is due have numbers
abbrev DueFits : Due → Type 0
DueFits (ScopeDue name) = Unit {0}
DueFits (TargetDue t) = AtomsBelow (2 ^ 64) t

numbered_trees : (v : Version) (dues : List Due) (cs : List CitedTree) → AllHave DueFits dues → AreTreesOf v dues cs
    → length (due_lines v dues cs) ≤ 2 ^ 64 → AllHave IsNumbered cs
numbered_trees v [] [] fit are few = tt
numbered_trees v [] (c ∷ cs) fit are few = absurd (are)
numbered_trees v (ScopeDue name ∷ dues) cs fit are few = numbered_trees v dues cs fit.1 are (omega (arith, few))
numbered_trees v (TargetDue t ∷ dues) [] fit are few = absurd (are)
numbered_trees v (TargetDue t ∷ dues) (c ∷ cs) fit are few =
    let both = length-append (tree_lines v c) (due_lines v dues cs) in (
      numbered_tree v t c fit.0 are.0 (omega (arith, few, both)),
      numbered_trees v dues cs fit.1 are.1 (omega (arith, few, both)),
    )

targets_fit : (ts : List TableTarget) (dues : List Due) → AllHave (AtomsBelow (2 ^ 64)) ts → AllHave DueFits dues
    → AllHave DueFits (map TargetDue ts ++ dues)
targets_fit [] dues one other = other
targets_fit (t ∷ ts) dues one other = (one.0, targets_fit ts dues one.1 other)

dues_fit : (tables : List Table) → AllHave (λ table. length table.atoms ≤ 2 ^ 64) tables
    → AllHave DueFits (dues_of tables)
dues_fit [] few = tt
dues_fit (table ∷ tables) few =
    let up = few.0 in (
      tt,
      targets_fit table.targets (dues_of tables)
          (all_more (AtomsBelow (length table.atoms)) (AtomsBelow (2 ^ 64)) table.targets (atoms_below table)
          (λ t below a is. let here = below a is in omega (arith, here, up))) (dues_fit tables few.1),
    )

-- ---- one certificate

same_version : (v w : Version) → first_line v ≡ first_line w → v ≡ w
same_version version.One version.One is = refl
same_version version.Two version.Two is = refl
same_version version.One version.Two is =
    let digits : decimal 1 ≡ decimal 2 = cc in
    let same = decimal_injective 1 2 (omega arith) (omega arith) digits in
    absurd (omega (arith, same))
same_version version.Two version.One is =
    let digits : decimal 2 ≡ decimal 1 = cc in
    let same = decimal_injective 2 1 (omega arith) (omega arith) digits in
    absurd (omega (arith, same))

abbrev placed_tree : CitedTree → List ℕ → CertTree
placed_tree tree heads = record { tree = tree; heads = heads }

same_placed : (cs ds : List CertTree) → map (λ c. c.tree) cs ≡ map (λ c. c.tree) ds
    → map (λ c. c.heads) cs ≡ map (λ c. c.heads) ds → cs ≡ ds
same_placed [] [] trees heads = refl
same_placed [] (d ∷ ds) trees heads = absurd (cc)
same_placed (c ∷ cs) [] trees heads = absurd (cc)
same_placed (c ∷ cs) (d ∷ ds) trees heads =
    let tree : c.tree ≡ d.tree = cc in
    let head : c.heads ≡ d.heads = cc in
    let more : map (λ (x : CertTree). x.tree) cs ≡ map (λ (x : CertTree). x.tree) ds = cc in
    let others : map (λ (x : CertTree). x.heads) cs ≡ map (λ (x : CertTree). x.heads) ds = cc in
    let first : c ≡ d =
    ap (λ t. placed_tree t c.heads) tree ∙ ap (placed_tree d.tree) head in
    ap (λ x. x ∷ cs) first ∙ ap (λ xs. d ∷ xs) (same_placed cs ds more others)

abbrev certificate_with : Version → List CertTree → Certificate
certificate_with v cs = record { version = v; trees = cs }

-- the trees of a certificate that is read, with what holds of them
record Reads (tables : List Table) (bytes : List ℕ) (c : Certificate) : Type 0 where
  pub trees : List CitedTree
  pub trees_are : map (λ t. t.tree) c.trees ≡ trees
  pub are : AreTreesOf c.version (dues_of tables) trees
  pub lines : lines_read (parted bytes).ended ≡ certificate_lines c.version tables trees
  pub heads : map (λ t. t.heads) c.trees
      ≡ due_heads c.version (passed_over (parted bytes).ended + 2) (dues_of tables) trees

reads : (tables : List Table) (bytes : List ℕ) (c : Certificate) → IsRead tables bytes c → Reads tables bytes c
reads tables bytes c is = record {
  trees = is.0.trees;
  trees_are = is.0.trees_are;
  are = is.0.certificate.trees_are;
  lines = is.0.certificate.lines_are;
  heads = is.0.heads;
}

all_numbered : (tables : List Table) (bytes : List ℕ) (c : Certificate) (r : Reads tables bytes c)
    → AllHave (λ table. length table.atoms ≤ 2 ^ 64) tables → length bytes < 2 ^ 64 → AllHave IsNumbered r.trees
all_numbered tables bytes c r few short =
    let ended = length-ended bytes in
    let parts = lines_within (parted bytes).ended in
    let size : length (lines_read (parted bytes).ended) ≡ suc (length (due_lines c.version (dues_of tables) r.trees)) =
    ap length r.lines in
    numbered_trees c.version (dues_of tables) r.trees (dues_fit tables few) r.are
    (omega (arith, ended, parts, size, short))

same_by : (tables : List Table) (bytes : List ℕ) (v w : Version) (cs ds : List CertTree) → v ≡ w
    → AllHave (λ table. length table.atoms ≤ 2 ^ 64) tables → length bytes < 2 ^ 64
    → Reads tables bytes (certificate_with v cs) → Reads tables bytes (certificate_with w ds)
    → cs ≡ ds
same_by tables bytes v w cs ds same few short r s =
    let q : Reads tables bytes (certificate_with v ds) =
    subst (λ x. Reads tables bytes (certificate_with x ds)) (sym same) s in
    let lines : certificate_lines v tables r.trees ≡ certificate_lines v tables q.trees = sym r.lines ∙ q.lines in
    let dues : due_lines v (dues_of tables) r.trees ≡ due_lines v (dues_of tables) q.trees = cc in
    let trees = same_trees v (dues_of tables) r.trees q.trees r.are q.are
    (all_numbered tables bytes (certificate_with v cs) r few short)
    (all_numbered tables bytes (certificate_with v ds) q few short) dues in
    same_placed cs ds (r.trees_are ∙ trees ∙ sym q.trees_are)
    (r.heads ∙ ap (due_heads v (passed_over (parted bytes).ended + 2) (dues_of tables)) trees ∙ sym q.heads)

pub read_once : (tables : List Table) (bytes : List ℕ) (c d : Certificate)
    → AllHave (λ table. length table.atoms ≤ 2 ^ 64) tables → length bytes < 2 ^ 64 → IsRead tables bytes c
    → IsRead tables bytes d → c ≡ d
read_once tables bytes c d few short one other =
    let r = reads tables bytes c one in
    let s = reads tables bytes d other in
    let lines : certificate_lines c.version tables r.trees ≡ certificate_lines d.version tables s.trees =
    sym r.lines ∙ s.lines in
    let first : first_line c.version ≡ first_line d.version = cc in
    let version_is = same_version c.version d.version first in
    let trees = same_by tables bytes c.version d.version c.trees d.trees version_is few short r s in
    ap (λ v. certificate_with v c.trees) version_is ∙ ap (certificate_with d.version) trees
