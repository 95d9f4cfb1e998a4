-- Nodes that are a tree, with citations replaced.
use Rattle.std.proofs.Common.{◌≡◌, ℕ, ◌<◌, List, [], ◌∷◌, ◌++◌, length, Option, Some, None, slice_get}
use Rattle.std.proofs.Common.{refl, sym, ap}
use Rattle.std.proofs.lemmas.Option.{slice_get_within}
use Rattle.cat_guard.specs.declared.tree.CitedNode.{CitedNode}
use Rattle.cat_guard.specs.declared.tree.CitedNode.TheVariants as cited
use Rattle.cat_guard.specs.Trees.{Tree, one_tree, named_before, cited_before, cited_trees_of}
use Rattle.cat_guard.specs.Trees.{cited_tree_of}
use Rattle.cat_guard.specs.Trees.{name_behind, with_named, named_from, main_of}
use Rattle.cat_guard.specs.Trees as tree

-- a node in front of trees, by what it is
pub record IsLeaf (ts us rest : List Tree) : Type 0 where
  pub first : Tree
  pub all : us ≡ first ∷ rest

pub record IsSplit (a : ℕ) (us rest : List Tree) : Type 0 where
  pub left : Tree
  pub right : Tree
  pub more : List Tree
  pub rest_is : rest ≡ left ∷ right ∷ more
  pub all : us ≡ tree.Split a left right ∷ more

-- what a node needs of the trees that follow, and what it makes of them
abbrev pub Before : List Tree → CitedNode → List Tree → List Tree → Type 0
Before ts (cited.Split a) rest us = IsSplit a us rest
Before ts cited.Leaf rest us = IsLeaf ts us rest
Before ts (cited.Cite i) rest us = (i < length ts) × IsLeaf ts us rest

cited_is : (ts : List Tree) (i : ℕ) (rest us : List Tree) (o : Option Tree) → slice_get ts i ≡ o
    → named_before o rest ≡ Some us → (i < length ts) × IsLeaf ts us rest
cited_is ts i rest us None at is = absurd (cc)
cited_is ts i rest us (Some t) at is =
    let same : t ∷ rest ≡ us = cc in
    (slice_get_within ts i t at, record { first = t; all = sym same })

before_is : (ts : List Tree) (n : CitedNode) (rest us : List Tree) → cited_before ts n (Some rest) ≡ Some us
    → Before ts n rest us
before_is ts (cited.Split a) [] us is = absurd (cc)
before_is ts (cited.Split a) (l ∷ []) us is = absurd (cc)
before_is ts (cited.Split a) (l ∷ r ∷ more) us is =
    let same : tree.Split a l r ∷ more ≡ us = cc in
    record { left = l; right = r; more = more; rest_is = refl; all = sym same }
before_is ts cited.Leaf rest us is =
    let same : tree.Leaf ∷ rest ≡ us = cc in
    record { first = tree.Leaf; all = sym same }
before_is ts (cited.Cite i) rest us is = cited_is ts i rest us (slice_get ts i) refl is

-- the trees behind the first node
pub record Behind (ts : List Tree) (n : CitedNode) (ns : List CitedNode) (us : List Tree) : Type 0 where
  pub rest : List Tree
  pub rest_is : cited_trees_of ts ns ≡ Some rest
  pub before : Before ts n rest us

pub behind : (ts : List Tree) (n : CitedNode) (ns : List CitedNode) (us : List Tree)
    → cited_trees_of ts (n ∷ ns) ≡ Some us → Behind ts n ns us
behind ts n ns us is = by (cited_trees_of ts ns) refl is
  where
    by : (o : Option (List Tree)) → cited_trees_of ts ns ≡ o → cited_before ts n o ≡ Some us → Behind ts n ns us
    by None at all = absurd (cc)
    by (Some rest) at all = record { rest = rest; rest_is = at; before = before_is ts n rest us all }

no_tree : (ts : List Tree) (n : CitedNode) (rest : List Tree) → Before ts n rest [] → ⊥
no_tree ts (cited.Split a) rest b = let h = b.all in absurd (cc)
no_tree ts cited.Leaf rest b = let h = b.all in absurd (cc)
no_tree ts (cited.Cite i) rest b = let h = b.1.all in absurd (cc)

-- no trees are no nodes
pub none_left : (ts : List Tree) (ns : List CitedNode) → cited_trees_of ts ns ≡ Some [] → ns ≡ []
none_left ts [] is = refl
none_left ts (n ∷ ns) is = let b = behind ts n ns [] is in absurd (no_tree ts n b.rest b.before)

-- one tree is all
pub one_alone : (o : Option (List Tree)) (t : Tree) → one_tree o ≡ Some t → o ≡ Some (t ∷ [])
one_alone None t is = absurd (cc)
one_alone (Some []) t is = absurd (cc)
one_alone (Some (u ∷ [])) t is = let same : u ≡ t = cc in ap (λ x. Some (x ∷ [])) same
one_alone (Some (u ∷ w ∷ us)) t is = absurd (cc)

-- ---- named trees

pub none_named : (more : List (List CitedNode)) → named_from None more ≡ None
none_named [] = refl
none_named (nodes ∷ more) = none_named more

-- the next named tree, and the others over it
pub record NextName (ts : List Tree) (nodes : List CitedNode) (more : List (List CitedNode)) (all : List Tree) : Type 0
  where
    pub tree : Tree
    pub is : cited_trees_of ts nodes ≡ Some (tree ∷ [])
    pub others : named_from (Some (ts ++ tree ∷ [])) more ≡ Some all

pub next_name : (ts : List Tree) (nodes : List CitedNode) (more : List (List CitedNode)) (all : List Tree)
    → named_from (Some ts) (nodes ∷ more) ≡ Some all → NextName ts nodes more all
next_name ts nodes more all is = by (cited_tree_of ts nodes) refl is
  where
    by : (o : Option Tree) → cited_tree_of ts nodes ≡ o → named_from (name_behind ts o) more ≡ Some all
        → NextName ts nodes more all
    by None at h = let none = none_named more in absurd (cc)
    by (Some t) at h =
        record { tree = t; is = one_alone (cited_trees_of ts nodes) t at; others = h }

pub main_there : (o : Option (List Tree)) (main : List CitedNode) (t : Tree) → main_of o main ≡ Some t
    → (ts : List Tree) × (o ≡ Some ts) × (cited_trees_of ts main ≡ Some (t ∷ []))
main_there None main t is = absurd (cc)
main_there (Some ts) main t is = (ts, refl, one_alone (cited_trees_of ts main) t is)

-- a named tree behind the others
pub named_last : (ts : Option (List Tree)) (names : List (List CitedNode)) (nodes : List CitedNode)
    → named_from ts (names ++ nodes ∷ []) ≡ with_named (named_from ts names) nodes
named_last ts [] nodes = refl
named_last ts (first ∷ names) nodes = named_last (with_named ts first) names nodes
