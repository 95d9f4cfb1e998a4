-- A shared tree stands for the tree that was shared.
use Rattle.std.proofs.Common.{◌≡◌, ℕ, suc, nat_eq, Bool, true, false, ◌&&◌, ◌||◌, cond}
use Rattle.std.proofs.Common.{if◌then◌else◌, List, [], ◌∷◌, ◌++◌, map, filter, Option, Some, None, slice_get}
use Rattle.std.proofs.Common.{option_map}
use Rattle.std.proofs.Common.{refl, sym, ap, ◌∙◌, subst, arith, append_assoc, append-nil, true≢false}
use Rattle.std.proofs.lemmas.Bool.Decides.{nat_tests}
use Rattle.std.proofs.lemmas.Bool.{or_parts}
use Rattle.std.proofs.lemmas.List.Folds.{list_any-append}
use Rattle.cat_guard.specs.declared.tree.CitedNode.{CitedNode}
use Rattle.cat_guard.specs.declared.tree.CitedNode.TheVariants as cited
use Rattle.cat_guard.specs.Trees.{Tree, is_whole, one_tree, named_before, cited_before, cited_trees_of}
use Rattle.cat_guard.specs.Trees.{cited_tree_of, name_behind, named_from, main_of, expanded}
use Rattle.cat_guard.specs.Trees as tree
use Rattle.cat_guard.proofs.Exported.{both_true}
use Rattle.cat_walk.specs.Sharing.{same_tree, is_among, number_in, subtrees, with_tree, with_all, recurs_in, named_in}
use Rattle.cat_walk.specs.Sharing.{cited_or}
use Rattle.cat_walk.specs.Sharing.{written, body, shared}

-- ---- equal trees

pub same_is : (t u : Tree) → same_tree t u ≡ true → t ≡ u
same_is tree.Leaf tree.Leaf h = refl
same_is tree.Leaf tree.Rest h = absurd (true≢false (sym h))
same_is tree.Leaf (tree.Split b m s) h = absurd (true≢false (sym h))
same_is tree.Rest tree.Leaf h = absurd (true≢false (sym h))
same_is tree.Rest tree.Rest h = refl
same_is tree.Rest (tree.Split b m s) h = absurd (true≢false (sym h))
same_is (tree.Split a l r) tree.Leaf h = absurd (true≢false (sym h))
same_is (tree.Split a l r) tree.Rest h = absurd (true≢false (sym h))
same_is (tree.Split a l r) (tree.Split b m s) h =
    let two = both_true (nat_eq a b && same_tree l m) (same_tree r s) h in
    let front = both_true (nat_eq a b) (same_tree l m) two.0 in
    let atom : a ≡ b = grind (arith, nat_tests, front.0) in
    ap (λ n. tree.Split n l r) atom ∙ ap (λ x. tree.Split b x r) (same_is l m front.1)
    ∙ ap (tree.Split b m) (same_is r s two.1)

pub same_self : (t : Tree) → same_tree t t ≡ true
same_self tree.Leaf = refl
same_self tree.Rest = refl
same_self (tree.Split a l r) =
    let atom : nat_eq a a ≡ true = grind (arith, nat_tests) in
    rw (atom, same_self l) (same_self r)

-- ---- numbers of trees

not_numbered : (t : Tree) (back : List Tree) → is_among back t ≡ false → number_in back t ≡ None
not_numbered t [] h = refl
not_numbered t (u ∷ us) h =
    let parts = or_parts (same_tree t u) (is_among us t) h in
    rw (parts.0, not_numbered t us parts.1) refl

numbered : (t u : Tree) (us : List Tree) (b : Bool) (o : Option ℕ) (i : ℕ) → same_tree t u ≡ b
    → ((j : ℕ) → o ≡ Some j → slice_get us j ≡ Some t) → (if b then Some 0 else option_map suc o) ≡ Some i
    → slice_get (u ∷ us) i ≡ Some t
numbered t u us true o i same rest is =
    let first : 0 ≡ i = cc in
    rw (← first) (ap Some (sym (same_is t u same)))
numbered t u us false None i same rest is = absurd (cc)
numbered t u us false (Some j) i same rest is =
    let next : suc j ≡ i = cc in
    rw (← next) (rest j refl)

-- a tree that isn't among those behind has its number in front
front_numbered : (t : Tree) (front back : List Tree) → is_among back t ≡ false → (i : ℕ)
    → number_in (front ++ back) t ≡ Some i → slice_get front i ≡ Some t
front_numbered t [] back h i is = let none = not_numbered t back h in absurd (cc)
front_numbered t (u ∷ us) back h i is =
    numbered t u us (same_tree t u) (number_in (us ++ back) t) i refl (front_numbered t us back h) is

-- ---- what is written stands for the tree

-- no subtree of a tree is among some
abbrev NoneOf : List Tree → Tree → Type 0
NoneOf back tree.Leaf = Unit {0}
NoneOf back tree.Rest = ⊥
NoneOf back (tree.Split a l r) = (is_among back (tree.Split a l r) ≡ false) × (NoneOf back l × NoneOf back r)

module _ (front back names : List Tree) (all : names ≡ front ++ back) where
  -- a split, written out or cited, in front of trees
  either : (a : ℕ) (l r : Tree) (rest : List CitedNode) (ts : List Tree) (o : Option ℕ)
      → number_in names (tree.Split a l r) ≡ o → is_among back (tree.Split a l r) ≡ false → (nodes : List CitedNode)
      → cited_trees_of front (nodes ++ rest) ≡ Some (tree.Split a l r ∷ ts) → cited_trees_of front rest ≡ Some ts
      → cited_trees_of front (cited_or o nodes ++ rest) ≡ Some (tree.Split a l r ∷ ts)
  either a l r rest ts None at none nodes is follow = is
  either a l r rest ts (Some i) at none nodes is follow =
      let found = front_numbered (tree.Split a l r) front back none i
      (subst (λ ns. number_in ns (tree.Split a l r) ≡ Some i) all at) in
      rw follow (ap (λ o. named_before o ts) found)

  written_is : (t : Tree) → NoneOf back t → (rest : List CitedNode) (ts : List Tree)
      → cited_trees_of front rest ≡ Some ts → cited_trees_of front (written names t ++ rest) ≡ Some (t ∷ ts)
  written_is tree.Leaf none rest ts follow = ap (cited_before front cited.Leaf) follow
  written_is tree.Rest none rest ts follow = absurd (none)
  written_is (tree.Split a l r) none rest ts follow =
      let right = written_is r none.1.1 rest ts follow in
      let left = written_is l none.1.0 (written names r ++ rest) (r ∷ ts) right in
      let nodes = cited.Split a ∷ written names l ++ written names r in
      either a l r rest ts (number_in names (tree.Split a l r)) refl none.0 nodes
      (ap (λ ns. cited_trees_of front (cited.Split a ∷ ns)) (append_assoc (written names l) (written names r) rest)
      ∙ ap (cited_before front (cited.Split a)) left) follow

  body_is : (a : ℕ) (l r : Tree) → NoneOf back l → NoneOf back r
      → cited_tree_of front (body names (tree.Split a l r)) ≡ Some (tree.Split a l r)
  body_is a l r left right =
      let last : cited_trees_of front (written names r) ≡ Some (r ∷ []) =
      ap (cited_trees_of front) (sym (append-nil (written names r))) ∙ written_is r right [] [] refl in
      ap (λ o. one_tree (cited_before front (cited.Split a) o)) (written_is l left (written names r) (r ∷ []) last)

-- ---- the subtrees stand in order

-- the subtrees of a whole tree are among some
abbrev pub AllIn : List Tree → Tree → Type 0
AllIn known tree.Leaf = Unit {0}
AllIn known tree.Rest = ⊥
AllIn known (tree.Split a l r) = (is_among known (tree.Split a l r) ≡ true) × (AllIn known l × AllIn known r)

-- so are those of both sides
abbrev pub SidesIn : List Tree → Tree → Type 0
SidesIn known tree.Leaf = ⊥
SidesIn known tree.Rest = ⊥
SidesIn known (tree.Split a l r) = AllIn known l × AllIn known r

-- each tree is new, and stands behind the subtrees of its sides
abbrev pub AreOrdered : List Tree → List Tree → Type 0
AreOrdered known [] = Unit {0}
AreOrdered known (u ∷ us) = (SidesIn known u × (is_among known u ≡ false)) × AreOrdered (known ++ u ∷ []) us

among-append : (x : Tree) (ts us : List Tree) → is_among (ts ++ us) x ≡ (is_among ts x || is_among us x)
among-append x ts us = list_any-append (same_tree x) ts us

among_more : (x : Tree) (ts us : List Tree) → is_among ts x ≡ true → is_among (ts ++ us) x ≡ true
among_more x ts us h = among-append x ts us ∙ ap (λ b. b || is_among us x) h

-- what is known isn't among those that follow
pub distinct : (x : Tree) (known us : List Tree) → AreOrdered known us → is_among known x ≡ true → is_among us x ≡ false
distinct x known [] ordered h = refl
distinct x known (u ∷ us) ordered h =
    let rest = distinct x (known ++ u ∷ []) us ordered.1 (among_more x known (u ∷ []) h) in
    by (same_tree x u) refl rest
  where
    by : (b : Bool) → same_tree x u ≡ b → is_among us x ≡ false → (b || is_among us x) ≡ false
    by true same rest =
        let is = same_is x u same in
        absurd (true≢false (sym h ∙ ap (is_among known) is ∙ ordered.0.1))
    by false same rest = rest

pub filter_none : (pass : Tree → Bool) (x : Tree) (us : List Tree) → is_among us x ≡ false
    → is_among (filter pass us) x ≡ false
filter_none pass x [] h = refl
filter_none pass x (u ∷ us) h =
    let parts = or_parts (same_tree x u) (is_among us x) h in
    by (pass u) parts.0 (filter_none pass x us parts.1)
  where
    by : (b : Bool) → same_tree x u ≡ false → is_among (filter pass us) x ≡ false
        → is_among (cond b (u ∷ filter pass us) (filter pass us)) x ≡ false
    by true head rest = rw head rest
    by false head rest = rest

none_of : (pass : Tree → Bool) (known us : List Tree) → AreOrdered known us → (t : Tree) → AllIn known t
    → NoneOf (filter pass us) t
none_of pass known us ordered tree.Leaf all = tt
none_of pass known us ordered tree.Rest all = absurd (all)
none_of pass known us ordered (tree.Split a l r) all = (
  filter_none pass (tree.Split a l r) us (distinct (tree.Split a l r) known us ordered all.0),
  (none_of pass known us ordered l all.1.0, none_of pass known us ordered r all.1.1),
)

-- ---- the names

module _ (pass : Tree → Bool) (names : List Tree) where
  sides_none : (known : List Tree) (a : ℕ) (l r : Tree) (us : List Tree)
      → AreOrdered known (tree.Split a l r ∷ us)
      → NoneOf (filter pass (tree.Split a l r ∷ us)) l × NoneOf (filter pass (tree.Split a l r ∷ us)) r
  sides_none known a l r us ordered = (
    none_of pass known (tree.Split a l r ∷ us) ordered l ordered.0.0.0,
    none_of pass known (tree.Split a l r ∷ us) ordered r ordered.0.0.1,
  )

  named_step : (front : List Tree) (u : Tree) (us : List Tree) (b : Bool) → pass u ≡ b
      → (b ≡ true → cited_tree_of front (body names u) ≡ Some u)
      → ((next : List Tree) → names ≡ next ++ filter pass us
      → named_from (Some next) (map (body names) (filter pass us)) ≡ Some names)
      → names ≡ front ++ cond b (u ∷ filter pass us) (filter pass us)
      → named_from (Some front) (map (body names) (cond b (u ∷ filter pass us) (filter pass us))) ≡ Some names
  named_step front u us true is own rest all =
      ap (λ o. named_from (name_behind front o) (map (body names) (filter pass us))) (own refl)
      ∙ rest (front ++ u ∷ []) (all ∙ sym (append_assoc front (u ∷ []) (filter pass us)))
  named_step front u us false is own rest all = rest front all

  names_are : (known front us : List Tree) → AreOrdered known us → names ≡ front ++ filter pass us
      → named_from (Some front) (map (body names) (filter pass us)) ≡ Some names
  names_are known front [] ordered all = ap Some (sym (all ∙ append-nil front))
  names_are known front (tree.Leaf ∷ us) ordered all = absurd (ordered.0.0)
  names_are known front (tree.Rest ∷ us) ordered all = absurd (ordered.0.0)
  names_are known front (tree.Split a l r ∷ us) ordered all =
      let none = sides_none known a l r us ordered in
      named_step front (tree.Split a l r) us (pass (tree.Split a l r)) refl
      (λ yes. body_is front (filter pass (tree.Split a l r ∷ us)) names all a l r none.0 none.1)
      (λ next same. names_are (known ++ tree.Split a l r ∷ []) next us ordered.1 same) all

-- ---- the subtrees of a tree are ordered

ordered_last : (known us : List Tree) (u : Tree) → AreOrdered known us → SidesIn (known ++ us) u
    → is_among (known ++ us) u ≡ false → AreOrdered known (us ++ u ∷ [])
ordered_last known [] u ordered sides new =
    let same = append-nil known in
    ((subst (λ ks. SidesIn ks u) same sides, subst (λ ks. is_among ks u ≡ false) same new), tt)
ordered_last known (v ∷ us) u ordered sides new =
    let same = sym (append_assoc known (v ∷ []) us) in (
      ordered.0,
      ordered_last (known ++ v ∷ []) us u ordered.1 (subst (λ ks. SidesIn ks u) same sides)
          (subst (λ ks. is_among ks u ≡ false) same new),
    )

-- what is among some stays so
abbrev Grows : List Tree → List Tree → Type 0
Grows known more = (x : Tree) → is_among known x ≡ true → is_among more x ≡ true

all_in_more : (known more : List Tree) → Grows known more → (t : Tree) → AllIn known t → AllIn more t
all_in_more known more grows tree.Leaf all = tt
all_in_more known more grows tree.Rest all = absurd (all)
all_in_more known more grows (tree.Split a l r) all = (
  grows (tree.Split a l r) all.0,
  (all_in_more known more grows l all.1.0, all_in_more known more grows r all.1.1),
)

-- the subtrees of a tree were put behind those that are known
pub record HasGrown (known more : List Tree) (t : Tree) : Type 0 where
  pub ordered : AreOrdered [] more
  pub all : AllIn more t
  pub grows : Grows known more

grown_last : (known : List Tree) (a : ℕ) (l r : Tree) (b : Bool) → is_among known (tree.Split a l r) ≡ b
    → AreOrdered [] known → AllIn known l → AllIn known r
    → HasGrown known (if b then known else known ++ tree.Split a l r ∷ []) (tree.Split a l r)
grown_last known a l r true is ordered left right =
    record { ordered = ordered; all = (is, (left, right)); grows = λ x h. h }
grown_last known a l r false is ordered left right =
    let t = tree.Split a l r in
    let grows = λ (x : Tree) (h : is_among known x ≡ true). among_more x known (t ∷ []) h in
    let here : is_among (known ++ t ∷ []) t ≡ true =
    among-append t known (t ∷ []) ∙ ap (λ b. b || (same_tree t t || false)) is ∙ ap (λ b. b || false) (same_self t) in
    record {
      ordered = ordered_last [] known t ordered (left, right) is;
      all = (
        here,
        (all_in_more known (known ++ t ∷ []) grows l left, all_in_more known (known ++ t ∷ []) grows r right),
      );
      grows = grows;
    }

pub with_all-append : (known ts us : List Tree) → with_all known (ts ++ us) ≡ with_all (with_all known ts) us
with_all-append known [] us = refl
with_all-append known (t ∷ ts) us = with_all-append (with_tree known t) ts us

pub grown : (t : Tree) → is_whole t ≡ true → (known : List Tree) → AreOrdered [] known
    → HasGrown known (with_all known (subtrees t)) t
grown tree.Leaf whole known ordered = record { ordered = ordered; all = tt; grows = λ x h. h }
grown tree.Rest whole known ordered = absurd (true≢false (sym whole))
grown (tree.Split a l r) whole known ordered =
    let both = both_true (is_whole l) (is_whole r) whole in
    let one = grown l both.0 known ordered in
    let left = with_all known (subtrees l) in
    let other = grown r both.1 left one.ordered in
    let right = with_all left (subtrees r) in
    let last = grown_last right a l r (is_among right (tree.Split a l r)) refl other.ordered
    (all_in_more left right other.grows l one.all) other.all in
    let same : with_tree right (tree.Split a l r) ≡ with_all known (subtrees (tree.Split a l r)) =
    sym (with_all-append known (subtrees l ++ subtrees r) (tree.Split a l r ∷ [])
    ∙ ap (λ ks. with_tree ks (tree.Split a l r)) (with_all-append known (subtrees l) (subtrees r))) in
    subst (λ ks. HasGrown known ks (tree.Split a l r)) same (record {
      ordered = last.ordered;
      all = last.all;
      grows = λ x h. last.grows x (other.grows x (one.grows x h));
    })

-- ---- the whole

none_behind : (t : Tree) → is_whole t ≡ true → NoneOf [] t
none_behind tree.Leaf whole = tt
none_behind tree.Rest whole = absurd (true≢false (sym whole))
none_behind (tree.Split a l r) whole =
    let both = both_true (is_whole l) (is_whole r) whole in
    (refl, (none_behind l both.0, none_behind r both.1))

pub named_shared : (t : Tree) → is_whole t ≡ true → named_from (Some []) (shared t).names ≡ Some (named_in t)
named_shared t whole =
    let known = grown t whole [] tt in
    names_are (recurs_in t) (named_in t) [] [] (with_all [] (subtrees t)) known.ordered refl

pub expanded_shared : (t : Tree) → is_whole t ≡ true → expanded (shared t) ≡ Some t
expanded_shared t whole =
    let names = named_in t in
    let main : cited_tree_of names (written names t) ≡ Some t =
    ap (λ ns. one_tree (cited_trees_of names ns)) (sym (append-nil (written names t)))
    ∙ ap one_tree (written_is names [] names (sym (append-nil names)) t (none_behind t whole) [] [] refl) in
    ap (λ o. main_of o (written names t)) (named_shared t whole) ∙ main
