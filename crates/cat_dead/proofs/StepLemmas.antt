-- A walk goes on from one node to the next.
use Rattle.std.proofs.Common.{◌≡◌, ℕ, ◌+◌, ◌<◌, true}
use Rattle.std.proofs.Common.{if◌then◌else◌, List, [], ◌∷◌, ◌++◌, map, length, drop, Option, Some, None, slice_get}
use Rattle.std.proofs.Common.{IfSome, refl, sym, ap, ◌∙◌, subst, arith, add-one, append_assoc, append-nil}
use Rattle.cat_region.specs.declared.narrowing.Narrowing.{Narrowing}
use Rattle.cat_region.specs.Regions.{Constraints}
use Rattle.cat_region.specs.Decided.{admits_none}
use Rattle.cat_region.specs.Sides.{along, turns, Turns}
use Rattle.cat_region.proofs.Exported.{along_dims, none_alike}
use Rattle.cat_guard.specs.declared.table.Atom.{Atom}
use Rattle.cat_guard.specs.declared.table.TableTarget.{TableTarget}
use Rattle.cat_guard.specs.declared.tree.TreeNode.{TreeNode}
use Rattle.cat_guard.specs.declared.tree.TreeNode.TheVariants as node
use Rattle.cat_guard.specs.Judged.{answers_in}
use Rattle.cat_guard.specs.Trees.{Tree, node_before, trees_of, one_tree, tree_of, answering}
use Rattle.cat_guard.specs.Trees as tree
use Rattle.cat_guard.specs.Verdicts.{verdict_of}
use Rattle.cat_guard.proofs.Exported.{answers_alike}
use Rattle.cat_walk.specs.Coverage.{leaf_regions}
use Rattle.cat_walk.specs.Walkable.{IsWalkable}
use Rattle.cat_walk.specs.inside.Walking.{AreFit, regions_along}
use Rattle.cat_walk.proofs.SplitLemmas.{IsAtSplit, IsDown, at_split}
use Rattle.cat_walk.proofs.WalkLemmas.{IsLeaf, leaf_there}
use Rattle.cat_cert.specs.Uncovered.{regions_of}
use Rattle.cat_cert.proofs.Lists.{drop_at}
use Rattle.cat_dead.specs.declared.judged.JudgedLeaf.{JudgedLeaf}
use Rattle.cat_dead.specs.declared.judged.LeafJudgement.{LeafJudgement}
use Rattle.cat_dead.specs.declared.judged.LeafJudgement.TheVariants as leaf
use Rattle.cat_dead.specs.Leaves.{judgement_of, judged_at, leaf_nodes, leaves_at, leaves_judged, split_of}
use Rattle.cat_dead.specs.Leaves.{leaf_if}
use Rattle.cat_dead.specs.inside.Walking.{judged_of, IsUnderWay}
use Rattle.cat_dead.proofs.HeldLaws.{some_same}

-- ---- what is judged doesn't hang on the room

pub judged_alike : (atoms : List Atom) (t : TableTarget) (region other : Constraints) → region.dims ≡ other.dims
    → region.narrowings ≡ other.narrowings → judged_at atoms t region ≡ judged_at atoms t other
judged_alike atoms t region other dims narrowings =
    ap (λ b. if b then leaf.Nothing else judgement_of (verdict_of t (answers_in atoms region)))
    (none_alike region other dims narrowings)
    ∙ ap (λ answers. if admits_none other then leaf.Nothing else judgement_of (verdict_of t answers))
    (answers_alike atoms region other dims narrowings)

-- ---- leaves of the target of a number

-- a leaf in front of others
front : (atoms : List Atom) (o : Option TableTarget) (t : TableTarget) → o ≡ Some t → (place : ℕ) (region : Constraints)
    (places : List ℕ) (regions : List Constraints)
    → judged_of atoms o (place ∷ places) (region ∷ regions)
    ≡ record { node = place; judged = judged_at atoms t region } ∷ judged_of atoms o places regions
front atoms None t is place region places regions = absurd (cc)
front atoms (Some u) t is place region places regions =
    ap (λ s. record { node = place; judged = judged_at atoms s region }
    ∷ leaves_at places (map (judged_at atoms u) regions)) (some_same u t is)

-- no region, no leaf
no_leaf : (atoms : List Atom) (o : Option TableTarget) (places : List ℕ) → judged_of atoms o places [] ≡ []
no_leaf atoms None places = refl
no_leaf atoms (Some t) [] = refl
no_leaf atoms (Some t) (place ∷ places) = refl

-- the wanted leaves of a target of a number, where there is one
abbrev pub wanted_of : List Atom → Option TableTarget → Constraints → List TreeNode → List JudgedLeaf
wanted_of atoms o base nodes = judged_of atoms o (leaf_nodes 0 nodes) (regions_of atoms base (tree_of nodes))

pub told_of : (atoms : List Atom) (o : Option TableTarget) (base : Constraints) (nodes : List TreeNode)
    (made : List JudgedLeaf) → made ≡ wanted_of atoms o base nodes
    → IfSome o (λ t. made ≡ leaves_judged atoms t base nodes)
told_of atoms None base nodes made is = tt
told_of atoms (Some t) base nodes made is = is

-- ---- nodes

-- the nodes from a place on
pub next_nodes : (nodes : List TreeNode) (place : ℕ) (n : TreeNode) → slice_get nodes place ≡ Some n
    → drop place nodes ≡ n ∷ drop (place + 1) nodes
next_nodes nodes place n at =
    drop_at nodes place n at ∙ ap (λ (k : ℕ). n ∷ drop k nodes) (sym (add-one place))

pub is_split : (n : TreeNode) (a : ℕ) → Some a ≡ split_of n → n ≡ node.Split a
is_split (node.Split b) a is = ap node.Split (sym (some_same a b is))
is_split node.Leaf a is = absurd (cc)
is_split node.Rest a is = absurd (cc)

-- ---- rests

pub record IsRest (o : Option (List Tree)) (trees : List Tree) : Type 0 where
  pub rest : List Tree
  pub is : o ≡ Some rest
  pub same : trees ≡ tree.Rest ∷ rest

pub rest_there : (o : Option (List Tree)) (trees : List Tree) → node_before node.Rest o ≡ Some trees → IsRest o trees
rest_there None trees h = absurd (cc)
rest_there (Some rest) trees h = record { rest = rest; is = refl; same = cc }

-- ---- steps

-- the tree at the end of a path is passed: the leaves so far and those of the others are the wanted ones
pub record IsPassed (atoms : List Atom) (o : Option TableTarget) (base : Constraints) (wanted : List JudgedLeaf)
    (path : List Narrowing) (place : ℕ) (nodes : List TreeNode) (made : List JudgedLeaf) : Type 0 where
  pub rest : List Tree
  pub are : trees_of nodes ≡ Some rest
  pub fit : AreFit (length atoms) base.room (turns path) rest
  pub leaves :
      made ++ judged_of atoms o (leaf_nodes place nodes) (regions_along atoms base (turns path) rest) ≡ wanted

module _ (atoms : List Atom) (o : Option TableTarget) (base : Constraints) (wanted : List JudgedLeaf) where
  -- a walk is under way in a region, before these nodes
  abbrev pub GoesOn : Constraints → ℕ → List TreeNode → List JudgedLeaf → Type 0
  GoesOn region place nodes made = IsUnderWay atoms o base wanted region place nodes made

  -- a tree is passed at the end of a path
  abbrev pub Passes : List Narrowing → ℕ → List TreeNode → List JudgedLeaf → Type 0
  Passes path place nodes made = IsPassed atoms o base wanted path place nodes made

  pub begins : (w : Tree) (nodes : List TreeNode) → IsWalkable (length atoms) base.room (Some w)
      → trees_of nodes ≡ Some (w ∷ []) → judged_of atoms o (leaf_nodes 0 nodes) (leaf_regions atoms base w) ≡ wanted
      → GoesOn base 0 nodes []
  begins w nodes walkable are wants = record {
    path = [];
    trees = w ∷ [];
    here = record { dims = refl; narrowings = refl; room = omega arith };
    are = are;
    fit = (record { splits = walkable.0; low = let high = walkable.1 in omega (arith, high) }, tt);
    leaves = ap (judged_of atoms o (leaf_nodes 0 nodes)) (append-nil (leaf_regions atoms base w)) ∙ wants;
  }

  -- behind a tree that is passed
  module _ (path : List Narrowing) (place : ℕ) (nodes : List TreeNode) (made : List JudgedLeaf)
      (passed : Passes path place nodes made) where
    pub all_made : turns path ≡ [] → made ≡ wanted
    all_made none =
        sym (append-nil made)
        ∙ ap (λ js. made ++ js) (sym (no_leaf atoms o (leaf_nodes place nodes)))
        ∙ ap (λ ps. made ++ judged_of atoms o (leaf_nodes place nodes) (regions_along atoms base ps passed.rest))
        (sym none)
        ∙ passed.leaves

    pub goes_over : (after : Constraints) → Turns base path true after → GoesOn after place nodes made
    goes_over after turned = record {
      path = turned.0;
      trees = passed.rest;
      here = turned.2;
      are = passed.are;
      fit = subst (λ ps. AreFit (length atoms) base.room ps passed.rest) turned.1 passed.fit;
      leaves = subst (λ (ps : List (List Narrowing)).
          made ++ judged_of atoms o (leaf_nodes place nodes) (regions_along atoms base ps passed.rest) ≡ wanted)
          turned.1 passed.leaves;
    }

  -- a split
  module _ (region : Constraints) (place a : ℕ) (nodes : List TreeNode) (made : List JudgedLeaf)
      (walk : GoesOn region place (node.Split a ∷ nodes) made) where
    here : IsAtSplit atoms base region a (trees_of nodes) walk.path walk.trees
    here = at_split atoms base region a (trees_of nodes) walk.path walk.trees walk.are walk.here walk.fit

    pub split_atom : a < length atoms
    split_atom = here.atom

    pub split_room : 0 < region.room
    split_room = here.room

    pub goes_down : (after : Constraints) → after.dims ≡ region.dims
        → after.narrowings ≡ (answering atoms region a true).narrowings → after.room + 1 ≡ region.room
        → GoesOn after (place + 1) nodes made
    goes_down after dims narrowings room = on (here.down after dims narrowings room)
      where
        on : IsDown atoms base after walk.path walk.trees here.sides → GoesOn after (place + 1) nodes made
        on down = record {
          path = down.way;
          trees = here.sides;
          here = down.here;
          are = here.is;
          fit = down.fit;
          leaves =
              ap (λ rs. made ++ judged_of atoms o (leaf_nodes (place + 1) nodes) rs) (sym down.regions) ∙ walk.leaves;
        }

  -- a leaf
  module _ (region : Constraints) (place : ℕ) (nodes : List TreeNode) (made : List JudgedLeaf)
      (walk : GoesOn region place (node.Leaf ∷ nodes) made) where
    abbrev leaf_here : IsLeaf (trees_of nodes) walk.trees
    leaf_here = leaf_there (trees_of nodes) walk.trees walk.are

    leaf_passed : (t : TableTarget) → o ≡ Some t → (judged : LeafJudgement) → judged ≡ judged_at atoms t region
        → Passes walk.path (place + 1) nodes (made ++ record { node = place; judged = judged } ∷ [])
    leaf_passed t is judged judged_is =
        let fits : AreFit (length atoms) base.room (walk.path ∷ turns walk.path) (tree.Leaf ∷ leaf_here.rest) =
        subst (AreFit (length atoms) base.room (walk.path ∷ turns walk.path)) leaf_here.same walk.fit in
        let here : judged ≡ judged_at atoms t (along base walk.path) =
        judged_is ∙ judged_alike atoms t region (along base walk.path)
        (walk.here.dims ∙ sym (along_dims base walk.path)) walk.here.narrowings in
        let others = regions_along atoms base (turns walk.path) leaf_here.rest in
        let behind = judged_of atoms o (leaf_nodes (place + 1) nodes) others in
        record {
          rest = leaf_here.rest;
          are = leaf_here.is;
          fit = fits.1;
          leaves =
              append_assoc made (record { node = place; judged = judged } ∷ []) behind
              ∙ ap (λ j. made ++ record { node = place; judged = j } ∷ behind) here
              ∙ ap (λ js. made ++ js)
              (sym (front atoms o t is place (along base walk.path) (leaf_nodes (place + 1) nodes) others))
              ∙ ap (λ ws. made ++ judged_of atoms o (place ∷ leaf_nodes (place + 1) nodes)
              (regions_along atoms base (walk.path ∷ turns walk.path) ws)) (sym leaf_here.same)
              ∙ walk.leaves;
        }

  -- what isn't explored
  module _ (region : Constraints) (place : ℕ) (nodes : List TreeNode) (made : List JudgedLeaf)
      (walk : GoesOn region place (node.Rest ∷ nodes) made) where
    abbrev rest_here : IsRest (trees_of nodes) walk.trees
    rest_here = rest_there (trees_of nodes) walk.trees walk.are

    rest_passed : Passes walk.path (place + 1) nodes made
    rest_passed =
        let fits : AreFit (length atoms) base.room (walk.path ∷ turns walk.path) (tree.Rest ∷ rest_here.rest) =
        subst (AreFit (length atoms) base.room (walk.path ∷ turns walk.path)) rest_here.same walk.fit in
        record {
          rest = rest_here.rest;
          are = rest_here.is;
          fit = fits.1;
          leaves =
              ap (λ ws. made ++ judged_of atoms o (leaf_nodes (place + 1) nodes)
              (regions_along atoms base (walk.path ∷ turns walk.path) ws)) (sym rest_here.same)
              ∙ walk.leaves;
        }

  -- a node that is no split
  pub node_passed : (region : Constraints) (place : ℕ) (n : TreeNode) (nodes : List TreeNode) (made : List JudgedLeaf)
      (walk : GoesOn region place (n ∷ nodes) made) → split_of n ≡ None → (t : TableTarget) → o ≡ Some t
      → Passes walk.path (place + 1) nodes (made ++ leaf_if atoms t region place n)
  node_passed region place node.Leaf nodes made walk none t is =
      leaf_passed region place nodes made walk t is (judged_at atoms t region) refl
  node_passed region place node.Rest nodes made walk none t is =
      subst (Passes walk.path (place + 1) nodes) (sym (append-nil made)) (rest_passed region place nodes made walk)
  node_passed region place (node.Split a) nodes made walk none t is = absurd (cc)

-- ---- the tree that nodes are

pub one_there : (o : Option (List Tree)) (w : Tree) → one_tree o ≡ Some w → o ≡ Some (w ∷ [])
one_there None w h = absurd (cc)
one_there (Some []) w h = absurd (cc)
one_there (Some (u ∷ [])) w h = ap (λ x. Some (x ∷ [])) (some_same u w h)
one_there (Some (u ∷ x ∷ us)) w h = absurd (cc)

pub walk_begins : (atoms : List Atom) (o : Option TableTarget) (base : Constraints) (nodes : List TreeNode)
    → IsWalkable (length atoms) base.room (tree_of nodes)
    → GoesOn atoms o base (wanted_of atoms o base nodes) base 0 nodes []
walk_begins atoms o base nodes walkable = by (tree_of nodes) refl walkable
  where
    by : (e : Option Tree) → tree_of nodes ≡ e → IsWalkable (length atoms) base.room e
        → GoesOn atoms o base (wanted_of atoms o base nodes) base 0 nodes []
    by None at walkable = absurd (walkable)
    by (Some w) at walkable =
        begins atoms o base (wanted_of atoms o base nodes) w nodes walkable (one_there (trees_of nodes) w at)
        (ap (λ e. judged_of atoms o (leaf_nodes 0 nodes) (regions_of atoms base e)) (sym at))

-- a walk doesn't end before nodes are left out
pub never_done : (atoms : List Atom) (o : Option TableTarget) (base : Constraints) (wanted : List JudgedLeaf)
    (region : Constraints) (place : ℕ) (made : List JudgedLeaf)
    → IsUnderWay atoms o base wanted region place [] made → ⊥
never_done atoms o base wanted region place made walk =
    subst (AreFit (length atoms) base.room (walk.path ∷ turns walk.path))
    (sym (some_same [] walk.trees walk.are)) walk.fit
