-- How far the subtrees of a tree were met.
use Rattle.std.specs.Prelude.{◌≡◌, ◌⊎◌, ℕ, Bool, true, List, [], ◌∷◌, ◌++◌, Option, None, Some}
use Rattle.cat_guard.specs.declared.tree.TreeNode.{TreeNode}
use Rattle.cat_guard.specs.Trees.{Tree, trees_of, is_whole}
use Rattle.cat_guard.specs.Trees as tree
use Rattle.cat_walk.specs.declared.numbering.Open.{Open}
use Rattle.cat_walk.specs.Sharing.{subtrees, with_all}
use Rattle.cat_walk.specs.inside.Classes.{Key, class_in, AreClasses}

-- a split whose sides are still to come, or of whose sides the true one was met
pub data Frame : Type 0 where
  Bare : ℕ → Frame
  Half : ℕ → Tree → Frame

-- an open split is that of a frame, with the class of the side that was met
abbrev pub IsOpen : List Tree → Open → Frame → Type 0
IsOpen known o (Bare a) = (o.atom ≡ a) × (o.left ≡ None)
IsOpen known o (Half a l) = (o.atom ≡ a) × ((c : ℕ) × ((o.left ≡ Some c) × (class_in known l ≡ Some c)))

-- open splits are those of some frames
abbrev pub AreOpen : List Tree → List Open → List Frame → Type 0
AreOpen known [] [] = Unit {0}
AreOpen known [] (f ∷ fs) = ⊥
AreOpen known (o ∷ os) [] = ⊥
AreOpen known (o ∷ os) (f ∷ fs) = IsOpen known o f × AreOpen known os fs

-- where a tree was met within frames, these subtrees of a whole tree are met after it, and the trees that follow are
-- the sides that are still to come
abbrev pub Finishes : Tree → List Frame → List Tree → List Tree → Tree → Type 0
Finishes u [] trees rest t = (trees ≡ []) × ((rest ≡ []) × (u ≡ t))
Finishes u (Half a l ∷ fs) trees rest t =
    (more : List Tree) × ((rest ≡ tree.Split a l u ∷ more) × Finishes (tree.Split a l u) fs trees more t)
Finishes u (Bare a ∷ fs) trees rest t =
    (v : Tree) × ((others : List Tree) × ((more : List Tree) × ((trees ≡ v ∷ others)
    × ((rest ≡ subtrees v ++ tree.Split a u v ∷ more) × Finishes (tree.Split a u v) fs others more t))))

-- all trees are whole
abbrev pub AreWhole : List Tree → Type 0
AreWhole [] = Unit {0}
AreWhole (t ∷ ts) = (is_whole t ≡ true) × AreWhole ts

-- a tree was met, of this class, and what is open goes on to the whole tree
pub record Arrives (keys : List Key) (recurs : List Bool) (open_splits : List Open) (trees : List Tree) (class : ℕ)
    (t : Tree) : Type 0 where
  pub met : List Tree
  pub frames : List Frame
  pub rest : List Tree
  pub arrived : Tree
  pub classes : AreClasses keys recurs met
  pub are_open : AreOpen (with_all [] met) open_splits frames
  pub class_is : class_in (with_all [] met) arrived ≡ Some class
  pub finishes : Finishes arrived frames trees rest t
  pub all : met ++ rest ≡ subtrees t

-- the first of the trees that follow is to be met, and what is open goes on to the whole tree
pub record GoesOn (keys : List Key) (recurs : List Bool) (open_splits : List Open) (trees : List Tree)
    (t : Tree) : Type 0 where
  pub met : List Tree
  pub frames : List Frame
  pub rest : List Tree
  pub first : Tree
  pub others : List Tree
  pub classes : AreClasses keys recurs met
  pub are_open : AreOpen (with_all [] met) open_splits frames
  pub trees_are : trees ≡ first ∷ others
  pub finishes : Finishes first frames others rest t
  pub all : met ++ (subtrees first ++ rest) ≡ subtrees t

-- the whole tree was met, of this class
pub record IsDone (keys : List Key) (recurs : List Bool) (trees : List Tree) (class : ℕ) (t : Tree) : Type 0 where
  pub classes : AreClasses keys recurs (subtrees t)
  pub class_is : class_in (with_all [] (subtrees t)) t ≡ Some class
  pub none : trees ≡ []

-- splits were closed: a side is still to come, or the whole tree was met
abbrev pub Closes : List Key → List Bool → List Open → List Tree → Tree → Option ℕ → Type 0
Closes keys recurs open_splits trees t None = GoesOn keys recurs open_splits trees t
Closes keys recurs open_splits trees t (Some class) = IsDone keys recurs trees class t

-- nodes are left to be met, or the whole tree was met
pub record IsNumbered (keys : List Key) (recurs : List Bool) (open_splits : List Open) (ns : List TreeNode) (class : ℕ)
    (t : Tree) : Type 0 where
  pub trees : List Tree
  pub made : trees_of ns ≡ Some trees
  pub whole : AreWhole trees
  pub state : GoesOn keys recurs open_splits trees t ⊎ IsDone keys recurs trees class t
