-- Numbers of subtrees.
use Rattle.std.specs.Prelude.{◌≡◌, ℕ, suc, nat_lt, Bool, List, [], ◌∷◌, ◌++◌, length, Option, None}
use Rattle.std.specs.Prelude.{Some, slice_get}
use Rattle.std.specs.Option.{option_map}
use Rattle.cat_guard.specs.Trees.{Tree}
use Rattle.cat_guard.specs.Trees as tree
use Rattle.cat_walk.specs.Sharing.{number_in, with_all, times_in}

-- the atom of a split, and the classes of its sides
abbrev pub Key : Type 0
Key = ℕ × ℕ × ℕ

-- the class of a tree where some trees are known: 0 of a leaf, and else one more than its number
abbrev pub class_in : List Tree → Tree → Option ℕ
class_in known tree.Leaf = Some 0
class_in known tree.Rest = None
class_in known (tree.Split a l r) = option_map suc (number_in known (tree.Split a l r))

-- a key is that of a split over trees of these classes
abbrev pub IsKey : List Tree → Key → Tree → Type 0
IsKey known k tree.Leaf = ⊥
IsKey known k tree.Rest = ⊥
IsKey known k (tree.Split a l r) = (k.0 ≡ a) × (class_in known l ≡ Some k.1) × (class_in known r ≡ Some k.2)

-- keys are those of some trees, one for one
abbrev pub AreKeys : List Tree → List Key → List Tree → Type 0
AreKeys known [] [] = Unit {0}
AreKeys known [] (t ∷ ts) = ⊥
AreKeys known (k ∷ ks) [] = ⊥
AreKeys known (k ∷ ks) (t ∷ ts) = IsKey known k t × AreKeys known ks ts

-- keys and flags are those of the subtrees that were met, in this order
pub record AreClasses (keys : List Key) (recurs : List Bool) (met : List Tree) : Type 0 where
  pub keys_are : AreKeys (with_all [] met) keys (with_all [] met)
  pub count : length recurs ≡ length (with_all [] met)
  pub recurs_are : (n : ℕ) (t : Tree) → number_in (with_all [] met) t ≡ Some n
      → slice_get recurs n ≡ Some (nat_lt 1 (times_in met t))

-- as many keys as flags, so that a flag can be set for each key
abbrev pub HasRoom : List Key → List Bool → Type 0
HasRoom keys recurs = length recurs ≡ length keys

-- one subtree more was met, which has this class
pub record Meets (keys : List Key) (recurs : List Bool) (met : List Tree) (t : Tree) (class : ℕ) : Type 0 where
  pub classes : AreClasses keys recurs (met ++ t ∷ [])
  pub is : class_in (with_all [] (met ++ t ∷ [])) t ≡ Some class
