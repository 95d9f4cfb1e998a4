-- Trees are written by the classes of their subtrees.
use Rattle.std.specs.Prelude.{◌≡◌, ◌≤◌, ℕ, suc, ◌+◌, ◌^◌, nat_le, Bool, true, ◌&&◌, if◌then◌else◌, List, []}
use Rattle.std.specs.Prelude.{◌∷◌}
use Rattle.std.specs.Prelude.{◌++◌, length, Option, None, Some, slice_get}
use Rattle.cat_guard.specs.declared.tree.CitedNode.{CitedNode}
use Rattle.cat_guard.specs.Trees.{Tree}
use Rattle.cat_walk.specs.Sharing.{number_in, written}
use Rattle.cat_walk.specs.inside.Classes.{Key, class_in, AreKeys}

-- ---- numbers of names

-- flags, each with the number of those in front of it that are set, from that number on, where it is set itself
abbrev pub numbers_from : ℕ → List Bool → List (Option ℕ)
numbers_from n [] = []
numbers_from n (f ∷ fs) = (if f then Some n else None) ∷ numbers_from (n + (if f then 1 else 0)) fs

-- each known tree has the number of its name, where it has one
abbrev pub AreNamed : List Tree → List (Option ℕ) → List Tree → Type 0
AreNamed known numbers names =
    (n : ℕ) (t : Tree) → number_in known t ≡ Some n → slice_get numbers n ≡ Some (number_in names t)

-- ---- keys name lower classes

-- the sides of each key, the first of which is of that number, are of lower classes
abbrev pub are_low : ℕ → List Key → Bool
are_low n [] = true
are_low n (k ∷ ks) = nat_le k.1 n && nat_le k.2 n && are_low (suc n) ks

-- classes up to that number
abbrev pub AreUpTo : ℕ → List ℕ → Type 0
AreUpTo n [] = Unit {0}
AreUpTo n (c ∷ cs) = (c ≤ n) × AreUpTo n cs

-- classes that there are, of keys of lower classes
pub record CanWrite (keys : List Key) (numbers : List (Option ℕ)) (classes : List ℕ) : Type 0 where
  pub low : are_low 0 keys ≡ true
  pub count : length numbers ≡ length keys
  pub there : AreUpTo (length keys) classes

-- ---- what is to be written

-- the classes of trees, one for one
abbrev pub HaveClasses : List Tree → List ℕ → List Tree → Type 0
HaveClasses known [] [] = Unit {0}
HaveClasses known [] (t ∷ ts) = ⊥
HaveClasses known (c ∷ cs) [] = ⊥
HaveClasses known (c ∷ cs) (t ∷ ts) = (class_in known t ≡ Some c) × HaveClasses known cs ts

-- trees, one behind the other
abbrev pub all_written : List Tree → List Tree → List CitedNode
all_written names [] = []
all_written names (t ∷ ts) = written names t ++ all_written names ts

-- what is known of classes and of names
pub record Knows (keys : List Key) (numbers : List (Option ℕ)) (known names : List Tree) : Type 0 where
  pub keys_are : AreKeys known keys known
  pub named : AreNamed known numbers names

-- nodes grew by trees of these classes
abbrev pub Writes : List Key → List (Option ℕ) → List ℕ → List CitedNode → List CitedNode → Type 0
Writes keys numbers classes before after =
    (known names trees : List Tree) → Knows keys numbers known names → HaveClasses known classes trees
    → after ≡ before ++ all_written names trees

-- how much is left to be written at most
abbrev pub work_of : List ℕ → ℕ
work_of [] = 0
work_of (c ∷ cs) = 3 ^ c + work_of cs

-- the known trees that have a number
abbrev pub picked : List Tree → List (Option ℕ) → List Tree
picked [] ns = []
picked (t ∷ ts) [] = []
picked (t ∷ ts) (None ∷ ns) = picked ts ns
picked (t ∷ ts) (Some n ∷ ns) = t ∷ picked ts ns
