-- A walk goes down from a split to its true side.
use Rattle.std.proofs.Common.{◌≡◌, ℕ, suc, ◌+◌, ◌<◌, ◌≤◌, nat_lt, max, Bool, true, false, ◌&&◌, IsTrue, List, ◌∷◌}
use Rattle.std.proofs.Common.{[], ◌++◌, length, Option, Some, None, slice_get, refl, ap, ◌∙◌, subst, arith}
use Rattle.std.proofs.Common.{append_assoc}
use Rattle.std.proofs.lemmas.Bool.Decides.{nat_tests}
use Rattle.std.proofs.Math.Nat.{le-max_left, le-max_right}
use Rattle.cat_region.specs.declared.narrowing.Narrowing.{Narrowing}
use Rattle.cat_region.specs.Regions.{Constraints, with_narrowing}
use Rattle.cat_region.specs.Sides.{along, IsAt, turns}
use Rattle.cat_guard.specs.declared.table.Atom.{Atom}
use Rattle.cat_guard.specs.declared.tree.TreeNode.TheVariants as node
use Rattle.cat_guard.specs.Trees.{Tree, node_before, height, answering, with_answer}
use Rattle.cat_guard.specs.Trees as tree
use Rattle.cat_guard.proofs.Exported.{both_true}
use Rattle.cat_walk.specs.Coverage.{leaf_regions}
use Rattle.cat_walk.specs.Walkable.{splits_below}
use Rattle.cat_walk.specs.inside.Walking.{regions_along, AreFit}
use Rattle.cat_walk.proofs.Lists.{there}

pub record IsSplit (a : ℕ) (o : Option (List Tree)) (trees : List Tree) : Type 0 where
  pub left : Tree
  pub right : Tree
  pub rest : List Tree
  pub is : o ≡ Some (left ∷ right ∷ rest)
  pub same : trees ≡ tree.Split a left right ∷ rest

pub split_there : (a : ℕ) (o : Option (List Tree)) (trees : List Tree) → node_before (node.Split a) o ≡ Some trees
    → IsSplit a o trees
split_there a None trees h = absurd (cc)
split_there a (Some []) trees h = absurd (cc)
split_there a (Some (l ∷ [])) trees h = absurd (cc)
split_there a (Some (l ∷ r ∷ rest)) trees h = record { left = l; right = r; rest = rest; is = refl; same = cc }

-- a walk is on the true side of a split, and the false side is the first turn of its path: no region is another
pub record IsDown (atoms : List Atom) (base after : Constraints) (path : List Narrowing) (trees sides : List Tree)
    : Type 0 where
  pub way : List Narrowing
  pub here : IsAt base way after
  pub fit : AreFit (length atoms) base.room (way ∷ turns way) sides
  pub regions : regions_along atoms base (path ∷ turns path) trees ≡ regions_along atoms base (way ∷ turns way) sides

-- a split at the end of a path: its atom is there, the region has room for a side, and a walk goes down to it
pub record IsAtSplit (atoms : List Atom) (base region : Constraints) (a : ℕ) (o : Option (List Tree))
    (path : List Narrowing) (trees : List Tree) : Type 0 where
  pub sides : List Tree
  pub is : o ≡ Some sides
  pub atom : a < length atoms
  pub room : 0 < region.room
  pub down : (after : Constraints) → after.dims ≡ region.dims
      → after.narrowings ≡ (answering atoms region a true).narrowings → after.room + 1 ≡ region.room
      → IsDown atoms base after path trees sides

module _ (atoms : List Atom) (base region : Constraints) (a : ℕ) (left right : Tree) (rest : List Tree)
    (path : List Narrowing) (trees : List Tree) (same : trees ≡ tree.Split a left right ∷ rest)
    (here : IsAt base path region) (fit : AreFit (length atoms) base.room (path ∷ turns path) trees) where
  abbrev fits : AreFit (length atoms) base.room (path ∷ turns path) (tree.Split a left right ∷ rest)
  fits = subst (AreFit (length atoms) base.room (path ∷ turns path)) same fit

  parts : IsTrue (nat_lt a (length atoms)) × IsTrue (splits_below (length atoms) left)
      × IsTrue (splits_below (length atoms) right)
  parts =
      let two = both_true (nat_lt a (length atoms) && splits_below (length atoms) left)
      (splits_below (length atoms) right) fits.0.splits in
      let first = both_true (nat_lt a (length atoms)) (splits_below (length atoms) left) two.0 in
      (first.0, first.1, two.1)

  atom_below : a < length atoms
  atom_below = let below = parts.0 in grind (arith, nat_tests, below)

  high : length path + (1 + max (height left) (height right)) ≤ base.room
  high = fits.0.low

  room_below : 0 < region.room
  room_below =
      let left_room = here.room in
      let up = high in
      omega (arith, left_room, up)

  -- a side has room
  side_room : (side : Tree) → height side ≤ max (height left) (height right)
      → suc (length path) + height side ≤ base.room
  side_room side h =
      let up = high in
      omega (arith, h, up)

  module _ (after : Constraints) (dims : after.dims ≡ region.dims)
      (narrowings : after.narrowings ≡ (answering atoms region a true).narrowings)
      (room : after.room + 1 ≡ region.room) where
    abbrev atom : Atom
    atom = (there atoms a atom_below).value

    found : slice_get atoms a ≡ Some atom
    found = (there atoms a atom_below).is

    -- the narrowing of a side
    abbrev side : Bool → Narrowing
    side b = record { dim = atom.term; cut = atom.cut; yes = b }

    answered : (r : Constraints) (b : Bool) → answering atoms r a b ≡ with_narrowing r (side b)
    answered r b = ap (λ x. with_answer r x b) found

    abbrev rest_regions : List Constraints
    rest_regions = regions_along atoms base (turns path) rest

    same_regions : regions_along atoms base (path ∷ turns path) trees
        ≡ leaf_regions atoms (along base (side true ∷ path)) left
        ++ (leaf_regions atoms (along base (side false ∷ path)) right ++ rest_regions)
    same_regions =
        ap (regions_along atoms base (path ∷ turns path)) same
        ∙ ap (λ r. leaf_regions atoms r left ++ leaf_regions atoms (answering atoms (along base path) a false) right
        ++ rest_regions) (answered (along base path) true)
        ∙ ap (λ r. leaf_regions atoms (along base (side true ∷ path)) left ++ leaf_regions atoms r right
        ++ rest_regions) (answered (along base path) false)
        ∙ append_assoc (leaf_regions atoms (along base (side true ∷ path)) left)
        (leaf_regions atoms (along base (side false ∷ path)) right) rest_regions

    down : IsDown atoms base after path trees (left ∷ right ∷ rest)
    down = record {
      way = side true ∷ path;
      here = record {
        dims = dims ∙ here.dims;
        narrowings =
            narrowings ∙ ap (λ r. r.narrowings) (answered region true)
            ∙ ap (λ ns. ns ++ side true ∷ []) here.narrowings;
        room = let before = here.room in omega (arith, before, room);
      };
      fit = (
        record { splits = parts.1; low = side_room left (le-max_left (height left) (height right)) },
        (
          record { splits = parts.2; low = side_room right (le-max_right (height left) (height right)) },
          fits.1,
        ),
      );
      regions = same_regions;
    }

pub at_split : (atoms : List Atom) (base region : Constraints) (a : ℕ) (o : Option (List Tree)) (path : List Narrowing)
    (trees : List Tree) → node_before (node.Split a) o ≡ Some trees → IsAt base path region
    → AreFit (length atoms) base.room (path ∷ turns path) trees → IsAtSplit atoms base region a o path trees
at_split atoms base region a o path trees made here fit =
    let split = split_there a o trees made in
    record {
      sides = split.left ∷ split.right ∷ split.rest;
      is = split.is;
      atom = atom_below atoms base region a split.left split.right split.rest path trees split.same here fit;
      room = room_below atoms base region a split.left split.right split.rest path trees split.same here fit;
      down = down atoms base region a split.left split.right split.rest path trees split.same here fit;
    }
