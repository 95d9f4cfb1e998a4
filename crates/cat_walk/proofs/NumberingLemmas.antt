-- The subtrees of a tree are met one after the other.
use Rattle.std.proofs.Common.{◌≡◌, ◌⊎◌, inl, inr, ℕ, Bool, true, false, if◌then◌else◌, List, [], ◌∷◌}
use Rattle.std.proofs.Common.{◌++◌, Option, Some, None, refl, sym, ap, ◌∙◌, subst, append_assoc, append-nil, true≢false}
use Rattle.cat_guard.specs.declared.tree.TreeNode.{TreeNode}
use Rattle.cat_guard.specs.declared.tree.TreeNode.TheVariants as node
use Rattle.cat_guard.specs.Trees.{Tree, node_before, trees_of, is_whole}
use Rattle.cat_guard.specs.Trees as tree
use Rattle.cat_guard.proofs.Exported.{both_true}
use Rattle.cat_walk.specs.declared.numbering.Open.{Open}
use Rattle.cat_walk.specs.Sharing.{is_among, with_all, subtrees}
use Rattle.cat_walk.specs.inside.Classes.{Key, class_in, AreClasses, Meets}
use Rattle.cat_walk.specs.inside.Numbering.{Frame, Bare, Half, AreOpen, Finishes, AreWhole, Arrives, GoesOn}
use Rattle.cat_walk.specs.inside.Numbering.{IsDone}
use Rattle.cat_walk.specs.inside.Numbering.{Closes, IsNumbered}
use Rattle.cat_walk.proofs.SharedLaws.{with_all-append}
use Rattle.cat_walk.proofs.ClassLemmas.{class_more}

-- ---- what is known stays so

class_kept : (met : List Tree) (s t : Tree) (c : ℕ) → class_in (with_all [] met) t ≡ Some c
    → class_in (with_all [] (met ++ s ∷ [])) t ≡ Some c
class_kept met s t c is =
    subst (λ ks. class_in ks t ≡ Some c) (sym (with_all-append [] met (s ∷ [])))
    (by (is_among (with_all [] met) s))
  where
    by : (b : Bool) → class_in (if b then with_all [] met else with_all [] met ++ s ∷ []) t ≡ Some c
    by true = is
    by false = class_more (with_all [] met) (s ∷ []) t c is

open_kept : (met : List Tree) (s : Tree) (os : List Open) (fs : List Frame) → AreOpen (with_all [] met) os fs
    → AreOpen (with_all [] (met ++ s ∷ [])) os fs
open_kept met s [] [] are = tt
open_kept met s [] (f ∷ fs) are = absurd (are)
open_kept met s (o ∷ os) [] are = absurd (are)
open_kept met s (o ∷ os) (Bare a ∷ fs) are = (are.0, open_kept met s os fs are.1)
open_kept met s (o ∷ os) (Half a l ∷ fs) are =
    let side = are.0.1 in
    ((are.0.0, (side.0, (side.1.0, class_kept met s l side.0 side.1.1))), open_kept met s os fs are.1)

-- ---- splits are closed

module _ (keys : List Key) (recurs : List Bool) (os : List Open) (trees : List Tree) (class : ℕ) (t : Tree) where
  -- none is open any more
  pub done : Arrives keys recurs [] trees class t → IsDone keys recurs trees class t
  done at = by at.frames at.are_open at.finishes
    where
      by : (fs : List Frame) → AreOpen (with_all [] at.met) [] fs → Finishes at.arrived fs trees at.rest t
          → IsDone keys recurs trees class t
      by (f ∷ fs) are finishes = absurd (are)
      by [] are finishes =
          let all : at.met ≡ subtrees t =
          sym (append-nil at.met) ∙ ap (λ r. at.met ++ r) (sym finishes.1.0) ∙ at.all in
          record {
            classes = subst (λ ms. AreClasses keys recurs ms) all at.classes;
            class_is =
                subst (λ ms. class_in (with_all [] ms) t ≡ Some class) all
                (subst (λ u. class_in (with_all [] at.met) u ≡ Some class) finishes.1.1 at.class_is);
            none = finishes.0;
          }

  module _ (o : Open) (at : Arrives keys recurs (o ∷ os) trees class t) where
    -- the other side is still to come
    pub other_side : o.left ≡ None
        → GoesOn keys recurs (record { atom = o.atom; left = Some class } ∷ os) trees t
    other_side none = by at.frames at.are_open at.finishes
      where
        by : (fs : List Frame) → AreOpen (with_all [] at.met) (o ∷ os) fs → Finishes at.arrived fs trees at.rest t
            → GoesOn keys recurs (record { atom = o.atom; left = Some class } ∷ os) trees t
        by [] are finishes = absurd (are)
        by (Half a l ∷ fs) are finishes = let some = are.0.1.1.0 in absurd (cc)
        by (Bare a ∷ fs) are finishes =
            let v = finishes.0 in
            let others = finishes.1.0 in
            let more = finishes.1.1.0 in
            let facts = finishes.1.1.1 in
            record {
              met = at.met;
              frames = Half a at.arrived ∷ fs;
              rest = tree.Split a at.arrived v ∷ more;
              first = v;
              others = others;
              classes = at.classes;
              are_open = ((are.0.0, (class, (refl, at.class_is))), are.1);
              trees_are = facts.0;
              finishes = (more, (refl, facts.1.1));
              all = ap (λ r. at.met ++ r) (sym facts.1.0) ∙ at.all;
            }

    -- both sides were met
    pub both_sides : (left : ℕ) → o.left ≡ Some left → (ks : List Key) (flags : List Bool) (c : ℕ)
        → ((met : List Tree) (l r : Tree) → AreClasses keys recurs met → class_in (with_all [] met) l ≡ Some left
        → class_in (with_all [] met) r ≡ Some class → Meets ks flags met (tree.Split o.atom l r) c)
        → Arrives ks flags os trees c t
    both_sides left some ks flags c meets = by at.frames at.are_open at.finishes
      where
        by : (fs : List Frame) → AreOpen (with_all [] at.met) (o ∷ os) fs → Finishes at.arrived fs trees at.rest t
            → Arrives ks flags os trees c t
        by [] are finishes = absurd (are)
        by (Bare a ∷ fs) are finishes = let none = are.0.1 in absurd (cc)
        by (Half a l ∷ fs) are finishes =
            let side = are.0.1 in
            let same : side.0 ≡ left = let one = side.1.0 in cc in
            let left_is = subst (λ n. class_in (with_all [] at.met) l ≡ Some n) same side.1.1 in
            let made = subst (λ b. Meets ks flags at.met (tree.Split b l at.arrived) c) are.0.0
            (meets at.met l at.arrived at.classes left_is at.class_is) in
            let s = tree.Split a l at.arrived in
            let more = finishes.0 in
            record {
              met = at.met ++ s ∷ [];
              frames = fs;
              rest = more;
              arrived = s;
              classes = made.classes;
              are_open = open_kept at.met s os fs are.1;
              class_is = made.is;
              finishes = finishes.1.1;
              all =
                  append_assoc at.met (s ∷ []) more ∙ ap (λ r. at.met ++ r) (sym finishes.1.0) ∙ at.all;
            }

-- ---- node by node

record IsSplit (a : ℕ) (o : Option (List Tree)) (trees : List Tree) : Type 0 where
  pub left : Tree
  pub right : Tree
  pub rest : List Tree
  pub is : o ≡ Some (left ∷ right ∷ rest)
  pub same : trees ≡ tree.Split a left right ∷ rest

split_there : (a : ℕ) (o : Option (List Tree)) (trees : List Tree) → node_before (node.Split a) o ≡ Some trees
    → IsSplit a o trees
split_there a None trees h = absurd (cc)
split_there a (Some []) trees h = absurd (cc)
split_there a (Some (l ∷ [])) trees h = absurd (cc)
split_there a (Some (l ∷ r ∷ rest)) trees h = record { left = l; right = r; rest = rest; is = refl; same = cc }

pub record IsLeaf (o : Option (List Tree)) (trees : List Tree) : Type 0 where
  pub rest : List Tree
  pub is : o ≡ Some rest
  pub same : trees ≡ tree.Leaf ∷ rest

pub leaf_there : (o : Option (List Tree)) (trees : List Tree) → node_before node.Leaf o ≡ Some trees → IsLeaf o trees
leaf_there None trees h = absurd (cc)
leaf_there (Some rest) trees h = record { rest = rest; is = refl; same = cc }

-- no rest is among whole trees
no_rest : (o : Option (List Tree)) (trees : List Tree) → node_before node.Rest o ≡ Some trees → AreWhole trees → ⊥
no_rest None trees h whole = absurd (cc)
no_rest (Some rest) trees h whole =
    let same : tree.Rest ∷ rest ≡ trees = cc in
    let all = subst AreWhole (sym same) whole in
    true≢false (sym all.0)

module _ (keys : List Key) (recurs : List Bool) (os : List Open) (ns : List TreeNode) (root : ℕ) (t : Tree) where
  -- a split opens
  pub opens : (a : ℕ) → IsNumbered keys recurs os (node.Split a ∷ ns) root t
      → IsNumbered keys recurs (record { atom = a; left = None } ∷ os) ns root t
  opens a at = by at.state
    where
      split : IsSplit a (trees_of ns) at.trees
      split = split_there a (trees_of ns) at.trees at.made

      whole : AreWhole (tree.Split a split.left split.right ∷ split.rest)
      whole = subst AreWhole split.same at.whole

      sides : (is_whole split.left ≡ true) × (is_whole split.right ≡ true)
      sides = both_true (is_whole split.left) (is_whole split.right) whole.0

      by : GoesOn keys recurs os at.trees t ⊎ IsDone keys recurs at.trees root t
          → IsNumbered keys recurs (record { atom = a; left = None } ∷ os) ns root t
      by (inr ended) = let none = ended.none in let some = split.same in absurd (cc)
      by (inl goes) =
          let l = split.left in
          let r = split.right in
          let s = tree.Split a l r in
          let heads : goes.first ∷ goes.others ≡ s ∷ split.rest = sym goes.trees_are ∙ split.same in
          let first : goes.first ≡ s = cc in
          let others : goes.others ≡ split.rest = cc in
          let finishes = subst (λ us. Finishes s goes.frames us goes.rest t) others
          (subst (λ u. Finishes u goes.frames goes.others goes.rest t) first goes.finishes) in
          let all : goes.met ++ (subtrees l ++ (subtrees r ++ s ∷ goes.rest)) ≡ subtrees t =
          ap (λ ts. goes.met ++ ts) (sym (append_assoc (subtrees l) (subtrees r) (s ∷ goes.rest)))
          ∙ ap (λ ts. goes.met ++ ts) (sym (append_assoc (subtrees l ++ subtrees r) (s ∷ []) goes.rest))
          ∙ ap (λ u. goes.met ++ (subtrees u ++ goes.rest)) (sym first) ∙ goes.all in
          record {
            trees = l ∷ r ∷ split.rest;
            made = split.is;
            whole = (sides.0, (sides.1, whole.1));
            state = inl (record {
              met = goes.met;
              frames = Bare a ∷ goes.frames;
              rest = subtrees r ++ s ∷ goes.rest;
              first = l;
              others = r ∷ split.rest;
              classes = goes.classes;
              are_open = ((refl, refl), goes.are_open);
              trees_are = refl;
              finishes = (r, (split.rest, (goes.rest, (refl, (refl, finishes)))));
              all = all;
            });
          }

  -- a leaf is met
  module _ (at : IsNumbered keys recurs os (node.Leaf ∷ ns) root t) where
    abbrev leaf : IsLeaf (trees_of ns) at.trees
    leaf = leaf_there (trees_of ns) at.trees at.made

    whole_rest : AreWhole leaf.rest
    whole_rest = (subst AreWhole leaf.same at.whole).1

    pub leaf_arrives : Arrives keys recurs os leaf.rest 0 t
    leaf_arrives = by at.state
      where
        by : GoesOn keys recurs os at.trees t ⊎ IsDone keys recurs at.trees root t
            → Arrives keys recurs os leaf.rest 0 t
        by (inr ended) = let none = ended.none in let some = leaf.same in absurd (cc)
        by (inl goes) =
            let heads : goes.first ∷ goes.others ≡ tree.Leaf ∷ leaf.rest = sym goes.trees_are ∙ leaf.same in
            let first : goes.first ≡ tree.Leaf = cc in
            let others : goes.others ≡ leaf.rest = cc in
            record {
              met = goes.met;
              frames = goes.frames;
              rest = goes.rest;
              arrived = tree.Leaf;
              classes = goes.classes;
              are_open = goes.are_open;
              class_is = refl;
              finishes = subst (λ us. Finishes tree.Leaf goes.frames us goes.rest t) others
                  (subst (λ u. Finishes u goes.frames goes.others goes.rest t) first goes.finishes);
              all = ap (λ u. goes.met ++ (subtrees u ++ goes.rest)) (sym first) ∙ goes.all;
            }

    -- a side is still to come
    pub goes_on : (ks : List Key) (flags : List Bool) (after : List Open) → GoesOn ks flags after leaf.rest t
        → IsNumbered ks flags after ns root t
    goes_on ks flags after goes =
        record { trees = leaf.rest; made = leaf.is; whole = whole_rest; state = inl goes }

    -- the whole tree was met
    pub has_ended : (ks : List Key) (flags : List Bool) (after : List Open) (class : ℕ)
        → IsDone ks flags leaf.rest class t → IsNumbered ks flags after ns class t
    has_ended ks flags after class ended =
        record { trees = leaf.rest; made = leaf.is; whole = whole_rest; state = inr ended }

  pub no_rest_node : IsNumbered keys recurs os (node.Rest ∷ ns) root t → ⊥
  no_rest_node at = no_rest (trees_of ns) at.trees at.made at.whole

-- the class that is told, or one that was told before
abbrev pub told_or : Option ℕ → ℕ → ℕ
told_or None root = root
told_or (Some class) root = class

pub node_met : (keys : List Key) (recurs : List Bool) (os : List Open) (ns : List TreeNode) (root : ℕ) (t : Tree)
    (n : TreeNode) → ((x : ℕ) → n ≡ node.Split x → ⊥) → IsNumbered keys recurs os (n ∷ ns) root t
    → (ks : List Key) (flags : List Bool) (after : List Open) (told : Option ℕ)
    → ((trees : List Tree) (u : Tree) → Arrives keys recurs os trees 0 u → Closes ks flags after trees u told)
    → IsNumbered ks flags after ns (told_or told root) t
node_met keys recurs os ns root t (node.Split a) other at ks flags after told closes = absurd (other a refl)
node_met keys recurs os ns root t node.Rest other at ks flags after told closes =
    absurd (no_rest_node keys recurs os ns root t at)
node_met keys recurs os ns root t node.Leaf other at ks flags after told closes =
    by told (closes (leaf keys recurs os ns root t at).rest t (leaf_arrives keys recurs os ns root t at))
  where
    by : (o : Option ℕ) → Closes ks flags after (leaf keys recurs os ns root t at).rest t o
        → IsNumbered ks flags after ns (told_or o root) t
    by None goes = goes_on keys recurs os ns root t at ks flags after goes
    by (Some class) ended = has_ended keys recurs os ns root t at ks flags after class ended
