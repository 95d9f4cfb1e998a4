-- The atoms that ways through searched trees ask.
use Rattle.std.proofs.Common.{◌≡◌, ℕ, zero, suc, ◌<◌, nat_lt, Bool, true, false, ◌&&◌, IsTrue}
use Rattle.std.proofs.Common.{if◌then◌else◌, List, [], ◌∷◌, length, take, Option, Some, None, refl, sym}
use Rattle.std.proofs.Common.{subst, arith}
use Rattle.std.proofs.lemmas.Bool.Decides.{nat_tests}
use Rattle.cat_region.specs.Regions.{Constraints}
use Rattle.cat_scope.specs.Names.{AllHave, IsOneOf}
use Rattle.cat_guard.specs.declared.table.Atom.{Atom}
use Rattle.cat_guard.specs.declared.table.TableTarget.{TableTarget}
use Rattle.cat_guard.specs.declared.table.Term.{Term}
use Rattle.cat_guard.specs.declared.tree.TreeNode.{TreeNode}
use Rattle.cat_guard.specs.declared.tree.TreeNode.TheVariants as node
use Rattle.cat_guard.specs.Soundness.{target_is_sound, is_sound}
use Rattle.cat_guard.specs.Trees.{Tree, answering, node_before, trees_of, tree_of}
use Rattle.cat_guard.specs.Trees as tree
use Rattle.cat_guard.proofs.Exported.{all_more, both_true, targets_sound, sound_parts}
use Rattle.cat_guard.specs.Judgements.{atoms_in}
use Rattle.cat_search.specs.Searched.{IsSearched}
use Rattle.cat_search.specs.declared.way.Answer.{Answer}
use Rattle.cat_search.specs.Ways.{ask_below, turned, passed, way_from}
use Rattle.cat_search.proofs.OnWayLemmas.{one_of}
use Rattle.cat_search.proofs.TargetLemmas.{def_below}

-- ---- answers on ways

pub and_true : (a b : Bool) → IsTrue a → IsTrue b → IsTrue (a && b)
and_true a b one other = subst (λ (c : Bool). IsTrue (c && b)) (sym one) other

module _ (bound : ℕ) where
  turned_asks : (way : List Answer) → IsTrue (ask_below bound way) → IsTrue (ask_below bound (turned way))
  turned_asks [] all = refl
  turned_asks (n ∷ way) all = by n.yes (turned_asks way two.1)
    where
      two : IsTrue (nat_lt n.atom bound) × IsTrue (ask_below bound way)
      two = both_true (nat_lt n.atom bound) (ask_below bound way) all

      by : (b : Bool) → IsTrue (ask_below bound (turned way))
          → IsTrue (ask_below bound (if b then record { atom = n.atom; yes = false } ∷ way else turned way))
      by true rest = all
      by false rest = rest

  abbrev NodeBelow : TreeNode → Type 0
  NodeBelow node.Leaf = Unit {0}
  NodeBelow node.Rest = Unit {0}
  NodeBelow (node.Split a) = a < bound

  passed_asks : (n : TreeNode) (way : List Answer) → NodeBelow n → IsTrue (ask_below bound way)
      → IsTrue (ask_below bound (passed n way))
  passed_asks node.Leaf way below all = turned_asks way all
  passed_asks node.Rest way below all = turned_asks way all
  passed_asks (node.Split a) way below all =
      and_true (nat_lt a bound) (ask_below bound way) (grind (arith, nat_tests, below)) all

  pub way_asks : (n : ℕ) (ns : List TreeNode) (way : List Answer) → AllHave NodeBelow ns
      → IsTrue (ask_below bound way) → IsTrue (ask_below bound (way_from way (take n ns)))
  way_asks zero ns way below all = all
  way_asks (suc n) [] way below all = all
  way_asks (suc n) (m ∷ ns) way below all =
      way_asks n ns (passed m way) below.1 (passed_asks m way below.0 all)

  -- ---- the splits of a tree

  abbrev TreeBelow : Tree → Type 0
  TreeBelow tree.Leaf = Unit {0}
  TreeBelow tree.Rest = Unit {0}
  TreeBelow (tree.Split a left right) = (a < bound) × TreeBelow left × TreeBelow right

  nodes_below : (ns : List TreeNode) (trees : List Tree) → trees_of ns ≡ Some trees → AllHave TreeBelow trees
      → AllHave NodeBelow ns
  nodes_below [] trees is below = tt
  nodes_below (n ∷ ns) trees is below = by n (trees_of ns) refl is (nodes_below ns)
    where
      by : (m : TreeNode) (o : Option (List Tree)) → trees_of ns ≡ o → node_before m o ≡ Some trees
          → ((us : List Tree) → trees_of ns ≡ Some us → AllHave TreeBelow us → AllHave NodeBelow ns)
          → NodeBelow m × AllHave NodeBelow ns
      by m None e made rest = absurd (cc)
      by node.Leaf (Some us) e made rest =
          let first : trees ≡ tree.Leaf ∷ us = cc in (tt, rest us e (subst (AllHave TreeBelow) first below).1)
      by node.Rest (Some us) e made rest =
          let first : trees ≡ tree.Rest ∷ us = cc in (tt, rest us e (subst (AllHave TreeBelow) first below).1)
      by (node.Split a) (Some []) e made rest = absurd (cc)
      by (node.Split a) (Some (l ∷ [])) e made rest = absurd (cc)
      by (node.Split a) (Some (l ∷ r ∷ us)) e made rest =
          let first : trees ≡ tree.Split a l r ∷ us = cc in
          let all = subst (AllHave TreeBelow) first below in
          (all.0.0, rest (l ∷ r ∷ us) e (all.0.1, (all.0.2, all.1)))

  searched_below : (atoms : List Atom) (t : TableTarget) → ((a : ℕ) → IsOneOf a (atoms_in t) → a < bound)
      → (region : Constraints) (found : Tree) → IsSearched atoms t region found → TreeBelow found
  searched_below atoms t below region tree.Leaf searched = tt
  searched_below atoms t below region tree.Rest searched = tt
  searched_below atoms t below region (tree.Split a left right) searched = (
    below a searched.0.asked,
    searched_below atoms t below (answering atoms region a true) left searched.1,
    searched_below atoms t below (answering atoms region a false) right searched.2,
  )

pub asks_of_table : (terms : List Term) (atoms : List Atom) (targets : List TableTarget)
    → IsTrue (is_sound terms atoms targets)
    → AllHave (λ t. (region : Constraints) (nodes : List TreeNode) (found : Tree) → tree_of nodes ≡ Some found
    → IsSearched atoms t region found → (n : ℕ) → IsTrue (ask_below (length atoms) (way_from [] (take n nodes))))
    targets
asks_of_table terms atoms targets sound = all_more (λ t. IsTrue (target_is_sound (length atoms) t)) _ targets
    (targets_sound terms atoms targets sound)
    (λ t is region nodes found made searched n. way_asks (length atoms) n nodes []
    (nodes_below (length atoms) nodes (found ∷ []) (one_of (trees_of nodes) found made) (
      searched_below (length atoms) atoms t
          (λ a. def_below (length atoms) a t.defs (sound_parts (length atoms) t is).0) region found searched,
      tt,
    )) refl)
