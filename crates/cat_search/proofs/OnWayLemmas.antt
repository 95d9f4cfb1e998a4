-- Ways through trees, and the leaves to which they lead.
use Rattle.std.proofs.Common.{◌≡◌, ◌⊎◌, inl, inr, ℕ, ◌+◌, Bool, true, false}
use Rattle.std.proofs.Common.{if◌then◌else◌, List, [], ◌∷◌, ◌++◌, length, take, Option, Some, None, refl, sym, ap, ◌∙◌}
use Rattle.std.proofs.Common.{subst, arith, append_assoc, length-append}
use Rattle.std.proofs.Math.Seq.{take-append_seam}
use Rattle.std.proofs.lemmas.List.{append-nil}
use Rattle.cat_region.specs.Regions.{Constraints}
use Rattle.cat_guard.specs.declared.table.Atom.{Atom}
use Rattle.cat_guard.specs.declared.tree.TreeNode.{TreeNode}
use Rattle.cat_guard.specs.declared.tree.TreeNode.TheVariants as node
use Rattle.cat_guard.specs.Trees.{Tree, node_before, trees_of, tree_of, one_tree, answering}
use Rattle.cat_guard.specs.Trees as tree
use Rattle.cat_search.specs.Searched.{Reached, leaves_from, size}
use Rattle.cat_search.specs.declared.way.Answer.{Answer}
use Rattle.cat_search.specs.Ways.{led_to, turned, passed, way_from}
use Rattle.cat_search.specs.OnWays.{IsOnWay, AreOnWays}

pub way_more : (way : List Answer) (ns ms : List TreeNode) → way_from way (ns ++ ms) ≡ way_from (way_from way ns) ms
way_more way [] ms = refl
way_more way (n ∷ ns) ms = way_more (passed n way) ns ms

-- ---- the ways that are still to come

-- the ways to the false sides that are to come, the last one first
abbrev turns : List Answer → List (List Answer)
turns [] = []
turns (n ∷ way) = if n.yes then (record { atom = n.atom; yes = false } ∷ way) ∷ turns way else turns way

turns_are : (way : List Answer) → (turns way ≡ []) ⊎ (turns way ≡ turned way ∷ turns (turned way))
turns_are [] = inl refl
turns_are (n ∷ way) = by n.yes (turns_are way)
  where
    other : List Answer
    other = record { atom = n.atom; yes = false } ∷ way

    by : (b : Bool) → (turns way ≡ []) ⊎ (turns way ≡ turned way ∷ turns (turned way))
        → ((if b then other ∷ turns way else turns way) ≡ [])
        ⊎ ((if b then other ∷ turns way else turns way)
        ≡ (if b then other else turned way) ∷ turns (if b then other else turned way))
    by true before = inr refl
    by false before = before

-- ---- leaves

module _ (atoms : List Atom) (base : Constraints) where
  -- the leaves of trees, of which each is at the end of its way, and the first node has that place
  abbrev leaves_at : ℕ → List (List Answer) → List Tree → List Reached
  leaves_at place [] trees = []
  leaves_at place (way ∷ ways) [] = []
  leaves_at place (way ∷ ways) (t ∷ ts) =
      leaves_from atoms place (led_to atoms base way) t ++ leaves_at (place + size t) ways ts

  split_leaves : (place a : ℕ) (way : List Answer) (ways : List (List Answer)) (l r : Tree) (more : List Tree)
      → leaves_at place (way ∷ ways) (tree.Split a l r ∷ more)
      ≡ leaves_at (place + 1) ((record { atom = a; yes = true } ∷ way) ∷ (record { atom = a; yes = false } ∷ way)
      ∷ ways) (l ∷ r ∷ more)
  split_leaves place a way ways l r more =
      let region = led_to atoms base way in
      let one = leaves_from atoms (place + 1) (answering atoms region a true) l in
      let other = leaves_from atoms (place + 1 + size l) (answering atoms region a false) r in
      let behind : place + (1 + (size l + size r)) ≡ place + 1 + size l + size r = omega arith in
      append_assoc one other (leaves_at (place + (1 + (size l + size r))) ways more)
      ∙ ap (λ k. one ++ (other ++ leaves_at k ways more)) behind

  module _ (nodes : List TreeNode) where
    abbrev Are : ℕ → List Reached → Type 0
    Are place ls = AreOnWays atoms base nodes place ls

    earlier : (place : ℕ) (ls : List Reached) → Are (place + 1) ls → Are place ls
    earlier place [] are = tt
    earlier place (l ∷ ls) are = let behind = are.0 in (omega (arith, behind), are.1, are.2)

    -- what is so behind a node that has no sides
    module _ (place : ℕ) (way : List Answer) (us : List Tree)
        (rest : Are (place + 1) (leaves_at (place + 1) (turned way ∷ turns (turned way)) us)) where
      behind : Are (place + 1) (leaves_at (place + 1) (turns way) us)
      behind = by (turns_are way)
        where
          by : (turns way ≡ []) ⊎ (turns way ≡ turned way ∷ turns (turned way))
              → Are (place + 1) (leaves_at (place + 1) (turns way) us)
          by (inl none) = subst (λ ways. Are (place + 1) (leaves_at (place + 1) ways us)) (sym none) tt
          by (inr some) = subst (λ ways. Are (place + 1) (leaves_at (place + 1) ways us)) (sym some) rest

    on : (front ns : List TreeNode) (place : ℕ) (way : List Answer) (trees : List Tree) → nodes ≡ front ++ ns
        → length front ≡ place → way_from [] front ≡ way → trees_of ns ≡ Some trees
        → Are place (leaves_at place (way ∷ turns way) trees)
    on front [] place way trees whole at leads is =
        let none : [] ≡ trees = cc in
        subst (λ ts. Are place (leaves_at place (way ∷ turns way) ts)) none tt
    on front (n ∷ ns) place way trees whole at leads is =
        by n (trees_of ns) refl is whole
        (λ m us e same. on (front ++ m ∷ []) ns (place + 1) (passed m way) us
        (same ∙ sym (append_assoc front (m ∷ []) ns)) (length-append front (m ∷ []) ∙ ap (λ k. k + 1) at)
        (way_more [] front (m ∷ []) ∙ ap (passed m) leads) e)
      where
        Goal : Type 0
        Goal = Are place (leaves_at place (way ∷ turns way) trees)

        More : TreeNode → Type 0
        More m = (us : List Tree) → trees_of ns ≡ Some us → nodes ≡ front ++ m ∷ ns
            → Are (place + 1) (leaves_at (place + 1) (passed m way ∷ turns (passed m way)) us)

        here : (m : TreeNode) → nodes ≡ front ++ m ∷ ns
            → IsOnWay atoms base nodes (record { leaf = place; region = led_to atoms base way })
        here m same = record {
          within =
              let counted = ap length same ∙ length-append front (m ∷ ns) in omega (arith, counted, at);
          region_is =
              ap (led_to atoms base)
              (sym (ap (λ k. way_from [] (take k nodes)) (sym at) ∙ ap (λ xs. way_from [] (take (length front) xs)) same
              ∙ ap (way_from []) (take-append_seam front (m ∷ ns)) ∙ leads));
        }

        by : (m : TreeNode) (o : Option (List Tree)) → trees_of ns ≡ o → node_before m o ≡ Some trees
            → nodes ≡ front ++ m ∷ ns → ((k : TreeNode) → More k)
            → Are place (leaves_at place (way ∷ turns way) trees)
        by m None e made same more = absurd (cc)
        by node.Leaf (Some us) e made same more =
            let first : tree.Leaf ∷ us ≡ trees = cc in
            subst (λ ts. Are place (leaves_at place (way ∷ turns way) ts)) first (
              omega arith,
              here node.Leaf same,
              subst (λ k. Are k (leaves_at (place + 1) (turns way) us)) (omega arith)
                  (behind place way us (more node.Leaf us e same)),
            )
        by node.Rest (Some us) e made same more =
            let first : tree.Rest ∷ us ≡ trees = cc in
            subst (λ ts. Are place (leaves_at place (way ∷ turns way) ts)) first
            (earlier place (leaves_at (place + 1) (turns way) us) (behind place way us (more node.Rest us e same)))
        by (node.Split a) (Some []) e made same more = absurd (cc)
        by (node.Split a) (Some (l ∷ [])) e made same more = absurd (cc)
        by (node.Split a) (Some (l ∷ r ∷ us)) e made same more =
            let first : tree.Split a l r ∷ us ≡ trees = cc in
            subst (λ ts. Are place (leaves_at place (way ∷ turns way) ts)) first
            (subst (Are place) (sym (split_leaves place a way (turns way) l r us))
            (earlier place (leaves_at (place + 1) ((record { atom = a; yes = true } ∷ way)
            ∷ (record { atom = a; yes = false } ∷ way) ∷ turns way) (l ∷ r ∷ us))
            (more (node.Split a) (l ∷ r ∷ us) e same)))

pub one_of : (o : Option (List Tree)) (t : Tree) → one_tree o ≡ Some t → o ≡ Some (t ∷ [])
one_of None t is = absurd (cc)
one_of (Some []) t is = absurd (cc)
one_of (Some (u ∷ [])) t is = ap (λ v. Some (v ∷ [])) (let same : u ≡ t = cc in same)
one_of (Some (u ∷ w ∷ us)) t is = absurd (cc)

pub all_on_ways : (atoms : List Atom) (base : Constraints) (nodes : List TreeNode) (t : Tree) → tree_of nodes ≡ Some t
    → AreOnWays atoms base nodes 0 (leaves_from atoms 0 base t)
all_on_ways atoms base nodes t is =
    subst (AreOnWays atoms base nodes 0) (append-nil (leaves_from atoms 0 base t))
    (on atoms base nodes [] nodes 0 [] (t ∷ []) refl refl refl (one_of (trees_of nodes) t is))

pub ruleset on_ways = (all_on_ways)
