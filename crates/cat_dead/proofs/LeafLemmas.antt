-- What judged leaves tell of the leaves of a tree.
use Rattle.std.proofs.Common.{◌≡◌, ℕ, suc, ◌+◌, Bool, true, false, not, ◌&&◌, ◌||◌, if◌then◌else◌, List, [], ◌∷◌, ◌++◌}
use Rattle.std.proofs.Common.{map, length, Option, Some, None, slice_get, Result, Ok, Err, IfSome, IfOk}
use Rattle.std.proofs.Common.{refl, sym, ap, ◌∙◌, arith}
use Rattle.std.specs.List.{list_any}
use Rattle.std.proofs.lemmas.List.{map-append}
use Rattle.cat_region.specs.Decided.{admits_none}
use Rattle.cat_region.specs.Regions.{Constraints}
use Rattle.cat_guard.specs.declared.table.Atom.{Atom}
use Rattle.cat_guard.specs.declared.table.TableTarget.{TableTarget}
use Rattle.cat_guard.specs.declared.table.Term.{Term}
use Rattle.cat_guard.specs.declared.tree.TreeNode.{TreeNode}
use Rattle.cat_guard.specs.Judged.{judged_in}
use Rattle.cat_guard.specs.Trees.{Tree, tree_of, answering}
use Rattle.cat_guard.specs.Trees as tree
use Rattle.cat_guard.specs.Valuations.{dims_of}
use Rattle.cat_guard.specs.Verdicts.{Verdict, Holds, Empty, Conflict, Open}
use Rattle.cat_guard.proofs.Exported.{answered_dims, answered_narrowings}
use Rattle.cat_walk.specs.declared.place.NodePlace.{NodePlace}
use Rattle.cat_walk.specs.Coverage.{leaf_regions}
use Rattle.cat_cert.specs.Uncovered.{everything, lines_passing, regions_of}
use Rattle.cat_dead.specs.declared.judged.JudgedLeaf.{JudgedLeaf}
use Rattle.cat_dead.specs.declared.judged.LeafJudgement.TheVariants as leaf
use Rattle.cat_dead.specs.Winners.{is_open, is_open_in, holder_of, winner_in, winners_in}
use Rattle.cat_dead.specs.Leaves.{judgement_of, judged_at, leaf_nodes, leaves_at, leaves_judged}
use Rattle.cat_dead.specs.inside.Told.{line_if, opened, winner_if, winners_among}
use Rattle.cat_dead.proofs.StepLemmas.{judged_alike}

-- a node of the list behind the named trees, where none is named
abbrev pub in_main : ℕ → NodePlace
in_main place = record { list = 0; node = place }

-- ---- leaves of a region with another room

module _ (atoms : List Atom) (t : TableTarget) where
  leaves_alike : (region other : Constraints) (w : Tree) → region.dims ≡ other.dims
      → region.narrowings ≡ other.narrowings
      → map (judged_at atoms t) (leaf_regions atoms region w) ≡ map (judged_at atoms t) (leaf_regions atoms other w)
  leaves_alike region other tree.Leaf dims narrowings =
      ap (λ j. j ∷ []) (judged_alike atoms t region other dims narrowings)
  leaves_alike region other tree.Rest dims narrowings = refl
  leaves_alike region other (tree.Split a left right) dims narrowings =
      let yes = leaves_alike (answering atoms region a true) (answering atoms other a true) left
      (answered_dims region other (slice_get atoms a) true dims)
      (answered_narrowings region other (slice_get atoms a) true narrowings) in
      let no_ = leaves_alike (answering atoms region a false) (answering atoms other a false) right
      (answered_dims region other (slice_get atoms a) false dims)
      (answered_narrowings region other (slice_get atoms a) false narrowings) in
      map-append (judged_at atoms t) (leaf_regions atoms (answering atoms region a true) left)
      (leaf_regions atoms (answering atoms region a false) right)
      ∙ ap (λ js. js ++ map (judged_at atoms t) (leaf_regions atoms (answering atoms region a false) right)) yes
      ∙ ap (λ js. map (judged_at atoms t) (leaf_regions atoms (answering atoms other a true) left) ++ js) no_
      ∙ sym (map-append (judged_at atoms t) (leaf_regions atoms (answering atoms other a true) left)
      (leaf_regions atoms (answering atoms other a false) right))

  regions_alike : (region other : Constraints) (o : Option Tree) → region.dims ≡ other.dims
      → region.narrowings ≡ other.narrowings
      → map (judged_at atoms t) (regions_of atoms region o) ≡ map (judged_at atoms t) (regions_of atoms other o)
  regions_alike region other None dims narrowings = refl
  regions_alike region other (Some w) dims narrowings = leaves_alike region other w dims narrowings

  -- ---- winners

  winner_of : (j : Verdict) → winner_if t (judgement_of j) ≡ holder_of t j
  winner_of (Holds d) = refl
  winner_of Empty = refl
  winner_of Conflict = refl
  winner_of Open = refl

  winner_is : (region : Constraints) → winner_if t (judged_at atoms t region) ≡ winner_in atoms t region
  winner_is region = by (admits_none region)
    where
      by : (b : Bool) → winner_if t (if b then leaf.Nothing else judgement_of (judged_in atoms region t))
          ≡ (if b then [] else holder_of t (judged_in atoms region t))
      by true = refl
      by false = winner_of (judged_in atoms region t)

  pub winners_are : (places : List ℕ) (regions : List Constraints) → length places ≡ length regions
      → winners_among t (leaves_at places (map (judged_at atoms t) regions)) ≡ winners_in atoms t regions
  winners_are [] [] same = refl
  winners_are [] (r ∷ rs) same = absurd (omega (arith, same))
  winners_are (p ∷ ps) [] same = absurd (omega (arith, same))
  winners_are (p ∷ ps) (r ∷ rs) same =
      ap (λ qs. qs ++ winners_among t (leaves_at ps (map (judged_at atoms t) rs))) (winner_is r)
      ∙ ap (λ qs. winner_in atoms t r ++ qs) (winners_are ps rs (omega (arith, same)))

  -- ---- open leaves

  open_of : (j : Verdict) (n : ℕ) → line_if n (judgement_of j) ≡ (if is_open j then n ∷ [] else [])
  open_of (Holds d) n = refl
  open_of Empty n = refl
  open_of Conflict n = refl
  open_of Open n = refl

  open_is : (region : Constraints) (n : ℕ)
      → line_if n (judged_at atoms t region) ≡ (if is_open_in atoms t region then n ∷ [] else [])
  open_is region n = by (admits_none region)
    where
      by : (b : Bool) → line_if n (if b then leaf.Nothing else judgement_of (judged_in atoms region t))
          ≡ (if not b && is_open (judged_in atoms region t) then n ∷ [] else [])
      by true = refl
      by false = open_of (judged_in atoms region t) n

  one_line : (n : ℕ) (b : Bool) (more : List ℕ) → (if b then n ∷ more else more) ≡ (if b then n ∷ [] else []) ++ more
  one_line n true more = refl
  one_line n false more = refl

  pub lines_are : (head : ℕ) (places : List ℕ) (regions : List Constraints)
      → lines_passing (is_open_in atoms t) (head ∷ []) (map in_main places) regions
      ≡ opened head (leaves_at places (map (judged_at atoms t) regions))
  lines_are head [] regions = refl
  lines_are head (p ∷ ps) [] = refl
  lines_are head (p ∷ ps) (r ∷ rs) =
      let more = lines_passing (is_open_in atoms t) (head ∷ []) (map in_main ps) rs in
      let same : head + suc p ≡ head + 1 + p = omega arith in
      one_line (head + suc p) (is_open_in atoms t r) more
      ∙ ap (λ ns. ns ++ more) (sym (open_is r (head + suc p)))
      ∙ ap (λ ns. line_if (head + suc p) (judged_at atoms t r) ++ ns) (lines_are head ps rs)
      ∙ ap (λ (n : ℕ). line_if n (judged_at atoms t r)
      ++ opened head (leaves_at ps (map (judged_at atoms t) rs))) same

  -- no line is there where none is in front or behind
  none_both : (xs ys : List ℕ) → xs ++ ys ≡ [] → (xs ≡ []) × (ys ≡ [])
  none_both [] ys none = (refl, none)
  none_both (x ∷ xs) ys none = absurd (cc)

  no_line : (n : ℕ) (b : Bool) → (if b then n ∷ [] else []) ≡ [] → b ≡ false
  no_line n true h = absurd (cc)
  no_line n false h = refl

  pub none_open : (head : ℕ) (places : List ℕ) (regions : List Constraints) → length places ≡ length regions
      → opened head (leaves_at places (map (judged_at atoms t) regions)) ≡ []
      → list_any (is_open_in atoms t) regions ≡ false
  none_open head [] [] same none = refl
  none_open head [] (r ∷ rs) same none = absurd (omega (arith, same))
  none_open head (p ∷ ps) [] same none = absurd (omega (arith, same))
  none_open head (p ∷ ps) (r ∷ rs) same none =
      let both = none_both (line_if (head + 1 + p) (judged_at atoms t r))
      (opened head (leaves_at ps (map (judged_at atoms t) rs))) none in
      let one = no_line (head + 1 + p) (is_open_in atoms t r) (sym (open_is r (head + 1 + p)) ∙ both.0) in
      ap (λ b. b || list_any (is_open_in atoms t) rs) one ∙ none_open head ps rs (omega (arith, same)) both.1

-- what is judged from a region before any narrowing on is judged from the whole on
pub whole_judged : {E : Type 0} (o : Option TableTarget) (atoms : List Atom) (terms : List Term) (region : Constraints)
    → region.dims ≡ dims_of terms → region.narrowings ≡ [] → (nodes : List TreeNode) (r : Result (List JudgedLeaf) E)
    → IfSome o (λ t. IfOk r (λ made. made ≡ leaves_judged atoms t region nodes))
    → IfSome o (λ t. IfOk r (λ made. made ≡ leaves_judged atoms t (everything terms) nodes))
whole_judged None atoms terms region dims none nodes r is = tt
whole_judged (Some t) atoms terms region dims none nodes (Err e) is = tt
whole_judged (Some t) atoms terms region dims none nodes (Ok made) is =
    is ∙ ap (leaves_at (leaf_nodes 0 nodes)) (regions_alike atoms t region (everything terms) (tree_of nodes) dims none)
