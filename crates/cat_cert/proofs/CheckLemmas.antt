-- What a walk says of the lines of a tree, and the lines of its nodes.
use Rattle.std.proofs.Common.{◌≡◌, ℕ, zero, suc, ◌+◌, ◌<◌, ◌≤◌, Bool, true, false, if◌then◌else◌}
use Rattle.std.proofs.Common.{List, [], ◌∷◌, length, Option, None, Some, slice_get, unwrap_or, Err}
use Rattle.std.proofs.Common.{refl, sym, ap, ◌∙◌, arith, IfSome}
use Rattle.std.specs.List.{list_any}
use Rattle.std.proofs.lemmas.Bool.{or_parts}
use Rattle.cat_region.specs.Regions.{Constraints}
use Rattle.cat_guard.specs.declared.table.Atom.{Atom}
use Rattle.cat_guard.specs.declared.table.TableTarget.{TableTarget}
use Rattle.cat_guard.specs.declared.tree.CitedNode.{CitedNode}
use Rattle.cat_guard.specs.Trees.{Tree, expanded}
use Rattle.cat_walk.specs.declared.place.NodePlace.{NodePlace}
use Rattle.cat_walk.specs.declared.refusal.WalkRefusal.TheVariants as why
use Rattle.cat_walk.specs.Coverage.{is_uncovered, first_place, AnswersOf, IsWalked, leaf_regions}
use Rattle.cat_walk.specs.LeafPlaces.{elements, leaf_places}
use Rattle.cat_cert.specs.declared.certificate.CertTree.{CertTree}
use Rattle.cat_cert.specs.declared.refusal.CertRefusal.TheVariants as refusal
use Rattle.cat_cert.specs.ReadTrees.{AreWithin}
use Rattle.cat_cert.specs.Uncovered.{IsCovered, line_of, lines_passing, regions_of}
use Rattle.cat_cert.specs.Uncovered.{tree_uncovered}
use Rattle.cat_cert.specs.Heights.{IsLow}
use Rattle.cat_cert.specs.inside.Checkable.{NamesFirst}
use Rattle.cat_cert.proofs.Lists.{below_length}

-- ---- lines of nodes

pub line_within : (most : ℕ) (heads : List ℕ) (lists : List (List CitedNode)) (i k : ℕ) (x : CitedNode)
    → AreWithin most heads lists → slice_get (elements (slice_get lists i)) k ≡ Some x
    → (i < length heads) × (unwrap_or (slice_get heads i) 0 + suc k ≤ most)
line_within most [] [] i k x w at = absurd (cc)
line_within most [] (nodes ∷ lists) i k x w at = absurd (w)
line_within most (h ∷ hs) [] i k x w at = absurd (w)
line_within most (h ∷ hs) (nodes ∷ lists) zero k x w at =
    let below = below_length nodes k x at in
    let few = w.0 in
    (omega arith, omega (arith, below, few))
line_within most (h ∷ hs) (nodes ∷ lists) (suc i) k x w at =
    let rest = line_within most hs lists i k x w.1 at in
    let first = rest.0 in
    (omega (arith, first), rest.1)

-- ---- lines of leaves

module _ (test : Constraints → Bool) (heads : List ℕ) where
  none_pass : (places : List NodePlace) (regions : List Constraints) → list_any test regions ≡ false
      → lines_passing test heads places regions ≡ []
  none_pass [] regions none = refl
  none_pass (place ∷ places) [] none = refl
  none_pass (place ∷ places) (region ∷ regions) none =
      let parts = or_parts (test region) (list_any test regions) none in
      ap (λ b. if b then line_of heads place ∷ lines_passing test heads places regions
      else lines_passing test heads places regions) parts.0 ∙ none_pass places regions parts.1

  -- the first of some lines is that of this place
  abbrev Begins : List ℕ → NodePlace → Type 0
  Begins lines place = (more : List ℕ) × (lines ≡ line_of heads place ∷ more)

  first_passes : (places : List NodePlace) (regions : List Constraints) (place : NodePlace)
      → first_place test places regions ≡ Some place → Begins (lines_passing test heads places regions) place
  first_passes [] regions place is = absurd (cc)
  first_passes (p ∷ places) [] place is = absurd (cc)
  first_passes (p ∷ places) (region ∷ regions) place is = by (test region) (first_passes places regions place) is
    where
      by : (b : Bool) → (first_place test places regions ≡ Some place
          → Begins (lines_passing test heads places regions) place)
          → (if b then Some p else first_place test places regions) ≡ Some place
          → Begins (if b then line_of heads p ∷ lines_passing test heads places regions
          else lines_passing test heads places regions) place
      by true further is =
          let same : p ≡ place = cc in (
            lines_passing test heads places regions,
            ap (λ q. line_of heads q ∷ lines_passing test heads places regions) same,
          )
      by false further is = further is

pub lines_none : (atoms : List Atom) (t : TableTarget) (region : Constraints) (c : CertTree)
    → IsCovered atoms region t (expanded c.tree) → tree_uncovered atoms region t c ≡ []
lines_none atoms t region c is =
    none_pass (is_uncovered atoms t) c.heads (leaf_places c.tree) (regions_of atoms region (expanded c.tree)) is

pub walked_no : (atoms : List Atom) (t : TableTarget) (region : Constraints) (c : CertTree) (place : NodePlace)
    → IsWalked atoms t region c.tree (Err (why.NotCovered place))
    → (more : List ℕ) × (tree_uncovered atoms region t c ≡ line_of c.heads place ∷ more)
walked_no atoms t region c place is = by (expanded c.tree) is
  where
    by : (o : Option Tree)
        → AnswersOf (is_uncovered atoms t) atoms region (leaf_places c.tree) o (Err (why.NotCovered place))
        → (more : List ℕ) × (lines_passing (is_uncovered atoms t) c.heads (leaf_places c.tree)
        (regions_of atoms region o) ≡ line_of c.heads place ∷ more)
    by None is = absurd (is)
    by (Some tree) is =
        first_passes (is_uncovered atoms t) c.heads (leaf_places c.tree) (leaf_regions atoms region tree) place is

-- a refusal of the walk, by its line
pub first_named : (o : Option TableTarget) (atoms : List Atom) (region : Constraints) (c : CertTree) (place : NodePlace)
    (n : ℕ) → n ≡ line_of c.heads place → IfSome o (λ t. IsWalked atoms t region c.tree (Err (why.NotCovered place)))
    → IfSome o (λ t. NamesFirst (tree_uncovered atoms region t c) (refusal.NotCovered n))
first_named None atoms region c place n line is = is
first_named (Some t) atoms region c place n line is =
    let first = walked_no atoms t region c place is in
    (first.0, first.1 ∙ ap (λ m. m ∷ first.0) (sym line))

-- ---- heights

pub low_further : (most more : ℕ) → most ≤ more → (o : Option Tree) → IsLow most o → IsLow more o
low_further most more up None low = tt
low_further most more up (Some t) low = omega (arith, up, low)
