-- Whether the leaves of the trees of a certificate are covered, and in which lines those are written that aren't.
use Rattle.std.specs.Prelude.{◌≡◌, ℕ, suc, ◌+◌, Bool, false, if◌then◌else◌, List, [], ◌∷◌, ◌++◌, drop, length, Option}
use Rattle.std.specs.Prelude.{None, Some}
use Rattle.std.specs.Prelude.{slice_get, unwrap_or}
use Rattle.std.specs.List.{list_any}
use Rattle.cat_region.specs.Regions.{Constraints}
use Rattle.cat_guard.specs.declared.table.Atom.{Atom}
use Rattle.cat_guard.specs.declared.table.Table.{Table}
use Rattle.cat_guard.specs.declared.table.TableTarget.{TableTarget}
use Rattle.cat_guard.specs.declared.table.Term.{Term}
use Rattle.cat_guard.specs.Trees.{Tree, expanded}
use Rattle.cat_guard.specs.Valuations.{dims_of}
use Rattle.cat_walk.specs.declared.place.NodePlace.{NodePlace}
use Rattle.cat_walk.specs.Coverage.{is_uncovered, leaf_regions}
use Rattle.cat_walk.specs.LeafPlaces.{leaf_places}
use Rattle.cat_cert.specs.declared.certificate.CertTree.{CertTree}

-- the region that admits every valuation of some terms
abbrev pub everything : List Term → Constraints
everything terms = record { dims = dims_of terms; narrowings = []; room = 0 }

-- the regions of the leaves of a tree, where there is one
abbrev pub regions_of : List Atom → Constraints → Option Tree → List Constraints
regions_of atoms region None = []
regions_of atoms region (Some tree) = leaf_regions atoms region tree

-- ---- covered

-- no leaf of a target's tree is uncovered, from a region on
abbrev pub IsCovered : List Atom → Constraints → TableTarget → Option Tree → Type 0
IsCovered atoms region t o = list_any (is_uncovered atoms t) (regions_of atoms region o) ≡ false

-- nor is one of the trees of some targets
abbrev pub AreCovered : List Atom → Constraints → List TableTarget → List (Option Tree) → Type 0
AreCovered atoms region [] found = Unit {0}
AreCovered atoms region (t ∷ ts) [] = ⊥
AreCovered atoms region (t ∷ ts) (o ∷ found) = IsCovered atoms region t o × AreCovered atoms region ts found

-- nor one of the trees of all targets of some tables, in their order
abbrev pub AllCovered : List Table → List (Option Tree) → Type 0
AllCovered [] found = Unit {0}
AllCovered (table ∷ tables) found =
    AreCovered table.atoms (everything table.terms) table.targets found
    × AllCovered tables (drop (length table.targets) found)

-- ---- the lines of those that aren't

-- the line in which a node is written, where lists are written behind these lines
abbrev pub line_of : List ℕ → NodePlace → ℕ
line_of heads place = unwrap_or (slice_get heads place.list) 0 + suc place.node

-- the lines of the leaves whose regions pass a test, of leaves by their places and their regions
abbrev pub lines_passing : (Constraints → Bool) → List ℕ → List NodePlace → List Constraints → List ℕ
lines_passing test heads [] regions = []
lines_passing test heads (place ∷ places) [] = []
lines_passing test heads (place ∷ places) (region ∷ regions) =
    if test region then line_of heads place ∷ lines_passing test heads places regions
    else lines_passing test heads places regions

-- the lines of the leaves of a target's tree that aren't covered, from a region on: in the preorder of the tree with
-- its
-- citations replaced, a leaf of a named tree once for each place in which it is cited
abbrev pub tree_uncovered : List Atom → Constraints → TableTarget → CertTree → List ℕ
tree_uncovered atoms region t c =
    lines_passing (is_uncovered atoms t) c.heads (leaf_places c.tree) (regions_of atoms region (expanded c.tree))

-- the same of some targets, each with its tree
abbrev pub targets_uncovered : List Atom → Constraints → List TableTarget → List CertTree → List ℕ
targets_uncovered atoms region [] cs = []
targets_uncovered atoms region (t ∷ ts) [] = []
targets_uncovered atoms region (t ∷ ts) (c ∷ cs) =
    tree_uncovered atoms region t c ++ targets_uncovered atoms region ts cs

-- the same of all targets of some tables, in their order
abbrev pub uncovered : List Table → List CertTree → List ℕ
uncovered [] cs = []
uncovered (table ∷ tables) cs =
    targets_uncovered table.atoms (everything table.terms) table.targets cs
    ++ uncovered tables (drop (length table.targets) cs)
