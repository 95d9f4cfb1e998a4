-- What is judged at the leaves of trees: which definitions win there, and which leaves are open.
use Rattle.std.specs.Prelude.{◌≡◌, ℕ, nat_eq, Bool, true, false, not, ◌&&◌, if◌then◌else◌, List, [], ◌∷◌, ◌++◌, map}
use Rattle.std.specs.Prelude.{filter}
use Rattle.std.specs.Prelude.{Option, None, Some, slice_get}
use Rattle.std.specs.List.{list_any}
use Rattle.cat_pos.specs.declared.pos.Pos.{Pos}
use Rattle.cat_region.specs.Regions.{Constraints}
use Rattle.cat_region.specs.Decided.{admits_none}
use Rattle.cat_guard.specs.declared.guard.GuardDef.{GuardDef}
use Rattle.cat_guard.specs.declared.table.Atom.{Atom}
use Rattle.cat_guard.specs.declared.table.Table.{Table}
use Rattle.cat_guard.specs.declared.table.TableTarget.{TableTarget}
use Rattle.cat_guard.specs.Judged.{judged_in}
use Rattle.cat_guard.specs.Trees.{Tree, expanded}
use Rattle.cat_guard.specs.Verdicts.{Verdict, Holds, Empty, Conflict, Open}
use Rattle.cat_walk.specs.LeafPlaces.{leaf_places}
use Rattle.cat_cert.specs.declared.certificate.CertTree.{CertTree}
use Rattle.cat_cert.specs.Uncovered.{everything, regions_of, lines_passing}

-- ---- open leaves

-- it isn't known how a target is judged
abbrev pub is_open : Verdict → Bool
is_open (Holds d) = false
is_open Empty = false
is_open Conflict = false
is_open Open = true

-- a region admits something, and the target is judged open in it
abbrev pub is_open_in : List Atom → TableTarget → Constraints → Bool
is_open_in atoms t region = not (admits_none region) && is_open (judged_in atoms region t)

-- no leaf of a target's tree is open, from a region on
abbrev pub IsKnown : List Atom → Constraints → TableTarget → Option Tree → Type 0
IsKnown atoms region t o = list_any (is_open_in atoms t) (regions_of atoms region o) ≡ false

-- nor one of the trees of some targets
abbrev pub AreKnown : List Atom → Constraints → List TableTarget → List CertTree → Type 0
AreKnown atoms region [] cs = Unit {0}
AreKnown atoms region (t ∷ ts) [] = ⊥
AreKnown atoms region (t ∷ ts) (c ∷ cs) = IsKnown atoms region t (expanded c.tree) × AreKnown atoms region ts cs

-- the lines of the open leaves of a target's tree, in preorder
abbrev pub tree_open : List Atom → Constraints → TableTarget → CertTree → List ℕ
tree_open atoms region t c =
    lines_passing (is_open_in atoms t) c.heads (leaf_places c.tree) (regions_of atoms region (expanded c.tree))

-- the same of some targets, each with its tree
abbrev pub targets_open : List Atom → Constraints → List TableTarget → List CertTree → List ℕ
targets_open atoms region [] cs = []
targets_open atoms region (t ∷ ts) [] = []
targets_open atoms region (t ∷ ts) (c ∷ cs) = tree_open atoms region t c ++ targets_open atoms region ts cs

-- the same of a table's targets
abbrev pub open_lines : Table → List CertTree → List ℕ
open_lines table cs = targets_open table.atoms (everything table.terms) table.targets cs

-- ---- winners

-- where a definition stands, if there is one
abbrev pub place_of : Option GuardDef → List Pos
place_of None = []
place_of (Some d) = d.pos ∷ []

-- where the definition stands that a verdict says to hold, if it says so of one
abbrev pub holder_of : TableTarget → Verdict → List Pos
holder_of t (Holds d) = place_of (slice_get t.defs d)
holder_of t Empty = []
holder_of t Conflict = []
holder_of t Open = []

-- where the winner of a region stands: of one that admits something, and in which a definition is judged to hold
abbrev pub winner_in : List Atom → TableTarget → Constraints → List Pos
winner_in atoms t region = if admits_none region then [] else holder_of t (judged_in atoms region t)

-- the winners of some regions
abbrev pub winners_in : List Atom → TableTarget → List Constraints → List Pos
winners_in atoms t [] = []
winners_in atoms t (region ∷ regions) = winner_in atoms t region ++ winners_in atoms t regions

-- the winners of the leaves of a target's tree
abbrev pub tree_winners : List Atom → Constraints → TableTarget → CertTree → List Pos
tree_winners atoms region t c = winners_in atoms t (regions_of atoms region (expanded c.tree))

-- the same of some targets, each with its tree
abbrev pub targets_winners : List Atom → Constraints → List TableTarget → List CertTree → List Pos
targets_winners atoms region [] cs = []
targets_winners atoms region (t ∷ ts) [] = []
targets_winners atoms region (t ∷ ts) (c ∷ cs) =
    tree_winners atoms region t c ++ targets_winners atoms region ts cs

-- the same of a table's targets
abbrev pub winners_of : Table → List CertTree → List Pos
winners_of table cs = targets_winners table.atoms (everything table.terms) table.targets cs

-- ---- definitions that win nowhere

-- two positions are one
abbrev pub is_same : Pos → Pos → Bool
is_same p q = nat_eq p.line q.line && nat_eq p.place q.place

-- no definition that stands there wins
abbrev pub wins_nowhere : List Pos → Pos → Bool
wins_nowhere winners p = not (list_any (is_same p) winners)

-- where the definitions of some targets stand, in their order
abbrev pub definitions_of : List TableTarget → List Pos
definitions_of [] = []
definitions_of (t ∷ ts) = map (λ d. d.pos) t.defs ++ definitions_of ts

-- where those stand that win in no leaf of these trees, one for each target of a table
abbrev pub dead_in : Table → List CertTree → List Pos
dead_in table cs = filter (wins_nowhere (winners_of table cs)) (definitions_of table.targets)
