-- What a walk through the lists of a tree with citations meets.
use Rattle.std.specs.Prelude.{◌≡◌, ◌<◌, ℕ, suc, nat_lt, Bool, true, ◌&&◌, List, [], ◌∷◌, ◌++◌, length, drop}
use Rattle.std.specs.Prelude.{Option, None, Some, slice_get}
use Rattle.cat_guard.specs.declared.tree.CitedNode.{CitedNode}
use Rattle.cat_guard.specs.declared.tree.CitedNode.TheVariants as cited
use Rattle.cat_guard.specs.declared.tree.CitedTree.{CitedTree}
use Rattle.cat_walk.specs.declared.place.NodePlace.{NodePlace}
use Rattle.cat_walk.specs.declared.meeting.Met.{Met}
use Rattle.cat_walk.specs.declared.meeting.Met.TheVariants as met
use Rattle.cat_walk.specs.LeafPlaces.{elements, list_at, IsLeafAt}

-- ---- each list cites earlier ones alone

-- nodes cite lists of lower numbers alone
abbrev pub cites_below : ℕ → List CitedNode → Bool
cites_below n [] = true
cites_below n (cited.Leaf ∷ ns) = cites_below n ns
cites_below n (cited.Split a ∷ ns) = cites_below n ns
cites_below n (cited.Cite i ∷ ns) = nat_lt i n && cites_below n ns

-- so do the lists from number n on
abbrev pub are_earlier : ℕ → List (List CitedNode) → Bool
are_earlier n [] = true
are_earlier n (nodes ∷ more) = cites_below n nodes && are_earlier (suc n) more

-- ---- what is met

-- what is met in nodes of a list, of which the first is the one of that index, where this is met in the named trees
abbrev pub met_from : List (List Met) → ℕ → ℕ → List CitedNode → List Met
met_from named list node [] = met.End ∷ []
met_from named list node (cited.Leaf ∷ ns) =
    met.Leaf (record { list = list; node = node }) ∷ met_from named list (suc node) ns
met_from named list node (cited.Split a ∷ ns) = met.Split a ∷ met_from named list (suc node) ns
met_from named list node (cited.Cite i ∷ ns) =
    met.Cite i ∷ elements (slice_get named i) ++ met_from named list (suc node) ns

-- what is met in each list, behind what is met in those before
abbrev pub met_in : List (List Met) → List (List CitedNode) → List (List Met)
met_in named [] = named
met_in named (nodes ∷ more) = met_in (named ++ met_from named (length named) 0 nodes ∷ []) more

-- what is met in the list of that number
abbrev pub met_in_list : List (List CitedNode) → ℕ → List Met
met_in_list lists i = elements (slice_get (met_in [] lists) i)

-- where a walk through a tree begins
abbrev pub start_of : CitedTree → NodePlace
start_of tree = record { list = length tree.names; node = 0 }

-- what is met from a place in a list to its end
abbrev pub met_behind : List (List CitedNode) → NodePlace → List Met
met_behind lists place =
    met_from (met_in [] lists) place.list place.node (drop place.node (list_at lists place.list))

-- what is still to come, from the innermost place on
abbrev pub to_come : List (List CitedNode) → List NodePlace → List Met
to_come lists [] = []
to_come lists (place ∷ places) = met_behind lists place ++ to_come lists places

-- this comes next, if anything does, and behind a citation what is met in the named tree
abbrev pub Meets : List (List CitedNode) → List Met → Option Met → List Met → Type 0
Meets lists before None after = before ≡ []
Meets lists before (Some (met.Split a)) after = before ≡ met.Split a ∷ after
Meets lists before (Some (met.Leaf place)) after = before ≡ met.Leaf place ∷ after
Meets lists before (Some (met.Cite i)) after = before ≡ met.Cite i ∷ met_in_list lists i ++ after
Meets lists before (Some met.End) after = before ≡ met.End ∷ after

-- what is met is written so
abbrev pub IsWritten : List (List CitedNode) → Option Met → Type 0
IsWritten lists None = Unit {0}
IsWritten lists (Some (met.Split a)) = Unit {0}
IsWritten lists (Some (met.Leaf place)) = IsLeafAt lists place
IsWritten lists (Some (met.Cite i)) = i < length lists
IsWritten lists (Some met.End) = Unit {0}
