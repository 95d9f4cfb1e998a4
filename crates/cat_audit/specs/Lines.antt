-- The line of a target.
use Rattle.std.specs.Prelude.{◌≡◌, ℕ, Bool, true, false, if◌then◌else◌, List, [], ◌∷◌, Option, None, Some}
use Rattle.cat_region.specs.Regions.{Constraints}
use Rattle.cat_scope.specs.declared.programs.Program.{Program}
use Rattle.cat_guard.specs.declared.table.Atom.{Atom}
use Rattle.cat_guard.specs.declared.table.Table.{Table}
use Rattle.cat_guard.specs.declared.table.TableTarget.{TableTarget}
use Rattle.cat_guard.specs.declared.tree.CaseTree.{CaseTree}
use Rattle.cat_guard.specs.declared.tree.TreeNode.{TreeNode}
use Rattle.cat_guard.specs.Judged.{judged_in, covers}
use Rattle.cat_guard.specs.Trees.{Tree, tree_of}
use Rattle.cat_search.specs.declared.found.Search.{Search}
use Rattle.cat_search.specs.declared.found.Search.TheVariants as search
use Rattle.cat_search.specs.Cells.{IsSpentWithin}
use Rattle.cat_search.specs.Searched.{everything, Reached, leaves_from, IsSearchOf, IsClosedSearch}
use Rattle.cat_audit.specs.declared.finding.Finding.{Finding}
use Rattle.cat_audit.specs.declared.finding.Finding.TheVariants as finding
use Rattle.cat_audit.specs.declared.finding.Line.{Line}
use Rattle.cat_audit.specs.declared.finding.Line.TheVariants as line
use Rattle.cat_audit.specs.declared.finding.TargetLine.{TargetLine}
use Rattle.cat_audit.specs.Findings.{finding_in}

-- ---- bad leaves

-- the regions of the leaves in which a target isn't judged covered
abbrev pub bad_regions : List Atom → TableTarget → List Reached → List Constraints
bad_regions atoms t [] = []
bad_regions atoms t (l ∷ ls) =
    if covers t.may_be_empty (judged_in atoms l.region t) then bad_regions atoms t ls
    else l.region ∷ bad_regions atoms t ls

-- the leaves of a tree, where there is one, from a region on
abbrev pub leaves_in : List Atom → Constraints → Option Tree → List Reached
leaves_in atoms region None = []
leaves_in atoms region (Some tree) = leaves_from atoms 0 region tree

-- the regions of the bad leaves of a table's tree
abbrev pub bad_in : Table → TableTarget → List TreeNode → List Constraints
bad_in table t nodes =
    bad_regions table.atoms t (leaves_in table.atoms (everything table.terms) (tree_of nodes))

-- ---- findings

-- a finding in front of others, where there is one
abbrev pub found_before : Option Finding → List Finding → List Finding
found_before None fs = fs
found_before (Some f) fs = f ∷ fs

-- what the inputs of some regions say of a target
abbrev pub findings : Program → Table → TableTarget → List Constraints → List Finding
findings program table t [] = []
findings program table t (region ∷ regions) =
    found_before (finding_in program table t region) (findings program table t regions)

-- the run ends in a conflict or in no value
abbrev pub is_found : Finding → Bool
is_found (finding.Found outcome input) = true
is_found f = false

-- the run ends in a fault, and the region hangs on inputs alone
abbrev pub is_masked : Finding → Bool
is_masked (finding.Masked kind pos input) = true
is_masked f = false

-- the region hangs on what a run computes, or on arguments
abbrev pub is_hanging : Finding → Bool
is_hanging (finding.Derived at input outcome) = true
is_hanging f = false

-- the first finding that passes a test
abbrev pub first_so : (Finding → Bool) → List Finding → Option Finding
first_so test [] = None
first_so test (f ∷ fs) = if test f then Some f else first_so test fs

-- a finding, or another one where there is none
abbrev pub or_next : Option Finding → Option Finding → Option Finding
or_next None other = other
or_next (Some f) other = Some f

-- the finding that counts: the first that is Found, else the first that is Masked, else the first that is Derived
abbrev pub counting : List Finding → Option Finding
counting fs = or_next (first_so is_found fs) (or_next (first_so is_masked fs) (first_so is_hanging fs))

-- ---- lines

-- the nodes of the tree that a search made
abbrev pub tree_in : Search → CaseTree
tree_in (search.Closed tree bad) = tree
tree_in (search.Spent tree bad) = tree

-- the line of a target where no leaf is bad
abbrev pub good_line : Search → Line
good_line (search.Closed tree bad) = line.Covered
good_line (search.Spent tree bad) = line.Budget

-- the line of the finding that counts, where there is one
abbrev pub line_by : Option Finding → Search → Line
line_by None s = good_line s
line_by (Some f) s = line.Bad f

-- a target's line: that of one search for its tree, by the findings of all its bad leaves
pub record IsLineOf (program : Program) (table : Table) (t : TableTarget) (budget : ℕ) (made : TargetLine) : Type 0
  where
    pub search : Search
    pub tree_is : made.tree ≡ tree_in search
    pub searched : IsSearchOf table.terms table.atoms t budget search
    pub closed : IsClosedSearch table.terms table.atoms t search
    pub spent : IsSpentWithin table.terms table.atoms t budget search
    pub line_is : made.line ≡ line_by (counting (findings program table t (bad_in table t made.tree.nodes))) search
