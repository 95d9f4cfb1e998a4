-- Bad leaves that are tried one after the other.
use Rattle.std.specs.Prelude.{◌≡◌, ◌≤◌, ◌<◌, ℕ, suc, IsTrue, List, [], ◌∷◌, length, take, Option, None, Some}
use Rattle.std.specs.Prelude.{if◌then◌else◌, not, ◌||◌}
use Rattle.cat_region.specs.Regions.{Constraints, IsInhabited}
use Rattle.cat_guard.specs.declared.table.Table.{Table}
use Rattle.cat_guard.specs.declared.table.TableTarget.{TableTarget}
use Rattle.cat_guard.specs.declared.tree.TreeNode.{TreeNode}
use Rattle.cat_guard.specs.Judged.{judged_in}
use Rattle.cat_guard.specs.Valuations.{dims_of}
use Rattle.cat_guard.specs.Judgements.{is_bad}
use Rattle.cat_search.specs.declared.bad.BadLeaf.{BadLeaf}
use Rattle.cat_search.specs.declared.found.Search.{Search}
use Rattle.cat_search.specs.declared.found.Search.TheVariants as search
use Rattle.cat_search.specs.Searched.{everything}
use Rattle.cat_search.specs.Ways.{led_to, way_from}
use Rattle.cat_audit.specs.declared.finding.Finding.{Finding}
use Rattle.cat_audit.specs.declared.finding.Line.{Line}
use Rattle.cat_audit.specs.declared.finding.Line.TheVariants as line
use Rattle.cat_audit.specs.Lines.{is_masked}

-- of two findings that aren't Found the one that counts
abbrev pub kept : Option Finding → Finding → Option Finding
kept None f = Some f
kept (Some b) f = if is_masked b || not (is_masked f) then Some b else Some f

-- the line of a finding, or another one
abbrev pub line_or : Option Finding → Line → Line
line_or None good = good
line_or (Some f) good = line.Bad f

-- the bad leaves that a search lists
abbrev pub leaves_bad : Search → List BadLeaf
leaves_bad (search.Closed tree bad) = bad
leaves_bad (search.Spent tree bad) = bad

-- the region to which the way to a bad leaf leads
abbrev pub region_at : Table → List TreeNode → BadLeaf → Constraints
region_at table nodes b = led_to table.atoms (everything table.terms) (way_from [] (take b.leaf nodes))

-- a bad leaf stands among the nodes, and its region admits something and is judged a conflict, or empty where that
-- isn't allowed
pub record IsBadAt (table : Table) (t : TableTarget) (nodes : List TreeNode) (b : BadLeaf) : Type 0 where
  pub within : b.leaf < length nodes
  pub dims : (region_at table nodes b).dims ≡ dims_of table.terms
  pub inhabited : IsInhabited (region_at table nodes b)
  pub bad : IsTrue (is_bad t.may_be_empty (judged_in table.atoms (region_at table nodes b) t))

-- so are these, which stand one behind the other from that place on
abbrev pub AreBadFrom : Table → TableTarget → List TreeNode → ℕ → List BadLeaf → Type 0
AreBadFrom table t nodes from [] = Unit {0}
AreBadFrom table t nodes from (b ∷ bs) =
    (from ≤ b.leaf) × IsBadAt table t nodes b × AreBadFrom table t nodes (suc b.leaf) bs
