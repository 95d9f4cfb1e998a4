-- What a table keeps: its regions part the valuations, and each line says what decides.
use Rattle.std.specs.Prelude.{◌≡◌, IsTrue, List, map}
use Rattle.cat_region.specs.Regions.{Constraints, Valuation, IsValuation, Admits}
use Rattle.cat_scope.specs.Names.{AllHave}
use Rattle.cat_guard.specs.declared.table.Table.{Table}
use Rattle.cat_guard.specs.declared.table.TableTarget.{TableTarget}
use Rattle.cat_guard.specs.Judged.{judged_in}
use Rattle.cat_guard.specs.TableJudging.{decided}
use Rattle.cat_guard.specs.Valuations.{dims_of, holds_at}
use Rattle.cat_search.specs.Parted.{IsInOne}
use Rattle.cat_table.specs.Conditions.{Naming}
use Rattle.cat_table.specs.Results.{verdict_text, decided_text}
use Rattle.cat_table.specs.Rows.{Row}

-- the regions of rows
abbrev pub regions_of : List Row → List Constraints
regions_of rows = map (λ r. r.region) rows

-- the regions of the leaves and rests are disjoint, and together they admit every valuation
abbrev pub PartValuations : Table → List Row → Type 0
PartValuations table rows = (v : Valuation) → IsValuation (dims_of table.terms) v → IsInOne v (regions_of rows)

-- a line that is shown says what decides the target at each valuation that its region admits: which definition, that
-- none does, or that there is a conflict
abbrev pub SaysWhatDecides : Naming → Table → TableTarget → Row → Type 0
SaysWhatDecides ns table t r = IsTrue r.shown → (v : Valuation) → Admits r.region v
    → verdict_text ns t (judged_in table.atoms r.region t)
    ≡ decided_text ns t (decided t (holds_at table.atoms v)).end

-- what the rows of a target's table keep
pub record AreKept (ns : Naming) (table : Table) (t : TableTarget) (rows : List Row) : Type 0 where
  pub parted : PartValuations table rows
  pub says : AllHave (SaysWhatDecides ns table t) rows
