-- Definitions that decide in no run.
use Rattle.std.specs.Prelude.{◌≡◌, ◌≢◌, List, Option, Some, Result, Ok, Err}
use Rattle.cat_pos.specs.declared.pos.Pos.{Pos}
use Rattle.cat_value.specs.declared.outcome.Target.{Target}
use Rattle.cat_value.specs.Inputs.{IsWellTyped}
use Rattle.cat_region.specs.Regions.{Valuation, IsValuation}
use Rattle.cat_scope.specs.declared.programs.Program.{Program}
use Rattle.cat_scope.specs.declared.stop.Stop.{Stop}
use Rattle.cat_scope.specs.Calls.{Items}
use Rattle.cat_scope.specs.Judging.{Held, held_position}
use Rattle.cat_scope.specs.Names.{AllHave}
use Rattle.cat_scope.specs.Outcomes.{deciders}
use Rattle.cat_scope.specs.Runs.{Decider}
use Rattle.cat_guard.specs.declared.table.Table.{Table}
use Rattle.cat_guard.specs.declared.table.TableTarget.{TableTarget}
use Rattle.cat_guard.specs.TableJudging.{decided}
use Rattle.cat_guard.specs.Valuations.{dims_of, holds_at}

-- a decider is of another target, or of another definition
abbrev pub IsOther : Target → Pos → Decider → Type 0
IsOther target p d = d.target ≡ target → d.by ≢ Some p

-- no definition that stands there holds
abbrev pub IsHeldElsewhere : {A : Type 0} → Pos → Result (Option (Held A)) Stop → Type 0
IsHeldElsewhere p (Ok found) = held_position found ≢ Some p
IsHeldElsewhere p (Err stop) = Unit {0}

-- whatever truth values the guards have, a target isn't Held with a definition that stands there
abbrev pub HoldsNowhere : Table → TableTarget → Pos → Type 0
HoldsNowhere table t p = (v : Valuation) → IsValuation (dims_of table.terms) v
    → IsHeldElsewhere p (decided t (holds_at table.atoms v)).end

-- a definition of a target, by where it stands, decides in no run of the scope of a table on a well-typed input: no
-- decider of such a run is of the target and of that definition. Judgings of functions aren't among deciders: it holds
-- nowhere
pub record NeverDecides (program : Program) (table : Table) (t : TableTarget) (p : Pos) : Type 0 where
  pub runs : (input : Items) → IsWellTyped program.decls table.scope input
      → AllHave (IsOther t.target p) (deciders program table.scope input)
  pub judgings : HoldsNowhere table t p

-- no definition of a table's targets that stands there decides
abbrev pub NoneDecides : Program → Table → Pos → Type 0
NoneDecides program table p = AllHave (λ t. NeverDecides program table t p) table.targets

-- nor one of some definitions
abbrev pub NeverDecide : Program → Table → List Pos → Type 0
NeverDecide program table ps = AllHave (NoneDecides program table) ps
