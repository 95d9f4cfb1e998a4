-- The judgings of runs, and what the lines of a table say of them.
use Rattle.std.specs.Prelude.{◌≡◌, ◌≤◌, ℕ, IsTrue, List, ◌++◌, take, Option, Some, None, Result, Ok, Err, slice_get}
use Rattle.std.specs.Prelude.{codes}
use Rattle.cat_value.specs.declared.declaration.Scope.{Scope}
use Rattle.cat_value.specs.declared.outcome.Target.{Target}
use Rattle.cat_value.specs.declared.ty.Ty.{Ty}
use Rattle.cat_value.specs.declared.value.Value.{Value}
use Rattle.cat_value.specs.Inputs.{IsWellTyped}
use Rattle.cat_region.specs.Regions.{Valuation, Admits}
use Rattle.cat_scope.specs.declared.defs.Body.{Body}
use Rattle.cat_scope.specs.declared.programs.Program.{Program}
use Rattle.cat_scope.specs.declared.stop.Stop.{Stop}
use Rattle.cat_scope.specs.declared.stop.Stop.TheVariants as stops
use Rattle.cat_scope.specs.Calls.{Items, Scoped, call, env_of, judging_of}
use Rattle.cat_scope.specs.Judging.{Held}
use Rattle.cat_scope.specs.Names.{AllHave}
use Rattle.cat_scope.specs.Naming.{IsTargetAt}
use Rattle.cat_scope.specs.Running.{backwards, scope_run, scoped_of}
use Rattle.cat_scope.specs.Runs.{Run}
use Rattle.cat_sound.specs.Endings.{AreOf}
use Rattle.cat_sound.specs.Given.{values_at}
use Rattle.cat_guard.specs.declared.table.Table.{Table}
use Rattle.cat_guard.specs.declared.table.TableTarget.{TableTarget}
use Rattle.cat_guard.specs.Judged.{judged_in}
use Rattle.cat_guard.specs.Tables.{IsTableOf}
use Rattle.cat_audit_sound.specs.Evaluations.{valuation_of}
use Rattle.cat_search.specs.Parted.{IsInOne}
use Rattle.cat_answer.specs.Answer.{position_text}
use Rattle.cat_table.specs.Conditions.{Naming}
use Rattle.cat_table.specs.Kept.{regions_of}
use Rattle.cat_table.specs.Results.{absent_text, verdict_text}
use Rattle.cat_table.specs.Rows.{Row}

-- ---- a judging

-- a target of a scope with its body is judged: its item stands at a place of the order, and it is judged on arguments,
-- where the items have these values
pub record RunJudging : Type 0 where
  pub scope : ℕ
  pub decl : Scope
  pub body : Body
  pub place : ℕ
  pub item : ℕ
  pub inner : Option ℕ
  pub arguments : List Value
  pub values : Items

-- the scope, as runs of a program go through it
abbrev pub scoped_at : Program → RunJudging → Scoped
scoped_at program j = scoped_of j.scope j.decl.items j.body program.decls.scopes (scope_run program)

-- the target: a variable, or an input or a context of a called scope
abbrev pub target_at : RunJudging → Target
target_at j = record { scope = j.scope; item = j.item; inner = j.inner }

-- what functions give there: those of the items that stand before
abbrev pub calls_at : Program → RunJudging → ℕ → List Value → Run Value
calls_at program j = call (scoped_at program j) j.values (backwards (take j.place j.body.order))

-- what it comes to
abbrev pub end_of : Program → RunJudging → Result (Option (Held Value)) Stop
end_of program j = (judging_of (scoped_at program j) (calls_at program j) j.values j.arguments (target_at j)).end

-- what the terms of a table evaluate to there
abbrev pub valuation_at : Program → RunJudging → Table → Valuation
valuation_at program j table =
    valuation_of (env_of (scoped_at program j) (calls_at program j) j.values) table.terms j.item j.arguments

-- it is one of a run: on a well-typed input the scope, whose table this is, came to these values at an index of its
-- order, behind the items in front of the target's, and the arguments have the types of the target's parameters
pub record IsInRun (program : Program) (table : Table) (j : RunJudging) : Type 0 where
  pub scope_is : slice_get program.decls.scopes j.scope ≡ Some j.decl
  pub body_is : slice_get program.bodies j.scope ≡ Some j.body
  pub table_is : IsTableOf program.decls j.scope j.decl j.body table
  pub item_is : slice_get j.body.order j.place ≡ Some j.item
  pub input : Items
  pub typed : IsWellTyped program.decls j.scope input
  pub index : ℕ
  pub reached : (values_at (scoped_at program j) input index).end ≡ Ok j.values
  pub behind : j.place ≤ index
  pub params : List Ty
  pub ty : Ty
  pub target : IsTargetAt (record { decls = program.decls; items = j.decl.items }) j.item j.inner params ty
  pub arguments_are : AreOf program.decls params j.arguments

-- ---- its line

-- what decides as a line has it is what a judging came to: the definition that held, that none did, or a conflict of
-- this very target; of another stop a line says nothing
abbrev pub Agrees : Naming → TableTarget → List ℕ → Result (Option (Held Value)) Stop → Type 0
Agrees ns t said (Ok (Some h)) = said ≡ codes "definition at " ++ position_text ns.files h.pos
Agrees ns t said (Ok None) = said ≡ absent_text ns t
Agrees ns t said (Err (stops.Conflict target positions)) = target ≡ t.target → said ≡ codes "conflict"
Agrees ns t said (Err stop) = Unit {0}

-- exactly one of some rows admits a valuation, and where that one is shown, its line agrees with what a judging came to
pub record AgreesWithItsLine (ns : Naming) (table : Table) (t : TableTarget) (rows : List Row) (v : Valuation)
    (end : Result (Option (Held Value)) Stop) : Type 0 where
  pub one : IsInOne v (regions_of rows)
  pub agrees : AllHave (λ r. IsTrue r.shown → Admits r.region v
      → Agrees ns t (verdict_text ns t (judged_in table.atoms r.region t)) end) rows
