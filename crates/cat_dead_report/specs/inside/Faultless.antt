-- Targets to which each run comes, and whose definitions can't fault.
use Rattle.std.specs.Prelude.{◌≡◌, ℕ, nat_eq, Bool, true, false, not, ◌&&◌, ◌||◌, List, Option, None, Some, IsOk}
use Rattle.std.specs.Prelude.{slice_get}
use Rattle.std.specs.List.{list_all}
use Rattle.cat_pos.specs.declared.pos.Pos.{Pos}
use Rattle.cat_value.specs.declared.declaration.ItemDecl.{ItemDecl}
use Rattle.cat_value.specs.declared.declaration.Scope.{Scope}
use Rattle.cat_value.specs.declared.outcome.Target.{Target}
use Rattle.cat_value.specs.Inputs.{must_be_given, IsWellTyped}
use Rattle.cat_region.specs.Regions.{Valuation, IsValuation}
use Rattle.cat_scope.specs.declared.defs.Body.{Body}
use Rattle.cat_scope.specs.declared.defs.Def.{Def}
use Rattle.cat_scope.specs.declared.expr.Expr.{Expr}
use Rattle.cat_scope.specs.declared.programs.Program.{Program}
use Rattle.cat_scope.specs.Calls.{Items}
use Rattle.cat_scope.specs.Names.{is_function, is_plain}
use Rattle.cat_scope.specs.Running.{scope_run, scoped_of}
use Rattle.cat_scope.specs.Targets.{same_inner}
use Rattle.cat_sound.specs.Given.{values_at}
use Rattle.cat_guard.specs.declared.table.Table.{Table}
use Rattle.cat_guard.specs.declared.table.TableTarget.{TableTarget}
use Rattle.cat_guard.specs.TableJudging.{Covers}
use Rattle.cat_guard.specs.Valuations.{dims_of, holds_at}
use Rattle.cat_dead_report.specs.inside.Forms.{cannot_fault, safety_of}

-- ---- definitions

-- a condition can't fault, if there is one
abbrev pub condition_cannot_fault : Option Expr → Bool
condition_cannot_fault None = true
condition_cannot_fault (Some e) = cannot_fault (safety_of e)

-- nor can a definition
abbrev pub def_cannot_fault : Def → Bool
def_cannot_fault d = condition_cannot_fault d.condition && cannot_fault (safety_of d.consequence)

-- a definition is there, and can't fault
abbrev pub is_harmless : Option Def → Bool
is_harmless None = false
is_harmless (Some d) = def_cannot_fault d

-- ---- items

-- an item is given, or a function, which no run judges where it stands in the order
abbrev pub is_passed : ItemDecl → Bool
is_passed item = must_be_given item.kind || is_function item

-- the same of an item that is there
abbrev pub is_passed_if : Option ItemDecl → Bool
is_passed_if None = false
is_passed_if (Some item) = is_passed item

-- the same of the item of a number that is there
abbrev pub is_passed_at : List ItemDecl → Option ℕ → Bool
is_passed_at items None = false
is_passed_at items (Some item) = is_passed_if (slice_get items item)

-- a variable of the scope that need not be given
abbrev pub is_judged : Option ItemDecl → Bool
is_judged None = false
is_judged (Some item) = is_plain item && not (must_be_given item.kind)

-- a target is the item of that number
abbrev pub is_of : Option ℕ → Target → Bool
is_of None target = false
is_of (Some item) target = nat_eq item target.item && same_inner None target.inner

-- ---- runs

-- each run of a scope on a well-typed input comes to an index of its order: no item in front of it stops one
abbrev pub IsReached : Program → ℕ → ℕ → Type 0
IsReached program scope index =
    (decl : Scope) (body : Body) → slice_get program.decls.scopes scope ≡ Some decl
    → slice_get program.bodies scope ≡ Some body → (input : Items) → IsWellTyped program.decls scope input
    → IsOk (values_at (scoped_of scope decl.items body program.decls.scopes (scope_run program)) input index).end

-- ---- targets

-- a target of a table stands at an index of an order, and none of its definitions, by their numbers, can fault
abbrev pub is_harmless_at : List ItemDecl → List ℕ → List Def → ℕ → TableTarget → Bool
is_harmless_at items order defs index t =
    is_of (slice_get order index) t.target && is_judged (slice_get items t.target.item)
    && list_all (λ d. is_harmless (slice_get defs d.number)) t.defs

-- each run of a scope comes to a target, at an index of its order, and none of the target's definitions can fault: what
-- stops a run there is a conflict of this very target, or that none of them holds
pub record IsFaultless (program : Program) (scope index : ℕ) (t : TableTarget) : Type 0 where
  pub reached : IsReached program scope index
  pub harmless : (decl : Scope) (body : Body) → slice_get program.decls.scopes scope ≡ Some decl
      → slice_get program.bodies scope ≡ Some body → is_harmless_at decl.items body.order body.defs index t ≡ true

-- a target of a table is covered by each valuation
abbrev pub IsCoveredByEach : Table → TableTarget → Type 0
IsCoveredByEach table t =
    (v : Valuation) → IsValuation (dims_of table.terms) v → Covers t (holds_at table.atoms v)

-- it is known without a run that what wins in a region decides: its target is faultless, and the region hangs on
-- nothing beside the inputs
abbrev pub is_sure : Bool → Option Pos → Bool
is_sure faultless None = faultless
is_sure faultless (Some at) = false
