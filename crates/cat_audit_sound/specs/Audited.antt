-- Scopes whose targets are covered by each valuation of their tables.
use Rattle.std.specs.Prelude.{◌≡◌, ℕ, Bool, true, false, IsTrue, Option, Some, None, Result, Ok, Err, slice_get}
use Rattle.cat_value.specs.declared.decls.Decls.{Decls}
use Rattle.cat_value.specs.declared.declaration.Scope.{Scope}
use Rattle.cat_value.specs.declared.outcome.Target.{Target}
use Rattle.cat_value.specs.declared.outcome.Outcome.{Outcome}
use Rattle.cat_value.specs.declared.outcome.Outcome.TheVariants as outcome
use Rattle.cat_region.specs.Regions.{Valuation, IsValuation}
use Rattle.cat_scope.specs.declared.stop.Stop.{Stop}
use Rattle.cat_scope.specs.declared.defs.Body.{Body}
use Rattle.cat_scope.specs.declared.programs.Program.{Program}
use Rattle.cat_scope.specs.Names.{AllHave}
use Rattle.cat_scope.specs.Judging.{Held, held_position}
use Rattle.cat_sound.specs.Endings.{Allowed}
use Rattle.cat_guard.specs.declared.table.TableTarget.{TableTarget}
use Rattle.cat_guard.specs.declared.table.Table.{Table}
use Rattle.cat_guard.specs.Soundness.{is_sound}
use Rattle.cat_guard.specs.Tables.{IsTableOf}
use Rattle.cat_guard.specs.TableJudging.{Covers, decided}
use Rattle.cat_guard.specs.Valuations.{dims_of, holds_at}
use Rattle.cat_value.specs.Inputs.{IsWellTyped}
use Rattle.cat_scope.specs.Calls.{Items}
use Rattle.cat_scope.specs.Outcomes.{scope_outcome}
use Rattle.cat_sound.specs.Settled.{IsClosed}

-- what judging by truth values decides of a target may stand in a log
abbrev pub MayDecide : Allowed → Target → Result (Option (Held (Unit {0}))) Stop → Type 0
MayDecide allowed target (Ok found) = IsTrue (allowed.may_decide target (held_position found))
MayDecide allowed target (Err stop) = Unit {0}

-- a target of a table that may not stop is covered by each valuation; and what each valuation decides of one that is no
-- function may stand in a log
pub record IsTargetAudited (allowed : Allowed) (table : Table) (t : TableTarget) : Type 0 where
  pub covered : allowed.may_stop t.target ≡ false → (v : Valuation) → IsValuation (dims_of table.terms) v
      → Covers t (holds_at table.atoms v)
  pub decides : t.function ≡ false → (v : Valuation) → IsValuation (dims_of table.terms) v
      → MayDecide allowed t.target (decided t (holds_at table.atoms v)).end

-- a scope with its table, of which this holds for each target
pub record IsAudited (allowed : Allowed) (ds : Decls) (scope : ℕ) (decl : Scope) (body : Body) (table : Table)
    : Type 0 where
  pub table_is : IsTableOf ds scope decl body table
  pub sound : IsTrue (is_sound table.terms table.atoms table.targets)
  pub targets : AllHave (IsTargetAudited allowed table) table.targets

-- each scope within, by the table of its number
abbrev pub ScopesAudited : Allowed → (ℕ → Bool) → Program → (ℕ → Table) → Type 0
ScopesAudited allowed within program tables =
    (k : ℕ) (decl : Scope) (body : Body) → IsTrue (within k) → slice_get program.decls.scopes k ≡ Some decl
    → slice_get program.bodies k ≡ Some body → IsAudited allowed program.decls k decl body (tables k)

-- no target may stop by itself, and anything may be decided
abbrev pub none_may_stop : Allowed
none_may_stop = record { may_stop = λ target. false; may_decide = λ target by. true }

-- neither a conflict nor a gap
abbrev pub IsValueOrFault : Option Outcome → Type 0
IsValueOrFault None = ⊥
IsValueOrFault (Some (outcome.Value outputs)) = Unit {0}
IsValueOrFault (Some (outcome.Conflict target positions)) = ⊥
IsValueOrFault (Some (outcome.NoValue target pos)) = ⊥
IsValueOrFault (Some (outcome.Fault kind pos)) = Unit {0}

-- no well-typed input of a scope ends in a conflict or a gap
abbrev pub HasNoGap : Program → ℕ → Type 0
HasNoGap program scope =
    (input : Items) → IsWellTyped program.decls scope input → IsValueOrFault (scope_outcome program scope input)

-- where each scope within is audited, and calls none without, no well-typed input of one ends in a conflict or a gap
abbrev pub GapLaw : Program → Type 0
GapLaw program = (within : ℕ → Bool) (tables : ℕ → Table) (scope : ℕ) (input : Items)
    → IsClosed within program.decls program.bodies → ScopesAudited none_may_stop within program tables
    → IsTrue (within scope) → IsWellTyped program.decls scope input
    → IsValueOrFault (scope_outcome program scope input)
