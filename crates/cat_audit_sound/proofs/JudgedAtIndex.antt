-- The definitions of a target that is judged at an index of its scope's order stand, also where all that is given does.
use Rattle.std.proofs.Common.{◌≡◌, ℕ, IsTrue, List, [], length, take, Option, Some, Ok, slice_get}
use Rattle.cat_value.specs.declared.ty.Ty.{Ty}
use Rattle.cat_value.specs.declared.value.Value.{Value}
use Rattle.cat_value.specs.declared.decls.Decls.{Decls}
use Rattle.cat_value.specs.declared.declaration.Scope.{Scope}
use Rattle.cat_value.specs.declared.outcome.Target.{Target}
use Rattle.cat_value.specs.Inputs.{are_given_for}
use Rattle.cat_scope.specs.declared.defs.Body.{Body}
use Rattle.cat_scope.specs.Runs.{Run}
use Rattle.cat_scope.specs.Names.{Names, AllHave, is_in}
use Rattle.cat_scope.specs.Naming.{IsTargetAt}
use Rattle.cat_scope.specs.WellFormed.{IsWellFormed}
use Rattle.cat_scope.specs.Targets.{same_target, judge_target}
use Rattle.cat_scope.specs.Eval.{Env, eval}
use Rattle.cat_scope.specs.Calls.{Items, Scoped, call, env_of}
use Rattle.cat_scope.specs.Running.{backwards}
use Rattle.cat_sound.specs.Endings.{IsReady}
use Rattle.cat_sound.specs.Given.{values_at}
use Rattle.cat_sound.specs.Settled.{StandsIn}
use Rattle.cat_sound.proofs.Exported.{Ahead, AllIn, DoneAt, all_more, anything, in_at, items_ahead, ready}
use Rattle.cat_guard.proofs.Exported.{all_and}
use Rattle.cat_audit_sound.proofs.FilledEnvs.{filled, filled_done, ready_as, judged_same}
use Rattle.cat_audit_sound.proofs.RunValues.{if_ok}
use Rattle.cat_audit_sound.proofs.PrefixRuns.{StandsAt, front_behind, front_stands, needed_before}
use Rattle.cat_audit_sound.proofs.StandingDefs as standing
use Rattle.cat_audit_sound.proofs.StandingDefs.{body_of, def_callables, defs_stand, scope_sound}

module _ (ds : Decls) (bodies : List Body) (order : List ℕ) (formed : IsWellFormed ds bodies order) (scope : ℕ)
    (decl : Scope) (body : Body) (at : slice_get ds.scopes scope ≡ Some decl)
    (also : slice_get bodies scope ≡ Some body) where
  abbrev ns : Names
  ns = record { decls = ds; items = decl.items }

  abbrev scoped : Scoped
  scoped = standing.scoped ds bodies order formed scope decl body at also

  abbrev needs : ℕ → List ℕ
  needs = standing.needs ds bodies order formed scope decl body at also

  ahead : Ahead (length decl.items) needs [] body.order
  ahead = items_ahead decl.items body.defs body.order (body_of ds bodies order formed scope decl body at also).order

  -- an index, and the values before it
  module _ (input : Items) (index : ℕ) (values : Items) where
    abbrev before : List ℕ
    before = backwards (take index body.order)

    abbrev calls : ℕ → List Value → Run Value
    calls = call scoped values before

    abbrev others : Items
    others = filled input values

    -- the values before it, and all that is given
    abbrev pub env_at : Env
    env_at = env_of scoped calls others

    module _ (given : IsTrue (are_given_for ds decl.items input)) (item : ℕ)
        (there : slice_get body.order index ≡ Some item)
        (reached : (values_at scoped input index).end ≡ Ok values) where
      stand : AllHave (StandsAt ns input values) before
      stand =
          if_ok (λ vs. AllHave (StandsAt ns input vs) before) (values_at scoped input index).end values
          (front_stands ds scoped needs (scope_sound ds bodies order formed scope decl body at also) input given index
          ahead) reached

      needed : AllIn before (needs item)
      needed = needed_before (length decl.items) needs [] body.order index item ahead there

      same : AllHave (λ k. slice_get others k ≡ slice_get values k) (needs item)
      same =
          all_more (λ k. IsTrue (is_in k before)) (λ k. slice_get others k ≡ slice_get values k) (needs item) needed
          (λ k inside. let s = in_at (StandsAt ns input values) before k stand inside in
          filled_done input values k s.done.value s.done.there s.given)

      readies : AllHave (IsReady anything ns env_at) (needs item)
      readies =
          all_and (λ k. IsTrue (is_in k before)) (λ k. slice_get others k ≡ slice_get values k)
          (IsReady anything ns env_at) (needs item) needed same
          (λ k inside e. ready_as scoped calls values others ns k e
          (ready anything ds scoped needs (scope_sound ds bodies order formed scope decl body at also) values before
          (front_behind ds scoped needs (scope_sound ds bodies order formed scope decl body at also) input given index
          ahead)
          (all_more (StandsAt ns input values) (DoneAt ns values) before stand (λ m s. s.done)) k inside))

      module _ (inner : Option ℕ) where
        abbrev here : Target
        here = record { scope = scope; item = item; inner = inner }

        -- its definitions stand
        pub stands_at_index : (t : Ty) → IsTargetAt ns item inner [] t
            → AllHave (λ d. IsTrue (same_target d.target here) → StandsIn anything ns env_at [] t d) body.defs
        stands_at_index t target =
            defs_stand ns scope env_at item inner [] t target body.defs
            (body_of ds bodies order formed scope decl body at also).defs
            (def_callables ds bodies order formed scope decl body at also calls others) readies

        -- its judging is the same
        pub judged_at_index : judge_target (λ e. eval (env_of scoped calls values) e []) here body.defs
            ≡ judge_target (λ e. eval env_at e []) here body.defs
        judged_at_index = judged_same scoped calls values others scope item inner body.defs same
