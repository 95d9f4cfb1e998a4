-- An environment in which all that is given stands has what an environment has where given items are done.
use Rattle.std.proofs.Common.{◌≡◌, ℕ, zero, suc, true, IsTrue, List, [], ◌∷◌, Option, Some, None}
use Rattle.std.proofs.Common.{slice_get, refl, sym, ap}
use Rattle.std.specs.Prelude.{nat_eq}
use Rattle.cat_value.specs.declared.value.Value.{Value}
use Rattle.cat_scope.specs.declared.expr.Expr.{Expr}
use Rattle.cat_scope.specs.declared.defs.Def.{Def}
use Rattle.cat_value.specs.declared.outcome.Target.{Target}
use Rattle.cat_scope.specs.Names.{Names, AllHave}
use Rattle.cat_scope.specs.Replies.{on_one, evaluated}
use Rattle.cat_scope.specs.Runs.{Run}
use Rattle.cat_scope.specs.Composed.{part}
use Rattle.cat_scope.specs.Orders.{in_condition, in_def, in_defs_of}
use Rattle.cat_scope.specs.Mentions.{items_named, scopes_named}
use Rattle.cat_scope.specs.Targets.{same_inner, same_target, condition_of, judge_target}
use Rattle.cat_scope.specs.Eval.{Env, eval}
use Rattle.cat_scope.specs.Calls.{Items, Scoped, env_of}
use Rattle.cat_scope.specs.Running.{entry_at}
use Rattle.cat_sound.specs.Endings.{IsOf, IsReady}
use Rattle.cat_sound.specs.Rests.{TellSame, CallSame}
use Rattle.cat_sound.proofs.Exported.{DefSame, all_back, all_front, all_more, anything, names_alone, same_some}
use Rattle.cat_sound.proofs.Exported.{target_same}
use Rattle.cat_audit_sound.proofs.RunValues.{both}
use Rattle.cat_sound.proofs.Results.{result_as}
use Rattle.cat_audit_sound.proofs.StandingDefs.{named_by_own}

-- values, where what is given stands before anything is done
abbrev pub filled : Items → Items → Items
filled [] values = values
filled (Some v ∷ input) [] = Some v ∷ filled input []
filled (None ∷ input) [] = None ∷ filled input []
filled (Some v ∷ input) (w ∷ values) = Some v ∷ filled input values
filled (None ∷ input) (w ∷ values) = w ∷ filled input values

none_other : {v : Value} → None ≡ Some v → ⊥
none_other e = absurd (cc)

pub filled_given : (input values : Items) (i : ℕ) (v : Value) → slice_get input i ≡ Some (Some v)
    → slice_get (filled input values) i ≡ Some (Some v)
filled_given [] values i v at = absurd (cc)
filled_given (Some w ∷ input) [] zero v at = at
filled_given (None ∷ input) [] zero v at = at
filled_given (Some w ∷ input) [] (suc i) v at = filled_given input [] i v at
filled_given (None ∷ input) [] (suc i) v at = filled_given input [] i v at
filled_given (Some w ∷ input) (x ∷ values) zero v at = at
filled_given (None ∷ input) (x ∷ values) zero v at = absurd (none_other (same_some None (Some v) at))
filled_given (Some w ∷ input) (x ∷ values) (suc i) v at = filled_given input values i v at
filled_given (None ∷ input) (x ∷ values) (suc i) v at = filled_given input values i v at

-- what is done, and has what is given of it, stays as it is
pub filled_done : (input values : Items) (k : ℕ) (w : Option Value) → slice_get values k ≡ Some w
    → ((v : Value) → entry_at k input ≡ Some v → slice_get values k ≡ Some (Some v))
    → slice_get (filled input values) k ≡ slice_get values k
filled_done [] values k w there given = refl
filled_done (Some v ∷ input) [] k w there given = absurd (cc)
filled_done (None ∷ input) [] k w there given = absurd (cc)
filled_done (Some v ∷ input) (x ∷ values) zero w there given = sym (given v refl)
filled_done (None ∷ input) (x ∷ values) zero w there given = refl
filled_done (Some v ∷ input) (x ∷ values) (suc k) w there given = filled_done input values k w there given
filled_done (None ∷ input) (x ∷ values) (suc k) w there given = filled_done input values k w there given

module _ (scoped : Scoped) (calls : ℕ → List Value → Run Value) (values others : Items) where
  abbrev env : Env
  env = env_of scoped calls values

  abbrev other : Env
  other = env_of scoped calls others

  pub ready_as : (ns : Names) (k : ℕ) → slice_get others k ≡ slice_get values k → IsReady anything ns env k
      → IsReady anything ns other k
  ready_as ns k same h = record {
    variable = λ t is. result_as (IsOf ns.decls t) (evaluated (slice_get others k)) (evaluated (slice_get values k))
        (ap evaluated same) (h.variable t is);
    output = λ n t is. result_as (IsOf ns.decls t) (on_one (evaluated (slice_get others k)) (part n))
        (on_one (evaluated (slice_get values k)) (part n)) (ap (λ o. on_one (evaluated o) (part n)) same)
        (h.output n t is);
    function = h.function;
  }

  tell_same : (k : ℕ) → slice_get others k ≡ slice_get values k → TellSame env other k
  tell_same k same = record { value = sym same; call = λ arguments. refl }

  any_call : (scopes : List ℕ) → AllHave (CallSame env other) scopes
  any_call [] = tt
  any_call (s ∷ scopes) = ((λ fields output. refl), any_call scopes)

  abbrev of_one : Expr → Run Value
  of_one e = eval env e []

  abbrev of_other : Expr → Run Value
  of_other e = eval other e []

  condition_same : (o : Option Expr) → AllHave (TellSame env other) (in_condition items_named o)
      → condition_of of_one o ≡ condition_of of_other o
  condition_same None items = refl
  condition_same (Some e) items =
      names_alone env other e [] (record { rounding = refl; items = items; scopes = any_call (scopes_named e) })

  -- a target comes to the same, where what the definitions of its item name does
  pub judged_same : (number item : ℕ) (inner : Option ℕ) (defs : List Def)
      → AllHave (λ k. slice_get others k ≡ slice_get values k) (in_defs_of items_named item defs)
      → judge_target of_one (record { scope = number; item = item; inner = inner }) defs
      ≡ judge_target of_other (record { scope = number; item = item; inner = inner }) defs
  judged_same number item inner defs same =
      let here : Target = record { scope = number; item = item; inner = inner } in
      target_same of_one of_other here defs
      (all_more (λ d. nat_eq d.target.item item ≡ true → AllHave (TellSame env other) (in_def items_named d))
      (λ d. IsTrue (same_target d.target here) → DefSame of_one of_other d) defs
      (named_by_own (TellSame env other) item defs
      (all_more (λ k. slice_get others k ≡ slice_get values k) (TellSame env other) (in_defs_of items_named item defs)
      same tell_same))
      (λ d items h. one d (items (both (nat_eq d.target.item item) (same_inner d.target.inner inner) h).0)))
    where
      one : (d : Def) → AllHave (TellSame env other) (in_def items_named d) → DefSame of_one of_other d
      one d items = record {
        condition = condition_same d.condition (all_front (TellSame env other) (in_condition items_named d.condition)
            (items_named d.consequence) items);
        consequence = names_alone env other d.consequence [] (record {
          rounding = refl;
          items = all_back (TellSame env other) (in_condition items_named d.condition) (items_named d.consequence)
              items;
          scopes = any_call (scopes_named d.consequence);
        });
      }
