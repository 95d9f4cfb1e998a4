-- Of what a called scope comes to a stop: a condition among its inputs is never missing.
use Rattle.std.proofs.Common.{◌≡◌, ◌⊎◌, inl, inr, ℕ, suc, ◌+◌, Bool, true, false, IsTrue, List, [], ◌∷◌, Option, Some}
use Rattle.std.proofs.Common.{None, Result, Ok, Err, slice_get, refl, sym, ap, subst, arith, true≢false}
use Rattle.std.proofs.Common.{if◌then◌else◌}
use Rattle.std.proofs.Math.Logic.{⊎_elim}
use Rattle.cat_pos.specs.declared.pos.Pos.{Pos}
use Rattle.cat_value.specs.declared.value.Value.{Value}
use Rattle.cat_value.specs.declared.value.Value.TheViews as value
use Rattle.cat_value.specs.declared.declaration.ItemDecl.{ItemDecl}
use Rattle.cat_value.specs.declared.declaration.Kind.TheVariants as kind
use Rattle.cat_value.specs.declared.outcome.Target.{Target}
use Rattle.cat_value.specs.Inputs.{must_be_given, may_be_given}
use Rattle.cat_scope.specs.declared.stop.Stop.{Stop}
use Rattle.cat_scope.specs.declared.stop.Stop.TheVariants.{NoValue}
use Rattle.cat_scope.specs.Replies.{on_one}
use Rattle.cat_scope.specs.Runs.{Decider, Run, plain, gives, behind, and_then, giving}
use Rattle.cat_scope.specs.Judging.{Held, Judged, held_position, decided}
use Rattle.cat_scope.specs.Targets.{absent}
use Rattle.cat_scope.specs.Calls.{Items, Scoped, call, items_of, judging_of, variable_of_called}
use Rattle.cat_scope.specs.ItemValues.{passed, passed_input, called_value, ungiven_value, item_value}
use Rattle.cat_sound.specs.Stopped.{ComesOf}
use Rattle.cat_sound.specs.Stopped as comes
use Rattle.cat_sound.proofs.TargetLaws.{is_ok, as_stop}

-- the stop of a run is that of its first part, or that of the second one
abbrev StopsIn : {A B : Type 0} → Result A Stop → (A → Run B) → Stop → Type 0
StopsIn {A} r next s = (r ≡ Err s) ⊎ ((a : A) × ((next a).end ≡ Err s))

stops_behind : {A B : Type 0} (log : List Decider) (r : Result A Stop) (next : A → Run B) (s : Stop)
    → (behind log r next).end ≡ Err s → StopsIn r next s
stops_behind log (Ok a) next s is = inr (a, is)
stops_behind log (Err t) next s is = inl (ap (as_stop s) is)

stops_in : {A B : Type 0} (run : Run A) (next : A → Run B) (s : Stop) → (and_then run next).end ≡ Err s
    → StopsIn run.end next s
stops_in run next s is = stops_behind run.log run.end next s is

-- a value is no stop
no_stop : {A B : Type 0} (a : A) (s : Stop) → Ok a ≡ Err s → B
no_stop a s is = absurd (true≢false (ap is_ok is))

abbrev stop_or : {A : Type 0} → Stop → Result A Stop → Stop
stop_or s (Ok a) = s
stop_or s (Err t) = t

-- what is passed on stops only where an input that is no condition is Empty
pub record IsMissing (target : Target) (pos : Pos) (decl : ItemDecl) (s : Stop) : Type 0 where
  pub must : IsTrue (must_be_given decl.kind)
  pub none : decl.condition ≡ false
  pub stop_is : s ≡ NoValue target pos

passed-stops : (target : Target) (pos : Pos) (decl : ItemDecl) (found : Option (Held Value)) (s : Stop)
    → passed target pos decl found ≡ Err s → IsMissing target pos decl s
passed-stops target pos decl (Some h) s is = no_stop (Some h.value) s is
passed-stops target pos decl None s is = by (must_be_given decl.kind) decl.condition refl refl is
  where
    by : (b c : Bool) → must_be_given decl.kind ≡ b → decl.condition ≡ c
        → (if b then on_one (absent target pos c) (λ v. Ok (Some v)) else Ok None) ≡ Err s
        → IsMissing target pos decl s
    by true true must e g = absurd (true≢false (ap is_ok g))
    by true false must e g = record { must = must; none = e; stop_is = sym (ap (stop_or s) g) }
    by false c must e g = absurd (true≢false (ap is_ok g))

module _ (scoped : Scoped) (before : List ℕ) (values : Items) (item called : ℕ) (decl : ItemDecl) (s : Stop) where
  abbrev judged_at : ℕ → Judged Value
  judged_at n = judging_of scoped (call scoped values before) values [] (variable_of_called scoped item n)

  abbrev target_at : ℕ → Target
  target_at n = variable_of_called scoped item n

  decided-stops : (n : ℕ) → (decided (target_at n) (judged_at n)).end ≡ Err s → (judged_at n).end ≡ Err s
  decided-stops n is =
      ⊎_elim (λ first. first) (λ more. no_stop more.0 s more.1)
      (stops_in (judged_at n)
      (λ found. record { log = record { target = target_at n; by = held_position found } ∷ []; end = Ok found }) s is)

  one-stops : (n : ℕ) (inner : ItemDecl) → slice_get (items_of scoped called) n ≡ Some inner → (b : Bool)
      → (if b then giving (decided (target_at n) (judged_at n)) (passed (target_at n) decl.pos inner)
      else gives None).end ≡ Err s
      → ComesOf scoped before values item called decl s
  one-stops n inner at false is = no_stop None s is
  one-stops n inner at true is =
      ⊎_elim (λ first. comes.judging n (decided-stops n first))
      (λ found. let missing = passed-stops (target_at n) decl.pos inner found.0 s found.1 in
      comes.missing n inner at missing.must missing.none missing.stop_is)
      (stops_in (decided (target_at n) (judged_at n)) (λ found. plain (passed (target_at n) decl.pos inner found)) s is)

  inputs-stop : (n : ℕ) (decls : List ItemDecl)
      → ((k : ℕ) → slice_get (items_of scoped called) (n + k) ≡ slice_get decls k)
      → (passed_input judged_at target_at decl.pos n decls).end ≡ Err s
      → ComesOf scoped before values item called decl s
  inputs-stop n [] at is = no_stop [] s is
  inputs-stop n (inner ∷ decls) at is =
      ⊎_elim
      (λ first. one-stops n inner
      (subst (λ (m : ℕ). slice_get (items_of scoped called) m ≡ Some inner) (omega arith) (at 0))
      (may_be_given inner.kind) first)
      (λ one. ⊎_elim
      (λ rest. inputs-stop (n + 1) decls
      (λ k. subst (λ (m : ℕ). slice_get (items_of scoped called) m ≡ slice_get decls k) (omega arith) (at (suc k)))
      rest)
      (λ more. no_stop (one.0 ∷ more.0) s more.1)
      (stops_in (passed_input judged_at target_at decl.pos (n + 1) decls) (λ more. gives (one.0 ∷ more)) s one.1))
      (stops_in first_run (λ one. and_then (passed_input judged_at target_at decl.pos (n + 1) decls)
      (λ more. gives (one ∷ more))) s is)
    where
      first_run : Run (Option Value)
      first_run =
          if may_be_given inner.kind
          then giving (decided (target_at n) (judged_at n)) (passed (target_at n) decl.pos inner)
          else gives None

  called_value-stops : (called_value scoped before values item decl called).end ≡ Err s
      → ComesOf scoped before values item called decl s
  called_value-stops is =
      ⊎_elim
      (inputs-stop 0 (items_of scoped called)
      (λ k. ap (λ (m : ℕ). slice_get (items_of scoped called) m) (omega arith)))
      (λ input. ⊎_elim (λ first. comes.running input.0 first)
      (λ outputs. no_stop (value.Structure outputs.0) s outputs.1)
      (stops_in (scoped.runs called input.0) (λ outputs. gives (value.Structure outputs)) s input.1))
      (stops_in (passed_input judged_at target_at decl.pos 0 (items_of scoped called))
      (λ input. and_then (scoped.runs called input) (λ outputs. gives (value.Structure outputs))) s is)

  pub called_scopes_stop : decl.kind ≡ kind.Called called
      → (item_value scoped before values item None (Some decl)).end ≡ Err s
      → ComesOf scoped before values item called decl s
  called_scopes_stop is_kind is =
      ⊎_elim called_value-stops (λ more. no_stop (Some more.0) s more.1)
      (stops_in (called_value scoped before values item decl called) (λ v. gives (Some v)) s
      (subst (λ k. (ungiven_value scoped before values item decl k).end ≡ Err s) is_kind is))
