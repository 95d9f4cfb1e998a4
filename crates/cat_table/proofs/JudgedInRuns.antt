-- A judging in a run is one in an environment that has what the definitions of the target name, and what is evaluated
-- there stops at no target of its item.
use Rattle.std.proofs.Common.{◌≡◌, ◌≤◌, ◌<◌, ℕ, zero, suc, true, false, IsTrue, List, [], ◌∷◌, length}
use Rattle.std.proofs.Common.{take, Some, slice_get, get_or, subst, arith}
use Rattle.std.specs.Prelude.{nat_eq}
use Rattle.std.proofs.lemmas.Bool.Decides.{nat_tests}
use Rattle.cat_order.specs.Order.{IsOrder, is_ready, times}
use Rattle.cat_order.proofs.Exported.{Ready-of_is_ready}
use Rattle.cat_value.specs.Inputs.{are_given_for}
use Rattle.cat_scope.specs.declared.programs.Program.{Program}
use Rattle.cat_scope.specs.Calls.{Scoped, env_of}
use Rattle.cat_scope.specs.Eval.{Env}
use Rattle.cat_scope.specs.Names.{Names, AllHave, is_in}
use Rattle.cat_scope.specs.Orders.{item_dependencies}
use Rattle.cat_scope.specs.Running.{backwards, moved}
use Rattle.cat_scope.specs.Targets.{same_target}
use Rattle.cat_scope.specs.WellFormed.{IsBodyOf, IsWellFormed}
use Rattle.cat_sound.specs.Endings.{IsReady}
use Rattle.cat_sound.specs.Given.{values_at}
use Rattle.cat_sound.specs.Settled.{StandsIn}
use Rattle.cat_sound.proofs.Exported.{Ahead, Behind, DoneAt, all_more, anything, items_ahead, ready}
use Rattle.cat_guard.specs.declared.table.Table.{Table}
use Rattle.cat_audit_sound.proofs.RunValues.{if_ok}
use Rattle.cat_audit_sound.proofs.PrefixRuns.{StandsAt, front_behind, front_stands, needed_before}
use Rattle.cat_audit_sound.proofs.StandingDefs as standing
use Rattle.cat_audit_sound.proofs.StandingDefs.{body_of, def_callables, defs_stand, scope_sound, typed_given}
use Rattle.cat_table.specs.Judgings.{IsInRun, RunJudging, calls_at, scoped_at, target_at}
use Rattle.cat_table.proofs.ApartLemmas.{Differ, defs_here, elsewhere, functions_elsewhere}

-- ---- fronts of orders

all_moved : (P : ℕ → Type 0) (before left : List ℕ) → AllHave P before → AllHave P left → AllHave P (moved before left)
all_moved P before [] h more = h
all_moved P before (n ∷ left) h more = all_moved P (n ∷ before) left (more.0, h) more.1

-- what is moved was there
record Moved (P : ℕ → Type 0) (before left : List ℕ) : Type 0 where
  old : AllHave P before
  new : AllHave P left

moved_parts : (P : ℕ → Type 0) (before left : List ℕ) → AllHave P (moved before left) → Moved P before left
moved_parts P before [] h = record { old = h; new = tt }
moved_parts P before (n ∷ left) h =
    let rest = moved_parts P (n ∷ before) left h in record { old = rest.old.1; new = (rest.old.0, rest.new) }

all_earlier : (P : ℕ → Type 0) (ns : List ℕ) (place index : ℕ) → place ≤ index → AllHave P (take index ns)
    → AllHave P (take place ns)
all_earlier P [] zero index below h = tt
all_earlier P [] (suc place) index below h = tt
all_earlier P (n ∷ ns) zero index below h = tt
all_earlier P (n ∷ ns) (suc place) zero below h = absurd (omega arith)
all_earlier P (n ∷ ns) (suc place) (suc index) below h = (h.0, all_earlier P ns place index (omega arith) h.1)

-- what holds of the items in front of an index holds of those in front of an earlier one
earlier : (P : ℕ → Type 0) (order : List ℕ) (place index : ℕ) → place ≤ index
    → AllHave P (backwards (take index order)) → AllHave P (backwards (take place order))
earlier P order place index below h =
    all_moved P [] (take place order) tt
    (all_earlier P order place index below (moved_parts P [] (take index order) h).new)

none_listed : (ns : List ℕ) (n : ℕ) → times ns n ≡ 0 → Differ n ns
none_listed [] n none = tt
none_listed (m ∷ ns) n none = (first, none_listed ns n (grind (arith, nat_tests, none)))
  where
    first : nat_eq m n ≡ false
    first = grind (arith, nat_tests, none)

at_place : (ns : List ℕ) (place n : ℕ) → slice_get ns place ≡ Some n → (place < length ns) × (get_or ns place 0 ≡ n)
at_place [] place n is = absurd (cc)
at_place (m ∷ ns) zero n is = let same : m ≡ n = cc in (omega arith, same)
at_place (m ∷ ns) (suc place) n is =
    let rest = at_place ns place n is in let below = rest.0 in (omega (arith, below), rest.1)

-- an item of an order isn't among those in front of it
in_front : (deps : List (List ℕ)) (order : List ℕ) (place item : ℕ) → IsOrder deps order
    → slice_get order place ≡ Some item → Differ item (backwards (take place order))
in_front deps order place item is there =
    let at = at_place order place item there in
    let next = is.in_order place at.0 in
    let new = Ready-of_is_ready deps (take place order) item
    (subst (λ (n : ℕ). is_ready deps (take place order) n ≡ true) at.1 next.ready) in
    all_moved (λ m. nat_eq m item ≡ false) [] (take place order) tt (none_listed (take place order) item new.new)

-- ---- a judging in a run

module _ (program : Program) (well : IsWellFormed program.decls program.bodies program.scope_order) (table : Table)
    (j : RunJudging) (is : IsInRun program table j) where
  abbrev names : Names
  names = record { decls = program.decls; items = j.decl.items }

  abbrev scoped : Scoped
  scoped = standing.scoped program.decls program.bodies program.scope_order well j.scope j.decl j.body is.scope_is
      is.body_is

  abbrev needs : ℕ → List ℕ
  needs = standing.needs program.decls program.bodies program.scope_order well j.scope j.decl j.body is.scope_is
      is.body_is

  abbrev before : List ℕ
  before = backwards (take j.place j.body.order)

  abbrev env : Env
  env = env_of (scoped_at program j) (calls_at program j) j.values

  its_body : IsBodyOf program.decls j.scope j.decl j.body
  its_body = body_of program.decls program.bodies program.scope_order well j.scope j.decl j.body is.scope_is is.body_is

  ahead : Ahead (length j.decl.items) needs [] j.body.order
  ahead = items_ahead j.decl.items j.body.defs j.body.order its_body.order

  given : IsTrue (are_given_for program.decls j.decl.items is.input)
  given = typed_given program.decls j.scope j.decl is.input is.scope_is is.typed

  behind : Behind (length j.decl.items) needs before
  behind =
      front_behind program.decls scoped needs (scope_sound program.decls program.bodies program.scope_order well j.scope
      j.decl j.body is.scope_is is.body_is) is.input given j.place ahead

  done : AllHave (DoneAt names j.values) before
  done =
      all_more (StandsAt names is.input j.values) (DoneAt names j.values) before
      (earlier (StandsAt names is.input j.values) j.body.order j.place is.index is.behind
      (if_ok (λ vs. AllHave (StandsAt names is.input vs) (backwards (take is.index j.body.order)))
      (values_at scoped is.input is.index).end j.values
      (front_stands program.decls scoped needs (scope_sound program.decls program.bodies program.scope_order well
      j.scope j.decl j.body is.scope_is is.body_is) is.input given is.index ahead) is.reached))
      (λ n stands. stands.done)

  readies : AllHave (IsReady anything names env) (needs j.item)
  readies =
      all_more (λ n. IsTrue (is_in n before)) (IsReady anything names env) (needs j.item)
      (needed_before (length j.decl.items) needs [] j.body.order j.place j.item ahead is.item_is)
      (λ n inside. ready anything program.decls scoped needs (scope_sound program.decls program.bodies
      program.scope_order well j.scope j.decl j.body is.scope_is is.body_is) j.values before behind done n inside)

  -- the definitions of the target stand in its environment, where what is evaluated stops elsewhere
  pub stand_there : AllHave (λ d. IsTrue (same_target d.target (target_at j))
      → StandsIn (elsewhere j.scope j.item) names env is.params is.ty d) j.body.defs
  stand_there =
      defs_here program.decls program.bodies program.scope_order well j.scope j.decl j.body is.scope_is is.body_is
      j.item (calls_at program j) j.values
      (functions_elsewhere program.decls program.bodies program.scope_order well j.scope j.decl j.body is.scope_is
      is.body_is j.item j.values before behind done
      (in_front (item_dependencies j.decl.items j.body.defs) j.body.order j.place j.item its_body.order is.item_is))
      (target_at j) is.params is.ty
      (defs_stand names j.scope env j.item j.inner is.params is.ty is.target j.body.defs its_body.defs
      (def_callables program.decls program.bodies program.scope_order well j.scope j.decl j.body is.scope_is is.body_is
      (calls_at program j) j.values) readies)
