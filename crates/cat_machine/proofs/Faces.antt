-- A run from its start to its outcome.
use Rattle.std.proofs.Common.{◌≡◌, ℕ, ◌+◌, ◌<◌, ◌≤◌, min, List, [], ◌∷◌, ◌++◌, length, map, slice_get, true}
use Rattle.std.proofs.Common.{OnOk, false, true≢false}
use Rattle.std.specs.Prelude.{IfOk}
use Rattle.std.proofs.Common.{Option, Some, None, IsSome, is_some, Result, Ok, Err, refl, sym, ap, ◌∙◌, subst, arith}
use Rattle.std.proofs.Common.{⊎_elim}
use Rattle.std.proofs.Math.Bool.{Bool-set}
use Rattle.std.proofs.Math.Logic.{∥∥₁_elim}
use Rattle.std.proofs.lemmas.Bool.{cases_lt}
use Rattle.std.proofs.lemmas.List.{length-map}
use Rattle.std.specs.Coded.{le_prop}
use Rattle.std.specs.Result.{is_err}
use Rattle.std.specs.declared.alloc.AllocError.{AllocError}
use Rattle.cat_value.specs.declared.outcome.Outcome.{Outcome}
use Rattle.cat_value.specs.declared.outcome.Outcome.TheVariants as outcome
use Rattle.cat_value.specs.declared.value.Value.{Value}
use Rattle.cat_scope.specs.declared.stop.Stop.{Stop}
use Rattle.cat_scope.specs.declared.stop.Stop.TheVariants as stop
use Rattle.cat_scope.specs.Calls.{Items}
use Rattle.cat_scope.specs.Judging.{Held, alone}
use Rattle.cat_scope.specs.Outcomes.{outcome_of}
use Rattle.cat_scope.specs.Projections.{parts}
use Rattle.cat_scope.specs.Replies.{known, on_one}
use Rattle.cat_code.specs.declared.code.Code.{Code}
use Rattle.cat_code.specs.declared.code.TargetEntry.{TargetEntry}
use Rattle.cat_code.specs.Runs.{Gives, Whole, within}
use Rattle.cat_code.specs.States.{State, started}
use Rattle.cat_code.proofs.Determined.{one_run}
use Rattle.cat_pool.specs.Loading.{Extends}
use Rattle.cat_pool.specs.Nodes.{Standing, at, values}
use Rattle.cat_pool.proofs.Exported.{extends_on, length-values, slice_get-at}
use Rattle.cat_machine.specs.declared.executing.Run.{Run}
use Rattle.cat_machine.specs.declared.log.LogEntry.{LogEntry}
use Rattle.cat_machine.specs.declared.machine.End.{End}
use Rattle.cat_machine.specs.declared.machine.End.TheVariants as end
use Rattle.cat_machine.specs.declared.machine.Machine.{Machine}
use Rattle.cat_machine.specs.Layers.{top_items}
use Rattle.cat_machine.specs.Running.{GivesOutcome, Grows, HasOutputs, IsGiven, Logs, TakesSteps, constant_count}
use Rattle.cat_machine.specs.States.{decided, held_of, state_at}
use Rattle.cat_machine.specs.Steps.{EndWithin, ending}
use Rattle.cat_machine.specs.inside.Begun.{GivesEnd, HasEnd, IsReady, RanIn, RanTo, RunsSo, RunsTo}
use Rattle.cat_machine.specs.inside.Driven.{EndsFrom, EndsFrom-prop, ends_in}
use Rattle.cat_machine.specs.inside.Leading.{EndsSo, stand}
use Rattle.cat_machine.proofs.Endings.{ends_within}
use Rattle.cat_machine.proofs.Holding.{get_below}
use Rattle.cat_machine.proofs.NodeKinds.{fields_of}

same_some : {A : Type 0} (a b : A) (o : Option A) → o ≡ Some a → o ≡ Some b → a ≡ b
same_some a b o e f = let both : Some a ≡ Some b = sym e ∙ f in cc both

IsSome-prop : {A : Type 0} (o : Option A) → IsProp (IsSome o)
IsSome-prop o = Bool-set (is_some o) true

none_some : {A : Type 0} (a : A) → None ≡ Some a → ⊥
none_some a is = absurd (cc is)

-- ---- only the outputs are values

as_outcome : (nodes : List Standing) (here made : Outcome) → Some here ≡ Some made → HasOutputs nodes here
    → HasOutputs nodes made
as_outcome nodes here made is there =
    let same : here ≡ made = cc is in subst (λ (o : Outcome). HasOutputs nodes o) same there

no_values : (nodes : List Standing) (e : Result (List Value) Stop) (made : Outcome)
    → ((vs : List Value) → e ≡ Ok vs → ⊥) → outcome_of e ≡ Some made → HasOutputs nodes made
no_values nodes (Ok vs) made none is = absurd (none vs refl)
no_values nodes (Err (stop.Conflict target positions)) made none is =
    as_outcome nodes (outcome.Conflict target positions) made is tt
no_values nodes (Err (stop.NoValue target pos)) made none is = as_outcome nodes (outcome.NoValue target pos) made is tt
no_values nodes (Err (stop.Fault kind pos)) made none is = as_outcome nodes (outcome.Fault kind pos) made is tt
no_values nodes (Err stop.Stuck) made none is = absurd (cc is)

no_conflict : (o : Option TargetEntry) (hs : List (Held Value)) (vs : List Value) → 1 < length hs
    → on_one (known o) (λ entry. on_one (alone entry.target hs) (λ found. Ok [])) ≡ Ok vs → ⊥
no_conflict None hs vs many is = absurd (cc is)
no_conflict (Some entry) [] vs many is = absurd (omega (arith, many))
no_conflict (Some entry) (h ∷ []) vs many is = absurd (omega (arith, many))
no_conflict (Some entry) (h ∷ i ∷ hs) vs many is = absurd (cc is)

no_missing : (o : Option TargetEntry) (vs : List Value)
    → on_one {A = TargetEntry} {B = List Value} (known o) (λ entry. Err (stop.NoValue entry.target entry.pos))
    ≡ Ok vs → ⊥
no_missing None vs is = absurd (cc is)
no_missing (Some entry) vs is = absurd (cc is)

outputs_in : (nodes : List Standing) (r : ℕ) (o : Result (List Value) Stop) (made : Outcome) → r < length nodes
    → parts (at (values nodes) r) ≡ o → outcome_of o ≡ Some made → HasOutputs nodes made
outputs_in nodes r (Ok vs) made inside read is =
    as_outcome nodes (outcome.Value vs) made is (
      r,
      slice_get-at (values nodes) r (subst (λ (n : ℕ). r < n) (sym (length-values nodes)) inside)
          ∙ ap Some (fields_of (at (values nodes) r) vs read),
    )
outputs_in nodes r (Err e) made inside read is = no_values nodes (Err e) made (λ vs bad. absurd (cc bad)) is

outputs_there : (code : Code) (m : Machine) (ended : End) (made : Outcome)
    → outcome_of (ending code.tables m ended) ≡ Some made → EndWithin m ended → HasOutputs m.pool made
outputs_there code m (end.Outputs r) made is inside =
    outputs_in m.pool r (parts (at (values m.pool) r)) made inside refl is
outputs_there code m (end.Conflict v) made is inside =
    no_values m.pool (ending code.tables m (end.Conflict v)) made
    (λ vs bad. no_conflict (slice_get code.tables.targets v)
    (map (held_of code.tables (values m.pool)) (top_items m.defaults)) vs
    (let long = length-map (top_items m.defaults) (held_of code.tables (values m.pool)) in omega (arith, long, inside))
    bad) is
outputs_there code m (end.NoValue v) made is inside =
    no_values m.pool (ending code.tables m (end.NoValue v)) made
    (λ vs bad. no_missing (slice_get code.tables.targets v) vs bad) is
outputs_there code m (end.Fault kind p) made is inside =
    no_values m.pool (ending code.tables m (end.Fault kind p)) made (λ vs bad. absurd (cc bad)) is

module _ (code : Code) (scope : ℕ) (input : Items) (given : ∥ IsGiven code scope input ∥₁) where
  -- the scope is one of the tables
  pub scope_there : scope < length code.tables.scopes
  scope_there = ∥∥₁_elim given le_prop (λ g. get_below code.tables.scopes scope g.gives.entry g.gives.is_entry)

  -- the run from a machine that stands for its start ends
  pub given_ends : (entry : ℕ) (m : Machine) → slice_get code.tables.scopes scope ≡ Some entry
      → state_at code.tables entry m ≡ started entry input → EndsFrom code entry m
  given_ends entry m is_entry state =
      ∥∥₁_elim given (EndsFrom-prop code entry m) (λ g.
      let same : g.gives.entry ≡ entry
      = same_some g.gives.entry entry (slice_get code.tables.scopes scope) g.gives.is_entry is_entry in
      let moved : within code.tables code.instructions g.gives.steps (started entry input) ≡ Some g.run
      = ap (λ (e : ℕ). within code.tables code.instructions g.gives.steps (started e input)) (sym same)
      ∙ g.gives.ends in
      let many = ends_within code g.gives.steps (started entry input) g.run moved g.has_outcome in
      (many.0, subst (λ (s : State). 1 ≤ ends_in code many.0 s) (sym state) many.1))

-- a machine was made ready where memory didn't run out
pub ready_so : (code : Code) (input : Items) (before : List Standing) (m : Machine) (res : Result (Unit {0}) AllocError)
    → false ≡ is_err res → OnOk res (IsReady code input before m) → IsReady code input before m
ready_so code input before m (Ok done) is ready = ready
ready_so code input before m (Err e) is ready = absurd (true≢false (sym is))

-- a run has ended that began at the start
pub runs_so : (code : Code) (scope : ℕ) (input : Items) (before : List Standing) (m last : Machine) (entry count : ℕ)
    (ended : Result End AllocError)
    → IsReady code input before m → Extends before m.pool → slice_get code.tables.scopes scope ≡ Some entry
    → EndsSo code (stand entry 0 m) ended (stand 0 count last) → RunsSo code scope input before ended last count
runs_so code scope input before m last entry count (Err e) ready kept is_entry ends =
    extends_on before m.pool last.pool kept ends
runs_so code scope input before m last entry count (Ok end) ready kept is_entry ends = record {
  machine = ends.machine;
  within_pool = ends.within_pool;
  taken = ends.taken;
  steps = record {
    entry = entry;
    is_entry = is_entry;
    run = record { log = ends.log; end = ending code.tables last end };
    ends = ap (λ (s : State). within code.tables code.instructions ends.taken s) (sym (ready.state entry)) ∙ ends.ends;
    no_fewer = λ k lt. ap (λ (s : State). within code.tables code.instructions k s) (sym (ready.state entry))
        ∙ ends.no_fewer k lt;
  };
  counted = let start : 0 + ends.taken ≡ ends.taken = omega arith in
      ends.count ∙ ap (λ (n : ℕ). min n 18446744073709551615) start;
  log = ends.logged ∙ ap (λ (l : List LogEntry). decided code.tables l ++ ends.log) ready.log;
  ends = refl;
  pool = extends_on before m.pool last.pool kept ends.pool;
  few = let one = ends.few in let other = ready.few in omega (arith, one, other);
}

module _ (code : Code) (scope : ℕ) (input : Items) (before : List Standing) (ended : End) (m : Machine) (count : ℕ)
    (runs : RunsTo code scope input before ended m count) where
  gives : Gives code.tables code.instructions scope input runs.steps.run
  gives = record {
    entry = runs.steps.entry;
    is_entry = runs.steps.is_entry;
    steps = runs.taken;
    ends = runs.steps.ends;
  }

  same_end : (run : Whole) → Gives code.tables code.instructions scope input run → run.end ≡ ending code.tables m ended
  same_end run given =
      ap (λ (r : Whole). r.end) (one_run code.tables code.instructions scope input run runs.steps.run given gives)
      ∙ runs.ends

  pub outcome_there : ∥ IsGiven code scope input ∥₁ → IsSome (outcome_of (ending code.tables m ended))
  outcome_there given =
      ∥∥₁_elim given (IsSome-prop (outcome_of (ending code.tables m ended))) (λ g.
      subst (λ (e : Result (List Value) Stop). IsSome (outcome_of e)) (same_end g.run g.gives) g.has_outcome)

  gives_outcome : (made : Outcome) → outcome_of (ending code.tables m ended) ≡ Some made
      → GivesOutcome code scope input made
  gives_outcome made is run given = ap (λ (e : Result (List Value) Stop). outcome_of e) (same_end run given) ∙ is

  same_number : (n : ℕ) → TakesSteps code scope input n → n ≡ runs.taken
  same_number n takes =
      let entry : takes.entry ≡ runs.steps.entry
      = same_some takes.entry runs.steps.entry (slice_get code.tables.scopes scope) takes.is_entry
      runs.steps.is_entry in
      let ends : within code.tables code.instructions n (started runs.steps.entry input) ≡ Some takes.run
      = ap (λ (e : ℕ). within code.tables code.instructions n (started e input)) (sym entry) ∙ takes.ends in
      let no_fewer : (k : ℕ) → k < n → within code.tables code.instructions k (started runs.steps.entry input) ≡ None
      = λ k lt. ap (λ (e : ℕ). within code.tables code.instructions k (started e input)) (sym entry)
      ∙ takes.no_fewer k lt in
      ⊎_elim
      (λ lt. absurd (none_some takes.run (sym (runs.steps.no_fewer n lt) ∙ ends)))
      (λ ge. ⊎_elim
      (λ lt. absurd (none_some runs.steps.run (sym (no_fewer runs.taken lt) ∙ runs.steps.ends)))
      (λ le. omega (arith, ge, le))
      (cases_lt runs.taken n))
      (cases_lt n runs.taken)

  logs : (log : List LogEntry) → log ≡ m.log → Logs code scope input log
  logs log is run given =
      ap (decided code.tables) is
      ∙ runs.log
      ∙ ap (λ (r : Whole). r.log) (one_run code.tables code.instructions scope input runs.steps.run run gives given)

  pub ran : (made : Run) (pool : List Standing) → pool ≡ m.pool → made.log ≡ m.log → made.steps ≡ count
      → outcome_of (ending code.tables m ended) ≡ Some made.outcome → RanTo code scope input before pool made
  ran made pool is log steps made_is = record {
    outcome = gives_outcome made.outcome made_is;
    count = λ n takes. steps ∙ runs.counted ∙ ap (λ k. min k 18446744073709551615) (sym (same_number n takes));
    log = logs made.log log;
    few = λ n takes. let all = runs.few in let same = same_number n takes in omega (arith, ap length is, all, same);
    outputs = subst (λ (l : List Standing). HasOutputs l made.outcome) (sym is)
        (outputs_there code m ended made.outcome made_is runs.within_pool);
  }

-- ---- where memory may run out

module _ (code : Code) (scope : ℕ) (input : Items) (before : List Standing) (m : Machine) (count : ℕ) where
  pub has_end : (e : Result End AllocError) → RunsSo code scope input before e m count → ∥ IsGiven code scope input ∥₁
      → HasEnd code.tables m e
  has_end (Ok ended) runs given =
      (runs.machine, runs.within_pool, outcome_there code scope input before ended m count runs given)
  has_end (Err e) runs given = tt

  pub ran_so : (e : Result End AllocError) (made : Run) (pool : List Standing) → pool ≡ m.pool → made.log ≡ m.log
      → made.steps ≡ count → RunsSo code scope input before e m count → GivesEnd code.tables m e made.outcome
      → RanTo code scope input before pool made
  ran_so (Ok ended) made pool same log steps runs is =
      ran code scope input before ended m count runs made pool same log steps is
  ran_so (Err e) made pool same log steps runs is = absurd is

  -- where a run has an outcome
  pub ran_in : (e : Result End AllocError) (made : Result Outcome AllocError) → RunsSo code scope input before e m count
      → IfOk made (GivesEnd code.tables m e) → IfOk made (RanIn code scope input before count m)
  ran_in e (Ok made) runs is =
      ran_so e (record { outcome = made; steps = count; log = m.log }) m.pool refl refl refl runs is
  ran_in e (Err error) runs is = tt

-- the constants are loaded in front of a run
pub grows_behind : (code : Code) (scope : ℕ) (input : Items) (old loaded new : List Standing) (made : Run)
    → length loaded ≡ length old + constant_count code.tables.constants → RanTo code scope input loaded new made
    → Grows code scope input old new made.outcome
grows_behind code scope input old loaded new made counted ran = record {
  few = λ n takes. let here = ran.few n takes in omega (arith, counted, here);
  outputs = ran.outputs;
}

pub ruleset behind_loaded = (extends_on)
