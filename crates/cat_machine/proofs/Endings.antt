-- A run that ends, from one step to the next.
use Rattle.std.proofs.Common.{◌≡◌, ◌≢◌, ◌≤◌, ◌<◌, ◌+◌, ℕ, zero, suc, List, [], ◌++◌, Option, Some, None, IsSome, Result}
use Rattle.std.proofs.Common.{Ok, Err}
use Rattle.std.proofs.Common.{refl, sym, ap, ◌∙◌, subst, arith, append-nil, append_assoc, true≢false, ⊎_elim}
use Rattle.std.proofs.lemmas.Bool.{cases_lt}
use Rattle.std.specs.declared.alloc.AllocError.{AllocError}
use Rattle.cat_value.specs.declared.value.Value.{Value}
use Rattle.cat_scope.specs.declared.stop.Stop.{Stop}
use Rattle.cat_scope.specs.declared.stop.Stop.TheVariants as stop
use Rattle.cat_scope.specs.Outcomes.{outcome_of}
use Rattle.cat_scope.specs.Runs.{Decider}
use Rattle.cat_code.specs.declared.code.Code.{Code}
use Rattle.cat_code.specs.Runs.{Whole, behind_log, followed, step, within}
use Rattle.cat_code.specs.States.{State, Next, Goes, Over, stuck}
use Rattle.cat_pool.proofs.Exported.{extends_itself, extends_on}
use Rattle.cat_machine.specs.declared.machine.Machine.{Machine}
use Rattle.cat_machine.specs.declared.machine.End.{End}
use Rattle.cat_machine.specs.declared.machine.Stepped.{Stepped}
use Rattle.cat_machine.specs.declared.machine.Stepped.TheVariants as stepped
use Rattle.cat_machine.specs.States.{decided, state_at}
use Rattle.cat_machine.specs.Steps.{OneMore, Tells, behind, ending}
use Rattle.cat_machine.specs.inside.Machines.{IsMachine}
use Rattle.cat_machine.specs.inside.Driven.{after_step, ends_in, is_ended, same_number, EndsFrom}
use Rattle.cat_machine.specs.inside.Leading.{counted, EndsAt, EndsSo, GoesOn, Leads, Stand, StopsAt, StopsSo, stand}
use Rattle.cat_machine.specs.inside.Leading.{state_of}

-- ---- one step of a run that ends

-- it isn't stuck
pub not_stuck : (code : Code) (s : State) (n : ℕ) → 1 ≤ ends_in code n s → step code.tables code.instructions s ≢ stuck
not_stuck code s zero h is =
    let g : 1 ≤ 0 = subst (λ x. 1 ≤ after_step zero (λ t. 0) x) is h in omega (arith, g)
not_stuck code s (suc n) h is =
    let g : 1 ≤ 0 = subst (λ x. 1 ≤ after_step (suc n) (ends_in code n) x) is h in omega (arith, g)

-- and the run behind it ends
pub ends_on : (code : Code) (s t : State) (log : List Decider) (n : ℕ) → 1 ≤ ends_in code n s
    → step code.tables code.instructions s ≡ Goes log t → (m : ℕ) × (1 ≤ ends_in code m t)
ends_on code s t log zero h is =
    let g : 1 ≤ 0 = subst (λ x. 1 ≤ after_step zero (λ t. 0) x) is h in absurd (omega (arith, g))
ends_on code s t log (suc n) h is = (n, subst (λ x. 1 ≤ after_step (suc n) (ends_in code n) x) is h)

-- with one step less
pub falls : (code : Code) (s t : State) (log : List Decider) (m n : ℕ)
    → step code.tables code.instructions s ≡ Goes log t
    → 1 ≤ ends_in code m s → 1 ≤ ends_in code n t → n < m
falls code s t log m n is here there =
    let more : 1 ≤ ends_in code (suc n) s = subst (λ x. 1 ≤ after_step (suc n) (ends_in code n) x) (sym is) there in
    let same : m ≡ suc n = same_number code m (suc n) s here more in
    omega (arith, same)

-- ---- a run that has an outcome ends

ended_by : (end : Result (List Value) Stop) → IsSome (outcome_of end) → 1 ≤ is_ended end
ended_by (Ok vs) some = omega arith
ended_by (Err (stop.Conflict target positions)) some = omega arith
ended_by (Err (stop.NoValue target pos)) some = omega arith
ended_by (Err (stop.Fault kind pos)) some = omega arith
ended_by (Err stop.Stuck) some = absurd (true≢false (sym some))

-- the end of what is there
abbrev end_in : Option Whole → Result (List Value) Stop
end_in None = Err stop.Stuck
end_in (Some run) = run.end

pub ends_within : (code : Code) (n : ℕ) (s : State) (run : Whole) → within code.tables code.instructions n s ≡ Some run
    → IsSome (outcome_of run.end) → (k : ℕ) × (1 ≤ ends_in code k s)
ends_within code zero s run is some = absurd (cc is)
ends_within code (suc n) s run is some =
    by (step code.tables code.instructions s) refl is (λ t rest at. ends_within code n t rest at)
  where
    by : (x : Next) → step code.tables code.instructions s ≡ x
        → followed x (within code.tables code.instructions n) ≡ Some run
        → ((t : State) (rest : Whole) → within code.tables code.instructions n t ≡ Some rest
        → IsSome (outcome_of rest.end)
        → (k : ℕ) × (1 ≤ ends_in code k t))
        → (k : ℕ) × (1 ≤ ends_in code k s)
    by (Over end) at is again =
        let ends : end ≡ run.end = ap end_in is in (
          zero,
          subst (λ x. 1 ≤ after_step zero (λ t. 0) x) (sym at)
              (ended_by end (subst (λ e. IsSome (outcome_of e)) (sym ends) some)),
        )
    by (Goes log t) at is again = behind_it (within code.tables code.instructions n t) refl is
      where
        behind_it : (o : Option Whole) → within code.tables code.instructions n t ≡ o → behind_log log o ≡ Some run
            → (k : ℕ) × (1 ≤ ends_in code k s)
        behind_it None there is = absurd (cc is)
        behind_it (Some rest) there is =
            let ends : rest.end ≡ run.end = ap end_in is in
            let more = again t rest there (subst (λ e. IsSome (outcome_of e)) (sym ends) some) in
            (suc more.0, subst (λ x. 1 ≤ after_step (suc more.0) (ends_in code more.0) x) (sym at) more.1)

-- ---- logs in front

behind_is : (log now : List Decider) (x : Next) (t : State) → behind log x ≡ Goes now t
    → (more : List Decider) × (x ≡ Goes more t) × (now ≡ log ++ more)
behind_is log now (Over end) t is = absurd (cc is)
behind_is log now (Goes more s) t is =
    let same : s ≡ t = cc is in
    let logs : log ++ more ≡ now = cc is in
    (more, ap (Goes more) same, sym logs)

behind_log-behind_log : (first second : List Decider) (o : Option Whole)
    → behind_log first (behind_log second o) ≡ behind_log (first ++ second) o
behind_log-behind_log first second None = refl
behind_log-behind_log first second (Some run) =
    ap (λ (l : List Decider). Some (record { log = l; end = run.end })) (sym (append_assoc first second run.log))

counted-counted : (c a : ℕ) → counted (counted c a) 1 ≡ counted c (a + 1)
counted-counted c a = omega arith

-- ---- step by step

-- nothing is done yet
pub leads_itself : (code : Code) (first : Stand) → IsMachine code.tables first.machine
    → first.count ≤ 18446744073709551615
    → Leads code first first 0
leads_itself code first is fits = record {
  machine = is;
  log = [];
  logged = sym (append-nil (decided code.tables first.machine.log));
  count = omega (arith, fits);
  pool = extends_itself first.machine.pool;
  few = omega arith;
  runs = λ n. let same : 0 + n ≡ n = omega arith in
      ap (λ k. within code.tables code.instructions k (state_of code first)) same
      ∙ no_log (within code.tables code.instructions n (state_of code first));
  going = λ k le. let none : k ≡ 0 =
      omega (arith, le) in ap (λ j. within code.tables code.instructions j (state_of code first)) none;
}
  where
    no_log : (o : Option Whole) → o ≡ behind_log [] o
    no_log None = refl
    no_log (Some run) = refl

module _ (code : Code) (first later : Stand) (taken : ℕ) (leads : Leads code first later taken) where
  one_more : (n : ℕ) → within code.tables code.instructions (taken + (1 + n)) (state_of code first)
      ≡ behind_log leads.log
      (followed (step code.tables code.instructions (state_of code later)) (within code.tables code.instructions n))
  one_more n =
      let one : 1 + n ≡ suc n = omega arith in
      ap (λ k. within code.tables code.instructions (taken + k) (state_of code first)) one ∙ leads.runs (suc n)

  -- one step more
  pub leads_on : (next : Stand) → GoesOn code later next → Leads code first next (taken + 1)
  leads_on next goes =
      let on = behind_is (decided code.tables later.machine.log) (decided code.tables next.machine.log)
      (step code.tables code.instructions (state_of code later)) (state_of code next) goes.leads in
      let after : (n : ℕ) → within code.tables code.instructions (taken + (1 + n)) (state_of code first)
      ≡ behind_log (leads.log ++ on.0) (within code.tables code.instructions n (state_of code next))
      = λ n. one_more n
      ∙ ap (λ (x : Next). behind_log leads.log (followed x (within code.tables code.instructions n))) on.1
      ∙ behind_log-behind_log leads.log on.0 (within code.tables code.instructions n (state_of code next)) in
      record {
        machine = goes.machine;
        log = leads.log ++ on.0;
        logged = on.2 ∙ ap (λ (l : List Decider). l ++ on.0) leads.logged
            ∙ append_assoc (decided code.tables first.machine.log) leads.log on.0;
        count = goes.count ∙ ap (λ c. counted c 1) leads.count ∙ counted-counted first.count taken;
        pool = extends_on first.machine.pool later.machine.pool next.machine.pool leads.pool goes.pool.stay;
        few = let one = goes.pool.few in let all = leads.few in omega (arith, one, all);
        runs = λ n. let same : (taken + 1) + n ≡ taken + (1 + n) = omega arith in
            ap (λ k. within code.tables code.instructions k (state_of code first)) same ∙ after n;
        going = λ k le. ⊎_elim
            (λ lt. leads.going k (omega (arith, lt)))
            (λ ge. let last : k ≡ taken + (1 + 0) = omega (arith, le, ge) in
            ap (λ j. within code.tables code.instructions j (state_of code first)) last ∙ after 0)
            (cases_lt k (taken + 1));
      }

  -- the last step
  pub ends_at : (last : Stand) (end : End) → StopsAt code later last end → EndsAt code first last end
  ends_at last end stops = record {
    machine = stops.machine;
    within_pool = stops.within;
    taken = taken + 1;
    log = leads.log;
    logged = ap (decided code.tables) stops.log ∙ leads.logged;
    count = stops.count ∙ ap (λ c. counted c 1) leads.count ∙ counted-counted first.count taken;
    pool = extends_on first.machine.pool later.machine.pool last.machine.pool leads.pool stops.pool.stay;
    few = let one = stops.pool.few in let all = leads.few in omega (arith, one, all);
    ends = let same : taken + 1 ≡ taken + (1 + 0) = omega arith in
        ap (λ k. within code.tables code.instructions k (state_of code first)) same
        ∙ one_more 0
        ∙ ap (λ (x : Next). behind_log leads.log (followed x (within code.tables code.instructions 0))) stops.stops
        ∙ ap (λ (l : List Decider). Some (record { log = l; end = ending code.tables last.machine end }))
        (append-nil leads.log);
    no_fewer = λ k lt. leads.going k (omega (arith, lt));
  }

-- ---- the loop

-- the step that leads on
step_is : (code : Code) (first later : Stand) → GoesOn code first later
    → (more : List Decider)
    × (step code.tables code.instructions (state_of code first) ≡ Goes more (state_of code later))
step_is code first later goes =
    let on = behind_is (decided code.tables first.machine.log) (decided code.tables later.machine.log)
    (step code.tables code.instructions (state_of code first)) (state_of code later) goes.leads in
    (on.0, on.1)

-- a run that ends is not stuck at its next step
pub going_needs : (code : Code) (place : ℕ) (m : Machine) → EndsFrom code place m
    → step code.tables code.instructions (state_at code.tables place m) ≢ stuck
going_needs code place m ends = not_stuck code (state_at code.tables place m) ends.0 ends.1

-- and ends behind it
pub going_ends : (code : Code) (place later : ℕ) (m n : Machine) → EndsFrom code place m
    → behind (decided code.tables m.log) (step code.tables code.instructions (state_at code.tables place m))
    ≡ Goes (decided code.tables n.log) (state_at code.tables later n)
    → EndsFrom code later n
going_ends code place later m n ends leads =
    let on = behind_is (decided code.tables m.log) (decided code.tables n.log)
    (step code.tables code.instructions (state_at code.tables place m)) (state_at code.tables later n) leads in
    ends_on code (state_at code.tables place m) (state_at code.tables later n) on.0 ends.0 ends.1 on.1

-- the step that ends a run
pub stops_by : (code : Code) (place count counts : ℕ) (first old last : Machine) (led : Stepped) (end : End)
    → led ≡ stepped.Over end
    → old ≡ first
    → Tells code.tables (Ok led) (step code.tables code.instructions (state_at code.tables place old)) old last
    → IsMachine code.tables last → OneMore old.pool last.pool → counts ≡ counted count 1
    → StopsAt code (stand place count first) (stand 0 counts last) end
stops_by code place count counts first old last led end over same told machine pool one =
    let tells : Tells code.tables (Ok (stepped.Over end))
    (step code.tables code.instructions (state_at code.tables place old)) old last
    =
    subst (λ (l : Stepped). Tells code.tables (Ok l)
    (step code.tables code.instructions (state_at code.tables place old)) old last) over told in
    subst (λ (m : Machine). StopsAt code (stand place count m) (stand 0 counts last) end) same
    (record { machine = machine; stops = tells.0; log = tells.1; within = tells.2; count = one; pool = pool })

-- the same code, and so many steps from one machine to another
pub record Driving (code later_code : Code) (first later : Stand) : Type 0 where
  pub same : later_code ≡ code
  pub taken : ℕ
  pub leads : Leads code first later taken

pub drives_itself : (code : Code) (first : Stand) → IsMachine code.tables first.machine
    → first.count ≤ 18446744073709551615
    → Driving code code first first
drives_itself code first is fits = record { same = refl; taken = 0; leads = leads_itself code first is fits }

pub driven_machine : (code later_code : Code) (first later : Stand) → Driving code later_code first later
    → IsMachine later_code.tables later.machine
driven_machine code later_code first later d =
    subst (λ (k : Code). IsMachine k.tables later.machine) (sym d.same) d.leads.machine

pub drives_on : (code later_code next_code : Code) (first later next : Stand) → Driving code later_code first later
    → next_code ≡ later_code
    → GoesOn later_code later next → Driving code next_code first next
drives_on code later_code next_code first later next d same goes = record {
  same = same ∙ d.same;
  taken = d.taken + 1;
  leads = leads_on code first later d.taken d.leads next (subst (λ (k : Code). GoesOn k later next) d.same goes);
}

pub drives_less : (code next_code : Code) (later next : Stand) → next_code ≡ code → GoesOn code later next
    → (x : EndsFrom code later.place later.machine) (y : EndsFrom next_code next.place next.machine) → y.0 < x.0
drives_less code next_code later next same goes x y =
    let here : 1 ≤ ends_in code y.0 (state_of code next)
    = subst (λ (k : Code). 1 ≤ ends_in k y.0 (state_of k next)) same y.1 in
    let on = step_is code later next goes in
    falls code (state_of code later) (state_of code next) on.0 x.0 y.0 on.1 x.1 here

pub drives_end : (code later_code : Code) (first later last : Stand) (e : Result End AllocError)
    → Driving code later_code first later
    → StopsSo later_code later e last → EndsSo code first e last
drives_end code later_code first later last (Ok end) d stops =
    ends_at code first later d.taken d.leads last end (subst (λ (k : Code). StopsAt k later last end) d.same stops)
drives_end code later_code first later last (Err e) d stops =
    extends_on first.machine.pool later.machine.pool last.machine.pool d.leads.pool stops
