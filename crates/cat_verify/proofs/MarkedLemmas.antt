-- What marks with the numbers of owners tell, where no instruction belongs to several.
use Rattle.std.proofs.Common.{◌≡◌, ◌<◌, ◌+◌, ◌⊎◌, ℕ, true, List, [], ◌∷◌}
use Rattle.std.proofs.Common.{◌++◌, length, get_or, Option, Some, None, refl, sym, ap, ◌∙◌, subst, inl, inr, arith}
use Rattle.std.proofs.lemmas.Option.{get_or_from_slice_get, slice_get-get_or}
use Rattle.std.proofs.lemmas.Bool.{cases_lt}
use Rattle.std.proofs.lemmas.Bool.Decides.{nat_tests}
use Rattle.std.proofs.Math.Logic.{⊎_elim}
use Rattle.std.specs.Prelude.{slice_get, nat_lt, option_map}
use Rattle.cat_order.specs.Order.{is_listed}
use Rattle.cat_order.specs.Cycle.{DependsOn, IsPath, IsOnCycle}
use Rattle.cat_value.proofs.Exported.{list_all_at}
use Rattle.cat_scope.specs.Names.{IsOneOf}
use Rattle.cat_code.specs.declared.instr.Instr.{Instr}
use Rattle.cat_code.specs.declared.instr.Instr.TheVariants as instr
use Rattle.cat_code.specs.declared.code.Tables.{Tables}
use Rattle.cat_code.specs.Jumps.{is_within, called_by}
use Rattle.cat_code.specs.Shapes.{Owner}
use Rattle.cat_verify_tables.specs.declared.places.FunctionPlace.{FunctionPlace}
use Rattle.cat_depend.specs.CycleWays.{IsNextOnCycle}
use Rattle.cat_verify_shapes.specs.Belonging.{Belongs, Calls, function_owner, called_in, MayRun, called as called_runs}
use Rattle.cat_verify_shapes.specs.Belonging.{MayComeTo}
use Rattle.cat_verify.specs.declared.stamps.Arrival.{Arrival}
use Rattle.cat_verify.specs.declared.stamps.Stamps.{Stamps}
use Rattle.cat_verify.specs.declared.stamps.Stamps.TheVariants.{Nobody, One, Two}
use Rattle.cat_verify.specs.WrongCode.{LeadOn, CallsItself, call, chain}
use Rattle.cat_verify.specs.inside.Stamped.{ComesTo, Tells, AreStamps}
use Rattle.cat_verify.specs.inside.Starts.{scope_starts, function_starts, number_of}
use Rattle.cat_verify.specs.inside.CallNumbers.{called_number, with_caller, call_number}
use Rattle.cat_verify.specs.inside.CallNumbers.{calls_in, IsCallPlace, AreCallers}
use Rattle.cat_verify.specs.inside.OwnerNumbers.{NoneShared}
use Rattle.cat_verify.specs.inside.Orderly.{IsOrderly, AreCallsHome}
use Rattle.cat_verify.proofs.OneOf.{within_of, at_within, same_some}
use Rattle.cat_verify.proofs.StartLemmas as start
use Rattle.cat_verify.proofs.BelongLemmas.{comes_of, owner_of_stamp, begins_of, FromLast, from_last}
use Rattle.cat_verify.proofs.MemberLemmas.{member, listed_of, of_listed, in_calls, call_at, bucket_of, member_of}

-- ---- ways

path_push : (deps : List (List ℕ)) (path : List ℕ) (from via to : ℕ) → IsPath deps from path via
    → DependsOn deps via to → IsPath deps from (path ++ via ∷ []) to
path_push deps [] from via to goes on = (goes, on)
path_push deps (first ∷ path) from via to goes on = (goes.0, path_push deps path first via to goes.1 on)

lead_push : (tables : Tables) (code : List Instr) (s t u : Owner) → LeadOn tables code s t → (k : ℕ)
    → Calls tables code k t u → LeadOn tables code s u
lead_push tables code s t u (call k one) j more = chain k one (call j more)
lead_push tables code s t u (chain {b} k one rest) j more = chain k one (lead_push tables code b t u rest j more)

-- a call in the code of an owner to which a run may come
pub record MayCall (tables : Tables) (code : List Instr) (k : ℕ) (x y : Owner) : Type 0 where
  pub may_run : MayRun tables code x
  pub call : Calls tables code k x y

-- ---- code whose instructions belong to one owner each

module _ (tables : Tables) (code : List Instr) (functions : List FunctionPlace) (marks : List Stamps)
    (orderly : IsOrderly tables code functions) (home : AreCallsHome tables code)
    (are : AreStamps code (scope_starts tables) (function_starts tables) marks) (single : NoneShared marks) where
  abbrev owner : ℕ → Owner
  owner n = start.owner_here tables functions orderly.declared orderly.one_each n

  abbrev scopes : ℕ
  scopes = length tables.scopes

  abbrev entries : List Arrival
  entries = scope_starts tables

  abbrev sent : List Arrival
  sent = function_starts tables

  starts : start.AreStarts tables (number_of tables) entries sent
  starts = start.starts_numbered tables functions orderly.declared orderly.one_each

  pub mark_of : (o : Owner) (p : ℕ) → MayComeTo tables code o p → p < length code
      → slice_get marks p ≡ Some (One (number_of tables o))
  mark_of o p b within =
      let at = at_within marks p (omega (arith, within, are.one_each)) in by at.0 at.1 (are.tell p at.0 at.1)
    where
      comes : ComesTo code entries sent (number_of tables o) p
      comes = comes_of tables code (number_of tables) entries sent starts o p b

      by : (m : Stamps) → slice_get marks p ≡ Some m → Tells code entries sent p m
          → slice_get marks p ≡ Some (One (number_of tables o))
      by Nobody e t = absurd (t (number_of tables o) comes)
      by (One a) e t = e ∙ ap (λ (n : ℕ). Some (One n)) (sym (t.1 (number_of tables o) comes))
      by (Two a c) e t = absurd (single p (Two a c, e, refl))

  pub back : (o : Owner) (p : ℕ) → Belongs tables code o p → owner (number_of tables o) ≡ o
  back o p b =
      let from = begins_of tables code o p b in
      start.owner_back tables functions orderly.declared orderly.one_each o from.0 from.1

  pub comes_by : (p a : ℕ) → slice_get marks p ≡ Some (One a) → MayComeTo tables code (owner a) p
  comes_by p a e =
      let t = are.tell p (One a) e in
      let from = owner_of_stamp tables code (number_of tables) entries sent starts a p t.0 in
      subst (λ (o : Owner). MayComeTo tables code o p)
      (sym (back from.0 p from.1.belongs) ∙ ap owner from.2) from.1

  apart_within : (p : ℕ) (one other : Owner) → p < length code → MayComeTo tables code one p
      → MayComeTo tables code other p → one ≡ other
  apart_within p one other within b c =
      let same : number_of tables one ≡ number_of tables other =
      equal (sym (mark_of one p b within) ∙ mark_of other p c within) in
      sym (back one p b.belongs) ∙ ap owner same ∙ back other p c.belongs
    where
      stamp : Option Stamps → ℕ
      stamp (Some (One a)) = a
      stamp _ = 0

      equal : Some (One (number_of tables one)) ≡ Some (One (number_of tables other))
          → number_of tables one ≡ number_of tables other
      equal e = ap stamp e

  pub apart : (p : ℕ) (one other : Owner) → MayComeTo tables code one p → MayComeTo tables code other p → one ≡ other
  apart p one other b c = ⊎_elim
      (λ within. apart_within p one other within b c)
      (λ past. by (from_last tables code orderly.good one p b.belongs past)
      (from_last tables code orderly.good other p c.belongs past))
      (cases_lt p (length code))
    where
      by : FromLast tables code one p → FromLast tables code other p → one ≡ other
      by f g =
          let same : g.last ≡ f.last = omega (arith, f.behind, g.behind) in
          apart_within f.last one other f.within (record { may_run = b.may_run; belongs = f.belongs })
          (record { may_run = c.may_run; belongs = subst (Belongs tables code other) same g.belongs })

  -- ---- calls and their numbers

  called_here : (p a b : ℕ) (i : Instr) → MayComeTo tables code (owner a) p → slice_get code p ≡ Some i
      → called_number scopes i ≡ Some b → called_by (owner a) i ≡ Some (owner b)
  called_here p a b (instr.Scope n) comes at h =
      let inside : nat_lt n scopes ≡ true =
      list_all_at (is_within tables (length code)) code p (instr.Scope n) orderly.good.numbers at in
      let same : n ≡ b = cc h in
      ap Some (sym (start.scope_here tables functions orderly.declared orderly.one_each n
      (grind (arith, nat_tests, inside))) ∙ ap owner same)
  called_here p a b (instr.Call f count) comes at h =
      let same : scopes + f ≡ b = cc h in
      ap Some (sym (start.function_here tables functions orderly.declared orderly.one_each (owner a).scope f
      (home p f count (owner a) comes at)) ∙ ap owner same)
  called_here p a b _ comes at h = absurd (cc h)

  pub calls_here : (k a b : ℕ) → IsCallPlace tables code marks a b k → MayCall tables code k (owner a) (owner b)
  calls_here k a b is = by (get_or marks k Nobody) refl is.call
    where
      i : Instr
      i = is.instruction

      by : (m : Stamps) → get_or marks k Nobody ≡ m → call_number scopes m i ≡ Some (member b a)
          → MayCall tables code k (owner a) (owner b)
      by Nobody em h = absurd (cc h)
      by (Two c d) em h = absurd (cc h)
      by (One c) em h = numbers (called_number scopes i) refl h
        where
          numbers : (n : Option ℕ) → called_number scopes i ≡ n → with_caller c n ≡ Some (member b a)
              → MayCall tables code k (owner a) (owner b)
          numbers None e h = absurd (cc h)
          numbers (Some d) e h =
              let caller : c ≡ a = ap member_of h in
              let called : d ≡ b = ap bucket_of h in
              let within : k < length code = within_of code k i is.instruction_is in
              let comes = comes_by k a (slice_get-get_or marks k Nobody (omega (arith, within, are.one_each))
              ∙ ap Some (em ∙ ap One caller)) in
              record {
                may_run = comes.may_run;
                call = record {
                  belongs = comes.belongs;
                  instruction = i;
                  instruction_is = is.instruction_is;
                  calls = called_here k a b i comes is.instruction_is (e ∙ ap Some called);
                };
              }

  abbrev number_some : Option Owner → Option ℕ
  number_some None = None
  number_some (Some o) = Some (number_of tables o)

  called_number_is : (x y : Owner) (i : Instr) → called_by x i ≡ Some y
      → called_number scopes i ≡ Some (number_of tables y)
  called_number_is x y (instr.Scope n) h = ap number_some h
  called_number_is x y (instr.Call f count) h = ap number_some h
  called_number_is x y _ h = absurd (cc h)

  pub among_calls : (k : ℕ) (x y : Owner) → MayRun tables code x → Calls tables code k x y
      → IsOneOf (member (number_of tables y) (number_of tables x)) (calls_in tables code marks)
  among_calls k x y run calls =
      let within = within_of code k calls.instruction calls.instruction_is in
      let mark : get_or marks (0 + k) Nobody ≡ One (number_of tables x) =
      get_or_from_slice_get marks (0 + k) (One (number_of tables x)) Nobody
      (subst (λ (n : ℕ). slice_get marks n ≡ Some (One (number_of tables x))) (omega arith)
      (mark_of x k (record { may_run = run; belongs = calls.belongs }) within)) in
      in_calls scopes marks 0 code k calls.instruction (member (number_of tables y) (number_of tables x))
      calls.instruction_is
      (ap (λ (m : Stamps). call_number scopes m calls.instruction) mark
      ∙ ap (with_caller (number_of tables x)) (called_number_is x y calls.instruction calls.calls))

  -- what is called is the owner of a number
  pub called_back : (k : ℕ) (x y : Owner) → MayRun tables code x → Calls tables code k x y
      → owner (number_of tables y) ≡ y
  called_back k x y run calls =
      let caller = back x k calls.belongs in
      let comes : MayComeTo tables code x k = record { may_run = run; belongs = calls.belongs } in
      let is = called_here k (number_of tables x) (number_of tables y) calls.instruction
      (subst (λ (o : Owner). MayComeTo tables code o k) (sym caller) comes) calls.instruction_is
      (called_number_is x y calls.instruction calls.calls) in
      same_some (called_by x calls.instruction) y (owner (number_of tables y)) calls.calls
      (ap (λ (o : Owner). called_by o calls.instruction) (sym caller) ∙ is)

  called_below : (p b : ℕ) (i : Instr) → slice_get code p ≡ Some i → called_number scopes i ≡ Some b
      → b < scopes + length tables.functions
  called_below p b (instr.Scope n) at h =
      let inside : nat_lt n scopes ≡ true =
      list_all_at (is_within tables (length code)) code p (instr.Scope n) orderly.good.numbers at in
      let same : n ≡ b = cc h in
      let below : n < scopes = grind (arith, nat_tests, inside) in
      omega (arith, same, below)
  called_below p b (instr.Call f count) at h =
      let inside : nat_lt f (length tables.functions) ≡ true =
      list_all_at (is_within tables (length code)) code p (instr.Call f count) orderly.good.numbers at in
      let same : scopes + f ≡ b = cc h in
      let below : f < length tables.functions = grind (arith, nat_tests, inside) in
      omega (arith, same, below)
  called_below p b _ at h = absurd (cc h)

  pub called_within : (k : ℕ) (x y : Owner) → Calls tables code k x y
      → number_of tables y < scopes + length tables.functions
  called_within k x y calls =
      called_below k (number_of tables y) calls.instruction calls.instruction_is
      (called_number_is x y calls.instruction calls.calls)

  -- a run may come to what is called
  pub run_on : (k : ℕ) (x y : Owner) → MayRun tables code x → Calls tables code k x y → MayRun tables code y
  run_on k x y run calls = called_runs calls.instruction run calls.belongs calls.instruction_is
      (by calls.instruction calls.instruction_is calls.calls)
    where
      by : (i : Instr) → slice_get code k ≡ Some i → called_by x i ≡ Some y → called_in tables i ≡ Some y
      by (instr.Scope n) at is = is
      by (instr.Call f count) at is =
          let own = home k f count x (record { may_run = run; belongs = calls.belongs }) at in
          ap (option_map (function_owner f)) own.place_is
          ∙ ap (λ (n : ℕ). Some (start.a_function n f)) own.scope_is ∙ is
      by _ at is = absurd (cc is)

  -- ---- chains of calls

  module _ (callers : List (List ℕ)) (bucket : AreCallers tables code marks callers) where
    pub depends_of : (k : ℕ) (x y : Owner) → MayRun tables code x → Calls tables code k x y
        → DependsOn callers (number_of tables y) (number_of tables x)
    depends_of k x y run calls =
        ap (λ (ns : List ℕ). is_listed ns (number_of tables x)) (bucket.numbers (number_of tables y))
        ∙ listed_of (number_of tables y) (number_of tables x) (calls_in tables code marks) (among_calls k x y run calls)

    pub called_of : (b a : ℕ) → DependsOn callers b a → IsOneOf (member b a) (calls_in tables code marks)
    called_of b a on = of_listed b a (calls_in tables code marks)
        (ap (λ (ns : List ℕ). is_listed ns a) (sym (bucket.numbers b)) ∙ on)

    calls_of : (b a : ℕ) → DependsOn callers b a → (k : ℕ) × Calls tables code k (owner a) (owner b)
    calls_of b a on =
        let at = call_at scopes marks 0 code (member b a) (called_of b a on) in
        let here : 0 + at.place ≡ at.place = omega arith in (
          at.place,
          (calls_here at.place a b (record {
            instruction = at.instruction;
            instruction_is = at.instruction_is;
            call = subst (λ (n : ℕ). call_number scopes (get_or marks n Nobody) at.instruction ≡ Some (member b a)) here
                at.call_is;
          })).call,
        )

    lead_of_path : (n : ℕ) (path : List ℕ) (m : ℕ) → IsPath callers n path m
        → LeadOn tables code (owner m) (owner n)
    lead_of_path n [] m on = let from = calls_of n m on in call from.0 from.1
    lead_of_path n (via ∷ path) m on =
        let from = calls_of n via on.0 in
        lead_push tables code (owner m) (owner via) (owner n) (lead_of_path via path m on.1) from.0 from.1

    path_of_lead : (x y : Owner) → MayRun tables code x → LeadOn tables code x y
        → (path : List ℕ) × IsPath callers (number_of tables y) path (number_of tables x)
    path_of_lead x y run (call k calls) = ([], depends_of k x y run calls)
    path_of_lead x y run (chain {b} k calls rest) =
        let from = path_of_lead b y (run_on k x b run calls) rest in (
          from.0 ++ number_of tables b ∷ [],
          path_push callers from.0 (number_of tables y) (number_of tables b)
              (number_of tables x) from.1 (depends_of k x b run calls),
        )

    pub none_round : ((item : ℕ) → IsOnCycle callers item → ⊥) → (k : ℕ) → CallsItself tables code k → ⊥
    unfolding IsOnCycle
    none_round none k round = by round.back
      where
        by : (round.called ≡ round.caller) ⊎ LeadOn tables code round.called round.caller → ⊥
        by (inl same) = none (number_of tables round.caller) (
          [],
          subst (λ (o : Owner). DependsOn callers (number_of tables o) (number_of tables round.caller)) same
              (depends_of k round.caller round.called round.may_run round.call),
        )
        by (inr leads) =
            let from = path_of_lead round.called round.caller
            (run_on k round.caller round.called round.may_run round.call) leads in
            none (number_of tables round.called) (
              number_of tables round.caller ∷ from.0,
              (depends_of k round.caller round.called round.may_run round.call, from.1),
            )

    pub round_of : (k : ℕ) (caller called : ℕ) → IsCallPlace tables code marks caller called k
        → IsNextOnCycle callers called caller → CallsItself tables code k
    round_of k caller called place next = record {
      caller = owner caller;
      called = owner called;
      may_run = (calls_here k caller called place).may_run;
      call = (calls_here k caller called place).call;
      back = by next.1;
    }
      where
        by : (caller ≡ called) ⊎ ((path : List ℕ) × IsPath callers caller path called)
            → (owner called ≡ owner caller) ⊎ LeadOn tables code (owner called) (owner caller)
        by (inl same) = inl (ap owner (sym same))
        by (inr way) = inr (lead_of_path caller way.0 called way.1)
