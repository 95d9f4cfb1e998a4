-- The code of a scope does what the scope gives, where the scopes that it calls do.
use Rattle.std.proofs.Common.{◌≡◌, ℕ, zero, suc, ◌+◌, ◌<◌, ◌≤◌, Bool, true, false, List, [], ◌∷◌, length, Option, Some}
use Rattle.std.proofs.Common.{None, Result, Ok, Err, refl, sym, ap, ◌∙◌, subst, slice_get, nat_eq, arith, if◌then◌else◌}
use Rattle.std.proofs.lemmas.Bool.{eq-eqb}
use Rattle.cat_order.specs.Order.{times}
use Rattle.cat_value.specs.declared.value.Value.{Value}
use Rattle.cat_value.specs.declared.value.Value.TheViews as value
use Rattle.cat_value.specs.declared.decls.Decls.{Decls}
use Rattle.cat_value.specs.declared.declaration.ItemDecl.{ItemDecl}
use Rattle.cat_value.specs.declared.declaration.Scope.{Scope}
use Rattle.cat_value.specs.declared.outcome.FaultKind.TheVariants.{AssertionFailed}
use Rattle.cat_value.specs.Inputs.{is_output}
use Rattle.cat_scope.specs.declared.stop.Stop.{Stop}
use Rattle.cat_scope.specs.declared.stop.Stop.TheVariants.{Fault}
use Rattle.cat_scope.specs.declared.expr.Expr.{Expr}
use Rattle.cat_scope.specs.declared.defs.Assertion.{Assertion}
use Rattle.cat_scope.specs.Replies.{known, evaluated, on_one, with_front}
use Rattle.cat_scope.specs.Runs.{Run, plain, stops, and_then}
use Rattle.cat_scope.specs.Projections.{truth}
use Rattle.cat_scope.specs.Names.{AllHave}
use Rattle.cat_scope.specs.Eval.{eval}
use Rattle.cat_scope.specs.Calls.{Items, Runs, Scoped, env_of, call}
use Rattle.cat_scope.specs.ItemValues.{item_value}
use Rattle.cat_scope.specs.Running.{entry_at, with_entry, run_items, no_values, asserted, outputs_of, backwards}
use Rattle.cat_scope.specs.Running.{run_scoped}
use Rattle.cat_scope.proofs.Exported.{and_then_and_then}
use Rattle.cat_calc.specs.declared.calcs.CalcScope.{CalcScope}
use Rattle.cat_calc.specs.Calculus.{calc_scoped}
use Rattle.cat_code.specs.declared.instr.Instr.{Instr}
use Rattle.cat_code.specs.declared.instr.Instr.TheVariants as instr
use Rattle.cat_code.specs.declared.code.Tables.{Tables}
use Rattle.cat_code.specs.States.{State, push}
use Rattle.cat_code.specs.Moves.{pushes, returns}
use Rattle.cat_code.specs.Places.{case_places}
use Rattle.cat_code.specs.Runs.{Whole}
use Rattle.cat_lower.specs.Laying.{Ends, Coded, one, with_position, then_code, led, skip, end_of}
use Rattle.cat_lower.specs.Expressions.{lowered}
use Rattle.cat_lower.specs.Scopes.{ScopeStanding, item_code, items_code, outputs_code, output_count}
use Rattle.cat_lower.specs.Lowered.{assertions_code, standing}
use Rattle.cat_lower.specs.Stands.{Has}
use Rattle.cat_lower.proofs.Places.{first_of, second_of, rest_of}
use Rattle.cat_lower.proofs.Comes.{Comes, Leads, acted, goes_on, ends_with, stays_stuck, found, chosen, alike}
use Rattle.cat_lower.proofs.Stacks.{stacked, popped_all}
use Rattle.cat_lower.proofs.Doing.{Agree, here as located, behind}
use Rattle.cat_lower.proofs.ScopeCalls.{RunsAre}
use Rattle.cat_lower.proofs.Slots.{AreGivable}
use Rattle.cat_lower.proofs.ExpressionsDo.{does}
use Rattle.cat_lower.proofs.ScopeTerms.{AssertionSound, ScopeSound, ScopeLaid}
use Rattle.cat_lower.proofs.ItemSlots.{given_at}
use Rattle.cat_lower.proofs.ItemsDo.{functions_do, listed_does}

module _ (tables : Tables) (code : List Instr) (ds : Decls) (number functions definitions : ℕ) (scope : Scope)
    (terms : CalcScope) (runs : Runs)
    (same : tables.decls ≡ ds) (cases : tables.cases ≡ case_places 0 ds.enumerations)
    (declared : slice_get ds.scopes number ≡ Some scope)
    (runs_are : RunsAre tables code runs)
    (sound : ScopeSound tables (standing ds number functions definitions scope terms))
    (laid : ScopeLaid tables code (standing ds number functions definitions scope terms)) where
  abbrev at : ScopeStanding
  at = standing ds number functions definitions scope terms

  abbrev scoped : Scoped
  scoped = calc_scoped number scope.items terms ds.scopes runs

  -- the slots of items that are left are as they were given
  abbrev Left : Items → Items → List ℕ → Type 0
  Left slots input ns = (m : ℕ) → (times ns m ≡ 0 → ⊥) → slice_get slots m ≡ slice_get input m

  not_again : (n : ℕ) (ns : List ℕ) → times (n ∷ ns) n ≤ 1 → times ns n ≡ 0
  not_again n ns most =
      let same : nat_eq n n ≡ true = eq-eqb n n refl in
      let told : times (n ∷ ns) n ≡ 1 + times ns n = rw same refl in
      omega arith

  fewer : (n m : ℕ) (ns : List ℕ) → times ns m ≤ times (n ∷ ns) m
  fewer n m ns = by (nat_eq n m) refl
    where
      by : (b : Bool) → nat_eq n m ≡ b → times ns m ≤ times (n ∷ ns) m
      by true e = rw e (omega arith)
      by false e = rw e (omega arith)

  listed_first : (n : ℕ) (ns : List ℕ) → times (n ∷ ns) n ≡ 0 → ⊥
  listed_first n ns none =
      let same : nat_eq n n ≡ true = eq-eqb n n refl in
      let told : times (n ∷ ns) n ≡ 1 + times ns n = rw same refl in
      omega arith

  -- the items that are left fill their slots
  items_do : (input : Items) → AreGivable scope.items input → (ns : List ℕ)
      → ((m : ℕ) → m < length scope.items → times ns m ≤ 1)
      → AllHave (λ m. m < length scope.items) ns → (before : List ℕ) (values : Items) (ends : Ends)
      → Has tables code ends (items_code at ns ends)
      → (s : State) → Agree s.slots values → Left s.slots input ns → (k : Items → Whole)
      → ((done slots : Items) → Agree slots done
      → Comes tables code (located (end_of (items_code at ns) ends).place [] (record s { slots = slots })) (k done))
      → Comes tables code (located ends.place [] s) (and_then (run_items scoped input before values ns) k)
  items_do input are [] once below before values ends has s agree left k next = next values s.slots agree
  items_do input are (n ∷ ns) once below before values ends has s agree left k next =
      let first : Coded = item_code at n (slice_get scope.items n) in
      let rest : Coded = items_code at ns in
      let given = given_at scope.items input are n below.0 in
      let out = not_again n ns (once n below.0) in
      alike tables code _ _ _ (and_then_and_then
      (item_value scoped before values n (entry_at n input) (slice_get scope.items n)) _ k)
      (listed_does tables code ds number functions definitions scope terms runs same cases declared runs_are sound laid
      values before n (slice_get scope.items n) refl (entry_at n input) given.1 ends
      (first_of tables code first rest ends has) s agree
      (left n (listed_first n ns) ∙ given.0)
      (λ v. and_then (run_items scoped input (n ∷ before) (with_entry n v values) ns) k)
      (λ v slots after. items_do input are ns
      (λ m less. let f = fewer n m ns in let o = once m less in omega arith) below.1 (n ∷ before)
      (with_entry n v values) (end_of first ends)
      (second_of tables code first rest ends has) (record s { slots = slots }) after.agree
      (λ m listed. after.left m (λ e. listed (ap (λ i. times ns i) e ∙ out))
      ∙ left m (λ e. let f = fewer n m ns in listed (omega arith))) k
      (λ done slots' agreed. behind tables code values {A = Unit {0}} first rest ends []
      (λ u. record s { slots = slots' }) (λ u. k done) (λ u. next done slots' agreed) tt)))

  -- assertions in their order
  assertions_do : (values : Items) (before : List ℕ) (left : List Assertion)
      → AllHave (AssertionSound at.here.names) left → (ends : Ends)
      → Has tables code ends (assertions_code at.here left ends) → (s : State) → Agree s.slots values
      → (last : Whole) (k : List Value → Whole)
      → Comes tables code (located (end_of (assertions_code at.here left) ends).place [] s) (and_then last k)
      → Comes tables code (located ends.place [] s)
      (and_then (asserted (λ e. eval (env_of scoped (call scoped values before) values) e []) left last) k)
  assertions_do values before [] sounds ends has s agree last k next = next
  assertions_do values before (a ∷ left) sounds ends has s agree last k next =
      let value : Expr → Run Value = λ e. eval (env_of scoped (call scoped values before) values) e [] in
      let condition : Coded = (lowered at.here a.condition).code [] None in
      let assert : Coded = with_position (λ p. instr.Assert p) a.keyword in
      let more : Coded = assertions_code at.here left in
      let rest : Coded = then_code assert more in
      let e1 = end_of condition ends in
      let e2 = end_of assert e1 in
      let inner = second_of tables code condition rest ends has in
      let done = behind tables code values {A = Unit {0}} assert more e1 [] (λ u. s) (λ u. and_then last k)
      (behind tables code values {A = Unit {0}} condition rest ends [] (λ u. s) (λ u. and_then last k) (λ u. next)) in
      alike tables code _ _ _ (and_then_and_then (value a.condition) _ k)
      (does tables code values at.here scoped (call scoped values before) same cases refl refl
      (functions_do tables code ds number functions definitions scope terms runs same cases declared runs_are sound
      laid values before) runs_are sounds.0.typed None tt sounds.0.placed
      ends (first_of tables code condition rest ends has) [] refl s agree _
      (λ v. acted tables code _ (instr.Assert e1.positions) _ inner.instructions.0
      (found tables code _ _ _ _ inner.positions.0
      (chosen tables code (truth v) _ _ (asserted value left last) (stops (Fault AssertionFailed a.keyword)) k
      (goes_on tables code _ _
      (assertions_do values before left sounds.1 e2 (second_of tables code assert more e1 inner) s agree last k
      (done tt)))
      (ends_with tables code (Err (Fault AssertionFailed a.keyword)))))))

  abbrev writing : ℕ → List ItemDecl → Bool → Coded
  writing j items b = if b then led (instr.Slot j) (outputs_code (j + 1) items) else outputs_code (j + 1) items

  -- the values of the outputs among the items from number j on
  outputs_do : (whole : Items) (items : List ItemDecl) (j : ℕ) (values : Items)
      → ((m : ℕ) → slice_get whole (j + m) ≡ slice_get values m)
      → (ends : Ends) → Has tables code ends (outputs_code j items ends) → (s : State) → Agree s.slots whole
      → (k : List Value → Whole)
      → ((vs : List Value) → length vs ≡ output_count items
      → Comes tables code (located (end_of (outputs_code j items) ends).place []
      (record s { operands = stacked s.operands vs })) (k vs))
      → Comes tables code (located ends.place [] s) (and_then (plain (outputs_of items values)) k)
  outputs_do whole [] j values there ends has s agree k next = next [] refl
  outputs_do whole (item ∷ items) j [] there ends has s agree k next = stays_stuck tables code _ _ refl
  outputs_do whole (item ∷ items) j (x ∷ values) there ends has s agree k next =
      by (is_output item.kind) has next
      (λ ends has s agree k next. outputs_do whole items (j + 1) values
      (λ m. let i : j + suc m ≡ (j + 1) + m = omega arith in ap (λ i. slice_get whole i) (sym i) ∙ there (suc m))
      ends has s agree k next)
      x (let i : j + 0 ≡ j = omega arith in ap (λ i. slice_get whole i) (sym i) ∙ there 0)
    where
      by : (b : Bool) → Has tables code ends (writing j items b ends)
          → ((vs : List Value) → length vs ≡ (if b then 1 + output_count items else output_count items)
          → Comes tables code (located (end_of (writing j items b) ends).place []
          (record s { operands = stacked s.operands vs })) (k vs))
          → ((ends : Ends) → Has tables code ends (outputs_code (j + 1) items ends) → (s : State) → Agree s.slots whole
          → (k : List Value → Whole)
          → ((vs : List Value) → length vs ≡ output_count items
          → Comes tables code (located (end_of (outputs_code (j + 1) items) ends).place []
          (record s { operands = stacked s.operands vs })) (k vs))
          → Comes tables code (located ends.place [] s) (and_then (plain (outputs_of items values)) k))
          → (x : Option Value) → slice_get whole j ≡ Some x
          → Comes tables code (located ends.place [] s)
          (and_then (plain (if b then with_front (known x) (outputs_of items values) else outputs_of items values))
          k)
      by false has next again x is = again ends has s agree k next
      by true has next again None is = stays_stuck tables code _ _ refl
      by true has next again (Some v) is =
          acted tables code _ (instr.Slot j) _ has.instructions.0
          (subst (λ o. Leads tables code (pushes (evaluated o) (located ends.place [] s))
          (and_then (plain (with_front (Ok v) (outputs_of items values))) k)) (sym (agree.by j v is))
          (goes_on tables code _ _ (alike tables code _ _ _ (joins (outputs_of items values))
          (again (skip ends) (rest_of tables code (instr.Slot j) (outputs_code (j + 1) items) ends has) (push v s) agree
          (λ vs. k (v ∷ vs))
          (λ vs e. next (v ∷ vs) (omega arith))))))
        where
          joins : (r : Result (List Value) Stop)
              → and_then (plain (on_one r (λ vs. Ok (v ∷ vs)))) k ≡ and_then (plain r) (λ vs. k (v ∷ vs))
          joins (Ok vs) = refl
          joins (Err stop) = refl

  agree_none : (items : List ItemDecl) (slots : Items) → Agree slots (no_values items)
  agree_none items slots = record { by = λ m v h. absurd (by items m v h) }
    where
      by : (items : List ItemDecl) (m : ℕ) (v : Value) → slice_get (no_values items) m ≡ Some (Some v) → ⊥
      by [] m v h = cc h
      by (item ∷ items) zero v h = cc h
      by (item ∷ items) (suc m) v h = by items m v h

  zero_in_front : (m : ℕ) → 0 + m ≡ m
  zero_in_front m = omega arith

  -- what stands behind the functions of a scope comes to its outputs, which its frame returns
  pub body_does : (input : Items) → AreGivable scope.items input → (s : State) (k : List Value → Whole)
      → ((outputs : List Value) (p : ℕ) (slots : Items)
      → Leads tables code (returns s.frames
      (located p [] (push (value.Structure outputs) (record s { slots = slots })))) (k outputs))
      → Comes tables code (located laid.ends.place [] (record s { slots = input }))
      (and_then (run_scoped scoped input) k)
  body_does input are s k next =
      let items : Coded = items_code at terms.order in
      let asserts : Coded = assertions_code at.here terms.assertions in
      let outputs : Coded = outputs_code 0 scope.items in
      let tail : Coded = led (instr.Pack (output_count scope.items)) (one instr.Return) in
      let behind_asserts : Coded = then_code outputs tail in
      let behind_items : Coded = then_code asserts behind_asserts in
      let e0 = laid.ends in
      let e1 = end_of items e0 in
      let e2 = end_of asserts e1 in
      let e3 = end_of outputs e2 in
      let has1 = second_of tables code items behind_items e0 laid.body in
      let has2 = second_of tables code asserts behind_asserts e1 has1 in
      let last = second_of tables code outputs tail e2 has2 in
      alike tables code _ _ _ (and_then_and_then (run_items scoped input [] (no_values scope.items) terms.order) _ k)
      (items_do input are terms.order (λ m less. let o = sound.once m less in omega arith) sound.below []
      (no_values scope.items) e0
      (first_of tables code items behind_items e0 laid.body) (record s { slots = input }) (agree_none scope.items input)
      (λ m listed. refl) _
      (λ done slots agree. assertions_do done (backwards terms.order) terms.assertions sound.assertions e1
      (first_of tables code asserts behind_asserts e1 has1)
      (record s { slots = slots }) agree (plain (outputs_of scope.items done)) k
      (outputs_do done scope.items 0 done (λ m. ap (λ i. slice_get done i) (zero_in_front m)) e2
      (first_of tables code outputs tail e2 has2) (record s { slots = slots }) agree k
      (λ vs e. acted tables code _ (instr.Pack (output_count scope.items)) _ last.instructions.0
      (subst (λ x. Leads tables code x (k vs)) (sym (popped_all (output_count scope.items) vs s.operands _ _ e))
      (goes_on tables code _ _
      (acted tables code _ instr.Return _ last.instructions.1.0 (next vs (e3.place + 1) slots))))))))
