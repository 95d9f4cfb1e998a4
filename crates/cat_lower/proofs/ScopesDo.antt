-- All scopes do what they give, each by those that stand before it, and so code gives what its calculus gives.
use Rattle.std.proofs.Common.{◌≡◌, ◌≢◌, ℕ, ◌+◌, Bool, true, false, List, [], ◌∷◌, Option, Some, None, Err, Ok, refl}
use Rattle.std.proofs.Common.{sym, ap, ◌∙◌, subst, slice_get, nat_eq, if◌then◌else◌}
use Rattle.std.proofs.lemmas.Bool.{eqb-true}
use Rattle.cat_value.specs.declared.value.Value.{Value}
use Rattle.cat_value.specs.declared.value.Value.TheViews as value
use Rattle.cat_value.specs.declared.decls.Decls.{Decls}
use Rattle.cat_value.specs.declared.declaration.ItemDecl.{ItemDecl}
use Rattle.cat_value.specs.declared.declaration.Scope.{Scope}
use Rattle.cat_scope.specs.declared.stop.Stop.TheVariants.{Stuck}
use Rattle.cat_scope.specs.Replies.{known}
use Rattle.cat_scope.specs.Runs.{Run, gives, and_then}
use Rattle.cat_scope.specs.Names.{scope_items, items_in}
use Rattle.cat_scope.specs.Calls.{Items, Runs}
use Rattle.cat_scope.specs.Running.{run_by, run_scoped}
use Rattle.cat_scope.proofs.Exported.{and_then_gives}
use Rattle.cat_calc.specs.declared.calcs.CalcScope.{CalcScope}
use Rattle.cat_calc.specs.Calculus.{calc_scoped, run_terms}
use Rattle.cat_code.specs.declared.instr.Instr.{Instr}
use Rattle.cat_code.specs.declared.code.Tables.{Tables}
use Rattle.cat_code.specs.States.{State, Over, at as placed_at, push, started}
use Rattle.cat_code.specs.Moves.{with_part, enters}
use Rattle.cat_code.specs.Places.{case_places}
use Rattle.cat_code.specs.Runs.{Whole, Gives}
use Rattle.cat_lower.specs.Lowered.{standing}
use Rattle.cat_lower.proofs.Comes.{Comes, Leads, goes_on, ends_with, is_stuck, stays_stuck, found, alike}
use Rattle.cat_lower.proofs.ScopeCalls.{RunsAre, parts_of}
use Rattle.cat_lower.proofs.Slots.{AreGivable}
use Rattle.cat_lower.proofs.ScopeTerms.{ScopeSound, ScopeLaid}
use Rattle.cat_lower.proofs.BodiesDo.{body_does}

-- a scope that stands in the code, behind some functions and definitions
pub record ScopeStands (tables : Tables) (code : List Instr) (ds : Decls) (n : ℕ) (scope : Scope)
    (terms : CalcScope) : Type 0 where
  pub functions : ℕ
  pub definitions : ℕ
  pub sound : ScopeSound tables (standing ds n functions definitions scope terms)
  pub laid : ScopeLaid tables code (standing ds n functions definitions scope terms)

same_some : {A : Type 0} (a b : A) (o : Option A) → o ≡ Some a → o ≡ Some b → a ≡ b
same_some a b o is are = let both : Some a ≡ Some b = sym is ∙ are in cc both

module _ (tables : Tables) (code : List Instr) (ds : Decls) (all : List CalcScope) (same : tables.decls ≡ ds)
    (cases : tables.cases ≡ case_places 0 ds.enumerations)
    (stand : (n : ℕ) (scope : Scope) (terms : CalcScope) → slice_get ds.scopes n ≡ Some scope
    → slice_get all n ≡ Some terms
    → ScopeStands tables code ds n scope terms) where
  -- what each scope gives, by what those that it calls give
  abbrev each : ℕ → Runs → Items → Run (List Value)
  each n runs = run_terms ds.scopes runs n (slice_get ds.scopes n) (slice_get all n)

  givable : (m n : ℕ) (scope : Scope) (input : Items) → n ≡ m → slice_get ds.scopes n ≡ Some scope
      → AreGivable (scope_items tables.decls m) input
      → AreGivable scope.items input
  givable m n scope input is there are =
      subst (λ (l : List ItemDecl). AreGivable l input)
      (ap (λ (d : Decls). scope_items d m) same ∙ ap (λ i. scope_items ds i) (sym is) ∙ ap items_in there) are

  -- the scopes of an order do what they give
  runs_do : (before : List ℕ) → RunsAre tables code (run_by each before)
  runs_do [] = record { by = λ m input are s k next. is_stuck tables code _ _ refl }
  runs_do (n ∷ before) = record {
    by = λ m input are s k next.
        pick m input are s k next (nat_eq n m) refl (slice_get ds.scopes n) refl (slice_get all n) refl
        (runs_do before);
  }
    where
      pick : (m : ℕ) (input : Items) → AreGivable (scope_items tables.decls m) input
          → (s : State) (k : List Value → Whole)
          → ((outputs : List Value)
          → Comes tables code (placed_at (s.place + 1) (push (value.Structure outputs) s)) (k outputs))
          → (b : Bool) → nat_eq n m ≡ b → (o : Option Scope) → slice_get ds.scopes n ≡ o → (p : Option CalcScope)
          → slice_get all n ≡ p
          → RunsAre tables code (run_by each before)
          → Leads tables code (with_part (known (slice_get tables.scopes m))
          (λ entry. enters entry (Some s.slots) input [] s))
          (and_then (if b then run_terms ds.scopes (run_by each before) n o p input else run_by each before m input) k)
      pick m input are s k next false is o there p terms_are run = run.by m input are s k next
      pick m input are s k next true is None there p terms_are run = is_stuck tables code _ _ refl
      pick m input are s k next true is (Some scope) there None terms_are run = is_stuck tables code _ _ refl
      pick m input are s k next true is (Some scope) there (Some terms) terms_are run =
          let stands = stand n scope terms there terms_are in
          let e : n ≡ m = eqb-true n m is in
          let scoped = calc_scoped n scope.items terms ds.scopes (run_by each before) in
          subst (λ q. Leads tables code
          (with_part (known (slice_get tables.scopes q)) (λ entry. enters entry (Some s.slots) input [] s))
          (and_then (run_scoped scoped input) k)) e
          (found tables code _ stands.laid.ends.place _ _ stands.laid.entry (goes_on tables code _ _
          (body_does tables code ds n stands.functions stands.definitions scope terms
          (run_by each before) same cases there run stands.sound stands.laid
          input (givable m n scope input e there are)
          (record s { frames = record { slots = Some s.slots; locals = s.locals; back = s.place + 1 } ∷ s.frames })
          k
          (λ outputs p slots. goes_on tables code _ _ (next outputs)))))

  -- a run from the start
  from_start : (before : List ℕ) (m : ℕ) (input : Items) → AreGivable (scope_items tables.decls m) input → (entry : ℕ)
      → slice_get tables.scopes m ≡ Some entry → Comes tables code (started entry input) (run_by each before m input)
  from_start [] m input are entry is = stays_stuck tables code _ _ refl
  from_start (n ∷ before) m input are entry is =
      pick (nat_eq n m) refl (slice_get ds.scopes n) refl (slice_get all n) refl
      (from_start before m input are entry is)
    where
      pick : (b : Bool) → nat_eq n m ≡ b → (o : Option Scope) → slice_get ds.scopes n ≡ o → (p : Option CalcScope)
          → slice_get all n ≡ p
          → Comes tables code (started entry input) (run_by each before m input)
          → Comes tables code (started entry input)
          (if b then run_terms ds.scopes (run_by each before) n o p input else run_by each before m input)
      pick false same_number o there p terms_are again = again
      pick true same_number None there p terms_are again = stays_stuck tables code _ _ refl
      pick true same_number (Some scope) there None terms_are again = stays_stuck tables code _ _ refl
      pick true same_number (Some scope) there (Some terms) terms_are again =
          let stands = stand n scope terms there terms_are in
          let e : n ≡ m = eqb-true n m same_number in
          let scoped = calc_scoped n scope.items terms ds.scopes (run_by each before) in
          let at_entry : entry ≡ stands.laid.ends.place
          = same_some entry stands.laid.ends.place (slice_get tables.scopes m) is
          (ap (λ i. slice_get tables.scopes i) (sym e) ∙ stands.laid.entry) in
          alike tables code _ _ _ (sym (and_then_gives (run_scoped scoped input)))
          (subst (λ p. Comes tables code (started p input)
          (and_then (run_scoped scoped input) (λ outputs. gives outputs))) (sym at_entry)
          (body_does tables code ds n stands.functions stands.definitions scope terms
          (run_by each before) same cases there (runs_do before) stands.sound stands.laid
          input (givable m n scope input e there are) (started stands.laid.ends.place input) (λ outputs. gives outputs)
          (λ outputs p slots. subst (λ r. Leads tables code (Over r) (gives outputs)) (sym (parts_of outputs))
          (ends_with tables code (Ok outputs)))))

  -- the code gives for an input what the scope gives, where that isn't stuck
  pub gives_the_same : (before : List ℕ) (m : ℕ) (input : Items) → AreGivable (scope_items tables.decls m) input
      → (entry : ℕ)
      → slice_get tables.scopes m ≡ Some entry → (run_by each before m input).end ≢ Err Stuck
      → Gives tables code m input (run_by each before m input)
  gives_the_same before m input are entry is ends =
      let met = (from_start before m input are entry is).by ends in
      record { entry = entry; is_entry = is; steps = met.0; ends = met.1 }
