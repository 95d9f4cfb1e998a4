-- The code of a target pushes its value, and logs it where it is no function.
use Rattle.std.proofs.Common.{◌≡◌, ℕ, ◌+◌, Bool, true, false, List, [], ◌++◌, length, Option, Some, None}
use Rattle.std.proofs.Common.{Ok, Err, refl, sym, ap, ◌∙◌, subst, slice_get}
use Rattle.cat_value.specs.declared.ty.Ty.{Ty}
use Rattle.cat_value.specs.declared.ty.Ty.TheVariants as ty
use Rattle.cat_value.specs.declared.value.Value.{Value}
use Rattle.cat_value.specs.declared.value.Value.TheVariants as flat
use Rattle.cat_value.specs.declared.outcome.Target.{Target}
use Rattle.cat_scope.specs.declared.stop.Stop.TheVariants.{NoValue}
use Rattle.cat_scope.specs.declared.expr.Expr.{Expr}
use Rattle.cat_scope.specs.Runs.{Decider, Run, plain, and_then, giving}
use Rattle.cat_scope.specs.Judging.{Held, Judged, decided}
use Rattle.cat_scope.specs.Targets.{absent, value_or}
use Rattle.cat_scope.specs.Names.{AllHave}
use Rattle.cat_scope.specs.Calls.{Items}
use Rattle.cat_scope.specs.Running.{with_entry}
use Rattle.cat_scope.proofs.Exported.{and_then_and_then, and_then_gives}
use Rattle.cat_calc.specs.declared.term.DefaultTerm.{DefaultTerm}
use Rattle.cat_calc.specs.Terms.{conditions_in, consequences_in}
use Rattle.cat_calc.specs.Reducing.{reduced_or}
use Rattle.cat_code.specs.declared.instr.Instr.{Instr}
use Rattle.cat_code.specs.declared.instr.Instr.TheVariants as instr
use Rattle.cat_code.specs.declared.code.TargetEntry.{TargetEntry}
use Rattle.cat_code.specs.declared.code.Tables.{Tables}
use Rattle.cat_code.specs.States.{State, Goes, push}
use Rattle.cat_code.specs.Logged.{is_function_target, unless_function, logged_of, logged}
use Rattle.cat_code.specs.Runs.{Whole}
use Rattle.cat_lower.specs.Laying.{Ends, Coded, entry, nothing, one, then_code, skip, end_of, over, branch, targeted}
use Rattle.cat_lower.specs.Rows.{Standing}
use Rattle.cat_lower.specs.Terms.{TermStanding, term_code, judged_code, without_value, target_code}
use Rattle.cat_lower.specs.Stands.{Has}
use Rattle.cat_lower.proofs.Places.{first_of, second_of, rest_of}
use Rattle.cat_lower.proofs.Comes.{Comes, Leads, acted, goes_on, goes_logging, ends_with, found, alike}
use Rattle.cat_lower.proofs.Doing.{Agree, here as located, behind, does_constant}
use Rattle.cat_lower.proofs.Adding.{DoesAt, passes}
use Rattle.cat_lower.proofs.AddedHeld.{renumbered, entries, framed, tested}
use Rattle.cat_lower.proofs.AddingTerms.{C, V, of_term}
use Rattle.cat_lower.proofs.ScopeCalls.{pending}

-- a context of a called scope is passed, where it has a value
abbrev pub passed_or : ℕ → Option (Held Value) → Items → Items
passed_or n None q = q
passed_or n (Some h) q = with_entry n (Some h.value) q

module _ (tables : Tables) (code : List Instr) (items : Items) (locals : List Value) (here : Standing) (types : List Ty)
    (value : Expr → Run Value) where
  abbrev base : ℕ
  base = here.definitions

  -- where a term of a target stands
  abbrev pub standing_at : ℕ → Ty → TermStanding
  standing_at v type = record { here = here; target = v; type = type; locals = types }

  -- the expressions of a term do what they mean
  pub record TermDoes (v : ℕ) (type : Ty) (target : TargetEntry) (there : slice_get tables.targets v ≡ Some target)
      (term : DefaultTerm) : Type 0 where
    pub conditions : AllHave (C tables code items locals (standing_at v type) target there value) (conditions_in term)
    pub consequences : AllHave (V tables code items locals (standing_at v type) target there value)
        (consequences_in term)

  -- those of a term that may be missing
  abbrev pub IsDoing : Ty → TargetEntry → Option DefaultTerm → Type 0
  IsDoing type target None = Unit {0}
  IsDoing type target (Some term) =
      (v : ℕ) (there : slice_get tables.targets v ≡ Some target) → TermDoes v type target there term

  -- a frame has what a target comes to
  judged_does : (type : Ty) (target : TargetEntry) (term : Option DefaultTerm) → IsDoing type target term → (v : ℕ)
      → slice_get tables.targets v ≡ Some target
      → (ends : Ends) → Has tables code ends (judged_code (standing_at v type) term ends) → (s : State)
      → Agree s.slots items → (k : Option (Held Value) → Whole)
      → ((o : Option (Held Value))
      → Comes tables code (located (end_of (judged_code (standing_at v type) term) ends).place locals
      (framed (tested v (entries base o)) s)) (k o))
      → Comes tables code (located ends.place locals s) (and_then (reduced_or value target.target term) k)
  judged_does type target None doing v there ends has s agree k next =
      acted tables code _ (instr.Begin v) _ has.instructions.0 (goes_on tables code _ _
      (passes tables code items locals base v target there (ends.place + 1) s
      (record { checked = None; held = [] }) refl None
      has.instructions.1.0 (k None) (next None)))
  judged_does type target (Some term) doing v there ends has s agree k next =
      let at = standing_at v type in
      let check : Coded = one (instr.Check v) in
      let inner = rest_of tables code (instr.Begin v) (then_code (term_code at term) check) ends has in
      let last = second_of tables code (term_code at term) check (skip ends) inner in
      let done =
      behind tables code items (term_code at term) check (skip ends) locals
      (λ o. framed (tested v (entries base o)) s) k next in
      let does = doing v there in
      acted tables code _ (instr.Begin v) _ has.instructions.0 (goes_on tables code _ _
      (of_term tables code items locals at target there value term does.conditions does.consequences (skip ends)
      (first_of tables code (term_code at term) check (skip ends) inner) s
      (record { checked = None; held = [] }) agree k
      (λ o. passes tables code items locals base v target there (end_of (term_code at term) (skip ends)).place s
      (record { checked = None; held = [] }) refl o
      last.instructions.0 (k o) (done o))))

  -- what is logged where the frame of a target ends
  abbrev noted : Bool → TargetEntry → Option (Held Value) → Judged Value
  noted function target o = record { log = unless_function function target.target o; end = Ok o }

  abbrev function_of : TargetEntry → Bool
  function_of target = is_function_target tables.decls target.target target.target.inner

  -- a judging that is logged unless it is a function's
  abbrev pub logs : Bool → Target → Judged Value → Judged Value
  logs true target judged = judged
  logs false target judged = decided target judged

  logs_is : (function : Bool) (target : TargetEntry) (judged : Judged Value)
      → logs function target.target judged ≡ and_then judged (noted function target)
  logs_is true target judged = sym (and_then_gives judged)
  logs_is false target judged = refl

  -- the value where nothing holds
  without_does : (v : ℕ) (target : TargetEntry) → slice_get tables.targets v ≡ Some target → (c : Bool) (ends : Ends)
      → Has tables code ends (without_value v c ends)
      → (s : State) → Agree s.slots items → (k : Value → Whole)
      → ((w : Value) → Comes tables code (located (end_of (without_value v c) ends).place locals (push w s)) (k w))
      → Comes tables code (located ends.place locals s) (and_then (plain (absent target.target target.pos c)) k)
  without_does v target there true ends has s agree k next =
      does_constant tables code items ty.Boolean (flat.Boolean false)
      (length locals) ends has locals refl s agree k next
  without_does v target there false ends has s agree k next =
      acted tables code _ (instr.NoValue v) _ has.instructions.0
      (found tables code _ _ _ _ there (ends_with tables code (Err (NoValue target.target target.pos))))

  -- a log that is told by the entry of the target
  logged_as : (v : ℕ) (target : TargetEntry) → slice_get tables.targets v ≡ Some target
      → (o : Option (Held Value)) (p : ℕ) (s : State) (r : Whole)
      → Comes tables code (located p locals s) r
      → Leads tables code (Goes (logged tables (Some v) o) (located p locals s))
      (record { log = unless_function (function_of target) target.target o ++ r.log; end = r.end })
  logged_as v target there o p s r next =
      subst (λ (e : Option TargetEntry). Leads tables code (Goes (logged_of tables e o) (located p locals s))
      (record { log = unless_function (function_of target) target.target o ++ r.log; end = r.end })) (sym there)
      (goes_logging tables code (unless_function (function_of target) target.target o) (located p locals s) r next)

  -- the same log, whatever the number of the definition
  renamed : (b : Bool) (target : Target) (h : Held Value)
      → unless_function b target (Some (renumbered base h)) ≡ unless_function b target (Some h)
  renamed true target h = refl
  renamed false target h = refl

  -- the last part of a target, behind its check
  taken : (v : ℕ) (target : TargetEntry) → slice_get tables.targets v ≡ Some target → (condition : Bool) (ends : Ends)
      → Has tables code ends (branch (λ t. instr.Take t) nothing (without_value v condition) ends) → (s : State)
      → Agree s.slots items → (k : Value → Whole)
      → ((w : Value) → Comes tables code
      (located (end_of (branch (λ t. instr.Take t) nothing (without_value v condition)) ends).place locals
      (push w s)) (k w))
      → (o : Option (Held Value))
      → Comes tables code (located ends.place locals (framed (tested v (entries base o)) s))
      (and_then (noted (function_of target) target o)
      (λ met. and_then (plain (value_or (absent target.target target.pos condition) met)) k))
  taken v target there condition ends has s agree k next None =
      let e1 = skip ends in
      let e2 = skip e1 in
      let jump = instr.Jump (end_of (without_value v condition) e2).place in
      let behind_take =
      rest_of tables code (instr.Take e2.place) (over (λ t. instr.Jump t) (without_value v condition)) ends has in
      acted tables code _ (instr.Take e2.place) _ has.instructions.0
      (logged_as v target there None e2.place s _
      (without_does v target there condition e2
      (rest_of tables code jump (without_value v condition) e1 behind_take) s agree k next))
  taken v target there condition ends has s agree k next (Some h) =
      let e2 = skip (skip ends) in
      let jump = instr.Jump (end_of (without_value v condition) e2).place in
      acted tables code _ (instr.Take e2.place) _ has.instructions.0
      (subst (λ (l : List Decider). Leads tables code
      (Goes (logged tables (Some v) (Some (renumbered base h))) (located (ends.place + 1) locals (push h.value s)))
      (record { log = l ++ (k h.value).log; end = (k h.value).end })) (renamed (function_of target) target.target h)
      (logged_as v target there (Some (renumbered base h)) (ends.place + 1) (push h.value s) (k h.value)
      (acted tables code _ jump _ has.instructions.1.0 (goes_on tables code _ _ (next h.value)))))

  -- a target's code pushes its value
  pub of_target : (type : Ty) (target : TargetEntry) (condition : Bool) (term : Option DefaultTerm)
      → IsDoing type target term
      → (function : Bool) → is_function_target tables.decls target.target target.target.inner ≡ function
      → DoesAt tables code items locals base
      (giving (logs function target.target (reduced_or value target.target term))
      (value_or (absent target.target target.pos condition)))
      (target_code here target type types condition term)
  of_target type target condition term doing function is ends has s agree k next =
      let v = ends.targets in
      let there = has.targets.0 in
      let at = standing_at v type in
      let judged = reduced_or value target.target term in
      let last : Coded = branch (λ t. instr.Take t) nothing (without_value v condition) in
      let whole : Coded = then_code (judged_code at term) last in
      let e1 = end_of (entry target) ends in
      let inner = second_of tables code (entry target) whole ends has in
      let in_last = second_of tables code (judged_code at term) last e1 inner in
      let done = behind tables code items (judged_code at term) last e1 locals (λ w. push w s) k next in
      alike tables code _ _ _
      (and_then_and_then (logs function target.target judged) _ k
      ∙ ap (λ (j : Judged Value). and_then j
      (λ met. and_then (plain (value_or (absent target.target target.pos condition) met)) k))
      (logs_is function target judged ∙ ap (λ (b : Bool). and_then judged (noted b target)) (sym is))
      ∙ and_then_and_then judged _ _)
      (judged_does type target term doing v there e1
      (first_of tables code (judged_code at term) last e1 inner) s agree _
      (λ o. taken v target there condition (end_of (judged_code at term) e1) in_last s agree k done o))

  context_taken : (v : ℕ) (target : TargetEntry) → slice_get tables.targets v ≡ Some target → (n : ℕ) (ends : Ends)
      → Has tables code ends (over (λ t. instr.Take t) (one (instr.Pass n)) ends)
      → (s : State) (c : ℕ) (q : Items) (k : Option (Held Value) → Whole)
      → ((o : Option (Held Value))
      → Comes tables code (located (end_of (over (λ t. instr.Take t) (one (instr.Pass n))) ends).place locals
      (pending c (passed_or n o q) s)) (k o))
      → (o : Option (Held Value))
      → Comes tables code (located ends.place locals (framed (tested v (entries base o)) (pending c q s)))
      (and_then (noted (function_of target) target o) k)
  context_taken v target there n ends has s c q k next None =
      acted tables code _ (instr.Take (ends.place + 1 + 1)) _ has.instructions.0
      (logged_as v target there None (ends.place + 1 + 1) (pending c q s) (k None) (next None))
  context_taken v target there n ends has s c q k next (Some h) =
      acted tables code _ (instr.Take (ends.place + 1 + 1)) _ has.instructions.0
      (subst (λ (l : List Decider). Leads tables code
      (Goes (logged tables (Some v) (Some (renumbered base h)))
      (located (ends.place + 1) locals (push h.value (pending c q s))))
      (record { log = l ++ (k (Some h)).log; end = (k (Some h)).end })) (renamed (function_of target) target.target h)
      (logged_as v target there (Some (renumbered base h)) (ends.place + 1) (push h.value (pending c q s)) (k (Some h))
      (acted tables code _ (instr.Pass n) _ has.instructions.1.0 (goes_on tables code _ _ (next (Some h))))))

  -- its judging is logged
  pub of_context : (type : Ty) (target : TargetEntry) (n : ℕ) (term : Option DefaultTerm) → IsDoing type target term
      → is_function_target tables.decls target.target target.target.inner ≡ false → (ends : Ends)
      → Has tables code ends (targeted target
      (λ v. then_code (judged_code (standing_at v type) term) (over (λ t. instr.Take t) (one (instr.Pass n)))) ends)
      → (s : State) → Agree s.slots items → (c : ℕ) (q : Items) (k : Option (Held Value) → Whole)
      → ((o : Option (Held Value)) → Comes tables code
      (located (end_of (targeted target
      (λ v. then_code (judged_code (standing_at v type) term) (over (λ t. instr.Take t) (one (instr.Pass n)))))
      ends).place locals
      (pending c (passed_or n o q) s)) (k o))
      → Comes tables code (located ends.place locals (pending c q s))
      (and_then (decided target.target (reduced_or value target.target term)) k)
  of_context type target n term doing is ends has s agree c q k next =
      let v = ends.targets in
      let there = has.targets.0 in
      let at = standing_at v type in
      let judged = reduced_or value target.target term in
      let last : Coded = over (λ t. instr.Take t) (one (instr.Pass n)) in
      let whole : Coded = then_code (judged_code at term) last in
      let e1 = end_of (entry target) ends in
      let inner = second_of tables code (entry target) whole ends has in
      let in_last = second_of tables code (judged_code at term) last e1 inner in
      let done =
      behind tables code items (judged_code at term) last e1 locals (λ o. pending c (passed_or n o q) s) k next in
      alike tables code _ _ _
      (ap (λ (j : Judged Value). and_then j k) (ap (λ (b : Bool). and_then judged (noted b target)) (sym is))
      ∙ and_then_and_then judged _ _)
      (judged_does type target term doing v there e1 (first_of tables code (judged_code at term) last e1 inner)
      (pending c q s) agree _
      (λ o. context_taken v target there n (end_of (judged_code at term) e1) in_last s c q k done o))
