-- The code of an item does what the item comes to, where those before it are done and the scopes that it calls do.
use Rattle.std.proofs.Common.{◌≡◌, ℕ, suc, ◌+◌, Bool, true, false, true≢false, not, ◌&&◌, List, [], ◌∷◌, ◌++◌, length}
use Rattle.std.proofs.Common.{Option, Some, None, Result, Ok, refl, sym, ap, ◌∙◌, subst, slice_get, nat_eq, arith}
use Rattle.std.proofs.Common.{append_assoc, if◌then◌else◌}
use Rattle.std.proofs.lemmas.Bool.{eqb-true}
use Rattle.cat_value.specs.declared.ty.Ty.{Ty}
use Rattle.cat_value.specs.declared.value.Value.{Value}
use Rattle.cat_value.specs.declared.value.Value.TheViews as value
use Rattle.cat_value.specs.declared.decls.Decls.{Decls}
use Rattle.cat_value.specs.declared.declaration.Kind.{Kind}
use Rattle.cat_value.specs.declared.declaration.Kind.TheVariants as kind
use Rattle.cat_value.specs.declared.declaration.ItemDecl.{ItemDecl}
use Rattle.cat_value.specs.declared.declaration.Scope.{Scope}
use Rattle.cat_value.specs.declared.outcome.Target.{Target}
use Rattle.cat_value.specs.Inputs.{must_be_given, may_be_given}
use Rattle.cat_scope.specs.declared.stop.Stop.{Stop}
use Rattle.cat_scope.specs.declared.expr.Expr.{Expr}
use Rattle.cat_scope.specs.Replies.{known, on_one}
use Rattle.cat_scope.specs.Runs.{Run, plain, gives, and_then, giving, in_front}
use Rattle.cat_scope.specs.Judging.{Held, Judged, decided}
use Rattle.cat_scope.specs.Targets.{absent, value_or}
use Rattle.cat_scope.specs.Names.{is_called, is_function, scope_items, items_in}
use Rattle.cat_scope.specs.Naming.{IsTargetAt, is_defined}
use Rattle.cat_scope.specs.Calls.{Items, Runs, Scoped, variable, variable_of_called, judging_of, variable_value, call}
use Rattle.cat_scope.specs.ItemValues.{passed, passed_input, inner_judging, called_value, defined_value, ungiven_value}
use Rattle.cat_scope.specs.ItemValues.{item_value}
use Rattle.cat_scope.specs.Running.{with_entry, no_values}
use Rattle.cat_scope.proofs.Exported.{and_then_and_then}
use Rattle.cat_calc.specs.declared.calcs.CalcScope.{CalcScope}
use Rattle.cat_calc.specs.Calculus.{calc_scoped}
use Rattle.cat_code.specs.declared.instr.Instr.{Instr}
use Rattle.cat_code.specs.declared.instr.Instr.TheVariants as instr
use Rattle.cat_code.specs.declared.code.TargetEntry.{TargetEntry}
use Rattle.cat_code.specs.declared.code.Tables.{Tables}
use Rattle.cat_code.specs.States.{State, at as placed_at, push}
use Rattle.cat_code.specs.Moves.{with_part, enters}
use Rattle.cat_code.specs.Logged.{is_function_in, is_function_target}
use Rattle.cat_code.specs.Places.{case_places}
use Rattle.cat_code.specs.Runs.{Whole}
use Rattle.cat_lower.specs.Laying.{Ends, Coded, one, then_code, led, skip, end_of, over}
use Rattle.cat_lower.specs.Rows.{function_number}
use Rattle.cat_lower.specs.Scopes.{ScopeStanding, target_at, term_at, variable_code, inner_code, inner_codes}
use Rattle.cat_lower.specs.Scopes.{called_code, stored_code, kind_code, item_code}
use Rattle.cat_lower.specs.Terms.{target_code, context_code}
use Rattle.cat_lower.specs.Lowered.{standing}
use Rattle.cat_lower.specs.Stands.{Has}
use Rattle.cat_lower.proofs.Places.{first_of, second_of, rest_of}
use Rattle.cat_lower.proofs.Comes.{Comes, Leads, acted, goes_on, is_stuck, found, alike, leads_alike}
use Rattle.cat_lower.proofs.Stacks.{length_append}
use Rattle.cat_lower.proofs.Doing.{Agree, here as located, behind}
use Rattle.cat_lower.proofs.DoingRows.{CallsAre}
use Rattle.cat_lower.proofs.ScopeCalls.{RunsAre, pending}
use Rattle.cat_lower.proofs.Slots.{IsGivable, AreGivable, entry_behind}
use Rattle.cat_lower.proofs.Calling.{must_may}
use Rattle.cat_lower.proofs.TargetsDo.{of_target, of_context, passed_or}
use Rattle.cat_lower.proofs.ScopeTerms.{ScopeSound, ScopeLaid, all_at, function_is_defined, meant, is_doing}
use Rattle.cat_lower.proofs.ItemSlots.{After, after_given, after_stored, after_none, IsGiven, value_joined, ended}
use Rattle.cat_lower.proofs.ItemSlots.{no_function}

module _ (tables : Tables) (code : List Instr) (ds : Decls) (number functions definitions : ℕ) (scope : Scope)
    (terms : CalcScope) (runs : Runs)
    (same : tables.decls ≡ ds) (cases : tables.cases ≡ case_places 0 ds.enumerations)
    (declared : slice_get ds.scopes number ≡ Some scope)
    (runs_are : RunsAre tables code runs)
    (sound : ScopeSound tables (standing ds number functions definitions scope terms))
    (laid : ScopeLaid tables code (standing ds number functions definitions scope terms)) where
  abbrev pub at : ScopeStanding
  at = standing ds number functions definitions scope terms

  abbrev pub scoped : Scoped
  scoped = calc_scoped number scope.items terms ds.scopes runs

  items_are : scope_items tables.decls number ≡ scope.items
  items_are = ap (λ (d : Decls). scope_items d number) same ∙ ap items_in declared

  -- whether a target of the scope is a function is told by its declaration
  function_told : (item : ℕ) (decl : ItemDecl) → slice_get scope.items item ≡ Some decl → (b : Bool)
      → is_function decl ≡ b
      → is_function_target tables.decls (target_at at item None decl).target None ≡ b
  function_told item decl is b told =
      ap (λ l. is_function_in (slice_get l item)) items_are ∙ ap is_function_in is ∙ told

  own : (item : ℕ) (decl : ItemDecl) → slice_get scope.items item ≡ Some decl → is_defined decl ≡ true
      → IsTargetAt at.here.names item None decl.params decl.ty
  own item decl is defined = record { decl = decl; decl_is = is; defined = defined; params_are = refl; ty_is = refl }

  module _ (values : Items) where
    -- what functions are, by those that stand before them
    abbrev pub AreCalls : (ℕ → List Value → Run Value) → Type 0
    AreCalls calls = CallsAre tables code (function_number at.here) scope.items values calls

    -- a function does what it gives, where those before it do
    function_does : (calls : ℕ → List Value → Run Value) → AreCalls calls → (f : ℕ) (decl : ItemDecl)
        → slice_get scope.items f ≡ Some decl
        → is_function decl ≡ true → (vs : List Value) → length vs ≡ length decl.params → (s : State) (k : Value → Whole)
        → Agree s.slots values
        → ((v : Value) → Comes tables code (placed_at (s.place + 1) (push v s)) (k v))
        → Leads tables code (with_part (known (slice_get tables.functions (function_number at.here f)))
        (λ entry. enters entry None s.slots vs s))
        (and_then (variable_value (variable scoped f) (Some decl)
        (judging_of scoped calls values vs (variable scoped f))) k)
    function_does calls are f decl is function vs counted s k agree next =
        let there = laid.functions f decl is function in
        let target : Coded = variable_code at f decl in
        let return : Coded = one instr.Return in
        let defined = function_is_defined decl (all_at _ scope.items f decl sound.placed is) function in
        let doing =
        is_doing tables code values at.here scoped calls same cases refl refl are runs_are vs decl.params counted
        decl.ty
        (target_at at f None decl) (term_at at f None)
        (sound.terms (target_at at f None decl).target decl.params decl.ty (own f decl is defined)) in
        found tables code _ there.ends.place _ _ there.entry (goes_on tables code _ _
        (of_target tables code values vs at.here decl.params
        (meant tables code values at.here scoped calls same cases refl refl are runs_are vs decl.params counted)
        decl.ty (target_at at f None decl) decl.condition (term_at at f None) doing true
        (function_told f decl is true function)
        there.ends (first_of tables code target return there.ends there.body)
        (record s { frames = record { slots = None; locals = s.locals; back = s.place + 1 } ∷ s.frames }) agree k
        (λ v. acted tables code _ instr.Return _
        (second_of tables code target return there.ends there.body).instructions.0
        (goes_on tables code _ _ (next v)))))

    pub functions_do : (before : List ℕ) → AreCalls (call scoped values before)
    functions_do [] = record { by = λ f decl is function vs counted s k agree next. is_stuck tables code _ _ refl }
    functions_do (item ∷ before) = record {
      by = λ f decl is function vs counted s k agree next. pick f decl is function vs counted s k agree next
          (nat_eq item f) refl (functions_do before);
    }
      where
        pick : (f : ℕ) (decl : ItemDecl) → slice_get scope.items f ≡ Some decl
            → is_function decl ≡ true → (vs : List Value) → length vs ≡ length decl.params
            → (s : State) (k : Value → Whole) → Agree s.slots values
            → ((v : Value) → Comes tables code (placed_at (s.place + 1) (push v s)) (k v))
            → (b : Bool) → nat_eq item f ≡ b → AreCalls (call scoped values before)
            → Leads tables code (with_part (known (slice_get tables.functions (function_number at.here f)))
            (λ entry. enters entry None s.slots vs s))
            (and_then (call scoped values (item ∷ before) f vs) k)
        pick f decl is function vs counted s k agree next true e are =
            let told : Option ItemDecl → ℕ → Type 0
            = λ o m. Leads tables code
            (with_part (known (slice_get tables.functions (function_number at.here f)))
            (λ entry. enters entry None s.slots vs s))
            (and_then (variable_value (variable scoped m) o
            (judging_of scoped (call scoped values before) values vs (variable scoped m))) k) in
            rw e (subst (λ m. told (slice_get scope.items m) m) (sym (eqb-true item f e))
            (subst (λ o. told o f) (sym is)
            (function_does (call scoped values before) are f decl is function vs counted s k agree next)))
        pick f decl is function vs counted s k agree next false e are =
            rw e (are.by f decl is function vs counted s k agree next)

    -- ---- an item, where those before it are done

    module _ (before : List ℕ) (n : ℕ) (decl : ItemDecl) (is : slice_get scope.items n ≡ Some decl) where
      abbrev calls : ℕ → List Value → Run Value
      calls = call scoped values before

      abbrev meaning : Expr → Run Value
      meaning =
          meant tables code values at.here scoped calls same cases refl refl (functions_do before) runs_are [] [] refl

      -- goes on behind an item
      abbrev Behind : Coded → Ends → State → (Option Value → Whole) → Type 0
      Behind a ends s k =
          (o : Option Value) (slots : Items) → After s.slots values n o slots
          → Comes tables code (located (end_of a ends).place [] (record s { slots = slots })) (k o)

      -- a variable is judged, and its value stored
      stored : (params : List Ty) → decl.params ≡ params → is_defined decl ≡ true → (ends : Ends)
          → Has tables code ends (stored_code at n decl params ends)
          → (s : State) → Agree s.slots values → (x : Option Value) → slice_get s.slots n ≡ Some x
          → (k : Option Value → Whole)
          → Behind (stored_code at n decl params) ends s k
          → Comes tables code (located ends.place [] s) (and_then (defined_value scoped before values n decl params) k)
      stored [] none defined ends has s agree x there k next =
          let target : Coded = variable_code at n decl in
          let store : Coded = one (instr.Store n) in
          let bare : 0 ≡ length decl.params = ap (λ (l : List Ty). length l) (sym none) in
          let done =
          behind tables code values target store ends []
          (λ (v : Value). record s { slots = with_entry n (Some v) s.slots }) (λ v. k (Some v))
          (λ v. next (Some v) (with_entry n (Some v) s.slots) (after_stored s.slots values n v x agree there)) in
          let doing =
          is_doing tables code values at.here scoped calls same cases refl refl (functions_do before) runs_are
          [] decl.params bare decl.ty
          (target_at at n None decl) (term_at at n None)
          (sound.terms (target_at at n None decl).target decl.params decl.ty (own n decl is defined)) in
          alike tables code _ _ _ (and_then_and_then (variable_value (variable scoped n) (Some decl)
          (decided (variable scoped n) (judging_of scoped calls values [] (variable scoped n)))) _ k)
          (of_target tables code values [] at.here decl.params meaning decl.ty (target_at at n None decl) decl.condition
          (term_at at n None) doing false
          (function_told n decl is false (no_function (not (is_called decl.kind)) decl.params none)) ends
          (first_of tables code target store ends has) s agree _
          (λ v. acted tables code _ (instr.Store n) _ (second_of tables code target store ends has).instructions.0
          (goes_on tables code _ _ (done v))))
      stored (t ∷ ts) none defined ends has s agree x there k next =
          next None s.slots (after_none s.slots values n agree)

      -- a context that isn't given is judged like any other variable
      context_empty : is_defined decl ≡ true → (ends : Ends)
          → Has tables code ends (over (λ t. instr.Given n t) (stored_code at n decl decl.params) ends)
          → (s : State) → Agree s.slots values → slice_get s.slots n ≡ Some None → (k : Option Value → Whole)
          → Behind (over (λ t. instr.Given n t) (stored_code at n decl decl.params)) ends s k
          → Comes tables code (located ends.place [] s)
          (and_then (defined_value scoped before values n decl decl.params) k)
      context_empty defined ends has s agree there k next =
          let inner : Coded = stored_code at n decl decl.params in
          let t = (end_of inner (skip ends)).place in
          acted tables code _ (instr.Given n t) _ has.instructions.0
          (found tables code _ _ _ _ there (goes_on tables code _ _
          (stored decl.params refl defined (skip ends)
          (rest_of tables code (instr.Given n t) inner ends has) s agree None there k next)))

      context_given : (v : Value) (ends : Ends)
          → Has tables code ends (over (λ t. instr.Given n t) (stored_code at n decl decl.params) ends)
          → (s : State) → Agree s.slots values → slice_get s.slots n ≡ Some (Some v) → (k : Option Value → Whole)
          → Behind (over (λ t. instr.Given n t) (stored_code at n decl decl.params)) ends s k
          → Comes tables code (located ends.place [] s) (k (Some v))
      context_given v ends has s agree there k next =
          let inner : Coded = stored_code at n decl decl.params in
          let t = (end_of inner (skip ends)).place in
          acted tables code _ (instr.Given n t) _ has.instructions.0
          (found tables code _ _ _ _ there
          (goes_on tables code _ _ (next (Some v) s.slots (after_given s.slots values n v agree there))))

      -- ---- a called scope

      module _ (c : ℕ) (kind_is : decl.kind ≡ kind.Called c) where
        abbrev judged : ℕ → Judged Value
        judged = inner_judging scoped before values n

        abbrev target : ℕ → Target
        target = variable_of_called scoped n

        inner_own : (j : ℕ) (inner : ItemDecl) → slice_get (scope_items ds c) j ≡ Some inner
            → may_be_given inner.kind ≡ true
            → IsTargetAt at.here.names n (Some j) [] inner.ty
        inner_own j inner inner_is may = record {
          called = decl;
          scope = c;
          decl = inner;
          called_is = is;
          kind_is = kind_is;
          decl_is = inner_is;
          given = may;
          params_are = refl;
          ty_is = refl;
        }

        module _ (j : ℕ) (inner : ItemDecl) (inner_is : slice_get (scope_items ds c) j ≡ Some inner)
            (may : may_be_given inner.kind ≡ true)
            (front rest : Items) (counted : length front ≡ j) where
          abbrev entry : TargetEntry
          entry = target_at at n (Some j) decl

          abbrev code_by : Bool → Coded
          code_by b =
              if b then then_code (target_code at.here entry inner.ty [] inner.condition (term_at at n (Some j)))
              (one (instr.Pass j))
              else context_code at.here entry inner.ty j (term_at at n (Some j))

          abbrev passed_by : Bool → Option (Held Value) → Result (Option Value) Stop
          passed_by b None =
              if b then on_one (absent (target j) decl.pos inner.condition) (λ v. Ok (Some v)) else Ok None
          passed_by b (Some h) = Ok (Some h.value)

          passed_is : (b : Bool) → must_be_given inner.kind ≡ b → (o : Option (Held Value))
              → passed (target j) decl.pos inner o ≡ passed_by b o
          passed_is b must None = rw must refl
          passed_is b must (Some h) = refl

          must_pass : (k : Option Value → Whole) (o : Option (Held Value)) → and_then (plain (passed_by true o)) k
              ≡ and_then (plain (value_or (absent (target j) decl.pos inner.condition) o)) (λ v. k (Some v))
          must_pass k None = value_joined (λ v. Some v) (absent (target j) decl.pos inner.condition) k
          must_pass k (Some h) = refl

          meant_by : (b : Bool) → must_be_given inner.kind ≡ b → (k : Option Value → Whole)
              → and_then (giving (decided (target j) (judged j)) (passed (target j) decl.pos inner)) k
              ≡ and_then (decided (target j) (judged j)) (λ o. and_then (plain (passed_by b o)) k)
          meant_by b must k =
              and_then_and_then (decided (target j) (judged j)) _ k
              ∙ ended (decided (target j) (judged j)).log (decided (target j) (judged j)).end _ _
              (λ o. ap (λ r. and_then (plain r) k) (passed_is b must o))

          context_goes : must_be_given inner.kind ≡ false → (s : State) (p : ℕ) (k : Option Value → Whole)
              → ((o : Option Value) → IsGivable inner o
              → Comes tables code (located p [] (pending c (front ++ o ∷ rest) s)) (k o))
              → (o : Option (Held Value))
              → Comes tables code (located p [] (pending c (passed_or j o (front ++ None ∷ rest)) s))
              (and_then (plain (passed_by false o)) k)
          context_goes must s p k next None = next None must
          context_goes must s p k next (Some h) =
              subst (λ q. Comes tables code (located p [] (pending c q s)) (k (Some h.value)))
              (sym (entry_behind front None (Some h.value) rest j counted))
              (next (Some h.value) may)

          inner_by : (b : Bool) → must_be_given inner.kind ≡ b → (ends : Ends) → Has tables code ends (code_by b ends)
              → (s : State) → Agree s.slots values → (k : Option Value → Whole)
              → ((o : Option Value) → IsGivable inner o
              → Comes tables code (located (end_of (code_by b) ends).place [] (pending c (front ++ o ∷ rest) s))
              (k o))
              → Comes tables code (located ends.place [] (pending c (front ++ None ∷ rest) s))
              (and_then (giving (decided (target j) (judged j)) (passed (target j) decl.pos inner)) k)
          inner_by true must ends has s agree k next =
              let a : Coded = target_code at.here entry inner.ty [] inner.condition (term_at at n (Some j)) in
              let b : Coded = one (instr.Pass j) in
              let doing =
              is_doing tables code values at.here scoped calls same cases refl refl (functions_do before) runs_are
              [] [] refl inner.ty
              entry (term_at at n (Some j)) (sound.terms entry.target [] inner.ty (inner_own j inner inner_is may)) in
              let done =
              behind tables code values a b ends [] (λ (v : Value). pending c (front ++ Some v ∷ rest) s)
              (λ v. k (Some v)) (λ v. next (Some v) may) in
              alike tables code _ _ _ (meant_by true must k
              ∙ ended (decided (target j) (judged j)).log (decided (target j) (judged j)).end _ _ (must_pass k)
              ∙ sym (and_then_and_then (decided (target j) (judged j)) _ (λ v. k (Some v))))
              (of_target tables code values [] at.here [] meaning inner.ty entry inner.condition
              (term_at at n (Some j)) doing false refl
              ends (first_of tables code a b ends has) (pending c (front ++ None ∷ rest) s) agree _
              (λ v. acted tables code _ (instr.Pass j) _ (second_of tables code a b ends has).instructions.0
              (goes_on tables code _ _
              (subst (λ q. Comes tables code (located ((end_of a ends).place + 1) [] (pending c q s)) (k (Some v)))
              (sym (entry_behind front None (Some v) rest j counted)) (done v)))))
          inner_by false must ends has s agree k next =
              let doing =
              is_doing tables code values at.here scoped calls same cases refl refl (functions_do before) runs_are
              [] [] refl inner.ty
              entry (term_at at n (Some j)) (sound.terms entry.target [] inner.ty (inner_own j inner inner_is may)) in
              alike tables code _ _ _ (meant_by false must k)
              (of_context tables code values [] at.here [] meaning inner.ty entry j
              (term_at at n (Some j)) doing refl ends has s agree c (front ++ None ∷ rest) _
              (context_goes must s (end_of (code_by false) ends).place k next))

          -- an input or a context is passed
          inner_does : (ends : Ends) → Has tables code ends (inner_code at n decl j inner ends)
              → (s : State) → Agree s.slots values → (k : Option Value → Whole)
              → ((o : Option Value) → IsGivable inner o
              → Comes tables code (located (end_of (inner_code at n decl j inner) ends).place []
              (pending c (front ++ o ∷ rest) s)) (k o))
              → Comes tables code (located ends.place [] (pending c (front ++ None ∷ rest) s))
              (and_then (giving (decided (target j) (judged j)) (passed (target j) decl.pos inner)) k)
          inner_does ends has s agree k next = inner_by (must_be_given inner.kind) refl ends has s agree k next

        abbrev passing : ℕ → ItemDecl → List ItemDecl → Bool → Coded
        passing j inner rest b =
            if b then then_code (inner_code at n decl j inner)
            (inner_codes at n decl (j + 1) rest) else inner_codes at n decl (j + 1) rest

        -- the inputs and contexts that are left are passed
        inners_do : (rest : List ItemDecl) (j : ℕ)
            → ((m : ℕ) (inner : ItemDecl) → slice_get rest m ≡ Some inner
            → slice_get (scope_items ds c) (j + m) ≡ Some inner)
            → (front : Items) → length front ≡ j → (ends : Ends)
            → Has tables code ends (inner_codes at n decl j rest ends)
            → (s : State) → Agree s.slots values → (k : Items → Whole)
            → ((q : Items) → AreGivable rest q
            → Comes tables code (located (end_of (inner_codes at n decl j rest) ends).place []
            (pending c (front ++ q) s)) (k q))
            → Comes tables code (located ends.place [] (pending c (front ++ no_values rest) s))
            (and_then (passed_input judged target decl.pos j rest) k)
        inners_do [] j there front counted ends has s agree k next = next [] tt
        inners_do (inner ∷ rest) j there front counted ends has s agree k next =
            by (may_be_given inner.kind) refl has next
            (λ o ends has k next.
            let moved : (q : Items) → front ++ o ∷ q ≡ (front ++ o ∷ []) ++ q =
            λ q. sym (append_assoc front (o ∷ []) q) in
            subst (λ p. Comes tables code (located ends.place [] (pending c p s))
            (and_then (passed_input judged target decl.pos (j + 1) rest) k)) (sym (moved (no_values rest)))
            (inners_do rest (j + 1) (λ m x e. let k : j + suc m ≡ (j + 1) + m = omega arith in
            ap (λ i. slice_get (scope_items ds c) i) (sym k) ∙ there (suc m) x e)
            (front ++ o ∷ []) (length_append front (o ∷ []) ∙ ap (λ i. i + 1) counted) ends has s agree k
            (λ q are. subst (λ p. Comes tables code
            (located (end_of (inner_codes at n decl (j + 1) rest) ends).place [] (pending c p s)) (k q)) (moved q)
            (next q are))))
          where
            at_first : slice_get (scope_items ds c) j ≡ Some inner
            at_first = let k : j + 0 ≡ j = omega arith in
                ap (λ i. slice_get (scope_items ds c) i) (sym k) ∙ there 0 inner refl

            must_not : may_be_given inner.kind ≡ false → (b : Bool) → must_be_given inner.kind ≡ b
                → must_be_given inner.kind ≡ false
            must_not may true must = absurd (true≢false (sym (must_may inner.kind must) ∙ may))
            must_not may false must = must

            by : (b : Bool) → may_be_given inner.kind ≡ b → Has tables code ends (passing j inner rest b ends)
                → ((q : Items) → AreGivable (inner ∷ rest) q
                → Comes tables code (located (end_of (passing j inner rest b) ends).place []
                (pending c (front ++ q) s)) (k q))
                → ((o : Option Value) (ends : Ends) → Has tables code ends (inner_codes at n decl (j + 1) rest ends)
                → (k : Items → Whole)
                → ((q : Items) → AreGivable rest q
                → Comes tables code (located (end_of (inner_codes at n decl (j + 1) rest) ends).place []
                (pending c (front ++ o ∷ q) s)) (k q))
                → Comes tables code (located ends.place [] (pending c (front ++ o ∷ no_values rest) s))
                (and_then (passed_input judged target decl.pos (j + 1) rest) k))
                → Comes tables code (located ends.place [] (pending c (front ++ None ∷ no_values rest) s))
                (and_then (in_front
                (if b then giving (decided (target j) (judged j)) (passed (target j) decl.pos inner) else gives None)
                (passed_input judged target decl.pos (j + 1) rest)) k)
            by false may has next again =
                alike tables code _ _ _ (and_then_and_then (passed_input judged target decl.pos (j + 1) rest) _ k)
                (again None ends has _ (λ q are. next (None ∷ q) (must_not may (must_be_given inner.kind) refl, are)))
            by true may has next again =
                let a : Coded = inner_code at n decl j inner in
                let b : Coded = inner_codes at n decl (j + 1) rest in
                alike tables code _ _ _ (and_then_and_then
                (giving (decided (target j) (judged j)) (passed (target j) decl.pos inner)) _ k)
                (inner_does j inner at_first may front (no_values rest) counted ends
                (first_of tables code a b ends has) s agree _
                (λ o given. alike tables code _ _ _
                (and_then_and_then (passed_input judged target decl.pos (j + 1) rest) _ k)
                (again o (end_of a ends) (second_of tables code a b ends has) _
                (λ q are. behind tables code values {A = Unit {0}} a b ends [] (λ u. pending c (front ++ o ∷ q) s)
                (λ u. k (o ∷ q))
                (λ u. next (o ∷ q) (given, are)) tt))))

        -- the scope is run, and its outputs stored
        called_does : (ends : Ends) → Has tables code ends (called_code at n decl c ends) → (s : State)
            → Agree s.slots values
            → slice_get s.slots n ≡ Some None → (k : Option Value → Whole) → Behind (called_code at n decl c) ends s k
            → Comes tables code (located ends.place [] s)
            (and_then (and_then (called_value scoped before values n decl c) (λ v. gives (Some v))) k)
        called_does ends has s agree there k next =
            let decls = scope_items ds c in
            let inners : Coded = inner_codes at n decl 0 decls in
            let store : Coded = one (instr.Store n) in
            let tail : Coded = led instr.Enter store in
            let e1 = skip ends in
            let e2 = end_of inners e1 in
            let inner = rest_of tables code (instr.Scope c) (then_code inners tail) ends has in
            let last = second_of tables code inners tail e1 inner in
            let decls_are : scope_items tables.decls c ≡ decls = ap (λ (d : Decls). scope_items d c) same in
            let done =
            behind tables code values inners tail e1 []
            (λ (v : Value). record s { slots = with_entry n (Some v) s.slots }) (λ v. k (Some v))
            (λ v. next (Some v) (with_entry n (Some v) s.slots) (after_stored s.slots values n v None agree there)) in
            alike tables code _ _ _ (and_then_and_then (called_value scoped before values n decl c) _ k
            ∙ and_then_and_then (passed_input judged target decl.pos 0 decls) _ _)
            (acted tables code _ (instr.Scope c) _ has.instructions.0 (goes_on tables code _ _
            (subst (λ (l : List ItemDecl). Comes tables code (located (ends.place + 1) [] (pending c (no_values l) s))
            (and_then (passed_input judged target decl.pos 0 decls)
            (λ q. and_then (and_then (runs c q) (λ outputs. gives (value.Structure outputs)))
            (λ v. and_then (gives (Some v)) k)))) (sym decls_are)
            (inners_do decls 0 (λ m x e. let z : m ≡ 0 + m = omega arith in ap (λ i. slice_get decls i) (sym z) ∙ e)
            [] refl e1
            (first_of tables code inners tail e1 inner) s agree _
            (λ q are. acted tables code _ instr.Enter _ last.instructions.0
            (leads_alike tables code _ _ _ (and_then_and_then (runs c q) _ _)
            (runs_are.by c q (subst (λ (l : List ItemDecl). AreGivable l q) (sym decls_are) are)
            (located e2.place [] s) _
            (λ outputs. acted tables code _ (instr.Store n) _ last.instructions.1.0
            (goes_on tables code _ _ (done (value.Structure outputs)))))))))))

      -- ---- an item by its kind

      defined_as : (k : Kind) → decl.kind ≡ k → (not (is_called k) && not (must_be_given k)) ≡ true
          → is_defined decl ≡ true
      defined_as k kind_is told = ap (λ k. not (is_called k) && not (must_be_given k)) kind_is ∙ told

      empty_does : (k : Kind) → decl.kind ≡ k → must_be_given k ≡ false → (ends : Ends)
          → Has tables code ends (kind_code at n decl k ends)
          → (s : State) → Agree s.slots values → slice_get s.slots n ≡ Some None → (go : Option Value → Whole)
          → Behind (kind_code at n decl k) ends s go
          → Comes tables code (located ends.place [] s) (and_then (ungiven_value scoped before values n decl k) go)
      empty_does kind.Input kind_is must ends has s agree there go next = absurd (true≢false must)
      empty_does kind.InputOutput kind_is must ends has s agree there go next = absurd (true≢false must)
      empty_does kind.Context kind_is must ends has s agree there go next =
          context_empty (defined_as kind.Context kind_is refl) ends has s agree there go next
      empty_does kind.ContextOutput kind_is must ends has s agree there go next =
          context_empty (defined_as kind.ContextOutput kind_is refl) ends has s agree there go next
      empty_does kind.Output kind_is must ends has s agree there go next =
          stored decl.params refl (defined_as kind.Output kind_is refl) ends has s agree None there go next
      empty_does kind.Internal kind_is must ends has s agree there go next =
          stored decl.params refl (defined_as kind.Internal kind_is refl) ends has s agree None there go next
      empty_does (kind.Called c) kind_is must ends has s agree there go next =
          called_does c kind_is ends has s agree there go next

      given_does : (k : Kind) → may_be_given k ≡ true → (v : Value) → (ends : Ends)
          → Has tables code ends (kind_code at n decl k ends)
          → (s : State) → Agree s.slots values → slice_get s.slots n ≡ Some (Some v) → (go : Option Value → Whole)
          → Behind (kind_code at n decl k) ends s go
          → Comes tables code (located ends.place [] s) (go (Some v))
      given_does kind.Input may v ends has s agree there go next =
          next (Some v) s.slots (after_given s.slots values n v agree there)
      given_does kind.InputOutput may v ends has s agree there go next =
          next (Some v) s.slots (after_given s.slots values n v agree there)
      given_does kind.Context may v ends has s agree there go next = context_given v ends has s agree there go next
      given_does kind.ContextOutput may v ends has s agree there go next =
          context_given v ends has s agree there go next
      given_does kind.Output may v ends has s agree there go next = absurd (true≢false (sym may))
      given_does kind.Internal may v ends has s agree there go next = absurd (true≢false (sym may))
      given_does (kind.Called c) may v ends has s agree there go next = absurd (true≢false (sym may))

      item_does : (e : Option Value) → IsGivable decl e → (ends : Ends)
          → Has tables code ends (kind_code at n decl decl.kind ends)
          → (s : State) → Agree s.slots values → slice_get s.slots n ≡ Some e → (go : Option Value → Whole)
          → Behind (kind_code at n decl decl.kind) ends s go
          → Comes tables code (located ends.place [] s) (and_then (item_value scoped before values n e (Some decl)) go)
      item_does None given ends has s agree there go next =
          empty_does decl.kind refl given ends has s agree there go next
      item_does (Some v) given ends has s agree there go next =
          given_does decl.kind given v ends has s agree there go next

    -- an item of an order
    pub listed_does : (before : List ℕ) (n : ℕ) (o : Option ItemDecl) → slice_get scope.items n ≡ o → (e : Option Value)
        → IsGiven o e
        → (ends : Ends) → Has tables code ends (item_code at n o ends) → (s : State) → Agree s.slots values
        → slice_get s.slots n ≡ Some e
        → (go : Option Value → Whole)
        → ((v : Option Value) (slots : Items) → After s.slots values n v slots
        → Comes tables code (located (end_of (item_code at n o) ends).place [] (record s { slots = slots })) (go v))
        → Comes tables code (located ends.place [] s) (and_then (item_value scoped before values n e o) go)
    listed_does before n None is e given ends has s agree there go next = absurd given
    listed_does before n (Some decl) is e given ends has s agree there go next =
        item_does before n decl is e given ends has s agree there go next
