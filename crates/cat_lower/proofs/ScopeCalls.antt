-- The code of a scope call does what the scope call means, where scopes do what they give.
use Rattle.std.proofs.Common.{◌≡◌, ℕ, ◌+◌, Bool, true, false, ◌&&◌, not, IsTrue, List, [], ◌∷◌, length}
use Rattle.std.proofs.Common.{Some, Result, Ok, refl, sym, ap, ◌∙◌, subst, slice_get, rules}
use Rattle.cat_value.specs.declared.value.Value.{Value}
use Rattle.cat_value.specs.declared.value.Value.TheViews as value
use Rattle.cat_value.specs.declared.declaration.ItemDecl.{ItemDecl}
use Rattle.cat_value.specs.declared.declaration.Scope.{Scope}
use Rattle.cat_value.specs.Inputs.{must_be_given}
use Rattle.cat_scope.specs.declared.stop.Stop.{Stop}
use Rattle.cat_scope.specs.Replies.{known, on_one}
use Rattle.cat_scope.specs.Runs.{Run, plain, gives, and_then, giving, in_front}
use Rattle.cat_scope.specs.Projections.{parts}
use Rattle.cat_scope.specs.Composed.{Meaning}
use Rattle.cat_scope.specs.Names.{is_in, all_differ, scope_items}
use Rattle.cat_scope.specs.Calls.{Items, Runs, call_input}
use Rattle.cat_scope.specs.Running.{with_entry, no_values}
use Rattle.cat_scope.proofs.Exported.{and_then_and_then}
use Rattle.cat_code.specs.declared.instr.Instr.{Instr}
use Rattle.cat_code.specs.declared.instr.Instr.TheVariants as instr
use Rattle.cat_code.specs.declared.code.Tables.{Tables}
use Rattle.cat_code.specs.States.{State, at, push}
use Rattle.cat_code.specs.Moves.{with_part, pushes, enters}
use Rattle.cat_code.specs.Runs.{Whole}
use Rattle.cat_lower.specs.Laying.{Ends, Coded, nothing, one, then_code, led, skip, end_of}
use Rattle.cat_lower.specs.Pieces.{absent_code, pass_absent}
use Rattle.cat_lower.specs.Stands.{Has}
use Rattle.cat_lower.proofs.Places.{first_of, second_of, rest_of, past_append}
use Rattle.cat_lower.proofs.Comes.{Comes, Leads, acted, goes_on, pushed, found, alike, leads_alike}
use Rattle.cat_lower.proofs.Doing.{Agree, here, Does, behind}
use Rattle.cat_lower.proofs.Slots.{numbers, passed_to, absent_entry, absent_to, passed_input_is, AreGivable}

-- what scopes give is what the machine comes to from their entries, where it goes on behind the call
pub record RunsAre (tables : Tables) (code : List Instr) (runs : Runs) : Type 0 where
  pub by : (n : ℕ) (input : Items) → AreGivable (scope_items tables.decls n) input
      → (s : State) (k : List Value → Whole)
      → ((outputs : List Value) → Comes tables code (at (s.place + 1) (push (value.Structure outputs) s)) (k outputs))
      → Leads tables code (with_part (known (slice_get tables.scopes n))
      (λ entry. enters entry (Some s.slots) input [] s))
      (and_then (runs n input) k)

-- a state with the slots of a scope that is not entered yet
abbrev pub pending : ℕ → Items → State → State
pending scope slots s = record s { pending = record { scope = scope; slots = slots } ∷ s.pending }

-- the fields of a structure
pub parts_of : (vs : List Value) → parts (value.Structure vs) ≡ Ok vs
parts_of vs = search (rules, value.the_lemmas)

module _ (tables : Tables) (code : List Instr) (items : Items) where
  -- code that passes the values of fields, which have these numbers
  abbrev pub DoesPass : (List Value → Run (List (ℕ × Value))) → ℕ → List ℕ → Coded → Type 0
  DoesPass meaning depth ns a =
      (ends : Ends) → Has tables code ends (a ends) → (locals : List Value) → length locals ≡ depth
      → (s : State) → Agree s.slots items → (c : ℕ) (q : Items) (k : List (ℕ × Value) → Whole)
      → ((fs : List (ℕ × Value)) → numbers fs ≡ ns
      → Comes tables code (here (end_of a ends).place locals (pending c (passed_to fs q) s)) (k fs))
      → Comes tables code (here ends.place locals (pending c q s)) (and_then (meaning locals) k)

  pub passes_none : (depth : ℕ) → DoesPass (λ locals. gives []) depth [] nothing
  passes_none depth ends has locals deep s agree c q k next = next [] refl

  pub passes_more : (n : ℕ) (a : Meaning) (b : List Value → Run (List (ℕ × Value))) (depth : ℕ) (ns : List ℕ)
      (ca cb : Coded)
      → Does tables code items a depth ca → DoesPass b depth ns cb
      → DoesPass (λ locals. in_front (and_then (a locals) (λ v. gives (n, v))) (b locals)) depth (n ∷ ns)
      (then_code ca (led (instr.Pass n) cb))
  passes_more n a b depth ns ca cb da db ends has locals deep s agree c q k next =
      let rest : Coded = led (instr.Pass n) cb in
      let e1 = end_of ca ends in
      let inner = second_of tables code ca rest ends has in
      alike tables code _ _ _ (and_then_and_then (and_then (a locals) (λ v. gives (n, v))) _ k
      ∙ and_then_and_then (a locals) _ _)
      (da ends (first_of tables code ca rest ends has) locals deep (pending c q s) agree _
      (λ v. alike tables code _ _ _ (and_then_and_then (b locals) _ k)
      (acted tables code _ (instr.Pass n) _ inner.instructions.0 (goes_on tables code _ _
      (db (skip e1) (rest_of tables code (instr.Pass n) cb e1 inner) locals deep s agree c (with_entry n (Some v) q) _
      (λ fs is. subst (λ p. Comes tables code (here p locals (pending c (passed_to fs (with_entry n (Some v) q)) s))
      (k ((n, v) ∷ fs)))
      (past_append ends.place (ca ends).instructions (rest e1).instructions)
      (next ((n, v) ∷ fs) (ap (λ (l : List ℕ). n ∷ l) is))))))))

  -- false passed to an item, where it is wanted
  passes_false : (b : Bool) (n : ℕ) (ends : Ends) → Has tables code ends (absent_code b n ends)
      → (locals : List Value) (s : State) (c : ℕ) (q : Items) (r : Whole)
      → Comes tables code (here (end_of (absent_code b n) ends).place locals (pending c (absent_entry b n q) s)) r
      → Comes tables code (here ends.place locals (pending c q s)) r
  passes_false true n ends has locals s c q r next =
      acted tables code _ (instr.Const ends.constants) _ has.instructions.0
      (found tables code _ _ _ _ has.constants.0 (goes_on tables code _ _
      (acted tables code _ (instr.Pass n) _ has.instructions.1.0 (goes_on tables code _ _ next))))
  passes_false false n ends has locals s c q r next = next

  passes_absent : (given : List ℕ) (decls : List ItemDecl) (n : ℕ) (ends : Ends)
      → Has tables code ends (pass_absent n given decls ends)
      → (locals : List Value) (s : State) (c : ℕ) (q : Items) (r : Whole)
      → Comes tables code (here (end_of (pass_absent n given decls) ends).place locals
      (pending c (absent_to n given decls q) s)) r
      → Comes tables code (here ends.place locals (pending c q s)) r
  passes_absent given [] n ends has locals s c q r next = next
  passes_absent given (item ∷ decls) n ends has locals s c q r next =
      let b = must_be_given item.kind && item.condition && not (is_in n given) in
      let first : Coded = absent_code b n in
      let rest : Coded = pass_absent (n + 1) given decls in
      passes_false b n ends (first_of tables code first rest ends has) locals s c q r
      (passes_absent given decls (n + 1) (end_of first ends) (second_of tables code first rest ends has) locals s c
      (absent_entry b n q) r
      (subst (λ p. Comes tables code
      (here p locals (pending c (absent_to (n + 1) given decls (absent_entry b n q)) s)) r)
      (past_append ends.place (first ends).instructions (rest (end_of first ends)).instructions) next))

  -- a scope call, where the numbers of its fields differ and are those of inputs and contexts
  pub does_scope_call : (runs : Runs) → RunsAre tables code runs → (c o depth : ℕ) (decls : List ItemDecl)
      → scope_items tables.decls c ≡ decls
      → (a : List Value → Run (List (ℕ × Value))) (ns : List ℕ) (ca : Coded) → IsTrue (all_differ ns)
      → ((fs : List (ℕ × Value)) → numbers fs ≡ ns → AreGivable decls (call_input 0 fs decls)) → DoesPass a depth ns ca
      → Does tables code items
      (λ locals. and_then (a locals)
      (λ fs. giving (runs c (call_input 0 fs decls)) (λ outputs. known (slice_get outputs o))))
      depth (led (instr.Scope c)
      (then_code ca (then_code (pass_absent 0 ns decls) (led instr.Enter (one (instr.Field o))))))
  does_scope_call runs are c o depth decls decls_are a ns ca differ givable da ends has locals deep s agree k next =
      let fields : Coded = one (instr.Field o) in
      let tail : Coded = led instr.Enter fields in
      let absent : Coded = pass_absent 0 ns decls in
      let rest : Coded = then_code absent tail in
      let e1 = skip ends in
      let e2 = end_of ca e1 in
      let e3 = end_of absent e2 in
      let inner = rest_of tables code (instr.Scope c) (then_code ca rest) ends has in
      let in_rest = second_of tables code ca rest e1 inner in
      let last = second_of tables code absent tail e2 in_rest in
      let done = behind tables code items absent tail e2 locals (λ w. push w s) k
      (behind tables code items ca rest e1 locals (λ w. push w s) k next) in
      alike tables code _ _ _ (and_then_and_then (a locals) _ k)
      (acted tables code _ (instr.Scope c) _ has.instructions.0 (goes_on tables code _ _
      (subst (λ (l : List ItemDecl). Comes tables code (here (ends.place + 1) locals (pending c (no_values l) s))
      (and_then (a locals) (λ fs. and_then
      (giving (runs c (call_input 0 fs decls)) (λ outputs. known (slice_get outputs o))) k))) (sym decls_are)
      (da e1 (first_of tables code ca rest e1 inner) locals deep s agree c (no_values decls) _
      (λ fs is. passes_absent ns decls 0 e2 (first_of tables code absent tail e2 in_rest) locals s c
      (passed_to fs (no_values decls)) _
      (subst (λ (q : Items). Comes tables code (here e3.place locals (pending c q s))
      (and_then (giving (runs c (call_input 0 fs decls)) (λ outputs. known (slice_get outputs o))) k))
      (sym (ap (λ (l : List ℕ). absent_to 0 l decls (passed_to fs (no_values decls))) (sym is)
      ∙ passed_input_is fs decls (subst (λ (l : List ℕ). IsTrue (all_differ l)) (sym is) differ)))
      (acted tables code _ instr.Enter _ last.instructions.0
      (leads_alike tables code _ _ _ (and_then_and_then (runs c (call_input 0 fs decls)) _ k)
      (are.by c (call_input 0 fs decls)
      (subst (λ (l : List ItemDecl). AreGivable l (call_input 0 fs decls)) (sym decls_are) (givable fs is))
      (here e3.place locals s) _
      (λ outputs. acted tables code _ (instr.Field o) _ last.instructions.1.0
      (subst (λ (r : Result (List Value) Stop). Leads tables code
      (pushes (on_one r (λ vs. known (slice_get vs o))) (here (e3.place + 1) locals s))
      (and_then (plain (known (slice_get outputs o))) k)) (sym (parts_of outputs))
      (pushed tables code (known (slice_get outputs o)) (here (e3.place + 1) locals s) k done))))))))))))
