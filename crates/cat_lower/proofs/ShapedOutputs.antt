-- The places behind the items of a scope: its assertions, and its outputs, which are given back.
use Rattle.std.proofs.Common.{◌≡◌, ◌<◌, ℕ, suc, ◌+◌, Bool, true, false, true≢false, IsTrue, List, [], ◌∷◌, ◌++◌}
use Rattle.std.proofs.Common.{length, Some, None, slice_get, refl, sym, ap, ◌∙◌, subst, arith, if◌then◌else◌}
use Rattle.std.proofs.lemmas.Option.{slice_get_within}
use Rattle.cat_value.specs.declared.ty.Ty.{Ty}
use Rattle.cat_value.specs.declared.declaration.Kind.{Kind}
use Rattle.cat_value.specs.declared.declaration.Kind.TheVariants as kind
use Rattle.cat_value.specs.declared.declaration.ItemDecl.{ItemDecl}
use Rattle.cat_value.specs.Inputs.{is_output, outputs_in}
use Rattle.cat_value.specs.Laws.{AreSound}
use Rattle.cat_scope.specs.declared.defs.Assertion.{Assertion}
use Rattle.cat_scope.specs.Names.{AllHave, is_in, is_called, scope_items}
use Rattle.cat_scope.specs.Mentions.{items_named, scopes_named}
use Rattle.cat_scope.specs.WellFormed.{is_placed, is_internal}
use Rattle.cat_sound.specs.LowTypes.{names_at}
use Rattle.cat_sound.proofs.Exported.{listed_in}
use Rattle.cat_calc.specs.declared.calcs.CalcScope.{CalcScope}
use Rattle.cat_code.specs.declared.instr.Instr.{Instr}
use Rattle.cat_code.specs.declared.instr.Instr.TheVariants as instr
use Rattle.cat_code.specs.declared.code.Tables.{Tables}
use Rattle.cat_code.specs.Forms.{Form, Forms, Truth, Fields, More, form_of, in_row, items_forms, outputs_form}
use Rattle.cat_code.specs.Forms.{slot_form, same_form}
use Rattle.cat_code.specs.Shapes.{Owner, Shape}
use Rattle.cat_code.specs.Places.{case_places}
use Rattle.cat_code.specs.Shaped.{scope_entry}
use Rattle.cat_code.specs.Flow.{flow}
use Rattle.cat_code.specs.Wanted.{is_so}
use Rattle.cat_code.proofs.FormLaws.{same_self}
use Rattle.cat_lower.specs.Laying.{Coded, one, with_position, then_code, led}
use Rattle.cat_lower.specs.Pieces.{index_of}
use Rattle.cat_lower.specs.Scopes.{ScopeStanding, items_code, outputs_code, output_count}
use Rattle.cat_lower.specs.Lowered.{assertions_code, body_code}
use Rattle.cat_lower.proofs.Stacks.{append_none}
use Rattle.cat_lower.proofs.ScopeTerms.{AssertionSound, all_at}
use Rattle.cat_lower.proofs.Sketches.{Takes, Laid, laid_then, takes_one, takes_then, takes_nothing, takes_position}
use Rattle.cat_lower.proofs.Sketches.{sketch_step}
use Rattle.cat_lower.proofs.FilledSlots.{filled_from, filled_first, filled_read, index_within}
use Rattle.cat_lower.proofs.Ranks.{order_of, local_rank, Calls, entry}
use Rattle.cat_lower.proofs.ReadyItems.{ready, joined_have, all_go}
use Rattle.cat_lower.proofs.ShapedForms.{Deep, more, at, within_so}
use Rattle.cat_lower.proofs.ShapedParts.{slot_of, plain_form}
use Rattle.cat_lower.proofs.ShapedRows.{more_all, takes_pack}
use Rattle.cat_lower.proofs.ShapedCalls.{IsReached}
use Rattle.cat_lower.proofs.ShapedNames.{IsReady}
use Rattle.cat_lower.proofs.ShapedExpressions.{truth_shape}
use Rattle.cat_lower.proofs.ShapedItems.{ScopeFacts, IsBefore, called_assertions, reached_by, order_is}
use Rattle.cat_lower.proofs.ShapedScopes.{items_take, plain_so}

all_any : {A : Type 0} (P : A → Type 0) (xs : List A) → ((x : A) → P x) → AllHave P xs
all_any P [] each = tt
all_any P (x ∷ xs) each = (each x, all_any P xs each)

-- the types of the outputs among some items
abbrev pub output_forms : (Ty → Form) → List ItemDecl → List Form
output_forms form [] = []
output_forms form (item ∷ items) =
    if is_output item.kind then form item.ty ∷ output_forms form items else output_forms form items

outputs_are : (tables : Tables) (items : List ItemDecl)
    → in_row (output_forms (form_of tables.decls) items) ≡ items_forms tables.decls (outputs_in items)
outputs_are tables [] = refl
outputs_are tables (item ∷ items) = by (is_output item.kind) (outputs_are tables items)
  where
    by : (b : Bool) → in_row (output_forms (form_of tables.decls) items) ≡ items_forms tables.decls (outputs_in items)
        → in_row (if b then form_of tables.decls item.ty
        ∷ output_forms (form_of tables.decls) items else output_forms (form_of tables.decls) items)
        ≡ items_forms tables.decls (if b then item ∷ outputs_in items else outputs_in items)
    by true e = ap (λ (ts : Forms). More (form_of tables.decls item.ty) ts) e
    by false e = e

outputs_counted : (form : Ty → Form) (items : List ItemDecl) → length (output_forms form items) ≡ output_count items
outputs_counted form [] = refl
outputs_counted form (item ∷ items) = by (is_output item.kind) (outputs_counted form items)
  where
    by : (b : Bool) → length (output_forms form items) ≡ output_count items
        → length (if b then form item.ty ∷ output_forms form items else output_forms form items)
        ≡ (if b then 1 + output_count items else output_count items)
    by true e = omega (arith, e)
    by false e = e

output_no_call : (k : Kind) → is_output k ≡ true → is_called k ≡ false
output_no_call (kind.Called s) is = absurd (true≢false (sym is))
output_no_call kind.Input is = refl
output_no_call kind.InputOutput is = refl
output_no_call kind.Output is = refl
output_no_call kind.Internal is = refl
output_no_call kind.Context is = refl
output_no_call kind.ContextOutput is = refl

output_no_internal : (k : Kind) → is_output k ≡ true → is_internal k ≡ false
output_no_internal (kind.Called s) is = refl
output_no_internal kind.Input is = refl
output_no_internal kind.InputOutput is = refl
output_no_internal kind.Output is = refl
output_no_internal kind.Internal is = absurd (true≢false (sym is))
output_no_internal kind.Context is = refl
output_no_internal kind.ContextOutput is = refl

module _ (tables : Tables) (code : List Instr) (scopes : List CalcScope) (scope_order : List ℕ)
    (sound : AreSound tables.decls)
    (cases : tables.cases ≡ case_places 0 tables.decls.enumerations) (n functions definitions : ℕ) (terms : CalcScope)
    (facts : ScopeFacts tables scopes scope_order n functions definitions terms) where
  abbrev Items : List ItemDecl
  Items = scope_items tables.decls n

  abbrev M : Owner → Owner → Type 0
  M = Calls tables.decls scopes scope_order

  abbrev E : ℕ → Shape
  E = entry tables.decls scopes scope_order

  abbrev Own : Owner
  Own = record { scope = n; function = None }

  abbrev Done : List Bool
  Done = filled_from 0 Items terms.order

  abbrev T : Coded → Shape → Shape → Type 0
  T a s t = Takes tables code M E a s t

  abbrev none : Deep
  none = record { operands = []; defaults = []; loops = []; pending = [] }

  -- the body where all items are done
  abbrev All : Deep → Shape
  All d = at tables code M E Own Done [] d

  in_order : (k : ℕ) (item : ItemDecl) → slice_get Items k ≡ Some item → is_in k terms.order ≡ true
  in_order k item is = let once = facts.order.once k (slice_get_within Items k item is) in
      listed_in terms.order k (omega (arith, once))

  split : order_of scopes n ≡ terms.order ++ []
  split =
      order_is tables code scopes scope_order sound cases n functions definitions terms facts
      ∙ sym (append_none terms.order)

  rank : (k : ℕ) → is_in k terms.order ≡ true → index_of k (order_of scopes n) < local_rank tables.decls scopes Own
  rank k there =
      subst (λ (l : List ℕ). index_of k l < length l)
      (sym (order_is tables code scopes scope_order sound cases n functions definitions terms facts))
      (subst (λ (l : List ℕ). index_of k l < length terms.order) (append_none terms.order)
      (index_within k terms.order [] there))

  abbrev Ready : ℕ → Type 0
  Ready k = IsReady tables code M E Own Done terms.rounding functions definitions sound cases k

  -- whatever an assertion names is ready
  ready_any : (k : ℕ) → Ready k
  ready_any k = record {
    slot = λ item is plain. (by (in_order k item is)).slot item is plain;
    callee = λ item is function. (by (in_order k item is)).callee item is function;
  }
    where
      by : is_in k terms.order ≡ true → Ready k
      by there =
          ready tables code scopes scope_order n None terms.rounding functions definitions sound cases terms.order
          [] split rank facts.stand k there

  assertions_take : (as_told : List Assertion) → AllHave (AssertionSound (names_at tables.decls n)) as_told
      → AllHave (λ (a : Assertion). AllHave (IsReached tables code M E Own Done) (scopes_named a.condition)) as_told
      → T (assertions_code (record {
        names = names_at tables.decls n;
        rounding = terms.rounding;
        functions = functions;
        definitions =
            definitions;
      }) as_told)
      (All none) (All none)
  assertions_take [] g h = takes_nothing tables code M E (All none)
  assertions_take (a ∷ rest) g h =
      takes_then tables code M E _ _ (All none) (All (more Truth none)) (All none)
      (truth_shape tables code M E Own Done terms.rounding functions definitions sound cases g.0.typed g.0.placed tt
      (record { items = all_any Ready (items_named a.condition) ready_any; scopes = h.0 }) none tt)
      (takes_then tables code M E (with_position (λ p. instr.Assert p) a.keyword) _ (All (more Truth none)) (All none)
      (All none)
      (takes_position tables code M E (λ p. instr.Assert p) a.keyword (All (more Truth none)) (All none)
      (λ k p there. let within = within_so tables.positions k a.keyword there in rw within refl)
      (λ all k p. (tt, (refl, (tt, tt)))))
      (assertions_take rest g.1 h.1))

  outputs_take : (j : ℕ) (items : List ItemDecl) (d : Deep)
      → ((i : ℕ) (item : ItemDecl) → slice_get items i ≡ Some item → slice_get Items (j + i) ≡ Some item)
      → T (outputs_code j items) (All d) (All (more_all (output_forms (form_of tables.decls) items) d))
  outputs_take j [] d there = takes_nothing tables code M E (All d)
  outputs_take j (item ∷ items) d there =
      by (is_output item.kind) refl (λ d. outputs_take (j + 1) items d (λ i x at. moved i x (there (suc i) x at)))
    where
      moved : (i : ℕ) (x : ItemDecl) → slice_get Items (j + suc i) ≡ Some x → slice_get Items ((j + 1) + i) ≡ Some x
      moved i x at = let e : (j + 1) + i ≡ j + suc i = omega arith in ap (λ m. slice_get Items m) e ∙ at

      first : slice_get Items j ≡ Some item
      first = let e : j ≡ j + 0 = omega arith in ap (λ m. slice_get Items m) e ∙ there 0 item refl

      so : is_placed item ≡ true
      so = all_at (λ item. IsTrue (is_placed item)) Items j item facts.sound.placed first

      full : is_output item.kind ≡ true → is_so (slice_get Done j) ≡ true
      full out =
          let e : 0 + j ≡ j = omega arith in
          filled_read 0 Items terms.order j item first (ap (λ m. is_in m terms.order) e ∙ in_order j item first)
          (plain_so item so (output_no_internal item.kind out))

      slot : is_output item.kind ≡ true → slot_form tables.decls n j ≡ Some (form_of tables.decls item.ty)
      slot out =
          slot_of tables n j item first
          ∙ ap (λ (f : Form). Some f) (plain_form tables item (output_no_call item.kind out))

      by : (b : Bool) → is_output item.kind ≡ b
          → ((d : Deep) → T (outputs_code (j + 1) items) (All d)
          (All (more_all (output_forms (form_of tables.decls) items) d)))
          → T (if b then led (instr.Slot j) (outputs_code (j + 1) items) else outputs_code (j + 1) items) (All d)
          (All (more_all (if b then form_of tables.decls item.ty
          ∷ output_forms (form_of tables.decls) items else output_forms (form_of tables.decls) items) d))
      by true out rest =
          takes_then tables code M E (one (instr.Slot j)) (outputs_code (j + 1) items) (All d)
          (All (more (form_of tables.decls item.ty) d)) _
          (takes_one tables code M E (instr.Slot j) (All d) (All (more (form_of tables.decls item.ty) d))
          (λ p. let f = full out in let s = slot out in rw (f, s) refl) (λ all p. (tt, (refl, (tt, tt)))))
          (rest (more (form_of tables.decls item.ty) d))
      by false out rest = rest d

  -- the scope as its code is told by it
  abbrev pub Told : ScopeStanding
  Told = record {
    number = n;
    here =
        record {
          names = names_at tables.decls n;
          rounding = terms.rounding;
          functions = functions;
          definitions =
              definitions;
        };
    scope = terms;
  }

  -- the body of a scope, from its entry on
  pub body_laid : Laid tables code M E (body_code Told) (scope_entry n Items) (λ all p. Unit {0})
  body_laid =
      let outs = output_forms (form_of tables.decls) Items in
      let given = All (more (Fields (in_row outs)) none) in
      let last : Coded = led (instr.Pack (output_count Items)) (one instr.Return) in
      let behind : Coded = then_code (outputs_code 0 Items) last in
      let claims : Coded = assertions_code Told.here terms.assertions in
      subst (λ (done : List Bool). Laid tables code M E (body_code Told) (at tables code M E Own done [] none)
      (λ all p. Unit {0})) (filled_first 0 Items)
      (laid_then tables code M E (items_code Told terms.order) (then_code claims behind)
      (at tables code M E Own (filled_from 0 Items []) [] none) (All none)
      (λ all p. Unit {0})
      (items_take tables code scopes scope_order sound cases n functions definitions terms facts [] terms.order refl)
      (laid_then tables code M E claims behind (All none) (All none) (λ all p. Unit {0})
      (assertions_take terms.assertions facts.sound.assertions
      (all_go (λ (a : Assertion). AllHave (IsBefore tables scope_order n) (scopes_named a.condition))
      (λ (a : Assertion). AllHave (IsReached tables code M E Own Done) (scopes_named a.condition)) terms.assertions
      (λ a. all_go (IsBefore tables scope_order n) (IsReached tables code M E Own Done) (scopes_named a.condition)
      (reached_by tables code scopes scope_order sound cases n functions definitions terms facts None Done))
      (joined_have (IsBefore tables scope_order n) (λ (a : Assertion). scopes_named a.condition) terms.assertions
      (called_assertions tables code scopes scope_order sound cases n functions definitions terms facts))))
      (laid_then tables code M E (outputs_code 0 Items) last (All none) (All (more_all outs none)) (λ all p. Unit {0})
      (outputs_take 0 Items none (λ i item at. let e : 0 + i ≡ i = omega arith in ap (λ m. slice_get Items m) e ∙ at))
      (laid_then tables code M E (one (instr.Pack (output_count Items))) (one instr.Return)
      (All (more_all outs none)) given (λ all p. Unit {0})
      (takes_pack tables code M E Own Done (output_count Items) [] outs none
      (outputs_counted (form_of tables.decls) Items))
      (λ ends has.
      sketch_step tables code M E ends instr.Return [] [] given (λ all. Unit {0}) [] (flows ends.place) tt
      (λ all known after. tt)
      (λ all after. (tt, (refl, (tt, tt)))))))))
    where
      flows : (p : ℕ) → flow tables code instr.Return p
          (All (more (Fields (in_row (output_forms (form_of tables.decls) Items))) none)) ≡ Some []
      flows p =
          let same : same_form (Fields (in_row (output_forms (form_of tables.decls) Items)))
          (outputs_form tables.decls n) ≡ true
          = ap (λ (ts : Forms). same_form (Fields ts) (outputs_form tables.decls n)) (outputs_are tables Items)
          ∙ same_self (outputs_form tables.decls n) in
          rw same refl
