-- Where instructions of calls lead.
use Rattle.std.proofs.Common.{◌≡◌, ℕ, ◌+◌, nat_eq, nat_lt, ◌&&◌, Bool, true, false, List, []}
use Rattle.std.proofs.Common.{◌∷◌}
use Rattle.std.proofs.Common.{length, map, Some, None, slice_get, slice_set, refl, sym, ap, ◌∙◌, arith}
use Rattle.std.proofs.lemmas.Bool.Decides.{nat_tests}
use Rattle.std.specs.Prelude.{Ok, Err, replicate}
use Rattle.cat_value.specs.declared.declaration.Scope.{Scope}
use Rattle.cat_scope.specs.Names.{has_none, scope_items}
use Rattle.cat_code.specs.declared.instr.Instr.TheVariants as instr
use Rattle.cat_code.specs.declared.code.Tables.{Tables}
use Rattle.cat_code.specs.Forms.{Form, slot_form, outputs_form}
use Rattle.cat_code.specs.Shapes as meant
use Rattle.cat_code.specs.Wanted.{is_pending_inside, are_passed}
use Rattle.cat_code.specs.Leads.{Flow, leads, with, where_so, top, pushed, pop_as}
use Rattle.cat_code.specs.Told.{result_form}
use Rattle.cat_code.specs.Flow.{flow}
use Rattle.cat_verify_shapes.specs.declared.forms.Forms.{Forms}
use Rattle.cat_verify_shapes.specs.declared.shape.Shape.{Shape}
use Rattle.cat_verify_shapes.specs.declared.shape.PendingShape.{PendingShape}
use Rattle.cat_verify_shapes.specs.declared.leads.Leads.{Leads}
use Rattle.cat_verify_shapes.specs.declared.leads.Leads.TheVariants as to
use Rattle.cat_verify_shapes.specs.declared.leads.Stuck.TheVariants as stuck
use Rattle.cat_verify_shapes.specs.Owned.{owner_of}
use Rattle.cat_verify_shapes.specs.inside.Senses.{Senses, AreSenses, StandsIn}
use Rattle.cat_verify_shapes.specs.inside.Told.{frame_of, loop_of, pending_of, shape_of, leads_of, Tells}
use Rattle.cat_verify_shapes.specs.inside.Taking.{Takes, own_pending, is_bare}
use Rattle.cat_verify_shapes.proofs.FrameLemmas.{pending_test, none_is}
use Rattle.cat_verify_shapes.proofs.StepLemmas.{with_is, with_not, where_is, where_not, as_so, as_not}

some_own : (a : ℕ) → nat_lt a 1 ≡ false → nat_lt 0 a ≡ true
some_own a e = grind (arith, nat_tests)

none_own : (a : ℕ) → nat_lt a 1 ≡ true → nat_lt 0 a ≡ false
none_own a e = grind (arith, nat_tests)

takes_with : (r q : Shape) (n : ℕ) (b : Bool) (ps : List PendingShape) → Takes r q n b
    → Takes (record r { pending = ps }) (record q { pending = ps }) n b
takes_with r q n true ps takes = ap (λ (x : Shape). record x { pending = ps }) takes
takes_with r q n false ps takes = takes

module _ (tables : Tables) (forms : Forms) (p : ℕ) where
  -- ---- scope

  pub scope_nowhere : (s : Shape) (n : ℕ) → slice_get tables.decls.scopes n ≡ None
      → Tells tables forms (Err stuck.Bad) (flow tables [] (instr.Scope n) p) s
  scope_nowhere s n e = λ d h.
      with_not (slice_get tables.decls.scopes n) (λ scope. leads (p + 1) (record (shape_of d s) {
        pending = record { scope = n; passed = replicate (length scope.items) false } ∷ map pending_of s.pending;
      })) (sym e)

  pub scope_so : (s : Shape) (n : ℕ) (scope : Scope) (passed : List Bool) (pending : List PendingShape)
      → slice_get tables.decls.scopes n ≡ Some scope → passed ≡ replicate (length scope.items) false
      → pending ≡ record { scope = n; passed = passed } ∷ s.pending
      → Tells tables forms (Ok (to.One (p + 1) (record s { pending = pending }))) (flow tables [] (instr.Scope n) p) s
  scope_so s n scope passed pending e none more = λ d h.
      with_is (slice_get tables.decls.scopes n) scope (λ scope. leads (p + 1) (record (shape_of d s) {
        pending = record { scope = n; passed = replicate (length scope.items) false } ∷ map pending_of s.pending;
      })) (sym e)
      ∙ ap (λ (bs : List Bool). leads (p + 1) (record (shape_of d s) {
        pending = record { scope = n; passed = bs } ∷ map pending_of s.pending;
      })) (sym none)
      ∙ ap (λ (ps : List PendingShape). leads (p + 1) (shape_of d (record s { pending = ps }))) (sym more)

  -- ---- pass

  abbrev passed_on : ℕ → Senses → Shape → Flow
  passed_on i d s = top (map pending_of s.pending) (λ q qs. with (slot_form tables.decls q.scope i)
      (λ t. pop_as t (shape_of d s)
      (λ x. leads (p + 1) (record x { pending = record q { passed = slice_set q.passed i true } ∷ qs }))))

  abbrev passing : ℕ → PendingShape → List PendingShape → meant.Shape → Flow
  passing i q qs x = leads (p + 1) (record x {
    pending = record (pending_of q) { passed = slice_set q.passed i true } ∷ map pending_of qs;
  })

  pub pass_outside : (s : Shape) (i : ℕ) → nat_lt (own_pending s) 1 ≡ true
      → Tells tables forms (Err stuck.Bad) (flow tables [] (instr.Pass i) p) s
  pass_outside s i e = λ d h.
      where_not (is_pending_inside (shape_of d s).loops (shape_of d s).pending) (passed_on i d s)
      (pending_test d s ∙ none_own (own_pending s) e)

  pass_on : (d : Senses) (s : Shape) (i : ℕ) → nat_lt (own_pending s) 1 ≡ false
      → flow tables [] (instr.Pass i) p (shape_of d s) ≡ passed_on i d s
  pass_on d s i e =
      where_is (is_pending_inside (shape_of d s).loops (shape_of d s).pending) (passed_on i d s)
      (pending_test d s ∙ some_own (own_pending s) e)

  pub pass_nothing : (s : Shape) (i : ℕ) → nat_lt (own_pending s) 1 ≡ false → s.pending ≡ []
      → Tells tables forms (Err stuck.Bad) (flow tables [] (instr.Pass i) p) s
  pass_nothing s i e none = λ d h.
      pass_on d s i e
      ∙ ap (λ (ps : List PendingShape). top (map pending_of ps) (λ q qs. with (slot_form tables.decls q.scope i)
      (λ t. pop_as t (shape_of d s)
      (λ x. leads (p + 1) (record x { pending = record q { passed = slice_set q.passed i true } ∷ qs }))))) none

  passed_is : (d : Senses) (s r : Shape) (i : ℕ) (q : PendingShape) → nat_lt (own_pending s) 1 ≡ false
      → s ≡ record r { pending = q ∷ r.pending }
      → flow tables [] (instr.Pass i) p (shape_of d s)
      ≡ with (slot_form tables.decls q.scope i)
      (λ t. pop_as t (shape_of d (record r { pending = q ∷ r.pending })) (passing i q r.pending))
  passed_is d s r i q e is = pass_on d s i e ∙ ap (passed_on i d) is

  pub pass_nowhere : (s r : Shape) (i : ℕ) (q : PendingShape) → nat_lt (own_pending s) 1 ≡ false
      → s ≡ record r { pending = q ∷ r.pending }
      → StandsIn tables.decls forms None (slot_form tables.decls q.scope i)
      → Tells tables forms (Err stuck.Bad) (flow tables [] (instr.Pass i) p) s
  pass_nowhere s r i q e is stands = λ d h.
      passed_is d s r i q e is
      ∙ with_not (slot_form tables.decls q.scope i)
      (λ t. pop_as t (shape_of d (record r { pending = q ∷ r.pending })) (passing i q r.pending)) (stands d h)

  passed_to : (d : Senses) → AreSenses tables.decls forms d → (s r : Shape) (i n : ℕ) (q : PendingShape)
      → nat_lt (own_pending s) 1 ≡ false → s ≡ record r { pending = q ∷ r.pending }
      → StandsIn tables.decls forms (Some n) (slot_form tables.decls q.scope i)
      → flow tables [] (instr.Pass i) p (shape_of d s)
      ≡ pop_as (d.one n) (shape_of d (record r { pending = q ∷ r.pending })) (passing i q r.pending)
  passed_to d h s r i n q e is stands =
      passed_is d s r i q e is
      ∙ with_is (slot_form tables.decls q.scope i) (d.one n)
      (λ t. pop_as t (shape_of d (record r { pending = q ∷ r.pending })) (passing i q r.pending)) (stands d h)

  pub pass_unlike : (s r u : Shape) (i n : ℕ) (q : PendingShape) → nat_lt (own_pending s) 1 ≡ false
      → s ≡ record r { pending = q ∷ r.pending }
      → StandsIn tables.decls forms (Some n) (slot_form tables.decls q.scope i) → Takes r u n false
      → Tells tables forms (Err stuck.Bad) (flow tables [] (instr.Pass i) p) s
  pass_unlike s r u i n q e is stands takes = λ d h.
      passed_to d h s r i n q e is stands
      ∙ as_not d h.apart (record r { pending = q ∷ r.pending }) (record u { pending = q ∷ r.pending }) n (d.one n)
      (passing i q r.pending) refl (takes_with r u n false (q ∷ r.pending) takes)

  pub pass_so : (s r u : Shape) (i n : ℕ) (q : PendingShape) (passed : List Bool) (pending : List PendingShape)
      → nat_lt (own_pending s) 1 ≡ false → s ≡ record r { pending = q ∷ r.pending }
      → StandsIn tables.decls forms (Some n) (slot_form tables.decls q.scope i) → Takes r u n true
      → passed ≡ slice_set q.passed i true → pending ≡ record { scope = q.scope; passed = passed } ∷ u.pending
      → Tells tables forms (Ok (to.One (p + 1) (record u { pending = pending }))) (flow tables [] (instr.Pass i) p) s
  pass_so s r u i n q passed pending e is stands takes set more = λ d h.
      passed_to d h s r i n q e is stands
      ∙ as_so d h.apart (record r { pending = q ∷ r.pending }) (record u { pending = q ∷ r.pending }) n (d.one n)
      (passing i q r.pending) refl (takes_with r u n true (q ∷ r.pending) takes)
      ∙ ap (λ (ps : List PendingShape). leads (p + 1) (record (shape_of d u) {
        pending = record (pending_of q) { passed = slice_set q.passed i true } ∷ map pending_of ps;
      })) (ap (λ (x : Shape). x.pending) takes)
      ∙ ap (λ (bs : List Bool). leads (p + 1) (record (shape_of d u) {
        pending = record (pending_of q) { passed = bs } ∷ map pending_of u.pending;
      })) (sym set)
      ∙ ap (λ (ps : List PendingShape). leads (p + 1) (shape_of d (record u { pending = ps }))) (sym more)

  -- ---- enter

  abbrev entered_on : Senses → Shape → Flow
  entered_on d s = top (map pending_of s.pending)
      (λ q qs. where_so (are_passed (scope_items tables.decls q.scope) q.passed)
      (leads (p + 1) (pushed (outputs_form tables.decls q.scope) (record (shape_of d s) { pending = qs }))))

  pub enter_outside : (s : Shape) → nat_lt (own_pending s) 1 ≡ true
      → Tells tables forms (Err stuck.Bad) (flow tables [] instr.Enter p) s
  enter_outside s e = λ d h.
      where_not (is_pending_inside (shape_of d s).loops (shape_of d s).pending) (entered_on d s)
      (pending_test d s ∙ none_own (own_pending s) e)

  enter_on : (d : Senses) (s : Shape) → nat_lt (own_pending s) 1 ≡ false
      → flow tables [] instr.Enter p (shape_of d s) ≡ entered_on d s
  enter_on d s e =
      where_is (is_pending_inside (shape_of d s).loops (shape_of d s).pending) (entered_on d s)
      (pending_test d s ∙ some_own (own_pending s) e)

  pub enter_nothing : (s : Shape) → nat_lt (own_pending s) 1 ≡ false → s.pending ≡ []
      → Tells tables forms (Err stuck.Bad) (flow tables [] instr.Enter p) s
  enter_nothing s e none = λ d h.
      enter_on d s e
      ∙ ap (λ (ps : List PendingShape). top (map pending_of ps)
      (λ q qs. where_so (are_passed (scope_items tables.decls q.scope) q.passed)
      (leads (p + 1) (pushed (outputs_form tables.decls q.scope) (record (shape_of d s) { pending = qs }))))) none

  pub enter_unready : (s r : Shape) (q : PendingShape) → nat_lt (own_pending s) 1 ≡ false
      → s ≡ record r { pending = q ∷ r.pending } → are_passed (scope_items tables.decls q.scope) q.passed ≡ false
      → Tells tables forms (Err stuck.Bad) (flow tables [] instr.Enter p) s
  enter_unready s r q e is lacks = λ d h.
      enter_on d s e ∙ ap (entered_on d) is
      ∙ where_not (are_passed (scope_items tables.decls q.scope) q.passed)
      (leads (p + 1) (pushed (outputs_form tables.decls q.scope) (shape_of d r))) lacks

  pub enter_so : (s r : Shape) (q : PendingShape) (n : ℕ) (l : Leads) → nat_lt (own_pending s) 1 ≡ false
      → s ≡ record r { pending = q ∷ r.pending } → are_passed (scope_items tables.decls q.scope) q.passed ≡ true
      → slice_get forms.outputs q.scope ≡ Some n → l ≡ to.One (p + 1) (record r { operands = n ∷ r.operands })
      → Tells tables forms (Ok l) (flow tables [] instr.Enter p) s
  enter_so s r q n l e is has at led = λ d h.
      enter_on d s e ∙ ap (entered_on d) is
      ∙ where_is (are_passed (scope_items tables.decls q.scope) q.passed)
      (leads (p + 1) (pushed (outputs_form tables.decls q.scope) (shape_of d r))) has
      ∙ ap (λ (t : Form). leads (p + 1) (pushed t (shape_of d r))) (sym (h.outputs q.scope n at))
      ∙ ap (λ (x : Leads). Some (leads_of d x)) (sym led)

  -- ---- return

  bare_is : (d : Senses) (s : Shape)
      → (has_none (map d.one s.operands) && has_none (map (frame_of d) s.defaults)
      && has_none (map (loop_of d) s.loops) && has_none (map pending_of s.pending)) ≡ is_bare s
  bare_is d s =
      ap (λ (b : Bool). b && has_none (map (frame_of d) s.defaults) && has_none (map (loop_of d) s.loops)
      && has_none (map pending_of s.pending)) (none_is d.one s.operands)
      ∙ ap (λ (b : Bool). nat_eq (length s.operands) 0 && b && has_none (map (loop_of d) s.loops)
      && has_none (map pending_of s.pending)) (none_is (frame_of d) s.defaults)
      ∙ ap (λ (b : Bool). nat_eq (length s.operands) 0 && nat_eq (length s.defaults) 0 && b
      && has_none (map pending_of s.pending)) (none_is (loop_of d) s.loops)
      ∙ ap (λ (b : Bool). nat_eq (length s.operands) 0 && nat_eq (length s.defaults) 0 && nat_eq (length s.loops) 0 &&
      b)
      (none_is pending_of s.pending)

  abbrev returning : meant.Shape → Flow
  returning x =
      where_so (has_none x.operands && has_none x.defaults && has_none x.loops && has_none x.pending) (Some [])

  pub return_nothing : (s : Shape) → StandsIn tables.decls forms None (result_form tables (owner_of s.owner))
      → Tells tables forms (Err stuck.Bad) (flow tables [] instr.Return p) s
  return_nothing s stands = λ d h.
      with_not (result_form tables (owner_of s.owner)) (λ t. pop_as t (shape_of d s) returning) (stands d h)

  return_is : (d : Senses) → AreSenses tables.decls forms d → (s : Shape) (n : ℕ)
      → StandsIn tables.decls forms (Some n) (result_form tables (owner_of s.owner))
      → flow tables [] instr.Return p (shape_of d s) ≡ pop_as (d.one n) (shape_of d s) returning
  return_is d h s n stands =
      with_is (result_form tables (owner_of s.owner)) (d.one n) (λ t. pop_as t (shape_of d s) returning) (stands d h)

  pub return_unlike : (s r : Shape) (n : ℕ)
      → StandsIn tables.decls forms (Some n) (result_form tables (owner_of s.owner)) → Takes s r n false
      → Tells tables forms (Err stuck.Bad) (flow tables [] instr.Return p) s
  return_unlike s r n stands takes = λ d h.
      return_is d h s n stands ∙ as_not d h.apart s r n (d.one n) returning refl takes

  pub return_open : (s r : Shape) (n : ℕ)
      → StandsIn tables.decls forms (Some n) (result_form tables (owner_of s.owner)) → Takes s r n true
      → is_bare r ≡ false → Tells tables forms (Err stuck.Bad) (flow tables [] instr.Return p) s
  return_open s r n stands takes left = λ d h.
      return_is d h s n stands ∙ as_so d h.apart s r n (d.one n) returning refl takes
      ∙ ap (λ (b : Bool). where_so b (Some [])) (bare_is d r ∙ left)

  pub return_so : (s r : Shape) (n : ℕ)
      → StandsIn tables.decls forms (Some n) (result_form tables (owner_of s.owner)) → Takes s r n true
      → is_bare r ≡ true → Tells tables forms (Ok to.Nowhere) (flow tables [] instr.Return p) s
  return_so s r n stands takes bare = λ d h.
      return_is d h s n stands ∙ as_so d h.apart s r n (d.one n) returning refl takes
      ∙ ap (λ (b : Bool). where_so b (Some [])) (bare_is d r ∙ bare)
