-- Where an instruction leads: to places of the same owner, with a loop more open or one less, and to where a function
-- begins that it calls.
use Rattle.std.proofs.Common.{◌≡◌, ℕ, ◌+◌, ◌-◌, nat_eq, nat_le, nat_lt, ◌&&◌, true, false}
use Rattle.std.proofs.Common.{List, [], ◌∷◌, ◌++◌, length, take, Option, Some, None, slice_get, slice_set, refl}
use Rattle.std.proofs.Common.{◌∙◌, inl, inr, map}
use Rattle.std.proofs.lemmas.Bool.{and_parts}
use Rattle.std.specs.Prelude.{is_none, replicate}
use Rattle.cat_value.specs.declared.ty.Ty.{Ty}
use Rattle.cat_value.specs.declared.declaration.Scope.{Scope}
use Rattle.cat_value.specs.Entries.{content_of}
use Rattle.cat_scope.specs.Names.{has_none, scope_items, AllHave}
use Rattle.cat_scope.specs.Signatures.{signatures_of, taken_by, given_by}
use Rattle.cat_code.specs.declared.instr.Instr.{Instr}
use Rattle.cat_code.specs.declared.instr.Instr.TheVariants as instr
use Rattle.cat_code.specs.declared.code.Tables.{Tables}
use Rattle.cat_code.specs.Operations.{Operation, Before, Between, operation, roundings}
use Rattle.cat_code.specs.Forms.{Form, Truth, Whole, Many, Fields, OneOf, in_row, same_form, form_at, form_of}
use Rattle.cat_code.specs.Forms.{slot_form, outputs_form}
use Rattle.cat_code.specs.Shapes.{LoopShape, Shape, Owner}
use Rattle.cat_code.specs.Places.{function_places, target_form, FunctionPlace}
use Rattle.cat_code.specs.Wanted.{all_same, are_params, signed, is_so, frames_inside, is_pending_inside, are_passed}
use Rattle.cat_code.specs.Leads.{leads, leads_two, with, where_so, top, pushed, pop, pop_as, pop_all}
use Rattle.cat_code.specs.Leads.{elements_of, fields_of, operated, begins, loop_ended, function_entry}
use Rattle.cat_code.specs.Told.{case_asked, collected_by, constant_form, result_form, is_scope}
use Rattle.cat_code.specs.Flow.{flow}
use Rattle.cat_verify_shapes.specs.Belonging.{function_owner, leads_on}
use Rattle.cat_verify_shapes.proofs.FlowCases.{FlowAll, with_all, where_all, top_all, pop_all_of, as_all, popped_all}
use Rattle.cat_verify_shapes.proofs.FlowCases.{elements_all, fields_all, collected_all, gives_all}
use Rattle.cat_verify_shapes.proofs.OpenLoops.{LoopsOf, begins_new, ended_loops}

-- ---- places with owners

abbrev pub owned : ℕ → Owner → ℕ × Owner
owned q owner = (q, owner)

-- the places of a flow, each with the owner of its shape
abbrev pub owned_places : List (ℕ × Shape) → List (ℕ × Owner)
owned_places to = map (λ next. owned next.0 next.1.owner) to

-- behind a call, and to where a function of the caller's scope begins
pub record EntersFunction (tables : Tables) (f p : ℕ) (owner : Owner) (to : List (ℕ × Shape)) : Type 0 where
  pub place : FunctionPlace
  pub entry : ℕ
  pub place_is : slice_get (function_places tables.decls) f ≡ Some place
  pub entry_is : slice_get tables.functions f ≡ Some entry
  pub home : nat_eq place.scope owner.scope ≡ true
  pub places : owned_places to ≡ owned (p + 1) owner ∷ owned entry (function_owner f place) ∷ []

-- to the places to which an instruction leads on, for the same owner
abbrev pub LeadsTo : Tables → Instr → ℕ → Owner → List (ℕ × Shape) → Type 0
LeadsTo tables (instr.Call f n) p owner to = EntersFunction tables f p owner to
LeadsTo tables i p owner to = owned_places to ≡ map (λ q. owned q owner) (leads_on i p)

-- with these loops open
abbrev pub GoesTo : Tables → Instr → ℕ → Shape → List (ℕ × Shape) → Type 0
GoesTo tables i p s to = LeadsTo tables i p s.owner to × AllHave (LoopsOf p s) to

ended_to : (c : Option Form) (element : Form) (p : ℕ) (s : Shape) (ls : List LoopShape) (t : ℕ)
    → owned_places ((p + 1, pushed element s) ∷ (t, loop_ended c (record s { loops = ls })) ∷ [])
    ≡ owned (p + 1) s.owner ∷ owned t s.owner ∷ []
ended_to None element p s ls t = refl
ended_to (Some c) element p s ls t = refl

-- ---- each instruction

module _ (tables : Tables) (p : ℕ) (s : Shape) (Lead : List (ℕ × Shape) → Type 0) where
  operated_to : (form : Ty → Form) (o : Operation)
      → ((t : Form) (ts : List Form) → Lead ((p + 1, pushed t (record s { operands = ts })) ∷ []))
      → FlowAll Lead (operated form o p s)
  operated_to form (Before o) lead =
      as_all Lead (form (taken_by o)) s (λ s. leads (p + 1) (pushed (form (given_by o)) s))
      (λ ts. lead (form (given_by o)) ts)
  operated_to form (Between o) lead =
      pop_all_of Lead s
      (λ u s. pop s (λ t s. with (signed form (signatures_of o) t u) (λ r. leads (p + 1) (pushed (form r) s))))
      (λ u ts. pop_all_of Lead (record s { operands = ts })
      (λ t s. with (signed form (signatures_of o) t u) (λ r. leads (p + 1) (pushed (form r) s)))
      (λ t us. with_all Lead (signed form (signatures_of o) t u)
      (λ r. leads (p + 1) (pushed (form r) (record s { operands = us })))
      (λ r. lead (form r) us)))

  call_to : (place : Option FunctionPlace) (entry : Option ℕ) (f n : ℕ)
      → slice_get (function_places tables.decls) f ≡ place → slice_get tables.functions f ≡ entry
      → ((to : List (ℕ × Shape)) → GoesTo tables (instr.Call f n) p s to → Lead to)
      → FlowAll Lead
      (with place (λ place. with entry
      (λ entry. where_so (nat_eq place.scope s.owner.scope && nat_eq n (length place.decl.params))
      (pop_all n s (λ ts s. where_so (are_params (form_of tables.decls) place.decl.params ts)
      (leads_two (p + 1) (pushed (form_of tables.decls place.decl.ty) s) entry
      (function_entry (form_of tables.decls) f place s)))))))
  call_to None entry f n is at lead = tt
  call_to (Some place) None f n is at lead = tt
  call_to (Some place) (Some entry) f n is at lead =
      where_all Lead (nat_eq place.scope s.owner.scope && nat_eq n (length place.decl.params))
      (pop_all n s (λ ts s. where_so (are_params (form_of tables.decls) place.decl.params ts)
      (leads_two (p + 1) (pushed (form_of tables.decls place.decl.ty) s) entry
      (function_entry (form_of tables.decls) f place s))))
      (λ so. popped_all Lead n [] s s.operands
      (λ ts s. where_so (are_params (form_of tables.decls) place.decl.params ts)
      (leads_two (p + 1) (pushed (form_of tables.decls place.decl.ty) s) entry
      (function_entry (form_of tables.decls) f place s)))
      (λ ts us. where_all Lead (are_params (form_of tables.decls) place.decl.params ts)
      (leads_two (p + 1) (pushed (form_of tables.decls place.decl.ty) (record s { operands = us })) entry
      (function_entry (form_of tables.decls) f place (record s { operands = us })))
      (λ e. lead _ (
        record {
          place = place;
          entry = entry;
          place_is = is;
          entry_is = at;
          home = (and_parts (nat_eq place.scope s.owner.scope) (nat_eq n (length place.decl.params)) so).0;
          places = refl;
        },
        (inl refl, (inr (inr (inr refl)), tt)),
      ))))

  pub flow_to : (code : List Instr) (i : Instr)
      → ((to : List (ℕ × Shape)) → GoesTo tables i p s to → Lead to) → FlowAll Lead (flow tables code i p s)
  flow_to code (instr.Const n) lead =
      gives_all Lead (constant_form tables n) (p + 1) s (λ t. lead _ (refl, (inl refl, tt)))
  flow_to code (instr.Slot i) lead =
      where_all Lead (is_so (slice_get s.filled i))
      (with (slot_form tables.decls s.owner.scope i) (λ t. leads (p + 1) (pushed t s)))
      (λ e. gives_all Lead (slot_form tables.decls s.owner.scope i) (p + 1) s
      (λ t. lead _ (refl, (inl refl, tt))))
  flow_to code (instr.Local i) lead =
      gives_all Lead (slice_get s.locals i) (p + 1) s (λ t. lead _ (refl, (inl refl, tt)))
  flow_to code (instr.Store i) lead =
      where_all Lead (is_scope s.owner)
      (with (slot_form tables.decls s.owner.scope i)
      (λ t. pop_as t s (λ s. leads (p + 1) (record s { filled = slice_set s.filled i true }))))
      (λ e. with_all Lead (slot_form tables.decls s.owner.scope i)
      (λ t. pop_as t s (λ s. leads (p + 1) (record s { filled = slice_set s.filled i true })))
      (λ t. as_all Lead t s (λ s. leads (p + 1) (record s { filled = slice_set s.filled i true }))
      (λ ts. lead _ (refl, (inl refl, tt)))))
  flow_to code instr.Bind lead =
      pop_all_of Lead s (λ t s. leads (p + 1) (record s { locals = s.locals ++ t ∷ [] }))
      (λ t ts. lead _ (refl, (inl refl, tt)))
  flow_to code (instr.Drop n) lead =
      where_all Lead (nat_le n (length s.locals))
      (leads (p + 1) (record s { locals = take (length s.locals - n) s.locals }))
      (λ e. lead _ (refl, (inl refl, tt)))
  flow_to code (instr.Given i t) lead =
      where_all Lead (nat_lt i (length s.filled))
      (leads_two (p + 1) s t (record s { filled = slice_set s.filled i true }))
      (λ e. lead _ (refl, (inl refl, (inl refl, tt))))
  flow_to code (instr.Jump t) lead = lead _ (refl, (inl refl, tt))
  flow_to code (instr.JumpFalse t) lead =
      as_all Lead Truth s (λ s. leads_two (p + 1) s t s)
      (λ ts. lead _ (refl, (inl refl, (inl refl, tt))))
  flow_to code (instr.Op n r q) lead =
      where_all Lead (nat_lt r (length roundings) && nat_lt q (length tables.positions))
      (with (operation n) (λ o. operated (form_of tables.decls) o p s))
      (λ e. with_all Lead (operation n) (λ o. operated (form_of tables.decls) o p s)
      (λ o. operated_to (form_of tables.decls) o (λ t ts. lead _ (refl, (inl refl, tt)))))
  flow_to code (instr.Pack n) lead =
      popped_all Lead n [] s s.operands (λ ts s. leads (p + 1) (pushed (Fields (in_row ts)) s))
      (λ ts us. lead _ (refl, (inl refl, tt)))
  flow_to code (instr.List n) lead =
      popped_all Lead n [] s s.operands
      (λ ts s. top ts (λ t us. where_so (all_same t us) (leads (p + 1) (pushed (Many t) s))))
      (λ ts us. top_all Lead ts
      (λ t rest. where_so (all_same t rest) (leads (p + 1) (pushed (Many t) (record s { operands = us }))))
      (λ t rest e. where_all Lead (all_same t rest) (leads (p + 1) (pushed (Many t) (record s { operands = us })))
      (λ e. lead _ (refl, (inl refl, tt)))))
  flow_to code (instr.Field i) lead =
      pop_all_of Lead s (λ t s. fields_of t (λ ts. with (form_at ts i) (λ u. leads (p + 1) (pushed u s))))
      (λ t us. fields_all Lead t
      (λ ts. with (form_at ts i) (λ u. leads (p + 1) (pushed u (record s { operands = us }))))
      (λ ts. gives_all Lead (form_at ts i) (p + 1) (record s { operands = us })
      (λ u. lead _ (refl, (inl refl, tt)))))
  flow_to code (instr.Tag c) lead =
      with_all Lead (slice_get tables.cases c)
      (λ place. with (content_of tables.decls place.enumeration place.case) (λ content. with content
      (λ t. pop_as (form_of tables.decls t) s (λ s. leads (p + 1) (pushed (OneOf place.enumeration) s)))))
      (λ place. with_all Lead (content_of tables.decls place.enumeration place.case)
      (λ content. with content
      (λ t. pop_as (form_of tables.decls t) s (λ s. leads (p + 1) (pushed (OneOf place.enumeration) s))))
      (λ content. with_all Lead content
      (λ t. pop_as (form_of tables.decls t) s (λ s. leads (p + 1) (pushed (OneOf place.enumeration) s)))
      (λ t. as_all Lead (form_of tables.decls t) s (λ s. leads (p + 1) (pushed (OneOf place.enumeration) s))
      (λ ts. lead _ (refl, (inl refl, tt))))))
  flow_to code (instr.TagNone c) lead =
      with_all Lead (slice_get tables.cases c)
      (λ place. with (content_of tables.decls place.enumeration place.case)
      (λ content. where_so (is_none content) (leads (p + 1) (pushed (OneOf place.enumeration) s))))
      (λ place. with_all Lead (content_of tables.decls place.enumeration place.case)
      (λ content. where_so (is_none content) (leads (p + 1) (pushed (OneOf place.enumeration) s)))
      (λ content. where_all Lead (is_none content) (leads (p + 1) (pushed (OneOf place.enumeration) s))
      (λ e. lead _ (refl, (inl refl, tt)))))
  flow_to code (instr.IsCase c) lead =
      with_all Lead (slice_get tables.cases c)
      (λ place. pop_as (OneOf place.enumeration) s (λ s. leads (p + 1) (pushed Truth s)))
      (λ place. as_all Lead (OneOf place.enumeration) s (λ s. leads (p + 1) (pushed Truth s))
      (λ ts. lead _ (refl, (inl refl, tt))))
  flow_to code instr.Content lead =
      with_all Lead (case_asked (slice_get code (p - 3)))
      (λ c. with (slice_get tables.cases c)
      (λ place. with (content_of tables.decls place.enumeration place.case) (λ content. with content
      (λ t. pop_as (OneOf place.enumeration) s (λ s. leads (p + 1) (pushed (form_of tables.decls t) s))))))
      (λ c. with_all Lead (slice_get tables.cases c)
      (λ place. with (content_of tables.decls place.enumeration place.case) (λ content. with content
      (λ t. pop_as (OneOf place.enumeration) s (λ s. leads (p + 1) (pushed (form_of tables.decls t) s)))))
      (λ place. with_all Lead (content_of tables.decls place.enumeration place.case)
      (λ content. with content
      (λ t. pop_as (OneOf place.enumeration) s (λ s. leads (p + 1) (pushed (form_of tables.decls t) s))))
      (λ content. with_all Lead content
      (λ t. pop_as (OneOf place.enumeration) s (λ s. leads (p + 1) (pushed (form_of tables.decls t) s)))
      (λ t. as_all Lead (OneOf place.enumeration) s (λ s. leads (p + 1) (pushed (form_of tables.decls t) s))
      (λ ts. lead _ (refl, (inl refl, tt)))))))
  flow_to code instr.Length lead =
      pop_all_of Lead s (λ t s. elements_of t (λ u. leads (p + 1) (pushed Whole s)))
      (λ t us. elements_all Lead t (λ u. leads (p + 1) (pushed Whole (record s { operands = us })))
      (λ u. lead _ (refl, (inl refl, tt))))
  flow_to code instr.Iter lead =
      pop_all_of Lead s (λ t s. elements_of t (λ u. begins p u None s))
      (λ t us. elements_all Lead t (λ u. begins p u None (record s { operands = us }))
      (λ u. lead _ (refl, begins_new p u None s us)))
  flow_to code (instr.IterList n) lead =
      pop_all_of Lead s
      (λ t s. elements_of t (λ u. collected_by (constant_form tables n) (λ c. begins p u (Some c) s)))
      (λ t us. elements_all Lead t
      (λ u. collected_by (constant_form tables n) (λ c. begins p u (Some c) (record s { operands = us })))
      (λ u. collected_all Lead (constant_form tables n) (λ c. begins p u (Some c) (record s { operands = us }))
      (λ c. lead _ (refl, begins_new p u (Some c) s us))))
  flow_to code (instr.Next t) lead =
      top_all Lead s.loops
      (λ l ls. where_so (nat_eq (l.begun + 1) p)
      (leads_two (p + 1) (pushed l.element s) t (loop_ended l.collected (record s { loops = ls }))))
      (λ l ls is. where_all Lead (nat_eq (l.begun + 1) p)
      (leads_two (p + 1) (pushed l.element s) t (loop_ended l.collected (record s { loops = ls })))
      (λ e. lead _ (
        ended_to l.collected l.element p s ls t,
        (inl refl, (inr (inl (l, is ∙ ended_loops l.collected l ls s)), tt)),
      )))
  flow_to code instr.Collect lead =
      pop_all_of Lead s
      (λ t s. top s.loops (λ l ls. with l.collected (λ c. where_so (same_form t c) (leads (p + 1) s))))
      (λ t us. top_all Lead s.loops
      (λ l ls. with l.collected (λ c. where_so (same_form t c) (leads (p + 1) (record s { operands = us }))))
      (λ l ls is. with_all Lead l.collected
      (λ c. where_so (same_form t c) (leads (p + 1) (record s { operands = us })))
      (λ c. where_all Lead (same_form t c) (leads (p + 1) (record s { operands = us }))
      (λ e. lead _ (refl, (inl refl, tt))))))
  flow_to code instr.Leave lead =
      top_all Lead s.loops (λ l ls. leads (p + 1) (record s { loops = ls }))
      (λ l ls is. lead _ (refl, (inr (inl (l, is)), tt)))
  flow_to code (instr.Call f n) lead =
      call_to (slice_get (function_places tables.decls) f) (slice_get tables.functions f) f n refl refl lead
  flow_to code (instr.Scope n) lead =
      with_all Lead (slice_get tables.decls.scopes n)
      (λ scope. leads (p + 1) (record s {
        pending = record { scope = n; passed = replicate (length scope.items) false } ∷ s.pending;
      }))
      (λ scope. lead _ (refl, (inl refl, tt)))
  flow_to code (instr.Pass i) lead =
      where_all Lead (is_pending_inside s.loops s.pending)
      (top s.pending (λ q qs. with (slot_form tables.decls q.scope i) (λ t. pop_as t s
      (λ s. leads (p + 1) (record s { pending = record q { passed = slice_set q.passed i true } ∷ qs })))))
      (λ in_it. top_all Lead s.pending
      (λ q qs. with (slot_form tables.decls q.scope i) (λ t. pop_as t s
      (λ s. leads (p + 1) (record s { pending = record q { passed = slice_set q.passed i true } ∷ qs }))))
      (λ q qs is. with_all Lead (slot_form tables.decls q.scope i) (λ t. pop_as t s
      (λ s. leads (p + 1) (record s { pending = record q { passed = slice_set q.passed i true } ∷ qs })))
      (λ t. as_all Lead t s
      (λ s. leads (p + 1) (record s { pending = record q { passed = slice_set q.passed i true } ∷ qs }))
      (λ ts. lead _ (refl, (inl refl, tt))))))
  flow_to code instr.Enter lead =
      where_all Lead (is_pending_inside s.loops s.pending)
      (top s.pending (λ q qs. where_so (are_passed (scope_items tables.decls q.scope) q.passed)
      (leads (p + 1) (pushed (outputs_form tables.decls q.scope) (record s { pending = qs })))))
      (λ in_it. top_all Lead s.pending
      (λ q qs. where_so (are_passed (scope_items tables.decls q.scope) q.passed)
      (leads (p + 1) (pushed (outputs_form tables.decls q.scope) (record s { pending = qs }))))
      (λ q qs is. where_all Lead (are_passed (scope_items tables.decls q.scope) q.passed)
      (leads (p + 1) (pushed (outputs_form tables.decls q.scope) (record s { pending = qs })))
      (λ e. lead _ (refl, (inl refl, tt)))))
  flow_to code instr.Return lead =
      with_all Lead (result_form tables s.owner) (λ t. pop_as t s (λ s. where_so
      (has_none s.operands && has_none s.defaults && has_none s.loops && has_none s.pending) (Some [])))
      (λ t. as_all Lead t s (λ s. where_so
      (has_none s.operands && has_none s.defaults && has_none s.loops && has_none s.pending) (Some []))
      (λ ts. where_all Lead (has_none ts && has_none s.defaults && has_none s.loops && has_none s.pending)
      (Some []) (λ e. lead [] (refl, tt))))
  flow_to code (instr.Begin v) lead =
      with_all Lead (slice_get tables.targets v)
      (λ entry. with (target_form tables.decls entry.target) (λ t. leads (p + 1) (record s {
        defaults = record { begun = p; holds = t; checked = false } ∷ s.defaults;
      })))
      (λ entry. with_all Lead (target_form tables.decls entry.target) (λ t. leads (p + 1) (record s {
        defaults = record { begun = p; holds = t; checked = false } ∷ s.defaults;
      }))
      (λ t. lead _ (refl, (inl refl, tt))))
  flow_to code (instr.Hold n) lead =
      where_all Lead (nat_lt n (length tables.definitions) && frames_inside 1 s.loops s.defaults)
      (top s.defaults (λ f fs. pop_as f.holds s
      (λ s. leads (p + 1) (record s { defaults = record f { checked = false } ∷ fs }))))
      (λ in_it. top_all Lead s.defaults
      (λ f fs. pop_as f.holds s (λ s. leads (p + 1) (record s { defaults = record f { checked = false } ∷ fs })))
      (λ f fs is. as_all Lead f.holds s
      (λ s. leads (p + 1) (record s { defaults = record f { checked = false } ∷ fs }))
      (λ ts. lead _ (refl, (inl refl, tt)))))
  flow_to code instr.Merge lead =
      where_all Lead (frames_inside 2 s.loops s.defaults)
      (top s.defaults (λ f fs. top fs (λ g gs. where_so (f.checked && same_form f.holds g.holds)
      (leads (p + 1) (record s { defaults = record g { checked = false } ∷ gs })))))
      (λ in_it. top_all Lead s.defaults
      (λ f fs. top fs (λ g gs. where_so (f.checked && same_form f.holds g.holds)
      (leads (p + 1) (record s { defaults = record g { checked = false } ∷ gs }))))
      (λ f fs is. top_all Lead fs
      (λ g gs. where_so (f.checked && same_form f.holds g.holds)
      (leads (p + 1) (record s { defaults = record g { checked = false } ∷ gs })))
      (λ g gs then_is. where_all Lead (f.checked && same_form f.holds g.holds)
      (leads (p + 1) (record s { defaults = record g { checked = false } ∷ gs }))
      (λ e. lead _ (refl, (inl refl, tt))))))
  flow_to code (instr.Check v) lead =
      where_all Lead (nat_lt v (length tables.targets) && frames_inside 1 s.loops s.defaults)
      (top s.defaults (λ f fs. leads (p + 1) (record s { defaults = record f { checked = true } ∷ fs })))
      (λ in_it. top_all Lead s.defaults
      (λ f fs. leads (p + 1) (record s { defaults = record f { checked = true } ∷ fs }))
      (λ f fs is. lead _ (refl, (inl refl, tt))))
  flow_to code (instr.Held t) lead =
      top_all Lead s.defaults (λ f fs. leads_two (p + 1) s t s)
      (λ f fs is. lead _ (refl, (inl refl, (inl refl, tt))))
  flow_to code (instr.Take t) lead =
      where_all Lead (frames_inside 1 s.loops s.defaults)
      (top s.defaults (λ f fs. where_so f.checked
      (leads_two (p + 1) (pushed f.holds (record s { defaults = fs })) t (record s { defaults = fs }))))
      (λ in_it. top_all Lead s.defaults
      (λ f fs. where_so f.checked
      (leads_two (p + 1) (pushed f.holds (record s { defaults = fs })) t (record s { defaults = fs })))
      (λ f fs is. where_all Lead f.checked
      (leads_two (p + 1) (pushed f.holds (record s { defaults = fs })) t (record s { defaults = fs }))
      (λ e. lead _ (refl, (inl refl, (inl refl, tt))))))
  flow_to code (instr.NoValue v) lead =
      where_all Lead (nat_lt v (length tables.targets)) (Some []) (λ e. lead [] (refl, tt))
  flow_to code (instr.Assert q) lead =
      where_all Lead (nat_lt q (length tables.positions)) (pop_as Truth s (λ s. leads (p + 1) s))
      (λ e. as_all Lead Truth s (λ s. leads (p + 1) s) (λ ts. lead _ (refl, (inl refl, tt))))

pub flow_goes : (tables : Tables) (code : List Instr) (i : Instr) (p : ℕ) (s : Shape)
    → FlowAll (GoesTo tables i p s) (flow tables code i p s)
flow_goes tables code i p s = flow_to tables p s (GoesTo tables i p s) code i (λ to goes. goes)

pub flow_loops : (tables : Tables) (code : List Instr) (i : Instr) (p : ℕ) (s : Shape)
    → FlowAll (AllHave (LoopsOf p s)) (flow tables code i p s)
flow_loops tables code i p s = flow_to tables p s (AllHave (LoopsOf p s)) code i (λ to goes. goes.1)
