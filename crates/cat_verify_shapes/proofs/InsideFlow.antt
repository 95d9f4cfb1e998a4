-- Each instruction stays inside a loop that it doesn't leave.
use Rattle.std.proofs.Common.{ℕ, ◌+◌, ◌-◌, nat_eq, nat_le, nat_lt, ◌&&◌, true, false}
use Rattle.std.proofs.Common.{List, [], ◌∷◌, ◌++◌, length, take, Some, None, slice_get, slice_set, sym}
use Rattle.std.proofs.Common.{ap, ◌∙◌}
use Rattle.std.proofs.lemmas.Bool.{and_parts}
use Rattle.std.specs.Prelude.{is_none, replicate}
use Rattle.cat_value.specs.declared.declaration.Scope.{Scope}
use Rattle.cat_value.specs.Entries.{content_of}
use Rattle.cat_scope.specs.Names.{has_none, scope_items}
use Rattle.cat_code.specs.declared.instr.Instr.{Instr}
use Rattle.cat_code.specs.declared.instr.Instr.TheVariants as instr
use Rattle.cat_code.specs.declared.code.Tables.{Tables}
use Rattle.cat_code.specs.Operations.{operation, roundings}
use Rattle.cat_code.specs.Forms.{Truth, Whole, Many, Fields, OneOf, in_row, same_form, form_at, form_of}
use Rattle.cat_code.specs.Forms.{slot_form, outputs_form}
use Rattle.cat_code.specs.Shapes.{FrameShape, PendingShape, Shape}
use Rattle.cat_code.specs.Places.{function_places, target_form}
use Rattle.cat_code.specs.Wanted.{all_same, are_params, is_so, frames_inside, is_pending_inside, are_passed}
use Rattle.cat_code.specs.Leads.{leads, leads_two, with, where_so, top, pushed, pop_as, pop_all}
use Rattle.cat_code.specs.Leads.{elements_of, fields_of, operated, begins, loop_ended, function_entry}
use Rattle.cat_code.specs.Told.{case_asked, collected_by, constant_form, result_form, is_scope}
use Rattle.cat_code.specs.Flow.{flow}
use Rattle.cat_verify_shapes.specs.inside.Turns.{IsInside}
use Rattle.cat_verify_shapes.proofs.FlowCases.{FlowAll, with_all, where_all, top_all, pop_all_of, as_all, popped_all}
use Rattle.cat_verify_shapes.proofs.FlowCases.{elements_all, fields_all, collected_all, gives_all}
use Rattle.cat_verify_shapes.proofs.InsideLemmas.{IsTurn, Stays, begins_one, enough, enough_pending}
use Rattle.cat_verify_shapes.proofs.InsideLemmas.{first_of, frame_again, left_one, merge_stays, no_loops}
use Rattle.cat_verify_shapes.proofs.InsideLemmas.{operated_stays, take_stays, with_filled, with_frames, with_operands}
use Rattle.cat_verify_shapes.proofs.InsideLemmas.{with_pending, with_stacks, ended_stays}

module _ (turn : Shape) (is_turn : IsTurn turn) where
  pub flow_stays : (tables : Tables) (code : List Instr) (i : Instr) (p : ℕ) (s : Shape) → IsInside turn s
      → FlowAll (Stays turn) (flow tables code i p s)
  flow_stays tables code (instr.Const n) p s h =
      gives_all (Stays turn) (constant_form tables n) (p + 1) s
      (λ t. (λ inners e. with_operands turn s h (t ∷ s.operands), tt))
  flow_stays tables code (instr.Slot i) p s h =
      where_all (Stays turn) (is_so (slice_get s.filled i))
      (with (slot_form tables.decls s.owner.scope i) (λ t. leads (p + 1) (pushed t s)))
      (λ e. gives_all (Stays turn) (slot_form tables.decls s.owner.scope i) (p + 1) s
      (λ t. (λ inners e. with_operands turn s h (t ∷ s.operands), tt)))
  flow_stays tables code (instr.Local i) p s h =
      gives_all (Stays turn) (slice_get s.locals i) (p + 1) s
      (λ t. (λ inners e. with_operands turn s h (t ∷ s.operands), tt))
  flow_stays tables code (instr.Store i) p s h =
      where_all (Stays turn) (is_scope s.owner)
      (with (slot_form tables.decls s.owner.scope i)
      (λ t. pop_as t s (λ s. leads (p + 1) (record s { filled = slice_set s.filled i true }))))
      (λ e. with_all (Stays turn) (slot_form tables.decls s.owner.scope i)
      (λ t. pop_as t s (λ s. leads (p + 1) (record s { filled = slice_set s.filled i true })))
      (λ t. as_all (Stays turn) t s (λ s. leads (p + 1) (record s { filled = slice_set s.filled i true }))
      (λ ts. (λ inners e. with_filled turn (record s { operands = ts }) (with_operands turn s h ts) i, tt))))
  flow_stays tables code instr.Bind p s h =
      pop_all_of (Stays turn) s (λ t s. leads (p + 1) (record s { locals = s.locals ++ t ∷ [] }))
      (λ t ts. (λ inners e. with_stacks turn s h ts (s.locals ++ t ∷ []) s.owner, tt))
  flow_stays tables code (instr.Drop n) p s h =
      where_all (Stays turn) (nat_le n (length s.locals))
      (leads (p + 1) (record s { locals = take (length s.locals - n) s.locals }))
      (λ e. (λ inners e. with_stacks turn s h s.operands (take (length s.locals - n) s.locals) s.owner, tt))
  flow_stays tables code (instr.Given i t) p s h =
      where_all (Stays turn) (nat_lt i (length s.filled))
      (leads_two (p + 1) s t (record s { filled = slice_set s.filled i true }))
      (λ e. (λ inners e. h, (λ inners e. with_filled turn s h i, tt)))
  flow_stays tables code (instr.Jump t) p s h = (λ inners e. h, tt)
  flow_stays tables code (instr.JumpFalse t) p s h =
      as_all (Stays turn) Truth s (λ s. leads_two (p + 1) s t s)
      (λ ts. (λ inners e. with_operands turn s h ts, (λ inners e. with_operands turn s h ts, tt)))
  flow_stays tables code (instr.Op n r q) p s h =
      where_all (Stays turn) (nat_lt r (length roundings) && nat_lt q (length tables.positions))
      (with (operation n) (λ o. operated (form_of tables.decls) o p s))
      (λ e. with_all (Stays turn) (operation n) (λ o. operated (form_of tables.decls) o p s)
      (λ o. operated_stays turn (form_of tables.decls) o p s h))
  flow_stays tables code (instr.Pack n) p s h =
      popped_all (Stays turn) n [] s s.operands (λ ts s. leads (p + 1) (pushed (Fields (in_row ts)) s))
      (λ ts us. (λ inners e. with_operands turn s h (Fields (in_row ts) ∷ us), tt))
  flow_stays tables code (instr.List n) p s h =
      popped_all (Stays turn) n [] s s.operands
      (λ ts s. top ts (λ t us. where_so (all_same t us) (leads (p + 1) (pushed (Many t) s))))
      (λ ts us. top_all (Stays turn) ts
      (λ t rest. where_so (all_same t rest) (leads (p + 1) (pushed (Many t) (record s { operands = us }))))
      (λ t rest e. where_all (Stays turn) (all_same t rest) (leads (p + 1) (pushed (Many t) (record s {
        operands = us;
      })))
      (λ e. (λ inners e. with_operands turn s h (Many t ∷ us), tt))))
  flow_stays tables code (instr.Field i) p s h =
      pop_all_of (Stays turn) s (λ t s. fields_of t (λ ts. with (form_at ts i) (λ u. leads (p + 1) (pushed u s))))
      (λ t us. fields_all (Stays turn) t
      (λ ts. with (form_at ts i) (λ u. leads (p + 1) (pushed u (record s { operands = us }))))
      (λ ts. gives_all (Stays turn) (form_at ts i) (p + 1) (record s { operands = us })
      (λ u. (λ inners e. with_operands turn s h (u ∷ us), tt))))
  flow_stays tables code (instr.Tag c) p s h =
      with_all (Stays turn) (slice_get tables.cases c)
      (λ place. with (content_of tables.decls place.enumeration place.case) (λ content. with content
      (λ t. pop_as (form_of tables.decls t) s (λ s. leads (p + 1) (pushed (OneOf place.enumeration) s)))))
      (λ place. with_all (Stays turn) (content_of tables.decls place.enumeration place.case)
      (λ content. with content
      (λ t. pop_as (form_of tables.decls t) s (λ s. leads (p + 1) (pushed (OneOf place.enumeration) s))))
      (λ content. with_all (Stays turn) content
      (λ t. pop_as (form_of tables.decls t) s (λ s. leads (p + 1) (pushed (OneOf place.enumeration) s)))
      (λ t. as_all (Stays turn) (form_of tables.decls t) s (λ s. leads (p + 1) (pushed (OneOf place.enumeration) s))
      (λ ts. (λ inners e. with_operands turn s h (OneOf place.enumeration ∷ ts), tt)))))
  flow_stays tables code (instr.TagNone c) p s h =
      with_all (Stays turn) (slice_get tables.cases c)
      (λ place. with (content_of tables.decls place.enumeration place.case)
      (λ content. where_so (is_none content) (leads (p + 1) (pushed (OneOf place.enumeration) s))))
      (λ place. with_all (Stays turn) (content_of tables.decls place.enumeration place.case)
      (λ content. where_so (is_none content) (leads (p + 1) (pushed (OneOf place.enumeration) s)))
      (λ content. where_all (Stays turn) (is_none content) (leads (p + 1) (pushed (OneOf place.enumeration) s))
      (λ e. (λ inners e. with_operands turn s h (OneOf place.enumeration ∷ s.operands), tt))))
  flow_stays tables code (instr.IsCase c) p s h =
      with_all (Stays turn) (slice_get tables.cases c)
      (λ place. pop_as (OneOf place.enumeration) s (λ s. leads (p + 1) (pushed Truth s)))
      (λ place. as_all (Stays turn) (OneOf place.enumeration) s (λ s. leads (p + 1) (pushed Truth s))
      (λ ts. (λ inners e. with_operands turn s h (Truth ∷ ts), tt)))
  flow_stays tables code instr.Content p s h =
      with_all (Stays turn) (case_asked (slice_get code (p - 3)))
      (λ c. with (slice_get tables.cases c)
      (λ place. with (content_of tables.decls place.enumeration place.case) (λ content. with content
      (λ t. pop_as (OneOf place.enumeration) s (λ s. leads (p + 1) (pushed (form_of tables.decls t) s))))))
      (λ c. with_all (Stays turn) (slice_get tables.cases c)
      (λ place. with (content_of tables.decls place.enumeration place.case) (λ content. with content
      (λ t. pop_as (OneOf place.enumeration) s (λ s. leads (p + 1) (pushed (form_of tables.decls t) s)))))
      (λ place. with_all (Stays turn) (content_of tables.decls place.enumeration place.case)
      (λ content. with content
      (λ t. pop_as (OneOf place.enumeration) s (λ s. leads (p + 1) (pushed (form_of tables.decls t) s))))
      (λ content. with_all (Stays turn) content
      (λ t. pop_as (OneOf place.enumeration) s (λ s. leads (p + 1) (pushed (form_of tables.decls t) s)))
      (λ t. as_all (Stays turn) (OneOf place.enumeration) s (λ s. leads (p + 1) (pushed (form_of tables.decls t) s))
      (λ ts. (λ inners e. with_operands turn s h (form_of tables.decls t ∷ ts), tt))))))
  flow_stays tables code instr.Length p s h =
      pop_all_of (Stays turn) s (λ t s. elements_of t (λ u. leads (p + 1) (pushed Whole s)))
      (λ t us. elements_all (Stays turn) t (λ u. leads (p + 1) (pushed Whole (record s { operands = us })))
      (λ u. (λ inners e. with_operands turn s h (Whole ∷ us), tt)))
  flow_stays tables code instr.Iter p s h =
      pop_all_of (Stays turn) s (λ t s. elements_of t (λ u. begins p u None s))
      (λ t us. elements_all (Stays turn) t (λ u. begins p u None (record s { operands = us }))
      (λ u. begins_one turn p u None (record s { operands = us }) (with_operands turn s h us)))
  flow_stays tables code (instr.IterList n) p s h =
      pop_all_of (Stays turn) s
      (λ t s. elements_of t (λ u. collected_by (constant_form tables n) (λ c. begins p u (Some c) s)))
      (λ t us. elements_all (Stays turn) t
      (λ u. collected_by (constant_form tables n) (λ c. begins p u (Some c) (record s { operands = us })))
      (λ u. collected_all (Stays turn) (constant_form tables n) (λ c. begins p u (Some c) (record s { operands = us }))
      (λ c. begins_one turn p u (Some c) (record s { operands = us }) (with_operands turn s h us))))
  flow_stays tables code (instr.Next t) p s h =
      top_all (Stays turn) s.loops
      (λ l ls. where_so (nat_eq (l.begun + 1) p)
      (leads_two (p + 1) (pushed l.element s) t (loop_ended l.collected (record s { loops = ls }))))
      (λ l ls is. where_all (Stays turn) (nat_eq (l.begun + 1) p)
      (leads_two (p + 1) (pushed l.element s) t (loop_ended l.collected (record s { loops = ls })))
      (λ e. (
        λ inners e. with_operands turn s h (l.element ∷ s.operands),
        (
          ended_stays turn l.collected (record s { loops = ls })
              (λ ts inners e. left_one turn is_turn (record s { operands = ts })
              (with_operands turn s h ts) l ls is inners e) t,
          tt,
        ),
      )))
  flow_stays tables code instr.Collect p s h =
      pop_all_of (Stays turn) s
      (λ t s. top s.loops (λ l ls. with l.collected (λ c. where_so (same_form t c) (leads (p + 1) s))))
      (λ t us. top_all (Stays turn) s.loops
      (λ l ls. with l.collected (λ c. where_so (same_form t c) (leads (p + 1) (record s { operands = us }))))
      (λ l ls is. with_all (Stays turn) l.collected
      (λ c. where_so (same_form t c) (leads (p + 1) (record s { operands = us })))
      (λ c. where_all (Stays turn) (same_form t c) (leads (p + 1) (record s { operands = us }))
      (λ e. (λ inners e. with_operands turn s h us, tt)))))
  flow_stays tables code instr.Leave p s h =
      top_all (Stays turn) s.loops (λ l ls. leads (p + 1) (record s { loops = ls }))
      (λ l ls is. (λ inners e. left_one turn is_turn s h l ls is inners e, tt))
  flow_stays tables code (instr.Call f n) p s h =
      with_all (Stays turn) (slice_get (function_places tables.decls) f)
      (λ place. with (slice_get tables.functions f)
      (λ entry. where_so (nat_eq place.scope s.owner.scope && nat_eq n (length place.decl.params))
      (pop_all n s (λ ts s. where_so (are_params (form_of tables.decls) place.decl.params ts)
      (leads_two (p + 1) (pushed (form_of tables.decls place.decl.ty) s) entry
      (function_entry (form_of tables.decls) f place s))))))
      (λ place. with_all (Stays turn) (slice_get tables.functions f)
      (λ entry. where_so (nat_eq place.scope s.owner.scope && nat_eq n (length place.decl.params))
      (pop_all n s (λ ts s. where_so (are_params (form_of tables.decls) place.decl.params ts)
      (leads_two (p + 1) (pushed (form_of tables.decls place.decl.ty) s) entry
      (function_entry (form_of tables.decls) f place s)))))
      (λ entry. where_all (Stays turn) (nat_eq place.scope s.owner.scope && nat_eq n (length place.decl.params))
      (pop_all n s (λ ts s. where_so (are_params (form_of tables.decls) place.decl.params ts)
      (leads_two (p + 1) (pushed (form_of tables.decls place.decl.ty) s) entry
      (function_entry (form_of tables.decls) f place s))))
      (λ e. popped_all (Stays turn) n [] s s.operands
      (λ ts s. where_so (are_params (form_of tables.decls) place.decl.params ts)
      (leads_two (p + 1) (pushed (form_of tables.decls place.decl.ty) s) entry
      (function_entry (form_of tables.decls) f place s)))
      (λ ts us. where_all (Stays turn) (are_params (form_of tables.decls) place.decl.params ts)
      (leads_two (p + 1) (pushed (form_of tables.decls place.decl.ty) (record s { operands = us })) entry
      (function_entry (form_of tables.decls) f place (record s { operands = us })))
      (λ e. (
        λ inners e. with_operands turn s h (form_of tables.decls place.decl.ty ∷ us),
        (λ inners e. absurd (no_loops turn is_turn inners e), tt),
      ))))))
  flow_stays tables code (instr.Scope n) p s h =
      with_all (Stays turn) (slice_get tables.decls.scopes n)
      (λ scope. leads (p + 1) (record s {
        pending = record { scope = n; passed = replicate (length scope.items) false } ∷ s.pending;
      }))
      (λ scope. (
        λ inners e. with_pending turn s h
            (record { scope = n; passed = replicate (length scope.items) false } ∷ s.pending)
            (record { scope = n; passed = replicate (length scope.items) false } ∷ h.waits)
            (ap (λ (ps : List PendingShape). record { scope = n; passed = replicate (length scope.items) false } ∷ ps)
            h.pending),
        tt,
      ))
  flow_stays tables code (instr.Pass i) p s h =
      where_all (Stays turn) (is_pending_inside s.loops s.pending)
      (top s.pending (λ q qs. with (slot_form tables.decls q.scope i) (λ t. pop_as t s
      (λ s. leads (p + 1) (record s { pending = record q { passed = slice_set q.passed i true } ∷ qs })))))
      (λ in_it. top_all (Stays turn) s.pending
      (λ q qs. with (slot_form tables.decls q.scope i) (λ t. pop_as t s
      (λ s. leads (p + 1) (record s { pending = record q { passed = slice_set q.passed i true } ∷ qs }))))
      (λ q qs is. with_all (Stays turn) (slot_form tables.decls q.scope i) (λ t. pop_as t s
      (λ s. leads (p + 1) (record s { pending = record q { passed = slice_set q.passed i true } ∷ qs })))
      (λ t. as_all (Stays turn) t s
      (λ s. leads (p + 1) (record s { pending = record q { passed = slice_set q.passed i true } ∷ qs }))
      (λ ts. (
        λ inners e. let rest = first_of h.waits turn.pending q qs (enough_pending turn is_turn s h in_it)
            (sym is ∙ h.pending) in
            with_pending turn (record s { operands = ts }) (with_operands turn s h ts)
            (record q { passed = slice_set q.passed i true } ∷ qs)
            (record q { passed = slice_set q.passed i true } ∷ rest.0)
            (ap (λ (ps : List PendingShape). record q { passed = slice_set q.passed i true } ∷ ps) rest.1),
        tt,
      )))))
  flow_stays tables code instr.Enter p s h =
      where_all (Stays turn) (is_pending_inside s.loops s.pending)
      (top s.pending (λ q qs. where_so (are_passed (scope_items tables.decls q.scope) q.passed)
      (leads (p + 1) (pushed (outputs_form tables.decls q.scope) (record s { pending = qs })))))
      (λ in_it. top_all (Stays turn) s.pending
      (λ q qs. where_so (are_passed (scope_items tables.decls q.scope) q.passed)
      (leads (p + 1) (pushed (outputs_form tables.decls q.scope) (record s { pending = qs }))))
      (λ q qs is. where_all (Stays turn) (are_passed (scope_items tables.decls q.scope) q.passed)
      (leads (p + 1) (pushed (outputs_form tables.decls q.scope) (record s { pending = qs })))
      (λ e. (
        λ inners e. let rest = first_of h.waits turn.pending q qs (enough_pending turn is_turn s h in_it)
            (sym is ∙ h.pending) in
            with_pending turn (record s { operands = outputs_form tables.decls q.scope ∷ s.operands })
            (with_operands turn s h (outputs_form tables.decls q.scope ∷ s.operands)) qs rest.0 rest.1,
        tt,
      ))))
  flow_stays tables code instr.Return p s h =
      with_all (Stays turn) (result_form tables s.owner) (λ t. pop_as t s (λ s. where_so
      (has_none s.operands && has_none s.defaults && has_none s.loops && has_none s.pending) (Some [])))
      (λ t. as_all (Stays turn) t s (λ s. where_so
      (has_none s.operands && has_none s.defaults && has_none s.loops && has_none s.pending) (Some []))
      (λ ts. where_all (Stays turn) (has_none ts && has_none s.defaults && has_none s.loops && has_none s.pending)
      (Some []) (λ e. tt)))
  flow_stays tables code (instr.Begin v) p s h =
      with_all (Stays turn) (slice_get tables.targets v)
      (λ entry. with (target_form tables.decls entry.target) (λ t. leads (p + 1) (record s {
        defaults = record { begun = p; holds = t; checked = false } ∷ s.defaults;
      })))
      (λ entry. with_all (Stays turn) (target_form tables.decls entry.target) (λ t. leads (p + 1) (record s {
        defaults = record { begun = p; holds = t; checked = false } ∷ s.defaults;
      }))
      (λ t. (
        λ inners e. with_frames turn s h (record { begun = p; holds = t; checked = false } ∷ s.defaults)
            (record { begun = p; holds = t; checked = false } ∷ h.tops)
            (ap (λ (fs : List FrameShape). record { begun = p; holds = t; checked = false } ∷ fs) h.frames),
        tt,
      )))
  flow_stays tables code (instr.Hold n) p s h =
      where_all (Stays turn) (nat_lt n (length tables.definitions) && frames_inside 1 s.loops s.defaults)
      (top s.defaults (λ f fs. pop_as f.holds s
      (λ s. leads (p + 1) (record s { defaults = record f { checked = false } ∷ fs }))))
      (λ in_it. top_all (Stays turn) s.defaults
      (λ f fs. pop_as f.holds s (λ s. leads (p + 1) (record s { defaults = record f { checked = false } ∷ fs })))
      (λ f fs is. as_all (Stays turn) f.holds s
      (λ s. leads (p + 1) (record s { defaults = record f { checked = false } ∷ fs }))
      (λ ts. (
        λ inners e. frame_again turn s h f fs false
            (enough turn is_turn 1 s h (and_parts (nat_lt n (length tables.definitions))
            (frames_inside 1 s.loops s.defaults) in_it).1)
            is ts,
        tt,
      ))))
  flow_stays tables code instr.Merge p s h =
      where_all (Stays turn) (frames_inside 2 s.loops s.defaults)
      (top s.defaults (λ f fs. top fs (λ g gs. where_so (f.checked && same_form f.holds g.holds)
      (leads (p + 1) (record s { defaults = record g { checked = false } ∷ gs })))))
      (λ in_it. top_all (Stays turn) s.defaults
      (λ f fs. top fs (λ g gs. where_so (f.checked && same_form f.holds g.holds)
      (leads (p + 1) (record s { defaults = record g { checked = false } ∷ gs }))))
      (λ f fs is. top_all (Stays turn) fs
      (λ g gs. where_so (f.checked && same_form f.holds g.holds)
      (leads (p + 1) (record s { defaults = record g { checked = false } ∷ gs })))
      (λ g gs then_is. where_all (Stays turn) (f.checked && same_form f.holds g.holds)
      (leads (p + 1) (record s { defaults = record g { checked = false } ∷ gs }))
      (λ e. (λ inners e. merge_stays turn s h f g fs gs (enough turn is_turn 2 s h in_it) is then_is, tt)))))
  flow_stays tables code (instr.Check v) p s h =
      where_all (Stays turn) (nat_lt v (length tables.targets) && frames_inside 1 s.loops s.defaults)
      (top s.defaults (λ f fs. leads (p + 1) (record s { defaults = record f { checked = true } ∷ fs })))
      (λ in_it. top_all (Stays turn) s.defaults
      (λ f fs. leads (p + 1) (record s { defaults = record f { checked = true } ∷ fs }))
      (λ f fs is. (
        λ inners e. frame_again turn s h f fs true
            (enough turn is_turn 1 s h (and_parts (nat_lt v (length tables.targets))
            (frames_inside 1 s.loops s.defaults) in_it).1)
            is s.operands,
        tt,
      )))
  flow_stays tables code (instr.Held t) p s h =
      top_all (Stays turn) s.defaults (λ f fs. leads_two (p + 1) s t s)
      (λ f fs is. (λ inners e. h, (λ inners e. h, tt)))
  flow_stays tables code (instr.Take t) p s h =
      where_all (Stays turn) (frames_inside 1 s.loops s.defaults)
      (top s.defaults (λ f fs. where_so f.checked
      (leads_two (p + 1) (pushed f.holds (record s { defaults = fs })) t (record s { defaults = fs }))))
      (λ in_it. top_all (Stays turn) s.defaults
      (λ f fs. where_so f.checked
      (leads_two (p + 1) (pushed f.holds (record s { defaults = fs })) t (record s { defaults = fs })))
      (λ f fs is. where_all (Stays turn) f.checked
      (leads_two (p + 1) (pushed f.holds (record s { defaults = fs })) t (record s { defaults = fs }))
      (λ e. (
        λ inners e. take_stays turn s h f fs (enough turn is_turn 1 s h in_it) is (f.holds ∷ s.operands),
        (λ inners e. take_stays turn s h f fs (enough turn is_turn 1 s h in_it) is s.operands, tt),
      ))))
  flow_stays tables code (instr.NoValue v) p s h =
      where_all (Stays turn) (nat_lt v (length tables.targets)) (Some []) (λ e. tt)
  flow_stays tables code (instr.Assert q) p s h =
      where_all (Stays turn) (nat_lt q (length tables.positions)) (pop_as Truth s (λ s. leads (p + 1) s))
      (λ e. as_all (Stays turn) Truth s (λ s. leads (p + 1) s) (λ ts. (λ inners e. with_operands turn s h ts, tt)))
