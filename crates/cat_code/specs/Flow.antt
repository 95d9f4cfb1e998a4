-- Where an instruction leads, one line for each: the places at which a run may go on, each with the shape that is left
-- there. There is none where the instruction lacks what it works on.
use Rattle.std.specs.Prelude.{ℕ, ◌+◌, ◌-◌, nat_eq, nat_le, nat_lt, ◌&&◌, true, false, List, [], ◌∷◌, ◌++◌, length}
use Rattle.std.specs.Prelude.{take, replicate, Some, None, slice_get, slice_set, is_none}
use Rattle.cat_value.specs.Entries.{content_of}
use Rattle.cat_scope.specs.Names.{has_none, scope_items}
use Rattle.cat_code.specs.declared.instr.Instr.{Instr}
use Rattle.cat_code.specs.declared.instr.Instr.TheVariants as instr
use Rattle.cat_code.specs.declared.code.Tables.{Tables}
use Rattle.cat_code.specs.Operations.{operation, roundings}
use Rattle.cat_code.specs.Forms.{Truth, Whole, Many, Fields, OneOf, in_row, same_form, form_at, form_of, slot_form}
use Rattle.cat_code.specs.Forms.{outputs_form}
use Rattle.cat_code.specs.Shapes.{Shape}
use Rattle.cat_code.specs.Places.{function_places, target_form}
use Rattle.cat_code.specs.Wanted.{all_same, are_params, is_so, frames_inside, is_pending_inside, are_passed}
use Rattle.cat_code.specs.Leads.{Flow, leads, leads_two, with, where_so, top, pushed, pop, pop_as, pop_all, elements_of}
use Rattle.cat_code.specs.Leads.{fields_of, operated, begins, loop_ended, function_entry}
use Rattle.cat_code.specs.Told.{case_asked, collected_by, constant_form, result_form, is_scope}

-- what an instruction of the code at place p does to a shape
abbrev pub flow : Tables → List Instr → Instr → ℕ → Shape → Flow
flow tables code (instr.Const k) p s = with (constant_form tables k) (λ t. leads (p + 1) (pushed t s))
flow tables code (instr.Slot i) p s =
    where_so (is_so (slice_get s.filled i))
    (with (slot_form tables.decls s.owner.scope i) (λ t. leads (p + 1) (pushed t s)))
flow tables code (instr.Local i) p s = with (slice_get s.locals i) (λ t. leads (p + 1) (pushed t s))
flow tables code (instr.Store i) p s =
    where_so (is_scope s.owner) (with (slot_form tables.decls s.owner.scope i)
    (λ t. pop_as t s (λ s. leads (p + 1) (record s { filled = slice_set s.filled i true }))))
flow tables code instr.Bind p s = pop s (λ t s. leads (p + 1) (record s { locals = s.locals ++ t ∷ [] }))
flow tables code (instr.Drop n) p s =
    where_so (nat_le n (length s.locals)) (leads (p + 1) (record s { locals = take (length s.locals - n) s.locals }))
flow tables code (instr.Given i t) p s =
    where_so (nat_lt i (length s.filled)) (leads_two (p + 1) s t (record s { filled = slice_set s.filled i true }))
flow tables code (instr.Jump t) p s = leads t s
flow tables code (instr.JumpFalse t) p s = pop_as Truth s (λ s. leads_two (p + 1) s t s)
flow tables code (instr.Op n r q) p s =
    where_so (nat_lt r (length roundings) && nat_lt q (length tables.positions))
    (with (operation n) (λ o. operated (form_of tables.decls) o p s))
flow tables code (instr.Pack n) p s = pop_all n s (λ ts s. leads (p + 1) (pushed (Fields (in_row ts)) s))
flow tables code (instr.List n) p s =
    pop_all n s (λ ts s. top ts (λ t us. where_so (all_same t us) (leads (p + 1) (pushed (Many t) s))))
flow tables code (instr.Field i) p s =
    pop s (λ t s. fields_of t (λ ts. with (form_at ts i) (λ u. leads (p + 1) (pushed u s))))
flow tables code (instr.Tag c) p s =
    with (slice_get tables.cases c) (λ place. with (content_of tables.decls place.enumeration place.case)
    (λ content. with content
    (λ t. pop_as (form_of tables.decls t) s (λ s. leads (p + 1) (pushed (OneOf place.enumeration) s)))))
flow tables code (instr.TagNone c) p s =
    with (slice_get tables.cases c) (λ place. with (content_of tables.decls place.enumeration place.case)
    (λ content. where_so (is_none content) (leads (p + 1) (pushed (OneOf place.enumeration) s))))
flow tables code (instr.IsCase c) p s =
    with (slice_get tables.cases c) (λ place. pop_as (OneOf place.enumeration) s (λ s. leads (p + 1) (pushed Truth s)))
flow tables code instr.Content p s =
    with (case_asked (slice_get code (p - 3))) (λ c. with (slice_get tables.cases c)
    (λ place. with (content_of tables.decls place.enumeration place.case) (λ content. with content
    (λ t. pop_as (OneOf place.enumeration) s (λ s. leads (p + 1) (pushed (form_of tables.decls t) s))))))
flow tables code instr.Length p s = pop s (λ t s. elements_of t (λ u. leads (p + 1) (pushed Whole s)))
flow tables code instr.Iter p s = pop s (λ t s. elements_of t (λ u. begins p u None s))
flow tables code (instr.IterList k) p s =
    pop s (λ t s. elements_of t (λ u. collected_by (constant_form tables k) (λ c. begins p u (Some c) s)))
flow tables code (instr.Next t) p s =
    top s.loops (λ l ls. where_so (nat_eq (l.begun + 1) p)
    (leads_two (p + 1) (pushed l.element s) t (loop_ended l.collected (record s { loops = ls }))))
flow tables code instr.Collect p s =
    pop s (λ t s. top s.loops (λ l ls. with l.collected (λ c. where_so (same_form t c) (leads (p + 1) s))))
flow tables code instr.Leave p s = top s.loops (λ l ls. leads (p + 1) (record s { loops = ls }))
flow tables code (instr.Call f n) p s =
    with (slice_get (function_places tables.decls) f) (λ place. with (slice_get tables.functions f)
    (λ entry. where_so (nat_eq place.scope s.owner.scope && nat_eq n (length place.decl.params))
    (pop_all n s (λ ts s. where_so (are_params (form_of tables.decls) place.decl.params ts)
    (leads_two (p + 1) (pushed (form_of tables.decls place.decl.ty) s) entry
    (function_entry (form_of tables.decls) f place s))))))
flow tables code (instr.Scope n) p s =
    with (slice_get tables.decls.scopes n) (λ scope. leads (p + 1)
    (record s { pending = record { scope = n; passed = replicate (length scope.items) false } ∷ s.pending }))
flow tables code (instr.Pass i) p s =
    where_so (is_pending_inside s.loops s.pending) (top s.pending (λ q qs. with (slot_form tables.decls q.scope i)
    (λ t. pop_as t s (λ s. leads (p + 1)
    (record s { pending = record q { passed = slice_set q.passed i true } ∷ qs })))))
flow tables code instr.Enter p s =
    where_so (is_pending_inside s.loops s.pending) (top s.pending
    (λ q qs. where_so (are_passed (scope_items tables.decls q.scope) q.passed)
    (leads (p + 1) (pushed (outputs_form tables.decls q.scope) (record s { pending = qs })))))
flow tables code instr.Return p s =
    with (result_form tables s.owner) (λ t. pop_as t s
    (λ s. where_so (has_none s.operands && has_none s.defaults && has_none s.loops && has_none s.pending) (Some [])))
flow tables code (instr.Begin v) p s =
    with (slice_get tables.targets v) (λ entry. with (target_form tables.decls entry.target)
    (λ t. leads (p + 1) (record s { defaults = record { begun = p; holds = t; checked = false } ∷ s.defaults })))
flow tables code (instr.Hold d) p s =
    where_so (nat_lt d (length tables.definitions) && frames_inside 1 s.loops s.defaults)
    (top s.defaults (λ f fs. pop_as f.holds s
    (λ s. leads (p + 1) (record s { defaults = record f { checked = false } ∷ fs }))))
flow tables code instr.Merge p s =
    where_so (frames_inside 2 s.loops s.defaults) (top s.defaults (λ f fs. top fs
    (λ g gs. where_so (f.checked && same_form f.holds g.holds)
    (leads (p + 1) (record s { defaults = record g { checked = false } ∷ gs })))))
flow tables code (instr.Check v) p s =
    where_so (nat_lt v (length tables.targets) && frames_inside 1 s.loops s.defaults)
    (top s.defaults (λ f fs. leads (p + 1) (record s { defaults = record f { checked = true } ∷ fs })))
flow tables code (instr.Held t) p s = top s.defaults (λ f fs. leads_two (p + 1) s t s)
flow tables code (instr.Take t) p s =
    where_so (frames_inside 1 s.loops s.defaults) (top s.defaults (λ f fs. where_so f.checked
    (leads_two (p + 1) (pushed f.holds (record s { defaults = fs })) t (record s { defaults = fs }))))
flow tables code (instr.NoValue v) p s = where_so (nat_lt v (length tables.targets)) (Some [])
flow tables code (instr.Assert q) p s =
    where_so (nat_lt q (length tables.positions)) (pop_as Truth s (λ s. leads (p + 1) s))
