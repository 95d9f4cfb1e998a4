-- Each instruction goes on where more is known, if it does where less is known.
use Rattle.std.proofs.Common.{◌≡◌, ℕ, ◌+◌, ◌-◌, nat_le, nat_lt, ◌&&◌, true, false, List, [], ◌∷◌, ◌++◌, length, take}
use Rattle.std.proofs.Common.{Some, None, slice_get, slice_set, sym, ap, ◌∙◌, subst}
use Rattle.std.specs.Prelude.{is_none}
use Rattle.cat_value.specs.declared.declaration.Scope.{Scope}
use Rattle.cat_value.specs.Entries.{content_of}
use Rattle.cat_scope.specs.Names.{scope_items}
use Rattle.cat_code.specs.declared.instr.Instr.{Instr}
use Rattle.cat_code.specs.declared.instr.Instr.TheVariants as instr
use Rattle.cat_code.specs.declared.code.Tables.{Tables}
use Rattle.cat_code.specs.Operations.{operation, roundings}
use Rattle.cat_code.specs.Forms.{Form, Truth, Whole, Many, Fields, OneOf, in_row, same_form, form_at, form_of}
use Rattle.cat_code.specs.Forms.{slot_form, outputs_form}
use Rattle.cat_code.specs.Shapes.{Owner, LoopShape, Shape, MeetsFrame, MeetsPending, Meets}
use Rattle.cat_code.specs.Places.{function_places}
use Rattle.cat_code.specs.Wanted.{all_same, is_so, frames_inside, is_pending_inside, are_passed}
use Rattle.cat_code.specs.Leads.{leads, leads_two, with, where_so, top, pushed, pop_as, elements_of, fields_of}
use Rattle.cat_code.specs.Leads.{operated, begins}
use Rattle.cat_code.specs.Told.{case_asked, collected_by, constant_form, result_form, is_scope}
use Rattle.cat_code.specs.Flow.{flow}
use Rattle.cat_verify_shapes.proofs.LessKnown.{FlowMeets, fewer_so, fewer_set, fewer_long, frames_in, pending_in}
use Rattle.cat_verify_shapes.proofs.LessKnown.{with_meets, where_meets, where_same, top_meets, elements_meet}
use Rattle.cat_verify_shapes.proofs.LessKnown.{fields_meet, collected_meet}
use Rattle.cat_verify_shapes.proofs.FrontLemmas.{meet_long}
use Rattle.cat_verify_shapes.proofs.LessKnownPairs.{Pair, left, right, Known, put, over, to_next, to_two, gives_meet}
use Rattle.cat_verify_shapes.proofs.LessKnownPairs.{pop_meets, pop_as_meets, popped_meets}
use Rattle.cat_verify_shapes.proofs.LessKnownLoops.{operated_meets, begins_meets, content_meets, tagged_meets}
use Rattle.cat_verify_shapes.proofs.LessKnownLoops.{next_meets, collect_meets, leave_meets}
use Rattle.cat_verify_shapes.proofs.LessKnownCalls.{call_meets, scope_meets, pass_meets, enter_meets, return_meets}
use Rattle.cat_verify_shapes.proofs.LessKnownDefaults.{begun_meets, hold_meets, merge_meets, check_meets, held_meets}
use Rattle.cat_verify_shapes.proofs.LessKnownDefaults.{take_meets, inside_too}

flow_meets : (tables : Tables) (code : List Instr) (i : Instr) (p : ℕ) (k : Pair) → Known k
    → FlowMeets (flow tables code i p (left k)) (flow tables code i p (right k))
flow_meets tables code (instr.Const n) p k h = gives_meet (constant_form tables n) p k h
flow_meets tables code (instr.Slot i) p k h =
    where_meets (is_so (slice_get k.filled i)) (is_so (slice_get k.few i))
    (with (slot_form tables.decls k.owner.scope i) (λ t. leads (p + 1) (pushed t (left k))))
    (with (slot_form tables.decls k.owner.scope i) (λ t. leads (p + 1) (pushed t (right k))))
    (fewer_so k.few k.filled i h.0)
    (gives_meet (slot_form tables.decls k.owner.scope i) p k h)
flow_meets tables code (instr.Local i) p k h = gives_meet (slice_get k.locals i) p k h
flow_meets tables code (instr.Store i) p k h =
    where_same (is_scope k.owner)
    (with (slot_form tables.decls k.owner.scope i)
    (λ t. pop_as t (left k) (λ s. leads (p + 1) (record s { filled = slice_set s.filled i true }))))
    (with (slot_form tables.decls k.owner.scope i)
    (λ t. pop_as t (right k) (λ s. leads (p + 1) (record s { filled = slice_set s.filled i true }))))
    (with_meets (slot_form tables.decls k.owner.scope i)
    (λ t. pop_as t (left k) (λ s. leads (p + 1) (record s { filled = slice_set s.filled i true })))
    (λ t. pop_as t (right k) (λ s. leads (p + 1) (record s { filled = slice_set s.filled i true })))
    (λ t. pop_as_meets t k (λ s. leads (p + 1) (record s { filled = slice_set s.filled i true }))
    (λ ts. to_next
    (record (over ts k) { filled = slice_set k.filled i true; few = slice_set k.few i true })
    (fewer_set k.few k.filled i h.0, h.1, h.2) (p + 1))))
flow_meets tables code instr.Bind p k h =
    pop_meets k.operands k (λ t s. leads (p + 1) (record s { locals = s.locals ++ t ∷ [] }))
    (λ t ts. to_next (record (over ts k) { locals = k.locals ++ t ∷ [] }) h (p + 1))
flow_meets tables code (instr.Drop n) p k h =
    where_same (nat_le n (length k.locals))
    (leads (p + 1) (record (left k) { locals = take (length k.locals - n) k.locals }))
    (leads (p + 1) (record (right k) { locals = take (length k.locals - n) k.locals }))
    (to_next (record k { locals = take (length k.locals - n) k.locals }) h (p + 1))
flow_meets tables code (instr.Given i t) p k h =
    where_meets (nat_lt i (length k.filled)) (nat_lt i (length k.few))
    (leads_two (p + 1) (left k) t (record (left k) { filled = slice_set k.filled i true }))
    (leads_two (p + 1) (right k) t (record (right k) { filled = slice_set k.few i true }))
    (λ e. ap (nat_lt i) (sym (fewer_long k.few k.filled h.0)) ∙ e)
    (to_two k (record k { filled = slice_set k.filled i true; few = slice_set k.few i true }) h
    (fewer_set k.few k.filled i h.0, h.1, h.2) (p + 1) t)
flow_meets tables code (instr.Jump t) p k h = to_next k h t
flow_meets tables code (instr.JumpFalse t) p k h =
    pop_as_meets Truth k (λ s. leads_two (p + 1) s t s) (λ ts. to_two (over ts k) (over ts k) h h (p + 1) t)
flow_meets tables code (instr.Op n r q) p k h =
    where_same (nat_lt r (length roundings) && nat_lt q (length tables.positions))
    (with (operation n) (λ o. operated (form_of tables.decls) o p (left k)))
    (with (operation n) (λ o. operated (form_of tables.decls) o p (right k)))
    (with_meets (operation n) (λ o. operated (form_of tables.decls) o p (left k))
    (λ o. operated (form_of tables.decls) o p (right k)) (λ o. operated_meets (form_of tables.decls) o p k h))
flow_meets tables code (instr.Pack n) p k h =
    popped_meets n [] k.operands k (λ ts s. leads (p + 1) (pushed (Fields (in_row ts)) s))
    (λ ts us. to_next (put (Fields (in_row ts)) (over us k)) h (p + 1))
flow_meets tables code (instr.List n) p k h =
    popped_meets n [] k.operands k
    (λ ts s. top ts (λ t us. where_so (all_same t us) (leads (p + 1) (pushed (Many t) s))))
    (λ ts us. top_meets ts (λ t rest. where_so (all_same t rest) (leads (p + 1) (pushed (Many t) (left (over us k)))))
    (λ t rest. where_so (all_same t rest) (leads (p + 1) (pushed (Many t) (right (over us k)))))
    (λ t rest. where_same (all_same t rest) (leads (p + 1) (pushed (Many t) (left (over us k))))
    (leads (p + 1) (pushed (Many t) (right (over us k)))) (to_next (put (Many t) (over us k)) h (p + 1))))
flow_meets tables code (instr.Field i) p k h =
    pop_meets k.operands k
    (λ t s. fields_of t (λ ts. with (form_at ts i) (λ u. leads (p + 1) (pushed u s))))
    (λ t us. fields_meet t (λ ts. with (form_at ts i) (λ u. leads (p + 1) (pushed u (left (over us k)))))
    (λ ts. with (form_at ts i) (λ u. leads (p + 1) (pushed u (right (over us k)))))
    (λ ts. gives_meet (form_at ts i) p (over us k) h))
flow_meets tables code (instr.Tag c) p k h =
    with_meets (slice_get tables.cases c)
    (λ place. with (content_of tables.decls place.enumeration place.case) (λ content. with content
    (λ t. pop_as (form_of tables.decls t) (left k) (λ s. leads (p + 1) (pushed (OneOf place.enumeration) s)))))
    (λ place. with (content_of tables.decls place.enumeration place.case) (λ content. with content
    (λ t. pop_as (form_of tables.decls t) (right k) (λ s. leads (p + 1) (pushed (OneOf place.enumeration) s)))))
    (λ place. with_meets (content_of tables.decls place.enumeration place.case)
    (λ content. with content
    (λ t. pop_as (form_of tables.decls t) (left k) (λ s. leads (p + 1) (pushed (OneOf place.enumeration) s))))
    (λ content. with content
    (λ t. pop_as (form_of tables.decls t) (right k) (λ s. leads (p + 1) (pushed (OneOf place.enumeration) s))))
    (λ content. tagged_meets tables content place.enumeration p k h))
flow_meets tables code (instr.TagNone c) p k h =
    with_meets (slice_get tables.cases c)
    (λ place. with (content_of tables.decls place.enumeration place.case)
    (λ content. where_so (is_none content) (leads (p + 1) (pushed (OneOf place.enumeration) (left k)))))
    (λ place. with (content_of tables.decls place.enumeration place.case)
    (λ content. where_so (is_none content) (leads (p + 1) (pushed (OneOf place.enumeration) (right k)))))
    (λ place. with_meets (content_of tables.decls place.enumeration place.case)
    (λ content. where_so (is_none content) (leads (p + 1) (pushed (OneOf place.enumeration) (left k))))
    (λ content. where_so (is_none content) (leads (p + 1) (pushed (OneOf place.enumeration) (right k))))
    (λ content. where_same (is_none content) (leads (p + 1) (pushed (OneOf place.enumeration) (left k)))
    (leads (p + 1) (pushed (OneOf place.enumeration) (right k))) (to_next (put (OneOf place.enumeration) k) h (p + 1))))
flow_meets tables code (instr.IsCase c) p k h =
    with_meets (slice_get tables.cases c)
    (λ place. pop_as (OneOf place.enumeration) (left k) (λ s. leads (p + 1) (pushed Truth s)))
    (λ place. pop_as (OneOf place.enumeration) (right k) (λ s. leads (p + 1) (pushed Truth s)))
    (λ place. pop_as_meets (OneOf place.enumeration) k (λ s. leads (p + 1) (pushed Truth s))
    (λ ts. to_next (put Truth (over ts k)) h (p + 1)))
flow_meets tables code instr.Content p k h =
    with_meets (case_asked (slice_get code (p - 3)))
    (λ c. with (slice_get tables.cases c)
    (λ place. with (content_of tables.decls place.enumeration place.case) (λ content. with content
    (λ t. pop_as (OneOf place.enumeration) (left k) (λ s. leads (p + 1) (pushed (form_of tables.decls t) s))))))
    (λ c. with (slice_get tables.cases c)
    (λ place. with (content_of tables.decls place.enumeration place.case) (λ content. with content
    (λ t. pop_as (OneOf place.enumeration) (right k) (λ s. leads (p + 1) (pushed (form_of tables.decls t) s))))))
    (λ c. with_meets (slice_get tables.cases c)
    (λ place. with (content_of tables.decls place.enumeration place.case) (λ content. with content
    (λ t. pop_as (OneOf place.enumeration) (left k) (λ s. leads (p + 1) (pushed (form_of tables.decls t) s)))))
    (λ place. with (content_of tables.decls place.enumeration place.case) (λ content. with content
    (λ t. pop_as (OneOf place.enumeration) (right k) (λ s. leads (p + 1) (pushed (form_of tables.decls t) s)))))
    (λ place. with_meets (content_of tables.decls place.enumeration place.case)
    (λ content. with content
    (λ t. pop_as (OneOf place.enumeration) (left k) (λ s. leads (p + 1) (pushed (form_of tables.decls t) s))))
    (λ content. with content
    (λ t. pop_as (OneOf place.enumeration) (right k) (λ s. leads (p + 1) (pushed (form_of tables.decls t) s))))
    (λ content. content_meets tables content place.enumeration p k h)))
flow_meets tables code instr.Length p k h =
    pop_meets k.operands k (λ t s. elements_of t (λ u. leads (p + 1) (pushed Whole s)))
    (λ t us. elements_meet t (λ u. leads (p + 1) (pushed Whole (left (over us k))))
    (λ u. leads (p + 1) (pushed Whole (right (over us k)))) (λ u. to_next (put Whole (over us k)) h (p + 1)))
flow_meets tables code instr.Iter p k h =
    pop_meets k.operands k (λ t s. elements_of t (λ u. begins p u None s))
    (λ t us. elements_meet t (λ u. begins p u None (left (over us k))) (λ u. begins p u None (right (over us k)))
    (λ u. begins_meets p u None (over us k) h))
flow_meets tables code (instr.IterList n) p k h =
    pop_meets k.operands k
    (λ t s. elements_of t (λ u. collected_by (constant_form tables n) (λ c. begins p u (Some c) s)))
    (λ t us. elements_meet t
    (λ u. collected_by (constant_form tables n) (λ c. begins p u (Some c) (left (over us k))))
    (λ u. collected_by (constant_form tables n) (λ c. begins p u (Some c) (right (over us k))))
    (λ u. collected_meet (constant_form tables n) (λ c. begins p u (Some c) (left (over us k)))
    (λ c. begins p u (Some c) (right (over us k))) (λ c. begins_meets p u (Some c) (over us k) h)))
flow_meets tables code (instr.Next t) p k h = next_meets k.loops p t k h
flow_meets tables code instr.Collect p k h =
    pop_meets k.operands k
    (λ t s. top s.loops (λ l ls. with l.collected (λ c. where_so (same_form t c) (leads (p + 1) s))))
    (λ t us. collect_meets k.loops t p (over us k) h)
flow_meets tables code instr.Leave p k h = leave_meets k.loops p k h
flow_meets tables code (instr.Call f n) p k h =
    call_meets tables (slice_get (function_places tables.decls) f) (slice_get tables.functions f) f n p k h
flow_meets tables code (instr.Scope n) p k h = scope_meets (slice_get tables.decls.scopes n) n p k h
flow_meets tables code (instr.Pass i) p k h =
    where_meets (is_pending_inside k.loops k.pending) (is_pending_inside k.loops k.waiting)
    (top k.pending (λ q qs. with (slot_form tables.decls q.scope i) (λ t. pop_as t (left k)
    (λ s. leads (p + 1) (record s { pending = record q { passed = slice_set q.passed i true } ∷ qs })))))
    (top k.waiting (λ q qs. with (slot_form tables.decls q.scope i) (λ t. pop_as t (right k)
    (λ s. leads (p + 1) (record s { pending = record q { passed = slice_set q.passed i true } ∷ qs })))))
    (pending_in k.loops k.pending k.waiting (meet_long MeetsPending k.pending k.waiting h.2))
    (pass_meets tables i p k h k.pending k.waiting h.2)
flow_meets tables code instr.Enter p k h =
    where_meets (is_pending_inside k.loops k.pending) (is_pending_inside k.loops k.waiting)
    (top k.pending (λ q qs. where_so (are_passed (scope_items tables.decls q.scope) q.passed)
    (leads (p + 1) (pushed (outputs_form tables.decls q.scope) (record (left k) { pending = qs })))))
    (top k.waiting (λ q qs. where_so (are_passed (scope_items tables.decls q.scope) q.passed)
    (leads (p + 1) (pushed (outputs_form tables.decls q.scope) (record (right k) { pending = qs })))))
    (pending_in k.loops k.pending k.waiting (meet_long MeetsPending k.pending k.waiting h.2))
    (enter_meets tables p k h k.pending k.waiting h.2)
flow_meets tables code instr.Return p k h = return_meets (result_form tables k.owner) k h
flow_meets tables code (instr.Begin v) p k h = begun_meets tables (slice_get tables.targets v) p k h
flow_meets tables code (instr.Hold d) p k h =
    where_meets (nat_lt d (length tables.definitions) && frames_inside 1 k.loops k.defaults)
    (nat_lt d (length tables.definitions) && frames_inside 1 k.loops k.frames)
    (top k.defaults (λ f fs. pop_as f.holds (left k)
    (λ s. leads (p + 1) (record s { defaults = record f { checked = false } ∷ fs }))))
    (top k.frames (λ f fs. pop_as f.holds (right k)
    (λ s. leads (p + 1) (record s { defaults = record f { checked = false } ∷ fs }))))
    (inside_too (nat_lt d (length tables.definitions)) k h)
    (hold_meets p k h k.defaults k.frames h.1)
flow_meets tables code instr.Merge p k h =
    where_meets (frames_inside 2 k.loops k.defaults) (frames_inside 2 k.loops k.frames)
    (top k.defaults (λ f fs. top fs (λ g gs. where_so (f.checked && same_form f.holds g.holds)
    (leads (p + 1) (record (left k) { defaults = record g { checked = false } ∷ gs })))))
    (top k.frames (λ f fs. top fs (λ g gs. where_so (f.checked && same_form f.holds g.holds)
    (leads (p + 1) (record (right k) { defaults = record g { checked = false } ∷ gs })))))
    (frames_in 2 k.loops k.defaults k.frames (meet_long MeetsFrame k.defaults k.frames h.1))
    (merge_meets p k h k.defaults k.frames h.1)
flow_meets tables code (instr.Check v) p k h =
    where_meets (nat_lt v (length tables.targets) && frames_inside 1 k.loops k.defaults)
    (nat_lt v (length tables.targets) && frames_inside 1 k.loops k.frames)
    (top k.defaults (λ f fs. leads (p + 1) (record (left k) { defaults = record f { checked = true } ∷ fs })))
    (top k.frames (λ f fs. leads (p + 1) (record (right k) { defaults = record f { checked = true } ∷ fs })))
    (inside_too (nat_lt v (length tables.targets)) k h)
    (check_meets p k h k.defaults k.frames h.1)
flow_meets tables code (instr.Held t) p k h = held_meets p t k h k.defaults k.frames h.1
flow_meets tables code (instr.Take t) p k h =
    where_meets (frames_inside 1 k.loops k.defaults) (frames_inside 1 k.loops k.frames)
    (top k.defaults (λ f fs. where_so f.checked
    (leads_two (p + 1) (pushed f.holds (record (left k) { defaults = fs })) t (record (left k) { defaults = fs }))))
    (top k.frames (λ f fs. where_so f.checked
    (leads_two (p + 1) (pushed f.holds (record (right k) { defaults = fs })) t (record (right k) { defaults = fs }))))
    (frames_in 1 k.loops k.defaults k.frames (meet_long MeetsFrame k.defaults k.frames h.1))
    (take_meets p t k h k.defaults k.frames h.1)
flow_meets tables code (instr.NoValue v) p k h =
    where_same (nat_lt v (length tables.targets)) (Some []) (Some []) tt
flow_meets tables code (instr.Assert q) p k h =
    where_same (nat_lt q (length tables.positions)) (pop_as Truth (left k) (λ s. leads (p + 1) s))
    (pop_as Truth (right k) (λ s. leads (p + 1) s))
    (pop_as_meets Truth k (λ s. leads (p + 1) s) (λ ts. to_next (over ts k) h (p + 1)))

-- two shapes of which one meets the other, as a pair
abbrev pair_of : Shape → Shape → Pair
pair_of s t = record {
  owner = s.owner;
  operands = s.operands;
  locals = s.locals;
  loops = s.loops;
  filled = s.filled;
  defaults = s.defaults;
  pending = s.pending;
  few = t.filled;
  frames = t.defaults;
  waiting = t.pending;
}

abbrev made_of : Owner → List Form → List Form → List LoopShape → Shape → Shape
made_of owner operands locals loops t = record t { owner = owner; operands = operands; locals = locals; loops = loops }

right_is : (s t : Shape) → Meets s t → right (pair_of s t) ≡ t
right_is s t m =
    ap (λ (o : Owner). made_of o s.operands s.locals s.loops t) m.owner
    ∙ ap (λ (ts : List Form). made_of t.owner ts s.locals s.loops t) m.operands
    ∙ ap (λ (ts : List Form). made_of t.owner t.operands ts s.loops t) m.locals
    ∙ ap (λ (ls : List LoopShape). made_of t.owner t.operands t.locals ls t) m.loops

pub less_known : (tables : Tables) (code : List Instr) (i : Instr) (p : ℕ) (s t : Shape) → Meets s t
    → FlowMeets (flow tables code i p s) (flow tables code i p t)
less_known tables code i p s t m =
    subst (λ (u : Shape). FlowMeets (flow tables code i p s) (flow tables code i p u)) (right_is s t m)
    (flow_meets tables code i p (pair_of s t) (m.filled, m.defaults, m.pending))
