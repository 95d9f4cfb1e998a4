-- Where more is known calls and scopes go on, if they do where less is known.
use Rattle.std.proofs.Common.{ℕ, zero, suc, ◌+◌, nat_eq, ◌&&◌, Bool, true, false, List, [], ◌∷◌, length, Option, Some}
use Rattle.std.proofs.Common.{None, slice_set, refl, sym, ap, ◌∙◌, subst}
use Rattle.std.specs.Prelude.{replicate}
use Rattle.cat_value.specs.declared.declaration.Scope.{Scope}
use Rattle.cat_scope.specs.Names.{has_none, scope_items}
use Rattle.cat_code.specs.declared.code.Tables.{Tables}
use Rattle.cat_code.specs.Forms.{Form, same_form, form_of, slot_form, outputs_form}
use Rattle.cat_code.specs.Shapes.{PendingShape, AreFewer, MeetsPending, AllMeet}
use Rattle.cat_code.specs.Places.{FunctionPlace}
use Rattle.cat_code.specs.Wanted.{are_params, are_passed}
use Rattle.cat_code.specs.Leads.{leads, leads_two, with, where_so, top, pushed, pop_as, pop_all, function_entry}
use Rattle.cat_verify_shapes.proofs.LessKnown.{FlowMeets, fewer_set, fewer_passed, no_frames, no_pending, where_meets}
use Rattle.cat_verify_shapes.proofs.LessKnown.{where_same}
use Rattle.cat_verify_shapes.proofs.LessKnownPairs.{Pair, left, right, Known, meets, put, over, to_next, pop_as_meets}
use Rattle.cat_verify_shapes.proofs.LessKnownPairs.{popped_meets}

entered_meets : (tables : Tables) (f n entry p : ℕ) (place : FunctionPlace) (k : Pair) → Known k → (ts us : List Form)
    → FlowMeets
    (where_so (are_params (form_of tables.decls) place.decl.params ts)
    (leads_two (p + 1) (pushed (form_of tables.decls place.decl.ty) (left (over us k))) entry
    (function_entry (form_of tables.decls) f place (left (over us k)))))
    (where_so (are_params (form_of tables.decls) place.decl.params ts)
    (leads_two (p + 1) (pushed (form_of tables.decls place.decl.ty) (right (over us k))) entry
    (function_entry (form_of tables.decls) f place (right (over us k)))))
entered_meets tables f n entry p place k h ts us =
    where_same (are_params (form_of tables.decls) place.decl.params ts)
    (leads_two (p + 1) (pushed (form_of tables.decls place.decl.ty) (left (over us k))) entry
    (function_entry (form_of tables.decls) f place (left (over us k))))
    (leads_two (p + 1) (pushed (form_of tables.decls place.decl.ty) (right (over us k))) entry
    (function_entry (form_of tables.decls) f place (right (over us k)))) (
      refl,
      meets (put (form_of tables.decls place.decl.ty) (over us k)) h,
      (
        refl,
        record {
          owner = refl;
          operands = refl;
          locals = refl;
          filled = h.0;
          defaults = tt;
          loops = refl;
          pending = tt;
        },
        tt,
      ),
    )

pub call_meets : (tables : Tables) (place : Option FunctionPlace) (entry : Option ℕ) (f n p : ℕ) (k : Pair) → Known k
    → FlowMeets
    (with place (λ place. with entry
    (λ entry. where_so (nat_eq place.scope k.owner.scope && nat_eq n (length place.decl.params))
    (pop_all n (left k) (λ ts s. where_so (are_params (form_of tables.decls) place.decl.params ts)
    (leads_two (p + 1) (pushed (form_of tables.decls place.decl.ty) s) entry
    (function_entry (form_of tables.decls) f place s)))))))
    (with place (λ place. with entry
    (λ entry. where_so (nat_eq place.scope k.owner.scope && nat_eq n (length place.decl.params))
    (pop_all n (right k) (λ ts s. where_so (are_params (form_of tables.decls) place.decl.params ts)
    (leads_two (p + 1) (pushed (form_of tables.decls place.decl.ty) s) entry
    (function_entry (form_of tables.decls) f place s)))))))
call_meets tables None entry f n p k h = tt
call_meets tables (Some place) None f n p k h = tt
call_meets tables (Some place) (Some entry) f n p k h =
    where_same (nat_eq place.scope k.owner.scope && nat_eq n (length place.decl.params))
    (pop_all n (left k) (λ ts s. where_so (are_params (form_of tables.decls) place.decl.params ts)
    (leads_two (p + 1) (pushed (form_of tables.decls place.decl.ty) s) entry
    (function_entry (form_of tables.decls) f place s))))
    (pop_all n (right k) (λ ts s. where_so (are_params (form_of tables.decls) place.decl.params ts)
    (leads_two (p + 1) (pushed (form_of tables.decls place.decl.ty) s) entry
    (function_entry (form_of tables.decls) f place s))))
    (popped_meets n [] k.operands k (λ ts s. where_so (are_params (form_of tables.decls) place.decl.params ts)
    (leads_two (p + 1) (pushed (form_of tables.decls place.decl.ty) s) entry
    (function_entry (form_of tables.decls) f place s)))
    (λ ts us. entered_meets tables f n entry p place k h ts us))

pub scope_meets : (scope : Option Scope) (n p : ℕ) (k : Pair) → Known k
    → FlowMeets
    (with scope (λ scope. leads (p + 1) (record (left k) {
      pending = record { scope = n; passed = replicate (length scope.items) false } ∷ k.pending;
    })))
    (with scope (λ scope. leads (p + 1) (record (right k) {
      pending = record { scope = n; passed = replicate (length scope.items) false } ∷ k.waiting;
    })))
scope_meets None n p k h = tt
scope_meets (Some scope) n p k h = (
  refl,
  record {
    owner = refl;
    operands = refl;
    locals = refl;
    filled = h.0;
    defaults = h.1;
    loops = refl;
    pending = (record { scope = refl; passed = none_passed (length scope.items) }, h.2);
  },
  tt,
)
  where
    none_passed : (n : ℕ) → AreFewer (replicate n false) (replicate n false)
    none_passed zero = tt
    none_passed (suc n) = none_passed n

pub pass_meets : (tables : Tables) (i p : ℕ) (k : Pair) → Known k → (ps qs : List PendingShape)
    → AllMeet MeetsPending ps qs
    → FlowMeets
    (top ps (λ q qs. with (slot_form tables.decls q.scope i) (λ t. pop_as t (left k)
    (λ s. leads (p + 1) (record s { pending = record q { passed = slice_set q.passed i true } ∷ qs })))))
    (top qs (λ q qs. with (slot_form tables.decls q.scope i) (λ t. pop_as t (right k)
    (λ s. leads (p + 1) (record s { pending = record q { passed = slice_set q.passed i true } ∷ qs })))))
pass_meets tables i p k h [] [] m = tt
pass_meets tables i p k h [] (q ∷ qs) m = absurd m
pass_meets tables i p k h (q ∷ ps) [] m = absurd m
pass_meets tables i p k h (r ∷ ps) (q ∷ qs) m =
    subst (λ (n : ℕ). FlowMeets
    (with (slot_form tables.decls n i) (λ t. pop_as t (left k)
    (λ s. leads (p + 1) (record s { pending = record r { passed = slice_set r.passed i true } ∷ ps }))))
    (with (slot_form tables.decls q.scope i) (λ t. pop_as t (right k)
    (λ s. leads (p + 1) (record s { pending = record q { passed = slice_set q.passed i true } ∷ qs })))))
    (sym m.0.scope) (slots (slot_form tables.decls q.scope i))
  where
    slots : (o : Option Form)
        → FlowMeets
        (with o (λ t. pop_as t (left k)
        (λ s. leads (p + 1) (record s { pending = record r { passed = slice_set r.passed i true } ∷ ps }))))
        (with o (λ t. pop_as t (right k)
        (λ s. leads (p + 1) (record s { pending = record q { passed = slice_set q.passed i true } ∷ qs }))))
    slots None = tt
    slots (Some t) = popped_here k.operands
      where
        popped_here : (ops : List Form)
            → FlowMeets
            (pop_as t (left (over ops k))
            (λ s. leads (p + 1) (record s { pending = record r { passed = slice_set r.passed i true } ∷ ps })))
            (pop_as t (right (over ops k))
            (λ s. leads (p + 1) (record s { pending = record q { passed = slice_set q.passed i true } ∷ qs })))
        popped_here [] = tt
        popped_here (u ∷ us) =
            where_same (same_form u t)
            (leads (p + 1) (record (left (over us k)) {
              pending = record r { passed = slice_set r.passed i true } ∷ ps;
            }))
            (leads (p + 1) (record (right (over us k)) {
              pending = record q { passed = slice_set q.passed i true } ∷ qs;
            }))
            (to_next (record (over us k) {
              pending = record r { passed = slice_set r.passed i true } ∷ ps;
              waiting = record q { passed = slice_set q.passed i true } ∷ qs;
            })
            (h.0, h.1, (record { scope = m.0.scope; passed = fewer_set q.passed r.passed i m.0.passed }, m.1))
            (p + 1))

pub enter_meets : (tables : Tables) (p : ℕ) (k : Pair) → Known k → (ps qs : List PendingShape)
    → AllMeet MeetsPending ps qs
    → FlowMeets
    (top ps (λ q qs. where_so (are_passed (scope_items tables.decls q.scope) q.passed)
    (leads (p + 1) (pushed (outputs_form tables.decls q.scope) (record (left k) { pending = qs })))))
    (top qs (λ q qs. where_so (are_passed (scope_items tables.decls q.scope) q.passed)
    (leads (p + 1) (pushed (outputs_form tables.decls q.scope) (record (right k) { pending = qs })))))
enter_meets tables p k h [] [] m = tt
enter_meets tables p k h [] (q ∷ qs) m = absurd m
enter_meets tables p k h (q ∷ ps) [] m = absurd m
enter_meets tables p k h (r ∷ ps) (q ∷ qs) m =
    rw m.0.scope
    (where_meets (are_passed (scope_items tables.decls q.scope) r.passed)
    (are_passed (scope_items tables.decls q.scope) q.passed)
    (leads (p + 1) (pushed (outputs_form tables.decls q.scope) (record (left k) { pending = ps })))
    (leads (p + 1) (pushed (outputs_form tables.decls q.scope) (record (right k) { pending = qs })))
    (fewer_passed (scope_items tables.decls q.scope) q.passed r.passed m.0.passed)
    (to_next (put (outputs_form tables.decls q.scope) (record k {
      pending = ps;
      waiting = qs;
    })) (h.0, h.1, m.1) (p + 1)))

pub return_meets : (result : Option Form) (k : Pair) → Known k
    → FlowMeets
    (with result (λ t. pop_as t (left k) (λ s. where_so
    (has_none s.operands && has_none s.defaults && has_none s.loops && has_none s.pending) (Some []))))
    (with result (λ t. pop_as t (right k) (λ s. where_so
    (has_none s.operands && has_none s.defaults && has_none s.loops && has_none s.pending) (Some []))))
return_meets None k h = tt
return_meets (Some t) k h =
    pop_as_meets t k (λ s. where_so
    (has_none s.operands && has_none s.defaults && has_none s.loops && has_none s.pending) (Some []))
    (λ ts. where_meets
    (has_none ts && has_none k.defaults && has_none k.loops && has_none k.pending)
    (has_none ts && has_none k.frames && has_none k.loops && has_none k.waiting) (Some []) (Some [])
    (λ e. ap (λ (b : Bool). has_none ts && b && has_none k.loops && has_none k.pending)
    (no_frames k.defaults k.frames h.1)
    ∙ ap (λ (b : Bool). has_none ts && has_none k.frames && has_none k.loops && b) (no_pending k.pending k.waiting h.2)
    ∙ e)
    tt)
