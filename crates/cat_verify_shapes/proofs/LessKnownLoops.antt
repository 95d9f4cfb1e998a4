-- Where more is known operators, contents of cases and loops go on, if they do where less is known.
use Rattle.std.proofs.Common.{◌≡◌, ℕ, ◌+◌, nat_eq, List, [], ◌∷◌, length, Option, Some, None, refl, ap, ◌∙◌}
use Rattle.cat_value.specs.declared.ty.Ty.{Ty}
use Rattle.cat_scope.specs.Signatures.{signatures_of, taken_by, given_by}
use Rattle.cat_code.specs.declared.code.Tables.{Tables}
use Rattle.cat_code.specs.Operations.{Operation, Before, Between}
use Rattle.cat_code.specs.Forms.{Form, Many, OneOf, same_form, form_of}
use Rattle.cat_code.specs.Shapes.{LoopShape, MeetsFrame, MeetsPending}
use Rattle.cat_code.specs.Wanted.{signed}
use Rattle.cat_code.specs.Leads.{leads, leads_two, with, where_so, top, pushed, pop, pop_as, operated, begins}
use Rattle.cat_code.specs.Leads.{loop_ended}
use Rattle.cat_verify_shapes.proofs.LessKnown.{FlowMeets, with_meets, where_same}
use Rattle.cat_verify_shapes.proofs.FrontLemmas.{meet_long}
use Rattle.cat_verify_shapes.proofs.LessKnownPairs.{Pair, left, right, Known, put, over, to_next, to_two, pop_meets}
use Rattle.cat_verify_shapes.proofs.LessKnownPairs.{pop_as_meets}

pub operated_meets : (form : Ty → Form) (o : Operation) (p : ℕ) (k : Pair) → Known k
    → FlowMeets (operated form o p (left k)) (operated form o p (right k))
operated_meets form (Before o) p k h =
    pop_as_meets (form (taken_by o)) k (λ s. leads (p + 1) (pushed (form (given_by o)) s))
    (λ ts. to_next (put (form (given_by o)) (over ts k)) h (p + 1))
operated_meets form (Between o) p k h =
    pop_meets k.operands k
    (λ u s. pop s (λ t s. with (signed form (signatures_of o) t u) (λ r. leads (p + 1) (pushed (form r) s))))
    (λ u ts. pop_meets ts k (λ t s. with (signed form (signatures_of o) t u) (λ r. leads (p + 1) (pushed (form r) s)))
    (λ t us. with_meets (signed form (signatures_of o) t u) (λ r. leads (p + 1) (pushed (form r) (left (over us k))))
    (λ r. leads (p + 1) (pushed (form r) (right (over us k))))
    (λ r. to_next (put (form r) (over us k)) h (p + 1))))

abbrev begun_loop : ℕ → Form → Option Form → ℕ → ℕ → LoopShape
begun_loop p t collected frames pending = record {
  begun = p;
  element = t;
  collected = collected;
  frames = frames;
  pending = pending;
}

same_loop : (p : ℕ) (t : Form) (collected : Option Form) (n m a b : ℕ) → n ≡ m → a ≡ b
    → begun_loop p t collected n a ≡ begun_loop p t collected m b
same_loop p t collected n m a b e f =
    ap (λ (c : ℕ). begun_loop p t collected c a) e ∙ ap (begun_loop p t collected m) f

pub begins_meets : (p : ℕ) (t : Form) (collected : Option Form) (k : Pair) → Known k
    → FlowMeets (begins p t collected (left k)) (begins p t collected (right k))
begins_meets p t collected k h = (
  refl,
  record {
    owner = refl;
    operands = refl;
    locals = refl;
    filled = h.0;
    defaults = h.1;
    loops = ap (λ (l : LoopShape). l ∷ k.loops) (same_loop p t collected (length k.defaults) (length k.frames)
        (length k.pending) (length k.waiting) (meet_long MeetsFrame k.defaults k.frames h.1)
        (meet_long MeetsPending k.pending k.waiting h.2));
    pending = h.2;
  },
  tt,
)

pub content_meets : (tables : Tables) (o : Option Ty) (n p : ℕ) (k : Pair) → Known k
    → FlowMeets
    (with o (λ t. pop_as (OneOf n) (left k) (λ s. leads (p + 1) (pushed (form_of tables.decls t) s))))
    (with o (λ t. pop_as (OneOf n) (right k) (λ s. leads (p + 1) (pushed (form_of tables.decls t) s))))
content_meets tables None n p k h = tt
content_meets tables (Some t) n p k h =
    pop_as_meets (OneOf n) k (λ s. leads (p + 1) (pushed (form_of tables.decls t) s))
    (λ ts. to_next (put (form_of tables.decls t) (over ts k)) h (p + 1))

pub tagged_meets : (tables : Tables) (o : Option Ty) (n p : ℕ) (k : Pair) → Known k
    → FlowMeets
    (with o (λ t. pop_as (form_of tables.decls t) (left k) (λ s. leads (p + 1) (pushed (OneOf n) s))))
    (with o (λ t. pop_as (form_of tables.decls t) (right k) (λ s. leads (p + 1) (pushed (OneOf n) s))))
tagged_meets tables None n p k h = tt
tagged_meets tables (Some t) n p k h =
    pop_as_meets (form_of tables.decls t) k (λ s. leads (p + 1) (pushed (OneOf n) s))
    (λ ts. to_next (put (OneOf n) (over ts k)) h (p + 1))

ended_meets : (collected : Option Form) (element : Form) (ls : List LoopShape) (p t : ℕ) (k : Pair) → Known k
    → FlowMeets
    (leads_two (p + 1) (pushed element (left k)) t (loop_ended collected (record (left k) { loops = ls })))
    (leads_two (p + 1) (pushed element (right k)) t (loop_ended collected (record (right k) { loops = ls })))
ended_meets None element ls p t k h = to_two (put element k) (record k { loops = ls }) h h (p + 1) t
ended_meets (Some c) element ls p t k h = to_two (put element k) (put (Many c) (record k { loops = ls })) h h (p + 1) t

pub next_meets : (loops : List LoopShape) (p t : ℕ) (k : Pair) → Known k
    → FlowMeets
    (top loops (λ l ls. where_so (nat_eq (l.begun + 1) p)
    (leads_two (p + 1) (pushed l.element (left k)) t (loop_ended l.collected (record (left k) { loops = ls })))))
    (top loops (λ l ls. where_so (nat_eq (l.begun + 1) p)
    (leads_two (p + 1) (pushed l.element (right k)) t (loop_ended l.collected (record (right k) { loops = ls })))))
next_meets [] p t k h = tt
next_meets (l ∷ ls) p t k h =
    where_same (nat_eq (l.begun + 1) p)
    (leads_two (p + 1) (pushed l.element (left k)) t (loop_ended l.collected (record (left k) { loops = ls })))
    (leads_two (p + 1) (pushed l.element (right k)) t (loop_ended l.collected (record (right k) { loops = ls })))
    (ended_meets l.collected l.element ls p t k h)

pub collect_meets : (loops : List LoopShape) (t : Form) (p : ℕ) (k : Pair) → Known k
    → FlowMeets
    (top loops (λ l ls. with l.collected (λ c. where_so (same_form t c) (leads (p + 1) (left k)))))
    (top loops (λ l ls. with l.collected (λ c. where_so (same_form t c) (leads (p + 1) (right k)))))
collect_meets [] t p k h = tt
collect_meets (l ∷ ls) t p k h =
    with_meets l.collected (λ c. where_so (same_form t c) (leads (p + 1) (left k)))
    (λ c. where_so (same_form t c) (leads (p + 1) (right k)))
    (λ c. where_same (same_form t c) (leads (p + 1) (left k)) (leads (p + 1) (right k)) (to_next k h (p + 1)))

pub leave_meets : (loops : List LoopShape) (p : ℕ) (k : Pair) → Known k
    → FlowMeets (top loops (λ l ls. leads (p + 1) (record (left k) { loops = ls })))
    (top loops (λ l ls. leads (p + 1) (record (right k) { loops = ls })))
leave_meets [] p k h = tt
leave_meets (l ∷ ls) p k h = to_next (record k { loops = ls }) h (p + 1)
