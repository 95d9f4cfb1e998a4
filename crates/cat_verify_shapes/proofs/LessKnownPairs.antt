-- Two shapes that agree but in what is known, as a pair: what is popped of one is popped of both.
use Rattle.std.proofs.Common.{ℕ, zero, suc, ◌+◌, Bool, List, [], ◌∷◌, Option, Some, None, refl}
use Rattle.cat_code.specs.Forms.{Form, same_form}
use Rattle.cat_code.specs.Shapes.{Owner, FrameShape, LoopShape, PendingShape, Shape, AreFewer, MeetsFrame, MeetsPending}
use Rattle.cat_code.specs.Shapes.{AllMeet, Meets}
use Rattle.cat_code.specs.Leads.{Flow, leads, leads_two, with, where_so, pushed, pop, pop_as, popped}
use Rattle.cat_verify_shapes.proofs.LessKnown.{FlowMeets, where_same}

-- two shapes that agree but in what is known: of the first one more
pub record Pair : Type 0 where
  pub owner : Owner
  pub operands : List Form
  pub locals : List Form
  pub loops : List LoopShape
  pub filled : List Bool
  pub defaults : List FrameShape
  pub pending : List PendingShape
  pub few : List Bool
  pub frames : List FrameShape
  pub waiting : List PendingShape

abbrev pub left : Pair → Shape
left k = record {
  owner = k.owner;
  operands = k.operands;
  locals = k.locals;
  filled = k.filled;
  defaults = k.defaults;
  loops = k.loops;
  pending = k.pending;
}

abbrev pub right : Pair → Shape
right k = record {
  owner = k.owner;
  operands = k.operands;
  locals = k.locals;
  filled = k.few;
  defaults = k.frames;
  loops = k.loops;
  pending = k.waiting;
}

abbrev pub Known : Pair → Type 0
Known k = AreFewer k.few k.filled × AllMeet MeetsFrame k.defaults k.frames × AllMeet MeetsPending k.pending k.waiting

pub meets : (k : Pair) → Known k → Meets (left k) (right k)
meets k h = record {
  owner = refl;
  operands = refl;
  locals = refl;
  filled = h.0;
  defaults = h.1;
  loops = refl;
  pending = h.2;
}

abbrev pub put : Form → Pair → Pair
put t k = record k { operands = t ∷ k.operands }

abbrev pub over : List Form → Pair → Pair
over ts k = record k { operands = ts }

pub to_next : (k : Pair) → Known k → (p : ℕ) → FlowMeets (leads p (left k)) (leads p (right k))
to_next k h p = (refl, meets k h, tt)

pub to_two : (k l : Pair) → Known k → Known l → (p q : ℕ)
    → FlowMeets (leads_two p (left k) q (left l)) (leads_two p (right k) q (right l))
to_two k l h m p q = (refl, meets k h, (refl, meets l m, tt))

pub gives_meet : (o : Option Form) (p : ℕ) (k : Pair) → Known k
    → FlowMeets (with o (λ t. leads (p + 1) (pushed t (left k)))) (with o (λ t. leads (p + 1) (pushed t (right k))))
gives_meet None p k h = tt
gives_meet (Some t) p k h = to_next (put t k) h (p + 1)

-- ---- what is popped

pub pop_meets : (ops : List Form) (k : Pair) (go : Form → Shape → Flow)
    → ((t : Form) (ts : List Form) → FlowMeets (go t (left (over ts k))) (go t (right (over ts k))))
    → FlowMeets (pop (left (over ops k)) go) (pop (right (over ops k)) go)
pop_meets [] k go h = tt
pop_meets (t ∷ ts) k go h = h t ts

pub pop_as_meets : (t : Form) (k : Pair) (go : Shape → Flow)
    → ((ts : List Form) → FlowMeets (go (left (over ts k))) (go (right (over ts k))))
    → FlowMeets (pop_as t (left k) go) (pop_as t (right k) go)
pop_as_meets t k go h =
    pop_meets k.operands k (λ u s. where_so (same_form u t) (go s))
    (λ u ts. where_same (same_form u t) (go (left (over ts k))) (go (right (over ts k))) (h ts))

pub popped_meets : (n : ℕ) (ts stack : List Form) (k : Pair) (go : List Form → Shape → Flow)
    → ((us rest : List Form) → FlowMeets (go us (left (over rest k))) (go us (right (over rest k))))
    → FlowMeets (popped n ts (left k) stack go) (popped n ts (right k) stack go)
popped_meets zero ts stack k go h = h ts stack
popped_meets (suc n) ts [] k go h = tt
popped_meets (suc n) ts (t ∷ stack) k go h = popped_meets n (t ∷ ts) stack k go h
