-- What instructions do to shapes.
use Rattle.std.specs.Prelude.{ℕ, zero, suc, ◌+◌, Bool, true, false, List, [], ◌∷◌, length, map, Option, Some, None}
use Rattle.cat_value.specs.declared.ty.Ty.{Ty}
use Rattle.cat_scope.specs.Signatures.{signatures_of, taken_by, given_by}
use Rattle.cat_code.specs.Operations.{Operation, Before, Between}
use Rattle.cat_code.specs.Forms.{Form, Many, Fields, Forms, same_form}
use Rattle.cat_code.specs.Shapes.{Shape}
use Rattle.cat_code.specs.Places.{FunctionPlace}
use Rattle.cat_code.specs.Wanted.{signed}

-- places with shapes
abbrev pub Flow : Type 0
Flow = Option (List (ℕ × Shape))

-- to one place
abbrev pub leads : ℕ → Shape → Flow
leads p s = Some ((p, s) ∷ [])

-- to one of two
abbrev pub leads_two : ℕ → Shape → ℕ → Shape → Flow
leads_two p s q t = Some ((p, s) ∷ (q, t) ∷ [])

-- goes on with what is there
abbrev pub with : {A : Type 0} → Option A → (A → Flow) → Flow
with None go = None
with (Some a) go = go a

-- goes on where it is so
abbrev pub where_so : Bool → Flow → Flow
where_so true go = go
where_so false go = None

-- the top of a stack
abbrev pub top : {A : Type 0} → List A → (A → List A → Flow) → Flow
top [] go = None
top (x ∷ xs) go = go x xs

-- an operand more
abbrev pub pushed : Form → Shape → Shape
pushed t s = record s { operands = t ∷ s.operands }

-- pops an operand
abbrev pub pop : Shape → (Form → Shape → Flow) → Flow
pop s go = top s.operands (λ t ts. go t (record s { operands = ts }))

-- pops an operand of a type
abbrev pub pop_as : Form → Shape → (Shape → Flow) → Flow
pop_as t s go = pop s (λ u s. where_so (same_form u t) (go s))

-- n operands in front of those that were popped
abbrev pub popped : ℕ → List Form → Shape → List Form → (List Form → Shape → Flow) → Flow
popped zero ts s stack go = go ts (record s { operands = stack })
popped (suc n) ts s [] go = None
popped (suc n) ts s (t ∷ stack) go = popped n (t ∷ ts) s stack go

-- pops n operands, in the order in which they were pushed
abbrev pub pop_all : ℕ → Shape → (List Form → Shape → Flow) → Flow
pop_all n s go = popped n [] s s.operands go

-- the type of the elements of a list
abbrev pub elements_of : Form → (Form → Flow) → Flow
elements_of (Many t) go = go t
elements_of _ go = None

-- the types of the fields of a structure
abbrev pub fields_of : Form → (Forms → Flow) → Flow
fields_of (Fields ts) go = go ts
fields_of _ go = None

-- the result of an operator on the top operands
abbrev pub operated : (Ty → Form) → Operation → ℕ → Shape → Flow
operated form (Before o) p s = pop_as (form (taken_by o)) s (λ s. leads (p + 1) (pushed (form (given_by o)) s))
operated form (Between o) p s =
    pop s (λ u s. pop s (λ t s. with (signed form (signatures_of o) t u) (λ r. leads (p + 1) (pushed (form r) s))))

-- a loop begins
abbrev pub begins : ℕ → Form → Option Form → Shape → Flow
begins p t collected s =
    leads (p + 1) (record s {
      loops = record {
        begun = p;
        element = t;
        collected = collected;
        frames = length s.defaults;
        pending = length s.pending;
      } ∷ s.loops;
    })

-- what a loop leaves behind
abbrev pub loop_ended : Option Form → Shape → Shape
loop_ended None s = s
loop_ended (Some t) s = pushed (Many t) s

-- the entry of a function: its parameters are its locals, and it shares the slots
abbrev pub function_entry : (Ty → Form) → ℕ → FunctionPlace → Shape → Shape
function_entry form f place s = record {
  owner = record { scope = place.scope; function = Some f };
  operands = [];
  locals = map form place.decl.params;
  filled = s.filled;
  defaults = [];
  loops = [];
  pending = [];
}
