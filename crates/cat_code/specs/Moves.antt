-- What the machine does with its stacks.
use Rattle.std.specs.Prelude.{ℕ, zero, suc, ◌+◌, Bool, true, false, List, [], ◌∷◌, Option, Some, None, Result, Ok, Err}
use Rattle.cat_value.specs.declared.value.Value.{Value}
use Rattle.cat_value.specs.declared.value.Value.TheViews as value
use Rattle.cat_scope.specs.declared.stop.Stop.{Stop}
use Rattle.cat_scope.specs.Replies.{Reply}
use Rattle.cat_scope.specs.Judging.{Held}
use Rattle.cat_scope.specs.Calls.{Items}
use Rattle.cat_scope.specs.Projections.{elements, parts}
use Rattle.cat_code.specs.declared.code.Tables.{Tables}
use Rattle.cat_code.specs.States.{Frame, Loop, State, Next, Goes, Over, stuck, at, on, to, push}
use Rattle.cat_code.specs.Logged.{logged}

-- goes on with what is there, and ends with a stop
abbrev pub with_part : {A : Type 0} → Result A Stop → (A → Next) → Next
with_part (Ok a) go = go a
with_part (Err stop) go = Over (Err stop)

-- pushes a value, or ends with a stop
abbrev pub pushes : Reply → State → Next
pushes reply s = with_part reply (λ v. on (push v s))

-- takes the top off a stack
abbrev pub of_top : {A : Type 0} → List A → (A → List A → Next) → Next
of_top [] go = stuck
of_top (x ∷ xs) go = go x xs

-- pops an operand
abbrev pub pop : State → (Value → State → Next) → Next
pop s go = of_top s.operands (λ v vs. go v (record s { operands = vs }))

-- n operands in front of those that were popped, the last on top
abbrev pub popped : ℕ → List Value → State → List Value → (List Value → State → Next) → Next
popped zero vs s stack go = go vs (record s { operands = stack })
popped (suc n) vs s [] go = stuck
popped (suc n) vs s (v ∷ stack) go = popped n (v ∷ vs) s stack go

-- pops n operands, in the order in which they were pushed
abbrev pub pop_all : ℕ → State → (List Value → State → Next) → Next
pop_all n s go = popped n [] s s.operands go

-- one of two by a truth value
abbrev pub by_truth : Bool → Next → Next → Next
by_truth true one other = one
by_truth false one other = other

-- one of two by whether a slot is filled
abbrev pub if_filled : Option Value → Next → Next → Next
if_filled (Some v) one other = one
if_filled None one other = other

-- one of two by whether a default frame has an entry
abbrev pub if_held : List (Held Value) → Next → Next → Next
if_held [] one other = other
if_held (h ∷ hs) one other = one

-- begins a loop over the elements of a list
abbrev pub starts : Option (List Value) → Value → State → Next
starts collected v s =
    with_part (elements v) (λ vs. on (record s { loops = record { left = vs; collected = collected } ∷ s.loops }))

-- what a loop leaves behind: the list that it collected, where it did
abbrev pub with_collected : Option (List Value) → State → State
with_collected None s = s
with_collected (Some vs) s = push (value.List vs) s

-- the next of the elements that are left, or the end of the loop
abbrev pub next_of : List Value → ℕ → Loop → List Loop → State → Next
next_of [] t loop loops s = to t (with_collected loop.collected (record s { loops = loops }))
next_of (v ∷ vs) t loop loops s = on (push v (record s { loops = record loop { left = vs } ∷ loops }))

-- goes into a frame; the present one waits behind this instruction
abbrev pub enters : ℕ → Option Items → Items → List Value → State → Next
enters entry kept slots locals s =
    Goes [] (record s {
      place = entry;
      slots = slots;
      locals = locals;
      frames = record { slots = kept; locals = s.locals; back = s.place + 1 } ∷ s.frames;
    })

-- the slots of the frame that is gone back to: the present ones, where these are shared
abbrev pub slots_back : Option Items → Items → Items
slots_back None slots = slots
slots_back (Some kept) slots = kept

-- leaves a frame; the first one ends the run with the fields of the top operand
abbrev pub returns : List Frame → State → Next
returns [] s = pop s (λ v s. Over (parts v))
returns (f ∷ fs) s =
    Goes [] (record s { place = f.back; slots = slots_back f.slots s.slots; locals = f.locals; frames = fs })

-- removes a default frame: pushes its one value, or jumps where it has none
abbrev pub takes : List (Held Value) → Tables → ℕ → Option ℕ → State → Next
takes [] tables t checked s = Goes (logged tables checked None) (at t s)
takes (h ∷ []) tables t checked s = Goes (logged tables checked (Some h)) (push h.value (at (s.place + 1) s))
takes (h ∷ i ∷ hs) tables t checked s = stuck
