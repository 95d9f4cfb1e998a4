-- Inside a loop frames that stood where it began stay as they were, and slots stay filled: by parts of shapes.
use Rattle.std.proofs.Common.{◌≡◌, ◌≤◌, ℕ, zero, suc, ◌+◌, nat_le, nat_lt, Bool, true, false}
use Rattle.std.proofs.Common.{List, [], ◌∷◌, ◌++◌, length, Option, Some, None, slice_set, refl, sym}
use Rattle.std.proofs.Common.{ap, ◌∙◌}
use Rattle.std.proofs.Common.{subst, arith}
use Rattle.std.proofs.lemmas.Bool.Decides.{nat_tests}
use Rattle.std.proofs.lemmas.List.{length-append}
use Rattle.cat_value.specs.declared.ty.Ty.{Ty}
use Rattle.cat_scope.specs.Names.{AllHave}
use Rattle.cat_scope.specs.Signatures.{signatures_of, taken_by, given_by}
use Rattle.cat_code.specs.Operations.{Operation, Before, Between}
use Rattle.cat_code.specs.Forms.{Form, Many}
use Rattle.cat_code.specs.Shapes.{Owner, FrameShape, LoopShape, PendingShape, Shape, AreFewer}
use Rattle.cat_code.specs.Wanted.{signed, frames_inside, is_pending_inside}
use Rattle.cat_code.specs.Leads.{leads, with, pushed, pop}
use Rattle.cat_code.specs.Leads.{operated, begins, loop_ended}
use Rattle.cat_verify_shapes.specs.inside.Turns.{IsInside}
use Rattle.cat_verify_shapes.proofs.FlowCases.{FlowAll, with_all, pop_all_of, as_all}
use Rattle.cat_verify_shapes.proofs.ListLemmas.{head_is, rest_is}

-- a turn of a loop: the loop on top, and the frames that stood where it began
pub record IsTurn (turn : Shape) : Type 0 where
  pub loop : LoopShape
  pub outer : List LoopShape
  pub loops : turn.loops ≡ loop ∷ outer
  pub frames : length turn.defaults ≡ loop.frames
  pub pending : length turn.pending ≡ loop.pending

-- a shape stays inside as long as the loop isn't left
abbrev pub StaysAt : Shape → ℕ × Shape → Type 0
StaysAt turn next = (inners : List LoopShape) → next.1.loops ≡ inners ++ turn.loops → IsInside turn next.1

-- so do the shapes of all places
abbrev pub Stays : Shape → List (ℕ × Shape) → Type 0
Stays turn to = AllHave (StaysAt turn) to

fewer_more : (fewer more : List Bool) (i : ℕ) → AreFewer fewer more → AreFewer fewer (slice_set more i true)
fewer_more [] [] i h = tt
fewer_more [] (b ∷ more) i h = absurd h
fewer_more (true ∷ fewer) [] i h = absurd h
fewer_more (false ∷ fewer) [] i h = absurd h
fewer_more (true ∷ fewer) (b ∷ more) zero h = (refl, h.1)
fewer_more (false ∷ fewer) (b ∷ more) zero h = h
fewer_more (true ∷ fewer) (b ∷ more) (suc i) h = (h.0, fewer_more fewer more i h.1)
fewer_more (false ∷ fewer) (b ∷ more) (suc i) h = fewer_more fewer more i h

-- the top of what was made since
pub first_of : {A : Type 0} (tops below : List A) (x : A) (more : List A) → 1 ≤ length tops → x ∷ more ≡ tops ++ below
    → (rest : List A) × (more ≡ rest ++ below) × (tops ≡ x ∷ rest)
first_of {A} [] below x more h e = absurd (omega (arith, h))
first_of {A} (t ∷ tops) below x more h e = (
  tops,
  rest_is x t more (tops ++ below) e,
  ap (λ (y : A). y ∷ tops) (sym (head_is x t more (tops ++ below) e)),
)

true_le : (a b : ℕ) → nat_le a b ≡ true → a ≤ b
true_le a b e = grind (arith, nat_tests)

true_lt : (a b : ℕ) → nat_lt a b ≡ true → a + 1 ≤ b
true_lt a b e = grind (arith, nat_tests)

module _ (turn : Shape) where
  -- what has another stack, and else is as it was
  abbrev pub with_stacks : (s : Shape) → IsInside turn s → (operands locals : List Form) (owner : Owner)
      → IsInside turn (record s { owner = owner; operands = operands; locals = locals })
  with_stacks s h operands locals owner = record {
    tops = h.tops;
    frames = h.frames;
    waits = h.waits;
    pending = h.pending;
    filled = h.filled;
    inners = h.inners;
    loops = h.loops;
    above = h.above;
  }

  pub with_filled : (s : Shape) → IsInside turn s → (i : ℕ)
      → IsInside turn (record s { filled = slice_set s.filled i true })
  with_filled s h i = record {
    tops = h.tops;
    frames = h.frames;
    waits = h.waits;
    pending = h.pending;
    filled = fewer_more turn.filled s.filled i h.filled;
    inners = h.inners;
    loops = h.loops;
    above = h.above;
  }

  pub with_frames : (s : Shape) → IsInside turn s → (fs : List FrameShape) (tops : List FrameShape)
      → fs ≡ tops ++ turn.defaults → IsInside turn (record s { defaults = fs })
  with_frames s h fs tops e = record {
    tops = tops;
    frames = e;
    waits = h.waits;
    pending = h.pending;
    filled = h.filled;
    inners = h.inners;
    loops = h.loops;
    above = h.above;
  }

  pub with_pending : (s : Shape) → IsInside turn s → (ps : List PendingShape) (waits : List PendingShape)
      → ps ≡ waits ++ turn.pending → IsInside turn (record s { pending = ps })
  with_pending s h ps waits e = record {
    tops = h.tops;
    frames = h.frames;
    waits = waits;
    pending = e;
    filled = h.filled;
    inners = h.inners;
    loops = h.loops;
    above = h.above;
  }

  pub with_operands : (s : Shape) → IsInside turn s → (ts : List Form) → IsInside turn (record s { operands = ts })
  with_operands s h ts = with_stacks s h ts s.locals s.owner

  -- a loop begins
  pub begins_one : (p : ℕ) (t : Form) (c : Option Form) (s : Shape) → IsInside turn s
      → FlowAll (Stays turn) (begins p t c s)
  begins_one p t c s h = (
    λ inners e. record {
      tops = h.tops;
      frames = h.frames;
      waits = h.waits;
      pending = h.pending;
      filled = h.filled;
      inners = record {
        begun = p;
        element = t;
        collected = c;
        frames = length s.defaults;
        pending = length s.pending;
      } ∷ h.inners;
      loops = ap (λ (ls : List LoopShape). record {
        begun = p;
        element = t;
        collected = c;
        frames = length s.defaults;
        pending = length s.pending;
      } ∷ ls) h.loops;
      above = (
        (
          omega (arith, ap length h.frames, length-append h.tops turn.defaults),
          omega (arith, ap length h.pending, length-append h.waits turn.pending),
        ),
        h.above,
      );
    },
    tt,
  )

  pub operated_stays : (form : Ty → Form) (o : Operation) (p : ℕ) (s : Shape) → IsInside turn s
      → FlowAll (Stays turn) (operated form o p s)
  operated_stays form (Before o) p s h =
      as_all (Stays turn) (form (taken_by o)) s (λ s. leads (p + 1) (pushed (form (given_by o)) s))
      (λ ts. (λ inners e. with_operands s h (form (given_by o) ∷ ts), tt))
  operated_stays form (Between o) p s h =
      pop_all_of (Stays turn) s
      (λ u s. pop s (λ t s. with (signed form (signatures_of o) t u) (λ r. leads (p + 1) (pushed (form r) s))))
      (λ u ts. pop_all_of (Stays turn) (record s { operands = ts })
      (λ t s. with (signed form (signatures_of o) t u) (λ r. leads (p + 1) (pushed (form r) s)))
      (λ t us. with_all (Stays turn) (signed form (signatures_of o) t u)
      (λ r. leads (p + 1) (pushed (form r) (record s { operands = us })))
      (λ r. (λ inners e. with_operands s h (form r ∷ us), tt))))

  -- a default frame on top is made anew
  pub frame_again : (s : Shape) (h : IsInside turn s) (f : FrameShape) (fs : List FrameShape) (flag : Bool)
      → 1 ≤ length h.tops → s.defaults ≡ f ∷ fs → (ts : List Form)
      → IsInside turn (record s { operands = ts; defaults = record f { checked = flag } ∷ fs })
  frame_again s h f fs flag some is ts =
      let rest = first_of h.tops turn.defaults f fs some (sym is ∙ h.frames) in
      with_frames (record s { operands = ts }) (with_operands s h ts) (record f { checked = flag } ∷ fs)
      (record f { checked = flag } ∷ rest.0)
      (ap (λ (xs : List FrameShape). record f { checked = flag } ∷ xs) rest.1)

  pub take_stays : (s : Shape) (h : IsInside turn s) (f : FrameShape) (fs : List FrameShape) → 1 ≤ length h.tops
      → s.defaults ≡ f ∷ fs → (ts : List Form) → IsInside turn (record s { operands = ts; defaults = fs })
  take_stays s h f fs some is ts =
      let rest = first_of h.tops turn.defaults f fs some (sym is ∙ h.frames) in
      with_frames (record s { operands = ts }) (with_operands s h ts) fs rest.0 rest.1

  pub merge_stays : (s : Shape) (h : IsInside turn s) (f g : FrameShape) (fs gs : List FrameShape) → 2 ≤ length h.tops
      → s.defaults ≡ f ∷ fs → fs ≡ g ∷ gs
      → IsInside turn (record s { defaults = record g { checked = false } ∷ gs })
  merge_stays s h f g fs gs some is then_is =
      let rest = first_of h.tops turn.defaults f fs (omega (arith, some)) (sym is ∙ h.frames) in
      let next = first_of rest.0 turn.defaults g gs (more rest.0 rest.2) (sym then_is ∙ rest.1) in
      with_frames s h (record g { checked = false } ∷ gs) (record g { checked = false } ∷ next.0)
      (ap (λ (xs : List FrameShape). record g { checked = false } ∷ xs) next.1)
    where
      more : (rest : List FrameShape) → h.tops ≡ f ∷ rest → 1 ≤ length rest
      more rest e = omega (arith, some, ap length e)

  pub ended_stays : (c : Option Form) (s : Shape) → ((ts : List Form) → (inners : List LoopShape)
      → s.loops ≡ inners ++ turn.loops → IsInside turn (record s { operands = ts })) → (q : ℕ)
      → StaysAt turn (q, loop_ended c s)
  ended_stays None s h q = h s.operands
  ended_stays (Some t) s h q = h (Many t ∷ s.operands)

module _ (turn : Shape) (is_turn : IsTurn turn) where
  -- frames made inside the innermost loop were made inside this one
  pub enough : (n : ℕ) (s : Shape) (h : IsInside turn s) → frames_inside n s.loops s.defaults ≡ true → n ≤ length h.tops
  enough n s h e = by_loops h.inners h.above (subst (λ (ls : List LoopShape). frames_inside n ls s.defaults ≡ true)
      (h.loops ∙ ap (λ (ls : List LoopShape). h.inners ++ ls) is_turn.loops) e)
    where
      count : length s.defaults ≡ length h.tops + length turn.defaults
      count = ap length h.frames ∙ length-append h.tops turn.defaults

      by_loops : (inners : List LoopShape)
          → AllHave (λ l. (length turn.defaults ≤ l.frames) × (length turn.pending ≤ l.pending)) inners
          → frames_inside n (inners ++ is_turn.loop ∷ is_turn.outer) s.defaults ≡ true → n ≤ length h.tops
      by_loops [] above e =
          omega (arith, true_le (is_turn.loop.frames + n) (length s.defaults) e, count, is_turn.frames)
      by_loops (l ∷ ls) above e = omega (arith, true_le (l.frames + n) (length s.defaults) e, count, above.0.0)

  pub enough_pending : (s : Shape) (h : IsInside turn s) → is_pending_inside s.loops s.pending ≡ true
      → 1 ≤ length h.waits
  enough_pending s h e =
      by_loops h.inners h.above (subst (λ (ls : List LoopShape). is_pending_inside ls s.pending ≡ true)
      (h.loops ∙ ap (λ (ls : List LoopShape). h.inners ++ ls) is_turn.loops) e)
    where
      count : length s.pending ≡ length h.waits + length turn.pending
      count = ap length h.pending ∙ length-append h.waits turn.pending

      by_loops : (inners : List LoopShape)
          → AllHave (λ l. (length turn.defaults ≤ l.frames) × (length turn.pending ≤ l.pending)) inners
          → is_pending_inside (inners ++ is_turn.loop ∷ is_turn.outer) s.pending ≡ true → 1 ≤ length h.waits
      by_loops [] above e =
          omega (arith, true_lt is_turn.loop.pending (length s.pending) e, count, is_turn.pending)
      by_loops (l ∷ ls) above e = omega (arith, true_lt l.pending (length s.pending) e, count, above.0.1)

  -- a stack that is too short has no such loop
  too_short : (ls inners : List LoopShape) → length ls ≤ length is_turn.outer → ls ≡ inners ++ turn.loops → ⊥
  too_short ls inners short e =
      absurd (omega (
        arith,
        short,
        ap length e,
        length-append inners turn.loops,
        ap length is_turn.loops,
        suc_is (length is_turn.outer),
      ))
    where
      suc_is : (n : ℕ) → suc n ≡ n + 1
      suc_is n = omega arith

  pub no_loops : (inners : List LoopShape) → [] ≡ inners ++ turn.loops → ⊥
  no_loops inners e = too_short [] inners (omega arith) e

  -- a loop is left
  pub left_one : (s : Shape) (h : IsInside turn s) (l : LoopShape) (ls : List LoopShape) → s.loops ≡ l ∷ ls
      → (inners : List LoopShape) → ls ≡ inners ++ turn.loops → IsInside turn (record s { loops = ls })
  left_one s h l ls is inners e = by_loops h.inners h.above (sym is ∙ h.loops)
    where
      by_loops : (old : List LoopShape)
          → AllHave (λ l. (length turn.defaults ≤ l.frames) × (length turn.pending ≤ l.pending)) old
          → l ∷ ls ≡ old ++ turn.loops → IsInside turn (record s { loops = ls })
      by_loops [] above whole =
          absurd (too_short ls inners
          (omega (arith, ap length whole, ap length is_turn.loops)) e)
      by_loops (x ∷ xs) above whole =
          let rest = first_of (x ∷ xs) turn.loops l ls (omega arith) whole in
          record {
            tops = h.tops;
            frames = h.frames;
            waits = h.waits;
            pending = h.pending;
            filled = h.filled;
            inners = rest.0;
            loops = rest.1;
            above = above_rest rest.0 rest.2;
          }
        where
          above_rest : (rest : List LoopShape) → x ∷ xs ≡ l ∷ rest
              → AllHave (λ l. (length turn.defaults ≤ l.frames) × (length turn.pending ≤ l.pending)) rest
          above_rest rest whole =
              (subst (AllHave (λ l. (length turn.defaults ≤ l.frames) × (length turn.pending ≤ l.pending))) whole
              above).1
