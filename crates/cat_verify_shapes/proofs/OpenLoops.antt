-- Which loops are open where an instruction leads: those that were, one less, one more, or none.
use Rattle.std.proofs.Common.{◌≡◌, ℕ, ◌+◌}
use Rattle.std.proofs.Common.{List, [], ◌∷◌, length, Option, Some, None, refl}
use Rattle.std.proofs.Common.{inl, inr, ◌⊎◌}
use Rattle.cat_code.specs.Forms.{Form}
use Rattle.cat_code.specs.Shapes.{LoopShape, Shape}
use Rattle.cat_code.specs.Leads.{begins, loop_ended}
use Rattle.cat_verify_shapes.proofs.FlowCases.{FlowAll}
use Rattle.cat_scope.specs.Names.{AllHave}

-- a loop more, which began there with the frames that are there now
pub record IsNew (p : ℕ) (s : Shape) (next : ℕ × Shape) : Type 0 where
  pub loop : LoopShape
  pub loops : next.1.loops ≡ loop ∷ s.loops
  pub begun : loop.begun ≡ p
  pub place : next.0 ≡ p + 1
  pub frames : length next.1.defaults ≡ loop.frames
  pub pending : length next.1.pending ≡ loop.pending

abbrev pub LoopsOf : ℕ → Shape → ℕ × Shape → Type 0
LoopsOf p s next = (next.1.loops ≡ s.loops) ⊎ (((l : LoopShape) × (s.loops ≡ l ∷ next.1.loops))
    ⊎ (IsNew p s next ⊎ (next.1.loops ≡ [])))

pub begins_new : (p : ℕ) (t : Form) (c : Option Form) (s : Shape) (us : List Form)
    → FlowAll (AllHave (LoopsOf p s)) (begins p t c (record s { operands = us }))
begins_new p t c s us = (
  inr (inr (inl (record {
    loop = record {
      begun = p;
      element = t;
      collected = c;
      frames = length s.defaults;
      pending = length s.pending;
    };
    loops = refl;
    begun = refl;
    place = refl;
    frames = refl;
    pending = refl;
  }))),
  tt,
)

pub ended_loops : (c : Option Form) (l : LoopShape) (ls : List LoopShape) (s : Shape)
    → l ∷ ls ≡ l ∷ (loop_ended c (record s { loops = ls })).loops
ended_loops None l ls s = refl
ended_loops (Some t) l ls s = refl
