-- What comes back to the turn of a loop with its types and frames meets the shape there.
use Rattle.std.proofs.Common.{◌≡◌, ℕ, suc, ◌+◌}
use Rattle.std.proofs.Common.{List, [], ◌∷◌, ◌++◌, length, sym}
use Rattle.std.proofs.Common.{ap}
use Rattle.std.proofs.Common.{subst, arith}
use Rattle.std.proofs.lemmas.List.{length-append}
use Rattle.cat_code.specs.Shapes.{FrameShape, PendingShape, Shape, MeetsFrame, MeetsPending}
use Rattle.cat_code.specs.Shapes.{AllMeet, Meets}
use Rattle.cat_verify_shapes.specs.inside.Turns.{IsInside}
use Rattle.cat_verify_shapes.proofs.MeetingLemmas.{frames_same, pending_same}
use Rattle.cat_verify_shapes.proofs.CommonLemmas.{Alike, AlikeFrames, AlikePending}
use Rattle.cat_verify_shapes.proofs.FrontLemmas.{meet_long}

no_more : {A : Type 0} (xs tops below : List A) → xs ≡ tops ++ below → length xs ≡ length below → xs ≡ below
no_more xs [] below e long = e
no_more xs (t ∷ tops) below e long =
    absurd (omega (arith, ap length e, long, length-append tops below, suc_is (length (tops ++ below))))
  where
    suc_is : (n : ℕ) → suc n ≡ n + 1
    suc_is n = omega arith

-- what has its types and frames meets it, so that one pass finds the shapes of turns
pub turn_met : (turn s : Shape) → IsInside turn s → Alike s turn → Meets s turn
turn_met turn s h alike = record {
  owner = alike.owner;
  operands = alike.operands;
  locals = alike.locals;
  filled = h.filled;
  defaults =
      subst (λ (fs : List FrameShape). AllMeet MeetsFrame fs turn.defaults)
      (sym (no_more s.defaults h.tops turn.defaults h.frames
      (meet_long AlikeFrames s.defaults turn.defaults alike.defaults)))
      (frames_same turn.defaults);
  loops = alike.loops;
  pending =
      subst (λ (ps : List PendingShape). AllMeet MeetsPending ps turn.pending)
      (sym (no_more s.pending h.waits turn.pending h.pending
      (meet_long AlikePending s.pending turn.pending alike.pending)))
      (pending_same turn.pending);
}
