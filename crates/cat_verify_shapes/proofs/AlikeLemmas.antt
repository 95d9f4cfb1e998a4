-- Shapes whose types are numbers, and those for which they stand: what is alike, and what they have in common.
use Rattle.std.proofs.Common.{◌≡◌, Bool, true, false, List, [], ◌∷◌, map, refl, sym, ap, ◌∙◌, subst}
use Rattle.cat_code.specs.Shapes as code
use Rattle.cat_code.specs.Shapes.{AreFewer, AllMeet, MeetsFrame, MeetsPending, Meets}
use Rattle.cat_verify_shapes.specs.declared.shape.Shape.{Shape}
use Rattle.cat_verify_shapes.specs.declared.shape.FrameShape.{FrameShape}
use Rattle.cat_verify_shapes.specs.declared.shape.PendingShape.{PendingShape}
use Rattle.cat_verify_shapes.specs.Owned.{owner_of}
use Rattle.cat_verify_shapes.specs.inside.Senses.{Senses}
use Rattle.cat_verify_shapes.specs.inside.Told.{frame_of, loop_of, pending_of, shape_of}
use Rattle.cat_verify_shapes.specs.inside.Zipped.{zipped, both}
use Rattle.cat_verify_shapes.specs.inside.Alike.{AreAlike, AreAlikeFrames, AreAlikePending, AreChecked, ArePassed}
use Rattle.cat_verify_shapes.specs.inside.Alike.{HasNoFewer}
use Rattle.cat_verify_shapes.specs.inside.Alike.{common, common_frame, common_pending}
use Rattle.cat_verify_shapes.proofs.CommonLemmas.{both_frames, both_pending, common_of, AlikeFrames, AlikePending}
use Rattle.cat_verify_shapes.proofs.CommonLemmas.{Alike}
use Rattle.cat_verify_shapes.proofs.CommonLemmas.{common_left, common_right}

frames_alike : (d : Senses) (fs gs : List FrameShape) → AreAlikeFrames fs gs
    → AllMeet AlikeFrames (map (frame_of d) fs) (map (frame_of d) gs)
frames_alike d [] [] h = tt
frames_alike d [] (g ∷ gs) h = absurd h
frames_alike d (f ∷ fs) [] h = absurd h
frames_alike d (f ∷ fs) (g ∷ gs) h = (record { begun = h.0.0; holds = ap d.one h.0.1 }, frames_alike d fs gs h.1)

pending_alike : (ps qs : List PendingShape) → AreAlikePending ps qs
    → AllMeet AlikePending (map pending_of ps) (map pending_of qs)
pending_alike [] [] h = tt
pending_alike [] (q ∷ qs) h = absurd h
pending_alike (p ∷ ps) [] h = absurd h
pending_alike (p ∷ ps) (q ∷ qs) h = (record { scope = h.0.0; passed = h.0.1 }, pending_alike ps qs h.1)

pub alike_of : (d : Senses) (s t : Shape) → AreAlike s t → Alike (shape_of d s) (shape_of d t)
alike_of d s t h = record {
  owner = ap owner_of h.owner;
  operands = ap (map d.one) h.operands;
  locals = ap (map d.one) h.locals;
  filled = h.filled;
  defaults = frames_alike d s.defaults t.defaults h.defaults;
  loops = ap (map (loop_of d)) h.loops;
  pending = pending_alike s.pending t.pending h.pending;
}

frames_common : (d : Senses) (fs gs : List FrameShape)
    → map (frame_of d) (zipped common_frame fs gs) ≡ zipped both_frames (map (frame_of d) fs) (map (frame_of d) gs)
frames_common d [] gs = refl
frames_common d (f ∷ fs) [] = refl
frames_common d (f ∷ fs) (g ∷ gs) =
    ap (λ (xs : List code.FrameShape). frame_of d (common_frame f g) ∷ xs) (frames_common d fs gs)

pending_common : (ps qs : List PendingShape)
    → map pending_of (zipped common_pending ps qs) ≡ zipped both_pending (map pending_of ps) (map pending_of qs)
pending_common [] qs = refl
pending_common (p ∷ ps) [] = refl
pending_common (p ∷ ps) (q ∷ qs) =
    ap (λ (xs : List code.PendingShape). pending_of (common_pending p q) ∷ xs) (pending_common ps qs)

abbrev known : code.Shape → List Bool → List code.FrameShape → List code.PendingShape → code.Shape
known s filled defaults pending = record s { filled = filled; defaults = defaults; pending = pending }

pub common_is : (d : Senses) (s t : Shape) → shape_of d (common s t) ≡ common_of (shape_of d s) (shape_of d t)
common_is d s t =
    ap (λ (fs : List code.FrameShape). known (shape_of d s) (both s.filled t.filled) fs
    (map pending_of (zipped common_pending s.pending t.pending)))
    (frames_common d s.defaults t.defaults)
    ∙ ap (λ (ps : List code.PendingShape). known (shape_of d s) (both s.filled t.filled)
    (zipped both_frames (map (frame_of d) s.defaults) (map (frame_of d) t.defaults)) ps)
    (pending_common s.pending t.pending)

pub common_left_of : (d : Senses) (s t : Shape) → AreAlike s t → Meets (shape_of d s) (shape_of d (common s t))
common_left_of d s t h =
    subst (Meets (shape_of d s)) (sym (common_is d s t)) (common_left (shape_of d s) (shape_of d t) (alike_of d s t h))

pub common_right_of : (d : Senses) (s t : Shape) → AreAlike s t → Meets (shape_of d t) (shape_of d (common s t))
common_right_of d s t h =
    subst (Meets (shape_of d t)) (sym (common_is d s t)) (common_right (shape_of d s) (shape_of d t) (alike_of d s t h))

one_fewer : (a b : Bool) → (a ≡ true → b ≡ true) → AreFewer (a ∷ []) (b ∷ [])
one_fewer true b h = (h refl, tt)
one_fewer false b h = tt

frames_meet : (d : Senses) (fs gs : List FrameShape) → AreAlikeFrames fs gs → AreChecked gs fs
    → AllMeet MeetsFrame (map (frame_of d) fs) (map (frame_of d) gs)
frames_meet d [] [] h k = tt
frames_meet d [] (g ∷ gs) h k = absurd h
frames_meet d (f ∷ fs) [] h k = absurd h
frames_meet d (f ∷ fs) (g ∷ gs) h k = (
  record { begun = h.0.0; holds = ap d.one h.0.1; checked = one_fewer g.checked f.checked k.0 },
  frames_meet d fs gs h.1 k.1,
)

pending_meet : (ps qs : List PendingShape) → AreAlikePending ps qs → ArePassed qs ps
    → AllMeet MeetsPending (map pending_of ps) (map pending_of qs)
pending_meet [] [] h k = tt
pending_meet [] (q ∷ qs) h k = absurd h
pending_meet (p ∷ ps) [] h k = absurd h
pending_meet (p ∷ ps) (q ∷ qs) h k = (record { scope = h.0.0; passed = k.0 }, pending_meet ps qs h.1 k.1)

pub meets_of : (d : Senses) (s t : Shape) → AreAlike s t → HasNoFewer s t → Meets (shape_of d s) (shape_of d t)
meets_of d s t h k = record {
  owner = ap owner_of h.owner;
  operands = ap (map d.one) h.operands;
  locals = ap (map d.one) h.locals;
  filled = k.filled;
  defaults = frames_meet d s.defaults t.defaults h.defaults k.defaults;
  loops = ap (map (loop_of d)) h.loops;
  pending = pending_meet s.pending t.pending h.pending k.pending;
}
