-- What two shapes have in common is the greatest that both meet, where some shape is met by both.
use Rattle.std.proofs.Common.{◌≡◌, ◌&&◌, Bool, true, false, List, [], ◌∷◌, length, refl, sym}
use Rattle.std.proofs.Common.{◌∙◌}
use Rattle.std.proofs.Common.{arith}
use Rattle.std.proofs.lemmas.Bool.{and_from}
use Rattle.cat_code.specs.Shapes.{FrameShape, PendingShape, Shape, AreFewer, MeetsFrame, MeetsPending}
use Rattle.cat_code.specs.Shapes.{AllMeet, Meets}
use Rattle.cat_verify_shapes.specs.inside.Zipped.{zipped, both}
use Rattle.cat_verify_shapes.proofs.LessKnown.{fewer_long}

abbrev pub both_frames : FrameShape → FrameShape → FrameShape
both_frames f g = record { begun = f.begun; holds = f.holds; checked = f.checked && g.checked }

abbrev pub both_pending : PendingShape → PendingShape → PendingShape
both_pending p q = record { scope = p.scope; passed = both p.passed q.passed }

abbrev pub common_of : Shape → Shape → Shape
common_of s t = record s {
  filled = both s.filled t.filled;
  defaults = zipped both_frames s.defaults t.defaults;
  pending = zipped both_pending s.pending t.pending;
}

-- frames that began at one place with one type
pub record AlikeFrames (f g : FrameShape) : Type 0 where
  pub begun : f.begun ≡ g.begun
  pub holds : f.holds ≡ g.holds

pub record AlikePending (p q : PendingShape) : Type 0 where
  pub scope : p.scope ≡ q.scope
  pub passed : length p.passed ≡ length q.passed

-- shapes that differ at most in what is known
pub record Alike (s t : Shape) : Type 0 where
  pub owner : s.owner ≡ t.owner
  pub operands : s.operands ≡ t.operands
  pub locals : s.locals ≡ t.locals
  pub filled : length s.filled ≡ length t.filled
  pub defaults : AllMeet AlikeFrames s.defaults t.defaults
  pub loops : s.loops ≡ t.loops
  pub pending : AllMeet AlikePending s.pending t.pending

-- ---- flags

both_left : (xs ys : List Bool) → length xs ≡ length ys → AreFewer (both xs ys) xs
both_left [] ys e = tt
both_left (x ∷ xs) [] e = absurd (omega (arith, e))
both_left (true ∷ xs) (true ∷ ys) e = (refl, both_left xs ys (omega (arith, e)))
both_left (true ∷ xs) (false ∷ ys) e = both_left xs ys (omega (arith, e))
both_left (false ∷ xs) (y ∷ ys) e = both_left xs ys (omega (arith, e))

both_right : (xs ys : List Bool) → length xs ≡ length ys → AreFewer (both xs ys) ys
both_right [] [] e = tt
both_right [] (y ∷ ys) e = absurd (omega (arith, e))
both_right (x ∷ xs) [] e = absurd (omega (arith, e))
both_right (true ∷ xs) (true ∷ ys) e = (refl, both_right xs ys (omega (arith, e)))
both_right (true ∷ xs) (false ∷ ys) e = both_right xs ys (omega (arith, e))
both_right (false ∷ xs) (y ∷ ys) e = both_right xs ys (omega (arith, e))

pub both_greatest : (ws xs ys : List Bool) → AreFewer ws xs → AreFewer ws ys → AreFewer ws (both xs ys)
both_greatest [] [] ys h k = tt
both_greatest [] (x ∷ xs) ys h k = absurd h
both_greatest (true ∷ ws) [] ys h k = absurd h
both_greatest (false ∷ ws) [] ys h k = absurd h
both_greatest (true ∷ ws) (x ∷ xs) [] h k = absurd k
both_greatest (false ∷ ws) (x ∷ xs) [] h k = absurd k
both_greatest (true ∷ ws) (x ∷ xs) (y ∷ ys) h k = (and_from x y h.0 k.0, both_greatest ws xs ys h.1 k.1)
both_greatest (false ∷ ws) (x ∷ xs) (y ∷ ys) h k = both_greatest ws xs ys h k

-- ---- frames

frames_left : (fs gs : List FrameShape) → AllMeet AlikeFrames fs gs → AllMeet MeetsFrame fs (zipped both_frames fs gs)
frames_left [] [] h = tt
frames_left [] (g ∷ gs) h = absurd h
frames_left (f ∷ fs) [] h = absurd h
frames_left (f ∷ fs) (g ∷ gs) h = (
  record { begun = refl; holds = refl; checked = both_left (f.checked ∷ []) (g.checked ∷ []) refl },
  frames_left fs gs h.1,
)

frames_right : (fs gs : List FrameShape) → AllMeet AlikeFrames fs gs → AllMeet MeetsFrame gs (zipped both_frames fs gs)
frames_right [] [] h = tt
frames_right [] (g ∷ gs) h = absurd h
frames_right (f ∷ fs) [] h = absurd h
frames_right (f ∷ fs) (g ∷ gs) h = (
  record {
    begun = sym h.0.begun;
    holds = sym h.0.holds;
    checked = both_right (f.checked ∷ []) (g.checked ∷ []) refl;
  },
  frames_right fs gs h.1,
)

frames_greatest : (fs gs ws : List FrameShape) → AllMeet MeetsFrame fs ws → AllMeet MeetsFrame gs ws
    → AllMeet MeetsFrame (zipped both_frames fs gs) ws
frames_greatest [] gs [] h k = tt
frames_greatest [] gs (w ∷ ws) h k = absurd h
frames_greatest (f ∷ fs) gs [] h k = absurd h
frames_greatest (f ∷ fs) [] (w ∷ ws) h k = absurd k
frames_greatest (f ∷ fs) (g ∷ gs) (w ∷ ws) h k = (
  record {
    begun = h.0.begun;
    holds = h.0.holds;
    checked = both_greatest (w.checked ∷ []) (f.checked ∷ []) (g.checked ∷ []) h.0.checked k.0.checked;
  },
  frames_greatest fs gs ws h.1 k.1,
)

frames_alike : (fs gs ws : List FrameShape) → AllMeet MeetsFrame fs ws → AllMeet MeetsFrame gs ws
    → AllMeet AlikeFrames fs gs
frames_alike [] [] ws h k = tt
frames_alike [] (g ∷ gs) [] h k = absurd k
frames_alike [] (g ∷ gs) (w ∷ ws) h k = absurd h
frames_alike (f ∷ fs) gs [] h k = absurd h
frames_alike (f ∷ fs) [] (w ∷ ws) h k = absurd k
frames_alike (f ∷ fs) (g ∷ gs) (w ∷ ws) h k =
    (record { begun = h.0.begun ∙ sym k.0.begun; holds = h.0.holds ∙ sym k.0.holds }, frames_alike fs gs ws h.1 k.1)

-- ---- pending frames

pending_left : (ps qs : List PendingShape) → AllMeet AlikePending ps qs
    → AllMeet MeetsPending ps (zipped both_pending ps qs)
pending_left [] [] h = tt
pending_left [] (q ∷ qs) h = absurd h
pending_left (p ∷ ps) [] h = absurd h
pending_left (p ∷ ps) (q ∷ qs) h =
    (record { scope = refl; passed = both_left p.passed q.passed h.0.passed }, pending_left ps qs h.1)

pending_right : (ps qs : List PendingShape) → AllMeet AlikePending ps qs
    → AllMeet MeetsPending qs (zipped both_pending ps qs)
pending_right [] [] h = tt
pending_right [] (q ∷ qs) h = absurd h
pending_right (p ∷ ps) [] h = absurd h
pending_right (p ∷ ps) (q ∷ qs) h =
    (record { scope = sym h.0.scope; passed = both_right p.passed q.passed h.0.passed }, pending_right ps qs h.1)

pending_greatest : (ps qs ws : List PendingShape) → AllMeet MeetsPending ps ws → AllMeet MeetsPending qs ws
    → AllMeet MeetsPending (zipped both_pending ps qs) ws
pending_greatest [] qs [] h k = tt
pending_greatest [] qs (w ∷ ws) h k = absurd h
pending_greatest (p ∷ ps) qs [] h k = absurd h
pending_greatest (p ∷ ps) [] (w ∷ ws) h k = absurd k
pending_greatest (p ∷ ps) (q ∷ qs) (w ∷ ws) h k = (
  record { scope = h.0.scope; passed = both_greatest w.passed p.passed q.passed h.0.passed k.0.passed },
  pending_greatest ps qs ws h.1 k.1,
)

pending_alike : (ps qs ws : List PendingShape) → AllMeet MeetsPending ps ws → AllMeet MeetsPending qs ws
    → AllMeet AlikePending ps qs
pending_alike [] [] ws h k = tt
pending_alike [] (q ∷ qs) [] h k = absurd k
pending_alike [] (q ∷ qs) (w ∷ ws) h k = absurd h
pending_alike (p ∷ ps) qs [] h k = absurd h
pending_alike (p ∷ ps) [] (w ∷ ws) h k = absurd k
pending_alike (p ∷ ps) (q ∷ qs) (w ∷ ws) h k = (
  record {
    scope = h.0.scope ∙ sym k.0.scope;
    passed = sym (fewer_long w.passed p.passed h.0.passed) ∙ fewer_long w.passed q.passed k.0.passed;
  },
  pending_alike ps qs ws h.1 k.1,
)

-- ---- shapes

pub common_left : (s t : Shape) → Alike s t → Meets s (common_of s t)
common_left s t h = record {
  owner = refl;
  operands = refl;
  locals = refl;
  filled = both_left s.filled t.filled h.filled;
  defaults = frames_left s.defaults t.defaults h.defaults;
  loops = refl;
  pending = pending_left s.pending t.pending h.pending;
}

pub common_right : (s t : Shape) → Alike s t → Meets t (common_of s t)
common_right s t h = record {
  owner = sym h.owner;
  operands = sym h.operands;
  locals = sym h.locals;
  filled = both_right s.filled t.filled h.filled;
  defaults = frames_right s.defaults t.defaults h.defaults;
  loops = sym h.loops;
  pending = pending_right s.pending t.pending h.pending;
}

pub common_greatest : (s t w : Shape) → Meets s w → Meets t w → Meets (common_of s t) w
common_greatest s t w h k = record {
  owner = h.owner;
  operands = h.operands;
  locals = h.locals;
  filled = both_greatest w.filled s.filled t.filled h.filled k.filled;
  defaults = frames_greatest s.defaults t.defaults w.defaults h.defaults k.defaults;
  loops = h.loops;
  pending = pending_greatest s.pending t.pending w.pending h.pending k.pending;
}

pub alike_of : (s t w : Shape) → Meets s w → Meets t w → Alike s t
alike_of s t w h k = record {
  owner = h.owner ∙ sym k.owner;
  operands = h.operands ∙ sym k.operands;
  locals = h.locals ∙ sym k.locals;
  filled = sym (fewer_long w.filled s.filled h.filled) ∙ fewer_long w.filled t.filled k.filled;
  defaults = frames_alike s.defaults t.defaults w.defaults h.defaults k.defaults;
  loops = h.loops ∙ sym k.loops;
  pending = pending_alike s.pending t.pending w.pending h.pending k.pending;
}
