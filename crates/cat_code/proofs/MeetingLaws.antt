-- What is left meets shapes: the order of shapes by what is known.
use Rattle.std.proofs.Common.{Bool, true, false, List, [], ◌∷◌, refl, ◌∙◌}
use Rattle.cat_code.specs.Shapes.{FrameShape, PendingShape, Shape, AreFewer, MeetsFrame, MeetsPending, AllMeet, Meets}

pub fewer_same : (bs : List Bool) → AreFewer bs bs
fewer_same [] = tt
fewer_same (false ∷ bs) = fewer_same bs
fewer_same (true ∷ bs) = (refl, fewer_same bs)

pub fewer_then : (xs bs cs : List Bool) → AreFewer xs bs → AreFewer bs cs → AreFewer xs cs
fewer_then [] [] [] h k = tt
fewer_then [] [] (c ∷ cs) h k = k
fewer_then [] (b ∷ bs) cs h k = absurd h
fewer_then (a ∷ xs) [] cs h k = absurd h
fewer_then (true ∷ xs) (b ∷ bs) [] h k = let e = h.0 in absurd (none b bs k)
  where
    none : (b : Bool) (bs : List Bool) → AreFewer (b ∷ bs) [] → ⊥
    none true bs k = k
    none false bs k = k
fewer_then (false ∷ xs) (b ∷ bs) [] h k = absurd (none b bs k)
  where
    none : (b : Bool) (bs : List Bool) → AreFewer (b ∷ bs) [] → ⊥
    none true bs k = k
    none false bs k = k
fewer_then (true ∷ xs) (true ∷ bs) (c ∷ cs) h k = (k.0, fewer_then xs bs cs h.1 k.1)
fewer_then (true ∷ xs) (false ∷ bs) (c ∷ cs) h k = absurd (cc h.0)
fewer_then (false ∷ xs) (true ∷ bs) (c ∷ cs) h k = fewer_then xs bs cs h k.1
fewer_then (false ∷ xs) (false ∷ bs) (c ∷ cs) h k = fewer_then xs bs cs h k

pub frames_same : (fs : List FrameShape) → AllMeet MeetsFrame fs fs
frames_same [] = tt
frames_same (f ∷ fs) = (record { begun = refl; holds = refl; checked = fewer_same (f.checked ∷ []) }, frames_same fs)

pub pending_same : (ps : List PendingShape) → AllMeet MeetsPending ps ps
pending_same [] = tt
pending_same (p ∷ ps) = (record { scope = refl; passed = fewer_same p.passed }, pending_same ps)

pub meets_same : (s : Shape) → Meets s s
meets_same s = record {
  owner = refl;
  operands = refl;
  locals = refl;
  filled = fewer_same s.filled;
  defaults = frames_same s.defaults;
  loops = refl;
  pending = pending_same s.pending;
}

frames_then : (xs bs cs : List FrameShape) → AllMeet MeetsFrame xs bs → AllMeet MeetsFrame bs cs
    → AllMeet MeetsFrame xs cs
frames_then [] [] [] h k = tt
frames_then [] [] (c ∷ cs) h k = k
frames_then [] (b ∷ bs) cs h k = absurd h
frames_then (a ∷ xs) [] cs h k = absurd h
frames_then (a ∷ xs) (b ∷ bs) [] h k = absurd k
frames_then (a ∷ xs) (b ∷ bs) (c ∷ cs) h k = (
  record {
    begun = h.0.begun ∙ k.0.begun;
    holds = h.0.holds ∙ k.0.holds;
    checked = fewer_then (c.checked ∷ []) (b.checked ∷ []) (a.checked ∷ []) k.0.checked h.0.checked;
  },
  frames_then xs bs cs h.1 k.1,
)

pending_then : (xs bs cs : List PendingShape) → AllMeet MeetsPending xs bs → AllMeet MeetsPending bs cs
    → AllMeet MeetsPending xs cs
pending_then [] [] [] h k = tt
pending_then [] [] (c ∷ cs) h k = k
pending_then [] (b ∷ bs) cs h k = absurd h
pending_then (a ∷ xs) [] cs h k = absurd h
pending_then (a ∷ xs) (b ∷ bs) [] h k = absurd k
pending_then (a ∷ xs) (b ∷ bs) (c ∷ cs) h k = (
  record { scope = h.0.scope ∙ k.0.scope; passed = fewer_then c.passed b.passed a.passed k.0.passed h.0.passed },
  pending_then xs bs cs h.1 k.1,
)

pub meets_then : (a b c : Shape) → Meets a b → Meets b c → Meets a c
meets_then a b c h k = record {
  owner = h.owner ∙ k.owner;
  operands = h.operands ∙ k.operands;
  locals = h.locals ∙ k.locals;
  filled = fewer_then c.filled b.filled a.filled k.filled h.filled;
  defaults = frames_then a.defaults b.defaults c.defaults h.defaults k.defaults;
  loops = h.loops ∙ k.loops;
  pending = pending_then a.pending b.pending c.pending h.pending k.pending;
}
