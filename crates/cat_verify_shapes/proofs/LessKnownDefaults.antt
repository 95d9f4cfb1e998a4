-- Where more is known default frames go on, if they do where less is known.
use Rattle.std.proofs.Common.{◌≡◌, ℕ, ◌+◌, ◌&&◌, Bool, true, false, List, [], ◌∷◌, Option, Some, None, refl, ap, ◌∙◌}
use Rattle.std.proofs.lemmas.Bool.{and_from, and_parts}
use Rattle.cat_code.specs.declared.code.TargetEntry.{TargetEntry}
use Rattle.cat_code.specs.declared.code.Tables.{Tables}
use Rattle.cat_code.specs.Forms.{Form, same_form}
use Rattle.cat_code.specs.Shapes.{FrameShape, AreFewer, MeetsFrame, AllMeet}
use Rattle.cat_code.specs.Places.{target_form}
use Rattle.cat_code.specs.Wanted.{frames_inside}
use Rattle.cat_code.specs.Leads.{leads, leads_two, with, where_so, top, pushed, pop_as}
use Rattle.cat_verify_shapes.proofs.LessKnown.{FlowMeets, fewer_checked, frames_in, where_meets}
use Rattle.cat_verify_shapes.proofs.FrontLemmas.{meet_long}
use Rattle.cat_verify_shapes.proofs.LessKnownPairs.{Pair, left, right, Known, put, over, to_next, to_two}

begin_meets : (t : Option Form) (p : ℕ) (k : Pair) → Known k
    → FlowMeets
    (with t (λ t. leads (p + 1) (record (left k) {
      defaults = record { begun = p; holds = t; checked = false } ∷ k.defaults;
    })))
    (with t (λ t. leads (p + 1) (record (right k) {
      defaults = record { begun = p; holds = t; checked = false } ∷ k.frames;
    })))
begin_meets None p k h = tt
begin_meets (Some t) p k h =
    to_next (record k {
      defaults = record { begun = p; holds = t; checked = false } ∷ k.defaults;
      frames = record { begun = p; holds = t; checked = false } ∷ k.frames;
    })
    (h.0, (record { begun = refl; holds = refl; checked = tt }, h.1), h.2) (p + 1)

pub begun_meets : (tables : Tables) (entry : Option TargetEntry) (p : ℕ) (k : Pair) → Known k
    → FlowMeets
    (with entry (λ entry. with (target_form tables.decls entry.target) (λ t. leads (p + 1) (record (left k) {
      defaults = record { begun = p; holds = t; checked = false } ∷ k.defaults;
    }))))
    (with entry (λ entry. with (target_form tables.decls entry.target) (λ t. leads (p + 1) (record (right k) {
      defaults = record { begun = p; holds = t; checked = false } ∷ k.frames;
    }))))
begun_meets tables None p k h = tt
begun_meets tables (Some entry) p k h = begin_meets (target_form tables.decls entry.target) p k h

-- a frame on top that is checked, or isn't
with_flag : (flag : Bool) (p : ℕ) (k : Pair) → Known k → (f g : FrameShape) (fs gs : List FrameShape)
    → MeetsFrame f g → AllMeet MeetsFrame fs gs
    → FlowMeets (leads p (record (left k) { defaults = record f { checked = flag } ∷ fs }))
    (leads p (record (right k) { defaults = record g { checked = flag } ∷ gs }))
with_flag flag p k h f g fs gs m ms =
    to_next (record k { defaults = record f { checked = flag } ∷ fs; frames = record g { checked = flag } ∷ gs })
    (h.0, (record { begun = m.begun; holds = m.holds; checked = same flag }, ms), h.2) p
  where
    same : (b : Bool) → AreFewer (b ∷ []) (b ∷ [])
    same true = (refl, tt)
    same false = tt

pub hold_meets : (p : ℕ) (k : Pair) → Known k → (fs gs : List FrameShape) → AllMeet MeetsFrame fs gs
    → FlowMeets
    (top fs (λ f fs. pop_as f.holds (left k)
    (λ s. leads (p + 1) (record s { defaults = record f { checked = false } ∷ fs }))))
    (top gs (λ f fs. pop_as f.holds (right k)
    (λ s. leads (p + 1) (record s { defaults = record f { checked = false } ∷ fs }))))
hold_meets p k h [] [] m = tt
hold_meets p k h [] (g ∷ gs) m = absurd m
hold_meets p k h (f ∷ fs) [] m = absurd m
hold_meets p k h (f ∷ fs) (g ∷ gs) m = here k.operands
  where
    here : (ops : List Form)
        → FlowMeets
        (pop_as f.holds (left (over ops k))
        (λ s. leads (p + 1) (record s { defaults = record f { checked = false } ∷ fs })))
        (pop_as g.holds (right (over ops k))
        (λ s. leads (p + 1) (record s { defaults = record g { checked = false } ∷ gs })))
    here [] = tt
    here (u ∷ us) =
        where_meets (same_form u f.holds) (same_form u g.holds)
        (leads (p + 1) (record (left (over us k)) { defaults = record f { checked = false } ∷ fs }))
        (leads (p + 1) (record (right (over us k)) { defaults = record g { checked = false } ∷ gs }))
        (λ e. ap (same_form u) m.0.holds ∙ e)
        (with_flag false (p + 1) (over us k) h f g fs gs m.0 m.1)

pub merge_meets : (p : ℕ) (k : Pair) → Known k → (fs gs : List FrameShape) → AllMeet MeetsFrame fs gs
    → FlowMeets
    (top fs (λ f fs. top fs (λ g gs. where_so (f.checked && same_form f.holds g.holds)
    (leads (p + 1) (record (left k) { defaults = record g { checked = false } ∷ gs })))))
    (top gs (λ f fs. top fs (λ g gs. where_so (f.checked && same_form f.holds g.holds)
    (leads (p + 1) (record (right k) { defaults = record g { checked = false } ∷ gs })))))
merge_meets p k h [] [] m = tt
merge_meets p k h [] (g ∷ gs) m = absurd m
merge_meets p k h (f ∷ fs) [] m = absurd m
merge_meets p k h (f ∷ []) (g ∷ []) m = tt
merge_meets p k h (f ∷ []) (g ∷ b ∷ gs) m = absurd m.1
merge_meets p k h (f ∷ a ∷ fs) (g ∷ []) m = absurd m.1
merge_meets p k h (f ∷ a ∷ fs) (g ∷ b ∷ gs) m =
    where_meets (f.checked && same_form f.holds a.holds) (g.checked && same_form g.holds b.holds)
    (leads (p + 1) (record (left k) { defaults = record a { checked = false } ∷ fs }))
    (leads (p + 1) (record (right k) { defaults = record b { checked = false } ∷ gs }))
    (λ e. and_from f.checked (same_form f.holds a.holds)
    (fewer_checked f.checked g.checked m.0.checked (and_parts g.checked (same_form g.holds b.holds) e).0)
    (ap (λ (t : Form). same_form t a.holds) m.0.holds ∙ ap (same_form g.holds) m.1.0.holds
    ∙ (and_parts g.checked (same_form g.holds b.holds) e).1))
    (with_flag false (p + 1) k h a b fs gs m.1.0 m.1.1)

pub check_meets : (p : ℕ) (k : Pair) → Known k → (fs gs : List FrameShape) → AllMeet MeetsFrame fs gs
    → FlowMeets
    (top fs (λ f fs. leads (p + 1) (record (left k) { defaults = record f { checked = true } ∷ fs })))
    (top gs (λ f fs. leads (p + 1) (record (right k) { defaults = record f { checked = true } ∷ fs })))
check_meets p k h [] [] m = tt
check_meets p k h [] (g ∷ gs) m = absurd m
check_meets p k h (f ∷ fs) [] m = absurd m
check_meets p k h (f ∷ fs) (g ∷ gs) m = with_flag true (p + 1) k h f g fs gs m.0 m.1

pub held_meets : (p t : ℕ) (k : Pair) → Known k → (fs gs : List FrameShape) → AllMeet MeetsFrame fs gs
    → FlowMeets (top fs (λ f fs. leads_two (p + 1) (left k) t (left k)))
    (top gs (λ f fs. leads_two (p + 1) (right k) t (right k)))
held_meets p t k h [] [] m = tt
held_meets p t k h [] (g ∷ gs) m = absurd m
held_meets p t k h (f ∷ fs) [] m = absurd m
held_meets p t k h (f ∷ fs) (g ∷ gs) m = to_two k k h h (p + 1) t

pub take_meets : (p t : ℕ) (k : Pair) → Known k → (fs gs : List FrameShape) → AllMeet MeetsFrame fs gs
    → FlowMeets
    (top fs (λ f fs. where_so f.checked
    (leads_two (p + 1) (pushed f.holds (record (left k) { defaults = fs })) t (record (left k) { defaults = fs }))))
    (top gs (λ f fs. where_so f.checked
    (leads_two (p + 1) (pushed f.holds (record (right k) { defaults = fs })) t (record (right k) { defaults = fs }))))
take_meets p t k h [] [] m = tt
take_meets p t k h [] (g ∷ gs) m = absurd m
take_meets p t k h (f ∷ fs) [] m = absurd m
take_meets p t k h (f ∷ fs) (g ∷ gs) m =
    rw m.0.holds
    (where_meets f.checked g.checked
    (leads_two (p + 1) (pushed g.holds (record (left k) { defaults = fs })) t (record (left k) { defaults = fs }))
    (leads_two (p + 1) (pushed g.holds (record (right k) { defaults = gs })) t (record (right k) { defaults = gs }))
    (fewer_checked f.checked g.checked m.0.checked)
    (to_two (put g.holds (record k { defaults = fs; frames = gs })) (record k { defaults = fs; frames = gs })
    (h.0, m.1, h.2) (h.0, m.1, h.2) (p + 1) t))

pub inside_too : (b : Bool) (k : Pair) → Known k → (b && frames_inside 1 k.loops k.frames) ≡ true
    → (b && frames_inside 1 k.loops k.defaults) ≡ true
inside_too b k h e =
    and_from b (frames_inside 1 k.loops k.defaults) (and_parts b (frames_inside 1 k.loops k.frames) e).0
    (frames_in 1 k.loops k.defaults k.frames (meet_long MeetsFrame k.defaults k.frames h.1)
    (and_parts b (frames_inside 1 k.loops k.frames) e).1)
