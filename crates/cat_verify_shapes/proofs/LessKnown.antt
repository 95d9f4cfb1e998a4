-- Where less is known of a shape and an instruction goes on, it goes on where more is known too: to the same places, of
-- whose shapes more is known.
use Rattle.std.proofs.Common.{◌≡◌, ℕ, zero, suc, ◌+◌, nat_le, nat_lt, Bool, true, false, not}
use Rattle.std.proofs.Common.{true≢false}
use Rattle.std.proofs.Common.{List, [], ◌∷◌, length, Option, Some, None, slice_get, slice_set, refl, sym, ap, ◌∙◌}
use Rattle.std.proofs.Common.{arith}
use Rattle.std.proofs.lemmas.Bool.{and_from, and_parts}
use Rattle.cat_value.specs.declared.declaration.ItemDecl.{ItemDecl}
use Rattle.cat_value.specs.Inputs.{must_be_given}
use Rattle.cat_scope.specs.Names.{has_none}
use Rattle.cat_code.specs.Forms.{Form, Forms, Many, Fields}
use Rattle.cat_code.specs.Shapes.{FrameShape, LoopShape, PendingShape, Shape, AreFewer, MeetsFrame, MeetsPending}
use Rattle.cat_code.specs.Shapes.{AllMeet, Meets}
use Rattle.cat_code.specs.Wanted.{is_so, frames_inside, is_pending_inside, are_passed}
use Rattle.cat_code.specs.Leads.{Flow, with, where_so, top, elements_of, fields_of}
use Rattle.cat_code.specs.Told.{collected_by}
use Rattle.cat_verify_shapes.proofs.FrontLemmas.{meet_long}

-- ---- shapes that differ in what is known

-- the same places, and of the first shapes more is known
abbrev pub AllNext : List (ℕ × Shape) → List (ℕ × Shape) → Type 0
AllNext [] [] = Unit {0}
AllNext [] (y ∷ ys) = ⊥
AllNext (x ∷ xs) [] = ⊥
AllNext (x ∷ xs) (y ∷ ys) = (x.0 ≡ y.0) × Meets x.1 y.1 × AllNext xs ys

-- one goes on wherever the other one does
abbrev pub FlowMeets : Flow → Flow → Type 0
FlowMeets f None = Unit {0}
FlowMeets None (Some ys) = ⊥
FlowMeets (Some xs) (Some ys) = AllNext xs ys

-- ---- flags

pub fewer_so : (fewer more : List Bool) (i : ℕ) → AreFewer fewer more → is_so (slice_get fewer i) ≡ true
    → is_so (slice_get more i) ≡ true
fewer_so [] more i h e = absurd (true≢false (sym e))
fewer_so (true ∷ fewer) (b ∷ more) zero h e = ap (λ (c : Bool). is_so (Some c)) h.0
fewer_so (false ∷ fewer) (b ∷ more) zero h e = absurd (true≢false (sym e))
fewer_so (true ∷ fewer) (b ∷ more) (suc i) h e = fewer_so fewer more i h.1 e
fewer_so (false ∷ fewer) (b ∷ more) (suc i) h e = fewer_so fewer more i h e
fewer_so (true ∷ fewer) [] i h e = absurd h
fewer_so (false ∷ fewer) [] i h e = absurd h

pub fewer_set : (fewer more : List Bool) (i : ℕ) → AreFewer fewer more
    → AreFewer (slice_set fewer i true) (slice_set more i true)
fewer_set [] [] i h = tt
fewer_set [] (b ∷ more) i h = absurd h
fewer_set (true ∷ fewer) [] i h = absurd h
fewer_set (false ∷ fewer) [] i h = absurd h
fewer_set (true ∷ fewer) (b ∷ more) zero h = (refl, h.1)
fewer_set (false ∷ fewer) (b ∷ more) zero h = (refl, h)
fewer_set (true ∷ fewer) (b ∷ more) (suc i) h = (h.0, fewer_set fewer more i h.1)
fewer_set (false ∷ fewer) (b ∷ more) (suc i) h = fewer_set fewer more i h

pub fewer_long : (fewer more : List Bool) → AreFewer fewer more → length fewer ≡ length more
fewer_long [] [] h = refl
fewer_long [] (b ∷ more) h = absurd h
fewer_long (true ∷ fewer) [] h = absurd h
fewer_long (false ∷ fewer) [] h = absurd h
fewer_long (true ∷ fewer) (b ∷ more) h = ap suc (fewer_long fewer more h.1)
fewer_long (false ∷ fewer) (b ∷ more) h = ap suc (fewer_long fewer more h)

pub fewer_checked : (a b : Bool) → AreFewer (b ∷ []) (a ∷ []) → b ≡ true → a ≡ true
fewer_checked a true h e = h.0
fewer_checked a false h e = absurd (true≢false (sym e))

pub fewer_passed : (items : List ItemDecl) (fewer more : List Bool) → AreFewer fewer more
    → are_passed items fewer ≡ true
    → are_passed items more ≡ true
fewer_passed [] fewer more h e = refl
fewer_passed (x ∷ items) [] more h e = absurd (true≢false (sym e))
fewer_passed (x ∷ items) (true ∷ fewer) [] h e = absurd h
fewer_passed (x ∷ items) (false ∷ fewer) [] h e = absurd h
fewer_passed (x ∷ items) (true ∷ fewer) (true ∷ more) h e = fewer_passed items fewer more h.1 e
fewer_passed (x ∷ items) (true ∷ fewer) (false ∷ more) h e = absurd (true≢false (sym h.0))
fewer_passed (x ∷ items) (false ∷ fewer) (true ∷ more) h e =
    fewer_passed items fewer more h (and_parts (not (must_be_given x.kind)) (are_passed items fewer) e).1
fewer_passed (x ∷ items) (false ∷ fewer) (false ∷ more) h e =
    and_from (not (must_be_given x.kind)) (are_passed items more)
    (and_parts (not (must_be_given x.kind)) (are_passed items fewer) e).0
    (fewer_passed items fewer more h (and_parts (not (must_be_given x.kind)) (are_passed items fewer) e).1)

-- ---- frames

pub frames_in : (n : ℕ) (loops : List LoopShape) (fs gs : List FrameShape) → length fs ≡ length gs
    → frames_inside n loops gs ≡ true → frames_inside n loops fs ≡ true
frames_in n [] fs gs long e = ap (nat_le n) long ∙ e
frames_in n (l ∷ loops) fs gs long e = ap (nat_le (l.frames + n)) long ∙ e

none_same : (ps qs : List PendingShape) → length ps ≡ length qs → has_none ps ≡ has_none qs
none_same [] [] e = refl
none_same (p ∷ ps) (q ∷ qs) e = refl
none_same [] (q ∷ qs) e = absurd (omega (arith, e))
none_same (p ∷ ps) [] e = absurd (omega (arith, e))

pub no_frames : (fs gs : List FrameShape) → AllMeet MeetsFrame fs gs → has_none fs ≡ has_none gs
no_frames [] [] h = refl
no_frames [] (g ∷ gs) h = absurd h
no_frames (f ∷ fs) [] h = absurd h
no_frames (f ∷ fs) (g ∷ gs) h = refl

pub no_pending : (ps qs : List PendingShape) → AllMeet MeetsPending ps qs → has_none ps ≡ has_none qs
no_pending ps qs h = none_same ps qs (meet_long MeetsPending ps qs h)

pub pending_in : (loops : List LoopShape) (ps qs : List PendingShape) → length ps ≡ length qs
    → is_pending_inside loops qs ≡ true → is_pending_inside loops ps ≡ true
pending_in [] ps qs long e = ap not (none_same ps qs long) ∙ e
pending_in (l ∷ loops) ps qs long e = ap (nat_lt l.pending) long ∙ e

-- ---- combinations of flows

pub with_meets : {A : Type 0} (o : Option A) (go other : A → Flow) → ((a : A) → FlowMeets (go a) (other a))
    → FlowMeets (with o go) (with o other)
with_meets None go other h = tt
with_meets (Some a) go other h = h a

pub where_meets : (b c : Bool) (go other : Flow) → (c ≡ true → b ≡ true) → FlowMeets go other
    → FlowMeets (where_so b go) (where_so c other)
where_meets b false go other so h = tt
where_meets true true go other so h = h
where_meets false true go other so h = absurd (true≢false (sym (so refl)))

pub where_same : (b : Bool) (go other : Flow) → FlowMeets go other → FlowMeets (where_so b go) (where_so b other)
where_same b go other h = where_meets b b go other (λ e. e) h

pub top_meets : {A : Type 0} (xs : List A) (go other : A → List A → Flow)
    → ((x : A) (more : List A) → FlowMeets (go x more) (other x more)) → FlowMeets (top xs go) (top xs other)
top_meets [] go other h = tt
top_meets (x ∷ xs) go other h = h x xs

pub elements_meet : (t : Form) (go other : Form → Flow) → ((u : Form) → FlowMeets (go u) (other u))
    → FlowMeets (elements_of t go) (elements_of t other)
elements_meet (Many u) go other h = h u
elements_meet _ go other h = tt

pub fields_meet : (t : Form) (go other : Forms → Flow) → ((us : Forms) → FlowMeets (go us) (other us))
    → FlowMeets (fields_of t go) (fields_of t other)
fields_meet (Fields us) go other h = h us
fields_meet _ go other h = tt

pub collected_meet : (t : Option Form) (go other : Form → Flow) → ((u : Form) → FlowMeets (go u) (other u))
    → FlowMeets (collected_by t go) (collected_by t other)
collected_meet None go other h = tt
collected_meet (Some t) go other h = elements_meet t go other h
