-- A state fits a shape over what its frame found when it was entered.
use Rattle.std.proofs.Common.{◌≡◌, ℕ, Bool, true, false, List, [], ◌∷◌, length, Option, Some, None, refl, sym, ap, ◌∙◌}
use Rattle.std.proofs.Common.{subst}
use Rattle.cat_value.specs.declared.value.Value.{Value}
use Rattle.cat_value.specs.declared.declaration.ItemDecl.{ItemDecl}
use Rattle.cat_value.specs.declared.decls.Decls.{Decls}
use Rattle.cat_scope.specs.Names.{AllHave, scope_items}
use Rattle.cat_scope.specs.Judging.{Held}
use Rattle.cat_scope.specs.Calls.{Items}
use Rattle.cat_code.specs.declared.code.Tables.{Tables}
use Rattle.cat_code.specs.States.{Loop, DefaultFrame, Pending, State, at, push}
use Rattle.cat_code.specs.Forms.{Form, item_form}
use Rattle.cat_code.specs.Shapes.{Owner, FrameShape, LoopShape, PendingShape, Shape, AreFewer, MeetsFrame, MeetsPending}
use Rattle.cat_code.specs.Shapes.{AllMeet, Meets}
use Rattle.cat_code.specs.Leads.{pushed}
use Rattle.cat_code_sound.proofs.ValueKinds.{IsOf, AreAll}

-- a stack whose upper part is told, over what lies below
abbrev pub OnTop : {A B : Type 0} → (A → B → Type 0) → List A → List B → List B → Type 0
OnTop Is [] xs below = xs ≡ below
OnTop Is (t ∷ ts) [] below = ⊥
OnTop Is (t ∷ ts) (x ∷ xs) below = Is t x × OnTop Is ts xs below

-- at most one entry
abbrev pub HasFew : List (Held Value) → Type 0
HasFew [] = Unit {0}
HasFew (h ∷ []) = Unit {0}
HasFew (h ∷ i ∷ hs) = ⊥

-- a default frame whose values are of its type, and which has at most one of them where it was checked
pub record FrameFits (ds : Decls) (shape : FrameShape) (frame : DefaultFrame) : Type 0 where
  pub held : AllHave (λ (h : Held Value). IsOf ds shape.holds h.value) frame.held
  pub checked : shape.checked ≡ true → HasFew frame.held

-- what a loop collects, where it does
abbrev pub CollectedFits : Decls → Option Form → Option (List Value) → Type 0
CollectedFits ds None None = Unit {0}
CollectedFits ds None (Some vs) = ⊥
CollectedFits ds (Some t) None = ⊥
CollectedFits ds (Some t) (Some vs) = AreAll ds t vs

pub record LoopFits (ds : Decls) (shape : LoopShape) (loop : Loop) : Type 0 where
  pub left : AreAll ds shape.element loop.left
  pub collected : CollectedFits ds shape.collected loop.collected

-- a slot is of its item's type, and there where it is filled
abbrev pub SlotFits : Decls → ItemDecl → Bool → Option Value → Type 0
SlotFits ds item filled None = filled ≡ false
SlotFits ds item filled (Some v) = IsOf ds (item_form ds item) v

abbrev pub SlotsFit : Decls → List ItemDecl → List Bool → Items → Type 0
SlotsFit ds [] [] [] = Unit {0}
SlotsFit ds (item ∷ items) (b ∷ bs) (o ∷ os) = SlotFits ds item b o × SlotsFit ds items bs os
SlotsFit ds _ _ _ = ⊥

-- a scope that is not entered yet, which the code of the frame may call
pub record PendingFits (ds : Decls) (Known : ℕ → Type 0) (shape : PendingShape) (pending : Pending) : Type 0 where
  pub known : Known shape.scope
  pub scope : pending.scope ≡ shape.scope
  pub slots : SlotsFit ds (scope_items ds shape.scope) shape.passed pending.slots

-- a function leaves the slots as they were
abbrev pub KeepsSlots : Option ℕ → Items → Items → Type 0
KeepsSlots None slots before = Unit {0}
KeepsSlots (Some f) slots before = slots ≡ before

-- how many elements are left in each loop
abbrev pub lefts : List Loop → List ℕ
lefts [] = []
lefts (l ∷ ls) = length l.left ∷ lefts ls

-- what is known of a frame: the tables of its code, to what it belongs, what lay below when it was entered, which
-- scopes its code may call, where a shape is met, and what holds of the loops in which it stands with so many elements
-- left
pub record Setting : Type 1 where
  pub tables : Tables
  pub owner : Owner
  pub below : State
  pub Known : ℕ → Type 0
  pub Met : ℕ → Shape → Type 0
  pub Around : List LoopShape → List ℕ → Type 0

-- the same, with nothing known of the loops
abbrev pub unbound : Setting → Setting
unbound here = record here { Around = λ ls ns. Unit {0} }

-- a state fits a shape, with so many elements left in its loops
pub record Fits (here : Setting) (turns : List ℕ) (shape : Shape) (s : State) : Type 0 where
  pub owner : shape.owner ≡ here.owner
  pub operands : OnTop (IsOf here.tables.decls) shape.operands s.operands here.below.operands
  pub locals : OnTop (IsOf here.tables.decls) shape.locals s.locals []
  pub slots : SlotsFit here.tables.decls (scope_items here.tables.decls here.owner.scope) shape.filled s.slots
  pub kept : KeepsSlots here.owner.function s.slots here.below.slots
  pub defaults : OnTop (FrameFits here.tables.decls) shape.defaults s.defaults here.below.defaults
  pub loops : OnTop (LoopFits here.tables.decls) shape.loops s.loops here.below.loops
  pub turns_are : lefts s.loops ≡ turns
  pub around : here.Around shape.loops turns
  pub pending : OnTop (PendingFits here.tables.decls here.Known) shape.pending s.pending here.below.pending
  pub frames : s.frames ≡ here.below.frames

-- ---- what fits a shape fits each shape that it meets

slot_fewer : (ds : Decls) (item : ItemDecl) (a b : Bool) (o : Option Value) → (a ≡ true → b ≡ true)
    → SlotFits ds item b o
    → SlotFits ds item a o
slot_fewer ds item a b (Some v) fewer fits = fits
slot_fewer ds item false b None fewer fits = refl
slot_fewer ds item true b None fewer fits = sym (fewer refl) ∙ fits

slots_fewer : (ds : Decls) (items : List ItemDecl) (xs bs : List Bool) (os : Items) → AreFewer xs bs
    → SlotsFit ds items bs os → SlotsFit ds items xs os
slots_fewer ds [] [] [] [] fewer fits = tt
slots_fewer ds [] [] [] (o ∷ os) fewer fits = fits
slots_fewer ds [] [] (b ∷ bs) os fewer fits = absurd fewer
slots_fewer ds [] (a ∷ xs) [] os fewer fits = absurd fewer
slots_fewer ds [] (a ∷ xs) (b ∷ bs) os fewer fits = absurd (none os fits)
  where
    none : (os : Items) → SlotsFit ds [] (b ∷ bs) os → ⊥
    none [] h = h
    none (o ∷ os) h = h
slots_fewer ds (item ∷ items) [] [] os fewer fits = fits
slots_fewer ds (item ∷ items) [] (b ∷ bs) os fewer fits = absurd fewer
slots_fewer ds (item ∷ items) (a ∷ xs) [] os fewer fits = absurd fewer
slots_fewer ds (item ∷ items) (a ∷ xs) (b ∷ bs) [] fewer fits = fits
slots_fewer ds (item ∷ items) (true ∷ xs) (b ∷ bs) (o ∷ os) fewer fits =
    (slot_fewer ds item true b o (λ so. fewer.0) fits.0, slots_fewer ds items xs bs os fewer.1 fits.1)
slots_fewer ds (item ∷ items) (false ∷ xs) (b ∷ bs) (o ∷ os) fewer fits =
    (slot_fewer ds item false b o (λ so. absurd (cc so)) fits.0, slots_fewer ds items xs bs os fewer fits.1)

frame_fewer : (a b : Bool) → AreFewer (a ∷ []) (b ∷ []) → a ≡ true → b ≡ true
frame_fewer true b fewer so = fewer.0
frame_fewer false b fewer so = absurd (cc so)

frame_meets : (ds : Decls) (left shape : FrameShape) (frame : DefaultFrame) → MeetsFrame left shape
    → FrameFits ds left frame → FrameFits ds shape frame
frame_meets ds left shape frame meets fits = record {
  held = subst (λ (t : Form). AllHave (λ (h : Held Value). IsOf ds t h.value) frame.held) meets.holds fits.held;
  checked = λ so. fits.checked (frame_fewer shape.checked left.checked meets.checked so);
}

frames_meet : (ds : Decls) (ls ss : List FrameShape) (fs below : List DefaultFrame) → AllMeet MeetsFrame ls ss
    → OnTop (FrameFits ds) ls fs below → OnTop (FrameFits ds) ss fs below
frames_meet ds [] [] fs below meets fits = fits
frames_meet ds [] (s ∷ ss) fs below meets fits = absurd meets
frames_meet ds (l ∷ ls) [] fs below meets fits = absurd meets
frames_meet ds (l ∷ ls) (s ∷ ss) [] below meets fits = fits
frames_meet ds (l ∷ ls) (s ∷ ss) (f ∷ fs) below meets fits =
    (frame_meets ds l s f meets.0 fits.0, frames_meet ds ls ss fs below meets.1 fits.1)

pending_meets : (ds : Decls) (Known : ℕ → Type 0) (left shape : PendingShape) (p : Pending) → MeetsPending left shape
    → PendingFits ds Known left p → PendingFits ds Known shape p
pending_meets ds Known left shape p meets fits = record {
  known = subst Known meets.scope fits.known;
  scope = fits.scope ∙ meets.scope;
  slots = subst (λ n. SlotsFit ds (scope_items ds n) shape.passed p.slots) meets.scope
      (slots_fewer ds (scope_items ds left.scope) shape.passed left.passed p.slots meets.passed fits.slots);
}

pendings_meet : (ds : Decls) (Known : ℕ → Type 0) (ls ss : List PendingShape) (ps below : List Pending)
    → AllMeet MeetsPending ls ss
    → OnTop (PendingFits ds Known) ls ps below → OnTop (PendingFits ds Known) ss ps below
pendings_meet ds Known [] [] ps below meets fits = fits
pendings_meet ds Known [] (s ∷ ss) ps below meets fits = absurd meets
pendings_meet ds Known (l ∷ ls) [] ps below meets fits = absurd meets
pendings_meet ds Known (l ∷ ls) (s ∷ ss) [] below meets fits = fits
pendings_meet ds Known (l ∷ ls) (s ∷ ss) (p ∷ ps) below meets fits =
    (pending_meets ds Known l s p meets.0 fits.0, pendings_meet ds Known ls ss ps below meets.1 fits.1)

pub meets_fits : (here : Setting) (turns : List ℕ) (left shape : Shape) (s : State) → Meets left shape
    → Fits here turns left s → Fits here turns shape s
meets_fits here turns left shape s meets fits = record {
  owner = sym meets.owner ∙ fits.owner;
  operands =
      subst (λ (ts : List Form). OnTop (IsOf here.tables.decls) ts s.operands here.below.operands) meets.operands
      fits.operands;
  locals = subst (λ (ts : List Form). OnTop (IsOf here.tables.decls) ts s.locals []) meets.locals fits.locals;
  slots =
      slots_fewer here.tables.decls
      (scope_items here.tables.decls here.owner.scope) shape.filled left.filled s.slots meets.filled fits.slots;
  kept = fits.kept;
  defaults =
      frames_meet here.tables.decls left.defaults shape.defaults s.defaults here.below.defaults meets.defaults
      fits.defaults;
  loops =
      subst (λ (ls : List LoopShape). OnTop (LoopFits here.tables.decls) ls s.loops here.below.loops) meets.loops
      fits.loops;
  turns_are = fits.turns_are;
  around = subst (λ (ls : List LoopShape). here.Around ls turns) meets.loops fits.around;
  pending =
      pendings_meet here.tables.decls here.Known left.pending shape.pending s.pending here.below.pending meets.pending
      fits.pending;
  frames = fits.frames;
}

-- ---- states whose parts are the same fit the same shapes

pub same_fits : (here : Setting) (turns : List ℕ) (shape : Shape) (s r : State) → Fits here turns shape s
    → s.operands ≡ r.operands → s.locals ≡ r.locals → s.slots ≡ r.slots → s.defaults ≡ r.defaults → s.loops ≡ r.loops
    → s.pending ≡ r.pending → s.frames ≡ r.frames → Fits here turns shape r
same_fits here turns shape s r fits operands locals slots defaults loops pending frames = record {
  owner = fits.owner;
  operands =
      subst (λ (vs : List Value). OnTop (IsOf here.tables.decls) shape.operands vs here.below.operands) operands
      fits.operands;
  locals = subst (λ (vs : List Value). OnTop (IsOf here.tables.decls) shape.locals vs []) locals fits.locals;
  slots =
      subst (λ (os : Items). SlotsFit here.tables.decls
      (scope_items here.tables.decls here.owner.scope) shape.filled os) slots fits.slots;
  kept = subst (λ (os : Items). KeepsSlots here.owner.function os here.below.slots) slots fits.kept;
  defaults =
      subst (λ (fs : List DefaultFrame). OnTop (FrameFits here.tables.decls) shape.defaults fs here.below.defaults)
      defaults
      fits.defaults;
  loops =
      subst (λ (ls : List Loop). OnTop (LoopFits here.tables.decls) shape.loops ls here.below.loops) loops fits.loops;
  turns_are = ap lefts (sym loops) ∙ fits.turns_are;
  around = fits.around;
  pending =
      subst (λ (ps : List Pending). OnTop
      (PendingFits here.tables.decls here.Known) shape.pending ps here.below.pending) pending
      fits.pending;
  frames = sym frames ∙ fits.frames;
}

-- the place of a state doesn't matter
pub placed_fits : (here : Setting) (turns : List ℕ) (shape : Shape) (s : State) (p : ℕ) → Fits here turns shape s
    → Fits here turns shape (at p s)
placed_fits here turns shape s p fits = same_fits here turns shape s (at p s) fits refl refl refl refl refl refl refl

-- an operand more
pub pushed_fits : (here : Setting) (turns : List ℕ) (shape : Shape) (s : State) (t : Form) (v : Value)
    → Fits here turns shape s
    → IsOf here.tables.decls t v → Fits here turns (pushed t shape) (push v s)
pushed_fits here turns shape s t v fits is = record {
  owner = fits.owner;
  operands = (is, fits.operands);
  locals = fits.locals;
  slots = fits.slots;
  kept = fits.kept;
  defaults = fits.defaults;
  loops = fits.loops;
  turns_are = fits.turns_are;
  around = fits.around;
  pending = fits.pending;
  frames = fits.frames;
}

-- other operands
pub operands_fit : (here : Setting) (turns : List ℕ) (shape : Shape) (s : State) (ts : List Form) (vs : List Value)
    → Fits here turns shape s → OnTop (IsOf here.tables.decls) ts vs here.below.operands
    → Fits here turns (record shape { operands = ts }) (record s { operands = vs })
operands_fit here turns shape s ts vs fits are = record {
  owner = fits.owner;
  operands = are;
  locals = fits.locals;
  slots = fits.slots;
  kept = fits.kept;
  defaults = fits.defaults;
  loops = fits.loops;
  turns_are = fits.turns_are;
  around = fits.around;
  pending = fits.pending;
  frames = fits.frames;
}

-- other slots
pub slots_fit : (here : Setting) (turns : List ℕ) (shape : Shape) (s : State) (filled : List Bool) (slots : Items)
    → Fits here turns shape s
    → SlotsFit here.tables.decls (scope_items here.tables.decls here.owner.scope) filled slots
    → KeepsSlots here.owner.function slots here.below.slots
    → Fits here turns (record shape { filled = filled }) (record s { slots = slots })
slots_fit here turns shape s filled slots fits are kept = record {
  owner = fits.owner;
  operands = fits.operands;
  locals = fits.locals;
  slots = are;
  kept = kept;
  defaults = fits.defaults;
  loops = fits.loops;
  turns_are = fits.turns_are;
  around = fits.around;
  pending = fits.pending;
  frames = fits.frames;
}

-- other local names
pub locals_fit : (here : Setting) (turns : List ℕ) (shape : Shape) (s : State) (ts : List Form) (vs : List Value)
    → Fits here turns shape s → OnTop (IsOf here.tables.decls) ts vs []
    → Fits here turns (record shape { locals = ts }) (record s { locals = vs })
locals_fit here turns shape s ts vs fits are = record {
  owner = fits.owner;
  operands = fits.operands;
  locals = are;
  slots = fits.slots;
  kept = fits.kept;
  defaults = fits.defaults;
  loops = fits.loops;
  turns_are = fits.turns_are;
  around = fits.around;
  pending = fits.pending;
  frames = fits.frames;
}

-- other default frames
pub defaults_fit : (here : Setting) (turns : List ℕ) (shape : Shape) (s : State) (ts : List FrameShape)
    (fs : List DefaultFrame) → Fits here turns shape s
    → OnTop (FrameFits here.tables.decls) ts fs here.below.defaults
    → Fits here turns (record shape { defaults = ts }) (record s { defaults = fs })
defaults_fit here turns shape s ts fs fits are = record {
  owner = fits.owner;
  operands = fits.operands;
  locals = fits.locals;
  slots = fits.slots;
  kept = fits.kept;
  defaults = are;
  loops = fits.loops;
  turns_are = fits.turns_are;
  around = fits.around;
  pending = fits.pending;
  frames = fits.frames;
}

-- other pending frames
pub pending_fit : (here : Setting) (turns : List ℕ) (shape : Shape) (s : State) (ts : List PendingShape)
    (ps : List Pending) → Fits here turns shape s
    → OnTop (PendingFits here.tables.decls here.Known) ts ps here.below.pending
    → Fits here turns (record shape { pending = ts }) (record s { pending = ps })
pending_fit here turns shape s ts ps fits are = record {
  owner = fits.owner;
  operands = fits.operands;
  locals = fits.locals;
  slots = fits.slots;
  kept = fits.kept;
  defaults = fits.defaults;
  loops = fits.loops;
  turns_are = fits.turns_are;
  around = fits.around;
  pending = are;
  frames = fits.frames;
}

-- other loops
pub loops_fit : (here : Setting) (turns : List ℕ) (shape : Shape) (s : State) (others : List ℕ) (ts : List LoopShape)
    (ls : List Loop) → Fits (unbound here) turns shape s
    → OnTop (LoopFits here.tables.decls) ts ls here.below.loops → lefts ls ≡ others → here.Around ts others
    → Fits here others (record shape { loops = ts }) (record s { loops = ls })
loops_fit here turns shape s others ts ls fits are left around = record {
  owner = fits.owner;
  operands = fits.operands;
  locals = fits.locals;
  slots = fits.slots;
  kept = fits.kept;
  defaults = fits.defaults;
  loops = are;
  turns_are = left;
  around = around;
  pending = fits.pending;
  frames = fits.frames;
}

-- what is known of the loops is left out
pub unbound_fits : (here : Setting) (turns : List ℕ) (shape : Shape) (s : State) → Fits here turns shape s
    → Fits (unbound here) turns shape s
unbound_fits here turns shape s fits = record {
  owner = fits.owner;
  operands = fits.operands;
  locals = fits.locals;
  slots = fits.slots;
  kept = fits.kept;
  defaults = fits.defaults;
  loops = fits.loops;
  turns_are = fits.turns_are;
  around = tt;
  pending = fits.pending;
  frames = fits.frames;
}
