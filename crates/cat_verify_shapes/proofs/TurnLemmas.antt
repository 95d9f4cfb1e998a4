-- Each loop that is open where a shape stands has a turn with a shape, inside of which the shape is.
use Rattle.std.proofs.Common.{◌≡◌, ◌⊎◌, inl, inr, ℕ, ◌+◌, List, [], ◌∷◌, ◌++◌, length, Some}
use Rattle.std.proofs.Common.{slice_get, refl, sym, ap, ◌∙◌, subst, arith}
use Rattle.cat_scope.specs.Names.{AllHave}
use Rattle.cat_code.specs.declared.instr.Instr.{Instr}
use Rattle.cat_code.specs.declared.code.Tables.{Tables}
use Rattle.cat_code.specs.Shapes.{LoopShape, Shape, Meets}
use Rattle.cat_code.specs.Shaped.{Shapes}
use Rattle.cat_code.specs.Flow.{flow}
use Rattle.cat_verify_shapes.specs.inside.Turns.{IsInside, HasTurn, HaveTurns}
use Rattle.cat_verify_shapes.proofs.ListLemmas.{some_is, head_is, rest_is}
use Rattle.cat_verify_shapes.proofs.CommonLemmas.{Alike}
use Rattle.cat_verify_shapes.proofs.FlowCases.{FlowAll}
use Rattle.cat_verify_shapes.proofs.InsideLemmas.{IsTurn, StaysAt, Stays}
use Rattle.cat_verify_shapes.proofs.InsideFlow.{flow_stays}
use Rattle.cat_verify_shapes.proofs.TurnsMet.{turn_met}
use Rattle.cat_verify_shapes.proofs.OpenLoops.{LoopsOf}
use Rattle.cat_verify_shapes.proofs.FlowPlaces.{flow_loops}

module _ (shapes : Shapes) (Looked : ℕ → Type 0) where
  -- a loop that began just in front of a place
  pub record BeginsNow (p q : ℕ) (s : Shape) (inners : List LoopShape) (l : LoopShape) : Type 0 where
    pub place : q ≡ l.begun + 1
    pub behind : q ≡ p + 1
    pub top : inners ≡ []
    pub frames : length s.defaults ≡ l.frames
    pub pending : length s.pending ≡ l.pending

  -- of a shape that comes to a place, each open loop has a turn that was looked at, or began just in front
  abbrev pub IsComing : ℕ → ℕ × Shape → Type 0
  IsComing p next = (inners : List LoopShape) (l : LoopShape) (ls : List LoopShape)
      → next.1.loops ≡ inners ++ l ∷ ls
      → (HasTurn shapes Looked next.0 next.1 l ls × Looked (l.begun + 1)) ⊎ BeginsNow p next.0 next.1 inners l

  looked_turn : (p : ℕ) (s : Shape) (l : LoopShape) (ls : List LoopShape) → Looked p → HasTurn shapes Looked p s l ls
      → Looked (l.begun + 1)
  looked_turn p s l ls look has = by_place has.here
    where
      by_place : (p ≡ l.begun + 1) ⊎ Looked (l.begun + 1) → Looked (l.begun + 1)
      by_place (inl e) = subst Looked e look
      by_place (inr h) = h

  -- an old loop: what stands further is inside of its turn too
  old_loop : (p : ℕ) (s : Shape) (l : LoopShape) (ls : List LoopShape) → Looked p
      → (has : HasTurn shapes Looked p s l ls)
      → (next : ℕ × Shape) (inners : List LoopShape) → StaysAt has.turn next → next.1.loops ≡ inners ++ l ∷ ls
      → HasTurn shapes Looked next.0 next.1 l ls × Looked (l.begun + 1)
  old_loop p s l ls look has next inners stays e = (
    record {
      turn = has.turn;
      is = has.is;
      loops = has.loops;
      frames = has.frames;
      pending = has.pending;
      inside = stays inners (e ∙ ap (λ (xs : List LoopShape). inners ++ xs) (sym has.loops));
      here = inr (looked_turn p s l ls look has);
    },
    looked_turn p s l ls look has,
  )

  none_open : (inners : List LoopShape) (l : LoopShape) (ls : List LoopShape) → [] ≡ inners ++ l ∷ ls → ⊥
  none_open [] l ls e = absurd (omega (arith, ap length e))
  none_open (x ∷ inners) l ls e = absurd (omega (arith, ap length e))

  pub comes : (tables : Tables) (code : List Instr) (p : ℕ) (i : Instr) (s : Shape) → Looked p
      → HaveTurns shapes Looked p s
      → (to : List (ℕ × Shape)) → flow tables code i p s ≡ Some to → AllHave (IsComing p) to
  comes tables code p i s look turns to flows =
      each to (subst (FlowAll (AllHave (LoopsOf p s))) flows (flow_loops tables code i p s)) stay
    where
      turn_of : (l : LoopShape) (ls : List LoopShape) (has : HasTurn shapes Looked p s l ls) → IsTurn has.turn
      turn_of l ls has =
          record { loop = l; outer = ls; loops = has.loops; frames = has.frames; pending = has.pending }

      stay : (l : LoopShape) (ls : List LoopShape) (has : HasTurn shapes Looked p s l ls) → Stays has.turn to
      stay l ls has =
          subst (FlowAll (Stays has.turn)) flows (flow_stays has.turn (turn_of l ls has) tables code i p s has.inside)

      coming : (next : ℕ × Shape) → LoopsOf p s next
          → ((l : LoopShape) (ls : List LoopShape) (has : HasTurn shapes Looked p s l ls) → StaysAt has.turn next)
          → IsComing p next
      coming next (inl same) stays inners l ls e =
          let has = turns inners l ls (sym same ∙ e) in
          inl (old_loop p s l ls look has next inners (stays l ls has) e)
      coming next (inr (inl less)) stays inners l ls e =
          let has = turns (less.0 ∷ inners) l ls
          (less.1 ∙ ap (λ (xs : List LoopShape). less.0 ∷ xs) e) in
          inl (old_loop p s l ls look has next inners (stays l ls has) e)
      coming next (inr (inr (inl new))) stays [] l ls e =
          let same = head_is new.loop l s.loops ls (sym new.loops ∙ e) in
          inr record {
            behind = new.place;
            place = new.place ∙ ap (λ (b : ℕ). b + 1) (sym new.begun) ∙ ap (λ (x : LoopShape). x.begun + 1) same;
            top = refl;
            frames = new.frames ∙ ap (λ (x : LoopShape). x.frames) same;
            pending = new.pending ∙ ap (λ (x : LoopShape). x.pending) same;
          }
      coming next (inr (inr (inl new))) stays (x ∷ inners) l ls e =
          let has = turns inners l ls (rest_is new.loop x s.loops (inners ++ l ∷ ls) (sym new.loops ∙ e)) in
          inl (old_loop p s l ls look has next (x ∷ inners) (stays l ls has) e)
      coming next (inr (inr (inr none))) stays inners l ls e = absurd (none_open inners l ls (sym none ∙ e))

      each : (to : List (ℕ × Shape)) → AllHave (LoopsOf p s) to
          → ((l : LoopShape) (ls : List LoopShape) (has : HasTurn shapes Looked p s l ls) → Stays has.turn to)
          → AllHave (IsComing p) to
      each [] loops stays = tt
      each (next ∷ to) loops stays = (
        coming next loops.0 (λ l ls has. (stays l ls has).0),
        each to loops.1 (λ l ls has. (stays l ls has).1),
      )

  -- what comes back to the turn of a loop, alike, meets the shape there
  pub back_met : (p q : ℕ) (s turn : Shape) (l : LoopShape) (ls : List LoopShape) → IsComing p (q, s)
      → slice_get shapes q ≡ Some (Some turn) → turn.loops ≡ l ∷ ls → q ≡ l.begun + 1 → Alike s turn
      → (BeginsNow p q s [] l → ⊥) → Meets s turn
  back_met p q s turn l ls coming is loops place alike later = by_case (coming [] l ls (alike.loops ∙ loops))
    where
      by_case : (HasTurn shapes Looked q s l ls × Looked (l.begun + 1)) ⊎ BeginsNow p q s [] l → Meets s turn
      by_case (inr now) = absurd (later now)
      by_case (inl old) =
          turn_met turn s (subst (λ (x : Shape). IsInside x s) same old.0.inside) alike
        where
          same : old.0.turn ≡ turn
          same =
              some_is old.0.turn turn
              (some_is (Some old.0.turn) (Some turn) (sym old.0.is ∙ ap (slice_get shapes) (sym place) ∙ is))
