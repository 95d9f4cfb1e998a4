-- What stays known when a shape comes to a place where less is known, and why no shapes fit where it can't come.
use Rattle.std.proofs.Common.{◌≡◌, ◌⊎◌, ◌<◌, inl, inr, ℕ, ◌+◌, nat_eq, Bool, true, false, List}
use Rattle.std.proofs.Common.{[], ◌∷◌}
use Rattle.std.proofs.Common.{length, Option, Some, None, slice_get, slice_set, refl, sym, ap, ◌∙◌, subst}
use Rattle.std.proofs.lemmas.Bool.{eqb-true}
use Rattle.cat_scope.specs.Names.{IsOneOf}
use Rattle.cat_code.specs.declared.instr.Instr.{Instr}
use Rattle.cat_code.specs.declared.instr.Instr.TheVariants as instr
use Rattle.cat_code.specs.declared.code.Tables.{Tables}
use Rattle.cat_code.specs.Shapes as meant
use Rattle.cat_code.specs.Shapes.{Meets}
use Rattle.cat_code.specs.Shaped.{Shapes, IsMet, IsShapedBy}
use Rattle.cat_code.specs.Leads.{Flow, leads_two, where_so, top, pushed, loop_ended}
use Rattle.cat_verify_shapes.specs.Belonging.{Belongs, MayRun, MayComeTo}
use Rattle.cat_verify_shapes.specs.declared.shape.Shape.{Shape}
use Rattle.cat_verify_shapes.specs.declared.found.Spot.{Spot}
use Rattle.cat_verify_shapes.specs.declared.found.Spot.TheVariants as spot
use Rattle.cat_verify_shapes.specs.inside.Senses.{Senses}
use Rattle.cat_verify_shapes.specs.inside.Told.{shape_of}
use Rattle.cat_verify_shapes.specs.inside.Looking.{IsLooked, IsUnlike}
use Rattle.cat_verify_shapes.specs.inside.Turns.{IsInside, HasTurn, HaveTurns}
use Rattle.cat_verify_shapes.specs.inside.States.{LookedAt, kept_at, AreBound, IsKnown}
use Rattle.cat_verify_shapes.proofs.ListLemmas.{none_some, some_is, set_there, set_long, set_is, get_as_long}
use Rattle.cat_verify_shapes.proofs.MeetingLemmas.{fewer_same}
use Rattle.cat_verify_shapes.proofs.BoundLemmas.{goes_on, both_bound}
use Rattle.cat_verify_shapes.proofs.CommonLemmas.{Alike}
use Rattle.cat_verify_shapes.proofs.TurnLemmas.{BeginsNow, IsComing, back_met}
use Rattle.cat_verify_shapes.proofs.StepLemmas.{AreApart}
use Rattle.cat_verify_shapes.proofs.BackLemmas.{alike_back, no_fewer_back}
use Rattle.cat_verify_shapes.proofs.PassLemmas.{same_or_not, Still, set_so_far, set_still}

-- a number is one of some, or not
is_one : (n : ℕ) (ns : List ℕ) → IsOneOf n ns ⊎ (IsOneOf n ns → ⊥)
is_one n [] = inr (λ h. h)
is_one n (m ∷ ns) = by_head (same_or_not n m) (is_one n ns)
  where
    by_head : (n ≡ m) ⊎ (n ≡ m → ⊥) → IsOneOf n ns ⊎ (IsOneOf n ns → ⊥)
        → IsOneOf n (m ∷ ns) ⊎ (IsOneOf n (m ∷ ns) → ⊥)
    by_head (inl e) rest = inl (inl e)
    by_head (inr other) (inl h) = inl (inr h)
    by_head (inr other) (inr none) = inr neither
      where
        neither : IsOneOf n (m ∷ ns) → ⊥
        neither (inl e) = other e
        neither (inr h) = none h

-- a shape is inside of itself
pub inside_self : (s : meant.Shape) → IsInside s s
inside_self s = record {
  tops = [];
  frames = refl;
  waits = [];
  pending = refl;
  filled = fewer_same s.filled;
  inners = [];
  loops = refl;
  above = tt;
}

-- ---- turns of loops, when other places change

module _ (found after : List Spot) (shapes more : Shapes) (still : Still found after shapes more) where
  pub looked_on : (q : ℕ) → LookedAt found q → LookedAt after q
  looked_on q (at, is, look) = (at, (still q at is look).1 ∙ is, look)

  pub turn_on : (p : ℕ) (s : meant.Shape) (l : meant.LoopShape) (ls : List meant.LoopShape)
      → HasTurn shapes (LookedAt found) p s l ls → (look : LookedAt found (l.begun + 1))
      → HasTurn more (LookedAt after) p s l ls
  turn_on p s l ls has look = record {
    turn = has.turn;
    is = (still (l.begun + 1) look.0 look.1 look.2).0 ∙ has.is;
    loops = has.loops;
    frames = has.frames;
    pending = has.pending;
    inside = has.inside;
    here = inr (looked_on (l.begun + 1) look);
  }

  -- the turns of a place whose shape stays
  pub turns_on : (p : ℕ) (s : meant.Shape) → slice_get more p ≡ slice_get shapes p
      → HaveTurns shapes (LookedAt found) p s → HaveTurns more (LookedAt after) p s
  turns_on p s same turns inners l ls e = by_place (turns inners l ls e).here
    where
      by_place : (p ≡ l.begun + 1) ⊎ LookedAt found (l.begun + 1) → HasTurn more (LookedAt after) p s l ls
      by_place (inr look) = turn_on p s l ls (turns inners l ls e) look
      by_place (inl here) = record {
        turn = (turns inners l ls e).turn;
        is = ap (slice_get more) (sym here) ∙ same ∙ ap (slice_get shapes) here ∙ (turns inners l ls e).is;
        loops = (turns inners l ls e).loops;
        frames = (turns inners l ls e).frames;
        pending = (turns inners l ls e).pending;
        inside = (turns inners l ls e).inside;
        here = inl here;
      }

  -- a shape that comes from a place comes there still
  pub coming_on : (p q : ℕ) (s : meant.Shape) → IsComing shapes (LookedAt found) p (q, s)
      → IsComing more (LookedAt after) p (q, s)
  coming_on p q s coming inners l ls e = by_case (coming inners l ls e)
    where
      by_case : (HasTurn shapes (LookedAt found) q s l ls × LookedAt found (l.begun + 1))
          ⊎ BeginsNow shapes (LookedAt found) p q s inners l
          → (HasTurn more (LookedAt after) q s l ls × LookedAt after (l.begun + 1))
          ⊎ BeginsNow more (LookedAt after) p q s inners l
      by_case (inl (has, look)) = inl (turn_on q s l ls has look, looked_on (l.begun + 1) look)
      by_case (inr now) = inr record {
        place = now.place;
        behind = now.behind;
        top = now.top;
        frames = now.frames;
        pending = now.pending;
      }

-- ---- another shape at a place that waits, or at which nothing was known

module _ (tables : Tables) (code : List Instr) (d : Senses) (found : List Spot) (but : ℕ) (left : List ℕ)
    (shapes : Shapes) (known : IsKnown tables code d found but left shapes) (place : ℕ) (at : Spot) (w : Shape)
    (o : Option meant.Shape) (at_is : slice_get found place ≡ Some at) (unlooked : IsLooked at → ⊥)
    (o_is : slice_get shapes place ≡ Some o) where
  abbrev found_now : List Spot
  found_now = slice_set found place (spot.Open w)

  abbrev shapes_now : Shapes
  shapes_now = slice_set shapes place (Some (shape_of d w))

  pub still_now : Still found found_now shapes shapes_now
  still_now = set_still found shapes place at (spot.Open w) (Some (shape_of d w)) at_is unlooked

  spot_is : (b : Spot) → slice_get found_now place ≡ Some b → spot.Open w ≡ b
  spot_is b e = set_is found place (spot.Open w) b e

  shape_is : (s : meant.Shape) → slice_get shapes_now place ≡ Some (Some s) → shape_of d w ≡ s
  shape_is s e =
      some_is (shape_of d w) s (set_is shapes place (Some (shape_of d w)) (Some s) e)

  pub set_known : ((s : meant.Shape) → o ≡ Some s → (t : meant.Shape) × (Some (shape_of d w) ≡ Some t) × Meets s t)
      → HaveTurns shapes_now (LookedAt found_now) place (shape_of d w)
      → ((fit : Shapes) → IsShapedBy tables code fit → IsMet fit place (shape_of d w))
      → Belongs tables code (shape_of d w).owner place → MayRun tables code (shape_of d w).owner
      → IsOneOf place left → IsKnown tables code d found_now but left shapes_now
  set_known lower here met belongs runs among = record {
    long = set_long found place (spot.Open w) ∙ known.long;
    so_far = set_so_far tables code d found but shapes known.so_far place at (spot.Open w) o (Some (shape_of d w)) at_is
        o_is lower refl (λ h. absurd h) own;
    turns = turns;
    bound = bound;
    run = run;
    passed = passed;
    waiting = waiting;
    fresh = fresh;
    done =
        λ owner q of less out. looked_on found found_now shapes shapes_now still_now q (known.done owner q of less out);
  }
    where
      own : (s : meant.Shape) → Some (shape_of d w) ≡ Some s → Belongs tables code s.owner place
      own s e = subst (λ (x : meant.Shape). Belongs tables code x.owner place) (some_is (shape_of d w) s e) belongs

      turns : (p : ℕ) (s : meant.Shape) → slice_get shapes_now p ≡ Some (Some s)
          → HaveTurns shapes_now (LookedAt found_now) p s
      turns p s e = by_place (same_or_not p place)
        where
          by_place : (p ≡ place) ⊎ (p ≡ place → ⊥) → HaveTurns shapes_now (LookedAt found_now) p s
          by_place (inr other) =
              turns_on found found_now shapes shapes_now still_now p s
              (set_there shapes place p (Some (shape_of d w)) other)
              (known.turns p s (sym (set_there shapes place p (Some (shape_of d w)) other) ∙ e))
          by_place (inl same) =
              subst (λ (n : ℕ). HaveTurns shapes_now (LookedAt found_now) n s) (sym same)
              (subst (λ (x : meant.Shape). HaveTurns shapes_now (LookedAt found_now) place x)
              (shape_is s (ap (slice_get shapes_now) (sym same) ∙ e)) here)

      bound : AreBound tables code d found_now
      bound fit shaped p b s is kept = by_place (same_or_not p place)
        where
          by_place : (p ≡ place) ⊎ (p ≡ place → ⊥) → IsMet fit p (shape_of d s)
          by_place (inr other) =
              known.bound fit shaped p b s (sym (set_there found place p (spot.Open w) other) ∙ is) kept
          by_place (inl same) =
              let which : spot.Open w ≡ b = spot_is b (ap (slice_get found_now) (sym same) ∙ is) in
              let this : w ≡ s = some_is w s (ap kept_at which ∙ kept) in
              subst (λ (n : ℕ). IsMet fit n (shape_of d s)) (sym same)
              (subst (λ (x : Shape). IsMet fit place (shape_of d x)) this (met fit shaped))

      run : (p : ℕ) (s : meant.Shape) → slice_get shapes_now p ≡ Some (Some s) → MayRun tables code s.owner
      run p s e = by_place (same_or_not p place)
        where
          by_place : (p ≡ place) ⊎ (p ≡ place → ⊥) → MayRun tables code s.owner
          by_place (inr other) = known.run p s (sym (set_there shapes place p (Some (shape_of d w)) other) ∙ e)
          by_place (inl same) =
              subst (λ (x : meant.Shape). MayRun tables code x.owner)
              (shape_is s (ap (slice_get shapes_now) (sym same) ∙ e)) runs

      passed : (p t : ℕ) → slice_get found_now p ≡ Some spot.Done → slice_get code p ≡ Some (instr.Next t)
          → slice_get shapes_now p ≡ Some None
      passed p t is next = by_place (same_or_not p place)
        where
          by_place : (p ≡ place) ⊎ (p ≡ place → ⊥) → slice_get shapes_now p ≡ Some None
          by_place (inr other) =
              set_there shapes place p (Some (shape_of d w)) other
              ∙ known.passed p t (sym (set_there found place p (spot.Open w) other) ∙ is) next
          by_place (inl same) =
              absurd (none_some w (ap kept_at (sym (spot_is spot.Done (ap (slice_get found_now) (sym same) ∙ is)))))

      waiting : (p : ℕ) (s : Shape) → slice_get found_now p ≡ Some (spot.Open s) → IsOneOf p left
      waiting p s is = by_place (same_or_not p place)
        where
          by_place : (p ≡ place) ⊎ (p ≡ place → ⊥) → IsOneOf p left
          by_place (inr other) = known.waiting p s (sym (set_there found place p (spot.Open w) other) ∙ is)
          by_place (inl same) = subst (λ (n : ℕ). IsOneOf n left) (sym same) among

      fresh : (p : ℕ) → IsOneOf p left → LookedAt found_now p → ⊥
      fresh p among (b, is, look) = by_place (same_or_not p place)
        where
          by_place : (p ≡ place) ⊎ (p ≡ place → ⊥) → ⊥
          by_place (inr other) = known.fresh p among (b, sym (set_there found place p (spot.Open w) other) ∙ is, look)
          by_place (inl same) =
              absurd (subst IsLooked (sym (spot_is b (ap (slice_get found_now) (sym same) ∙ is))) look)

  -- a place to which a run may come, and which wasn't looked at, is left
  pub is_left : (owner : meant.Owner) → MayComeTo tables code owner place → place < length code → IsOneOf place left
  is_left owner of less = by_case (is_one place left)
    where
      by_case : IsOneOf place left ⊎ (IsOneOf place left → ⊥) → IsOneOf place left
      by_case (inl among) = among
      by_case (inr out) =
          let look = known.done owner place of less out in
          absurd (unlooked (subst IsLooked (some_is look.0 at (sym look.1 ∙ at_is)) look.2))

-- ---- a shape that can't come to a place

-- what a `next` does to the loops of a shape
abbrev turned : ℕ → ℕ → meant.Shape → List meant.LoopShape → Flow
turned q t u loops = top loops (λ l ls. where_so (nat_eq (l.begun + 1) q)
    (leads_two (q + 1) (pushed l.element u) t (loop_ended l.collected (record u { loops = ls }))))

module _ (tables : Tables) (code : List Instr) (d : Senses) (apart : AreApart d) (found : List Spot) (but : ℕ)
    (left : List ℕ) (shapes : Shapes) (known : IsKnown tables code d found but left shapes) (fit : Shapes)
    (shaped : IsShapedBy tables code fit) where
  -- at a `next` the loop that it turns is on top
  next_loops : (q t : ℕ) (u : meant.Shape) → slice_get code q ≡ Some (instr.Next t) → IsMet fit q u
      → (l : meant.LoopShape) × (ls : List meant.LoopShape) × (u.loops ≡ l ∷ ls) × (l.begun + 1 ≡ q)
  next_loops q t u is met =
      let go = goes_on tables code fit shaped q (instr.Next t) u is met in
      by_loops u.loops refl go.0 go.1
    where
      by_loops : (loops : List meant.LoopShape) → u.loops ≡ loops → (to : List (ℕ × meant.Shape))
          → turned q t u u.loops ≡ Some to
          → (l : meant.LoopShape) × (ls : List meant.LoopShape) × (u.loops ≡ l ∷ ls) × (l.begun + 1 ≡ q)
      by_loops [] e to flows = absurd (none_some to (sym (ap (turned q t u) e) ∙ flows))
      by_loops (l ∷ ls) e to flows = (l, ls, e, by_test (nat_eq (l.begun + 1) q) refl)
        where
          by_test : (b : Bool) → nat_eq (l.begun + 1) q ≡ b → l.begun + 1 ≡ q
          by_test true same = eqb-true (l.begun + 1) q same
          by_test false same =
              absurd (none_some to (sym (ap (turned q t u) e ∙ ap (λ (b : Bool). where_so b
              (leads_two (q + 1) (pushed l.element u) t (loop_ended l.collected (record u {
                loops = ls;
              })))) same) ∙ flows))

  -- a place that was looked at is come to only by a jump back to a `next`
  abbrev pub ComesBack : ℕ → ℕ → Type 0
  ComesBack p q = LookedAt found q → (q ≡ p + 1 → ⊥) × ((t : ℕ) × (slice_get code q ≡ Some (instr.Next t)))

  alike_at : (q : ℕ) (at : Spot) (k s : Shape) → slice_get found q ≡ Some at → kept_at at ≡ Some k
      → IsMet fit q (shape_of d s) → Alike (shape_of d k) (shape_of d s)
  alike_at q at k s is kept met =
      (both_bound tables code fit q (shape_of d k) (shape_of d s) (known.bound fit shaped q at k is kept) met).0

  pub unlike_refutes : (p q : ℕ) (at : Spot) (s : Shape) → slice_get found q ≡ Some at
      → IsComing shapes (LookedAt found) p (q, shape_of d s) → ComesBack p q → IsMet fit q (shape_of d s)
      → IsUnlike at s → ⊥
  unlike_refutes p q spot.Unmet s is coming back met unlike = unlike
  unlike_refutes p q (spot.Open k) s is coming back met unlike =
      unlike (alike_back d apart k s (alike_at q (spot.Open k) k s is refl met))
  unlike_refutes p q (spot.Turn k) s is coming back met unlike =
      unlike (alike_back d apart s k same) (no_fewer_back d apart s k
      (back_met shapes (LookedAt found) p q (shape_of d s) (shape_of d k) loops.0 loops.1 coming kept loops.2
      (sym loops.3) same (λ now. (back (spot.Turn k, is, tt)).0 now.behind)))
    where
      same : Alike (shape_of d s) (shape_of d k)
      same =
          (both_bound tables code fit q (shape_of d s) (shape_of d k) met
          (known.bound fit shaped q (spot.Turn k) k is refl)).0

      loops : (l : meant.LoopShape) × (ls : List meant.LoopShape) × ((shape_of d k).loops ≡ l ∷ ls)
          × (l.begun + 1 ≡ q)
      loops =
          next_loops q (back (spot.Turn k, is, tt)).1.0 (shape_of d k) (back (spot.Turn k, is, tt)).1.1
          (known.bound fit shaped q (spot.Turn k) k is refl)

      kept : slice_get shapes q ≡ Some (Some (shape_of d k))
      kept =
          let of = get_as_long found shapes q (spot.Turn k) (sym known.so_far.long) is in
          of.1 ∙ ap Some (known.so_far.agrees q (spot.Turn k) of.0 is of.1)
  unlike_refutes p q spot.Done s is coming back met unlike = by_case (coming [] loops.0 loops.1 loops.2)
    where
      after : (t : ℕ) × (slice_get code q ≡ Some (instr.Next t))
      after = (back (spot.Done, is, tt)).1

      loops : (l : meant.LoopShape) × (ls : List meant.LoopShape) × ((shape_of d s).loops ≡ l ∷ ls)
          × (l.begun + 1 ≡ q)
      loops = next_loops q after.0 (shape_of d s) after.1 met

      by_case : (HasTurn shapes (LookedAt found) q (shape_of d s) loops.0 loops.1 × LookedAt found (loops.0.begun + 1))
          ⊎ BeginsNow shapes (LookedAt found) p q (shape_of d s) [] loops.0 → ⊥
      by_case (inr now) = (back (spot.Done, is, tt)).0 now.behind
      by_case (inl (has, look)) =
          absurd (none_some has.turn (some_is None (Some has.turn)
          (sym (known.passed q after.0 is after.1) ∙ ap (slice_get shapes) (sym loops.3) ∙ has.is)))
