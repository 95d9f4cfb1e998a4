-- What is known when a place was looked at, and that no shapes fit where one can't be.
use Rattle.std.proofs.Common.{◌≡◌, ◌⊎◌, ◌<◌, ◌≤◌, inl, inr, ℕ, ◌+◌, nat_lt, Bool, true, false, true≢false, List, []}
use Rattle.std.proofs.Common.{◌∷◌, length, Option, Some}
use Rattle.std.proofs.Common.{None, slice_get, refl, sym, ap, ◌∙◌, subst, arith}
use Rattle.std.proofs.lemmas.Bool.Decides.{nat_tests}
use Rattle.cat_scope.specs.Names.{AllHave, IsOneOf}
use Rattle.cat_code.specs.declared.instr.Instr.{Instr}
use Rattle.cat_code.specs.declared.instr.Instr.TheVariants as instr
use Rattle.cat_code.specs.declared.code.Tables.{Tables}
use Rattle.cat_code.specs.Shapes as meant
use Rattle.cat_code.specs.Shaped.{Shapes, IsMet, IsFine, IsShapedBy}
use Rattle.cat_code.specs.Flow.{flow}
use Rattle.cat_code.specs.Tame.{is_next, AreForward}
use Rattle.cat_verify_shapes.specs.Belonging.{Belongs, MayRun, MayComeTo}
use Rattle.cat_verify_shapes.specs.declared.shape.Shape.{Shape}
use Rattle.cat_verify_shapes.specs.declared.leads.Leads.{Leads}
use Rattle.cat_verify_shapes.specs.declared.leads.Leads.TheVariants as leads
use Rattle.cat_verify_shapes.specs.declared.found.Spot.{Spot}
use Rattle.cat_verify_shapes.specs.inside.Senses.{Senses}
use Rattle.cat_verify_shapes.specs.inside.Told.{shape_of, leads_of}
use Rattle.cat_verify_shapes.specs.inside.Lower.{Lower}
use Rattle.cat_verify_shapes.specs.inside.Looking.{IsLooked, ArriveAll}
use Rattle.cat_verify_shapes.specs.inside.States.{LookedAt, AreInOrder, IsKnown}
use Rattle.cat_verify_shapes.proofs.ListLemmas.{some_is}
use Rattle.cat_verify_shapes.proofs.MeetingLemmas.{meets_same}
use Rattle.cat_verify_shapes.proofs.FineLemmas.{met_lower}
use Rattle.cat_verify_shapes.proofs.TurnLemmas.{IsComing}
use Rattle.cat_verify_shapes.proofs.PlaceLemmas.{IsAhead, IsLed, led_ahead}
use Rattle.cat_verify_shapes.proofs.PassLemmas.{same_or_not, Still, lower_then, still_then}
use Rattle.cat_verify_shapes.proofs.StateLemmas.{coming_on}
use Rattle.cat_verify_shapes.proofs.ArrivalLemmas.{arrives}

-- shapes that came to places
pub record AllArrived (tables : Tables) (code : List Instr) (d : Senses) (found after : List Spot) (but : ℕ)
    (left : List ℕ) (before : Shapes) (to : List (ℕ × meant.Shape)) : Type 0 where
  pub shapes : Shapes
  pub known : IsKnown tables code d after but left shapes
  pub met : AllHave (λ next. IsMet shapes next.0 next.1) to
  pub lower : Lower before shapes
  pub still : Still found after before shapes

module _ (tables : Tables) (code : List Instr) (d : Senses) (found : List Spot) (but : ℕ) (left : List ℕ)
    (shapes : Shapes) (known : IsKnown tables code d found but left shapes) (p : ℕ) where
  pub all_arrive : (to : Leads) (after : List Spot) → ArriveAll found to after
      → AllHave (IsComing shapes (LookedAt found) p) (leads_of d to)
      → AllHave (λ next. (fit : Shapes) → IsShapedBy tables code fit → IsMet fit next.0 next.1) (leads_of d to)
      → AllHave (λ next. Belongs tables code next.1.owner next.0) (leads_of d to)
      → AllHave (λ next. MayRun tables code next.1.owner) (leads_of d to)
      → AllArrived tables code d found after but left shapes (leads_of d to)
  all_arrive leads.Nowhere after arrive coming met belong runs =
      subst (λ (xs : List Spot). AllArrived tables code d found xs but left shapes []) (sym arrive)
      record {
        shapes = shapes;
        known = known;
        met = tt;
        lower = λ q t e. (t, e, meets_same t);
        still = λ q b e look. (refl, refl);
      }
  all_arrive (leads.One q s) after arrive coming met belong runs =
      let one = arrives tables code d found but left shapes known p q s coming.0 met.0 belong.0 runs.0 after arrive in
      record { shapes = one.shapes; known = one.known; met = (one.met, tt); lower = one.lower; still = one.still }
  all_arrive (leads.Two q s r t) after arrive coming met belong runs =
      let one = arrives tables code d found but left shapes known p q s coming.0 met.0 belong.0 runs.0 arrive.0
      arrive.1 in
      let two = arrives tables code d arrive.0 but left one.shapes one.known p r t
      (coming_on found arrive.0 shapes one.shapes one.still p r (shape_of d t) coming.1.0) met.1.0 belong.1.0 runs.1.0
      after arrive.2 in
      record {
        shapes = two.shapes;
        known = two.known;
        met = (met_lower one.shapes two.shapes two.lower q (shape_of d s) one.met, (two.met, tt));
        lower = lower_then shapes one.shapes two.shapes one.lower two.lower;
        still = still_then found arrive.0 after shapes one.shapes two.shapes one.still two.still;
      }

-- a place is fine that was looked at
pub finished : (tables : Tables) (code : List Instr) (d : Senses) (found after : List Spot) (place : ℕ) (left : List ℕ)
    (before : Shapes) (i : Instr) (s : meant.Shape) (to : List (ℕ × meant.Shape)) → slice_get code place ≡ Some i
    → slice_get before place ≡ Some (Some s) → LookedAt found place → flow tables code i place s ≡ Some to
    → (all : AllArrived tables code d found after place left before to)
    → IsKnown tables code d after (length code) left all.shapes
finished tables code d found after place left before i s to code_is here look flows all = record {
  long = all.known.long;
  so_far = record {
    long = all.known.so_far.long;
    agrees = all.known.so_far.agrees;
    fine = fine;
    owned = all.known.so_far.owned;
  };
  turns = all.known.turns;
  bound = all.known.bound;
  run = all.known.run;
  passed = all.known.passed;
  waiting = all.known.waiting;
  fresh = all.known.fresh;
  done = all.known.done;
}
  where
    at_place : (t : meant.Shape) → slice_get all.shapes place ≡ Some (Some t) → IsFine tables code all.shapes i place t
    at_place t of =
        subst (λ (x : meant.Shape). IsFine tables code all.shapes i place x)
        (some_is s t (some_is (Some s) (Some t)
        (sym here ∙ sym (all.still place look.0 look.1 look.2).0 ∙ of)))
        record { to = to; flows = flows; met = all.met }

    fine : (p : ℕ) (b : Spot) (j : Instr) (t : meant.Shape) → (p ≡ length code → ⊥) → slice_get after p ≡ Some b
        → IsLooked b → slice_get code p ≡ Some j → slice_get all.shapes p ≡ Some (Some t)
        → IsFine tables code all.shapes j p t
    fine p b j t apart at looked j_is of = by_place (same_or_not p place)
      where
        by_place : (p ≡ place) ⊎ (p ≡ place → ⊥) → IsFine tables code all.shapes j p t
        by_place (inr other) = all.known.so_far.fine p b j t other at looked j_is of
        by_place (inl e) =
            subst (λ (q : ℕ). IsFine tables code all.shapes j q t) (sym e)
            (subst (λ (k : Instr). IsFine tables code all.shapes k place t)
            (some_is i j (sym code_is ∙ ap (slice_get code) (sym e) ∙ j_is))
            (at_place t (ap (slice_get all.shapes) (sym e) ∙ of)))

-- ---- places to which one leads that were looked at

less_or_not : (p q : ℕ) → (p < q) ⊎ (q ≤ p)
less_or_not p q = by_test (nat_lt p q) refl
  where
    by_test : (b : Bool) → nat_lt p q ≡ b → (p < q) ⊎ (q ≤ p)
    by_test true e = inl (grind (arith, nat_tests))
    by_test false e = inr (grind (arith, nat_tests))

-- a `next` that doesn't stand just behind
abbrev pub IsBack : List Instr → ℕ → ℕ → Type 0
IsBack code p q = (q ≡ p + 1 → ⊥) × ((n : ℕ) × (slice_get code q ≡ Some (instr.Next n)))

-- what leads to a place that was looked at is a jump that goes back to a `next`
pub comes_back : (tables : Tables) (code : List Instr) (found : List Spot) (place : ℕ) (left : List ℕ) (i : Instr)
    (s t : meant.Shape) (q : ℕ) → AreForward code 0 code → AreInOrder tables code (place ∷ left)
    → ((p : ℕ) → IsOneOf p left → LookedAt found p → ⊥) → slice_get code place ≡ Some i
    → MayComeTo tables code s.owner place → Belongs tables code t.owner q → IsLed tables i place s t.owner q
    → q < length code → LookedAt found q → IsBack code place q
comes_back tables code found place left i s t q forward order fresh code_is of to led less look = by_led led
  where
    next_at : (o : Option Instr) → is_next o ≡ true → (n : ℕ) × (o ≡ Some (instr.Next n))
    next_at None e = absurd (true≢false (sym e))
    next_at (Some (instr.Next n)) e = (n, refl)
    next_at (Some _) e = absurd (true≢false (sym e))

    not_next : q ≤ place → q ≡ place + 1 → ⊥
    not_next below e = absurd (omega (arith, below, e))

    ahead : place < q → ⊥
    ahead above = fresh q (order.1 s.owner q of (own led) above less) look
      where
        own : IsLed tables i place s t.owner q → MayComeTo tables code s.owner q
        own (inl h) =
            record { may_run = of.may_run; belongs = subst (λ (o : meant.Owner). Belongs tables code o q) h.0 to }
        own (inr h) = absurd (fresh q (order.2 s.owner t.owner q of.may_run record {
          belongs = of.belongs;
          instruction = i;
          instruction_is = code_is;
          calls = h.0;
        } h.1 less) look)

    by_ahead : IsAhead code i place q → IsBack code place q
    by_ahead (inl above) = absurd (ahead above)
    by_ahead (inr back) = by_less (less_or_not place q)
      where
        by_less : (place < q) ⊎ (q ≤ place) → IsBack code place q
        by_less (inl above) = absurd (ahead above)
        by_less (inr below) = (not_next below, next_at (slice_get code q) back.1)

    by_led : IsLed tables i place s t.owner q → IsBack code place q
    by_led (inl h) = by_ahead (led_ahead code i place q forward code_is h.1)
    by_led (inr h) = absurd (fresh q (order.2 s.owner t.owner q of.may_run record {
      belongs = of.belongs;
      instruction = i;
      instruction_is = code_is;
      calls = h.0;
    } h.1 less) look)
