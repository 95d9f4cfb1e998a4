-- What is known when a shape has come to a place, and when a place was looked at.
use Rattle.std.proofs.Common.{◌≡◌, ◌⊎◌, ◌<◌, inl, inr, ℕ, ◌+◌, false, true≢false, List, [], ◌∷◌, ◌++◌}
use Rattle.std.proofs.Common.{length, Option, Some}
use Rattle.std.proofs.Common.{None, slice_get, slice_set, refl, sym, ap, ◌∙◌, subst}
use Rattle.std.proofs.lemmas.Option.{slice_get_within}
use Rattle.cat_scope.specs.Names.{AllHave, IsOneOf}
use Rattle.cat_code.specs.declared.instr.Instr.{Instr}
use Rattle.cat_code.specs.declared.instr.Instr.TheVariants as instr
use Rattle.cat_code.specs.declared.code.Tables.{Tables}
use Rattle.cat_code.specs.Shapes as meant
use Rattle.cat_code.specs.Shapes.{Meets}
use Rattle.cat_code.specs.Shaped.{Shapes, IsMet, IsShapedBy}
use Rattle.cat_code.specs.Flow.{flow}
use Rattle.cat_code.specs.Tame.{is_next}
use Rattle.cat_verify_shapes.specs.Belonging.{Belongs, MayRun, MayComeTo, called}
use Rattle.cat_verify_shapes.specs.declared.shape.Shape.{Shape}
use Rattle.cat_verify_shapes.specs.declared.found.Spot.{Spot}
use Rattle.cat_verify_shapes.specs.declared.found.Spot.TheVariants as spot
use Rattle.cat_verify_shapes.specs.inside.Senses.{Senses}
use Rattle.cat_verify_shapes.specs.inside.Told.{shape_of}
use Rattle.cat_verify_shapes.specs.inside.Lower.{Lower}
use Rattle.cat_verify_shapes.specs.inside.Alike.{AreAlike, common}
use Rattle.cat_verify_shapes.specs.inside.Looking.{Agrees, IsLooked, MetBy, Arrives}
use Rattle.cat_verify_shapes.specs.inside.Turns.{HasTurn, HaveTurns}
use Rattle.cat_verify_shapes.specs.inside.States.{LookedAt, kept_at, AreBound, AreInOrder, IsKnown}
use Rattle.cat_verify_shapes.proofs.ListLemmas.{none_some, some_is, set_here, set_there, set_same, set_long, set_is}
use Rattle.cat_verify_shapes.proofs.ListLemmas.{get_as_long}
use Rattle.cat_verify_shapes.proofs.MeetingLemmas.{meets_same}
use Rattle.cat_verify_shapes.proofs.BoundLemmas.{goes_on, both_bound}
use Rattle.cat_verify_shapes.proofs.AlikeLemmas.{alike_of, common_is, common_left_of, common_right_of, meets_of}
use Rattle.cat_verify_shapes.proofs.TurnLemmas.{BeginsNow, IsComing, comes}
use Rattle.cat_verify_shapes.proofs.ComingLemmas.{coming_common}
use Rattle.cat_verify_shapes.proofs.BelongLemmas.{FlowHas, FlowBelongs, flow_belongs}
use Rattle.cat_verify_shapes.proofs.PlaceLemmas.{IsLed, called_there, flow_led}
use Rattle.cat_verify_shapes.proofs.PassLemmas.{same_or_not, Still, set_lower, opened_keeps}
use Rattle.cat_verify_shapes.proofs.StateLemmas.{inside_self, looked_on, turn_on, turns_on, set_known}
use Rattle.cat_verify_shapes.proofs.StateLemmas.{is_left}
use Rattle.cat_verify_shapes.proofs.StateLemmas.{still_now}

-- what a shape that came to a place leaves
pub record Arrived (tables : Tables) (code : List Instr) (d : Senses) (found after : List Spot) (but : ℕ)
    (left : List ℕ) (before : Shapes) (place : ℕ) (s : meant.Shape) : Type 0 where
  pub shapes : Shapes
  pub known : IsKnown tables code d after but left shapes
  pub met : IsMet shapes place s
  pub lower : Lower before shapes
  pub still : Still found after before shapes

-- the open loops of a shape that is kept where it comes
turns_here : (found after : List Spot) (shapes more : Shapes) → Still found after shapes more → (p q : ℕ)
    (u : meant.Shape) → slice_get more q ≡ Some (Some u) → IsComing shapes (LookedAt found) p (q, u)
    → HaveTurns more (LookedAt after) q u
turns_here found after shapes more still p q u is coming inners l ls e = by_case (coming inners l ls e)
  where
    by_case : (HasTurn shapes (LookedAt found) q u l ls × LookedAt found (l.begun + 1))
        ⊎ BeginsNow shapes (LookedAt found) p q u inners l → HasTurn more (LookedAt after) q u l ls
    by_case (inl (has, look)) = turn_on found after shapes more still q u l ls has look
    by_case (inr now) = record {
      turn = u;
      is = ap (slice_get more) (sym now.place) ∙ is;
      loops = e ∙ ap (λ (ks : List meant.LoopShape). ks ++ l ∷ ls) now.top;
      frames = now.frames;
      pending = now.pending;
      inside = inside_self u;
      here = inl now.place;
    }

module _ (tables : Tables) (code : List Instr) (d : Senses) (found : List Spot) (but : ℕ) (left : List ℕ)
    (shapes : Shapes) (known : IsKnown tables code d found but left shapes) (p q : ℕ) (s : Shape)
    (coming : IsComing shapes (LookedAt found) p (q, shape_of d s))
    (met : (fit : Shapes) → IsShapedBy tables code fit → IsMet fit q (shape_of d s))
    (belongs : Belongs tables code (shape_of d s).owner q) (runs : MayRun tables code (shape_of d s).owner) where
  within : (at : Spot) → slice_get found q ≡ Some at → q < length code
  within at is = subst (λ (n : ℕ). q < n) known.long (slice_get_within found q at is)

  kept_by : (at : Spot) → slice_get found q ≡ Some at → (o : Option meant.Shape) × (slice_get shapes q ≡ Some o)
  kept_by at is = get_as_long found shapes q at (sym known.so_far.long) is

  arrives_new : (o : Option meant.Shape) → slice_get found q ≡ Some spot.Unmet → slice_get shapes q ≡ Some o → o ≡ None
      → Arrived tables code d found (slice_set found q (spot.Open s)) but left shapes q (shape_of d s)
  arrives_new o is o_is none = record {
    shapes = slice_set shapes q (Some (shape_of d s));
    known =
        set_known tables code d found but left shapes known q spot.Unmet s o is (λ h. h) o_is lower
        (turns_here found (slice_set found q (spot.Open s)) shapes (slice_set shapes q (Some (shape_of d s)))
        (still_now tables code d found but left shapes known q spot.Unmet s o is (λ h. h) o_is) p q (shape_of d s)
        (set_here shapes q (Some (shape_of d s)) o o_is) coming)
        met belongs runs
        (is_left tables code d found but left shapes known q spot.Unmet s o is (λ h. h) o_is (shape_of d s).owner
        (record { may_run = runs; belongs = belongs })
        (within spot.Unmet is));
    met = record {
      shape = shape_of d s;
      is = set_here shapes q (Some (shape_of d s)) o o_is;
      meets = meets_same (shape_of d s);
    };
    lower =
        set_lower tables code d found but shapes known.so_far q spot.Unmet (spot.Open s) o (Some (shape_of d s)) is o_is
        lower refl (λ h. absurd h) (λ t e. subst (λ (x : meant.Shape). Belongs tables code x.owner q)
        (some_is (shape_of d s) t e) belongs);
    still = still_now tables code d found but left shapes known q spot.Unmet s o is (λ h. h) o_is;
  }
    where
      lower : (t : meant.Shape) → o ≡ Some t → (u : meant.Shape) × (Some (shape_of d s) ≡ Some u) × Meets t u
      lower t e = absurd (none_some t (sym none ∙ e))

  arrives_too : (k : Shape) (o : Option meant.Shape) → slice_get found q ≡ Some (spot.Open k)
      → slice_get shapes q ≡ Some o → o ≡ Some (shape_of d k) → AreAlike k s
      → Arrived tables code d found (slice_set found q (spot.Open (common k s))) but left shapes q (shape_of d s)
  arrives_too k o is o_is some alike = record {
    shapes = slice_set shapes q (Some (shape_of d (common k s)));
    known =
        set_known tables code d found but left shapes known q (spot.Open k) (common k s) o is (λ h. h) o_is lower
        (turns_here found (slice_set found q (spot.Open (common k s))) shapes
        (slice_set shapes q (Some (shape_of d (common k s))))
        (still_now tables code d found but left shapes known q (spot.Open k) (common k s) o is (λ h. h) o_is) p q
        (shape_of d (common k s)) (set_here shapes q (Some (shape_of d (common k s))) o o_is) both_come)
        both_met
        (subst (λ (w : meant.Owner). Belongs tables code w q) owner belongs)
        (subst (MayRun tables code) owner runs)
        (known.waiting q k is);
    met = record {
      shape = shape_of d (common k s);
      is = set_here shapes q (Some (shape_of d (common k s))) o o_is;
      meets = common_right_of d k s alike;
    };
    lower =
        set_lower tables code d found but shapes known.so_far q (spot.Open k) (spot.Open (common k s)) o
        (Some (shape_of d (common k s))) is o_is lower refl (λ h. absurd h)
        (λ t e. subst (λ (x : meant.Shape). Belongs tables code x.owner q) (some_is (shape_of d (common k s)) t e)
        (subst (λ (w : meant.Owner). Belongs tables code w q) owner belongs));
    still = still_now tables code d found but left shapes known q (spot.Open k) (common k s) o is (λ h. h) o_is;
  }
    where
      owner : (shape_of d s).owner ≡ (shape_of d (common k s)).owner
      owner = (common_right_of d k s alike).owner

      here : slice_get shapes q ≡ Some (Some (shape_of d k))
      here = o_is ∙ ap Some some

      unlooked : LookedAt found q → ⊥
      unlooked (b, at, look) = absurd (subst IsLooked (some_is b (spot.Open k) (sym at ∙ is)) look)

      both_come : IsComing shapes (LookedAt found) p (q, shape_of d (common k s))
      both_come =
          subst (λ (x : meant.Shape). IsComing shapes (LookedAt found) p (q, x)) (sym (common_is d k s))
          (coming_common shapes (LookedAt found) p q (shape_of d k) (shape_of d s) unlooked
          (known.turns q (shape_of d k) here) (alike_of d k s alike) coming)

      both_met : (fit : Shapes) → IsShapedBy tables code fit → IsMet fit q (shape_of d (common k s))
      both_met fit shaped =
          subst (IsMet fit q) (sym (common_is d k s))
          (both_bound tables code fit q (shape_of d k) (shape_of d s) (known.bound fit shaped q (spot.Open k) k is refl)
          (met fit shaped)).1

      lower : (t : meant.Shape) → o ≡ Some t → (u : meant.Shape) × (Some (shape_of d (common k s)) ≡ Some u) × Meets t u
      lower t e = (
        shape_of d (common k s),
        refl,
        subst (λ (x : meant.Shape). Meets x (shape_of d (common k s))) (some_is (shape_of d k) t (sym some ∙ e))
            (common_left_of d k s alike),
      )

  pub arrives : (after : List Spot) → Arrives found after q s
      → Arrived tables code d found after but left shapes q (shape_of d s)
  arrives after a =
      subst (λ (xs : List Spot). Arrived tables code d found xs but left shapes q (shape_of d s)) (sym a.after_is)
      (by_spot a.at a.then_at a.at_is a.met of.0 of.1 (known.so_far.agrees q a.at of.0 a.at_is of.1))
    where
      of : (o : Option meant.Shape) × (slice_get shapes q ≡ Some o)
      of = kept_by a.at a.at_is

      by_spot : (at then_at : Spot) → slice_get found q ≡ Some at → MetBy at s then_at → (o : Option meant.Shape)
          → slice_get shapes q ≡ Some o → Agrees d at o
          → Arrived tables code d found (slice_set found q then_at) but left shapes q (shape_of d s)
      by_spot spot.Unmet then_at is met o o_is agrees =
          subst (λ (x : Spot). Arrived tables code d found (slice_set found q x) but left shapes q (shape_of d s))
          (sym met)
          (arrives_new o is o_is agrees)
      by_spot (spot.Open k) then_at is met o o_is agrees =
          subst (λ (x : Spot). Arrived tables code d found (slice_set found q x) but left shapes q (shape_of d s))
          (sym met.1) (arrives_too k o is o_is agrees met.0)
      by_spot (spot.Turn t) then_at is met o o_is agrees =
          subst (λ (xs : List Spot). Arrived tables code d found xs but left shapes q (shape_of d s))
          (sym (ap (slice_set found q) met.2 ∙ set_same found q (spot.Turn t) is))
          record {
            shapes = shapes;
            known = known;
            met = record {
              shape = shape_of d t;
              is = o_is ∙ ap Some agrees;
              meets = meets_of d s t met.0 met.1;
            };
            lower = λ p u e. (u, e, meets_same u);
            still = λ p b e look. (refl, refl);
          }
      by_spot spot.Done then_at is met o o_is agrees = absurd met

-- ---- a place that is taken up

module _ (tables : Tables) (code : List Instr) (d : Senses) (found : List Spot) (place : ℕ) (left : List ℕ)
    (shapes : Shapes) (known : IsKnown tables code d found (length code) (place ∷ left) shapes)
    (order : AreInOrder tables code (place ∷ left)) (s : Shape) (then_at : Spot) (i : Instr)
    (is : slice_get found place ≡ Some (spot.Open s)) (code_is : slice_get code place ≡ Some i)
    (kept : ((then_at ≡ spot.Done) × (is_next (Some i) ≡ false)) ⊎ (then_at ≡ spot.Turn s)) where
  abbrev between : List Spot
  between = slice_set found place then_at

  plain : (then_at ≡ spot.Done) ⊎ (then_at ≡ spot.Turn s)
  plain = by_case kept
    where
      by_case : ((then_at ≡ spot.Done) × (is_next (Some i) ≡ false)) ⊎ (then_at ≡ spot.Turn s)
          → (then_at ≡ spot.Done) ⊎ (then_at ≡ spot.Turn s)
      by_case (inl h) = inl h.0
      by_case (inr h) = inr h

  looked : IsLooked then_at
  looked = by_case plain
    where
      by_case : (then_at ≡ spot.Done) ⊎ (then_at ≡ spot.Turn s) → IsLooked then_at
      by_case (inl e) = subst IsLooked (sym e) tt
      by_case (inr e) = subst IsLooked (sym e) tt

  pub taken_up : LookedAt between place
  taken_up = (then_at, set_here found place then_at (spot.Open s) is, looked)

  pub still_opened : Still found between shapes shapes
  still_opened p b at look = (refl, by_place (same_or_not p place))
    where
      by_place : (p ≡ place) ⊎ (p ≡ place → ⊥) → slice_get between p ≡ slice_get found p
      by_place (inr other) = set_there found place p then_at other
      by_place (inl e) =
          absurd (subst IsLooked (some_is b (spot.Open s) (sym at ∙ ap (slice_get found) e ∙ is)) look)

  spot_is : (b : Spot) → slice_get between place ≡ Some b → then_at ≡ b
  spot_is b e = set_is found place then_at b e

  pub opened_known : IsKnown tables code d between place left shapes
  opened_known = record {
    long = set_long found place then_at ∙ known.long;
    so_far = opened_keeps tables code d found shapes known.so_far place s then_at is plain;
    turns = λ p u e. turns_on found between shapes shapes still_opened p u refl (known.turns p u e);
    bound = bound;
    run = known.run;
    passed = passed;
    waiting = waiting;
    fresh = fresh;
    done = done;
  }
    where
      keeps : (b : Spot) (t : Shape) → then_at ≡ b → kept_at b ≡ Some t → s ≡ t
      keeps b t e kept_is = by_case plain
        where
          by_case : (then_at ≡ spot.Done) ⊎ (then_at ≡ spot.Turn s) → s ≡ t
          by_case (inl gone) = absurd (none_some t (ap kept_at (sym gone ∙ e) ∙ kept_is))
          by_case (inr turn) = some_is s t (ap kept_at (sym turn ∙ e) ∙ kept_is)

      bound : AreBound tables code d between
      bound fit shaped p b t at kept_is = by_place (same_or_not p place)
        where
          by_place : (p ≡ place) ⊎ (p ≡ place → ⊥) → IsMet fit p (shape_of d t)
          by_place (inr other) = known.bound fit shaped p b t (sym (set_there found place p then_at other) ∙ at) kept_is
          by_place (inl e) =
              subst (λ (n : ℕ). IsMet fit n (shape_of d t)) (sym e)
              (subst (λ (x : Shape). IsMet fit place (shape_of d x))
              (keeps b t (spot_is b (ap (slice_get between) (sym e) ∙ at)) kept_is)
              (known.bound fit shaped place (spot.Open s) s is refl))

      passed : (p t : ℕ) → slice_get between p ≡ Some spot.Done → slice_get code p ≡ Some (instr.Next t)
          → slice_get shapes p ≡ Some None
      passed p t at next = by_place (same_or_not p place)
        where
          no_next : then_at ≡ spot.Done → i ≡ instr.Next t → ⊥
          no_next gone same = by_case kept
            where
              by_case : ((then_at ≡ spot.Done) × (is_next (Some i) ≡ false)) ⊎ (then_at ≡ spot.Turn s) → ⊥
              by_case (inl h) = absurd (true≢false (sym (ap (λ (x : Instr). is_next (Some x)) same) ∙ h.1))
              by_case (inr turn) = absurd (none_some s (ap kept_at (sym gone ∙ turn)))

          by_place : (p ≡ place) ⊎ (p ≡ place → ⊥) → slice_get shapes p ≡ Some None
          by_place (inr other) = known.passed p t (sym (set_there found place p then_at other) ∙ at) next
          by_place (inl e) =
              absurd (no_next (spot_is spot.Done (ap (slice_get between) (sym e) ∙ at))
              (some_is i (instr.Next t) (sym code_is ∙ ap (slice_get code) (sym e) ∙ next)))

      waiting : (p : ℕ) (t : Shape) → slice_get between p ≡ Some (spot.Open t) → IsOneOf p left
      waiting p t at = by_place (same_or_not p place)
        where
          behind : (p ≡ place → ⊥) → IsOneOf p (place ∷ left) → IsOneOf p left
          behind other (inl e) = absurd (other e)
          behind other (inr h) = h

          by_place : (p ≡ place) ⊎ (p ≡ place → ⊥) → IsOneOf p left
          by_place (inr other) = behind other (known.waiting p t (sym (set_there found place p then_at other) ∙ at))
          by_place (inl e) =
              absurd (subst IsLooked (spot_is (spot.Open t) (ap (slice_get between) (sym e) ∙ at)) looked)

      fresh : (p : ℕ) → IsOneOf p left → LookedAt between p → ⊥
      fresh p among (b, at, look) = by_place (same_or_not p place)
        where
          by_place : (p ≡ place) ⊎ (p ≡ place → ⊥) → ⊥
          by_place (inr other) =
              known.fresh p (inr among) (b, sym (set_there found place p then_at other) ∙ at, look)
          by_place (inl e) = order.0 (subst (λ (n : ℕ). IsOneOf n left) e among)

      done : (owner : meant.Owner) (q : ℕ) → MayComeTo tables code owner q → q < length code
          → (IsOneOf q left → ⊥) → LookedAt between q
      done owner q of less out = by_place (same_or_not q place)
        where
          neither : (q ≡ place → ⊥) → IsOneOf q (place ∷ left) → ⊥
          neither other (inl e) = other e
          neither other (inr h) = out h

          by_place : (q ≡ place) ⊎ (q ≡ place → ⊥) → LookedAt between q
          by_place (inl e) = subst (LookedAt between) (sym e) taken_up
          by_place (inr other) =
              looked_on found between shapes shapes still_opened q (known.done owner q of less (neither other))

  -- ---- where it leads

  pub open_shape : slice_get shapes place ≡ Some (Some (shape_of d s))
  open_shape =
      let of = get_as_long found shapes place (spot.Open s) (sym known.so_far.long) is in
      of.1 ∙ ap Some (known.so_far.agrees place (spot.Open s) of.0 is of.1)

  abbrev Leading : List (ℕ × meant.Shape) → Type 0
  Leading to = AllHave (IsComing shapes (LookedAt between) place) to
      × AllHave (λ next. (fit : Shapes) → IsShapedBy tables code fit → IsMet fit next.0 next.1) to
      × AllHave (λ next. Belongs tables code next.1.owner next.0) to
      × AllHave (λ next. MayRun tables code next.1.owner) to

  run_by : (to : List (ℕ × meant.Shape)) → AllHave (λ next. IsLed tables i place (shape_of d s) next.1.owner next.0) to
      → AllHave (λ next. MayRun tables code next.1.owner) to
  run_by [] led = tt
  run_by (next ∷ to) led = (by_case led.0, run_by to led.1)
    where
      by_case : IsLed tables i place (shape_of d s) next.1.owner next.0 → MayRun tables code next.1.owner
      by_case (inl own) = subst (MayRun tables code) (sym own.0) (known.run place (shape_of d s) open_shape)
      by_case (inr other) =
          called i (known.run place (shape_of d s) open_shape) (known.so_far.owned place (shape_of d s) open_shape)
          code_is (called_there tables i (shape_of d s).owner next.1.owner next.0 other.0 other.1)

  bound_by : (to more : List (ℕ × meant.Shape)) → Some to ≡ Some more → (fit : Shapes)
      → AllHave (λ next. IsMet fit next.0 next.1) more → AllHave (λ next. IsMet fit next.0 next.1) to
  bound_by to more e fit h =
      subst (λ (xs : List (ℕ × meant.Shape)). AllHave (λ next. IsMet fit next.0 next.1) xs) (sym (some_is to more e)) h

  each_bound : (to : List (ℕ × meant.Shape))
      → ((fit : Shapes) → IsShapedBy tables code fit → AllHave (λ next. IsMet fit next.0 next.1) to)
      → AllHave (λ next. (fit : Shapes) → IsShapedBy tables code fit → IsMet fit next.0 next.1) to
  each_bound [] h = tt
  each_bound (next ∷ to) h = (λ fit shaped. (h fit shaped).0, each_bound to (λ fit shaped. (h fit shaped).1))

  pub leading : (to : List (ℕ × meant.Shape)) → flow tables code i place (shape_of d s) ≡ Some to → Leading to
  leading to flows = (
    comes shapes (LookedAt between) tables code place i (shape_of d s) taken_up
        (turns_on found between shapes shapes still_opened place (shape_of d s) refl
        (known.turns place (shape_of d s) open_shape)) to flows,
    each_bound to (λ fit shaped.
        let go = goes_on tables code fit shaped place i (shape_of d s) code_is
        (known.bound fit shaped place (spot.Open s) s is refl) in
        bound_by to go.0 (sym flows ∙ go.1) fit go.2),
    subst (FlowBelongs tables code) flows
        (flow_belongs tables code i place (shape_of d s) (known.so_far.owned place (shape_of d s) open_shape) code_is),
    run_by to (subst (FlowHas (IsLed tables i place (shape_of d s))) flows
        (flow_led tables i place (shape_of d s) code)),
  )
