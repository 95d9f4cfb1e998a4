-- What is known behind a place that is looked at, and why no shapes exist where it can't be.
use Rattle.std.proofs.Common.{◌≡◌, ◌⊎◌, ◌<◌, inl, inr, ℕ, zero, suc, ◌+◌, List, [], ◌∷◌, ◌++◌}
use Rattle.std.proofs.Common.{length, drop, Some, None}
use Rattle.std.proofs.Common.{slice_get, slice_set, refl, sym, ap, ◌∙◌, subst, add-one}
use Rattle.std.proofs.lemmas.Option.{slice_get_within}
use Rattle.cat_scope.specs.Names.{IsOneOf}
use Rattle.cat_code.specs.declared.instr.Instr.{Instr}
use Rattle.cat_code.specs.declared.instr.Instr.TheVariants as instr
use Rattle.cat_code.specs.declared.code.Tables.{Tables}
use Rattle.cat_code.specs.Shapes as meant
use Rattle.cat_code.specs.Shaped.{Shapes, IsMet, IsShapedBy}
use Rattle.cat_code.specs.Flow.{flow}
use Rattle.cat_code.specs.Tame.{AreForward}
use Rattle.cat_verify_shapes.specs.Belonging.{Belongs, MayComeTo}
use Rattle.cat_verify_shapes.specs.Owned.{owner_of}
use Rattle.cat_verify_shapes.specs.Unshaped.{IsUnshaped}
use Rattle.cat_verify_shapes.specs.declared.owner.OwnerPlaces.{OwnerPlaces}
use Rattle.cat_verify_shapes.specs.declared.forms.Forms.{Forms}
use Rattle.cat_verify_shapes.specs.declared.shape.Shape.{Shape}
use Rattle.cat_verify_shapes.specs.declared.leads.Leads.{Leads}
use Rattle.cat_verify_shapes.specs.declared.leads.Leads.TheVariants as leads
use Rattle.cat_verify_shapes.specs.declared.found.Spot.{Spot}
use Rattle.cat_verify_shapes.specs.declared.found.Spot.TheVariants as spot
use Rattle.cat_verify_shapes.specs.inside.Senses.{Senses, AreSenses, Grows, IsTable}
use Rattle.cat_verify_shapes.specs.inside.Told.{shape_of, leads_of}
use Rattle.cat_verify_shapes.specs.inside.Lower.{Lower}
use Rattle.cat_verify_shapes.specs.inside.Looking.{IsLooked, ArriveAll, IsShut, IsOneShut, IsOpened}
use Rattle.cat_verify_shapes.specs.inside.Looking.{passed}
use Rattle.cat_verify_shapes.specs.inside.States.{LookedAt, kept_at, AreBound, AreInOrder, IsKnown, AreMet, IsState}
use Rattle.cat_verify_shapes.specs.inside.States.{all_places}
use Rattle.cat_verify_shapes.proofs.ListLemmas.{none_some, some_is, set_there, set_here, set_long, set_is, get_as_long}
use Rattle.cat_verify_shapes.proofs.FineLemmas.{met_lower}
use Rattle.cat_verify_shapes.proofs.BoundLemmas.{stuck_refutes}
use Rattle.cat_verify_shapes.proofs.TurnLemmas.{IsComing}
use Rattle.cat_verify_shapes.proofs.TableLemmas.{senses_of, senses_exist}
use Rattle.cat_verify_shapes.proofs.GrowLemmas.{table_on}
use Rattle.cat_verify_shapes.proofs.BelongLemmas.{FlowHas}
use Rattle.cat_verify_shapes.proofs.PlaceLemmas.{IsLed, flow_led}
use Rattle.cat_verify_shapes.proofs.PassLemmas.{same_or_not, Still, senses_before, passed_keeps}
use Rattle.cat_verify_shapes.proofs.StateLemmas.{looked_on, turns_on, coming_on, unlike_refutes}
use Rattle.cat_verify_shapes.proofs.ArrivalLemmas.{arrives, taken_up, opened_known, open_shape, leading}
use Rattle.cat_verify_shapes.proofs.LookingLemmas.{all_arrive, finished, comes_back}
use Rattle.cat_verify_shapes.proofs.StateSteps.{spot_at, refuted}

-- ---- the order of places

pub order_behind : (tables : Tables) (code : List Instr) (ps left : List ℕ) → AreInOrder tables code (ps ++ left)
    → AreInOrder tables code left
order_behind tables code [] left order = order
order_behind tables code (p ∷ ps) left order = order_behind tables code ps left order.3

pub place_next : (ps left : List ℕ) (k p : ℕ) → slice_get ps k ≡ Some p
    → drop k ps ++ left ≡ p ∷ (drop (k + 1) ps ++ left)
place_next ps left k p is =
    at ps k is ∙ ap (λ (n : ℕ). p ∷ (drop n ps ++ left)) (sym (add-one k))
  where
    at : (ps : List ℕ) (k : ℕ) → slice_get ps k ≡ Some p → drop k ps ++ left ≡ p ∷ (drop (suc k) ps ++ left)
    at [] k is = absurd (none_some p is)
    at (q ∷ ps) zero is = ap (λ (n : ℕ). n ∷ (ps ++ left)) (some_is q p is)
    at (q ∷ ps) (suc k) is = at ps k is

pub place_order : (tables : Tables) (code : List Instr) (ps left : List ℕ) (k : ℕ) → AreInOrder tables code (ps ++ left)
    → AreInOrder tables code (drop k ps ++ left)
place_order tables code ps left zero order = order
place_order tables code [] left (suc k) order = order
place_order tables code (p ∷ ps) left (suc k) order = place_order tables code ps left k order.3

-- what a loop over owners has in front of it
pub owner_next : (owners : List OwnerPlaces) (k : ℕ) (one : OwnerPlaces) → slice_get owners k ≡ Some one
    → all_places (drop k owners) ≡ one.places ++ all_places (drop (k + 1) owners)
owner_next owners k one is =
    at owners k is ∙ ap (λ (n : ℕ). one.places ++ all_places (drop n owners)) (sym (add-one k))
  where
    at : (owners : List OwnerPlaces) (k : ℕ) → slice_get owners k ≡ Some one
        → all_places (drop k owners) ≡ one.places ++ all_places (drop (suc k) owners)
    at [] k is = absurd (none_some one is)
    at (o ∷ owners) zero is = ap (λ (x : OwnerPlaces). x.places ++ all_places owners) (some_is o one is)
    at (o ∷ owners) (suc k) is = at owners k is

pub owner_order : (tables : Tables) (code : List Instr) (owners : List OwnerPlaces) (k : ℕ)
    → AreInOrder tables code (all_places owners) → AreInOrder tables code (all_places (drop k owners))
owner_order tables code owners zero order = order
owner_order tables code [] (suc k) order = order
owner_order tables code (one ∷ owners) (suc k) order =
    owner_order tables code owners k (order_behind tables code one.places (all_places owners) order)

module _ (tables : Tables) (code : List Instr) where
  pub state_on : (before forms : Forms) (found : List Spot) (n : ℕ) (left : List ℕ) → Grows before forms
      → IsState tables code before found n left → IsState tables code forms found n left
  state_on before forms found n left grows state = record {
    table = table_on tables.decls before forms grows state.table;
    known = λ d h. state.known d (senses_before tables.decls before forms d grows h);
  }

  met_on : (n : ℕ) (before more : Shapes) → AreMet tables n before → Lower before more → AreMet tables n more
  met_on n before more met lower k one e below is at =
      met_lower before more lower e _ (met k one e below is at)

  -- ---- places that are passed

  unmet_passed : (d : Senses) (found : List Spot) (place : ℕ) (left : List ℕ) (shapes : Shapes)
      → IsKnown tables code d found (length code) (place ∷ left) shapes → AreInOrder tables code (place ∷ left)
      → slice_get found place ≡ Some spot.Unmet
      → IsKnown tables code d (slice_set found place spot.Done) (length code) left shapes
  unmet_passed d found place left shapes known order is = record {
    long = set_long found place spot.Done ∙ known.long;
    so_far = passed_keeps tables code d found (length code) shapes known.so_far place is none;
    turns = λ p s e. turns_on found (slice_set found place spot.Done) shapes shapes still p s refl (known.turns p s e);
    bound = bound;
    run = known.run;
    passed = now_passed;
    waiting = waiting;
    fresh = fresh;
    done = done;
  }
    where
      none : slice_get shapes place ≡ Some None
      none =
          let of = get_as_long found shapes place spot.Unmet (sym known.so_far.long) is in
          of.1 ∙ ap Some (known.so_far.agrees place spot.Unmet of.0 is of.1)

      still : Still found (slice_set found place spot.Done) shapes shapes
      still p b at look = (refl, by_place (same_or_not p place))
        where
          by_place : (p ≡ place) ⊎ (p ≡ place → ⊥) → slice_get (slice_set found place spot.Done) p ≡ slice_get found p
          by_place (inr other) = set_there found place p spot.Done other
          by_place (inl e) = absurd (subst IsLooked (some_is b spot.Unmet (sym at ∙ ap (slice_get found) e ∙ is)) look)

      bound : AreBound tables code d (slice_set found place spot.Done)
      bound fit shaped p b t at kept = by_place (same_or_not p place)
        where
          by_place : (p ≡ place) ⊎ (p ≡ place → ⊥) → IsMet fit p (shape_of d t)
          by_place (inr other) = known.bound fit shaped p b t (sym (set_there found place p spot.Done other) ∙ at) kept
          by_place (inl e) =
              absurd (none_some t (ap kept_at (set_is found place spot.Done b
              (ap (slice_get (slice_set found place spot.Done)) (sym e) ∙ at)) ∙ kept))

      now_passed : (p t : ℕ) → slice_get (slice_set found place spot.Done) p ≡ Some spot.Done
          → slice_get code p ≡ Some (instr.Next t) → slice_get shapes p ≡ Some None
      now_passed p t at next = by_place (same_or_not p place)
        where
          by_place : (p ≡ place) ⊎ (p ≡ place → ⊥) → slice_get shapes p ≡ Some None
          by_place (inr other) = known.passed p t (sym (set_there found place p spot.Done other) ∙ at) next
          by_place (inl e) = ap (slice_get shapes) e ∙ none

      waiting : (p : ℕ) (t : Shape) → slice_get (slice_set found place spot.Done) p ≡ Some (spot.Open t)
          → IsOneOf p left
      waiting p t at = by_place (same_or_not p place)
        where
          behind : (p ≡ place → ⊥) → IsOneOf p (place ∷ left) → IsOneOf p left
          behind other (inl e) = absurd (other e)
          behind other (inr h) = h

          by_place : (p ≡ place) ⊎ (p ≡ place → ⊥) → IsOneOf p left
          by_place (inr other) =
              behind other (known.waiting p t (sym (set_there found place p spot.Done other) ∙ at))
          by_place (inl e) =
              absurd (none_some t (ap kept_at (set_is found place spot.Done (spot.Open t)
              (ap (slice_get (slice_set found place spot.Done)) (sym e) ∙ at))))

      fresh : (p : ℕ) → IsOneOf p left → LookedAt (slice_set found place spot.Done) p → ⊥
      fresh p among (b, at, look) = by_place (same_or_not p place)
        where
          by_place : (p ≡ place) ⊎ (p ≡ place → ⊥) → ⊥
          by_place (inr other) =
              known.fresh p (inr among) (b, sym (set_there found place p spot.Done other) ∙ at, look)
          by_place (inl e) = order.0 (subst (λ (k : ℕ). IsOneOf k left) e among)

      done : (owner : meant.Owner) (q : ℕ) → MayComeTo tables code owner q → q < length code
          → (IsOneOf q left → ⊥) → LookedAt (slice_set found place spot.Done) q
      done owner q of less out = by_place (same_or_not q place)
        where
          neither : (q ≡ place → ⊥) → IsOneOf q (place ∷ left) → ⊥
          neither other (inl e) = other e
          neither other (inr h) = out h

          by_place : (q ≡ place) ⊎ (q ≡ place → ⊥) → LookedAt (slice_set found place spot.Done) q
          by_place (inl e) =
              subst (LookedAt (slice_set found place spot.Done)) (sym e)
              (spot.Done, set_here found place spot.Done spot.Unmet is, tt)
          by_place (inr other) =
              looked_on found (slice_set found place spot.Done) shapes shapes still q
              (known.done owner q of less (neither other))

  pub passed_state : (forms : Forms) (found after : List Spot) (n place : ℕ) (left : List ℕ) (i : Instr)
      → AreInOrder tables code (place ∷ left) → IsState tables code forms found n (place ∷ left)
      → IsOpened found after place i None → IsState tables code forms after n left
  passed_state forms found after n place left i order state opened = record {
    table = state.table;
    known = λ d h. let was = state.known d h in (was.0, pass d was.0 was.1, was.2);
  }
    where
      pass : (d : Senses) (shapes : Shapes) → IsKnown tables code d found (length code) (place ∷ left) shapes
          → IsKnown tables code d after (length code) left shapes
      pass d shapes known =
          subst (λ (xs : List Spot). IsKnown tables code d xs (length code) left shapes) (sym opened.3)
          (by_spot opened.0 opened.1 opened.2)
        where
          by_spot : (at : Spot) → slice_get found place ≡ Some at → ((s : Shape) → at ≡ spot.Open s → ⊥)
              → IsKnown tables code d (slice_set found place (passed at)) (length code) left shapes
          by_spot spot.Unmet is shut = unmet_passed d found place left shapes known order is
          by_spot (spot.Open s) is shut = absurd (shut s refl)
          by_spot (spot.Turn s) is shut = absurd (known.fresh place (inl refl) (spot.Turn s, is, tt))
          by_spot spot.Done is shut = absurd (known.fresh place (inl refl) (spot.Done, is, tt))

  -- ---- a place at which a shape is open

  module _ (forward : AreForward code 0 code) (forms : Forms) (found between : List Spot) (n place : ℕ) (left : List ℕ)
      (i : Instr) (s : Shape) (order : AreInOrder tables code (place ∷ left))
      (state : IsState tables code forms found n (place ∷ left)) (opened : IsOpened found between place i (Some s))
      (code_is : slice_get code place ≡ Some i) where
    -- what is known when it is taken up
    opened_at : (d : Senses) (shapes : Shapes) → IsKnown tables code d found (length code) (place ∷ left) shapes
        → IsKnown tables code d (slice_set found place opened.0) place left shapes
    opened_at d shapes known =
        opened_known tables code d found place left shapes known order s opened.0 i opened.1 code_is opened.2

    pub looked_state : (to : Leads) (after : List Spot)
        → ((d : Senses) → AreSenses tables.decls forms d
        → flow tables code i place (shape_of d s) ≡ Some (leads_of d to))
        → ArriveAll between to after → IsState tables code forms after n left
    looked_state to after flows arrive = record {
      table = state.table;
      known = known;
    }
      where
        come : ArriveAll (slice_set found place opened.0) to after
        come = subst (λ (xs : List Spot). ArriveAll xs to after) opened.3 arrive

        known : (d : Senses) → AreSenses tables.decls forms d
            → (shapes : Shapes) × IsKnown tables code d after (length code) left shapes × AreMet tables n shapes
        known d h =
            let was = state.known d h in
            let lead = leading tables code d found place left was.0 was.1 order s opened.0 i opened.1 code_is opened.2
            (leads_of d to) (flows d h) in
            let all = all_arrive tables code d (slice_set found place opened.0) place left was.0
            (opened_at d was.0 was.1) place to after come lead.0 lead.1 lead.2 lead.3 in (
              all.shapes,
              finished tables code d (slice_set found place opened.0) after place left was.0 i (shape_of d s)
                  (leads_of d to)
                  code_is
                  (open_shape tables code d found place left was.0 was.1 order s opened.0 i opened.1 code_is opened.2)
                  (taken_up tables code d found place left was.0 was.1 order s opened.0 i opened.1 code_is opened.2)
                  (flows d h) all,
              met_on n was.0 all.shapes was.2 all.lower,
            )

    -- a run may come to the place, and no shapes exist
    unshaped_at : ((d : Senses) → AreSenses tables.decls forms d → (fit : Shapes) → IsShapedBy tables code fit → ⊥)
        → IsUnshaped tables code place
    unshaped_at none = by_table state.table
      where
        by_table : IsTable tables.decls forms → IsUnshaped tables code place
        by_table (ks, table) =
            let was = state.known (senses_of ks) (senses_exist tables.decls forms ks table) in
            let here = open_shape tables code (senses_of ks) found place left was.0 was.1 order s opened.0 i opened.1
            code_is opened.2 in
            record {
              unshaped = refuted tables code forms found n (place ∷ left) state none;
              owner = owner_of s.owner;
              comes = record {
                may_run = was.1.run place (shape_of (senses_of ks) s) here;
                belongs = was.1.so_far.owned place (shape_of (senses_of ks) s) here;
              };
            }

    pub stuck_state : ((d : Senses) → AreSenses tables.decls forms d → flow tables code i place (shape_of d s) ≡ None)
        → IsUnshaped tables code place
    stuck_state flows =
        unshaped_at (λ d h fit shaped. stuck_refutes tables code fit shaped place i (shape_of d s) code_is
        ((state.known d h).1.bound fit shaped place (spot.Open s) s opened.1 refl) (flows d h))

    -- a shape that can't come to a place, by what is known there
    shut_one : (d : Senses) → AreSenses tables.decls forms d → (now : List Spot) (shapes : Shapes)
        → IsKnown tables code d now place left shapes → (q : ℕ) (t : Shape)
        → IsComing shapes (LookedAt now) place (q, shape_of d t) → Belongs tables code (shape_of d t).owner q
        → IsLed tables i place (shape_of d s) (shape_of d t).owner q
        → MayComeTo tables code (shape_of d s).owner place
        → (fit : Shapes) → IsShapedBy tables code fit → IsMet fit q (shape_of d t) → IsShut now q t → ⊥
    shut_one d h now shapes known q t coming to led of fit shaped met shut =
        let at = spot_at tables code d now place left shapes known fit shaped q (shape_of d t) met in
        unlike_refutes tables code d h.apart now place left shapes known fit shaped place q at.0 t at.1 coming
        (comes_back tables code now place left i (shape_of d s) (shape_of d t) q forward order known.fresh code_is of
        to led
        (subst (λ (k : ℕ). q < k) known.long (slice_get_within now q at.0 at.1)))
        met (shut at.0 at.1)

    -- a run may come to the place
    come_to : (d : Senses) (shapes : Shapes) → IsKnown tables code d found (length code) (place ∷ left) shapes
        → MayComeTo tables code (shape_of d s).owner place
    come_to d shapes known =
        let here = open_shape tables code d found place left shapes known order s opened.0 i opened.1 code_is
        opened.2 in
        record {
          may_run = known.run place (shape_of d s) here;
          belongs = known.so_far.owned place (shape_of d s) here;
        }

    pub shut_state : (to : Leads)
        → ((d : Senses) → AreSenses tables.decls forms d
        → flow tables code i place (shape_of d s) ≡ Some (leads_of d to))
        → IsOneShut between to → IsUnshaped tables code place
    shut_state to flows shut = unshaped_at (none to flows (subst (λ (xs : List Spot). IsOneShut xs to) opened.3 shut))
      where
        none : (to : Leads)
            → ((d : Senses) → AreSenses tables.decls forms d
            → flow tables code i place (shape_of d s) ≡ Some (leads_of d to))
            → IsOneShut (slice_set found place opened.0) to
            → (d : Senses) → AreSenses tables.decls forms d → (fit : Shapes) → IsShapedBy tables code fit → ⊥
        none leads.Nowhere flows shut d h fit shaped = shut
        none (leads.One q t) flows shut d h fit shaped =
            let was = state.known d h in
            let lead = leading tables code d found place left was.0 was.1 order s opened.0 i opened.1 code_is opened.2
            (leads_of d (leads.One q t)) (flows d h) in
            let led = subst (FlowHas (IsLed tables i place (shape_of d s))) (flows d h)
            (flow_led tables i place (shape_of d s) code) in
            let of = come_to d was.0 was.1 in
            shut_one d h (slice_set found place opened.0) was.0 (opened_at d was.0 was.1) q t lead.0.0 lead.2.0 led.0 of
            fit shaped (lead.1.0 fit shaped) shut
        none (leads.Two q t r u) flows (inl shut) d h fit shaped =
            let was = state.known d h in
            let lead = leading tables code d found place left was.0 was.1 order s opened.0 i opened.1 code_is opened.2
            (leads_of d (leads.Two q t r u)) (flows d h) in
            let led = subst (FlowHas (IsLed tables i place (shape_of d s))) (flows d h)
            (flow_led tables i place (shape_of d s) code) in
            let of = come_to d was.0 was.1 in
            shut_one d h (slice_set found place opened.0) was.0 (opened_at d was.0 was.1) q t lead.0.0 lead.2.0 led.0 of
            fit shaped (lead.1.0 fit shaped) shut
        none (leads.Two q t r u) flows (inr (now, arrive, shut)) d h fit shaped =
            let was = state.known d h in
            let lead = leading tables code d found place left was.0 was.1 order s opened.0 i opened.1 code_is opened.2
            (leads_of d (leads.Two q t r u)) (flows d h) in
            let led = subst (FlowHas (IsLed tables i place (shape_of d s))) (flows d h)
            (flow_led tables i place (shape_of d s) code) in
            let of = come_to d was.0 was.1 in
            let one = arrives tables code d (slice_set found place opened.0) place left was.0 (opened_at d was.0 was.1)
            place q t lead.0.0 lead.1.0 lead.2.0 lead.3.0 now arrive in
            shut_one d h now one.shapes one.known r u
            (coming_on (slice_set found place opened.0) now was.0 one.shapes one.still place r (shape_of d u)
            lead.0.1.0)
            lead.2.1.0 led.1.0 of fit shaped (lead.1.1.0 fit shaped) shut
