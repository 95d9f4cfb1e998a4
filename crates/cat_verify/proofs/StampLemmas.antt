-- Stamps that spread until none waits: then marks tell which of them come to each place.
use Rattle.std.proofs.Common.{◌≡◌, ◌<◌, ◌≤◌, ◌+◌, ◌⊎◌, ℕ, Bool, true, false, List, [], ◌∷◌}
use Rattle.std.proofs.Common.{◌++◌, length, map, set, get_or, replicate, Option, Some, None, refl, sym, ap, ◌∙◌, subst}
use Rattle.std.proofs.Common.{inl, inr, arith, if◌then◌else◌, append_assoc}
use Rattle.std.proofs.lemmas.List.{length-set, get_or-set_same, get_or-set_other}
use Rattle.std.proofs.lemmas.List.{get_or-replicate, get_or_past, length-replicate, append-nil, map-append}
use Rattle.std.proofs.lemmas.Option.{get_or_from_slice_get}
use Rattle.std.proofs.lemmas.Bool.{cases_eq, cases_lt}
use Rattle.std.proofs.Math.Logic.{⊎_elim}
use Rattle.std.specs.Prelude.{slice_get}
use Rattle.cat_scope.specs.Names.{IsOneOf}
use Rattle.cat_code.specs.declared.instr.Instr.{Instr}
use Rattle.cat_code.specs.declared.instr.Instr.TheVariants as instr
use Rattle.cat_verify_shapes.specs.Belonging.{leads_on}
use Rattle.cat_verify.specs.declared.stamps.Arrival.{Arrival}
use Rattle.cat_verify.specs.declared.stamps.Stamps.{Stamps}
use Rattle.cat_verify.specs.declared.stamps.Stamps.TheVariants.{Nobody, One, Two}
use Rattle.cat_verify.specs.inside.Stamped.{ComesTo, enters, goes, called, Tells, AreStamps}
use Rattle.cat_verify.specs.inside.Spreading.{State, with_stamp, to_each, by_call, spread_by, spread_at, spread}
use Rattle.cat_verify.proofs.OneOf.{in_front, in_back, either_of, last_of, in_map, of_map, within_of, past_of}
use Rattle.cat_verify.proofs.OneOf.{same_some}
use Rattle.cat_verify.proofs.StampMarks.{Covers, Has, IsRight, covered, IsMore, more, of_call, in_call}

-- ---- stamps on their way

-- there is no such place, or a stamp came there, or waits to
abbrev pub IsAhead : ℕ → State → ℕ → ℕ → Type 0
IsAhead size s q l = (size ≤ q) ⊎ (Covers (get_or s.marks q Nobody) l ⊎ IsOneOf (to_each l q) s.waiting)

pub record IsUnderWay (code : List Instr) (starts calls : List Arrival) (s : State) : Type 0 where
  pub one_each : length s.marks ≡ length code
  pub right : (p : ℕ) → IsRight code starts calls p (get_or s.marks p Nobody)
  pub waits : (p l : ℕ) → IsOneOf (to_each l p) s.waiting → ComesTo code starts calls l p
  pub begun : (p l : ℕ) → IsOneOf (to_each l p) starts → IsAhead (length code) s p l
  pub closed : (p q l : ℕ) (i : Instr) → Has (get_or s.marks p Nobody) l → slice_get code p ≡ Some i
      → IsOneOf q (leads_on i p) → IsAhead (length code) s q l
  pub sent : (p l f count : ℕ) (entry : Arrival) → Has (get_or s.marks p Nobody) l
      → slice_get code p ≡ Some (instr.Call f count) → slice_get calls f ≡ Some entry
      → IsAhead (length code) s entry.place entry.stamp

abbrev pub with_waiting : List Stamps → List Arrival → State
with_waiting marks waiting = record { marks = marks; waiting = waiting }

place_same : (p l : ℕ) (arrival : Arrival) → to_each l p ≡ arrival → p ≡ arrival.place
place_same p l arrival e = ap (λ (x : Arrival). x.place) e

stamp_same : (p l : ℕ) (arrival : Arrival) → to_each l p ≡ arrival → l ≡ arrival.stamp
stamp_same p l arrival e = ap (λ (x : Arrival). x.stamp) e

module _ (code : List Instr) (starts calls : List Arrival) (marks : List Stamps) (rest : List Arrival)
    (arrival : Arrival) (way : IsUnderWay code starts calls (with_waiting marks (rest ++ arrival ∷ []))) where
  came : ComesTo code starts calls arrival.stamp arrival.place
  came = way.waits arrival.place arrival.stamp (in_back arrival rest (arrival ∷ []) (inl refl))

  abbrev size : ℕ
  size = length code

  abbrev old : Stamps
  old = get_or marks arrival.place Nobody

  -- nothing is new
  still : (size ≤ arrival.place) ⊎ Covers old arrival.stamp → (q l : ℕ)
      → IsAhead size (with_waiting marks (rest ++ arrival ∷ [])) q l → IsAhead size (with_waiting marks rest) q l
  still here q l (inl over) = inl over
  still here q l (inr (inl covers)) = inr (inl covers)
  still here q l (inr (inr one)) = by here (last_of (to_each l q) rest arrival one)
    where
      by : (size ≤ arrival.place) ⊎ Covers old arrival.stamp → IsOneOf (to_each l q) rest ⊎ (to_each l q ≡ arrival)
          → IsAhead size (with_waiting marks rest) q l
      by here (inl waits) = inr (inr waits)
      by (inl over) (inr e) = inl (subst (λ (n : ℕ). size ≤ n) (sym (place_same q l arrival e)) over)
      by (inr covers) (inr e) = inr (inl (subst (λ (n : ℕ). Covers (get_or marks q Nobody) n)
          (sym (stamp_same q l arrival e)) (subst (λ (n : ℕ). Covers (get_or marks n Nobody) arrival.stamp)
          (sym (place_same q l arrival e)) covers)))

  pub passed_over : (size ≤ arrival.place) ⊎ Covers old arrival.stamp
      → IsUnderWay code starts calls (with_waiting marks rest)
  passed_over here = record {
    one_each = way.one_each;
    right = way.right;
    waits = λ p l one. way.waits p l (in_front (to_each l p) rest (arrival ∷ []) one);
    begun = λ p l one. still here p l (way.begun p l one);
    closed = λ p q l i has is one. still here q l (way.closed p q l i has is one);
    sent = λ p l f count entry has is at. still here entry.place entry.stamp (way.sent p l f count entry has is at);
  }

  -- a stamp is new at a place
  module _ (i : Instr) (is : slice_get code arrival.place ≡ Some i) (new : Stamps)
      (told : with_stamp old arrival.stamp ≡ Some new) where
    abbrev marked : List Stamps
    marked = set marks arrival.place new

    abbrev onward : List Arrival
    onward = map (to_each arrival.stamp) (leads_on i arrival.place)

    abbrev afterwards : List Arrival
    afterwards = (rest ++ onward) ++ by_call calls i

    within : arrival.place < length marks
    within = let r : arrival.place < length code = within_of code arrival.place i is in omega (arith, r, way.one_each)

    grown : IsMore code starts calls arrival.place arrival.stamp old new
    grown = more code starts calls arrival.place arrival.stamp old new told

    here_is : get_or marked arrival.place Nobody ≡ new
    here_is = get_or-set_same marks arrival.place new Nobody within

    there_is : (p : ℕ) → (arrival.place ≡ p → ⊥) → get_or marked p Nobody ≡ get_or marks p Nobody
    there_is p other = get_or-set_other marks arrival.place p new Nobody (λ e. other (sym e))

    covers_on : (q l : ℕ) → Covers (get_or marks q Nobody) l → Covers (get_or marked q Nobody) l
    covers_on q l covers = ⊎_elim
        (λ here. subst (λ (m : Stamps). Covers m l) (ap (λ (n : ℕ). get_or marked n Nobody) here)
        (subst (λ (m : Stamps). Covers m l) (sym here_is)
        (grown.kept l (subst (λ (n : ℕ). Covers (get_or marks n Nobody) l) (sym here) covers))))
        (λ other. subst (λ (m : Stamps). Covers m l) (sym (there_is q other)) covers)
        (cases_eq arrival.place q)

    moved : (q l : ℕ) → IsAhead size (with_waiting marks (rest ++ arrival ∷ [])) q l
        → IsAhead size (with_waiting marked afterwards) q l
    moved q l (inl over) = inl over
    moved q l (inr (inl covers)) = inr (inl (covers_on q l covers))
    moved q l (inr (inr one)) = by (last_of (to_each l q) rest arrival one)
      where
        by : IsOneOf (to_each l q) rest ⊎ (to_each l q ≡ arrival)
            → IsAhead size (with_waiting marked afterwards) q l
        by (inl waits) = inr (inr (in_front (to_each l q) (rest ++ onward) (by_call calls i)
            (in_front (to_each l q) rest onward waits)))
        by (inr e) = inr (inl (subst (λ (n : ℕ). Covers (get_or marked q Nobody) n) (sym (stamp_same q l arrival e))
            (subst (λ (n : ℕ). Covers (get_or marked n Nobody) arrival.stamp) (sym (place_same q l arrival e))
            (subst (λ (m : Stamps). Covers m arrival.stamp) (sym here_is) grown.covers))))

    right_on : (p : ℕ) → IsRight code starts calls p (get_or marked p Nobody)
    right_on p = ⊎_elim
        (λ here. subst (λ (n : ℕ). IsRight code starts calls n (get_or marked n Nobody)) here
        (subst (IsRight code starts calls arrival.place) (sym here_is) (grown.right (way.right arrival.place) came)))
        (λ other. subst (IsRight code starts calls p) (sym (there_is p other)) (way.right p))
        (cases_eq arrival.place p)

    waits_led : (p l : ℕ) → IsOneOf (to_each l p) (rest ++ onward) → ComesTo code starts calls l p
    waits_led p l one = ⊎_elim
        (λ waits. way.waits p l (in_front (to_each l p) rest (arrival ∷ []) waits))
        (λ led. let from = of_map (to_each arrival.stamp) (leads_on i arrival.place) (to_each l p) led in
        subst (λ (n : ℕ). ComesTo code starts calls n p) (sym (ap (λ (x : Arrival). x.stamp) from.1))
        (subst (ComesTo code starts calls arrival.stamp) (sym (ap (λ (x : Arrival). x.place) from.1))
        (goes i came is from.2)))
        (either_of (to_each l p) rest onward one)

    waits_on : (p l : ℕ) → IsOneOf (to_each l p) afterwards → ComesTo code starts calls l p
    waits_on p l one = ⊎_elim
        (λ led. waits_led p l led)
        (λ sent. let from = of_call calls i (to_each l p) sent in called came (is ∙ ap Some from.call) from.found)
        (either_of (to_each l p) (rest ++ onward) (by_call calls i) one)

    onward_has : (q : ℕ) → IsOneOf q (leads_on i arrival.place)
        → IsAhead size (with_waiting marked afterwards) q arrival.stamp
    onward_has q one = inr (inr (in_front (to_each arrival.stamp q) (rest ++ onward) (by_call calls i)
        (in_back (to_each arrival.stamp q) rest onward
        (in_map (to_each arrival.stamp) (leads_on i arrival.place) q one))))

    closed_here : (q l : ℕ) (j : Instr) → Has new l → slice_get code arrival.place ≡ Some j
        → IsOneOf q (leads_on j arrival.place) → IsAhead size (with_waiting marked afterwards) q l
    closed_here q l j has at one = ⊎_elim
        (λ had. moved q l (way.closed arrival.place q l j had at one))
        (λ same. subst (λ (n : ℕ). IsAhead size (with_waiting marked afterwards) q n) (sym same)
        (onward_has q (subst (λ (k : Instr). IsOneOf q (leads_on k arrival.place))
        (same_some (slice_get code arrival.place) i j is at) one)))
        (grown.has l has)

    closed_on : (p q l : ℕ) (j : Instr) → Has (get_or marked p Nobody) l → slice_get code p ≡ Some j
        → IsOneOf q (leads_on j p) → IsAhead size (with_waiting marked afterwards) q l
    closed_on p q l j has at one = ⊎_elim
        (λ here. closed_here q l j
        (subst (λ (m : Stamps). Has m l) here_is
        (subst (λ (n : ℕ). Has (get_or marked n Nobody) l) (sym here) has))
        (subst (λ (n : ℕ). slice_get code n ≡ Some j) (sym here) at)
        (subst (λ (n : ℕ). IsOneOf q (leads_on j n)) (sym here) one))
        (λ other. moved q l (way.closed p q l j (subst (λ (m : Stamps). Has m l) (there_is p other) has) at one))
        (cases_eq arrival.place p)

    sent_here : (f count : ℕ) (entry : Arrival) → slice_get code arrival.place ≡ Some (instr.Call f count)
        → slice_get calls f ≡ Some entry → IsAhead size (with_waiting marked afterwards) entry.place entry.stamp
    sent_here f count entry at there = inr (inr (in_back entry (rest ++ onward) (by_call calls i)
        (subst (λ (j : Instr). IsOneOf entry (by_call calls j))
        (same_some (slice_get code arrival.place) i (instr.Call f count) is at) (in_call calls f count entry there))))

    sent_on : (p l f count : ℕ) (entry : Arrival) → Has (get_or marked p Nobody) l
        → slice_get code p ≡ Some (instr.Call f count) → slice_get calls f ≡ Some entry
        → IsAhead size (with_waiting marked afterwards) entry.place entry.stamp
    sent_on p l f count entry has at there = ⊎_elim
        (λ here. sent_here f count entry
        (subst (λ (n : ℕ). slice_get code n ≡ Some (instr.Call f count)) (sym here) at) there)
        (λ other. moved entry.place entry.stamp
        (way.sent p l f count entry (subst (λ (m : Stamps). Has m l) (there_is p other) has) at there))
        (cases_eq arrival.place p)

    pub marked_on : IsUnderWay code starts calls (with_waiting marked afterwards)
    marked_on = record {
      one_each = length-set marks arrival.place new ∙ way.one_each;
      right = right_on;
      waits = waits_on;
      begun = λ p l one. moved p l (way.begun p l one);
      closed = closed_on;
      sent = sent_on;
    }

  told_on : (i : Instr) → slice_get code arrival.place ≡ Some i → (w : Option Stamps) → with_stamp old arrival.stamp ≡ w
      → IsUnderWay code starts calls (spread_by calls i arrival (with_waiting marks rest) w)
  told_on i is None e = passed_over (inr (covered old arrival.stamp e))
  told_on i is (Some new) e = marked_on i is new e

  at_on : (o : Option Instr) → slice_get code arrival.place ≡ o
      → IsUnderWay code starts calls (spread_at calls arrival (with_waiting marks rest) o)
  at_on None e = passed_over (inl (past_of code arrival.place e))
  at_on (Some i) e = told_on i e (with_stamp old arrival.stamp) refl

  pub spread_on : IsUnderWay code starts calls (spread code calls arrival (with_waiting marks rest))
  spread_on = at_on (slice_get code arrival.place) refl

-- ---- the beginning and the end

unmarked : (n p : ℕ) → get_or (replicate n Nobody) p Nobody ≡ Nobody
unmarked n p = ⊎_elim
    (λ within. get_or-replicate n p Nobody Nobody within)
    (λ past. get_or_past (replicate n Nobody) p Nobody (omega (arith, past, length-replicate n Nobody)))
    (cases_lt p n)

pub first_way : (code : List Instr) (starts calls : List Arrival)
    → IsUnderWay code starts calls (with_waiting (replicate (length code) Nobody) starts)
first_way code starts calls = record {
  one_each = length-replicate (length code) Nobody;
  right = λ p. subst (IsRight code starts calls p) (sym (unmarked (length code) p)) tt;
  waits = λ p l one. enters one;
  begun = λ p l one. inr (inr one);
  closed = λ p q l i has is one.
      absurd (subst (λ (m : Stamps). Has m l) (unmarked (length code) p) has);
  sent = λ p l f count entry has is at.
      absurd (subst (λ (m : Stamps). Has m l) (unmarked (length code) p) has);
}

pub first_way_as : (code : List Instr) (starts calls : List Arrival) (marks : List Stamps) (waiting : List Arrival)
    → marks ≡ replicate (length code) Nobody → waiting ≡ starts
    → IsUnderWay code starts calls (record { marks = marks; waiting = waiting })
first_way_as code starts calls marks waiting none all =
    subst (λ (ms : List Stamps). IsUnderWay code starts calls (with_waiting ms waiting)) (sym none)
    (subst (λ (w : List Arrival). IsUnderWay code starts calls (with_waiting (replicate (length code) Nobody) w))
    (sym all)
    (first_way code starts calls))

pub next_way : (code : List Instr) (starts calls : List Arrival) (marks now new after : List Stamps)
    (waiting rest on : List Arrival) (arrival : Arrival)
    → IsUnderWay code starts calls (record { marks = marks; waiting = waiting }) → waiting ≡ rest ++ arrival ∷ []
    → now ≡ marks
    → spread code calls arrival (record { marks = now; waiting = rest }) ≡ record { marks = new; waiting = on }
    → after ≡ new → IsUnderWay code starts calls (record { marks = after; waiting = on })
next_way code starts calls marks now new after waiting rest on arrival way popped same step written =
    subst (λ (ms : List Stamps). IsUnderWay code starts calls (with_waiting ms on)) (sym written)
    (subst (IsUnderWay code starts calls) step
    (subst (λ (ms : List Stamps). IsUnderWay code starts calls (spread code calls arrival (with_waiting ms rest)))
    (sym same)
    (spread_on code starts calls marks rest arrival
    (subst (λ (w : List Arrival). IsUnderWay code starts calls (with_waiting marks w)) popped way))))

module _ (code : List Instr) (starts calls : List Arrival) (marks : List Stamps)
    (way : IsUnderWay code starts calls (with_waiting marks [])) where
  ahead : (q l : ℕ) → q < length code → IsAhead (length code) (with_waiting marks []) q l
      → Covers (get_or marks q Nobody) l
  ahead q l below (inl over) = absurd (omega (arith, below, over))
  ahead q l below (inr (inl covers)) = covers
  ahead q l below (inr (inr one)) = absurd one

  both_cover : (m : Stamps) (a b l : ℕ) → (a ≡ b → ⊥) → Covers m a → Covers m b → Covers m l
  both_cover Nobody a b l apart one other = absurd one
  both_cover (One c) a b l apart one other = absurd (apart (one ∙ sym other))
  both_cover (Two c d) a b l apart one other = tt

  covers_next : (m : Stamps) (p q l : ℕ) (i : Instr) → get_or marks p Nobody ≡ m → Covers m l
      → slice_get code p ≡ Some i → IsOneOf q (leads_on i p) → q < length code → Covers (get_or marks q Nobody) l
  covers_next Nobody p q l i e covers is one below = absurd covers
  covers_next (One a) p q l i e covers is one below =
      ahead q l below (way.closed p q l i (subst (λ (m : Stamps). Has m l) (sym e) covers) is one)
  covers_next (Two a b) p q l i e covers is one below =
      both_cover (get_or marks q Nobody) a b l (subst (IsRight code starts calls p) e (way.right p)).2
      (ahead q a below (way.closed p q a i (subst (λ (m : Stamps). Has m a) (sym e) (inl refl)) is one))
      (ahead q b below (way.closed p q b i (subst (λ (m : Stamps). Has m b) (sym e) (inr refl)) is one))

  -- what is covered has something
  held : (m : Stamps) (l : ℕ) → Covers m l → (k : ℕ) × Has m k
  held Nobody l covers = absurd covers
  held (One a) l covers = (l, covers)
  held (Two a b) l covers = (a, inl refl)

  covers_all : (l p : ℕ) → ComesTo code starts calls l p → p < length code → Covers (get_or marks p Nobody) l
  covers_all l p (enters one) below = ahead p l below (way.begun p l one)
  covers_all l q (goes {p} i comes is one) below =
      covers_next (get_or marks p Nobody) p q l i refl (covers_all l p comes (within_of code p i is)) is one below
  covers_all l q (called {stamp} {p} {f} {count} {entry} comes is at) below =
      let has = held (get_or marks p Nobody) stamp
      (covers_all stamp p comes (within_of code p (instr.Call f count) is)) in
      ahead entry.place entry.stamp below (way.sent p has.0 f count entry has.1 is at)

  tells : (p : ℕ) (m : Stamps) → get_or marks p Nobody ≡ m → p < length code → Tells code starts calls p m
  tells p Nobody e below = λ l comes. subst (λ (m : Stamps). Covers m l) e (covers_all l p comes below)
  tells p (One a) e below = (
    subst (IsRight code starts calls p) e (way.right p),
    λ l comes. subst (λ (m : Stamps). Covers m l) e (covers_all l p comes below),
  )
  tells p (Two a b) e below = subst (IsRight code starts calls p) e (way.right p)

  pub last_way : AreStamps code starts calls marks
  last_way = record {
    one_each = way.one_each;
    tell = λ p m is. tells p m (get_or_from_slice_get marks p m Nobody is)
        (let r : p < length marks = within_of marks p m is in omega (arith, r, way.one_each));
  }

pub last_way_as : (code : List Instr) (starts calls : List Arrival) (marks : List Stamps) (waiting : List Arrival)
    → IsUnderWay code starts calls (record { marks = marks; waiting = waiting }) → waiting ≡ []
    → AreStamps code starts calls marks
last_way_as code starts calls marks waiting way none =
    last_way code starts calls marks
    (subst (λ (w : List Arrival). IsUnderWay code starts calls (with_waiting marks w)) none way)

-- ---- what is led on

pub next_none : (b : Bool) (p l : ℕ) (w : List Arrival) → b ≡ false
    → w ≡ w ++ map (to_each l) (if b then (p + 1) ∷ [] else [])
next_none true p l w e = absurd (cc e)
next_none false p l w e = sym (append-nil w)

pub next_some : (b : Bool) (p l : ℕ) (w on : List Arrival) → b ≡ true → on ≡ w ++ to_each l (p + 1) ∷ []
    → on ≡ w ++ map (to_each l) (if b then (p + 1) ∷ [] else [])
next_some true p l w on e is = is
next_some false p l w on e is = absurd (cc e)

pub led_both : (l : ℕ) (xs ys : List ℕ) (w v u : List Arrival) → v ≡ w ++ map (to_each l) xs
    → u ≡ v ++ map (to_each l) ys → u ≡ w ++ map (to_each l) (xs ++ ys)
led_both l xs ys w v u one two =
    two ∙ ap (λ (x : List Arrival). x ++ map (to_each l) ys) one
    ∙ append_assoc w (map (to_each l) xs) (map (to_each l) ys)
    ∙ ap (λ (x : List Arrival). w ++ x) (sym (map-append (to_each l) xs ys))
