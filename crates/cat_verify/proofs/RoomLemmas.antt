-- Stamps that spread take from the room that marks have left.
use Rattle.std.proofs.Common.{◌≡◌, ◌<◌, ◌≤◌, ◌+◌, ◌*◌, ℕ, zero, suc, nat_eq, Bool, true, false, List, [], ◌∷◌}
use Rattle.std.proofs.Common.{◌++◌, length, map, set, get_or, Option, Some, None, refl, sym, ap, subst}
use Rattle.std.proofs.Common.{arith, if◌then◌else◌}
use Rattle.std.proofs.lemmas.List.{length-append, length-map}
use Rattle.std.specs.Prelude.{slice_get, option_to_list}
use Rattle.cat_code.specs.declared.instr.Instr.{Instr}
use Rattle.cat_code.specs.declared.instr.Instr.TheVariants as instr
use Rattle.cat_code.specs.Jumps.{jump_of, with_jump}
use Rattle.cat_verify_shapes.specs.Belonging.{goes_on, leads_on}
use Rattle.cat_verify.specs.declared.stamps.Arrival.{Arrival}
use Rattle.cat_verify.specs.declared.stamps.Stamps.{Stamps}
use Rattle.cat_verify.specs.declared.stamps.Stamps.TheVariants.{Nobody, One, Two}
use Rattle.cat_verify.specs.inside.Spreading.{State, with_stamp, to_each, by_call, spread_by, spread_at, spread}
use Rattle.cat_verify.proofs.OneOf.{within_of}
use Rattle.cat_verify.proofs.StampLemmas.{IsUnderWay, with_waiting}

-- ---- a step takes from what is left

-- how many stamps more a mark may tell
abbrev pub room : Stamps → ℕ
room Nobody = 2
room (One a) = 1
room (Two a b) = 0

abbrev pub room_in : List Stamps → ℕ
room_in [] = 0
room_in (m ∷ ms) = room m + room_in ms

abbrev pub left_in : State → ℕ
left_in s = 3 * room_in s.marks + length s.waiting

room_less : (old new : Stamps) (l : ℕ) → with_stamp old l ≡ Some new → room new + 1 ≡ room old
room_less Nobody new l h = sym (ap (λ (m : Stamps). room m + 1) (same h))
  where
    same : Some (One l) ≡ Some new → One l ≡ new
    same h = cc h
room_less (One a) new l h = by (nat_eq a l) h
  where
    by : (b : Bool) → (if b then None else Some (Two a l)) ≡ Some new → room new + 1 ≡ 1
    by true h = absurd (cc h)
    by false h = sym (ap (λ (m : Stamps). room m + 1) (same h))
      where
        same : Some (Two a l) ≡ Some new → Two a l ≡ new
        same h = cc h
room_less (Two a b) new l h = absurd (cc h)

room_set : (marks : List Stamps) (p l : ℕ) (new : Stamps) → p < length marks
    → with_stamp (get_or marks p Nobody) l ≡ Some new → room_in (set marks p new) + 1 ≡ room_in marks
room_set [] p l new within h = absurd (omega (arith, within))
room_set (m ∷ marks) zero l new within h =
    let one : room new + 1 ≡ room m = room_less m new l h in omega (arith, one)
room_set (m ∷ marks) (suc p) l new within h =
    let rest : room_in (set marks p new) + 1 ≡ room_in marks = room_set marks p l new (omega (arith, within)) h in
    omega (arith, rest)

few_next : (b : Bool) (j : Option ℕ) (p : ℕ)
    → length ((if b then (p + 1) ∷ [] else []) ++ with_jump j []) ≤ 2
few_next true None p = omega arith
few_next true (Some t) p = omega arith
few_next false None p = omega arith
few_next false (Some t) p = omega arith

few_called : (calls : List Arrival) (i : Instr) → length (by_call calls i) ≤ 1
few_called calls (instr.Call f n) = by (slice_get calls f)
  where
    by : (o : Option Arrival) → length (option_to_list o) ≤ 1
    by None = omega arith
    by (Some x) = omega arith
few_called calls _ = omega arith

module _ (code : List Instr) (calls : List Arrival) (marks : List Stamps) (rest : List Arrival) (arrival : Arrival)
    (one_each : length marks ≡ length code) where
  abbrev before : ℕ
  before = left_in (with_waiting marks (rest ++ arrival ∷ []))

  passed_less : left_in (with_waiting marks rest) < before
  passed_less = omega (arith, length-append rest (arrival ∷ []))

  told_less : (i : Instr) → slice_get code arrival.place ≡ Some i → (w : Option Stamps)
      → with_stamp (get_or marks arrival.place Nobody) arrival.stamp ≡ w
      → left_in (spread_by calls i arrival (with_waiting marks rest) w) < before
  told_less i is None e = passed_less
  told_less i is (Some new) e =
      let within : arrival.place < length code = within_of code arrival.place i is in
      let onward = leads_on i arrival.place in
      let fewer : room_in (set marks arrival.place new) + 1 ≡ room_in marks =
      room_set marks arrival.place arrival.stamp new (omega (arith, within, one_each)) e in
      let few : length onward ≤ 2 = few_next (goes_on i) (jump_of i) arrival.place in
      let called : length (by_call calls i) ≤ 1 = few_called calls i in
      omega (
        arith,
        fewer,
        few,
        called,
        length-append (rest ++ map (to_each arrival.stamp) onward) (by_call calls i),
        length-append rest (map (to_each arrival.stamp) onward),
        length-append rest (arrival ∷ []),
        length-map (leads_on i arrival.place) (to_each arrival.stamp),
      )

  at_less : (o : Option Instr) → slice_get code arrival.place ≡ o
      → left_in (spread_at calls arrival (with_waiting marks rest) o) < before
  at_less None e = passed_less
  at_less (Some i) e = told_less i e (with_stamp (get_or marks arrival.place Nobody) arrival.stamp) refl

  pub spread_less : left_in (spread code calls arrival (with_waiting marks rest)) < before
  spread_less = at_less (slice_get code arrival.place) refl

pub less_way : (code : List Instr) (starts calls : List Arrival) (marks now new after : List Stamps)
    (waiting rest on : List Arrival) (arrival : Arrival)
    → IsUnderWay code starts calls (record { marks = marks; waiting = waiting }) → waiting ≡ rest ++ arrival ∷ []
    → now ≡ marks
    → spread code calls arrival (record { marks = now; waiting = rest }) ≡ record { marks = new; waiting = on }
    → after ≡ new
    → left_in (record { marks = after; waiting = on }) < left_in (record { marks = marks; waiting = waiting })
less_way code starts calls marks now new after waiting rest on arrival way popped same step written =
    subst (λ (ms : List Stamps). left_in (with_waiting ms on) < left_in (with_waiting marks waiting)) (sym written)
    (subst (λ (s : State). left_in s < left_in (with_waiting marks waiting)) step
    (subst (λ (ms : List Stamps). left_in (spread code calls arrival (with_waiting ms rest))
    < left_in (with_waiting marks waiting)) (sym same)
    (subst (λ (w : List Arrival). left_in (spread code calls arrival (with_waiting marks rest))
    < left_in (with_waiting marks w))
    (sym popped) (spread_less code calls marks rest arrival way.one_each))))
