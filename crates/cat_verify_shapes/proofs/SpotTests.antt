-- Spots to which a shape comes, and that are taken up.
use Rattle.std.proofs.Common.{◌≡◌, ◌⊎◌, ◌<◌, inl, inr, ℕ, zero, suc, List, [], ◌∷◌, length, Option, Some, None}
use Rattle.std.proofs.Common.{slice_get, slice_set, slice_index_or, refl, sym, ap, ◌∙◌}
use Rattle.std.proofs.lemmas.Option.{slice_get_read}
use Rattle.std.specs.Prelude.{Err, Ok, OnOk, Result}
use Rattle.cat_code.specs.declared.instr.Instr.{Instr}
use Rattle.cat_verify_shapes.specs.declared.shape.Shape.{Shape}
use Rattle.cat_verify_shapes.specs.declared.found.Spot.{Spot}
use Rattle.cat_verify_shapes.specs.declared.found.Spot.TheVariants as spot
use Rattle.cat_verify_shapes.specs.declared.leads.Leads.{Leads}
use Rattle.cat_verify_shapes.specs.declared.leads.Leads.TheVariants as leads
use Rattle.cat_verify_shapes.specs.declared.leads.Stuck.{Stuck}
use Rattle.cat_verify_shapes.specs.inside.Looking.{MetBy, Arrives, IsOpened, ArrivingAll, passed}
use Rattle.cat_verify_shapes.proofs.ListLemmas.{none_some, set_long}

pub set_twice : {A : Type 0} (xs : List A) (n : ℕ) (x y : A) → slice_set (slice_set xs n x) n y ≡ slice_set xs n y
set_twice [] n x y = refl
set_twice (z ∷ xs) zero x y = refl
set_twice {A} (z ∷ xs) (suc n) x y = ap (λ (ys : List A). z ∷ ys) (set_twice xs n x y)

-- ---- a shape that comes to a place

pub arriving_so : (found : List Spot) (place : ℕ) (s : Shape) (at old then_at : Spot)
    → slice_get found place ≡ Some at → MetBy at s then_at
    → Arrives found (slice_set (slice_set found place old) place then_at) place s
arriving_so found place s at old then_at is met = record {
  at = at;
  then_at = then_at;
  at_is = is;
  met = met;
  after_is = set_twice found place old then_at;
}

-- ---- a place that is taken up

abbrev open_in : Spot → Option Shape
open_in (spot.Open t) = Some t
open_in _ = None

pub opened_turn : (found : List Spot) (place : ℕ) (i : Instr) (s copied : Shape) (old : Spot)
    → slice_get found place ≡ Some (spot.Open s) → copied ≡ s
    → IsOpened found (slice_set (slice_set found place old) place (spot.Turn s)) place i (Some copied)
opened_turn found place i s copied old is same =
    let turn = sym same in (
      spot.Turn s,
      is ∙ ap (λ (t : Shape). Some (spot.Open t)) turn,
      inr (ap spot.Turn turn),
      set_twice found place old (spot.Turn s),
    )

pub stays_turn : (found : List Spot) (place : ℕ) (i : Instr) (s : Shape) (old : Spot)
    → slice_get found place ≡ Some (spot.Turn s)
    → IsOpened found (slice_set (slice_set found place old) place (spot.Turn s)) place i None
stays_turn found place i s old is =
    (spot.Turn s, is, (λ t e. absurd (none_some t (ap open_in e))), set_twice found place old (spot.Turn s))

-- no shape was there, or the place was looked at
pub passed_over : (found : List Spot) (place : ℕ) (i : Instr) (at old : Spot) → slice_get found place ≡ Some at
    → (at ≡ spot.Unmet) ⊎ (at ≡ spot.Done) → old ≡ spot.Done → IsOpened found (slice_set found place old) place i None
passed_over found place i at old is (inl e) done = (
  spot.Unmet,
  is ∙ ap Some e,
  (λ t f. absurd (none_some t (ap open_in f))),
  ap (slice_set found place) done,
)
passed_over found place i at old is (inr e) done = (
  spot.Done,
  is ∙ ap Some e,
  (λ t f. absurd (none_some t (ap open_in f))),
  ap (slice_set found place) done,
)

-- what is read at a place that is written
pub read_at : (found : List Spot) (place : ℕ) (at read : Spot) → place < length found
    → read ≡ slice_index_or found place read → at ≡ read → slice_get found place ≡ Some at
read_at found place at read within is same =
    slice_get_read found (length found) place read refl within is ∙ ap Some (sym same)

-- ---- there are as many as there were

pub opened_long : (found after : List Spot) (place : ℕ) (i : Instr) (o : Option Shape)
    → IsOpened found after place i o → length after ≡ length found
opened_long found after place i None (at, is, closed, after_is) =
    ap length after_is ∙ set_long found place (passed at)
opened_long found after place i (Some s) (then_at, is, from, after_is) =
    ap length after_is ∙ set_long found place then_at

arrives_long : (found after : List Spot) (place : ℕ) (s : Shape) → Arrives found after place s
    → length after ≡ length found
arrives_long found after place s a = ap length a.after_is ∙ set_long found place a.then_at

pub arrived_long : (found after : List Spot) (to : Leads) (n : ℕ) → length found ≡ n
    → (result : Result (Unit {0}) Stuck) → ArrivingAll found after to result → OnOk result (length after ≡ n)
arrived_long found after leads.Nowhere n long (Ok done) same = ap length same ∙ long
arrived_long found after (leads.One p s) n long (Ok done) a = arrives_long found after p s a ∙ long
arrived_long found after (leads.Two p s q t) n long (Ok done) (between, a, b) =
    arrives_long between after q t b ∙ (arrives_long found between p s a ∙ long)
arrived_long found after to n long (Err why) arriving = tt
