-- The definitions of a conflict, by their numbers.
use Rattle.std.proofs.Common.{◌≡◌, ℕ, zero, suc, ◌-◌, ◌+◌, ◌<◌, ◌≤◌, nat_lt, Bool, true, false, List, [], ◌∷◌, ◌++◌}
use Rattle.std.proofs.Common.{length, map, take, drop, get_or, if◌then◌else◌, Option, Result, Ok, Err, IfOk}
use Rattle.std.proofs.Common.{refl, sym, ap, ◌∙◌, arith}
use Rattle.std.proofs.lemmas.List.{drop_more}
use Rattle.cat_pos.specs.declared.pos.Pos.{Pos}
use Rattle.cat_value.specs.declared.value.Value.{Value}
use Rattle.cat_scope.specs.Judging.{Held, in_source_order, positions_in, put}
use Rattle.cat_code.specs.declared.code.Tables.{Tables}
use Rattle.cat_machine.specs.declared.machine.HeldRef.{HeldRef}
use Rattle.cat_machine.specs.States.{held_of}
use Rattle.cat_machine.specs.inside.Machines.{DefaultsBelow, HeldBelow}
use Rattle.cat_machine.specs.inside.Outcomes.{AreDefinitions, by_number, place_among, position_of, put_ref}
use Rattle.cat_machine.specs.Layers.{top_items}

-- ---- put behind those of lower numbers

-- put in at its place
put_in : (h : HeldRef) (xs : List HeldRef) → take (place_among h xs) xs ++ h ∷ drop (place_among h xs) xs ≡ put_ref h xs
put_in h [] = refl
put_in h (x ∷ xs) = by (nat_lt h.definition x.definition) (put_in h xs)
  where
    by : (b : Bool) → take (place_among h xs) xs ++ h ∷ drop (place_among h xs) xs ≡ put_ref h xs
        → take (if b then 0 else suc (place_among h xs)) (x ∷ xs)
        ++ h ∷ drop (if b then 0 else suc (place_among h xs)) (x ∷ xs)
        ≡ (if b then h ∷ x ∷ xs else x ∷ put_ref h xs)
    by true rest = refl
    by false rest = ap (λ (l : List HeldRef). x ∷ l) rest

-- the last ones are sorted
pub record AreSorted (hs sorted : List HeldRef) (at : ℕ) : Type 0 where
  pub within : at ≤ length hs
  pub last : sorted ≡ by_number (drop at hs)

-- one more in front of them
pub one_sorted : (hs sorted more : List HeldRef) (at place : ℕ) (other : HeldRef) → 0 < at
    → place ≡ place_among (get_or hs (at - 1) other) sorted
    → more ≡ take place sorted ++ get_or hs (at - 1) other ∷ drop place sorted
    → AreSorted hs sorted at → AreSorted hs more (at - 1)
one_sorted hs sorted more at place other some there put so =
    let within = so.within in
    let before : at - 1 < length hs = omega (arith, some, within) in
    let back : at ≡ (at - 1) + 1 = omega (arith, some) in
    record {
      within = omega (arith, within);
      last = put
          ∙ ap (λ (n : ℕ). take n sorted ++ get_or hs (at - 1) other ∷ drop n sorted) there
          ∙ put_in (get_or hs (at - 1) other) sorted
          ∙ ap (put_ref (get_or hs (at - 1) other)) so.last
          ∙ ap (λ (n : ℕ). put_ref (get_or hs (at - 1) other) (by_number (drop n hs))) back
          ∙ sym (ap by_number (drop_more hs (at - 1) other before));
    }

-- ---- they are those of the table

defined_put : (tables : Tables) (h : HeldRef) (xs : List HeldRef) → h.definition < length tables.definitions
    → AreDefinitions tables xs → AreDefinitions tables (put_ref h xs)
defined_put tables h [] one are = (one, tt)
defined_put tables h (x ∷ xs) one are = by (nat_lt h.definition x.definition) (defined_put tables h xs one are.1)
  where
    by : (b : Bool) → AreDefinitions tables (put_ref h xs)
        → AreDefinitions tables (if b then h ∷ x ∷ xs else x ∷ put_ref h xs)
    by true rest = (one, are)
    by false rest = (are.0, rest)

pub defined_sorted : (tables : Tables) (hs : List HeldRef) → AreDefinitions tables hs
    → AreDefinitions tables (by_number hs)
defined_sorted tables [] are = tt
defined_sorted tables (h ∷ hs) are = defined_put tables h (by_number hs) are.0 (defined_sorted tables hs are.1)

pub defined_at : (tables : Tables) (hs : List HeldRef) (n : ℕ) (other : HeldRef) → AreDefinitions tables hs
    → n < length hs → (get_or hs n other).definition < length tables.definitions
defined_at tables [] n other are within = absurd (omega (arith, within))
defined_at tables (h ∷ hs) zero other are within = are.0
defined_at tables (h ∷ hs) (suc n) other are within = defined_at tables hs n other are.1 (omega (arith, within))

held_defined : (tables : Tables) (n : ℕ) (hs : List HeldRef) → HeldBelow tables n hs → AreDefinitions tables hs
held_defined tables n [] below = tt
held_defined tables n (h ∷ hs) below = (below.1, held_defined tables n hs below.2)

pub top_defined : (tables : Tables) (n : ℕ) (fs : List (Option ℕ × List HeldRef)) → DefaultsBelow tables n fs
    → AreDefinitions tables (top_items fs)
top_defined tables n [] below = tt
top_defined tables n (f ∷ fs) below = held_defined tables n f.1 below.0

-- ---- their positions

module _ (tables : Tables) (vs : List Value) where
  abbrev held : HeldRef → Held Value
  held = held_of tables vs

  put_held : (h : HeldRef) (xs : List HeldRef) → put (held h) (map held xs) ≡ map held (put_ref h xs)
  put_held h [] = refl
  put_held h (x ∷ xs) = by (nat_lt h.definition x.definition) (put_held h xs)
    where
      by : (b : Bool) → put (held h) (map held xs) ≡ map held (put_ref h xs)
          → (if b then held h ∷ held x ∷ map held xs else held x ∷ put (held h) (map held xs))
          ≡ map held (if b then h ∷ x ∷ xs else x ∷ put_ref h xs)
      by true rest = refl
      by false rest = ap (λ (l : List (Held Value)). held x ∷ l) rest

  sorted_held : (hs : List HeldRef) → in_source_order (map held hs) ≡ map held (by_number hs)
  sorted_held [] = refl
  sorted_held (h ∷ hs) = ap (put (held h)) (sorted_held hs) ∙ put_held h (by_number hs)

  positions_held : (hs : List HeldRef) → positions_in (map held hs) ≡ map (position_of tables) hs
  positions_held [] = refl
  positions_held (h ∷ hs) = ap (λ (l : List Pos). position_of tables h ∷ l) (positions_held hs)

  pub in_order : {E : Type 0} (made : Result (List Pos) E) (hs sorted : List HeldRef) → sorted ≡ by_number hs
      → IfOk made (λ ps. ps ≡ map (position_of tables) sorted)
      → IfOk made (λ ps. ps ≡ positions_in (in_source_order (map (held_of tables vs) hs)))
  in_order (Err e) hs sorted is placed = tt
  in_order (Ok ps) hs sorted is placed =
      placed
      ∙ ap (map (position_of tables)) is
      ∙ sym (positions_held (by_number hs))
      ∙ sym (ap (λ (l : List (Held Value)). positions_in l) (sorted_held hs))
