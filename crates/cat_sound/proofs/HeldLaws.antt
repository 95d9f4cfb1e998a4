-- The places of a conflict stand by the numbers of the definitions that hold.
use Rattle.std.proofs.Common.{◌≡◌, ◌↔◌, inl, inr, ℕ, ◌≤◌, nat_lt, Bool, true, false, List, [], ◌∷◌, Option, Result, Ok}
use Rattle.std.proofs.Common.{Err, refl, sym, ap, arith, if◌then◌else◌, true≢false}
use Rattle.std.proofs.Math.Logic.{⊎_elim}
use Rattle.std.proofs.lemmas.Bool.Decides.{nat_tests}
use Rattle.cat_order.specs.Order.{times}
use Rattle.cat_pos.specs.declared.pos.Pos.{Pos}
use Rattle.cat_value.specs.declared.value.Value.{Value}
use Rattle.cat_value.specs.declared.outcome.Target.{Target}
use Rattle.cat_scope.specs.declared.stop.Stop.{Stop}
use Rattle.cat_scope.specs.declared.stop.Stop.TheVariants.{Conflict}
use Rattle.cat_scope.specs.Names.{AllHave, IsOneOf}
use Rattle.cat_scope.specs.Judging.{Held, alone, put, in_source_order, positions_in}
use Rattle.cat_sound.specs.Grouped.{AreRising, numbers_held}

abbrev Several : Type 0
Several = List (Held Value)

-- what is put among others is one of them, and they are still there
in_branch : (b : Bool) (h j i : Held Value) (js : Several) → (IsOneOf i (put h js) → IsOneOf i (h ∷ js))
    → IsOneOf i (if b then h ∷ j ∷ js else j ∷ put h js) → IsOneOf i (h ∷ j ∷ js)
in_branch true h j i js rest among = among
in_branch false h j i js rest among =
    ⊎_elim (λ same. inr (inl same)) (λ more. ⊎_elim (λ same. inl same) (λ other. inr (inr other)) (rest more)) among

put_in : (h i : Held Value) (is : Several) → IsOneOf i (put h is) → IsOneOf i (h ∷ is)
put_in h i [] among = among
put_in h i (j ∷ js) among = in_branch (nat_lt h.number j.number) h j i js (put_in h i js) among

of_branch : (b : Bool) (h j i : Held Value) (js : Several) → (IsOneOf i (h ∷ js) → IsOneOf i (put h js))
    → IsOneOf i (h ∷ j ∷ js) → IsOneOf i (if b then h ∷ j ∷ js else j ∷ put h js)
of_branch true h j i js rest among = among
of_branch false h j i js rest among =
    ⊎_elim (λ same. inr (rest (inl same)))
    (λ more. ⊎_elim (λ same. inl same) (λ other. inr (rest (inr other))) more) among

of_put : (h i : Held Value) (is : Several) → IsOneOf i (h ∷ is) → IsOneOf i (put h is)
of_put h i [] among = among
of_put h i (j ∷ js) among = of_branch (nat_lt h.number j.number) h j i js (of_put h i js) among

ordered_in : (hs : Several) (h : Held Value) → IsOneOf h (in_source_order hs) → IsOneOf h hs
ordered_in [] h among = among
ordered_in (i ∷ is) h among =
    ⊎_elim (λ same. inl same) (λ more. inr (ordered_in is h more)) (put_in i h (in_source_order is) among)

in_ordered : (hs : Several) (h : Held Value) → IsOneOf h hs → IsOneOf h (in_source_order hs)
in_ordered [] h among = among
in_ordered (i ∷ is) h among =
    of_put i h (in_source_order is) (⊎_elim (λ same. inl same) (λ more. inr (in_ordered is h more)) among)

pub of_all : (hs : Several) (h : Held Value) → IsOneOf h (in_source_order hs) ↔ IsOneOf h hs
of_all hs h = (ordered_in hs h, in_ordered hs h)

-- each number is there as often as before
count_branch : (b : Bool) (h j : Held Value) (js : Several) (n : ℕ)
    → times (numbers_held (put h js)) n ≡ times (numbers_held (h ∷ js)) n
    → times (numbers_held (if b then h ∷ j ∷ js else j ∷ put h js)) n ≡ times (numbers_held (h ∷ j ∷ js)) n
count_branch true h j js n rest = refl
count_branch false h j js n rest = omega (arith, rest)

put_counts : (h : Held Value) (is : Several) (n : ℕ)
    → times (numbers_held (put h is)) n ≡ times (numbers_held (h ∷ is)) n
put_counts h [] n = refl
put_counts h (j ∷ js) n = count_branch (nat_lt h.number j.number) h j js n (put_counts h js n)

pub counts_kept : (hs : Several) (n : ℕ) → times (numbers_held (in_source_order hs)) n ≡ times (numbers_held hs) n
counts_kept [] n = refl
counts_kept (h ∷ hs) n = omega (arith, put_counts h (in_source_order hs) n, counts_kept hs n)

-- the numbers rise
all_above : (k m : ℕ) (ns : List ℕ) → k ≤ m → AllHave (λ n. m ≤ n) ns → AllHave (λ n. k ≤ n) ns
all_above k m [] le all = tt
all_above k m (n ∷ ns) le all = (omega (arith, le, all.0), all_above k m ns le all.1)

above_branch : (b : Bool) (k : ℕ) (h j : Held Value) (js : Several) → k ≤ h.number
    → AllHave (λ n. k ≤ n) (numbers_held (j ∷ js)) → AllHave (λ n. k ≤ n) (numbers_held (put h js))
    → AllHave (λ n. k ≤ n) (numbers_held (if b then h ∷ j ∷ js else j ∷ put h js))
above_branch true k h j js le all rest = (le, all)
above_branch false k h j js le all rest = (all.0, rest)

put_above : (k : ℕ) (h : Held Value) (is : Several) → k ≤ h.number → AllHave (λ n. k ≤ n) (numbers_held is)
    → AllHave (λ n. k ≤ n) (numbers_held (put h is))
put_above k h [] le all = (le, tt)
put_above k h (j ∷ js) le all = above_branch (nat_lt h.number j.number) k h j js le all (put_above k h js le all.1)

rising_branch : (b : Bool) (h j : Held Value) (js : Several) → nat_lt h.number j.number ≡ b
    → AreRising (numbers_held (j ∷ js)) → AreRising (numbers_held (put h js))
    → AreRising (numbers_held (if b then h ∷ j ∷ js else j ∷ put h js))
rising_branch true h j js is all rest =
    let le : h.number ≤ j.number = grind (arith, nat_tests) in
    ((le, all_above h.number j.number (numbers_held js) le all.0), all)
rising_branch false h j js is all rest =
    let le : j.number ≤ h.number = grind (arith, nat_tests) in (put_above j.number h js le all.0, rest)

put_rising : (h : Held Value) (is : Several) → AreRising (numbers_held is) → AreRising (numbers_held (put h is))
put_rising h [] all = (tt, tt)
put_rising h (j ∷ js) all = rising_branch (nat_lt h.number j.number) h j js refl all (put_rising h js all.1)

pub are_rising : (hs : Several) → AreRising (numbers_held (in_source_order hs))
are_rising [] = tt
are_rising (h ∷ hs) = put_rising h (in_source_order hs) (are_rising hs)

-- a conflict names these places
abbrev is_ok : Result (Option (Held Value)) Stop → Bool
is_ok (Ok found) = true
is_ok (Err stop) = false

abbrev positions_of_stop : Stop → List Pos
positions_of_stop (Conflict target positions) = positions
positions_of_stop _ = []

abbrev positions_of : Result (Option (Held Value)) Stop → List Pos
positions_of (Ok found) = []
positions_of (Err stop) = positions_of_stop stop

pub named : (target other : Target) (hs : Several) (positions : List Pos)
    → alone target hs ≡ Err (Conflict other positions)
    → positions ≡ positions_in (in_source_order hs)
named target other [] positions e = absurd (true≢false (ap is_ok e))
named target other (h ∷ []) positions e = absurd (true≢false (ap is_ok e))
named target other (h ∷ i ∷ hs) positions e = sym (ap positions_of e)

-- the laws of what holds
pub ruleset held_laws = (of_all, counts_kept, are_rising, named)
