-- Worked examples of what regions admit, decide and choose.
use Rattle.std.proofs.Common.{◌≡◌, ℕ, ℤ, pos, negsuc, Bool, true, false, List, [], ◌∷◌, Option, Some, None, refl}
use lib.Count.{count_trailing_zeros}
use Rattle.cat_num.specs.Frac.{Fraction, gcd, lowest}
use Rattle.cat_region.specs.declared.dim.Dim.{Dim}
use Rattle.cat_region.specs.declared.dim.Dim.TheVariants as dim
use Rattle.cat_region.specs.declared.cut.Threshold.TheVariants as threshold
use Rattle.cat_region.specs.declared.cut.Cut.{Cut}
use Rattle.cat_region.specs.declared.cut.Cut.TheVariants as cut
use Rattle.cat_region.specs.declared.point.Point.TheVariants as point
use Rattle.cat_region.specs.declared.narrowing.Narrowing.{Narrowing}
use Rattle.cat_region.specs.Points.{answer, is_cut}
use Rattle.cat_region.specs.Regions.{Constraints, narrowed_to, last_narrowing}
use Rattle.cat_region.specs.Extents.{start, after}
use Rattle.cat_region.specs.Decided.{admits_none, decided_at}
use Rattle.cat_region.specs.Chosen.{point_at}
use Rattle.cat_region.specs.Choices.{lower_bound, decimal_at}

abbrev over : ℤ → ℕ → Fraction
over n d = record { num = n; den = d }

abbrev below : ℤ → Cut
below n = cut.Below (threshold.Whole n)

abbrev at_most : ℤ → Cut
at_most n = cut.AtMost (threshold.Whole n)

abbrev decimal_below : ℤ → ℕ → Cut
decimal_below n d = cut.Below (threshold.Decimal (over n d))

abbrev decimal_at_most : ℤ → ℕ → Cut
decimal_at_most n d = cut.AtMost (threshold.Decimal (over n d))

-- cuts: 5 is not below 5 and is at most 5; a third is below 0.34; the other truth value and the other case
five_is_not_below_five : answer (below (pos 5)) (point.Whole (pos 5)) ≡ false
five_is_not_below_five = refl

five_is_at_most_five : answer (at_most (pos 5)) (point.Whole (pos 5)) ≡ true
five_is_at_most_five = refl

a_third_is_below_34_hundredths : answer (decimal_below (pos 17) 50) (point.Decimal (over (pos 1) 3)) ≡ true
a_third_is_below_34_hundredths = refl

false_is_not_true : answer cut.IsTrue (point.Truth false) ≡ false
false_is_not_true = refl

a_case_is_no_other : answer (cut.IsCase 2) (point.Case 1) ≡ false
a_case_is_no_other = refl

-- a decimal is cut by decimals alone, and by none with ten places
cut_of_its_kind : is_cut dim.Decimal (decimal_below (pos 1) 1_000_000_000) ≡ true
unfolding gcd
cut_of_its_kind = refl

cut_of_another_kind : is_cut dim.Decimal (below (pos 1)) ≡ false
cut_of_another_kind = refl

cut_with_ten_places : is_cut dim.Decimal (decimal_below (pos 1) 10_000_000_000) ≡ false
unfolding gcd
cut_with_ten_places = refl

-- a region of one dimension
abbrev region_of : Dim → List Narrowing → Constraints
region_of d ns = record { dims = d ∷ []; narrowings = ns; room = 0 }

abbrev decided : Dim → List Narrowing → Cut → Option Bool
decided d ns c = decided_at (region_of d ns) 0 c

-- below 10 all are below 20; some, and not all, are below 5; not below 10, none is at most 9
below_10_is_below_20 : decided dim.Whole (narrowed_to 0 (below (pos 10)) true ∷ []) (below (pos 20)) ≡ Some true
unfolding decided_at admits_none start after
below_10_is_below_20 = refl

below_10_may_be_below_5 : decided dim.Whole (narrowed_to 0 (below (pos 10)) true ∷ []) (below (pos 5)) ≡ None
unfolding decided_at admits_none start after
below_10_may_be_below_5 = refl

from_10_is_past_9 : decided dim.Whole (narrowed_to 0 (below (pos 10)) false ∷ []) (at_most (pos 9)) ≡ Some false
unfolding decided_at admits_none start after
from_10_is_past_9 = refl

-- no whole number lies past the largest, and none below the least
none_past_the_largest : admits_none (region_of dim.Whole
    (narrowed_to 0 (at_most (pos 9_223_372_036_854_775_807)) false ∷ [])) ≡ true
unfolding admits_none start after
none_past_the_largest = refl

all_are_at_most_the_largest : decided dim.Whole [] (at_most (pos 9_223_372_036_854_775_807)) ≡ Some true
unfolding decided_at admits_none start after
all_are_at_most_the_largest = refl

the_least_is_below_some : decided dim.Whole [] (below (negsuc 9_223_372_036_854_775_806)) ≡ Some false
unfolding decided_at admits_none start after
the_least_is_below_some = refl

-- between neighbours of the ninth place lie decimals, and the point is the middle: 0.0000000015
abbrev between_neighbours : List Narrowing
between_neighbours =
    narrowed_to 0 (decimal_at_most (pos 1) 1_000_000_000) false ∷ narrowed_to 0 (decimal_below (pos 1) 500_000_000) true
    ∷ []

some_between_neighbours : admits_none (region_of dim.Decimal between_neighbours) ≡ false
unfolding admits_none start after
some_between_neighbours = refl

the_middle_of_neighbours : point_at (region_of dim.Decimal between_neighbours) 0 ≡ point.Decimal
    (over (pos 3) 2_000_000_000)
unfolding point_at start after lowest gcd
the_middle_of_neighbours = refl

-- the rule: its bounds are 10^-9 and 2 * 10^-9
the_bounds_of_neighbours : lower_bound (region_of dim.Decimal between_neighbours) 0 ≡ Some (over (pos 1) 1_000_000_000)
the_bounds_of_neighbours = refl

the_rule_gives_the_middle : decimal_at (region_of dim.Decimal between_neighbours) 0 ≡ over (pos 3) 2_000_000_000
unfolding lowest gcd
the_rule_gives_the_middle = refl

-- past 1/2 alone the point is 3/2; from 1/2 on it is 1/2; below -1/4 it is -5/4
past_a_half : point_at (region_of dim.Decimal (narrowed_to 0 (decimal_at_most (pos 1) 2) false ∷ [])) 0 ≡ point.Decimal
    (over (pos 3) 2)
unfolding point_at start after lowest gcd
past_a_half = refl

from_a_half : point_at (region_of dim.Decimal (narrowed_to 0 (decimal_below (pos 1) 2) false ∷ [])) 0 ≡ point.Decimal
    (over (pos 1) 2)
unfolding point_at start after lowest gcd
from_a_half = refl

below_minus_a_quarter : point_at (region_of dim.Decimal (narrowed_to 0 (decimal_below (negsuc 0) 4) true ∷ []))
    0 ≡ point.Decimal (over (negsuc 4) 4)
unfolding point_at start after lowest gcd
below_minus_a_quarter = refl

-- the point of numbers past 7 is 8, of those below -3 it is -4, and of all of them 0
past_seven : point_at (region_of dim.Whole (narrowed_to 0 (at_most (pos 7)) false ∷ [])) 0 ≡ point.Whole (pos 8)
unfolding point_at start after
past_seven = refl

below_minus_three : point_at (region_of dim.Whole (narrowed_to 0 (below (negsuc 2)) true ∷ [])) 0 ≡ point.Whole
    (negsuc 3)
unfolding point_at start after
below_minus_three = refl

-- of three cases without the first the point is the second; without the others the first is decided
without_the_first : point_at (region_of (dim.Cases 3) (narrowed_to 0 (cut.IsCase 0) false ∷ [])) 0 ≡ point.Case 1
unfolding point_at start after count_trailing_zeros
without_the_first = refl

the_only_case : decided (dim.Cases 2) (narrowed_to 0 (cut.IsCase 1) false ∷ []) (cut.IsCase 0) ≡ Some true
unfolding decided_at admits_none start after
the_only_case = refl

-- a region one of whose dimensions is empty decides nothing of the other
abbrev half_empty : Constraints
half_empty = record {
  dims = dim.Truth ∷ dim.Truth ∷ [];
  narrowings = narrowed_to 0 cut.IsTrue true ∷ narrowed_to 0 cut.IsTrue false ∷ narrowed_to 1 cut.IsTrue true ∷ [];
  room = 0;
}

nothing_is_decided_of_nothing : decided_at half_empty 1 cut.IsTrue ≡ None
unfolding decided_at admits_none start after
nothing_is_decided_of_nothing = refl

the_last_of_three : last_narrowing half_empty.narrowings ≡ Some (1, cut.IsTrue, true)
the_last_of_three = refl
