-- Orders worked out by hand.
use Rattle.std.proofs.Common.{◌≡◌, List, ℕ, [], ◌∷◌, refl, true, false, ap, get_or, arith}
use Rattle.std.specs.Prelude.{Option, Some, None, unwrap_or}
use Rattle.cat_order.specs.Order.{is_ready, IsOrder}
use Rattle.cat_order.specs.Computed.{order_of}
use Rattle.cat_order.specs.Cycle.{IsOnCycle}
use Rattle.cat_order.proofs.Theorems.{order_of-iff_IsOrder}

abbrev none : List ℕ
none = []

no_items_have_the_empty_order : order_of [] ≡ Some []
unfolding order_of is_ready
no_items_have_the_empty_order = refl

items_without_dependencies_stay_as_declared : order_of (none ∷ none ∷ none ∷ []) ≡ Some (0 ∷ 1 ∷ 2 ∷ [])
unfolding order_of is_ready
items_without_dependencies_stay_as_declared = refl

an_item_waits_for_a_later_one : order_of ((1 ∷ []) ∷ none ∷ (0 ∷ []) ∷ []) ≡ Some (1 ∷ 0 ∷ 2 ∷ [])
unfolding order_of is_ready
an_item_waits_for_a_later_one = refl

-- 3 needs 1 and 2, which both need 0
a_diamond_keeps_the_order_of_its_sides : order_of (none ∷ (0 ∷ []) ∷ (0 ∷ []) ∷ (2 ∷ 1 ∷ []) ∷ []) ≡ Some
    (0 ∷ 1 ∷ 2 ∷ 3 ∷ [])
unfolding order_of is_ready
a_diamond_keeps_the_order_of_its_sides = refl

-- 0 waits for 2; once 2 is listed, 0 comes before 3 again
an_item_comes_as_soon_as_it_is_ready : order_of ((2 ∷ []) ∷ none ∷ none ∷ none ∷ []) ≡ Some (1 ∷ 2 ∷ 0 ∷ 3 ∷ [])
unfolding order_of is_ready
an_item_comes_as_soon_as_it_is_ready = refl

a_repeated_dependency_counts_once : order_of ((1 ∷ 1 ∷ []) ∷ none ∷ []) ≡ Some (1 ∷ 0 ∷ [])
unfolding order_of is_ready
a_repeated_dependency_counts_once = refl

two_items_that_need_each_other_have_no_order : order_of ((1 ∷ []) ∷ (0 ∷ []) ∷ []) ≡ None
unfolding order_of is_ready
two_items_that_need_each_other_have_no_order = refl

an_item_that_needs_itself_has_no_order : order_of (none ∷ (1 ∷ []) ∷ []) ≡ None
unfolding order_of is_ready
an_item_that_needs_itself_has_no_order = refl

an_item_that_needs_no_item_has_no_order : order_of ((7 ∷ []) ∷ []) ≡ None
unfolding order_of is_ready
an_item_that_needs_no_item_has_no_order = refl

-- 0 needs 1, 1 needs 2, and 2 needs 0
each_of_three_in_a_ring_is_on_a_cycle : IsOnCycle ((1 ∷ []) ∷ (2 ∷ []) ∷ (0 ∷ []) ∷ []) 1
unfolding IsOnCycle
each_of_three_in_a_ring_is_on_a_cycle = (2 ∷ 0 ∷ [], (refl, (refl, refl)))

an_item_that_needs_itself_is_on_a_cycle : IsOnCycle (none ∷ (1 ∷ []) ∷ []) 1
unfolding IsOnCycle
an_item_that_needs_itself_is_on_a_cycle = ([], refl)

an_item_is_ready_once_it_stands_alone : is_ready ((1 ∷ []) ∷ none ∷ []) [] 1 ≡ true
unfolding is_ready
an_item_is_ready_once_it_stands_alone = refl

an_item_is_not_ready_twice : is_ready ((1 ∷ []) ∷ none ∷ []) (1 ∷ []) 1 ≡ false
unfolding is_ready
an_item_is_not_ready_twice = refl

a_list_with_each_item_in_its_place_is_the_order : IsOrder ((1 ∷ []) ∷ none ∷ (0 ∷ []) ∷ []) (1 ∷ 0 ∷ 2 ∷ [])
unfolding order_of is_ready
a_list_with_each_item_in_its_place_is_the_order =
    (order_of-iff_IsOrder ((1 ∷ []) ∷ none ∷ (0 ∷ []) ∷ []) (1 ∷ 0 ∷ 2 ∷ [])).0 refl

-- both items are ready, and 0 comes first
a_later_item_does_not_come_first : IsOrder (none ∷ none ∷ []) (1 ∷ 0 ∷ []) → ⊥
unfolding order_of is_ready
a_later_item_does_not_come_first other =
    let computed : order_of (none ∷ none ∷ []) ≡ Some (1 ∷ 0 ∷ []) =
    (order_of-iff_IsOrder (none ∷ none ∷ []) (1 ∷ 0 ∷ [])).1 other in
    let zero_is_one : ◌≡◌ {A = ℕ} 0 1 = ap (λ (o : Option (List ℕ)). get_or (unwrap_or o []) 0 0) computed in
    absurd (omega arith)
