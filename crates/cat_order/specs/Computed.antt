-- The order by computation.
use Rattle.std.specs.Prelude.{ℕ, zero, suc, Bool, if◌then◌else◌, List, [], ◌∷◌, ◌++◌, length, Option, Some, None}
use Rattle.std.specs.Prelude.{option_and_then}
use Rattle.std.specs.Option.{option_or}
use Rattle.cat_order.specs.Order.{is_ready}

-- the least number below a bound that passes a test
abbrev pub first_below : (ℕ → Bool) → ℕ → Option ℕ
first_below passes zero = None
first_below passes (suc bound) = option_or (first_below passes bound) (if passes bound then Some bound else None)

-- `front` with the next item put to its end so many times, unless none may come next
abbrev pub order_from : List (List ℕ) → List ℕ → ℕ → Option (List ℕ)
order_from deps front zero = Some front
order_from deps front (suc left) =
    option_and_then (λ item. order_from deps (front ++ item ∷ []) left)
    (first_below (is_ready deps front) (length deps))

-- the order of the items, or `None` where they have none
unfoldable pub order_of : List (List ℕ) → Option (List ℕ)
order_of deps = order_from deps [] (length deps)
