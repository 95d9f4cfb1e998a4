-- How two values of one type stand to each other, and whether they are equal.
use Rattle.std.specs.Prelude.{Bool, true, false, not, Result, Ok, Err}
use Rattle.std.specs.declared.cmp.Ordering.{Ordering}
use Rattle.std.specs.declared.cmp.Ordering.TheVariants as order
use Rattle.std.specs.Ordering.{int_cmp}
use Rattle.cat_pos.specs.declared.pos.Pos.{Pos}
use Rattle.cat_num.specs.Frac.{frac_order}
use Rattle.cat_date.specs.Span.{compared_spans}
use Rattle.cat_value.specs.declared.value.Value.{Value}
use Rattle.cat_value.specs.declared.value.Value.TheOpen.{Value-F}
use Rattle.cat_value.specs.declared.value.Value.TheViews.{out-Value}
use Rattle.cat_scope.specs.declared.stop.Stop.{Stop}
use Rattle.cat_scope.specs.declared.stop.Stop.TheVariants.{Stuck}
use Rattle.cat_scope.specs.Replies.{on_one, dated}
use Rattle.cat_scope.specs.Projections.{truth, integer, decimal, money, date, duration}

-- how two values of one type stand to each other
abbrev pub compared_in : Pos → Value-F Value → Value → Result Ordering Stop
compared_in p (Value-F.Integer a) w = on_one (integer w) (λ b. Ok (int_cmp a b))
compared_in p (Value-F.Decimal f) w = on_one (decimal w) (λ g. Ok (frac_order f g))
compared_in p (Value-F.Money a) w = on_one (money w) (λ b. Ok (int_cmp a b))
compared_in p (Value-F.Date a) w = on_one (date w) (λ b. Ok (int_cmp a b))
compared_in p (Value-F.Duration a) w = on_one (duration w) (λ b. dated p (λ o. o) (compared_spans a b))
compared_in p _ w = Err Stuck

-- how a value stands to another of its type
abbrev pub compared : Pos → Value → Value → Result Ordering Stop
compared p v w = compared_in p (out-Value v) w

-- the left one is smaller
abbrev pub is_less : Ordering → Bool
is_less order.Less = true
is_less order.Equal = false
is_less order.Greater = false

-- neither is smaller
abbrev pub is_equal : Ordering → Bool
is_equal order.Less = false
is_equal order.Equal = true
is_equal order.Greater = false

-- the left one is larger
abbrev pub is_greater : Ordering → Bool
is_greater order.Less = false
is_greater order.Equal = false
is_greater order.Greater = true

-- one of two truth values holds, and the other does not
abbrev pub differ : Bool → Bool → Bool
differ true b = not b
differ false b = b

-- whether two values of one type are equal
abbrev pub equal_in : Pos → Value-F Value → Value → Value → Result Bool Stop
equal_in p (Value-F.Boolean a) v w = on_one (truth w) (λ b. Ok (not (differ a b)))
equal_in p _ v w = on_one (compared p v w) (λ o. Ok (is_equal o))

-- the same for a value whose type is not known yet
abbrev pub equal : Pos → Value → Value → Result Bool Stop
equal p v w = equal_in p (out-Value v) v w
