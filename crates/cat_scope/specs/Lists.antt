-- The forms that go over the elements of a list, in their order; `of_each` tells what comes of an element.
use Rattle.std.specs.Prelude.{pos, true, false, List, [], ◌∷◌, Ok, if◌then◌else◌}
use Rattle.cat_pos.specs.declared.pos.Pos.{Pos}
use Rattle.cat_date.specs.declared.rounding.Rounding.TheVariants.{Refuse}
use Rattle.cat_value.specs.declared.value.Value.{Value}
use Rattle.cat_value.specs.declared.value.Value.TheVariants.{Boolean, Integer, Decimal, Money, Duration}
use Rattle.cat_scope.specs.declared.operators.BinaryOp.{BinaryOp}
use Rattle.cat_scope.specs.declared.operators.BinaryOp.TheVariants.{AddIntegers, AddDecimals, AddMoney, AddDurations}
use Rattle.cat_scope.specs.declared.operators.SumKind.{SumKind}
use Rattle.cat_scope.specs.declared.operators.SumKind.TheVariants as sum
use Rattle.cat_scope.specs.Replies.{Reply, on_one}
use Rattle.cat_scope.specs.Runs.{Run, gives, and_then, in_front, choose}
use Rattle.cat_scope.specs.Operators.{operate, over_one}
use Rattle.cat_scope.specs.Comparing.{equal}

-- false at the first element that gives false, else true
abbrev pub for_all : (Value → Run Value) → List Value → Run Value
for_all of_each [] = gives (Boolean true)
for_all of_each (v ∷ vs) = and_then (of_each v) (λ t. choose t (for_all of_each vs) (gives (Boolean false)))

-- true at the first element that gives true, else false
abbrev pub exists : (Value → Run Value) → List Value → Run Value
exists of_each [] = gives (Boolean false)
exists of_each (v ∷ vs) = and_then (of_each v) (λ t. choose t (gives (Boolean true)) (exists of_each vs))

-- what comes of each element
abbrev pub mapped : (Value → Run Value) → List Value → Run (List Value)
mapped of_each [] = gives []
mapped of_each (v ∷ vs) = in_front (of_each v) (mapped of_each vs)

-- the elements that give true
abbrev pub filtered : (Value → Run Value) → List Value → Run (List Value)
filtered of_each [] = gives []
filtered of_each (v ∷ vs) =
    and_then (of_each v) (λ t. choose t (in_front (gives v) (filtered of_each vs)) (filtered of_each vs))

-- what comes of an element and the total of those in front, one element after another
abbrev pub combined : (Value → Value → Run Value) → List Value → Value → Run Value
combined of_each [] total = gives total
combined of_each (v ∷ vs) total = and_then (of_each v total) (λ after. combined of_each vs after)

-- true at the first element that is equal to the value, else false
abbrev pub contained : Pos → Value → List Value → Reply
contained p value [] = Ok (Boolean false)
contained p value (v ∷ vs) = on_one (equal p v value) (λ same. if same then Ok (Boolean true) else contained p value vs)

-- the sum from zero on
abbrev pub zero_of : SumKind → Value
zero_of sum.Integers = Integer (pos 0)
zero_of sum.Decimals = Decimal (over_one (pos 0))
zero_of sum.Money = Money (pos 0)
zero_of sum.Durations = Duration (record { months = pos 0; days = pos 0 })

-- the operator that adds two of a kind
abbrev pub adding : SumKind → BinaryOp
adding sum.Integers = AddIntegers
adding sum.Decimals = AddDecimals
adding sum.Money = AddMoney
adding sum.Durations = AddDurations

-- each element is added to the total of those before it; a fault stands at `sum`
abbrev pub summed : SumKind → Pos → List Value → Value → Reply
summed kind p [] total = Ok total
summed kind p (v ∷ vs) total = on_one (operate Refuse (adding kind) p total v) (λ t. summed kind p vs t)
