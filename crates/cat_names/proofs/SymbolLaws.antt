-- Each operator is written by its symbol, between operands of each of its signatures.
use Rattle.std.proofs.Common.{◌≡◌, IsTrue, List, [], ◌∷◌, map, Some, refl, rules, subst}
use Rattle.cat_scope.specs.declared.operators.BinaryOp.{BinaryOp}
use Rattle.cat_scope.specs.declared.operators.BinaryOp.TheVariants as binary
use Rattle.cat_scope.specs.declared.operators.UnaryOp.{UnaryOp}
use Rattle.cat_scope.specs.declared.operators.UnaryOp.TheVariants as unary
use Rattle.cat_scope.specs.declared.operators.SumKind.{SumKind}
use Rattle.cat_scope.specs.declared.operators.SumKind.TheVariants as sum
use Rattle.cat_scope.specs.Names.{AllHave}
use Rattle.cat_scope.specs.Signatures.{signature, signatures_of, taken_by, given_by, summed_type, comparison}
use Rattle.cat_scope.specs.Signatures.{ordered_types, compared_types}
use Rattle.cat_names.specs.declared.typed.Flat.{Flat}
use Rattle.cat_names.specs.declared.typed.Flat.TheVariants as flat
use Rattle.cat_names.specs.Types.{flat_of, whole}
use Rattle.cat_names.specs.Rows.{chosen, converted, is_ordered, prefix_for, sum_for}
use Rattle.cat_names.specs.Symbols.{symbol_between, symbol_before, StandsBetween, StandsBefore, IsFlat}
use Rattle.cat_names.proofs.TypeEquations.{views}
use Rattle.cat_names.proofs.SameTypes.{same_self}

-- each flat type is the one that it is as a type
pub whole_flat : (f : Flat) → flat_of (whole f) ≡ Some f
whole_flat flat.Boolean = search (rules, views)
whole_flat flat.Integer = search (rules, views)
whole_flat flat.Decimal = search (rules, views)
whole_flat flat.Money = search (rules, views)
whole_flat flat.Date = search (rules, views)
whole_flat flat.Duration = search (rules, views)

between : (o : BinaryOp) (a b r : Flat) → chosen (symbol_between o) a b ≡ Some (o, r)
    → StandsBetween o (record { left = whole a; right = whole b; result = whole r })
between o a b r h = record { result = r; row_is = rw (whole_flat a, whole_flat b) h; result_is = refl }

-- an operator with one signature, of flat types
one_row : (o : BinaryOp) (a b r : Flat) → chosen (symbol_between o) a b ≡ Some (o, r)
    → AllHave (StandsBetween o) (signature (whole a) (whole b) (whole r))
one_row o a b r h = (between o a b r h, tt)

-- those of each of some types that may be ordered
each_row : (o : BinaryOp)
    → ((a : Flat) → IsTrue (is_ordered a) → chosen (symbol_between o) a a ≡ Some (o, flat.Boolean))
    → (fs : List Flat) → AllHave (λ a. IsTrue (is_ordered a)) fs
    → AllHave (StandsBetween o) (map comparison (map whole fs))
each_row o row [] all = tt
each_row o row (a ∷ fs) all = (between o a a flat.Boolean (row a all.0), each_row o row fs all.1)

abbrev ordered_flats : List Flat
ordered_flats = flat.Integer ∷ flat.Decimal ∷ flat.Money ∷ flat.Date ∷ flat.Duration ∷ []

ordered_rows : (o : BinaryOp)
    → ((a : Flat) → IsTrue (is_ordered a) → chosen (symbol_between o) a a ≡ Some (o, flat.Boolean))
    → AllHave (StandsBetween o) (map comparison ordered_types)
ordered_rows o row = each_row o row ordered_flats (refl, (refl, (refl, (refl, (refl, tt)))))

pub rows_stand : (o : BinaryOp) → AllHave (StandsBetween o) (signatures_of o)
rows_stand binary.AddIntegers = one_row binary.AddIntegers flat.Integer flat.Integer flat.Integer refl
rows_stand binary.SubtractIntegers = one_row binary.SubtractIntegers flat.Integer flat.Integer flat.Integer refl
rows_stand binary.MultiplyIntegers = one_row binary.MultiplyIntegers flat.Integer flat.Integer flat.Integer refl
rows_stand binary.DivideIntegers = one_row binary.DivideIntegers flat.Integer flat.Integer flat.Decimal refl
rows_stand binary.AddDecimals = one_row binary.AddDecimals flat.Decimal flat.Decimal flat.Decimal refl
rows_stand binary.SubtractDecimals = one_row binary.SubtractDecimals flat.Decimal flat.Decimal flat.Decimal refl
rows_stand binary.MultiplyDecimals = one_row binary.MultiplyDecimals flat.Decimal flat.Decimal flat.Decimal refl
rows_stand binary.DivideDecimals = one_row binary.DivideDecimals flat.Decimal flat.Decimal flat.Decimal refl
rows_stand binary.AddMoney = one_row binary.AddMoney flat.Money flat.Money flat.Money refl
rows_stand binary.SubtractMoney = one_row binary.SubtractMoney flat.Money flat.Money flat.Money refl
rows_stand binary.MultiplyMoneyByDecimal = one_row binary.MultiplyMoneyByDecimal flat.Money flat.Decimal flat.Money refl
rows_stand binary.MultiplyDecimalByMoney = one_row binary.MultiplyDecimalByMoney flat.Decimal flat.Money flat.Money refl
rows_stand binary.MultiplyMoneyByInteger = one_row binary.MultiplyMoneyByInteger flat.Money flat.Integer flat.Money refl
rows_stand binary.MultiplyIntegerByMoney = one_row binary.MultiplyIntegerByMoney flat.Integer flat.Money flat.Money refl
rows_stand binary.DivideMoneyByDecimal = one_row binary.DivideMoneyByDecimal flat.Money flat.Decimal flat.Money refl
rows_stand binary.DivideMoneyByInteger = one_row binary.DivideMoneyByInteger flat.Money flat.Integer flat.Money refl
rows_stand binary.DivideMoney = one_row binary.DivideMoney flat.Money flat.Money flat.Decimal refl
rows_stand binary.AddDurationToDate = one_row binary.AddDurationToDate flat.Date flat.Duration flat.Date refl
rows_stand binary.SubtractDurationFromDate =
    one_row binary.SubtractDurationFromDate flat.Date flat.Duration flat.Date refl
rows_stand binary.SubtractDates = one_row binary.SubtractDates flat.Date flat.Date flat.Duration refl
rows_stand binary.AddDurations = one_row binary.AddDurations flat.Duration flat.Duration flat.Duration refl
rows_stand binary.SubtractDurations = one_row binary.SubtractDurations flat.Duration flat.Duration flat.Duration refl
rows_stand binary.MultiplyDurationByInteger =
    one_row binary.MultiplyDurationByInteger flat.Duration flat.Integer flat.Duration refl
rows_stand binary.Xor = one_row binary.Xor flat.Boolean flat.Boolean flat.Boolean refl
rows_stand binary.Less = ordered_rows binary.Less (λ a has. rw (has, same_self (whole a)) refl)
rows_stand binary.AtMost = ordered_rows binary.AtMost (λ a has. rw (has, same_self (whole a)) refl)
rows_stand binary.Greater = ordered_rows binary.Greater (λ a has. rw (has, same_self (whole a)) refl)
rows_stand binary.AtLeast = ordered_rows binary.AtLeast (λ a has. rw (has, same_self (whole a)) refl)
rows_stand binary.Equal = (
  between binary.Equal flat.Boolean flat.Boolean flat.Boolean (rw (same_self (whole flat.Boolean)) refl),
  ordered_rows binary.Equal (λ a has. rw (same_self (whole a)) refl),
)
rows_stand binary.Unequal = (
  between binary.Unequal flat.Boolean flat.Boolean flat.Boolean (rw (same_self (whole flat.Boolean)) refl),
  ordered_rows binary.Unequal (λ a has. rw (same_self (whole a)) refl),
)

before : (o : UnaryOp) (a r : Flat) → converted (symbol_before o) a ≡ Some (o, r) → whole a ≡ taken_by o
    → whole r ≡ given_by o → StandsBefore o
before o a r h takes gives = record {
  result = r;
  row_is = subst (λ t. prefix_for (symbol_before o) t ≡ Some (o, r)) takes (rw (whole_flat a) h);
  result_is = gives;
}

pub prefix_stands : (o : UnaryOp) → StandsBefore o
prefix_stands unary.NegateInteger = before unary.NegateInteger flat.Integer flat.Integer refl refl refl
prefix_stands unary.NegateDecimal = before unary.NegateDecimal flat.Decimal flat.Decimal refl refl refl
prefix_stands unary.NegateMoney = before unary.NegateMoney flat.Money flat.Money refl refl refl
prefix_stands unary.NegateDuration = before unary.NegateDuration flat.Duration flat.Duration refl refl refl
prefix_stands unary.Not = before unary.Not flat.Boolean flat.Boolean refl refl refl
prefix_stands unary.IntegerOfDecimal = before unary.IntegerOfDecimal flat.Decimal flat.Integer refl refl refl
prefix_stands unary.DecimalOfInteger = before unary.DecimalOfInteger flat.Integer flat.Decimal refl refl refl
prefix_stands unary.DecimalOfMoney = before unary.DecimalOfMoney flat.Money flat.Decimal refl refl refl
prefix_stands unary.MoneyOfDecimal = before unary.MoneyOfDecimal flat.Decimal flat.Money refl refl refl
prefix_stands unary.MoneyOfInteger = before unary.MoneyOfInteger flat.Integer flat.Money refl refl refl
prefix_stands unary.RoundDecimal = before unary.RoundDecimal flat.Decimal flat.Decimal refl refl refl
prefix_stands unary.RoundMoney = before unary.RoundMoney flat.Money flat.Money refl refl refl
prefix_stands unary.YearOfDate = before unary.YearOfDate flat.Date flat.Integer refl refl refl
prefix_stands unary.MonthOfDate = before unary.MonthOfDate flat.Date flat.Integer refl refl refl
prefix_stands unary.DayOfDate = before unary.DayOfDate flat.Date flat.Integer refl refl refl

pub sum_stands : (k : SumKind) → sum_for (summed_type k) ≡ Some k
sum_stands sum.Integers = rw (whole_flat flat.Integer) refl
sum_stands sum.Decimals = rw (whole_flat flat.Decimal) refl
sum_stands sum.Money = rw (whole_flat flat.Money) refl
sum_stands sum.Durations = rw (whole_flat flat.Duration) refl

each_flat : (fs : List Flat) → AllHave IsFlat (map whole fs)
each_flat [] = tt
each_flat (f ∷ fs) = (record { flat = f; flat_is = whole_flat f; whole_is = refl }, each_flat fs)

pub compared_flat : AllHave IsFlat compared_types
compared_flat = each_flat (flat.Boolean ∷ ordered_flats)
