-- What the rows of operators give has the types of the operator table.
use Rattle.std.proofs.Common.{◌≡◌, ◌&&◌, Bool, true, false, IsTrue, List, map, Some, refl, sym, subst, inl, inr}
use Rattle.std.proofs.Common.{true≢false}
use Rattle.cat_pos.specs.declared.pos.Pos.{Pos}
use Rattle.cat_value.specs.declared.ty.Ty.{Ty}
use Rattle.cat_value.specs.declared.ty.Ty.TheVariants as ty
use Rattle.cat_tree.specs.declared.expression.Operator.{Operator}
use Rattle.cat_tree.specs.declared.expression.Operator.TheVariants as operator
use Rattle.cat_tree.specs.declared.expression.Prefix.{Prefix}
use Rattle.cat_tree.specs.declared.expression.Prefix.TheVariants as prefix
use Rattle.cat_scope.specs.declared.operators.BinaryOp.{BinaryOp}
use Rattle.cat_scope.specs.declared.operators.BinaryOp.TheVariants as binary
use Rattle.cat_scope.specs.declared.operators.UnaryOp.{UnaryOp}
use Rattle.cat_scope.specs.declared.operators.UnaryOp.TheVariants as unary
use Rattle.cat_scope.specs.declared.operators.SumKind.{SumKind}
use Rattle.cat_scope.specs.declared.operators.SumKind.TheVariants as sum
use Rattle.cat_scope.specs.declared.expr.Expr.{Expr}
use Rattle.cat_scope.specs.declared.expr.Expr.TheViews as expr
use Rattle.cat_scope.specs.Names.{Names, IsOneOf}
use Rattle.cat_scope.specs.Signatures.{signatures_of, taken_by, given_by, summed_type, comparison, ordered_types}
use Rattle.cat_scope.specs.Signatures.{compared_types}
use Rattle.cat_scope.specs.HasType.{HasType}
use Rattle.cat_scope.specs.HasType as typed
use Rattle.cat_names.specs.declared.typed.Flat.{Flat}
use Rattle.cat_names.specs.declared.typed.Flat.TheVariants as flat
use Rattle.cat_names.specs.Types.{whole}
use Rattle.cat_names.specs.Rows.{chosen, comparing, same_flat, is_ordered, converted, sum_kind}
use Rattle.cat_names.proofs.SameTypes.{same_is}

-- two flat types that may be ordered are one of the types with an order
has_order : (a : Flat) → IsTrue (is_ordered a) → IsOneOf (comparison (whole a)) (map comparison ordered_types)
has_order flat.Boolean h = absurd (true≢false (sym h))
has_order flat.Integer h = inl refl
has_order flat.Decimal h = inr (inl refl)
has_order flat.Money h = inr (inr (inl refl))
has_order flat.Date h = inr (inr (inr (inl refl)))
has_order flat.Duration h = inr (inr (inr (inr (inl refl))))

ordered_row : (a b : Flat) → IsTrue (is_ordered a && same_flat a b)
    → (whole b ≡ whole a) × IsOneOf (comparison (whole a)) (map comparison ordered_types)
ordered_row a b h = by (is_ordered a) refl h
  where
    by : (o : Bool) → is_ordered a ≡ o → IsTrue (o && same_flat a b)
        → (whole b ≡ whole a) × IsOneOf (comparison (whole a)) (map comparison ordered_types)
    by true e g = (sym (same_is (whole a) (whole b) g), has_order a e)
    by false e g = absurd (true≢false (sym g))

-- and so for equality
has_equality : (a : Flat) → IsOneOf (comparison (whole a)) (map comparison compared_types)
has_equality flat.Boolean = inl refl
has_equality flat.Integer = inr (inl refl)
has_equality flat.Decimal = inr (inr (inl refl))
has_equality flat.Money = inr (inr (inr (inl refl)))
has_equality flat.Date = inr (inr (inr (inr (inl refl))))
has_equality flat.Duration = inr (inr (inr (inr (inr (inl refl)))))

equal_row : (a b : Flat) → IsTrue (same_flat a b)
    → (whole b ≡ whole a) × IsOneOf (comparison (whole a)) (map comparison compared_types)
equal_row a b h = (sym (same_is (whole a) (whole b) h), has_equality a)

-- each flat type has an equality
pub is_compared : (t : Flat) → IsOneOf (whole t) compared_types
is_compared flat.Boolean = inl refl
is_compared flat.Integer = inr (inl refl)
is_compared flat.Decimal = inr (inr (inl refl))
is_compared flat.Money = inr (inr (inr (inl refl)))
is_compared flat.Date = inr (inr (inr (inr (inl refl))))
is_compared flat.Duration = inr (inr (inr (inr (inr (inl refl)))))

module _ (ns : Names) (ls : List Ty) (p q : Pos) (x y : Expr) where
  abbrev Gives : BinaryOp × Flat → Type 0
  Gives r = HasType ns ls (expr.Binary p r.0 q x y) (whole r.1)

  known : (o r : BinaryOp × Flat) → Some o ≡ Some r → Gives o → Gives r
  known o r h gives = let is : o ≡ r = cc h in subst Gives is gives

  compares : (o : BinaryOp) (a b : Flat) (test : Bool) (r : BinaryOp × Flat) → comparing o test ≡ Some r
      → (IsTrue test → (whole b ≡ whole a) × IsOneOf (comparison (whole a)) (signatures_of o))
      → HasType ns ls x (whole a) → HasType ns ls y (whole b) → Gives r
  compares o a b true r h rows hx hy = known (o, flat.Boolean) r h
      (typed.binary (comparison (whole a)) (rows refl).1 hx (subst (λ t. HasType ns ls y t) (rows refl).0 hy))
  compares o a b false r h rows hx hy = cc h

  pub row_typed : (o : Operator) (a b : Flat) (r : BinaryOp × Flat) → chosen o a b ≡ Some r
      → HasType ns ls x (whole a) → HasType ns ls y (whole b) → Gives r
  row_typed operator.Plus flat.Integer flat.Integer r h hx hy = known (binary.AddIntegers, flat.Integer) r h
      (typed.binary (record { left = ty.Integer; right = ty.Integer; result = ty.Integer }) (inl refl) hx hy)
  row_typed operator.Plus flat.Decimal flat.Decimal r h hx hy = known (binary.AddDecimals, flat.Decimal) r h
      (typed.binary (record { left = ty.Decimal; right = ty.Decimal; result = ty.Decimal }) (inl refl) hx hy)
  row_typed operator.Plus flat.Money flat.Money r h hx hy = known (binary.AddMoney, flat.Money) r h
      (typed.binary (record { left = ty.Money; right = ty.Money; result = ty.Money }) (inl refl) hx hy)
  row_typed operator.Plus flat.Date flat.Duration r h hx hy = known (binary.AddDurationToDate, flat.Date) r h
      (typed.binary (record { left = ty.Date; right = ty.Duration; result = ty.Date }) (inl refl) hx hy)
  row_typed operator.Plus flat.Duration flat.Duration r h hx hy = known (binary.AddDurations, flat.Duration) r h
      (typed.binary (record { left = ty.Duration; right = ty.Duration; result = ty.Duration }) (inl refl) hx hy)
  row_typed operator.Minus flat.Integer flat.Integer r h hx hy = known (binary.SubtractIntegers, flat.Integer) r h
      (typed.binary (record { left = ty.Integer; right = ty.Integer; result = ty.Integer }) (inl refl) hx hy)
  row_typed operator.Minus flat.Decimal flat.Decimal r h hx hy = known (binary.SubtractDecimals, flat.Decimal) r h
      (typed.binary (record { left = ty.Decimal; right = ty.Decimal; result = ty.Decimal }) (inl refl) hx hy)
  row_typed operator.Minus flat.Money flat.Money r h hx hy = known (binary.SubtractMoney, flat.Money) r h
      (typed.binary (record { left = ty.Money; right = ty.Money; result = ty.Money }) (inl refl) hx hy)
  row_typed operator.Minus flat.Date flat.Duration r h hx hy = known (binary.SubtractDurationFromDate, flat.Date) r h
      (typed.binary (record { left = ty.Date; right = ty.Duration; result = ty.Date }) (inl refl) hx hy)
  row_typed operator.Minus flat.Date flat.Date r h hx hy = known (binary.SubtractDates, flat.Duration) r h
      (typed.binary (record { left = ty.Date; right = ty.Date; result = ty.Duration }) (inl refl) hx hy)
  row_typed operator.Minus flat.Duration flat.Duration r h hx hy = known (binary.SubtractDurations, flat.Duration) r h
      (typed.binary (record { left = ty.Duration; right = ty.Duration; result = ty.Duration }) (inl refl) hx hy)
  row_typed operator.Times flat.Integer flat.Integer r h hx hy = known (binary.MultiplyIntegers, flat.Integer) r h
      (typed.binary (record { left = ty.Integer; right = ty.Integer; result = ty.Integer }) (inl refl) hx hy)
  row_typed operator.Times flat.Decimal flat.Decimal r h hx hy = known (binary.MultiplyDecimals, flat.Decimal) r h
      (typed.binary (record { left = ty.Decimal; right = ty.Decimal; result = ty.Decimal }) (inl refl) hx hy)
  row_typed operator.Times flat.Money flat.Decimal r h hx hy = known (binary.MultiplyMoneyByDecimal, flat.Money) r h
      (typed.binary (record { left = ty.Money; right = ty.Decimal; result = ty.Money }) (inl refl) hx hy)
  row_typed operator.Times flat.Decimal flat.Money r h hx hy = known (binary.MultiplyDecimalByMoney, flat.Money) r h
      (typed.binary (record { left = ty.Decimal; right = ty.Money; result = ty.Money }) (inl refl) hx hy)
  row_typed operator.Times flat.Money flat.Integer r h hx hy = known (binary.MultiplyMoneyByInteger, flat.Money) r h
      (typed.binary (record { left = ty.Money; right = ty.Integer; result = ty.Money }) (inl refl) hx hy)
  row_typed operator.Times flat.Integer flat.Money r h hx hy = known (binary.MultiplyIntegerByMoney, flat.Money) r h
      (typed.binary (record { left = ty.Integer; right = ty.Money; result = ty.Money }) (inl refl) hx hy)
  row_typed operator.Times flat.Duration flat.Integer r h hx hy =
      known (binary.MultiplyDurationByInteger, flat.Duration) r h
      (typed.binary (record { left = ty.Duration; right = ty.Integer; result = ty.Duration }) (inl refl) hx hy)
  row_typed operator.Divide flat.Integer flat.Integer r h hx hy = known (binary.DivideIntegers, flat.Decimal) r h
      (typed.binary (record { left = ty.Integer; right = ty.Integer; result = ty.Decimal }) (inl refl) hx hy)
  row_typed operator.Divide flat.Decimal flat.Decimal r h hx hy = known (binary.DivideDecimals, flat.Decimal) r h
      (typed.binary (record { left = ty.Decimal; right = ty.Decimal; result = ty.Decimal }) (inl refl) hx hy)
  row_typed operator.Divide flat.Money flat.Decimal r h hx hy = known (binary.DivideMoneyByDecimal, flat.Money) r h
      (typed.binary (record { left = ty.Money; right = ty.Decimal; result = ty.Money }) (inl refl) hx hy)
  row_typed operator.Divide flat.Money flat.Integer r h hx hy = known (binary.DivideMoneyByInteger, flat.Money) r h
      (typed.binary (record { left = ty.Money; right = ty.Integer; result = ty.Money }) (inl refl) hx hy)
  row_typed operator.Divide flat.Money flat.Money r h hx hy = known (binary.DivideMoney, flat.Decimal) r h
      (typed.binary (record { left = ty.Money; right = ty.Money; result = ty.Decimal }) (inl refl) hx hy)
  row_typed operator.Xor flat.Boolean flat.Boolean r h hx hy = known (binary.Xor, flat.Boolean) r h
      (typed.binary (record { left = ty.Boolean; right = ty.Boolean; result = ty.Boolean }) (inl refl) hx hy)
  row_typed operator.Less a b r h hx hy =
      compares binary.Less a b (is_ordered a && same_flat a b) r h (ordered_row a b) hx hy
  row_typed operator.LessEqual a b r h hx hy =
      compares binary.AtMost a b (is_ordered a && same_flat a b) r h (ordered_row a b) hx hy
  row_typed operator.Greater a b r h hx hy =
      compares binary.Greater a b (is_ordered a && same_flat a b) r h (ordered_row a b) hx hy
  row_typed operator.GreaterEqual a b r h hx hy =
      compares binary.AtLeast a b (is_ordered a && same_flat a b) r h (ordered_row a b) hx hy
  row_typed operator.Equal a b r h hx hy = compares binary.Equal a b (same_flat a b) r h (equal_row a b) hx hy
  row_typed operator.NotEqual a b r h hx hy = compares binary.Unequal a b (same_flat a b) r h (equal_row a b) hx hy
  row_typed _ _ _ r h hx hy = cc h

-- a prefix takes what it is before, and gives what is told
abbrev TakesGives : Flat → UnaryOp × Flat → Type 0
TakesGives a r = (whole a ≡ taken_by r.0) × (whole r.1 ≡ given_by r.0)

takes : (a : Flat) (o r : UnaryOp × Flat) → Some o ≡ Some r → TakesGives a o → TakesGives a r
takes a o r h has = let is : o ≡ r = cc h in subst (TakesGives a) is has

pub prefix_row : (o : Prefix) (a : Flat) (r : UnaryOp × Flat) → converted o a ≡ Some r → TakesGives a r
prefix_row prefix.Not flat.Boolean r h = takes flat.Boolean (unary.Not, flat.Boolean) r h (refl, refl)
prefix_row prefix.Negate flat.Integer r h = takes flat.Integer (unary.NegateInteger, flat.Integer) r h (refl, refl)
prefix_row prefix.Negate flat.Decimal r h = takes flat.Decimal (unary.NegateDecimal, flat.Decimal) r h (refl, refl)
prefix_row prefix.Negate flat.Money r h = takes flat.Money (unary.NegateMoney, flat.Money) r h (refl, refl)
prefix_row prefix.Negate flat.Duration r h = takes flat.Duration (unary.NegateDuration, flat.Duration) r h (refl, refl)
prefix_row prefix.IntegerOf flat.Decimal r h =
    takes flat.Decimal (unary.IntegerOfDecimal, flat.Integer) r h (refl, refl)
prefix_row prefix.DecimalOf flat.Integer r h =
    takes flat.Integer (unary.DecimalOfInteger, flat.Decimal) r h (refl, refl)
prefix_row prefix.DecimalOf flat.Money r h = takes flat.Money (unary.DecimalOfMoney, flat.Decimal) r h (refl, refl)
prefix_row prefix.MoneyOf flat.Decimal r h = takes flat.Decimal (unary.MoneyOfDecimal, flat.Money) r h (refl, refl)
prefix_row prefix.MoneyOf flat.Integer r h = takes flat.Integer (unary.MoneyOfInteger, flat.Money) r h (refl, refl)
prefix_row prefix.RoundOf flat.Decimal r h = takes flat.Decimal (unary.RoundDecimal, flat.Decimal) r h (refl, refl)
prefix_row prefix.RoundOf flat.Money r h = takes flat.Money (unary.RoundMoney, flat.Money) r h (refl, refl)
prefix_row prefix.GetYear flat.Date r h = takes flat.Date (unary.YearOfDate, flat.Integer) r h (refl, refl)
prefix_row prefix.GetMonth flat.Date r h = takes flat.Date (unary.MonthOfDate, flat.Integer) r h (refl, refl)
prefix_row prefix.GetDay flat.Date r h = takes flat.Date (unary.DayOfDate, flat.Integer) r h (refl, refl)
prefix_row _ _ r h = cc h

-- a sum adds up its type
pub sum_row : (a : Flat) (k : SumKind) → sum_kind a ≡ Some k → whole a ≡ summed_type k
sum_row flat.Integer k h = let is : sum.Integers ≡ k = cc h in subst (λ j. ty.Integer ≡ summed_type j) is refl
sum_row flat.Decimal k h = let is : sum.Decimals ≡ k = cc h in subst (λ j. ty.Decimal ≡ summed_type j) is refl
sum_row flat.Money k h = let is : sum.Money ≡ k = cc h in subst (λ j. ty.Money ≡ summed_type j) is refl
sum_row flat.Duration k h = let is : sum.Durations ≡ k = cc h in subst (λ j. ty.Duration ≡ summed_type j) is refl
sum_row _ k h = cc h
