-- What the tests of literals, of operators and of patterns say.
use Rattle.std.proofs.Common.{◌≡◌, ◌<◌, ℕ, ℤ, Bool, true, false, not, IsTrue, List, [], ◌∷◌, Some, slice_get, refl, sym}
use Rattle.std.proofs.Common.{ap, ◌∙◌, arith}
use Rattle.std.specs.Prelude.{nat_eq, nat_lt}
use Rattle.std.specs.Ordering.{int_eq}
use Rattle.std.proofs.lemmas.Bool.Decides.{nat_tests, Decides-int_eq}
use Rattle.cat_scope.specs.declared.expr.Literal.{Literal}
use Rattle.cat_scope.specs.declared.expr.Literal.TheVariants as literal
use Rattle.cat_scope.specs.declared.expr.ArmPattern.{ArmPattern}
use Rattle.cat_scope.specs.declared.expr.ArmPattern.TheVariants as pattern
use Rattle.cat_scope.specs.declared.operators.UnaryOp.{UnaryOp}
use Rattle.cat_scope.specs.declared.operators.UnaryOp.TheVariants as unary
use Rattle.cat_scope.specs.declared.operators.BinaryOp.{BinaryOp}
use Rattle.cat_scope.specs.declared.operators.BinaryOp.TheVariants as binary
use Rattle.cat_scope.specs.declared.operators.SumKind.{SumKind}
use Rattle.cat_scope.specs.declared.operators.SumKind.TheVariants as sum
use Rattle.cat_scope.specs.Comparing.{differ}
use Rattle.cat_scope.specs.OperatorNumbers.{unary_number, binary_number, sum_number}
use Rattle.cat_scope.specs.SameTree.{same_literal, same_pattern}
use Rattle.cat_sound.proofs.Results.{both, and_both}
use Rattle.cat_sound.proofs.FormTypes.{same_number, same_some, not_true}

-- ---- operators, in the order of their numbers

abbrev unaries : List UnaryOp
unaries =
    unary.NegateInteger ∷ unary.NegateDecimal ∷ unary.NegateMoney ∷ unary.NegateDuration ∷ unary.Not ∷
    unary.IntegerOfDecimal ∷ unary.DecimalOfInteger ∷ unary.DecimalOfMoney ∷ unary.MoneyOfDecimal ∷ unary.MoneyOfInteger
    ∷
    unary.RoundDecimal ∷ unary.RoundMoney ∷ unary.YearOfDate ∷ unary.MonthOfDate ∷ unary.DayOfDate ∷ []

abbrev binaries : List BinaryOp
binaries =
    binary.AddIntegers ∷ binary.SubtractIntegers ∷ binary.MultiplyIntegers ∷ binary.DivideIntegers ∷ binary.AddDecimals
    ∷
    binary.SubtractDecimals ∷ binary.MultiplyDecimals ∷ binary.DivideDecimals ∷ binary.AddMoney ∷ binary.SubtractMoney ∷
    binary.MultiplyMoneyByDecimal ∷ binary.MultiplyDecimalByMoney ∷ binary.MultiplyMoneyByInteger ∷
    binary.MultiplyIntegerByMoney ∷ binary.DivideMoneyByDecimal ∷ binary.DivideMoneyByInteger ∷ binary.DivideMoney ∷
    binary.AddDurationToDate ∷ binary.SubtractDurationFromDate ∷ binary.SubtractDates ∷ binary.AddDurations ∷
    binary.SubtractDurations ∷ binary.MultiplyDurationByInteger ∷ binary.Xor ∷ binary.Less ∷ binary.AtMost ∷
    binary.Greater ∷ binary.AtLeast ∷ binary.Equal ∷ binary.Unequal ∷ []

abbrev sums : List SumKind
sums = sum.Integers ∷ sum.Decimals ∷ sum.Money ∷ sum.Durations ∷ []

unary_there : (o : UnaryOp) → slice_get unaries (unary_number o) ≡ Some o
unary_there unary.Not = refl
unary_there _ = refl

binary_there : (o : BinaryOp) → slice_get binaries (binary_number o) ≡ Some o
binary_there binary.Xor = refl
binary_there _ = refl

sum_there : (k : SumKind) → slice_get sums (sum_number k) ≡ Some k
sum_there sum.Money = refl
sum_there _ = refl

-- two of one number are one
of_one_number : {A : Type 0} (all : List A) (number : A → ℕ) → ((x : A) → slice_get all (number x) ≡ Some x) → (x y : A)
    → IsTrue (nat_eq (number x) (number y)) → x ≡ y
of_one_number all number there x y h =
    same_some x y (sym (there x) ∙ ap (λ (n : ℕ). slice_get all n) (same_number (number x) (number y) h) ∙ there y)

pub unary_same : (o u : UnaryOp) → IsTrue (nat_eq (unary_number o) (unary_number u)) → o ≡ u
unary_same = of_one_number unaries unary_number unary_there

pub binary_same : (o u : BinaryOp) → IsTrue (nat_eq (binary_number o) (binary_number u)) → o ≡ u
binary_same = of_one_number binaries binary_number binary_there

pub sum_same : (k l : SumKind) → IsTrue (nat_eq (sum_number k) (sum_number l)) → k ≡ l
sum_same = of_one_number sums sum_number sum_there

-- ---- literals, patterns and local names

int_same : (a b : ℤ) → IsTrue (int_eq a b) → a ≡ b
int_same a b h = (Decides-int_eq a b).0 h

int_self : (a : ℤ) → IsTrue (int_eq a a)
int_self a = (Decides-int_eq a a).1 refl

pub nat_self : (n : ℕ) → IsTrue (nat_eq n n)
nat_self n = grind (arith, nat_tests)

bool_same : (a b : Bool) → IsTrue (not (differ a b)) → a ≡ b
bool_same true true h = refl
bool_same true false h = not_true h
bool_same false true h = not_true h
bool_same false false h = refl

bool_self : (a : Bool) → IsTrue (not (differ a a))
bool_self true = refl
bool_self false = refl

pub literal_same : (l m : Literal) → IsTrue (same_literal l m) → l ≡ m
literal_same (literal.Boolean a) (literal.Boolean b) h = ap literal.Boolean (bool_same a b h)
literal_same (literal.Integer a) (literal.Integer b) h = ap literal.Integer (int_same a b h)
literal_same (literal.Decimal a) (literal.Decimal b) h =
    let two = both (nat_eq a.digits b.digits) (nat_eq a.places b.places) h in
    ap (λ (n : ℕ). literal.Decimal (record { digits = n; places = a.places })) (same_number a.digits b.digits two.0)
    ∙ ap (λ (n : ℕ). literal.Decimal (record { digits = b.digits; places = n })) (same_number a.places b.places two.1)
literal_same (literal.Money a) (literal.Money b) h = ap literal.Money (int_same a b h)
literal_same (literal.Date a) (literal.Date b) h = ap literal.Date (int_same a b h)
literal_same (literal.Duration a) (literal.Duration b) h =
    let two = both (int_eq a.months b.months) (int_eq a.days b.days) h in
    ap (λ (n : ℤ). literal.Duration (record { months = n; days = a.days })) (int_same a.months b.months two.0)
    ∙ ap (λ (d : ℤ). literal.Duration (record { months = b.months; days = d })) (int_same a.days b.days two.1)
literal_same _ _ h = not_true h

pub literal_self : (l : Literal) → IsTrue (same_literal l l)
literal_self (literal.Boolean a) = bool_self a
literal_self (literal.Integer a) = int_self a
literal_self (literal.Decimal a) = and_both _ _ (nat_self a.digits) (nat_self a.places)
literal_self (literal.Money a) = int_self a
literal_self (literal.Date a) = int_self a
literal_self (literal.Duration a) = and_both _ _ (int_self a.months) (int_self a.days)

pub pattern_same : (p q : ArmPattern) → IsTrue (same_pattern p q) → p ≡ q
pattern_same (pattern.Case k bound) (pattern.Case m other) h =
    let two = both (nat_eq k m) (not (differ bound other)) h in
    ap (λ (n : ℕ). pattern.Case n bound) (same_number k m two.0) ∙ ap (λ (b : Bool). pattern.Case m b)
    (bool_same bound other two.1)
pattern_same pattern.Anything pattern.Anything h = refl
pattern_same _ _ h = not_true h

pub pattern_self : (p : ArmPattern) → IsTrue (same_pattern p p)
pattern_self (pattern.Case k bound) = and_both _ _ (nat_self k) (bool_self bound)
pattern_self pattern.Anything = refl

pub below_is : (k n : ℕ) → IsTrue (nat_lt k n) → k < n
below_is k n h = grind (arith, nat_tests)

pub is_below : (k n : ℕ) → k < n → IsTrue (nat_lt k n)
is_below k n h = grind (arith, nat_tests)
