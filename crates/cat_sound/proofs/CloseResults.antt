-- Operators give the same value or none wherever they stand.
use Rattle.std.proofs.Common.{◌≡◌, pos, Bool, true, false, List, [], ◌∷◌, Option}
use Rattle.std.proofs.Common.{Some, None, Result, Ok, Err, refl, ap, ◌∙◌, if◌then◌else◌}
use Rattle.cat_pos.specs.declared.pos.Pos.{Pos}
use Rattle.cat_num.specs.declared.fault.NumFault.{NumFault}
use Rattle.cat_num.specs.Whole.{whole_sum, whole_difference, whole_product}
use Rattle.cat_num.specs.Frac.{frac_of, frac_sum, frac_difference, frac_product, frac_quotient}
use Rattle.cat_num.specs.Rounding.{rounded_ratio, money_product, money_quotient}
use Rattle.cat_date.specs.declared.fault.DateFault.{DateFault}
use Rattle.cat_date.specs.declared.rounding.Rounding.{Rounding}
use Rattle.cat_date.specs.declared.rounding.Rounding.TheVariants.{Refuse}
use Rattle.cat_date.specs.Add.{day_plus_span}
use Rattle.cat_date.specs.Span.{span_sum, span_difference, span_multiple, span_negated, compared_spans}
use Rattle.cat_value.specs.declared.value.Value.{Value}
use Rattle.cat_value.specs.declared.value.Value.TheOpen.{Value-F}
use Rattle.cat_value.specs.declared.value.Value.TheVariants as flat
use Rattle.cat_value.specs.declared.value.Value.TheViews.{out-Value}
use Rattle.cat_scope.specs.declared.stop.Stop.{Stop}
use Rattle.cat_scope.specs.declared.operators.UnaryOp.{UnaryOp}
use Rattle.cat_scope.specs.declared.operators.UnaryOp.TheVariants as unary
use Rattle.cat_scope.specs.declared.operators.BinaryOp.{BinaryOp}
use Rattle.cat_scope.specs.declared.operators.BinaryOp.TheVariants as binary
use Rattle.cat_scope.specs.declared.operators.SumKind.{SumKind}
use Rattle.cat_scope.specs.Replies.{on_one, exact, dated}
use Rattle.cat_scope.specs.Projections as read
use Rattle.cat_scope.specs.Comparing.{compared, compared_in, equal, equal_in}
use Rattle.cat_scope.specs.Operators.{on_two, convert, operate}
use Rattle.cat_scope.specs.Lists.{contained, adding, summed}
use Rattle.cat_scope.specs.Same.{kept}

-- ---- where nothing is decided

abbrev pub Close : {A : Type 0} → Result A Stop → Result A Stop → Type 0
Close r s = kept r ≡ kept s

abbrev pub or_this : {A : Type 0} → A → Option A → A
or_this a None = a
or_this a (Some b) = b

then_close : {A B : Type 0} (r s : Result A Stop) (f g : A → Result B Stop) → Close r s → ((a : A) → Close (f a) (g a))
    → Close (on_one r f) (on_one s g)
then_close (Ok a) (Ok b) f g h k = k a ∙ ap (λ x. kept (g x)) (ap (or_this a) h)
then_close (Ok a) (Err t) f g h k = absurd (cc)
then_close (Err t) (Ok b) f g h k = absurd (cc)
then_close (Err t) (Err u) f g h k = refl

if_close : (b : Bool) (r s : Result Value Stop) → Close r s → Close (if b then Ok (flat.Boolean true) else r)
    (if b then Ok (flat.Boolean true) else s)
if_close true r s h = refl
if_close false r s h = h

two_close : {A B C : Type 0} (r : Result A Stop) (s : Result B Stop) (f g : A → B → Result C Stop)
    → ((a : A) (b : B) → Close (f a b) (g a b)) → Close (on_two r s f) (on_two r s g)
two_close (Ok a) (Ok b) f g h = h a b
two_close (Ok a) (Err stop) f g h = refl
two_close (Err stop) s f g h = refl

exact_close : {A : Type 0} (p q : Pos) (make : A → Value) (r : Result A NumFault) → Close (exact p make r)
    (exact q make r)
exact_close p q make (Ok a) = refl
exact_close p q make (Err fault) = refl

dated_close : {A B : Type 0} (p q : Pos) (make : A → B) (r : Result A DateFault) → Close (dated p make r)
    (dated q make r)
dated_close p q make (Ok a) = refl
dated_close p q make (Err fault) = refl

compared_close : (p q : Pos) (v w : Value) → Close (compared p v w) (compared q v w)
compared_close p q v w = by (out-Value v)
  where
    by : (y : Value-F Value) → Close (compared_in p y w) (compared_in q y w)
    by (Value-F.Duration a) =
        then_close (read.duration w) (read.duration w) _ _ refl (λ b. dated_close p q (λ o. o) (compared_spans a b))
    by _ = refl

equal_close : (p q : Pos) (v w : Value) → Close (equal p v w) (equal q v w)
equal_close p q v w = by (out-Value v)
  where
    by : (y : Value-F Value) → Close (equal_in p y v w) (equal_in q y v w)
    by (Value-F.Boolean a) = refl
    by _ = then_close (compared p v w) (compared q v w) _ _ (compared_close p q v w) (λ o. refl)

pub convert_close : (o : UnaryOp) (p q : Pos) (v : Value) → Close (convert o p v) (convert o q v)
convert_close unary.NegateInteger p q v = refl
convert_close unary.NegateDecimal p q v = refl
convert_close unary.NegateMoney p q v = refl
convert_close unary.NegateDuration p q v = refl
convert_close unary.Not p q v = refl
convert_close unary.IntegerOfDecimal p q v = refl
convert_close unary.DecimalOfInteger p q v = refl
convert_close unary.DecimalOfMoney p q v = refl
convert_close unary.RoundDecimal p q v = refl
convert_close unary.RoundMoney p q v = refl
convert_close unary.YearOfDate p q v = refl
convert_close unary.MonthOfDate p q v = refl
convert_close unary.DayOfDate p q v = refl
convert_close unary.MoneyOfDecimal p q v =
    then_close (read.decimal v) (read.decimal v) _ _ refl (λ f. exact_close p q flat.Money (money_product (pos 100) f))
convert_close unary.MoneyOfInteger p q v =
    then_close (read.integer v) (read.integer v) _ _ refl (λ n. exact_close p q flat.Money (whole_product n (pos 100)))

pub operate_close : (r : Rounding) (o : BinaryOp) (p q : Pos) (v w : Value) → Close (operate r o p v w)
    (operate r o q v w)
operate_close r binary.AddIntegers p q v w =
    two_close (read.integer v) (read.integer w) _ _ (λ a b. exact_close p q flat.Integer (whole_sum a b))
operate_close r binary.SubtractIntegers p q v w =
    two_close (read.integer v) (read.integer w) _ _ (λ a b. exact_close p q flat.Integer (whole_difference a b))
operate_close r binary.MultiplyIntegers p q v w =
    two_close (read.integer v) (read.integer w) _ _ (λ a b. exact_close p q flat.Integer (whole_product a b))
operate_close r binary.DivideIntegers p q v w =
    two_close (read.integer v) (read.integer w) _ _ (λ a b. exact_close p q flat.Decimal (frac_of a b))
operate_close r binary.AddDecimals p q v w =
    two_close (read.decimal v) (read.decimal w) _ _ (λ a b. exact_close p q flat.Decimal (frac_sum a b))
operate_close r binary.SubtractDecimals p q v w =
    two_close (read.decimal v) (read.decimal w) _ _ (λ a b. exact_close p q flat.Decimal (frac_difference a b))
operate_close r binary.MultiplyDecimals p q v w =
    two_close (read.decimal v) (read.decimal w) _ _ (λ a b. exact_close p q flat.Decimal (frac_product a b))
operate_close r binary.DivideDecimals p q v w =
    two_close (read.decimal v) (read.decimal w) _ _ (λ a b. exact_close p q flat.Decimal (frac_quotient a b))
operate_close r binary.AddMoney p q v w =
    two_close (read.money v) (read.money w) _ _ (λ a b. exact_close p q flat.Money (whole_sum a b))
operate_close r binary.SubtractMoney p q v w =
    two_close (read.money v) (read.money w) _ _ (λ a b. exact_close p q flat.Money (whole_difference a b))
operate_close r binary.MultiplyMoneyByDecimal p q v w =
    two_close (read.money v) (read.decimal w) _ _ (λ a b. exact_close p q flat.Money (money_product a b))
operate_close r binary.MultiplyDecimalByMoney p q v w =
    two_close (read.decimal v) (read.money w) _ _ (λ a b. exact_close p q flat.Money (money_product b a))
operate_close r binary.MultiplyMoneyByInteger p q v w =
    two_close (read.money v) (read.integer w) _ _ (λ a b. exact_close p q flat.Money (whole_product a b))
operate_close r binary.MultiplyIntegerByMoney p q v w =
    two_close (read.integer v) (read.money w) _ _ (λ a b. exact_close p q flat.Money (whole_product a b))
operate_close r binary.DivideMoneyByDecimal p q v w =
    two_close (read.money v) (read.decimal w) _ _ (λ a b. exact_close p q flat.Money (money_quotient a b))
operate_close r binary.DivideMoneyByInteger p q v w =
    two_close (read.money v) (read.integer w) _ _ (λ a b. exact_close p q flat.Money (rounded_ratio a b))
operate_close r binary.DivideMoney p q v w =
    two_close (read.money v) (read.money w) _ _ (λ a b. exact_close p q flat.Decimal (frac_of a b))
operate_close r binary.AddDurationToDate p q v w =
    two_close (read.date v) (read.duration w) _ _ (λ a b. dated_close p q flat.Date (day_plus_span a b r))
operate_close r binary.SubtractDurationFromDate p q v w =
    two_close (read.date v) (read.duration w) _ _
    (λ a b. dated_close p q flat.Date (day_plus_span a (span_negated b) r))
operate_close r binary.AddDurations p q v w =
    two_close (read.duration v) (read.duration w) _ _ (λ a b. dated_close p q flat.Duration (span_sum a b))
operate_close r binary.SubtractDurations p q v w =
    two_close (read.duration v) (read.duration w) _ _ (λ a b. dated_close p q flat.Duration (span_difference a b))
operate_close r binary.MultiplyDurationByInteger p q v w =
    two_close (read.duration v) (read.integer w) _ _ (λ a b. dated_close p q flat.Duration (span_multiple a b))
operate_close r binary.SubtractDates p q v w = refl
operate_close r binary.Xor p q v w = refl
operate_close r binary.Less p q v w = then_close (compared p v w) (compared q v w) _ _ (compared_close p q v w)
    (λ o. refl)
operate_close r binary.AtMost p q v w = then_close (compared p v w) (compared q v w) _ _ (compared_close p q v w)
    (λ o. refl)
operate_close r binary.Greater p q v w = then_close (compared p v w) (compared q v w) _ _ (compared_close p q v w)
    (λ o. refl)
operate_close r binary.AtLeast p q v w = then_close (compared p v w) (compared q v w) _ _ (compared_close p q v w)
    (λ o. refl)
operate_close r binary.Equal p q v w = then_close (equal p v w) (equal q v w) _ _ (equal_close p q v w) (λ b. refl)
operate_close r binary.Unequal p q v w = then_close (equal p v w) (equal q v w) _ _ (equal_close p q v w) (λ b. refl)

pub contained_close : (p q : Pos) (v : Value) (vs : List Value) → Close (contained p v vs) (contained q v vs)
contained_close p q v [] = refl
contained_close p q v (w ∷ vs) = then_close (equal p w v) (equal q w v) _ _ (equal_close p q w v)
    (λ b. if_close b (contained p v vs) (contained q v vs) (contained_close p q v vs))

pub summed_close : (k : SumKind) (p q : Pos) (vs : List Value) (total : Value) → Close (summed k p vs total)
    (summed k q vs total)
summed_close k p q [] total = refl
summed_close k p q (v ∷ vs) total = then_close (operate Refuse (adding k) p total v)
    (operate Refuse (adding k) q total v) _ _ (operate_close Refuse (adding k) p q total v)
    (λ t. summed_close k p q vs t)
