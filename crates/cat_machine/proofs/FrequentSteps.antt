-- What the operators give that stand most often.
use Rattle.std.proofs.Common.{◌≡◌, ◌∙◌, ℤ, Option, Some, None, IfSome, Result, Ok, Err, refl, ap}
use Rattle.std.specs.declared.cmp.Ordering.{Ordering}
use Rattle.std.specs.Ordering.{int_cmp}
use Rattle.cat_pos.specs.declared.pos.Pos.{Pos}
use Rattle.cat_num.specs.Frac.{Fraction}
use Rattle.cat_num.specs.declared.fault.NumFault.{NumFault}
use Rattle.cat_date.specs.declared.rounding.Rounding.{Rounding}
use Rattle.cat_value.specs.declared.value.Value.{Value}
use Rattle.cat_value.specs.declared.value.Value.TheOpen.{Value-F}
use Rattle.cat_value.specs.declared.value.Value.TheVariants as flat
use Rattle.cat_value.specs.declared.value.Value.TheViews.{out-Value}
use Rattle.cat_scope.specs.declared.operators.BinaryOp.{BinaryOp}
use Rattle.cat_scope.specs.declared.stop.Stop.{Stop}
use Rattle.cat_scope.specs.Comparing.{compared, compared_in}
use Rattle.cat_scope.specs.Operators.{on_two, operate}
use Rattle.cat_scope.specs.Projections.{decimal, decimal_in, integer, integer_in, money, money_in}
use Rattle.cat_scope.specs.Replies.{exact, on_one}
use Rattle.cat_scalar.specs.declared.scalar.Scalar.{Scalar}
use Rattle.cat_scalar.specs.declared.scalar.Scalar.TheVariants as scalar
use Rattle.cat_scalar.specs.Scalars.{scalar_in, scalar_of, scalar_reply}
use Rattle.cat_machine.specs.inside.Frequent.{Gives, GivesBy, exact_in}

-- ---- a value in which a number is

integer_at : (y : Value-F Value) (n : ℤ) → scalar_in y ≡ scalar.Integer n → integer_in y ≡ Ok n
integer_at (Value-F.Integer m) n is = let same : m ≡ n = cc is in ap (λ (k : ℤ). Ok k) same
integer_at _ n is = absurd (cc is)

money_at : (y : Value-F Value) (n : ℤ) → scalar_in y ≡ scalar.Money n → money_in y ≡ Ok n
money_at (Value-F.Money m) n is = let same : m ≡ n = cc is in ap (λ (k : ℤ). Ok k) same
money_at _ n is = absurd (cc is)

decimal_at : (y : Value-F Value) (f : Fraction) → scalar_in y ≡ scalar.Decimal f → decimal_in y ≡ Ok f
decimal_at (Value-F.Decimal g) f is = let same : g ≡ f = cc is in ap (λ (h : Fraction). Ok h) same
decimal_at _ f is = absurd (cc is)

integer_by : (v : Value) (n : ℤ) → scalar_of v ≡ scalar.Integer n → integer v ≡ Ok n
integer_by v n is = integer_at (out-Value v) n is

money_by : (v : Value) (n : ℤ) → scalar_of v ≡ scalar.Money n → money v ≡ Ok n
money_by v n is = money_at (out-Value v) n is

decimal_by : (v : Value) (f : Fraction) → scalar_of v ≡ scalar.Decimal f → decimal v ≡ Ok f
decimal_by v f is = decimal_at (out-Value v) f is

-- ---- exact results

exact_reply : {A : Type 0} (make : A → Scalar) (made : A → Value) (found : Result A NumFault)
    → ((a : A) → Ok (made a) ≡ scalar_reply (make a))
    → IfSome (exact_in make found) (λ s. (p : Pos) → exact p made found ≡ scalar_reply s)
exact_reply make made (Ok a) same = λ p. same a
exact_reply make made (Err fault) same = tt

gives : (op : BinaryOp) (a b : Scalar) (res : Option Scalar) (reply : Pos → Result Value Stop)
    → ((rounding : Rounding) (p : Pos) (v w : Value) → scalar_of v ≡ a → scalar_of w ≡ b
    → operate rounding op p v w ≡ reply p)
    → IfSome res (λ s. (p : Pos) → reply p ≡ scalar_reply s) → IfSome res (Gives op a b)
gives op a b None reply leads is = tt
gives op a b (Some s) reply leads is = λ rounding p v w first second. leads rounding p v w first second ∙ is p

two_read : {A B : Type 0} (x : Result A Stop) (y : Result B Stop) (a : A) (b : B) (next : A → B → Result Value Stop)
    → x ≡ Ok a → y ≡ Ok b → on_two x y next ≡ next a b
two_read {A} {B} x y a b next first second =
    ap (λ (r : Result A Stop). on_two r y next) first ∙ ap (λ (r : Result B Stop). on_two (Ok a) r next) second

-- an operator that reads both operands, and whose result is exact
module _ {A B C : Type 0} (left : A → Scalar) (right : B → Scalar) (read : Value → Result A Stop)
    (other : Value → Result B Stop) (make : C → Scalar) (made : C → Value)
    (reads : (v : Value) (a : A) → scalar_of v ≡ left a → read v ≡ Ok a)
    (reads_other : (w : Value) (b : B) → scalar_of w ≡ right b → other w ≡ Ok b)
    (same : (c : C) → Ok (made c) ≡ scalar_reply (make c)) (op : BinaryOp) (result : A → B → Result C NumFault)
    (is : (rounding : Rounding) (p : Pos) (v w : Value)
    → operate rounding op p v w ≡ on_two (read v) (other w) (λ a b. exact p made (result a b))) where
  exact_gives : (a : A) (b : B) → IfSome (exact_in make (result a b)) (Gives op (left a) (right b))
  exact_gives a b =
      gives op (left a) (right b) (exact_in make (result a b)) (λ p. exact p made (result a b))
      (λ rounding p v w first second. is rounding p v w
      ∙ two_read (read v) (other w) a b (λ a b. exact p made (result a b)) (reads v a first) (reads_other w b second))
      (exact_reply make made (result a b) same)

pub whole_gives : (op : BinaryOp) (result : ℤ → ℤ → Result ℤ NumFault)
    → ((rounding : Rounding) (p : Pos) (v w : Value)
    → operate rounding op p v w ≡ on_two (integer v) (integer w) (λ a b. exact p flat.Integer (result a b)))
    → (a b : ℤ) → IfSome (exact_in scalar.Integer (result a b)) (Gives op (scalar.Integer a) (scalar.Integer b))
whole_gives op result is a b =
    exact_gives scalar.Integer scalar.Integer integer integer scalar.Integer flat.Integer integer_by integer_by
    (λ c. refl) op result is a b

pub money_gives : (op : BinaryOp) (result : ℤ → ℤ → Result ℤ NumFault)
    → ((rounding : Rounding) (p : Pos) (v w : Value)
    → operate rounding op p v w ≡ on_two (money v) (money w) (λ a b. exact p flat.Money (result a b)))
    → (a b : ℤ) → IfSome (exact_in scalar.Money (result a b)) (Gives op (scalar.Money a) (scalar.Money b))
money_gives op result is a b =
    exact_gives scalar.Money scalar.Money money money scalar.Money flat.Money money_by money_by (λ c. refl) op result is
    a b

pub decimal_gives : (op : BinaryOp) (result : Fraction → Fraction → Result Fraction NumFault)
    → ((rounding : Rounding) (p : Pos) (v w : Value)
    → operate rounding op p v w ≡ on_two (decimal v) (decimal w) (λ f g. exact p flat.Decimal (result f g)))
    → (f g : Fraction) → IfSome (exact_in scalar.Decimal (result f g)) (Gives op (scalar.Decimal f) (scalar.Decimal g))
decimal_gives op result is f g =
    exact_gives scalar.Decimal scalar.Decimal decimal decimal scalar.Decimal flat.Decimal decimal_by decimal_by
    (λ c. refl) op result is f g

pub part_gives : (op : BinaryOp) (result : ℤ → Fraction → Result ℤ NumFault)
    → ((rounding : Rounding) (p : Pos) (v w : Value)
    → operate rounding op p v w ≡ on_two (money v) (decimal w) (λ a f. exact p flat.Money (result a f)))
    → (a : ℤ) (f : Fraction)
    → IfSome (exact_in scalar.Money (result a f)) (Gives op (scalar.Money a) (scalar.Decimal f))
part_gives op result is a f =
    exact_gives scalar.Money scalar.Decimal money decimal scalar.Money flat.Money money_by decimal_by (λ c. refl) op
    result is a f

-- ---- comparisons

wholes_at : (p : Pos) (y : Value-F Value) (w : Value) (a b : ℤ) → scalar_in y ≡ scalar.Integer a → integer w ≡ Ok b
    → compared_in p y w ≡ Ok (int_cmp a b)
wholes_at p (Value-F.Integer n) w a b is other =
    let same : n ≡ a = cc is in
    ap (λ (r : Result ℤ Stop). on_one r (λ m. Ok (int_cmp n m))) other ∙ ap (λ (m : ℤ). Ok (int_cmp m b)) same
wholes_at p _ w a b is other = absurd (cc is)

amounts_at : (p : Pos) (y : Value-F Value) (w : Value) (a b : ℤ) → scalar_in y ≡ scalar.Money a → money w ≡ Ok b
    → compared_in p y w ≡ Ok (int_cmp a b)
amounts_at p (Value-F.Money n) w a b is other =
    let same : n ≡ a = cc is in
    ap (λ (r : Result ℤ Stop). on_one r (λ m. Ok (int_cmp n m))) other ∙ ap (λ (m : ℤ). Ok (int_cmp m b)) same
amounts_at p _ w a b is other = absurd (cc is)

gives_by : (op : BinaryOp) (a b : Scalar) (order : Ordering) (res : Option Scalar)
    → ((p : Pos) (v w : Value) → scalar_of v ≡ a → scalar_of w ≡ b → compared p v w ≡ Ok order)
    → IfSome res (GivesBy op order) → IfSome res (Gives op a b)
gives_by op a b order None stand is = tt
gives_by op a b order (Some s) stand is = λ rounding p v w first second. is rounding p v w (stand p v w first second)

pub wholes_compared : (op : BinaryOp) (a b : ℤ) (res : Option Scalar) → IfSome res (GivesBy op (int_cmp a b))
    → IfSome res (Gives op (scalar.Integer a) (scalar.Integer b))
wholes_compared op a b res is =
    gives_by op (scalar.Integer a) (scalar.Integer b) (int_cmp a b) res
    (λ p v w first second. wholes_at p (out-Value v) w a b first (integer_by w b second)) is

pub amounts_compared : (op : BinaryOp) (a b : ℤ) (res : Option Scalar) → IfSome res (GivesBy op (int_cmp a b))
    → IfSome res (Gives op (scalar.Money a) (scalar.Money b))
amounts_compared op a b res is =
    gives_by op (scalar.Money a) (scalar.Money b) (int_cmp a b) res
    (λ p v w first second. amounts_at p (out-Value v) w a b first (money_by w b second)) is
