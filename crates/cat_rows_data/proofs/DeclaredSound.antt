-- The declarations that inputs are read by are sound.
use Rattle.std.proofs.Common.{◌≡◌, ℕ, suc, true, IsTrue, List, rules, arith, refl}
use Rattle.cat_value.specs.declared.ty.Ty.TheVariants as ty
use Rattle.cat_value.specs.declared.ty.Ty.TheViews as view
use Rattle.cat_value.specs.declared.declaration.Structure.{Structure}
use Rattle.cat_value.specs.declared.declaration.Enumeration.{Enumeration}
use Rattle.cat_value.specs.declared.declaration.Scope.{Scope}
use Rattle.cat_value.specs.Heights.{height_to}
use Rattle.cat_value.specs.Declarations.{are_sound, highest}
use Rattle.cat_value.specs.Dependencies.{are_ordered}
use Rattle.cat_order.specs.Order.{is_ready}
use Rattle.cat_order.specs.Computed.{order_of}
use Rattle.cat_value.proofs.Exported as value
use Rattle.cat_rows_data.specs.Declarations.{structures, enumerations, scopes}

pair_height : (a b c : List ℕ) (k : ℕ)
    → height_to (structures a) (enumerations b c) (suc (suc (suc k))) (ty.Structure 0) ≡ 3
pair_height a b c k = omega (
  arith,
  value.height_Structure (structures a) (enumerations b c) (suc (suc k)) 0 _ refl,
  value.height_Integer (structures a) (enumerations b c) (suc k),
  value.height_List (structures a) (enumerations b c) (suc k) ty.Boolean,
  value.height_Boolean (structures a) (enumerations b c) k,
)

choice_height : (a b c : List ℕ) (k : ℕ)
    → height_to (structures a) (enumerations b c) (suc (suc (suc (suc k)))) (ty.Enumeration 0) ≡ 4
choice_height a b c k = omega (
  arith,
  value.height_Enumeration (structures a) (enumerations b c) (suc (suc (suc k))) 0 _ refl,
  value.height_List (structures a) (enumerations b c) (suc (suc k)) ty.Integer,
  value.height_Integer (structures a) (enumerations b c) (suc k),
  pair_height a b c k,
)

home_height : (a b c : List ℕ) → height_to (structures a) (enumerations b c) highest (ty.Structure 1) ≡ 6
home_height a b c = omega (
  arith,
  value.height_Structure (structures a) (enumerations b c) 63 1 _ refl,
  pair_height a b c 60,
  value.height_List (structures a) (enumerations b c) 62 (ty.Enumeration 0),
  choice_height a b c 58,
  value.height_Duration (structures a) (enumerations b c) 62,
  value.height_Decimal (structures a) (enumerations b c) 62,
)

letter_height : (a b c : List ℕ) → height_to (structures a) (enumerations b c) highest (ty.Enumeration 1) ≡ 5
letter_height a b c = omega (
  arith,
  value.height_Enumeration (structures a) (enumerations b c) 63 1 _ refl,
  value.height_Money (structures a) (enumerations b c) 62,
  choice_height a b c 59,
)

individual_height : (a b c : List ℕ) (k : ℕ)
    → height_to (structures a) (enumerations b c) (suc (suc k)) (ty.Structure 2) ≡ 2
individual_height a b c k = omega (
  arith,
  value.height_Structure (structures a) (enumerations b c) (suc k) 2 _ refl,
  value.height_Money (structures a) (enumerations b c) k,
  value.height_Integer (structures a) (enumerations b c) k,
)

credit_height : (a b c : List ℕ) (k : ℕ)
    → height_to (structures a) (enumerations b c) (suc (suc k)) (ty.Enumeration 2) ≡ 2
credit_height a b c k = omega (
  arith,
  value.height_Enumeration (structures a) (enumerations b c) (suc k) 2 _ refl,
  value.height_Integer (structures a) (enumerations b c) k,
)

person_height : (a b c : List ℕ) (k : ℕ)
    → height_to (structures a) (enumerations b c) (suc (suc (suc k))) (ty.Structure 3) ≡ 3
person_height a b c k = omega (
  arith,
  value.height_Structure (structures a) (enumerations b c) (suc (suc k)) 3 _ refl,
  value.height_Money (structures a) (enumerations b c) (suc k),
  credit_height a b c k,
)

persons_height : (a b c : List ℕ)
    → height_to (structures a) (enumerations b c) highest (view.List (ty.Structure 3)) ≡ 4
persons_height a b c = omega (
  arith,
  value.height_List (structures a) (enumerations b c) 63 (ty.Structure 3),
  person_height a b c 60,
)

integers_height : (a b c : List ℕ) → height_to (structures a) (enumerations b c) highest (view.List ty.Integer) ≡ 2
integers_height a b c = omega (
  arith,
  value.height_List (structures a) (enumerations b c) 63 ty.Integer,
  value.height_Integer (structures a) (enumerations b c) 62,
)

boolean_height : (a b c : List ℕ) → height_to (structures a) (enumerations b c) highest ty.Boolean ≡ 1
boolean_height a b c = value.height_Boolean (structures a) (enumerations b c) 63

integer_height : (a b c : List ℕ) → height_to (structures a) (enumerations b c) highest ty.Integer ≡ 1
integer_height a b c = value.height_Integer (structures a) (enumerations b c) 63

decimal_height : (a b c : List ℕ) → height_to (structures a) (enumerations b c) highest ty.Decimal ≡ 1
decimal_height a b c = value.height_Decimal (structures a) (enumerations b c) 63

money_height : (a b c : List ℕ) → height_to (structures a) (enumerations b c) highest ty.Money ≡ 1
money_height a b c = value.height_Money (structures a) (enumerations b c) 63

date_height : (a b c : List ℕ) → height_to (structures a) (enumerations b c) highest ty.Date ≡ 1
date_height a b c = value.height_Date (structures a) (enumerations b c) 63

pair_low : (a b c : List ℕ) → height_to (structures a) (enumerations b c) highest (ty.Structure 0) ≡ 3
pair_low a b c = pair_height a b c 61

choice_low : (a b c : List ℕ) → height_to (structures a) (enumerations b c) highest (ty.Enumeration 0) ≡ 4
choice_low a b c = choice_height a b c 60

individual_low : (a b c : List ℕ) → height_to (structures a) (enumerations b c) highest (ty.Structure 2) ≡ 2
individual_low a b c = individual_height a b c 62

credit_low : (a b c : List ℕ) → height_to (structures a) (enumerations b c) highest (ty.Enumeration 2) ≡ 2
credit_low a b c = credit_height a b c 62

person_low : (a b c : List ℕ) → height_to (structures a) (enumerations b c) highest (ty.Structure 3) ≡ 3
person_low a b c = person_height a b c 61

are_put_in_order : (a b c : List ℕ) → are_ordered (structures a) (enumerations b c) ≡ true
unfolding are_ordered order_of is_ready
are_put_in_order a b c = search (rules, value.naming)

ruleset low = (
  home_height,
  letter_height,
  integers_height,
  boolean_height,
  integer_height,
  decimal_height,
  money_height,
  date_height,
  pair_low,
  choice_low,
  individual_low,
  credit_low,
  person_low,
  persons_height,
)

these_are_sound : (a b c : List ℕ) → IsTrue (are_sound (structures a) (enumerations b c) scopes)
unfolding are_sound
these_are_sound a b c = search (rules, value.declared, low, are_put_in_order, view.the_lemmas)

pub declarations_are_sound : (ss : List Structure) (es : List Enumeration) (all : List Scope) (a b c : List ℕ)
    → ss ≡ structures a → es ≡ enumerations b c → all ≡ scopes → IsTrue (are_sound ss es all)
declarations_are_sound ss es all a b c s e is = rw (s, e, is) (these_are_sound a b c)
