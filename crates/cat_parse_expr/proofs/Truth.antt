-- Tests of numbers, and of truth values that are put together.
use Rattle.std.proofs.Common.{◌≡◌, ℕ, ◌≤◌, Bool, true, false, not, nat_le, ◌&&◌, ◌||◌, refl, arith}
use Rattle.std.proofs.lemmas.Bool.Decides.{nat_tests}

pub clash : (c : Bool) → c ≡ true → c ≡ false → ⊥
clash c x y = absurd cc

pub le_true : (k j : ℕ) → k ≤ j → nat_le k j ≡ true
le_true k j le = grind (arith, nat_tests, le)

pub le_of : (k j : ℕ) → nat_le k j ≡ true → k ≤ j
le_of k j h = grind (arith, nat_tests, h)

pub unnot : (c : Bool) → not c ≡ true → c ≡ false
unnot true h = absurd cc
unnot false h = refl

-- ---- both

pub both_are : (a c : Bool) → (a && c) ≡ true → (a ≡ true) × (c ≡ true)
both_are true c h = (refl, h)
both_are false c h = absurd cc

pub both_true : (a c : Bool) → a ≡ true → c ≡ true → (a && c) ≡ true
both_true true c p q = q
both_true false c p q = absurd cc

pub first_true : (a c : Bool) → (a && c) ≡ true → a ≡ true
first_true a c h = (both_are a c h).0

pub second_true : (a c : Bool) → (a && c) ≡ true → c ≡ true
second_true a c h = (both_are a c h).1

pub first_false : (a c : Bool) → a ≡ false → (a && c) ≡ false
first_false true c h = absurd cc
first_false false c h = refl

pub second_false : (a c : Bool) → c ≡ false → (a && c) ≡ false
second_false true c h = h
second_false false c h = refl

-- ---- what may stand behind an expression: not taken, or asked for, or one of three more

abbrev pub Five : (a b c d e : Bool) → Bool
Five a b c d e = not a || (b || (c || (d || e)))

pub second_is_true : (a b c d e : Bool) → b ≡ true → Five a b c d e ≡ true
second_is_true false b c d e h = refl
second_is_true true true c d e h = refl
second_is_true true false c d e h = absurd cc

pub third_true : (a b c d e : Bool) → c ≡ true → Five a b c d e ≡ true
third_true false b c d e h = refl
third_true true true c d e h = refl
third_true true false true d e h = refl
third_true true false false d e h = absurd cc

pub fourth_true : (a b c d e : Bool) → d ≡ true → Five a b c d e ≡ true
fourth_true false b c d e h = refl
fourth_true true true c d e h = refl
fourth_true true false true d e h = refl
fourth_true true false false true e h = refl
fourth_true true false false false e h = absurd cc

pub last_true : (a b c d e : Bool) → e ≡ true → Five a b c d e ≡ true
last_true false b c d e h = refl
last_true true true c d e h = refl
last_true true false true d e h = refl
last_true true false false true e h = refl
last_true true false false false e h = h

-- the last one, where no other is
pub last_of : (a b c d e : Bool) → a ≡ true → b ≡ false → c ≡ false → d ≡ false → Five a b c d e ≡ true → e ≡ true
last_of false b c d e p q r t x = absurd cc
last_of true true c d e p q r t x = absurd cc
last_of true false true d e p q r t x = absurd cc
last_of true false false true e p q r t x = absurd cc
last_of true false false false e p q r t x = x

pub none_of : (a b c d e : Bool) → a ≡ true → b ≡ false → c ≡ false → d ≡ false → e ≡ false → Five a b c d e ≡ true → ⊥
none_of a b c d e p q r s t h = clash e (last_of a b c d e p q r s h) t
