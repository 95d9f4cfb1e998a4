-- The numbers of a form tell what it has besides its parts.
use Rattle.std.proofs.Common.{◌≡◌, ℕ, zero, suc, ◌+◌, ◌-◌, nat_eq, nat_lt, nat_le, ℤ, pos, negsuc, Bool, true}
use Rattle.std.proofs.Common.{false, not, ◌&&◌, List, [], ◌∷◌, ◌++◌, length, refl, sym, ap, ◌∙◌}
use Rattle.std.proofs.Common.{arith, true≢false, if◌then◌else◌}
use Rattle.std.specs.Prelude.{unsigned_abs}
use Rattle.std.specs.Ordering.{int_eq}
use Rattle.std.proofs.lemmas.Bool.Decides.{nat_tests, Decides-int_eq}
use Rattle.cat_scope.specs.declared.expr.Literal.{Literal}
use Rattle.cat_scope.specs.declared.expr.Literal.TheVariants as literal
use Rattle.cat_scope.specs.declared.expr.ArmPattern.{ArmPattern}
use Rattle.cat_scope.specs.declared.expr.ArmPattern.TheVariants as pattern
use Rattle.cat_scope.specs.Same.{Standing}
use Rattle.cat_scope.specs.SameTree.{same_literal, same_pattern, same_local}
use Rattle.cat_scope.specs.Comparing.{differ}
use Rattle.cat_region.proofs.Exported.{and-both}
use Rattle.cat_audit_keys.specs.Keys.{truth_number, sign_number, literal_numbers, local_numbers, pattern_numbers}
use Rattle.cat_audit_keys.specs.Keys.{joined}
use Rattle.cat_audit_keys.specs.Keys.{spelled}

-- ---- lists of numbers

-- the number at an index, or 0
abbrev pub number_at : ℕ → List ℕ → ℕ
number_at n [] = 0
number_at zero (x ∷ xs) = x
number_at (suc n) (x ∷ xs) = number_at n xs

abbrev pub behind : List ℕ → List ℕ
behind [] = []
behind (x ∷ xs) = xs

pub one_number : (n m : ℕ) → n ≡ m → nat_eq n m ≡ true
one_number n m e = grind (arith, nat_tests)

-- lists of one length with something behind them
pub one_front : (xs ys us vs : List ℕ) → length xs ≡ length ys → xs ++ us ≡ ys ++ vs → (xs ≡ ys) × (us ≡ vs)
one_front [] [] us vs l e = (refl, e)
one_front [] (y ∷ ys) us vs l e = absurd (omega (arith, l))
one_front (x ∷ xs) [] us vs l e = absurd (omega (arith, l))
one_front (x ∷ xs) (y ∷ ys) us vs l e =
    let rest = one_front xs ys us vs (omega (arith, l)) (ap behind e) in
    (ap (λ (z : ℕ). z ∷ xs) (ap (number_at 0) e) ∙ ap (λ (zs : List ℕ). y ∷ zs) rest.0, rest.1)

-- what is spelled tells its number, its own numbers, and how many parts there are, of which the keys follow
pub record Told (form : ℕ) (own : List ℕ) (inner : List (List ℕ)) (xs : List ℕ) (form2 : ℕ) (own2 : List ℕ)
    (inner2 : List (List ℕ)) (ys : List ℕ) : Type 0 where
  pub forms : form ≡ form2
  pub owns : own ≡ own2
  pub many : length inner ≡ length inner2
  pub rest : joined inner ++ xs ≡ joined inner2 ++ ys

append_assoc : (xs ys zs : List ℕ) → (xs ++ ys) ++ zs ≡ xs ++ (ys ++ zs)
append_assoc [] ys zs = refl
append_assoc (x ∷ xs) ys zs = ap (λ (l : List ℕ). x ∷ l) (append_assoc xs ys zs)

pub told : (form : ℕ) (own : List ℕ) (inner : List (List ℕ)) (xs : List ℕ) (form2 : ℕ) (own2 : List ℕ)
    (inner2 : List (List ℕ)) (ys : List ℕ) → spelled form own inner ++ xs ≡ spelled form2 own2 inner2 ++ ys
    → Told form own inner xs form2 own2 inner2 ys
told form own inner xs form2 own2 inner2 ys e =
    let rest : own ++ ((length inner ∷ joined inner) ++ xs) ≡ own2 ++ ((length inner2 ∷ joined inner2) ++ ys) =
    sym (append_assoc own (length inner ∷ joined inner) xs) ∙ ap behind (ap behind e)
    ∙ append_assoc own2 (length inner2 ∷ joined inner2) ys in
    let two = one_front own own2 ((length inner ∷ joined inner) ++ xs) ((length inner2 ∷ joined inner2) ++ ys)
    (ap (number_at 1) e) rest in record {
      forms = ap (number_at 0) e;
      owns = two.0;
      many = ap (number_at 0) two.1;
      rest = ap behind two.1;
    }

-- ---- literals, patterns and local names

one_truth : (a b : Bool) → truth_number a ≡ truth_number b → not (differ a b) ≡ true
one_truth true true e = refl
one_truth false false e = refl
one_truth true false e = absurd (omega (arith, e))
one_truth false true e = absurd (omega (arith, e))

one_integer : (a b : ℤ) → sign_number a ≡ sign_number b → unsigned_abs a ≡ unsigned_abs b → int_eq a b ≡ true
one_integer a b s n = (Decides-int_eq a b).1 (by a b s n)
  where
    by : (a b : ℤ) → sign_number a ≡ sign_number b → unsigned_abs a ≡ unsigned_abs b → a ≡ b
    by (pos n) (pos m) s e = ap pos e
    by (negsuc n) (negsuc m) s e = ap negsuc (omega (arith, e))
    by (pos n) (negsuc m) s e = absurd (omega (arith, s))
    by (negsuc n) (pos m) s e = absurd (omega (arith, s))

pub literal_told : (l m : Literal) → literal_numbers l ≡ literal_numbers m → same_literal l m ≡ true
literal_told l m e = by l m e (one_number (number_at 0 (literal_numbers l)) (number_at 0 (literal_numbers m))
    (ap (number_at 0) e))
  where
    by : (l m : Literal) → literal_numbers l ≡ literal_numbers m
        → nat_eq (number_at 0 (literal_numbers l)) (number_at 0 (literal_numbers m)) ≡ true → same_literal l m ≡ true
    by (literal.Boolean a) (literal.Boolean b) e k = one_truth a b (ap (number_at 1) e)
    by (literal.Integer a) (literal.Integer b) e k = one_integer a b (ap (number_at 1) e) (ap (number_at 2) e)
    by (literal.Decimal a) (literal.Decimal b) e k =
        and-both (nat_eq a.digits b.digits) (nat_eq a.places b.places)
        (one_number a.digits b.digits (ap (number_at 1) e)) (one_number a.places b.places (ap (number_at 2) e))
    by (literal.Money a) (literal.Money b) e k = one_integer a b (ap (number_at 1) e) (ap (number_at 2) e)
    by (literal.Date a) (literal.Date b) e k = one_integer a b (ap (number_at 1) e) (ap (number_at 2) e)
    by (literal.Duration a) (literal.Duration b) e k =
        and-both (int_eq a.months b.months) (int_eq a.days b.days)
        (one_integer a.months b.months (ap (number_at 1) e) (ap (number_at 2) e))
        (one_integer a.days b.days (ap (number_at 3) e) (ap (number_at 4) e))
    by _ _ e k = absurd (true≢false (sym k))

pub pattern_told : (p q : ArmPattern) → pattern_numbers p ≡ pattern_numbers q → same_pattern p q ≡ true
pattern_told (pattern.Case k bound) (pattern.Case m other) e =
    and-both (nat_eq k m) (not (differ bound other)) (one_number k m (ap (number_at 1) e))
    (one_truth bound other (less (truth_number bound) (truth_number other) (ap (number_at 0) e)))
  where
    less : (a b : ℕ) → suc a ≡ suc b → a ≡ b
    less a b e = omega (arith, e)
pattern_told (pattern.Case k bound) pattern.Anything e = absurd (none (truth_number bound) (ap (number_at 0) e))
  where
    none : (a : ℕ) → suc a ≡ 0 → ⊥
    none a e = omega (arith, e)
pattern_told pattern.Anything (pattern.Case k bound) e = absurd (none (truth_number bound) (ap (number_at 0) e))
  where
    none : (a : ℕ) → 0 ≡ suc a → ⊥
    none a e = omega (arith, e)
pattern_told pattern.Anything pattern.Anything e = refl

pub local_told : (g h : Standing) (k m : ℕ) → local_numbers g k ≡ local_numbers h m → same_local g h k m ≡ true
local_told g h k m e = by (nat_lt k g.params) (nat_lt m h.params) refl refl e
  where
    inside : (a b i j : ℕ) → i ≡ j → nat_lt j b ≡ true → nat_lt i b ≡ true
    inside a b i j e l = ap (λ (n : ℕ). nat_lt n b) e ∙ l

    outside : (a b i j : ℕ) → nat_lt i a ≡ false → nat_lt j b ≡ false → i - a ≡ j - b
        → (nat_le b j && nat_eq (i + b) (j + a)) ≡ true
    outside a b i j l n e = grind (arith, nat_tests)

    by : (c d : Bool) → nat_lt k g.params ≡ c → nat_lt m h.params ≡ d
        → (if c then 0 ∷ g.function ∷ k ∷ [] else 1 ∷ 0 ∷ (k - g.params) ∷ [])
        ≡ (if d then 0 ∷ h.function ∷ m ∷ [] else 1 ∷ 0 ∷ (m - h.params) ∷ [])
        → (if nat_lt k g.params then nat_eq g.function h.function && (nat_eq k m && nat_lt k h.params)
        else nat_le h.params m && nat_eq (k + h.params) (m + g.params)) ≡ true
    by true true l n e = rw l (and-both (nat_eq g.function h.function) (nat_eq k m && nat_lt k h.params)
        (one_number g.function h.function (ap (number_at 1) e))
        (and-both (nat_eq k m) (nat_lt k h.params) (one_number k m (ap (number_at 2) e))
        (inside g.params h.params k m (ap (number_at 2) e) n)))
    by false false l n e = rw l (outside g.params h.params k m l n (ap (number_at 2) e))
    by true false l n e = absurd (omega (arith, ap (number_at 0) e))
    by false true l n e = absurd (omega (arith, ap (number_at 0) e))

pub pattern_length : (p : ArmPattern) → length (pattern_numbers p) ≡ 2
pattern_length (pattern.Case k bound) = refl
pattern_length pattern.Anything = refl
