-- How often a log tells of a target.
use Rattle.std.proofs.Common.{◌≡◌, ℕ, ◌+◌, Bool, true, false, ◌&&◌, List, [], ◌∷◌, ◌++◌}
use Rattle.std.proofs.Common.{refl, sym, ◌∙◌, arith}
use Rattle.std.proofs.Common.{true≢false}
use Rattle.std.proofs.Common.{if◌then◌else◌}
use Rattle.std.specs.Prelude.{nat_eq}
use Rattle.std.proofs.lemmas.Bool.Decides.{nat_tests}
use Rattle.cat_value.specs.declared.outcome.Target.{Target}
use Rattle.cat_scope.specs.Runs.{Decider}
use Rattle.cat_scope.specs.Targets.{same_target}
use Rattle.cat_sound.specs.Logs.{times_logged}

-- ---- how often a log tells of a target

sum_after : (a b c d : ℕ) → b ≡ c + d → a + b ≡ (a + c) + d
sum_after a b c d h = omega (arith, h)

pub times_append : (t : Target) (xs ys : List Decider) → times_logged t (xs ++ ys) ≡ times_logged t xs + times_logged t
    ys
times_append t [] ys = zero_plus (times_logged t ys)
  where
    zero_plus : (n : ℕ) → n ≡ 0 + n
    zero_plus n = omega arith
times_append t (x ∷ xs) ys =
    sum_after (if nat_eq x.target.scope t.scope && same_target x.target t then 1 else 0) (times_logged t (xs ++ ys))
    (times_logged t xs) (times_logged t ys) (times_append t xs ys)

abbrev pub Never : Target → List Decider → Type 0
Never t log = times_logged t log ≡ 0

pub never_both : (t : Target) (xs ys : List Decider) → Never t xs → Never t ys → Never t (xs ++ ys)
never_both t xs ys h g = times_append t xs ys ∙ none (times_logged t xs) (times_logged t ys) h g
  where
    none : (a b : ℕ) → a ≡ 0 → b ≡ 0 → a + b ≡ 0
    none a b h g = omega (arith, h, g)

pub times_end : (t : Target) (xs : List Decider) → times_logged t (xs ++ []) ≡ times_logged t xs
times_end t xs = times_append t xs [] ∙ plus_zero (times_logged t xs)
  where
    plus_zero : (n : ℕ) → n + 0 ≡ n
    plus_zero n = omega arith

pub itself_eq : (n : ℕ) → nat_eq n n ≡ true
itself_eq n = grind (arith, nat_tests)

pub turned : (x y : ℕ) (b : Bool) → nat_eq x y ≡ b → nat_eq y x ≡ b
turned x y true e = grind (arith, nat_tests)
turned x y false e = grind (arith, nat_tests)

pub no_scope : (a b : Bool) → a ≡ false → (if a && b then 1 else 0) + 0 ≡ 0
no_scope true b e = absurd (true≢false e)
no_scope false b e = refl

pub no_item : (a b c : Bool) → b ≡ false → (if a && (b && c) then 1 else 0) + 0 ≡ 0
no_item true true c e = absurd (true≢false e)
no_item true false c e = refl
no_item false b c e = refl

pub own_item : (a b : Bool) → a ≡ true → b ≡ true → (if a && (b && true) then 1 else 0) + 0 ≡ 1
own_item true true e f = refl
own_item true false e f = absurd (true≢false (sym f))
own_item false b e f = absurd (true≢false (sym e))
