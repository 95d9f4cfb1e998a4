-- A loop over turns, as a reader of the list of all that its turns read.
use Rattle.std.proofs.Common.{◌≡◌, ℕ, zero, suc, Bool, true, false, if◌then◌else◌, List, [], ◌∷◌, refl, sym, ◌∙◌}
use Rattle.cat_parse_expr.proofs.Common.{Token, Parsed, Fails, Reads, Reader, ◌⨟◌, pure, after, turns}

-- what is made of a state by all of these
abbrev pub put_all : {S X : Type 0} → (S → X → S) → S → List X → S
put_all put s [] = s
put_all put s (x ∷ xs) = put_all put (put s x) xs

abbrev pub with_first : {X : Type 0} → X → Parsed (List X) → Parsed (List X)
with_first x o = after o (λ more. pure (x ∷ more))

module _ {S X : Type 0} (goes : S → List Token → Bool) (one : S → Reader X) (put : S → X → S) where
  -- all that is read from a state on
  abbrev pub listed : (fuel : ℕ) → S → Reader (List X)
  listed zero s ts = Reads [] ts
  listed (suc n) s ts =
      if goes s ts then after (one s ts) (λ x left. with_first x (listed n (put s x) left)) else Reads [] ts

  -- one turn of the loop
  abbrev pub turn : S → Reader S
  turn s = one s ⨟ λ x. pure (put s x)

  abbrev made : S → Parsed (List X) → Parsed S
  made s o = after o (λ xs. pure (put_all put s xs))

  made_first : (s : S) (x : X) (o : Parsed (List X)) → made s (with_first x o) ≡ made (put s x) o
  made_first s x (Fails left deep whole) = refl
  made_first s x (Reads xs left) = refl

  -- the loop comes to what all of it makes of the state
  pub turns_are : (fuel : ℕ) (s : S) (ts : List Token) → turns goes turn fuel s ts ≡ made s (listed fuel s ts)
  turns_are zero s ts = refl
  turns_are (suc n) s ts = by (λ x left. turns_are n (put s x) left) (goes s ts) (one s ts)
    where
      taken : ((x : X) (left : List Token) → turns goes turn n (put s x) left ≡ made (put s x)
          (listed n (put s x) left))
          → (o : Parsed X) → after (after o (λ x. pure (put s x))) (turns goes turn n)
          ≡ made s (after o (λ x left. with_first x (listed n (put s x) left)))
      taken rest (Fails left deep whole) = refl
      taken rest (Reads x left) = rest x left ∙ sym (made_first s x (listed n (put s x) left))

      by : ((x : X) (left : List Token) → turns goes turn n (put s x) left ≡ made (put s x) (listed n (put s x) left))
          → (c : Bool) (o : Parsed X)
          → (if c then after (after o (λ x. pure (put s x))) (turns goes turn n) else Reads s ts)
          ≡ made s (if c then after o (λ x left. with_first x (listed n (put s x) left)) else Reads [] ts)
      by rest true o = taken rest o
      by rest false o = refl
