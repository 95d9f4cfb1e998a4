-- Numbers once, by first appearance, by a set of those in front.
use Rattle.std.proofs.Common.{◌≡◌, ◌<◌, ◌+◌, ℕ, Bool, true, false, cond, List, [], ◌∷◌, ◌++◌, length, drop, get_or}
use Rattle.std.proofs.Common.{nat_eq, if◌then◌else◌, refl, sym, ap, ◌∙◌, arith}
use Rattle.std.proofs.lemmas.List.{append_assoc, drop_more}
use Rattle.std.proofs.lemmas.Bool.Decides.{nat_tests}
use Rattle.std.specs.Ordering.{nat_cmp}
use Rattle.std.specs.BTreeMap.{is_at}
use Rattle.cat_scope.specs.Names.{is_in}
use Rattle.cat_scope.specs.Orders.{once}

-- a set has the numbers in front, and what is kept goes on with what is left
abbrev pub IsPartOnce : (ℕ → Bool) → List ℕ → ℕ → List ℕ → Type 0
IsPartOnce has kept i numbers = (front : List ℕ) × ((n : ℕ) → has n ≡ is_in n front)
    × (kept ++ once front (drop i numbers) ≡ once [] numbers)

once_known : (front rest : List ℕ) (n : ℕ) → is_in n front ≡ true → once front (n ∷ rest) ≡ once front rest
once_known front rest n there = rw there refl

once_new : (front rest : List ℕ) (n : ℕ) → is_in n front ≡ false → once front (n ∷ rest) ≡ n ∷ once (n ∷ front) rest
once_new front rest n out = rw out refl

at_number : (a b : ℕ) (old : Bool) → cond (is_at (nat_cmp a) b) true old ≡ (if nat_eq b a then true else old)
at_number a b old = grind (arith, nat_tests)

module _ (has : ℕ → Bool) (kept : List ℕ) (i : ℕ) (numbers : List ℕ) (within : i < length numbers)
    (part : IsPartOnce has kept i numbers) where
  abbrev number : ℕ
  number = get_or numbers i 0

  rest : kept ++ once part.0 (number ∷ drop (i + 1) numbers) ≡ once [] numbers
  rest = ap (λ xs. kept ++ once part.0 xs) (sym (drop_more numbers i 0 within)) ∙ part.2

  -- the number stands in front
  pub known : has number ≡ true → (after : ℕ → Bool) → ((n : ℕ) → after n ≡ has n)
      → IsPartOnce after kept (i + 1) numbers
  known there after same = (
    part.0,
    λ n. same n ∙ part.1 n,
    ap (λ xs. kept ++ xs)
        (sym (once_known part.0 (drop (i + 1) numbers) number (sym (part.1 number) ∙ there)))
        ∙ rest,
  )

  -- the number is new
  pub new : has number ≡ false → (after : ℕ → Bool)
      → ((n : ℕ) → after n ≡ cond (is_at (nat_cmp number) n) true (has n))
      → IsPartOnce after (kept ++ number ∷ []) (i + 1) numbers
  new out after adds = (
    number ∷ part.0,
    λ n. adds n ∙ at_number number n (has n) ∙ ap (λ b. if nat_eq n number then true else b) (part.1 n),
    append_assoc kept (number ∷ []) (once (number ∷ part.0) (drop (i + 1) numbers))
        ∙ ap (λ xs. kept ++ xs)
        (sym (once_new part.0 (drop (i + 1) numbers) number (sym (part.1 number) ∙ out)))
        ∙ rest,
  )
