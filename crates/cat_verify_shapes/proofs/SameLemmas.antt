-- Operands of one type, as they are popped one by one.
use Rattle.std.proofs.Common.{◌≡◌, ◌<◌, inl, inr, ℕ, zero, suc, ◌+◌, true, false, true≢false}
use Rattle.std.proofs.Common.{List, ◌∷◌, ◌++◌, replicate, refl, sym, ap, ◌∙◌, arith}
use Rattle.std.proofs.lemmas.Bool.{eq-eqb}
use Rattle.cat_verify_shapes.specs.declared.shape.Shape.{Shape}
use Rattle.cat_verify_shapes.specs.inside.Taking.{Takes, TakesAll}
use Rattle.cat_verify_shapes.proofs.ListLemmas.{head_is, rest_is, empty_not}

one_more : (k n : ℕ) (ops : List ℕ) → replicate k n ++ n ∷ ops ≡ replicate (suc k) n ++ ops
one_more zero n ops = refl
one_more (suc k) n ops = ap (λ (l : List ℕ). n ∷ l) (one_more k n ops)

-- behind fewer of them comes one more
next_top : (k count n : ℕ) (ops below : List ℕ) → k < count → replicate k n ++ ops ≡ replicate count n ++ below
    → (rest : List ℕ) × (ops ≡ n ∷ rest)
next_top zero zero n ops below less e = absurd (omega (arith, less))
next_top zero (suc count) n ops below less e = (replicate count n ++ below, e)
next_top (suc k) zero n ops below less e = absurd (omega (arith, less))
next_top (suc k) (suc count) n ops below less e =
    next_top k count n ops below (omega (arith, less))
    (rest_is n n (replicate k n ++ ops) (replicate count n ++ below) e)

-- so many operands of a type were on top, and are gone
abbrev pub ArePopped : Shape → Shape → ℕ → ℕ → Type 0
ArePopped before now n done = before ≡ record now { operands = replicate done n ++ now.operands }

module _ (before now next : Shape) (n done : ℕ) (had : ArePopped before now n done) where
  pub same_more : Takes now next n true → ArePopped before next n (done + 1)
  same_more takes =
      had ∙ ap (λ (x : Shape). record x { operands = replicate done n ++ x.operands }) takes
      ∙ ap (λ (l : List ℕ). record next { operands = l })
      (one_more done n next.operands ∙ ap (λ (k : ℕ). replicate k n ++ next.operands) (next_is done))
    where
      next_is : (k : ℕ) → suc k ≡ k + 1
      next_is k = omega arith

  pub same_off : (count : ℕ) → done < count → Takes now next n false
      → TakesAll before next (replicate count n) false
  same_off count less takes below e =
      off takes (next_top done count n now.operands below less (sym (ap (λ (x : Shape). x.operands) had) ∙ e))
    where
      off : Takes now next n false → (rest : List ℕ) × (now.operands ≡ n ∷ rest) → ⊥
      off (inl none) (rest, is) = empty_not n rest (sym none ∙ is)
      off (inr (m, ms, is, other)) (rest, top) =
          true≢false (sym (eq-eqb m n (head_is m n ms rest (sym is ∙ top))) ∙ other)

  pub same_all : (count : ℕ) → count ≡ done → TakesAll before now (replicate count n) true
  same_all count all = had ∙ ap (λ (k : ℕ). record now { operands = replicate k n ++ now.operands }) (sym all)
