-- What is read of nodes and references stays as more come behind.
use Rattle.std.proofs.Common.{◌≡◌, ℕ, zero, suc, ◌-◌, ◌<◌, ◌≤◌, List, [], ◌∷◌, ◌++◌, length, take, drop, map, Some}
use Rattle.std.proofs.Common.{slice_get, refl, sym, ap, ◌∙◌, subst, arith, append_assoc, length-drop}
use Rattle.std.proofs.lemmas.List.{drop-append-le, take-append-le}
use Rattle.cat_value.specs.declared.value.Value.{Value}
use Rattle.cat_pool.specs.declared.node.Refs.{Refs}
use Rattle.cat_pool.specs.Nodes.{Standing, values, kept_parts, at, seen_at, in_range, AreBelow}

pub values-append : (xs ys : List Standing) → values (xs ++ ys) ≡ values xs ++ values ys
values-append [] ys = refl
values-append (x ∷ xs) ys = ap (λ (l : List Value). x.value ∷ l) (values-append xs ys)

pub length-values : (xs : List Standing) → length (values xs) ≡ length xs
length-values [] = refl
length-values (x ∷ xs) = let rest = length-values xs in omega (arith, rest)

pub kept_parts-append : (xs ys : List Standing) → kept_parts (xs ++ ys) ≡ kept_parts xs ++ kept_parts ys
kept_parts-append [] ys = refl
kept_parts-append (x ∷ xs) ys =
    ap (λ (l : List ℕ). x.parts ++ l) (kept_parts-append xs ys)
    ∙ sym (append_assoc x.parts (kept_parts xs) (kept_parts ys))

-- ---- values at references

pub at-front : (vs ws : List Value) (r : ℕ) → r < length vs → at (vs ++ ws) r ≡ at vs r
at-front [] ws r below = absurd (omega (arith, below))
at-front (v ∷ vs) ws zero below = refl
at-front (v ∷ vs) ws (suc r) below = at-front vs ws r (omega (arith, below))

pub at-last : (vs : List Value) (v : Value) (r : ℕ) → r ≡ length vs → at (vs ++ v ∷ []) r ≡ v
at-last [] v r is = ap (λ n. at (v ∷ []) n) is
at-last (w ∷ vs) v r is = ap (λ n. at (w ∷ (vs ++ v ∷ [])) n) is ∙ at-last vs v (length vs) refl

pub map_at-front : (vs ws : List Value) (rs : List ℕ) → AreBelow (length vs) rs
    → map (at (vs ++ ws)) rs ≡ map (at vs) rs
map_at-front vs ws [] below = refl
map_at-front vs ws (r ∷ rs) below =
    ap (λ (v : Value). v ∷ map (at (vs ++ ws)) rs) (at-front vs ws r below.0)
    ∙ ap (λ (l : List Value). at vs r ∷ l) (map_at-front vs ws rs below.1)

-- what stands in front is seen alike
pub seen_at-front : (nodes more : List Standing) (rs : List ℕ) → AreBelow (length nodes) rs
    → seen_at (nodes ++ more) rs ≡ seen_at nodes rs
seen_at-front nodes more rs below =
    ap (λ (vs : List Value). map (at vs) rs) (values-append nodes more)
    ∙ map_at-front (values nodes) (values more) rs
    (subst (λ n. AreBelow n rs) (sym (length-values nodes)) below)

pub slice_get-at : (vs : List Value) (r : ℕ) → r < length vs → slice_get vs r ≡ Some (at vs r)
slice_get-at [] r below = absurd (omega (arith, below))
slice_get-at (v ∷ vs) zero below = refl
slice_get-at (v ∷ vs) (suc r) below = slice_get-at vs r (omega (arith, below))

-- ---- ranges

pub in_range-append : (kept more : List ℕ) (refs : Refs) → refs.start ≤ refs.end → refs.end ≤ length kept
    → in_range (kept ++ more) refs ≡ in_range kept refs
in_range-append kept more refs ordered within =
    ap (take (refs.end - refs.start)) (drop-append-le refs.start kept more (omega (arith, ordered, within)))
    ∙ take-append-le (refs.end - refs.start) (drop refs.start kept) more
    (omega (arith, length-drop refs.start kept, within))

pub below-append : (n : ℕ) (rs ss : List ℕ) → AreBelow n rs → AreBelow n ss → AreBelow n (rs ++ ss)
below-append n [] ss one other = other
below-append n (r ∷ rs) ss one other = (one.0, below-append n rs ss one.1 other)

pub below-more : (n m : ℕ) (rs : List ℕ) → n ≤ m → AreBelow n rs → AreBelow m rs
below-more n m [] more below = tt
below-more n m (r ∷ rs) more below = (let one = below.0 in omega (arith, one, more), below-more n m rs more below.1)

pub below-drop : (n k : ℕ) (rs : List ℕ) → AreBelow n rs → AreBelow n (drop k rs)
below-drop n zero rs below = below
below-drop n (suc k) [] below = tt
below-drop n (suc k) (r ∷ rs) below = below-drop n k rs below.1

pub below-take : (n k : ℕ) (rs : List ℕ) → AreBelow n rs → AreBelow n (take k rs)
below-take n zero rs below = tt
below-take n (suc k) [] below = tt
below-take n (suc k) (r ∷ rs) below = (below.0, below-take n k rs below.1)
