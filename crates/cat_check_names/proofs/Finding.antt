-- What is found by a name, with its number.
use Rattle.std.proofs.Common.{◌≡◌, ◌∙◌, ℕ, suc, ◌+◌, ◌<◌, Bool, true, false, cond, List, [], ◌∷◌, ◌++◌, length}
use Rattle.std.proofs.Common.{Option, Some, option_map, slice_get, find, bytes_eq, refl, ap, subst, arith}
use Rattle.std.proofs.Common.{rules}
use Rattle.std.specs.List.{enumerate_from}
use Rattle.std.specs.Option.{unwrap_or}
use Rattle.cat_names.specs.Lookup.{first_named}
use Rattle.cat_check_names.specs.Table.{number_named}

-- one more of a list, with its number
pub numbered_push : {A : Type 0} (n : ℕ) (xs : List A) (x : A)
    → enumerate_from n (xs ++ x ∷ []) ≡ enumerate_from n xs ++ (n + length xs, x) ∷ []
numbered_push n [] x = ap (λ (k : ℕ). (k, x) ∷ []) (omega arith)
numbered_push n (y ∷ ys) x =
    ap (λ rest. (n, y) ∷ rest) (numbered_push (n + 1) ys x
    ∙ ap (λ (k : ℕ). enumerate_from (n + 1) ys ++ (k, x) ∷ []) (omega arith))

-- what was found at a number stands there
record IsFound {A : Type 0} (p : ℕ × A → Bool) (n : ℕ) (xs : List A) (k : ℕ) : Type 0 where
  pub index : ℕ
  pub behind : k ≡ n + index
  pub within : index < length xs
  pub found : (x : A) → slice_get xs index ≡ Some x → find p (enumerate_from n xs) ≡ Some (k, x)

find_at : {A : Type 0} (p : ℕ × A → Bool) (n : ℕ) (xs : List A) (k : ℕ)
    → option_map (λ x. x.0) (find p (enumerate_from n xs)) ≡ Some k → IsFound p n xs k
find_at p n [] k at = absurd (search (rules, at))
find_at {A} p n (y ∷ ys) k at = by (p (n, y)) refl at (find_at p (n + 1) ys k) where
  by : (b : Bool) → p (n, y) ≡ b
      → option_map (λ x. x.0) (cond b (Some (n, y)) (find p (enumerate_from (n + 1) ys))) ≡ Some k
      → (option_map (λ x. x.0) (find p (enumerate_from (n + 1) ys)) ≡ Some k → IsFound p (n + 1) ys k)
      → IsFound p n (y ∷ ys) k
  by true is at rest =
      let here : n ≡ k = ap (λ (o : Option ℕ). unwrap_or o n) at in
      record {
        index = 0;
        behind = omega (arith, here);
        within = omega arith;
        found = λ x stands.
            ap (λ (b : Bool). cond b (Some (n, y)) (find p (enumerate_from (n + 1) ys))) is
            ∙ ap (λ (m : ℕ). Some (m, y)) here ∙ ap (λ (o : Option A). Some (k, unwrap_or o y)) stands;
      }
  by false is at rest =
      let more = rest at in
      record {
        index = suc more.index;
        behind = omega (arith, more.behind);
        within = omega (arith, more.within);
        found = λ x stands.
            ap (λ (b : Bool). cond b (Some (n, y)) (find p (enumerate_from (n + 1) ys))) is ∙ more.found x stands;
      }

-- what has a name that was found at a number
pub record IsNamed {A : Type 0} (name_of : A → List ℕ) (w : List ℕ) (xs : List A) (k : ℕ) : Type 0 where
  pub within : k < length xs
  pub named : (x : A) → slice_get xs k ≡ Some x → first_named name_of w xs ≡ Some (k, x)

pub named_at : {A : Type 0} (name_of : A → List ℕ) (w : List ℕ) (xs : List A) (k : ℕ)
    → number_named name_of w xs ≡ Some k → IsNamed name_of w xs k
named_at name_of w xs k at =
    let seen = find_at (λ x. bytes_eq (name_of x.1) w) 0 xs k at in
    let here : seen.index ≡ k = omega (arith, seen.behind) in
    record {
      within = subst (λ (i : ℕ). i < length xs) here seen.within;
      named = λ x stands. seen.found x (ap (slice_get xs) here ∙ stands);
    }
