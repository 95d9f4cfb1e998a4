-- Whether a name is one of some names, by a table of them.
use Rattle.std.proofs.Common.{◌≡◌, ◌∙◌, ℕ, ◌+◌, Bool, true, false, ◌||◌, cond, List, [], ◌∷◌, Option, Some, None, refl}
use Rattle.std.proofs.Common.{ap}
use Rattle.std.proofs.Common.{find, bytes_eq, option_map, is_some, map}
use Rattle.std.specs.List.{enumerate_from}
use Rattle.cat_names.specs.Unknown.{is_name}
use Rattle.cat_check_names.specs.Table.{Table, number_in, IsTableOf}

-- a name that has a number is one of the names
pub numbered_name : {A : Type 0} (name_of : A → List ℕ) (w : List ℕ) (n : ℕ) (xs : List A)
    → is_some (find (λ (x : ℕ × A). bytes_eq (name_of x.1) w) (enumerate_from n xs)) ≡ is_name w (map name_of xs)
numbered_name name_of w n [] = refl
numbered_name {A} name_of w n (x ∷ xs) = by (bytes_eq (name_of x) w) (numbered_name name_of w (n + 1) xs) where
  by : (b : Bool)
      → is_some (find (λ (y : ℕ × A). bytes_eq (name_of y.1) w) (enumerate_from (n + 1) xs)) ≡ is_name w
      (map name_of xs)
      → is_some (cond b (Some (n, x)) (find (λ (y : ℕ × A). bytes_eq (name_of y.1) w) (enumerate_from (n + 1) xs)))
      ≡ (b || is_name w (map name_of xs))
  by true rest = refl
  by false rest = rest

number_there : {A : Type 0} (found : Option (ℕ × A)) → is_some (option_map (λ x. x.0) found) ≡ is_some found
number_there None = refl
number_there (Some x) = refl

-- a name that a table of some things has is one of their names
pub known_name : {A : Type 0} (name_of : A → List ℕ) (xs : List A) (table : Table) (w : List ℕ)
    → IsTableOf name_of xs table → is_some (number_in table w) ≡ is_name w (map name_of xs)
known_name {A} name_of xs table w known =
    ap is_some (known w)
    ∙ number_there (find (λ (x : ℕ × A). bytes_eq (name_of x.1) w) (enumerate_from 0 xs)) ∙ numbered_name name_of w 0 xs

pub ids : {A : Type 0} (xs : List A) → map (λ x. x) xs ≡ xs
ids [] = refl
ids (x ∷ xs) = ap (λ ys. x ∷ ys) (ids xs)
