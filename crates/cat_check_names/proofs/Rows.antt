-- A table for each entry of a list, and tables of names alone.
use Rattle.std.proofs.Common.{◌≡◌, ◌∙◌, ℕ, ◌+◌, ◌<◌, Bool, true, false, cond, List, [], ◌∷◌, ◌++◌, length, take, map}
use Rattle.std.proofs.Common.{get_or, Option, Some, None, option_map, bytes_eq, refl, sym, ap, subst, find, slice_get}
use Rattle.std.proofs.lemmas.List.{take_more}
use Rattle.std.proofs.Common.{arith}
use Rattle.std.proofs.lemmas.Slice.Zip.{AllZip-left, AllZip-long}
use Rattle.std.proofs.lemmas.Option.{slice_get_within}
use Rattle.std.specs.Option.{MatchOption, IsSomeAnd, unwrap_or}
use Rattle.std.specs.List.{enumerate_from, AllZip}
use Rattle.cat_check_names.specs.Table.{Table, IsTableOf}

zip_push : {A B : Type 0} (R : A → B → Type 0) (xs : List A) (ys : List B) (x : A) (y : B) → AllZip R xs ys → R x y
    → AllZip R (xs ++ x ∷ []) (ys ++ y ∷ [])
zip_push R [] [] x y rows row = (row, tt)
zip_push R [] (b ∷ ys) x y rows row = absurd rows
zip_push R (a ∷ xs) [] x y rows row = absurd rows
zip_push R (a ∷ xs) (b ∷ ys) x y rows row = (rows.0, zip_push R xs ys x y rows.1 row)

-- one row more
pub zip_more : {A B : Type 0} (R : A → B → Type 0) (xs : List A) (i : ℕ) (x : A) (ys : List B) (y : B)
    → i < length xs → get_or xs i x ≡ x → AllZip R (take i xs) ys → R x y
    → AllZip R (take (i + 1) xs) (ys ++ y ∷ [])
zip_more R xs i x ys y within is rows row =
    subst (λ front. AllZip R front (ys ++ y ∷ []))
    (sym (take_more xs i x within ∙ ap (λ z. take i xs ++ z ∷ []) is)) (zip_push R (take i xs) ys x y rows row)

-- the row of an entry
pub record IsRow {A B : Type 0} (R : A → B → Type 0) (x : A) (ys : List B) (i : ℕ) : Type 0 where
  pub within : i < length ys
  pub row : (y : B) → slice_get ys i ≡ Some y → R x y

pub row_at : {A B : Type 0} (R : A → B → Type 0) (xs : List A) (ys : List B) (i : ℕ) (x : A) → AllZip R xs ys
    → Some x ≡ slice_get xs i → IsRow R x ys i
row_at {A} {B} R xs ys i x rows at = record {
  within = omega (arith, AllZip-long R xs ys rows, slice_get_within xs i x (sym at));
  row = λ y stands. found (slice_get ys i) y
      (subst (λ found. MatchOption found (Unit {0}) (λ z. IsSomeAnd (slice_get ys i) (R z))) (sym at)
      (AllZip-left R xs ys rows i)) stands;
} where
  found : (f : Option B) (y : B) → IsSomeAnd f (R x) → f ≡ Some y → R x y
  found None y row stands = absurd row
  found (Some z) y row stands = subst (R x) (ap (λ (o : Option B). unwrap_or o z) stands) row

-- the names of some things have the numbers of the things
pub numbers_map : {A : Type 0} (name_of : A → List ℕ) (w : List ℕ) (n : ℕ) (xs : List A)
    → option_map (λ x. x.0) (find (λ (x : ℕ × List ℕ). bytes_eq x.1 w) (enumerate_from n (map name_of xs)))
    ≡ option_map (λ x. x.0) (find (λ (x : ℕ × A). bytes_eq (name_of x.1) w) (enumerate_from n xs))
numbers_map name_of w n [] = refl
numbers_map {A} name_of w n (x ∷ xs) = by (bytes_eq (name_of x) w) (numbers_map name_of w (n + 1) xs) where
  texts : Option (ℕ × List ℕ)
  texts = find (λ (y : ℕ × List ℕ). bytes_eq y.1 w) (enumerate_from (n + 1) (map name_of xs))

  things : Option (ℕ × A)
  things = find (λ (y : ℕ × A). bytes_eq (name_of y.1) w) (enumerate_from (n + 1) xs)

  by : (b : Bool) → option_map (λ y. y.0) texts ≡ option_map (λ y. y.0) things
      → option_map {T = ℕ × List ℕ} (λ y. y.0) (cond b (Some (n, name_of x)) texts)
      ≡ option_map {T = ℕ × A} (λ y. y.0) (cond b (Some (n, x)) things)
  by true rest = refl
  by false rest = rest

-- a table of some things is one of their names
pub names_alone : {A : Type 0} (name_of : A → List ℕ) (xs : List A) (table : Table)
    → IsTableOf name_of xs table → IsTableOf (λ name. name) (map name_of xs) table
names_alone name_of xs table known w = known w ∙ sym (numbers_map name_of w 0 xs)
