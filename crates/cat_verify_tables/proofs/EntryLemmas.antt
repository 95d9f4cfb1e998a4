-- Entries that are told of one behind the other.
use Rattle.std.proofs.Common.{◌≡◌, ◌<◌, ◌≤◌, ◌+◌, ℕ, zero, suc, inl, inr, nat_lt, true, false, List, [], ◌∷◌, ◌++◌}
use Rattle.std.proofs.Common.{length, take, map, get_or}
use Rattle.std.proofs.Common.{refl, sym, ap, ◌∙◌, subst, append-nil, arith}
use Rattle.std.proofs.lemmas.List.{take_more, append_assoc, length-take-le}
use Rattle.std.proofs.lemmas.Option.{slice_get_read}
use Rattle.std.proofs.lemmas.Bool.Decides.{nat_tests}
use Rattle.cat_scope.specs.Names.{AllHave, IsOneOf}
use Rattle.cat_verify_tables.specs.inside.Causes.{IsFaulty, IsFaultyIn, lines_in}
use Rattle.cat_verify_tables.specs.inside.Entries.{AreTold, AreRight}

-- ---- one entry more

pub one_more : {A : Type 0} (xs : List A) (i : ℕ) (x : A) → i < length xs → get_or xs i x ≡ x
    → take (i + 1) xs ≡ take i xs ++ x ∷ []
one_more xs i x within is = take_more xs i x within ∙ ap (λ z. take i xs ++ z ∷ []) is

map_push : {A B : Type 0} (f : A → B) (xs : List A) (x : A) → map f (xs ++ x ∷ []) ≡ map f xs ++ f x ∷ []
map_push f [] x = refl
map_push f (y ∷ xs) x = ap (λ ys. f y ∷ ys) (map_push f xs x)

pub map_more : {A B : Type 0} (f : A → B) (xs : List A) (i : ℕ) (x : A) → i < length xs → get_or xs i x ≡ x
    → map f (take (i + 1) xs) ≡ map f (take i xs) ++ f x ∷ []
map_more f xs i x within is = ap (map f) (one_more xs i x within is) ∙ map_push f (take i xs) x

right_push : {A : Type 0} (Fault : List A → A → Type 0) (front xs : List A) (x : A) → AreRight Fault front xs
    → (Fault (front ++ xs) x → ⊥) → AreRight Fault front (xs ++ x ∷ [])
right_push Fault front [] x right last = (subst (λ ys. Fault ys x → ⊥) (append-nil front) last, tt)
right_push Fault front (y ∷ xs) x right last = (
  right.0,
  right_push Fault (front ++ y ∷ []) xs x right.1
      (subst (λ ys. Fault ys x → ⊥) (sym (append_assoc front (y ∷ []) xs)) last),
)

pub right_more : {A : Type 0} (Fault : List A → A → Type 0) (xs : List A) (i : ℕ) (x : A) → i < length xs
    → get_or xs i x ≡ x → AreRight Fault [] (take i xs) → (Fault (take i xs) x → ⊥)
    → AreRight Fault [] (take (i + 1) xs)
right_more Fault xs i x within is right last =
    subst (AreRight Fault []) (sym (one_more xs i x within is)) (right_push Fault [] (take i xs) x right last)

told_push : {A B : Type 0} (Told : List A → A → B → Type 0) (front xs : List A) (ys : List B) (x : A) (y : B)
    → AreTold Told front xs ys → Told (front ++ xs) x y → AreTold Told front (xs ++ x ∷ []) (ys ++ y ∷ [])
told_push Told front [] [] x y told last = (subst (λ zs. Told zs x y) (append-nil front) last, tt)
told_push Told front [] (b ∷ ys) x y told last = absurd told
told_push Told front (a ∷ xs) [] x y told last = absurd told
told_push Told front (a ∷ xs) (b ∷ ys) x y told last = (
  told.0,
  told_push Told (front ++ a ∷ []) xs ys x y told.1
      (subst (λ zs. Told zs x y) (sym (append_assoc front (a ∷ []) xs)) last),
)

pub told_more : {A B : Type 0} (Told : List A → A → B → Type 0) (xs : List A) (i : ℕ) (x : A) (ys : List B) (y : B)
    → i < length xs → get_or xs i x ≡ x → AreTold Told [] (take i xs) ys → Told (take i xs) x y
    → AreTold Told [] (take (i + 1) xs) (ys ++ y ∷ [])
told_more Told xs i x ys y within is told last = subst (λ front. AreTold Told [] front (ys ++ y ∷ []))
    (sym (one_more xs i x within is)) (told_push Told [] (take i xs) ys x y told last)

-- ---- all of them

have_push : {A : Type 0} (Has : A → Type 0) (xs : List A) (x : A) → AllHave Has xs → Has x → AllHave Has (xs ++ x ∷ [])
have_push Has [] x all last = (last, tt)
have_push Has (y ∷ xs) x all last = (all.0, have_push Has xs x all.1 last)

pub have_more : {A : Type 0} (Has : A → Type 0) (xs : List A) (i : ℕ) (x : A) → i < length xs → get_or xs i x ≡ x
    → AllHave Has (take i xs) → Has x → AllHave Has (take (i + 1) xs)
have_more Has xs i x within is all last =
    subst (AllHave Has) (sym (one_more xs i x within is)) (have_push Has (take i xs) x all last)

pub one_at : {A : Type 0} (xs : List A) (i : ℕ) (x : A) → i < length xs → get_or xs i x ≡ x → IsOneOf x xs
one_at [] i x within is = absurd (omega (arith, within))
one_at (y ∷ xs) zero x within is = inl (sym is)
one_at (y ∷ xs) (suc i) x within is = inr (one_at xs i x (omega (arith, within)) is)

-- ---- lines

lines_push : {A : Type 0} (parts : A → ℕ) (xs : List A) (x : A)
    → lines_in parts (xs ++ x ∷ []) ≡ lines_in parts xs + 1 + parts x
lines_push parts [] x = omega arith
lines_push parts (y ∷ xs) x = omega (arith, lines_push parts xs x)

-- the line behind those of one entry more
pub line_more : {A : Type 0} (parts : A → ℕ) (xs : List A) (i : ℕ) (x : A) (first line many next : ℕ)
    → i < length xs → get_or xs i x ≡ x → line ≡ first + lines_in parts (take i xs) → many ≡ parts x
    → next ≡ line + 1 + many → next ≡ first + lines_in parts (take (i + 1) xs)
line_more parts xs i x first line many next within is line_is many_is next_is =
    let more = ap (lines_in parts) (one_more xs i x within is) ∙ lines_push parts (take i xs) x in
    omega (arith, more, line_is, many_is, next_is)

-- ---- an entry with a fault

pub faulty : {A : Type 0} (Fault : List A → A → Type 0) (first : ℕ) (xs : List A) (i : ℕ) (x : A) (line : ℕ)
    → i < length xs → get_or xs i x ≡ x → line ≡ first + i → Fault (take i xs) x → IsFaulty Fault first xs line
faulty Fault first xs i x line within is line_is fault = record {
  index = i;
  entry = x;
  at = slice_get_read xs (length xs) i x refl within (sym is);
  line_is = line_is;
  fault = fault;
}

pub faulty_in : {A : Type 0} (parts : A → ℕ) (Fault : List A → A → ℕ → ℕ → Type 0) (first : ℕ) (xs : List A)
    (i : ℕ) (x : A) (at line : ℕ) → i < length xs → get_or xs i x ≡ x
    → at ≡ first + lines_in parts (take i xs) → Fault (take i xs) x at line
    → IsFaultyIn parts Fault first xs line
faulty_in parts Fault first xs i x at line within is at_is fault = record {
  index = i;
  entry = x;
  at = slice_get_read xs (length xs) i x refl within (sym is);
  fault = subst (λ (n : ℕ). Fault (take i xs) x n line) at_is fault;
}

-- ---- how many there are

pub late_at : {A : Type 0} (xs : List A) (i most : ℕ) → i < length xs → nat_lt i most ≡ false
    → most ≤ length (take i xs)
late_at xs i most within late =
    let many = length-take-le i xs (omega (arith, within)) in grind (arith, nat_tests, late, many)

pub few_more : (i most : ℕ) → nat_lt i most ≡ true → i + 1 ≤ most
few_more i most early = grind (arith, nat_tests, early)
