-- Rows by their sections, and those that are wrong.
use Rattle.std.proofs.Common.{◌≡◌, ◌+◌, ℕ, zero, suc, List, [], ◌∷◌, ◌++◌, length, take, drop, map, Some}
use Rattle.std.proofs.Common.{slice_get, refl, sym, ap, ◌∙◌, subst, append-nil, add-one}
use Rattle.std.specs.Prelude.{flat_map}
use Rattle.std.proofs.lemmas.List.{append_assoc}
use Rattle.cat_image.specs.declared.row.Row.{Row}
use Rattle.cat_image.specs.declared.tables.ImageTables.{ImageTables}
use Rattle.cat_image.specs.Rows.{rows_of}
use Rattle.cat_verify_tables.specs.WrongTables.{IsWrong, IsBadTable}
use Rattle.cat_verify_tables.specs.inside.Entries.{AreRight, AreTold}
use Rattle.cat_verify_tables.specs.inside.RowsRight.{NoneWrong}

-- ---- one row in the midst of others

mid_at : {A : Type 0} (front rest : List A) (x : A) → slice_get (front ++ x ∷ rest) (length front) ≡ Some x
mid_at [] rest x = refl
mid_at (y ∷ front) rest x = mid_at front rest x

mid_take : {A : Type 0} (front rest : List A) (x : A) → take (length front) (front ++ x ∷ rest) ≡ front
mid_take [] rest x = refl
mid_take (y ∷ front) rest x = ap (λ ys. y ∷ ys) (mid_take front rest x)

mid_drop : {A : Type 0} (front rest : List A) (x : A) → drop (suc (length front)) (front ++ x ∷ rest) ≡ rest
mid_drop [] rest x = refl
mid_drop (y ∷ front) rest x = mid_drop front rest x

-- an entry at an index stands between those in front and the rest
pub split_at : {A : Type 0} (xs : List A) (i : ℕ) (x : A) → slice_get xs i ≡ Some x
    → xs ≡ take i xs ++ x ∷ drop (suc i) xs
split_at [] i x at = absurd (cc at)
split_at (y ∷ xs) zero x at = let same : y ≡ x = cc at in ap (λ z. z ∷ xs) same
split_at (y ∷ xs) (suc i) x at = ap (λ ys. y ∷ ys) (split_at xs i x at)

pub length_front : {A : Type 0} (xs : List A) (i : ℕ) (x : A) → slice_get xs i ≡ Some x → length (take i xs) ≡ i
length_front [] i x at = absurd (cc at)
length_front (y ∷ xs) zero x at = refl
length_front (y ∷ xs) (suc i) x at = ap suc (length_front xs i x at)

-- a wrong row makes its line a bad one
pub bad_row : (tables : ImageTables) (front rest : List Row) (r : Row) → rows_of tables [] ≡ front ++ r ∷ rest
    → IsWrong tables front rest r → IsBadTable tables (length front + 2)
bad_row tables front rest r are wrong = record {
  index = length front;
  row = r;
  number = refl;
  is = ap (λ rows. slice_get rows (length front)) are ∙ mid_at front rest r;
  wrong = subst (λ ys. IsWrong tables ys (drop (length front + 1) (rows_of tables [])) r)
      (sym (ap (take (length front)) are ∙ mid_take front rest r))
      (subst (λ ys. IsWrong tables front ys r)
      (sym (ap (λ n. drop n (rows_of tables [])) (add-one (length front)) ∙ ap (drop (suc (length front))) are
      ∙ mid_drop front rest r)) wrong);
}

-- ---- rows none of which is wrong

pub none_joined : (tables : ImageTables) (front one other rest : List Row)
    → NoneWrong tables front one (other ++ rest) → NoneWrong tables (front ++ one) other rest
    → NoneWrong tables front (one ++ other) rest
none_joined tables front [] other rest first second =
    subst (λ ys. NoneWrong tables ys other rest) (append-nil front) second
none_joined tables front (r ∷ one) other rest first second = (
  subst (λ ys. IsWrong tables front ys r → ⊥) (sym (append_assoc one other rest)) first.0,
  none_joined tables (front ++ r ∷ []) one other rest first.1
      (subst (λ ys. NoneWrong tables ys other rest) (sym (append_assoc front (r ∷ []) one)) second),
)

none_at : (tables : ImageTables) (front rows rest : List Row) (i : ℕ) (r : Row) → NoneWrong tables front rows rest
    → slice_get rows i ≡ Some r → IsWrong tables (front ++ take i rows) (drop (suc i) rows ++ rest) r → ⊥
none_at tables front [] rest i r none at wrong = cc at
none_at tables front (s ∷ rows) rest zero r none at wrong =
    let same : s ≡ r = cc at in
    none.0 (subst (λ q. IsWrong tables front (rows ++ rest) q) (sym same)
    (subst (λ ys. IsWrong tables ys (rows ++ rest) r) (append-nil front) wrong))
none_at tables front (s ∷ rows) rest (suc i) r none at wrong =
    none_at tables (front ++ s ∷ []) rows rest i r none.1 at
    (subst (λ ys. IsWrong tables ys (drop (suc i) rows ++ rest) r) (sym (append_assoc front (s ∷ []) (take i rows)))
    wrong)

pub none_bad : (tables : ImageTables) → NoneWrong tables [] (rows_of tables []) [] → (n : ℕ) → IsBadTable tables n → ⊥
none_bad tables none n bad =
    let rows = rows_of tables [] in
    none_at tables [] rows [] bad.index bad.row none bad.is
    (subst (λ ys. IsWrong tables (take bad.index rows) ys bad.row)
    (ap (λ k. drop k rows) (add-one bad.index) ∙ sym (append-nil (drop (suc bad.index) rows))) bad.wrong)

-- ---- rows of entries

module _ (tables : ImageTables) {A : Type 0} where
  pub map_none : (make : A → Row) (front rest : List Row) (done xs : List A)
      → ((before : List A) (x : A) (after : List A) → done ++ xs ≡ before ++ x ∷ after
      → IsWrong tables (front ++ map make before) (map make after ++ rest) (make x) → ⊥)
      → NoneWrong tables (front ++ map make done) (map make xs) rest
  map_none make front rest done [] each = tt
  map_none make front rest done (x ∷ xs) each = (
    each done x xs refl,
    subst (λ ys. NoneWrong tables ys (map make xs) rest)
        (ap (λ ys. front ++ ys) (map_push make done x) ∙ sym (append_assoc front (map make done) (make x ∷ [])))
        (map_none make front rest (done ++ x ∷ []) xs
        (λ before y after is. each before y after (sym (append_assoc done (x ∷ []) xs) ∙ is))),
  )
    where
      map_push : (make : A → Row) (xs : List A) (x : A) → map make (xs ++ x ∷ []) ≡ map make xs ++ make x ∷ []
      map_push make [] x = refl
      map_push make (y ∷ xs) x = ap (λ ys. make y ∷ ys) (map_push make xs x)

  pub flat_none : (rows : A → List Row) (front rest : List Row) (done xs : List A)
      → ((before : List A) (x : A) (after : List A) → done ++ xs ≡ before ++ x ∷ after
      → NoneWrong tables (front ++ flat_map rows before) (rows x) (flat_map rows after ++ rest))
      → NoneWrong tables (front ++ flat_map rows done) (flat_map rows xs) rest
  flat_none rows front rest done [] each = tt
  flat_none rows front rest done (x ∷ xs) each =
      none_joined tables (front ++ flat_map rows done) (rows x) (flat_map rows xs) rest (each done x xs refl)
      (subst (λ ys. NoneWrong tables ys (flat_map rows xs) rest)
      (ap (λ ys. front ++ ys) (flat_push rows done x) ∙ sym (append_assoc front (flat_map rows done) (rows x)))
      (flat_none rows front rest (done ++ x ∷ []) xs
      (λ before y after is. each before y after (sym (append_assoc done (x ∷ []) xs) ∙ is))))
    where
      flat_push : (rows : A → List Row) (xs : List A) (x : A)
          → flat_map rows (xs ++ x ∷ []) ≡ flat_map rows xs ++ rows x
      flat_push rows [] x = append-nil (rows x)
      flat_push rows (y ∷ xs) x =
          ap (λ ys. rows y ++ ys) (flat_push rows xs x) ∙ sym (append_assoc (rows y) (flat_map rows xs) (rows x))

-- ---- what is told of an entry among others

pub right_at : {A : Type 0} (Fault : List A → A → Type 0) (front before : List A) (x : A) (after : List A)
    → AreRight Fault front (before ++ x ∷ after) → Fault (front ++ before) x → ⊥
right_at Fault front [] x after right fault = right.0 (subst (λ ys. Fault ys x) (append-nil front) fault)
right_at Fault front (y ∷ before) x after right fault =
    right_at Fault (front ++ y ∷ []) before x after right.1
    (subst (λ ys. Fault ys x) (sym (append_assoc front (y ∷ []) before)) fault)

pub record IsToldAt {A B : Type 0} (Told : List A → A → B → Type 0) (before : List A) (x : A) (ys : List B)
    : Type 0 where
  pub entry : B
  pub at : slice_get ys (length before) ≡ Some entry
  pub told : Told before x entry

pub told_at : {A B : Type 0} (Told : List A → A → B → Type 0) (before : List A) (x : A) (after : List A) (ys : List B)
    → AreTold Told [] (before ++ x ∷ after) ys → IsToldAt Told before x ys
told_at {A} {B} Told before x after ys told =
    let it = by [] before ys told in record { entry = it.0; at = it.1; told = it.2 }
  where
    by : (front before : List A) (ys : List B) → AreTold Told front (before ++ x ∷ after) ys
        → (y : B) × (slice_get ys (length before) ≡ Some y) × Told (front ++ before) x y
    by front [] [] told = absurd told
    by front [] (y ∷ ys) told = (y, refl, subst (λ zs. Told zs x y) (sym (append-nil front)) told.0)
    by front (z ∷ before) [] told = absurd told
    by front (z ∷ before) (y ∷ ys) told =
        let it = by (front ++ z ∷ []) before ys told.1 in (
          it.0,
          it.1,
          subst (λ zs. Told zs x it.0) (append_assoc front (z ∷ []) before) it.2,
        )
