-- Where numbers stand in a list.
use Rattle.std.proofs.Common.{◌≡◌, ◌≤◌, ◌<◌, ℕ, zero, suc, ◌+◌, ◌-◌, nat_eq, Bool, true, false, List, [], ◌∷◌}
use Rattle.std.proofs.Common.{length, drop, replicate, refl, sym, ap, ◌∙◌, arith, if◌then◌else◌, map, get_or}
use Rattle.std.specs.Prelude.{slice_set, nat_lt}
use Rattle.std.proofs.lemmas.Bool.{eqb-true, eq-eqb}
use Rattle.std.proofs.lemmas.Bool.Decides.{nat_tests}
use Rattle.std.proofs.lemmas.List.{length-map}
use Rattle.cat_scope.specs.Names.{is_in}
use Rattle.cat_scope.specs.declared.expr.FieldValue.{FieldValue}
use Rattle.cat_code.specs.declared.instr.Instr.TheVariants as instr
use Rattle.cat_lower.specs.Laying.{Coded, nothing, led}
use Rattle.cat_lower.specs.Pieces.{index_of, indices, bind_all, picked}

-- in an empty list none stands
pub indices_none : (k n i : ℕ) → replicate n i ≡ indices k n i []
indices_none k zero i = refl
indices_none k (suc n) i =
    let e : i ≡ i + 0 = omega arith in
    ap (λ l. i ∷ l) (indices_none (k + 1) n i) ∙ ap (λ (m : ℕ). m ∷ indices (k + 1) n i []) e

pub length_indices : (k n i : ℕ) (ms : List ℕ) → length (indices k n i ms) ≡ n
length_indices k zero i ms = refl
length_indices k (suc n) i ms = ap suc (length_indices (k + 1) n i ms)

-- the index behind one more number
found_here : (k : ℕ) (ms : List ℕ) → index_of k (k ∷ ms) ≡ 0
found_here k ms = by (nat_eq k k) (eq-eqb k k refl)
  where
    by : (b : Bool) → b ≡ true → (if b then 0 else suc (index_of k ms)) ≡ 0
    by true e = refl
    by false e = absurd (cc e)

found_later : (k m : ℕ) (ms : List ℕ) → (k ≡ m → ⊥) → index_of k (m ∷ ms) ≡ suc (index_of k ms)
found_later k m ms off = by (nat_eq k m) refl
  where
    by : (b : Bool) → nat_eq k m ≡ b → (if b then 0 else suc (index_of k ms)) ≡ suc (index_of k ms)
    by true e = absurd (off (eqb-true k m e))
    by false e = refl

-- a number that isn't asked for
pub indices_other : (k n i m : ℕ) (ms : List ℕ) → ((j : ℕ) → j < n → k + j ≡ m → ⊥)
    → indices k n (suc i) ms ≡ indices k n i (m ∷ ms)
indices_other k zero i m ms off = refl
indices_other k (suc n) i m ms off =
    let here = found_later k m ms (λ e. off 0 (omega arith) (omega (arith, e))) in
    let head : suc i + index_of k ms ≡ i + index_of k (m ∷ ms) = omega (arith, here) in
    let rest = indices_other (k + 1) n i m ms (λ j less e. off (j + 1) (omega (arith, less)) (omega (arith, e))) in
    ap (λ l. (suc i + index_of k ms) ∷ l) rest ∙ ap (λ (x : ℕ). x ∷ indices (k + 1) n i (m ∷ ms)) head

-- a number that is asked for
pub indices_set : (k n i j : ℕ) (ms : List ℕ) → j < n
    → slice_set (indices k n (suc i) ms) j i ≡ indices k n i ((k + j) ∷ ms)
indices_set k zero i j ms less = absurd (omega (arith, less))
indices_set k (suc n) i zero ms less =
    let same : k ≡ k + 0 = omega arith in
    let first : i ≡ i + index_of k ((k + 0) ∷ ms) =
    let z : i ≡ i + 0 = omega arith in
    z ∙ ap (λ (x : ℕ). i + x) (sym (found_here k ms) ∙ ap (λ (x : ℕ). index_of k (x ∷ ms)) same) in
    ap (λ l. i ∷ l) (indices_other (k + 1) n i (k + 0) ms (λ h l e. omega (arith, e)))
    ∙ ap (λ (x : ℕ). x ∷ indices (k + 1) n i ((k + 0) ∷ ms)) first
indices_set k (suc n) i (suc j) ms less =
    let same : (k + 1) + j ≡ k + suc j = omega arith in
    let here = found_later k (k + suc j) ms (λ e. omega (arith, e)) in
    let head : suc i + index_of k ms ≡ i + index_of k ((k + suc j) ∷ ms) = omega (arith, here) in
    ap (λ l. (suc i + index_of k ms) ∷ l) (indices_set (k + 1) n i j ms (omega (arith, less)))
    ∙ ap (λ (x : ℕ). (suc i + index_of k ms) ∷ indices (k + 1) n i (x ∷ ms)) same
    ∙ ap (λ (x : ℕ). x ∷ indices (k + 1) n i ((k + suc j) ∷ ms)) head

-- a field that stands before those that were met has a number that is not asked for
pub place_passed : (count later at : ℕ) (fields : List FieldValue) (f : FieldValue) (places : List ℕ) → later ≡ suc at
    → drop at fields ≡ f ∷ drop (at + 1) fields → (f.field < count → ⊥)
    → places ≡ indices 0 count later (map (λ f. f.field) (drop later fields))
    → places ≡ indices 0 count at (map (λ f. f.field) (drop at fields))
place_passed count later at fields f places is here off so_far =
    let more : suc at ≡ at + 1 = omega arith in
    so_far ∙ ap (λ (n : ℕ). indices 0 count n (map (λ f. f.field) (drop n fields))) is
    ∙ ap (λ (n : ℕ). indices 0 count (suc at) (map (λ f. f.field) (drop n fields))) more
    ∙ indices_other 0 count at f.field (map (λ f. f.field) (drop (at + 1) fields))
    (λ j less e. off (omega (arith, less, e)))
    ∙ ap (λ (fs : List FieldValue). indices 0 count at (map (λ f. f.field) fs)) (sym here)

-- and one that is asked for
pub place_set : (count later at : ℕ) (fields : List FieldValue) (f : FieldValue) (places new : List ℕ) → later ≡ suc at
    → drop at fields ≡ f ∷ drop (at + 1) fields → f.field < count → new ≡ slice_set places f.field at
    → places ≡ indices 0 count later (map (λ f. f.field) (drop later fields))
    → new ≡ indices 0 count at (map (λ f. f.field) (drop at fields))
place_set count later at fields f places new is here less set so_far =
    let more : suc at ≡ at + 1 = omega arith in
    let there : places ≡ indices 0 count (suc at) (map (λ f. f.field) (drop (at + 1) fields)) =
    so_far ∙ ap (λ (n : ℕ). indices 0 count n (map (λ f. f.field) (drop n fields))) is
    ∙ ap (λ (n : ℕ). indices 0 count (suc at) (map (λ f. f.field) (drop n fields))) more in
    let first : 0 + f.field ≡ f.field = omega arith in
    set ∙ ap (λ (ps : List ℕ). slice_set ps f.field at) there
    ∙ indices_set 0 count at f.field (map (λ f. f.field) (drop (at + 1) fields)) less
    ∙ ap (λ (n : ℕ). indices 0 count at (n ∷ map (λ f. f.field) (drop (at + 1) fields))) first
    ∙ ap (λ (fs : List FieldValue). indices 0 count at (map (λ f. f.field) fs)) (sym here)

-- the index that is read for a number
pub index_read : (k n i j d : ℕ) (ms : List ℕ) → j < n → get_or (indices k n i ms) j d ≡ i + index_of (k + j) ms
index_read k zero i j d ms less = absurd (omega (arith, less))
index_read k (suc n) i zero d ms less =
    let same : k ≡ k + 0 = omega arith in ap (λ (m : ℕ). i + index_of m ms) same
index_read k (suc n) i (suc j) d ms less =
    let same : (k + 1) + j ≡ k + suc j = omega arith in
    index_read (k + 1) n i j d ms (omega (arith, less)) ∙ ap (λ (m : ℕ). i + index_of m ms) same

-- a value more becomes a local name
pub bind_next : (count i : ℕ) → i < count → bind_all (count - i) ≡ led instr.Bind (bind_all (count - (i + 1)))
bind_next count i less =
    let more : count - i ≡ suc (count - (i + 1)) = omega (arith, less) in ap (λ (n : ℕ). bind_all n) more

pub bind_end : (count i : ℕ) → count ≤ i → bind_all (count - i) ≡ nothing
bind_end count i most =
    let none : count - i ≡ 0 = omega (arith, most) in ap (λ (n : ℕ). bind_all n) none

-- local names by their indices
abbrev pub picked_at : ℕ → ℕ → List ℕ → Coded
picked_at i count [] = nothing
picked_at i count (p ∷ ps) = led (instr.Local (i + ((count - p) - 1))) (picked_at i count ps)

pub picked_by : (i : ℕ) (numbers : List ℕ) (k n : ℕ)
    → picked_at i (length numbers) (indices k n 0 numbers) ≡ picked i numbers k n
picked_by i numbers k zero = refl
picked_by i numbers k (suc n) =
    let same : (length numbers - (0 + index_of k numbers)) - 1 ≡ length numbers - suc (index_of k numbers) =
    omega arith in
    ap (λ (c : Coded). led (instr.Local (i + ((length numbers - (0 + index_of k numbers)) - 1))) c)
    (picked_by i numbers (k + 1) n)
    ∙ ap (λ (m : ℕ). led (instr.Local (i + m)) (picked i numbers (k + 1) n)) same

-- a number that stands in a list has an index below its length
pub in_below : (n : ℕ) (ms : List ℕ) → nat_lt (0 + index_of n ms) (length ms) ≡ is_in n ms
in_below n ms = ap (λ (m : ℕ). nat_lt m (length ms)) (omega arith) ∙ by ms
  where
    by : (ms : List ℕ) → nat_lt (index_of n ms) (length ms) ≡ is_in n ms
    by [] = refl
    by (m ∷ ms) = step (nat_eq n m) (by ms)
      where
        step : (b : Bool) → nat_lt (index_of n ms) (length ms) ≡ is_in n ms
            → nat_lt (if b then 0 else suc (index_of n ms)) (suc (length ms)) ≡ (if b then true else is_in n ms)
        step true e =
            let less : nat_lt 0 (suc (length ms)) ≡ true = grind (arith, nat_tests) in less
        step false e =
            let less : nat_lt (suc (index_of n ms)) (suc (length ms)) ≡ nat_lt (index_of n ms) (length ms) =
            grind (arith, nat_tests) in less ∙ e

-- whether a field has a number, by the index that is read for it
pub given_at : (count i place : ℕ) (fields : List FieldValue) → i < count
    → place ≡ get_or (indices 0 count 0 (map (λ f. f.field) fields)) i 0
    → nat_lt place (length fields) ≡ is_in i (map (λ f. f.field) fields)
given_at count i place fields less is =
    let given = map (λ f. f.field) fields in
    let same : 0 + i ≡ i = omega arith in
    let at : place ≡ 0 + index_of i given =
    is ∙ index_read 0 count 0 i 0 given less ∙ ap (λ (n : ℕ). 0 + index_of n given) same in
    ap (λ (n : ℕ). nat_lt n (length fields)) at
    ∙ ap (λ (n : ℕ). nat_lt (0 + index_of i given) n) (sym (length-map fields (λ f. f.field))) ∙ in_below i given
