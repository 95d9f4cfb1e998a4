-- What look-ups find: an entry of that number.
use Rattle.std.proofs.Common.{◌≡◌, ◌⊎◌, ℕ, ◌+◌, zero, suc, Bool, true, false, List, [], ◌∷◌, ◌++◌, Option, Some, None}
use Rattle.std.proofs.Common.{slice_get, refl, sym, ap, subst, rules, arith, inl, inr}
use Rattle.std.specs.Prelude.{bytes_eq, cond, find, reverse, option_map}
use Rattle.std.specs.List.{enumerate_from}
use Rattle.std.proofs.lemmas.List.{reverse-append}
use Rattle.cat_value.specs.declared.ty.Ty.{Ty}
use Rattle.cat_scope.specs.Names.{IsOneOf}
use Rattle.cat_names.specs.declared.typed.Local.{Local}
use Rattle.cat_names.specs.Lists.{numbered}
use Rattle.cat_names.specs.Lookup.{first_named, innermost, types_of}

-- what was found, with a part of it
pub part_is : {A B : Type 0} (part : A → B) (found : Option (ℕ × A)) (o : ℕ × B)
    → option_map (λ f. (f.0, part f.1)) found ≡ Some o → (a : A) × (found ≡ Some (o.0, a)) × (o.1 ≡ part a)
part_is part None o h = cc h
part_is part (Some f) o h = let is : (f.0, part f.1) ≡ o = cc h in
    (f.1, subst (λ m. Some f ≡ Some (m.0, f.1)) is refl, subst (λ m. m.1 ≡ part f.1) is refl)

-- what is found is one of the list
found_in : {A : Type 0} (test : A → Bool) (xs : List A) (f : A) → find test xs ≡ Some f → IsOneOf f xs
found_in test [] f h = cc h
found_in {A} test (x ∷ xs) f h = by (λ e. found_in test xs f e) (test x) h
  where
    by : (find test xs ≡ Some f → IsOneOf f xs) → (b : Bool) → cond b (Some x) (find test xs) ≡ Some f
        → IsOneOf f (x ∷ xs)
    by rest true g = let is : x ≡ f = cc g in inl (sym is)
    by rest false g = inr (rest g)

pub one_of_two : {A : Type 0} (x : A) (xs ys : List A) → IsOneOf x (xs ++ ys) → IsOneOf x xs ⊎ IsOneOf x ys
one_of_two x [] ys h = inr h
one_of_two x (y ∷ xs) ys (inl is) = inl (inl is)
one_of_two {A} x (y ∷ xs) ys (inr h) = by (one_of_two x xs ys h)
  where
    by : IsOneOf x xs ⊎ IsOneOf x ys → IsOneOf x (y ∷ xs) ⊎ IsOneOf x ys
    by (inl i) = inl (inr i)
    by (inr i) = inr i

in_reverse : {A : Type 0} (x : A) (xs : List A) → IsOneOf x (reverse xs) → IsOneOf x xs
in_reverse x [] h = h
in_reverse {A} x (y ∷ xs) h = by (λ i. in_reverse x xs i)
    (one_of_two x (reverse xs) (y ∷ []) (subst (IsOneOf x) (reverse-append (y ∷ []) xs) h))
  where
    by : (IsOneOf x (reverse xs) → IsOneOf x xs) → IsOneOf x (reverse xs) ⊎ IsOneOf x (y ∷ []) → IsOneOf x (y ∷ xs)
    by rest (inl i) = inr (rest i)
    by rest (inr (inl is)) = inl is
    by rest (inr (inr i)) = elim i [ ]

-- a numbered element is the element of its number
in_numbered : {A : Type 0} (n : ℕ) (xs : List A) (f : ℕ × A) → IsOneOf f (enumerate_from n xs)
    → (k : ℕ) × (f.0 ≡ n + k) × (slice_get xs k ≡ Some f.1)
in_numbered n [] f h = elim h [ ]
in_numbered n (x ∷ xs) f (inl is) =
    (0, subst (λ m. m.0 ≡ n + 0) (sym is) (omega arith), subst (λ m. Some x ≡ Some m.1) (sym is) refl)
in_numbered n (x ∷ xs) f (inr h) =
    let r = in_numbered (n + 1) xs f h in (r.0 + 1, omega (arith, r.1), search (rules, r.2))

pub numbered_is : {A : Type 0} (xs : List A) (f : ℕ × A) → IsOneOf f (numbered xs) → slice_get xs f.0 ≡ Some f.1
numbered_is xs f h = let r = in_numbered 0 xs f h in
    let is : r.0 ≡ f.0 = omega (arith, r.1) in subst (λ k. slice_get xs k ≡ Some f.1) is r.2

-- the first of a name has its number
pub first_is : {A : Type 0} (name_of : A → List ℕ) (w : List ℕ) (xs : List A) (f : ℕ × A)
    → first_named name_of w xs ≡ Some f → slice_get xs f.0 ≡ Some f.1
first_is name_of w xs f h = numbered_is xs f (found_in (λ x. bytes_eq (name_of x.1) w) (numbered xs) f h)

-- the innermost bound name has its number and its type
types_at : (locals : List Local) (k : ℕ) (l : Local) → slice_get locals k ≡ Some l
    → slice_get (types_of locals) k ≡ Some l.ty
types_at [] k l h = cc h
types_at (x ∷ locals) zero l h = let is : x ≡ l = cc h in ap (λ (m : Local). Some m.ty) is
types_at (x ∷ locals) (suc k) l h = types_at locals k l h

pub inner_is : (w : List ℕ) (locals : List Local) (l : ℕ × Ty) → innermost w locals ≡ Some l
    → slice_get (types_of locals) l.0 ≡ Some l.1
inner_is w locals l h =
    let found = part_is (λ (x : Local). x.ty) (find (λ x. bytes_eq x.1.name w) (reverse (numbered locals))) l h in
    let inside = in_reverse (l.0, found.0) (numbered locals)
    (found_in (λ x. bytes_eq x.1.name w) (reverse (numbered locals)) (l.0, found.0) found.1) in
    subst (λ t. slice_get (types_of locals) l.0 ≡ Some t) (sym found.2)
    (types_at locals l.0 found.0 (numbered_is locals (l.0, found.0) inside))
