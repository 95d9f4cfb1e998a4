-- What types name, and the lines of their parts.
use Rattle.std.proofs.Common.{◌≡◌, ◌≤◌, ◌<◌, ◌+◌, ◌-◌, ◌||◌, ℕ, zero, suc, nat_eq, Bool, true, false, IsTrue}
use Rattle.std.proofs.Common.{List, [], ◌∷◌, ◌++◌, length, map, drop, get_or, Some, slice_get}
use Rattle.std.proofs.Common.{refl, sym, ap, ◌∙◌, subst, arith, true≢false}
use Rattle.std.proofs.lemmas.Bool.Decides.{nat_tests}
use Rattle.std.proofs.lemmas.List.{drop_all, length-map}
use Rattle.cat_order.specs.Order.{is_listed}
use Rattle.cat_order.specs.Cycle.{DependsOn}
use Rattle.cat_value.specs.declared.ty.Ty.{Ty}
use Rattle.cat_value.specs.declared.ty.Ty.TheVariants as flat
use Rattle.cat_value.specs.declared.ty.Ty.TheViews as ty
use Rattle.cat_value.specs.declared.declaration.Structure.{Structure}
use Rattle.cat_value.specs.declared.declaration.Enumeration.{Enumeration}
use Rattle.cat_value.specs.Dependencies.{named_by, named_by_fields, named_by_cases, type_dependencies}
use Rattle.cat_value.proofs.DependencyEquations as names
use Rattle.cat_depend.proofs.Listing.{listed_both}

-- ---- each form of type

listed_one : (a b : ℕ) → is_listed (a ∷ []) b ≡ nat_eq a b
listed_one a b = grind (arith, nat_tests)

pub names_Boolean : (n m : ℕ) → is_listed (named_by n flat.Boolean) m ≡ false
names_Boolean n m = rw (names.named_by_Boolean n) refl

pub names_Integer : (n m : ℕ) → is_listed (named_by n flat.Integer) m ≡ false
names_Integer n m = rw (names.named_by_Integer n) refl

pub names_Decimal : (n m : ℕ) → is_listed (named_by n flat.Decimal) m ≡ false
names_Decimal n m = rw (names.named_by_Decimal n) refl

pub names_Money : (n m : ℕ) → is_listed (named_by n flat.Money) m ≡ false
names_Money n m = rw (names.named_by_Money n) refl

pub names_Date : (n m : ℕ) → is_listed (named_by n flat.Date) m ≡ false
names_Date n m = rw (names.named_by_Date n) refl

pub names_Duration : (n m : ℕ) → is_listed (named_by n flat.Duration) m ≡ false
names_Duration n m = rw (names.named_by_Duration n) refl

pub names_List : (n m : ℕ) (t : Ty) → is_listed (named_by n (ty.List t)) m ≡ is_listed (named_by n t) m
names_List n m t = ap (λ (ns : List ℕ). is_listed ns m) (names.named_by_List n t)

pub names_Structure : (n m k : ℕ) → is_listed (named_by n (flat.Structure k)) m ≡ nat_eq k m
names_Structure n m k = ap (λ (ns : List ℕ). is_listed ns m) (names.named_by_Structure n k) ∙ listed_one k m

pub names_Enumeration : (n m k : ℕ) → is_listed (named_by n (flat.Enumeration k)) m ≡ nat_eq (n + k) m
names_Enumeration n m k = ap (λ (ns : List ℕ). is_listed ns m) (names.named_by_Enumeration n k) ∙ listed_one (n + k) m

pub ruleset naming_types = (
  names_Boolean,
  names_Integer,
  names_Decimal,
  names_Money,
  names_Date,
  names_Duration,
  names_List,
  names_Structure,
  names_Enumeration,
)

-- ---- one number behind another

-- ---- which part names

or_left : (a b : Bool) → (a || b) ≡ true → a ≡ false → b ≡ true
or_left false b h other = h
or_left true b h other = absurd (true≢false other)

-- where a part doesn't name it, one of the others does
pub others_name : {A : Type 0} (word : A → List ℕ) (listed : List A → List ℕ)
    → ((x : A) (xs : List A) → listed (x ∷ xs) ≡ word x ++ listed xs) → (xs : List A) (i : ℕ) (x : A) (number : ℕ)
    → i < length xs → get_or xs i x ≡ x → IsTrue (is_listed (listed (drop i xs)) number)
    → is_listed (word x) number ≡ false → IsTrue (is_listed (listed (drop (i + 1) xs)) number)
others_name word listed cons [] i x number within is names other = absurd (omega (arith, within))
others_name word listed cons (y ∷ xs) zero x number within is names other =
    or_left (is_listed (word x) number) (is_listed (listed xs) number)
    (sym (listed_both (word x) (listed xs) number)
    ∙ ap (λ y. is_listed (word y ++ listed xs) number) (sym is)
    ∙ ap (λ ns. is_listed ns number) (sym (cons y xs)) ∙ names)
    other
others_name word listed cons (y ∷ xs) (suc i) x number within is names other =
    let one : suc i + 1 ≡ suc (i + 1) = omega arith in
    subst (λ (n : ℕ). IsTrue (is_listed (listed (drop n (y ∷ xs))) number)) (sym one)
    (others_name word listed cons xs i x number (omega (arith, within)) is names other)

pub none_names : {A : Type 0} (listed : List A → List ℕ) → listed [] ≡ [] → (xs : List A) (i number : ℕ)
    → length xs ≤ i → IsTrue (is_listed (listed (drop i xs)) number) → ⊥
none_names listed none xs i number past names =
    true≢false (sym names ∙ ap (λ ys. is_listed (listed ys) number) (drop_all i xs past)
    ∙ ap (λ ns. is_listed ns number) none)

-- ---- what a structure or an enumeration depends on

pub index_front : {A B : Type 0} (f : A → B) (xs : List A) (ys : List B) (n : ℕ) (x : A) (d : B) → slice_get xs n
    ≡ Some x
    → get_or (map f xs ++ ys) n d ≡ f x
index_front f [] ys n x d at = absurd (cc at)
index_front f (z ∷ xs) ys zero x d at = let same : z ≡ x = cc at in ap f same
index_front f (z ∷ xs) ys (suc n) x d at = index_front f xs ys n x d at

pub index_at : {A B : Type 0} (f : A → B) (xs : List A) (n : ℕ) (x : A) (d : B) → slice_get xs n ≡ Some x
    → get_or (map f xs) n d ≡ f x
index_at f [] n x d at = absurd (cc at)
index_at f (z ∷ xs) zero x d at = let same : z ≡ x = cc at in ap f same
index_at f (z ∷ xs) (suc n) x d at = index_at f xs n x d at

pub index_behind : {B : Type 0} (xs ys : List B) (k n : ℕ) (d : B) → k ≡ length xs + n
    → get_or (xs ++ ys) k d ≡ get_or ys n d
index_behind [] ys k n d is = let same : k ≡ n = omega (arith, is) in ap (λ m. get_or ys m d) same
index_behind (x ∷ xs) ys zero n d is = absurd (omega (arith, is))
index_behind (x ∷ xs) ys (suc k) n d is = index_behind xs ys k n d (omega (arith, is))

module _ (ss : List Structure) (es : List Enumeration) (number part : ℕ)
    (on : DependsOn (type_dependencies ss es) number part) where
  abbrev fields : Structure → List ℕ
  fields s = named_by_fields (length ss) s.fields

  abbrev cases : Enumeration → List ℕ
  cases e = named_by_cases (length ss) e.cases

  pub fields_name : (s : Structure) → slice_get ss number ≡ Some s → IsTrue (is_listed (fields s) part)
  fields_name s at = sym (ap (λ ns. is_listed ns part) (index_front fields ss (map cases es) number s [] at)) ∙ on

  pub cases_name : (e : Enumeration) → length ss ≤ number → slice_get es (number - length ss) ≡ Some e
      → IsTrue (is_listed (cases e) part)
  cases_name e past at =
      let front = length-map ss fields in
      let k : number ≡ length (map fields ss) + (number - length ss) = omega (arith, front, past) in
      sym (ap (λ ns. is_listed ns part) (index_behind (map fields ss) (map cases es) number (number - length ss) [] k
      ∙ index_at cases es (number - length ss) e [] at)) ∙ on
