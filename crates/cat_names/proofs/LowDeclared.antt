-- Where types have an order and no height is at fault, no declared type is too high.
use Rattle.std.proofs.Common.{◌≡◌, ◌<◌, ◌≤◌, ◌+◌, ◌&&◌, not, ℕ, zero, suc, Bool, true, false, List, [], ◌∷◌, ◌++◌}
use Rattle.std.proofs.Common.{length, map, Option, Some, None, Ok, slice_get, refl, sym, ap, ◌∙◌, subst, arith, IsTrue}
use Rattle.std.specs.Prelude.{flat_map, option_map, slice_index_or}
use Rattle.std.specs.List.{enumerate_from}
use Rattle.std.proofs.lemmas.Bool.Decides.{nat_tests}
use Rattle.cat_order.specs.Order.{IsOrder, dependencies_of, times, is_listed}
use Rattle.cat_order.specs.Cycle.{DependsOn}
use Rattle.cat_value.specs.declared.ty.Ty.{Ty}
use Rattle.cat_value.specs.declared.ty.Ty.TheVariants as flat_ty
use Rattle.cat_value.specs.declared.ty.Ty.TheViews as ty
use Rattle.cat_value.specs.declared.declaration.Field.{Field}
use Rattle.cat_value.specs.declared.declaration.Structure.{Structure}
use Rattle.cat_value.specs.declared.declaration.Case.{Case}
use Rattle.cat_value.specs.declared.declaration.Enumeration.{Enumeration}
use Rattle.cat_value.specs.Declarations.{highest}
use Rattle.cat_value.specs.Heights.{height_to, highest_field, highest_content, content_height, structure_parts}
use Rattle.cat_value.specs.Heights.{enumeration_parts}
use Rattle.cat_value.specs.Dependencies.{named_by, named_by_fields, named_by_content, named_by_cases, type_dependencies}
use Rattle.cat_value.proofs.Exported.{found, height_Boolean, height_Integer, height_Decimal, height_Money, height_Date}
use Rattle.cat_value.proofs.Exported.{height_Duration}
use Rattle.cat_tree.specs.declared.name.Name.{Name}
use Rattle.cat_tree.specs.declared.name.Type as written
use Rattle.cat_tree.specs.declared.program.Item.{Item}
use Rattle.cat_tree.specs.declared.program.Tree.{Tree}
use Rattle.cat_scope.specs.Names.{AllHave}
use Rattle.cat_names.proofs.ListLaws.{each_of, times_join}
use Rattle.cat_names.specs.declared.typed.Flat.{Flat}
use Rattle.cat_names.specs.declared.typed.Flat.TheVariants as flat
use Rattle.cat_names.specs.declared.fault.Fault.{Fault}
use Rattle.cat_names.specs.declared.fault.Fault.TheVariants.{TooMany}
use Rattle.cat_names.specs.Types.{whole}
use Rattle.cat_names.specs.Found.{fault_if}
use Rattle.cat_names.specs.Lists.{numbered}
use Rattle.cat_names.specs.Lookup.{TypeNames, base_type, nested_list}
use Rattle.cat_names.specs.Written.{names_of, structures_in, enumerations_in, types_in}
use Rattle.cat_names.specs.Declarations.{Declared, structure_declared, enumeration_declared, declared_of}
use Rattle.cat_names.specs.Heights.{is_high, has_low_parts, high_named, is_high_list, high_list, types_written}
use Rattle.cat_names.specs.Heights.{height_faults}
use Rattle.cat_names.proofs.OkParts.{all_at, nothing_in, nothing_behind}
use Rattle.cat_names.proofs.DeclaredForward.{Holds, ContentHas, ItemHas, as_many}
use Rattle.cat_names.proofs.MadeTypes.{IsBase, plain, structure, enumeration, IsMade, base_is, nested_named}
use Rattle.cat_names.proofs.MadeTypes.{structure_named, enumeration_named, dependencies_counted}
use Rattle.cat_names.proofs.ByOrder.{by_order}
use Rattle.cat_names.proofs.DeclaredMade.{DeclaredParts, AllTypes, all_types, types_counted, declared_parts}
use Rattle.cat_value.specs.declared.ty.Ty.TheVariants as flat_ty
use Rattle.cat_value.specs.declared.ty.Ty.TheViews as ty
use Rattle.cat_tree.specs.declared.name.Type as written
use Rattle.cat_names.specs.declared.typed.Flat.TheVariants as flat

-- what comes of a list of tests that all fail
pub none_each : {A : Type 0} (f : A → List Fault) (xs : List A) → flat_map f xs ≡ [] → AllHave (λ x. f x ≡ []) xs
none_each f [] h = tt
none_each f (x ∷ xs) h = (nothing_in (f x) (flat_map f xs) h, none_each f xs (nothing_behind (f x) (flat_map f xs) h))

pub no_test : (b : Bool) (fault : Fault) → fault_if b fault ≡ [] → b ≡ false
no_test true fault h = cc h
no_test false fault h = refl

pub numbered_at : {A : Type 0} (P : ℕ × A → Type 0) (m : ℕ) (xs : List A) (k : ℕ) (x : A) → AllHave P
    (enumerate_from m xs)
    → slice_get xs k ≡ Some x → P (m + k, x)
numbered_at P m [] k x all h = cc h
numbered_at P m (y ∷ ys) zero x all h = let same : y ≡ x = cc h in let at : m ≡ m + 0 = omega arith in
    subst (λ z. P (m + 0, z)) same (subst (λ n. P (n, y)) at all.0)
numbered_at P m (y ∷ ys) (suc k) x all h = let at : m + 1 + k ≡ m + suc k = omega arith in
    subst (λ n. P (n, x)) at (numbered_at P (m + 1) ys k x all.1 h)

flat_low : (d : Declared) (f : Flat) → is_high d (whole f) ≡ false
flat_low d flat.Boolean = rw (height_Boolean d.structures d.enumerations 63) refl
flat_low d flat.Integer = rw (height_Integer d.structures d.enumerations 63) refl
flat_low d flat.Decimal = rw (height_Decimal d.structures d.enumerations 63) refl
flat_low d flat.Money = rw (height_Money d.structures d.enumerations 63) refl
flat_low d flat.Date = rw (height_Date d.structures d.enumerations 63) refl
flat_low d flat.Duration = rw (height_Duration d.structures d.enumerations 63) refl

-- a type that is low where what it is made of is
pub record IsSafe (d : Declared) (t : Ty) : Type 0 where
  pub made : IsMade (length d.structures) (length d.enumerations) t
  pub safe : is_high d made.base ≡ false → is_high d t ≡ false

-- ---- written lists

low_list : (a b : Bool) → (a && not b) ≡ false → b ≡ false → a ≡ false
low_list true true h i = cc i
low_list true false h i = cc h
low_list false b h i = refl

written_safe : (items : List Item) (d : Declared) → DeclaredParts items d → (w : written.Type)
    → high_list d (types_in items) w ≡ [] → Holds (types_in items) (IsSafe d) w
written_safe items d parts w none t h = by (base_type names w.base) refl h none
  where
    names : TypeNames
    names = types_in items

    by : (o : Option Ty) → base_type names w.base ≡ o → option_map (nested_list w.lists) o ≡ Some t
        → fault_if (is_high_list d (option_map (nested_list w.lists) o) o) (TooMany w.pos) ≡ [] → IsSafe d t
    by None is g none = cc g
    by (Some b) is g none = let same : nested_list w.lists b ≡ t = cc g in
        let kind = base_is (length d.structures) (length d.enumerations) names
        (types_counted items d parts) w.base b is in
        subst (IsSafe d) same (record {
          made = record { lists = w.lists; base = b; kind = kind; type_is = refl };
          safe = λ low. low_list (is_high d (nested_list w.lists b)) (is_high d b)
              (no_test (is_high d (nested_list w.lists b) && not (is_high d b)) (TooMany w.pos) none) low;
        })

boolean_safe : (d : Declared) → IsSafe d flat_ty.Boolean
boolean_safe d = record {
  made = record { lists = 0; base = flat_ty.Boolean; kind = plain flat.Boolean; type_is = refl };
  safe = λ low. low;
}

-- ---- structures and enumerations, in their order

module _ (d : Declared) where
  abbrev s : ℕ
  s = length d.structures

  abbrev e : ℕ
  e = length d.enumerations

  abbrev height : Ty → ℕ
  height = height_to d.structures d.enumerations highest

  abbrev deps : List (List ℕ)
  deps = type_dependencies d.structures d.enumerations

  -- the structure or the enumeration of that number is low
  record IsLow (m : ℕ) : Type 0 where
    structure_low : m < s → is_high d (flat_ty.Structure m) ≡ false
    enumeration_low : (n : ℕ) → m ≡ s + n → n < e → is_high d (flat_ty.Enumeration n) ≡ false

  base_low : (b : Ty) → IsBase s e b → ((m : ℕ) → 0 < times (named_by s b) m → IsLow m) → is_high d b ≡ false
  base_low b (plain f) low = flat_low d f
  base_low b (structure n less) low =
      (low n (rw (structure_named s n) (grind (arith, nat_tests)))).structure_low less
  base_low b (enumeration n less) low =
      (low (s + n) (rw (enumeration_named s n) (grind (arith, nat_tests)))).enumeration_low n refl less

  type_low : (t : Ty) → IsSafe d t → ((m : ℕ) → 0 < times (named_by s t) m → IsLow m) → is_high d t ≡ false
  type_low t is low =
      let named : named_by s t ≡ named_by s is.made.base =
      ap (λ u. named_by s u) (sym is.made.type_is) ∙ nested_named s is.made.lists is.made.base in
      is.safe (base_low is.made.base is.made.kind (λ m h. low m (subst (λ ns. 0 < times ns m) (sym named) h)))

  high_below : (t : Ty) → is_high d t ≡ false → height t ≤ highest
  high_below t h = grind (arith, nat_tests, h)

  fields_low : (fs : List Field) → AllHave (λ f. IsSafe d f.ty) fs
      → ((m : ℕ) → 0 < times (named_by_fields s fs) m → IsLow m) → highest_field height fs ≤ highest
  fields_low [] all low = omega arith
  fields_low (f ∷ fs) all low =
      let here = named_by s f.ty in let rest = named_by_fields s fs in
      let first = high_below f.ty (type_low f.ty all.0 (λ m h. low m (omega (arith, times_join here rest m, h)))) in
      let more = fields_low fs all.1 (λ m h. low m (omega (arith, times_join here rest m, h))) in
      omega (arith, first, more)

  content_low : (names : TypeNames) (c : Option Ty) → ContentHas names (IsSafe d) c
      → ((m : ℕ) → 0 < times (named_by_content s c) m → IsLow m) → content_height height c ≤ highest
  content_low names None is low = omega arith
  content_low names (Some t) is low = high_below t (type_low t is low)

  cases_low : (names : TypeNames) (cs : List Case) → AllHave (λ c. ContentHas names (IsSafe d) c.content) cs
      → ((m : ℕ) → 0 < times (named_by_cases s cs) m → IsLow m) → highest_content height cs ≤ highest
  cases_low names [] all low = omega arith
  cases_low names (c ∷ cs) all low =
      let here = named_by_content s c.content in let rest = named_by_cases s cs in
      let first = content_low names c.content all.0 (λ m h. low m (omega (arith, times_join here rest m, h))) in
      let more = cases_low names cs all.1 (λ m h. low m (omega (arith, times_join here rest m, h))) in
      omega (arith, first, more)

  low_unless : (t : Ty) → (is_high d t && has_low_parts d t) ≡ false → has_low_parts d t ≡ true → is_high d t ≡ false
  low_unless t h parts = by (is_high d t) (has_low_parts d t) h parts
    where
      by : (a b : Bool) → (a && b) ≡ false → b ≡ true → a ≡ false
      by true true g i = cc g
      by true false g i = cc i
      by false b g i = refl

  structure_parts_low : (n : ℕ) (x : Structure) → slice_get d.structures n ≡ Some x
      → highest_field height x.fields ≤ highest → has_low_parts d (flat_ty.Structure n) ≡ true
  structure_parts_low n x at low =
      let parts : structure_parts height (slice_get d.structures n) ≡ highest_field height x.fields =
      ap (structure_parts height) at in
      rw (ty.outs-Structure n) (grind (arith, nat_tests, parts, low))

  enumeration_parts_low : (n : ℕ) (x : Enumeration) → slice_get d.enumerations n ≡ Some x
      → highest_content height x.cases ≤ highest → has_low_parts d (flat_ty.Enumeration n) ≡ true
  enumeration_parts_low n x at low =
      let parts : enumeration_parts height (slice_get d.enumerations n) ≡ highest_content height x.cases =
      ap (enumeration_parts height) at in
      rw (ty.outs-Enumeration n) (grind (arith, nat_tests, parts, low))

-- ---- what a structure or an enumeration depends on

at_left : {A : Type 0} (f : A → List ℕ) (xs : List A) (ys : List (List ℕ)) (k : ℕ) (x : A) → slice_get xs k ≡ Some x
    → slice_index_or (map f xs ++ ys) k [] ≡ f x
at_left f [] ys k x h = cc h
at_left f (y ∷ xs) ys zero x h = let same : y ≡ x = cc h in ap f same
at_left f (y ∷ xs) ys (suc k) x h = at_left f xs ys k x h

at_right : {A : Type 0} (f : A → List ℕ) (xs : List A) (ys : List (List ℕ)) (k : ℕ)
    → slice_index_or (map f xs ++ ys) (length xs + k) [] ≡ slice_index_or ys k []
at_right f [] ys k = let same : 0 + k ≡ k = omega arith in ap (λ n. slice_index_or ys n []) same
at_right f (y ∷ xs) ys k = let same : length (y ∷ xs) + k ≡ suc (length xs + k) = omega arith in
    ap (λ n. slice_index_or (f y ∷ map f xs ++ ys) n []) same ∙ at_right f xs ys k

pub alone : {A : Type 0} (f : A → List ℕ) (xs : List A) (k : ℕ) (x : A) → slice_get xs k ≡ Some x
    → slice_index_or (map f xs) k [] ≡ f x
alone f [] k x h = cc h
alone f (y ∷ xs) zero x h = let same : y ≡ x = cc h in ap f same
alone f (y ∷ xs) (suc k) x h = alone f xs k x h

module _ (d : Declared) (names : TypeNames) (safe : AllTypes names (IsSafe d) d)
    (structures_fine : (n : ℕ) → n < length d.structures
    → (is_high d (flat_ty.Structure n) && has_low_parts d (flat_ty.Structure n)) ≡ false)
    (enumerations_fine : (n : ℕ) → n < length d.enumerations
    → (is_high d (flat_ty.Enumeration n) && has_low_parts d (flat_ty.Enumeration n)) ≡ false) where
  abbrev of_fields : Structure → List ℕ
  of_fields x = named_by_fields (length d.structures) x.fields

  abbrev of_cases : Enumeration → List ℕ
  of_cases x = named_by_cases (length d.structures) x.cases

  depends : (m : ℕ) (ns : List ℕ) → dependencies_of (deps d) m ≡ ns → (k : ℕ) → 0 < times ns k → DependsOn (deps d) m k
  depends m ns is k h = subst (λ xs. IsTrue (is_listed xs k)) (sym is) (grind (arith, nat_tests, h))

  step : (m : ℕ) → m < length (deps d) → ((k : ℕ) → DependsOn (deps d) m k → IsLow d k) → IsLow d m
  step m within_ low = record {
    structure_low = λ less. by_structure (found d.structures m less) less;
    enumeration_low = λ n is less. by_enumeration n is (found d.enumerations n less) less;
  }
    where
      by_structure : (x : Structure) × (slice_get d.structures m ≡ Some x) → m < length d.structures
          → is_high d (flat_ty.Structure m) ≡ false
      by_structure (x, at) less =
          let deps_are : dependencies_of (deps d) m ≡ of_fields x =
          at_left of_fields d.structures (map of_cases d.enumerations) m x at in
          let fields = all_at (λ (y : Structure). AllHave (λ f. IsSafe d f.ty) y.fields) d.structures m x
          safe.structures at in
          low_unless d (flat_ty.Structure m) (structures_fine m less) (structure_parts_low d m x at
          (fields_low d x.fields fields (λ k h. low k (depends m (of_fields x) deps_are k h))))

      by_enumeration : (n : ℕ) → m ≡ length d.structures + n
          → (x : Enumeration) × (slice_get d.enumerations n ≡ Some x) → n < length d.enumerations
          → is_high d (flat_ty.Enumeration n) ≡ false
      by_enumeration n is (x, at) less =
          let deps_are : dependencies_of (deps d) m ≡ of_cases x =
          ap (λ k. dependencies_of (deps d) k) is
          ∙ at_right of_fields d.structures (map of_cases d.enumerations) n
          ∙ alone of_cases d.enumerations n x at in
          let cases = all_at (λ (y : Enumeration). AllHave (λ c. ContentHas names (IsSafe d) c.content) y.cases)
          d.enumerations n x safe.enumerations at in
          low_unless d (flat_ty.Enumeration n) (enumerations_fine n less) (enumeration_parts_low d n x at
          (cases_low d names x.cases cases (λ k h. low k (depends m (of_cases x) deps_are k h))))

  module _ (listed : List ℕ) (is : IsOrder (deps d) listed) where
    each_low : (m : ℕ) → m < length (deps d) → IsLow d m
    each_low = by_order (deps d) listed is (IsLow d) step

    structure_is_low : (n : ℕ) → n < length d.structures → is_high d (flat_ty.Structure n) ≡ false
    structure_is_low n less =
        (each_low n (omega (arith, dependencies_counted d.structures d.enumerations, less))).structure_low less

    enumeration_is_low : (n : ℕ) → n < length d.enumerations → is_high d (flat_ty.Enumeration n) ≡ false
    enumeration_is_low n less =
        let low = each_low (length d.structures + n)
        (omega (arith, dependencies_counted d.structures d.enumerations, less)) in
        low.enumeration_low n refl less

    each_type_low : (t : Ty) → IsSafe d t → is_high d t ≡ false
    each_type_low t is = is.safe (by is.made.base is.made.kind)
      where
        by : (b : Ty) → IsBase (length d.structures) (length d.enumerations) b → is_high d b ≡ false
        by b (plain f) = flat_low d f
        by b (structure n less) = structure_is_low n less
        by b (enumeration n less) = enumeration_is_low n less

-- ---- the whole

-- no declared type is too high
pub record AreLow (items : List Item) (d : Declared) : Type 0 where
  pub structures : (n : ℕ) → n < length d.structures → is_high d (flat_ty.Structure n) ≡ false
  pub enumerations : (n : ℕ) → n < length d.enumerations → is_high d (flat_ty.Enumeration n) ≡ false
  pub types : AllTypes (types_in items) (λ t. is_high d t ≡ false) d

content_of_each : (names : TypeNames) (G H : Ty → Type 0) → ((t : Ty) → G t → H t) → (c : Option Ty)
    → ContentHas names G c → ContentHas names H c
content_of_each names G H on None is = tt
content_of_each names G H on (Some t) is = on t is

types_of_each : (names : TypeNames) (G H : Ty → Type 0) → ((t : Ty) → G t → H t) → (d : Declared) → AllTypes names G d
    → AllTypes names H d
types_of_each names G H on d all = record {
  structures = each_of _ _ (λ s h. each_of _ _ (λ (f : Field) g. on f.ty g) s.fields h) d.structures all.structures;
  enumerations = each_of _ _ (λ e h. each_of _ _ (λ (c : Case) g. content_of_each names G H on c.content g) e.cases h)
      d.enumerations all.enumerations;
  scopes = each_of _ _ (λ s h. each_of (ItemHas names G) (ItemHas names H) (λ i g. record {
    type = on i.ty g.type;
    params = each_of G H on i.params g.params;
  }) s.items h) d.scopes all.scopes;
}

names_as_many : {A : Type 0} (xs : List (Name × A)) → length (names_of xs) ≡ length xs
names_as_many [] = refl
names_as_many (x ∷ xs) = omega (arith, names_as_many xs)

-- the names of what is too high are at fault
fine : (d : Declared) (of_number : ℕ → Ty) (ws : List Name) → high_named d of_number ws ≡ [] → (n : ℕ) → n < length ws
    → (is_high d (of_number n) && has_low_parts d (of_number n)) ≡ false
fine d of_number ws none n less =
    let w = found ws n less in
    let at = numbered_at (λ x. fault_if (is_high d (of_number x.0) && has_low_parts d (of_number x.0))
    (TooMany x.1.pos) ≡ []) 0 ws n w.0 (none_each _ (numbered ws) none) w.1 in
    let same : 0 + n ≡ n = omega arith in
    subst (λ k. (is_high d (of_number k) && has_low_parts d (of_number k)) ≡ false) same
    (no_test (is_high d (of_number (0 + n)) && has_low_parts d (of_number (0 + n))) (TooMany w.0.pos) at)

pub declared_low : (tree : Tree) (d : Declared) → declared_of tree.items ≡ Ok d → (listed : List ℕ)
    → IsOrder (type_dependencies d.structures d.enumerations) listed → height_faults tree d ≡ []
    → AreLow tree.items d
declared_low tree d h listed is none =
    let items = tree.items in let names = types_in items in
    let parts = declared_parts items d h in
    let ss = names_of (structures_in items) in let es = names_of (enumerations_in items) in
    let named = high_named d flat_ty.Structure ss in
    let front = named ++ high_named d flat_ty.Enumeration es in
    let structures = nothing_in named _ (nothing_in front _ none) in
    let enumerations = nothing_behind named _ (nothing_in front _ none) in
    let lists = nothing_behind front _ none in
    let safe = all_types items d parts (IsSafe d) (boolean_safe d)
    (each_of _ (Holds names (IsSafe d)) (written_safe items d parts) (flat_map types_written items)
    (none_each (high_list d names) (flat_map types_written items) lists)) in
    let s_fine = λ (n : ℕ) (less : n < length d.structures). fine d flat_ty.Structure ss structures n (omega (
      arith,
      less,
      names_as_many (structures_in items),
      as_many (structure_declared names) (structures_in items) d.structures parts.structures,
    )) in
    let e_fine = λ (n : ℕ) (less : n < length d.enumerations). fine d flat_ty.Enumeration es enumerations n (omega (
      arith,
      less,
      names_as_many (enumerations_in items),
      as_many (enumeration_declared names) (enumerations_in items) d.enumerations parts.enumerations,
    )) in
    record {
      structures = structure_is_low d names safe s_fine e_fine listed is;
      enumerations = enumeration_is_low d names safe s_fine e_fine listed is;
      types = types_of_each names (IsSafe d) (λ t. is_high d t ≡ false)
          (each_type_low d names safe s_fine e_fine listed is) d safe;
    }
