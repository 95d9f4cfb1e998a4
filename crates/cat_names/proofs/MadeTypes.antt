-- What a declared type is made of: lists of a flat type, or of a structure or an enumeration that is declared.
use Rattle.std.proofs.Common.{◌≡◌, ◌<◌, ◌+◌, ℕ, zero, suc, true, IsTrue, List, [], ◌∷◌, ◌++◌, length, map, Option, Some}
use Rattle.std.proofs.Common.{None, refl, sym, ◌∙◌, subst, rules, arith, All}
use Rattle.std.specs.Prelude.{option_map}
use Rattle.std.specs.Option.{option_or}
use Rattle.std.proofs.lemmas.Bool.Decides.{nat_tests}
use Rattle.std.proofs.lemmas.List.{length-append, length-map}
use Rattle.cat_order.specs.Order.{AreItems}
use Rattle.cat_value.specs.declared.ty.Ty.{Ty}
use Rattle.cat_value.specs.declared.ty.Ty.TheVariants as flat_ty
use Rattle.cat_value.specs.declared.declaration.Field.{Field}
use Rattle.cat_value.specs.declared.declaration.Structure.{Structure}
use Rattle.cat_value.specs.declared.declaration.Case.{Case}
use Rattle.cat_value.specs.declared.declaration.Enumeration.{Enumeration}
use Rattle.cat_value.specs.Declarations.{is_declared}
use Rattle.cat_value.specs.Dependencies.{named_by, named_by_fields, named_by_content, named_by_cases, type_dependencies}
use Rattle.cat_value.proofs.Exported.{is_declared_Boolean, is_declared_Integer, is_declared_Decimal, is_declared_Money}
use Rattle.cat_value.proofs.Exported.{is_declared_Date, is_declared_Duration, is_declared_List, is_declared_Structure}
use Rattle.cat_value.proofs.Exported.{is_declared_Enumeration, within, naming}
use Rattle.cat_tree.specs.declared.name.Base.{Base}
use Rattle.cat_tree.specs.declared.name.Base.TheVariants as base
use Rattle.cat_tree.specs.declared.name.Type as written
use Rattle.cat_scope.specs.Names.{AllHave}
use Rattle.cat_names.proofs.ListLaws.{each_of}
use Rattle.cat_names.specs.declared.typed.Flat.{Flat}
use Rattle.cat_names.specs.declared.typed.Flat.TheVariants as flat
use Rattle.cat_names.specs.Types.{whole}
use Rattle.cat_names.specs.Lookup.{TypeNames, type_named, base_type, nested_list, type_written, first_named}
use Rattle.cat_names.proofs.Lookups.{first_is}
use Rattle.cat_names.proofs.ByOrder.{all_by}

-- a flat type, or a structure or an enumeration of which there are so many
pub data IsBase (structures enumerations : ℕ) : Ty → Type 0 where
  plain : (f : Flat) → IsBase structures enumerations (whole f)
  structure : (n : ℕ) → n < structures → IsBase structures enumerations (flat_ty.Structure n)
  enumeration : (n : ℕ) → n < enumerations → IsBase structures enumerations (flat_ty.Enumeration n)

-- lists of such a type
pub record IsMade (structures enumerations : ℕ) (t : Ty) : Type 0 where
  pub lists : ℕ
  pub base : Ty
  pub kind : IsBase structures enumerations base
  pub type_is : nested_list lists base ≡ t

-- ---- what is written

-- as many structures and enumerations as there are names
pub record HaveNames (s e : ℕ) (names : TypeNames) : Type 0 where
  pub structures : length names.structures ≡ s
  pub enumerations : length names.enumerations ≡ e

named_base : (s e : ℕ) (names : TypeNames) → HaveNames s e names → (u : List ℕ) (t : Ty)
    → type_named names u ≡ Some t → IsBase s e t
named_base s e names counted u t h =
    by (first_named (λ name. name) u names.structures) refl (first_named (λ name. name) u names.enumerations) refl h
  where
    below : (xs : List (List ℕ)) (k : ℕ) (f : ℕ × List ℕ) → length xs ≡ k → first_named (λ name. name) u xs ≡ Some f
        → f.0 < k
    below xs k f are is =
        omega (arith, are, within xs f.0 f.1 (first_is (λ name. name) u xs f is))

    by : (o : Option (ℕ × List ℕ)) → first_named (λ name. name) u names.structures ≡ o → (p : Option (ℕ × List ℕ))
        → first_named (λ name. name) u names.enumerations ≡ p
        → option_or (option_map (λ x. flat_ty.Structure x.0) o) (option_map (λ x. flat_ty.Enumeration x.0) p) ≡ Some t
        → IsBase s e t
    by (Some f) is p other g = let same : flat_ty.Structure f.0 ≡ t = cc g in
        subst (IsBase s e) same (structure f.0 (below names.structures s f counted.structures is))
    by None is (Some f) other g = let same : flat_ty.Enumeration f.0 ≡ t = cc g in
        subst (IsBase s e) same (enumeration f.0 (below names.enumerations e f counted.enumerations other))
    by None is None other g = cc g

flat_base : (s e : ℕ) (f : Flat) (t : Ty) → Some (whole f) ≡ Some t → IsBase s e t
flat_base s e f t h = let same : whole f ≡ t = cc h in subst (IsBase s e) same (plain f)

pub base_is : (s e : ℕ) (names : TypeNames) → HaveNames s e names → (b : Base) (t : Ty) → base_type names b ≡ Some t
    → IsBase s e t
base_is s e names counted base.Boolean t h = flat_base s e flat.Boolean t h
base_is s e names counted base.Integer t h = flat_base s e flat.Integer t h
base_is s e names counted base.Decimal t h = flat_base s e flat.Decimal t h
base_is s e names counted base.Money t h = flat_base s e flat.Money t h
base_is s e names counted base.Date t h = flat_base s e flat.Date t h
base_is s e names counted base.Duration t h = flat_base s e flat.Duration t h
base_is s e names counted (base.Named u) t h = named_base s e names counted u t h

pub written_made : (s e : ℕ) (names : TypeNames) → HaveNames s e names → (w : written.Type) (t : Ty)
    → type_written names w ≡ Some t → IsMade s e t
written_made s e names counted w t h = by (base_type names w.base) refl h
  where
    by : (o : Option Ty) → base_type names w.base ≡ o → option_map (nested_list w.lists) o ≡ Some t → IsMade s e t
    by None is g = cc g
    by (Some b) is g = let same : nested_list w.lists b ≡ t = cc g in
        record { lists = w.lists; base = b; kind = base_is s e names counted w.base b is; type_is = same }

-- ---- declared types

module _ (ss : List Structure) (es : List Enumeration) where
  nested_declared : (k : ℕ) (b : Ty) → is_declared ss es (nested_list k b) ≡ is_declared ss es b
  nested_declared zero b = refl
  nested_declared (suc k) b = is_declared_List ss es (nested_list k b) ∙ nested_declared k b

  flat_declared : (f : Flat) → is_declared ss es (whole f) ≡ true
  flat_declared flat.Boolean = is_declared_Boolean ss es
  flat_declared flat.Integer = is_declared_Integer ss es
  flat_declared flat.Decimal = is_declared_Decimal ss es
  flat_declared flat.Money = is_declared_Money ss es
  flat_declared flat.Date = is_declared_Date ss es
  flat_declared flat.Duration = is_declared_Duration ss es

  base_declared : (b : Ty) → IsBase (length ss) (length es) b → is_declared ss es b ≡ true
  base_declared b (plain f) = flat_declared f
  base_declared b (structure n less) = is_declared_Structure ss es n ∙ grind (arith, nat_tests, less)
  base_declared b (enumeration n less) = is_declared_Enumeration ss es n ∙ grind (arith, nat_tests, less)

  pub made_declared : (t : Ty) → IsMade (length ss) (length es) t → IsTrue (is_declared ss es t)
  made_declared t is = subst (λ u. IsTrue (is_declared ss es u)) is.type_is
      (nested_declared is.lists is.base ∙ base_declared is.base is.kind)

-- ---- what a type names

pub nested_named : (s k : ℕ) (b : Ty) → named_by s (nested_list k b) ≡ named_by s b
nested_named s zero b = refl
nested_named s (suc k) b = search (rules, naming, nested_named s k b)

flat_named : (s : ℕ) (f : Flat) → named_by s (whole f) ≡ []
flat_named s flat.Boolean = search (rules, naming)
flat_named s flat.Integer = search (rules, naming)
flat_named s flat.Decimal = search (rules, naming)
flat_named s flat.Money = search (rules, naming)
flat_named s flat.Date = search (rules, naming)
flat_named s flat.Duration = search (rules, naming)

pub structure_named : (s n : ℕ) → named_by s (flat_ty.Structure n) ≡ n ∷ []
structure_named s n = search (rules, naming)

pub enumeration_named : (s n : ℕ) → named_by s (flat_ty.Enumeration n) ≡ (s + n) ∷ []
enumeration_named s n = search (rules, naming)

module _ (s e : ℕ) where
  abbrev Below : List ℕ → Type 0
  Below = AllHave (λ i. i < s + e)

  base_named : (b : Ty) → IsBase s e b → Below (named_by s b)
  base_named b (plain f) = rw (flat_named s f) tt
  base_named b (structure n less) = rw (structure_named s n) (omega (arith, less), tt)
  base_named b (enumeration n less) = rw (enumeration_named s n) (omega (arith, less), tt)

  made_named : (t : Ty) → IsMade s e t → Below (named_by s t)
  made_named t is = subst (λ u. Below (named_by s u)) is.type_is
      (rw (nested_named s is.lists is.base) (base_named is.base is.kind))

  all_join : (xs ys : List ℕ) → Below xs → Below ys → Below (xs ++ ys)
  all_join [] ys h i = i
  all_join (x ∷ xs) ys h i = (h.0, all_join xs ys h.1 i)

  fields_named : (fs : List Field) → AllHave (λ f. IsMade s e f.ty) fs → Below (named_by_fields s fs)
  fields_named [] all = tt
  fields_named (f ∷ fs) all =
      all_join (named_by s f.ty) (named_by_fields s fs) (made_named f.ty all.0) (fields_named fs all.1)

  -- a content, where there is one
  abbrev pub IsContent : Option Ty → Type 0
  IsContent None = Unit {0}
  IsContent (Some t) = IsMade s e t

  content_named : (c : Option Ty) → IsContent c → Below (named_by_content s c)
  content_named None is = tt
  content_named (Some t) is = made_named t is

  cases_named : (cs : List Case) → AllHave (λ c. IsContent c.content) cs → Below (named_by_cases s cs)
  cases_named [] all = tt
  cases_named (c ∷ cs) all =
      all_join (named_by_content s c.content) (named_by_cases s cs) (content_named c.content all.0)
      (cases_named cs all.1)

map_all : {A : Type 0} (P : List ℕ → Type 0) (f : A → List ℕ) (xs : List A) → AllHave (λ x. P (f x)) xs
    → AllHave P (map f xs)
map_all P f [] all = tt
map_all P f (x ∷ xs) all = (all.0, map_all P f xs all.1)

join_all : (P : List ℕ → Type 0) (xs ys : List (List ℕ)) → AllHave P xs → AllHave P ys → AllHave P (xs ++ ys)
join_all P [] ys h i = i
join_all P (x ∷ xs) ys h i = (h.0, join_all P xs ys h.1 i)

-- structures and enumerations whose types are made so
pub record AreMade (ss : List Structure) (es : List Enumeration) : Type 0 where
  pub structures : AllHave (λ s. AllHave (λ f. IsMade (length ss) (length es) f.ty) s.fields) ss
  pub enumerations : AllHave (λ e. AllHave (λ c. IsContent (length ss) (length es) c.content) e.cases) es

pub dependencies_counted : (ss : List Structure) (es : List Enumeration)
    → length (type_dependencies ss es) ≡ length ss + length es
dependencies_counted ss es =
    let left = map (λ (s : Structure). named_by_fields (length ss) s.fields) ss in
    let right = map (λ (e : Enumeration). named_by_cases (length ss) e.cases) es in
    omega (
      arith,
      length-append left right,
      length-map ss (λ (s : Structure). named_by_fields (length ss) s.fields),
      length-map es (λ (e : Enumeration). named_by_cases (length ss) e.cases),
    )

-- what they depend on are some of them
pub types_are_items : (ss : List Structure) (es : List Enumeration) → AreMade ss es → AreItems (type_dependencies ss es)
types_are_items ss es made =
    let s = length ss in let e = length es in
    let deps = type_dependencies ss es in
    let all = join_all (Below s e) (map (λ (x : Structure). named_by_fields s x.fields) ss)
    (map (λ (x : Enumeration). named_by_cases s x.cases) es)
    (map_all (Below s e) (λ (x : Structure). named_by_fields s x.fields) ss
    (each_of _ (λ (x : Structure). Below s e (named_by_fields s x.fields)) (λ x h. fields_named s e x.fields h) ss
    made.structures))
    (map_all (Below s e) (λ (x : Enumeration). named_by_cases s x.cases) es
    (each_of _ (λ (x : Enumeration). Below s e (named_by_cases s x.cases)) (λ x h. cases_named s e x.cases h) es
    made.enumerations)) in
    all_by (All (λ i. i < length deps)) deps
    (each_of (Below s e) (All (λ i. i < length deps)) (λ xs h. all_by (λ i. i < length deps) xs
    (subst (λ n. AllHave (λ i. i < n) xs) (sym (dependencies_counted ss es)) h)) deps all)
