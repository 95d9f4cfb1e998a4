-- Types that are parts of themselves, by their texts and by their numbers.
use Rattle.std.proofs.Common.{◌≡◌, ◌≤◌, ◌+◌, ◌-◌, ◌||◌, ◌⊎◌, nat_lt, nat_eq, Bool, true, false, IsTrue, ℕ, zero}
use Rattle.std.proofs.Common.{suc}
use Rattle.std.proofs.Common.{List, [], ◌∷◌, ◌++◌, length, Option, Some, None, slice_get, inl, inr}
use Rattle.std.proofs.Common.{refl, sym, ap, ◌∙◌, subst, arith, true≢false}
use Rattle.std.proofs.lemmas.Bool.Decides.{nat_tests}
use Rattle.std.proofs.lemmas.List.{length-map}
use Rattle.cat_order.specs.Order.{is_listed}
use Rattle.cat_order.specs.Cycle.{DependsOn, IsPath}
use Rattle.cat_value.specs.declared.ty.Ty.{Ty}
use Rattle.cat_value.specs.declared.declaration.Field.{Field}
use Rattle.cat_value.specs.declared.declaration.Structure.{Structure}
use Rattle.cat_value.specs.declared.declaration.Case.{Case}
use Rattle.cat_value.specs.declared.declaration.Enumeration.{Enumeration}
use Rattle.cat_value.specs.Dependencies.{named_by, named_by_fields, named_by_content, named_by_cases, type_dependencies}
use Rattle.cat_image.specs.declared.tables.ImageField.{ImageField}
use Rattle.cat_image.specs.declared.tables.ImageStructure.{ImageStructure}
use Rattle.cat_image.specs.declared.tables.ImageCase.{ImageCase}
use Rattle.cat_image.specs.declared.tables.ImageEnumeration.{ImageEnumeration}
use Rattle.cat_image.specs.declared.tables.ImageTables.{ImageTables}
use Rattle.cat_image.specs.Words.{Text}
use Rattle.cat_verify_tables.specs.declared.types.TypeNames.{TypeNames}
use Rattle.cat_verify_tables.specs.inside.Entries.{AreTold}
use Rattle.cat_verify_tables.specs.inside.DeclaredWords.{structure_name, enumeration_name, structures_named}
use Rattle.cat_verify_tables.specs.inside.DeclaredWords.{enumerations_named}
use Rattle.cat_verify_tables.specs.inside.PartWords.{Spells, IsFieldOf, field_names, IsStructureOf, IsContentOf}
use Rattle.cat_verify_tables.specs.inside.PartWords.{IsCaseOf, case_names, IsEnumerationOf}
use Rattle.cat_verify_tables.proofs.DeclaringLemmas.{told_many}
use Rattle.cat_verify_tables.proofs.NumberLemmas.{AreNumbered, at_behind, at_front}
use Rattle.cat_verify_tables.specs.TypeWords.{HasPart, IsBase, IsMadeOf}
use Rattle.cat_verify_tables.specs.TypeWords as words
use Rattle.cat_verify_tables.specs.inside.TypeNaming.{flat_type}
use Rattle.cat_verify_tables.proofs.MadeLemmas.{IsNamed, plain, structure, enumeration, list}
use Rattle.cat_verify_tables.proofs.MadeLemmas.{entry_named, named_of_spelled, one_there, told_for, told_of}
use Rattle.cat_depend.proofs.Listing.{listed_both}
use Rattle.cat_verify_tables.proofs.TypeLemmas.{flat_is}
use Rattle.cat_verify_tables.proofs.OrderLemmas.{names_Boolean, names_Integer, names_Decimal, names_Money, names_Date}
use Rattle.cat_verify_tables.proofs.OrderLemmas.{names_Duration, names_List, names_Structure, names_Enumeration}
use Rattle.cat_verify_tables.proofs.OrderLemmas.{cases_name, fields_name}

-- ---- names by their numbers, enumerations behind structures

pub at_one : (S E : List Text) (n : ℕ) (w : Text) → slice_get S n ≡ Some w → slice_get (S ++ E) n ≡ Some w
at_one [] E n w at = absurd (cc at)
at_one (v ∷ S) E zero w at = at
at_one (v ∷ S) E (suc n) w at = at_one S E n w at

pub at_other : (S E : List Text) (n k : ℕ) (w : Text) → k ≡ length S + n → slice_get E n ≡ Some w
    → slice_get (S ++ E) k ≡ Some w
at_other [] E n k w is at = let same : k ≡ n = omega (arith, is) in ap (slice_get E) same ∙ at
at_other (v ∷ S) E n zero w is at = absurd (omega (arith, is))
at_other (v ∷ S) E n (suc k) w is at = at_other S E n k w (omega (arith, is)) at

-- what a type names by its number is the base of its text
pub record IsBaseAt (S E : List Text) (w : Text) (part : ℕ) : Type 0 where
  pub base : Text
  pub is_base : IsBase w base
  pub at : slice_get (S ++ E) part ≡ Some base

flat_names : (n part : ℕ) (w : Text) (t : Ty) → flat_type w ≡ Some t → is_listed (named_by n t) part ≡ false
flat_names n part = flat_is (λ w t. is_listed (named_by n t) part ≡ false) (names_Boolean n part) (names_Integer n part)
    (names_Decimal n part) (names_Money n part) (names_Date n part) (names_Duration n part)

same_number : (a b : ℕ) → nat_eq a b ≡ true → a ≡ b
same_number a b test = grind (arith, nat_tests, test)

pub base_at : (S E : List Text) (n part : ℕ) (w : Text) (t : Ty) → n ≡ length S → IsNamed S E w t
    → IsTrue (is_listed (named_by n t) part) → IsBaseAt S E w part
base_at S E n part w t many (plain v u is) names = absurd (true≢false (sym names ∙ flat_names n part v u is))
base_at S E n part w t many (structure v k at) names =
    let same : k ≡ part = same_number k part (sym (names_Structure n part k) ∙ names) in record {
      base = v;
      is_base = words.itself;
      at = ap (slice_get (S ++ E)) (sym same) ∙ at_one S E k v at;
    }
base_at S E n part w t many (enumeration v k at) names =
    let same : n + k ≡ part = same_number (n + k) part (sym (names_Enumeration n part k) ∙ names) in
    record { base = v; is_base = words.itself; at = at_other S E k part v (omega (arith, same, many)) at }
base_at S E n part w t many (list v u is) names =
    let inner = base_at S E n part v u many is (sym (names_List n part u) ∙ names) in
    record { base = inner.base; is_base = words.list inner.is_base; at = inner.at }

-- ---- lists that are named by parts

pub listed_cut : (xs ys : List ℕ) (n : ℕ) → IsTrue (is_listed (xs ++ ys) n)
    → IsTrue (is_listed xs n) ⊎ IsTrue (is_listed ys n)
listed_cut xs ys n listed = by (is_listed xs n) refl (sym (listed_both xs ys n) ∙ listed)
  where
    by : (a : Bool) → is_listed xs n ≡ a → (is_listed xs n || is_listed ys n) ≡ true
        → IsTrue (is_listed xs n) ⊎ IsTrue (is_listed ys n)
    by true is either = inl is
    by false is either = inr (sym (ap (λ (a : Bool). a || is_listed ys n) is) ∙ either)

-- the field that names a number
pub record NamingField (n : ℕ) (fs : List Field) (part : ℕ) : Type 0 where
  pub index : ℕ
  pub field : Field
  pub at : slice_get fs index ≡ Some field
  pub names : IsTrue (is_listed (named_by n field.ty) part)

naming_field : (n : ℕ) (fs : List Field) (part : ℕ) → IsTrue (is_listed (named_by_fields n fs) part)
    → NamingField n fs part
naming_field n [] part names = absurd (true≢false (sym names))
naming_field n (f ∷ fs) part names =
    by (naming_field n fs part) (listed_cut (named_by n f.ty) (named_by_fields n fs) part names)
  where
    by : (IsTrue (is_listed (named_by_fields n fs) part) → NamingField n fs part)
        → IsTrue (is_listed (named_by n f.ty) part) ⊎ IsTrue (is_listed (named_by_fields n fs) part)
        → NamingField n (f ∷ fs) part
    by rest (inl own) = record { index = 0; field = f; at = refl; names = own }
    by rest (inr more) =
        let it = rest more in
        record { index = suc it.index; field = it.field; at = it.at; names = it.names }

-- the content that names a number
pub record NamingContent (n : ℕ) (cs : List Case) (part : ℕ) : Type 0 where
  pub index : ℕ
  pub case : Case
  pub ty : Ty
  pub at : slice_get cs index ≡ Some case
  pub content : case.content ≡ Some ty
  pub names : IsTrue (is_listed (named_by n ty) part)

naming_content : (n : ℕ) (cs : List Case) (part : ℕ) → IsTrue (is_listed (named_by_cases n cs) part)
    → NamingContent n cs part
naming_content n [] part names = absurd (true≢false (sym names))
naming_content n (c ∷ cs) part names =
    by (naming_content n cs part) (listed_cut (named_by_content n c.content) (named_by_cases n cs) part names)
  where
    own : (content : Option Ty) → c.content ≡ content → IsTrue (is_listed (named_by_content n content) part)
        → NamingContent n (c ∷ cs) part
    own None is listed = absurd (true≢false (sym listed))
    own (Some t) is listed = record { index = 0; case = c; ty = t; at = refl; content = is; names = listed }

    by : (IsTrue (is_listed (named_by_cases n cs) part) → NamingContent n cs part)
        → IsTrue (is_listed (named_by_content n c.content) part) ⊎ IsTrue (is_listed (named_by_cases n cs) part)
        → NamingContent n (c ∷ cs) part
    by rest (inl listed) = own c.content refl listed
    by rest (inr more) =
        let it = rest more in record {
          index = suc it.index;
          case = it.case;
          ty = it.ty;
          at = it.at;
          content = it.content;
          names = it.names;
        }

-- ---- what a structure or an enumeration is made of

-- a part of something by its name, and the name of what the part names
pub record IsPartOf (tables : ImageTables) (names : List Text) (name : Text) (part : ℕ) : Type 0 where
  pub ty : Text
  pub base : Text
  pub has : HasPart tables name ty
  pub is_base : IsBase ty base
  pub at : slice_get names part ≡ Some base

module _ (tables : ImageTables) (types : TypeNames) (ss : List Structure) (es : List Enumeration)
    (are : AreNumbered types (structures_named tables) (enumerations_named tables))
    (structures_told : AreTold (λ _. IsStructureOf types) [] tables.structures ss)
    (enumerations_told : AreTold (λ _. IsEnumerationOf types) [] tables.enumerations es) where
  abbrev S : List Text
  S = structures_named tables

  abbrev E : List Text
  E = enumerations_named tables

  structures_many : length ss ≡ length S
  structures_many =
      told_many (λ _. IsStructureOf types) [] tables.structures ss structures_told
      ∙ sym (length-map tables.structures structure_name)

  named : (w : Text) (t : Ty) → Spells types w t → IsNamed S E w t
  named = named_of_spelled types S E are

  -- a field, by its number in a structure of that number
  pub field_part : (a b : ℕ) (l : ImageStructure) (s : Structure) (i : ℕ) (f : Field)
      → slice_get tables.structures a ≡ Some l → slice_get ss a ≡ Some s → slice_get s.fields i ≡ Some f
      → IsTrue (is_listed (named_by (length ss) f.ty) b)
      → (g : ImageField) × (slice_get l.fields i ≡ Some g) × IsBaseAt S E g.ty b
  field_part a b l s i f line at own names =
      let made = told_for (λ _. IsStructureOf types) [] tables.structures ss a l structures_told line in
      let same : made.0 ≡ s = cc (sym made.1 ∙ at) in
      let fields = subst (λ (x : Structure). IsStructureOf types l x) same made.3 in
      let g = told_of (λ front. IsFieldOf types (field_names front)) [] l.fields s.fields i f fields.fields own in
      (g.0, g.1, base_at S E (length ss) b g.0.ty f.ty structures_many (named g.0.ty f.ty g.3.ty) names)

  content_named : (text : Option Text) (content : Option Ty) (t : Ty) → IsContentOf types text content
      → content ≡ Some t → (w : Text) × (text ≡ Some w) × IsNamed S E w t
  content_named None None t told is = absurd (cc is)
  content_named None (Some u) t told is = absurd told
  content_named (Some w) None t told is = absurd told
  content_named (Some w) (Some u) t told is =
      let same : u ≡ t = cc is in (w, refl, subst (IsNamed S E w) same (named w u told))

  -- a content, by its number in an enumeration of that number
  pub content_part : (a b : ℕ) (l : ImageEnumeration) (e : Enumeration) (i : ℕ) (c : Case) (t : Ty)
      → slice_get tables.enumerations a ≡ Some l → slice_get es a ≡ Some e → slice_get e.cases i ≡ Some c
      → c.content ≡ Some t → IsTrue (is_listed (named_by (length ss) t) b)
      → (d : ImageCase) × (w : Text) × (slice_get l.cases i ≡ Some d) × (d.content ≡ Some w) × IsBaseAt S E w b
  content_part a b l e i c t line at own content names =
      let made = told_for (λ _. IsEnumerationOf types) [] tables.enumerations es a l enumerations_told line in
      let same : made.0 ≡ e = cc (sym made.1 ∙ at) in
      let cases = subst (λ (x : Enumeration). IsEnumerationOf types l x) same made.3 in
      let d = told_of (λ front. IsCaseOf types (case_names front)) [] l.cases e.cases i c cases.cases.each own in
      let w = content_named d.0.content c.content t d.3.content content in
      (d.0, w.0, d.1, w.1, base_at S E (length ss) b w.0 t structures_many w.2 names)

  structure_part : (a b : ℕ) (w : Text) → slice_get S a ≡ Some w → DependsOn (type_dependencies ss es) a b
      → IsPartOf tables (S ++ E) w b
  structure_part a b w at on =
      let line = entry_named structure_name tables.structures a w at in
      let s = told_for (λ _. IsStructureOf types) [] tables.structures ss a line.0 structures_told line.1 in
      let f = naming_field (length ss) s.0.fields b (fields_name ss es a b on s.0 s.1) in
      let g = field_part a b line.0 s.0 f.index f.field line.1 s.1 f.at f.names in
      let has : HasPart tables line.0.name g.0.ty = words.field line.0 g.0
      (one_there tables.structures a line.0 line.1) (one_there line.0.fields f.index g.0 g.1) in
      record {
        ty = g.0.ty;
        base = g.2.base;
        has = subst (λ (x : Text). HasPart tables x g.0.ty) line.2 has;
        is_base = g.2.is_base;
        at = g.2.at;
      }

  enumeration_part : (n a b : ℕ) (w : Text) → slice_get E n ≡ Some w → n ≡ a - length ss → length ss ≤ a
      → DependsOn (type_dependencies ss es) a b → IsPartOf tables (S ++ E) w b
  enumeration_part n a b w at own past on =
      let line = entry_named enumeration_name tables.enumerations n w at in
      let e = told_for (λ _. IsEnumerationOf types) [] tables.enumerations es n line.0 enumerations_told line.1 in
      let c = naming_content (length ss) e.0.cases b
      (cases_name ss es a b on e.0 past (ap (slice_get es) (sym own) ∙ e.1)) in
      let d = content_part n b line.0 e.0 c.index c.case c.ty line.1 e.1 c.at c.content c.names in
      let has : HasPart tables line.0.name d.1 = words.content line.0 d.0 d.1
      (one_there tables.enumerations n line.0 line.1) (one_there line.0.cases c.index d.0 d.2) d.3 in
      record {
        ty = d.1;
        base = d.4.base;
        has = subst (λ (x : Text). HasPart tables x d.1) line.2 has;
        is_base = d.4.is_base;
        at = d.4.at;
      }

  pub depends_part : (a b : ℕ) (w : Text) → slice_get (S ++ E) a ≡ Some w → DependsOn (type_dependencies ss es) a b
      → IsPartOf tables (S ++ E) w b
  depends_part a b w at on = by (nat_lt a (length S)) refl
    where
      by : (less : Bool) → nat_lt a (length S) ≡ less → IsPartOf tables (S ++ E) w b
      by true test = structure_part a b w (at_front S E a w at (grind (arith, nat_tests, test))) on
      by false test =
          let past : length S ≤ a = grind (arith, nat_tests, test) in
          enumeration_part (a - length S) a b w (at_behind S E a w at past) (omega (arith, structures_many))
          (omega (arith, past, structures_many)) on

  -- a way by numbers is one by names
  pub way_made : (a c : ℕ) (path : List ℕ) (w : Text) → IsPath (type_dependencies ss es) a path c
      → slice_get (S ++ E) a ≡ Some w → (v : Text) × (slice_get (S ++ E) c ≡ Some v) × IsMadeOf tables w v
  way_made a c [] w way at =
      let it = depends_part a c w at way in (it.base, it.at, words.part it.has it.is_base words.here)
  way_made a c (via ∷ path) w way at =
      let it = depends_part a via w at way.0 in
      let more = way_made via c path it.base way.1 it.at in (more.0, more.1, words.part it.has it.is_base more.2)
