-- Types by their texts, and the parts of structures and enumerations.
use Rattle.std.proofs.Common.{◌≡◌, ◌<◌, ◌≤◌, nat_lt, Bool, true, false, ℕ, zero, suc, List, [], ◌∷◌, ◌++◌}
use Rattle.std.proofs.Common.{drop}
use Rattle.std.proofs.Common.{map, Option, Some, None}
use Rattle.std.proofs.Common.{slice_get, inl, inr, refl, sym, ap, ◌∙◌, subst, arith}
use Rattle.std.specs.Prelude.{codes}
use Rattle.std.proofs.lemmas.Bool.Decides.{nat_tests}
use Rattle.cat_scope.specs.Names.{IsOneOf}
use Rattle.cat_value.specs.declared.ty.Ty.{Ty}
use Rattle.cat_value.specs.declared.ty.Ty.TheVariants as flat
use Rattle.cat_value.specs.declared.ty.Ty.TheViews as ty
use Rattle.cat_value.specs.declared.declaration.Field.{Field}
use Rattle.cat_value.specs.declared.declaration.Structure.{Structure}
use Rattle.cat_value.specs.declared.declaration.Case.{Case}
use Rattle.cat_value.specs.declared.declaration.Enumeration.{Enumeration}
use Rattle.cat_value.specs.Heights.{height_to, highest_field, highest_content, content_height}
use Rattle.cat_value.proofs.Exported.{height_Boolean, height_Integer, height_Decimal, height_Money, height_Date}
use Rattle.cat_value.proofs.Exported.{height_Duration, height_List, height_Structure, height_Enumeration, height_step}
use Rattle.cat_value.proofs.Exported.{height_zero}
use Rattle.cat_image.specs.declared.tables.ImageTables.{ImageTables}
use Rattle.cat_image.specs.Words.{Text}
use Rattle.cat_verify_tables.specs.declared.types.TypeNames.{TypeNames}
use Rattle.cat_verify_tables.specs.TypeWords.{HasPart, IsHigher, IsTypeName}
use Rattle.cat_verify_tables.specs.TypeWords as words
use Rattle.cat_verify_tables.specs.inside.Entries.{AreTold}
use Rattle.cat_verify_tables.specs.inside.DeclaredWords.{structure_name, enumeration_name, structures_named}
use Rattle.cat_verify_tables.specs.inside.DeclaredWords.{enumerations_named}
use Rattle.cat_verify_tables.specs.inside.PartWords.{Spells, IsFieldOf, field_names, IsStructureOf, IsContentOf}
use Rattle.cat_verify_tables.specs.inside.PartWords.{IsCaseOf}
use Rattle.cat_verify_tables.specs.inside.PartWords.{case_names, IsEnumerationOf}
use Rattle.cat_verify_tables.specs.inside.TypeNaming.{flat_type}
use Rattle.cat_verify_tables.proofs.NumberLemmas.{AreNumbered, spelled_has}
use Rattle.cat_verify_tables.proofs.TypeLemmas.{flat_is}
use Rattle.cat_verify_tables.proofs.KnownLemmas.{flat_there, no_flat_list, no_flat_name, no_named_list}

-- a type by its text, among these names of structures and of enumerations
pub data IsNamed (S E : List Text) : Text → Ty → Type 0 where
  plain : (word : Text) (t : Ty) → flat_type word ≡ Some t → IsNamed S E word t
  structure : (word : Text) (k : ℕ) → slice_get S k ≡ Some word → IsNamed S E word (flat.Structure k)
  enumeration : (word : Text) (k : ℕ) → slice_get E k ≡ Some word → IsNamed S E word (flat.Enumeration k)
  list : (word : Text) (t : Ty) → IsNamed S E word t → IsNamed S E (codes "list of " ++ word) (ty.List t)

pub named_of_spelled : (types : TypeNames) (S E : List Text) → AreNumbered types S E → (w : Text) (t : Ty)
    → Spells types w t → IsNamed S E w t
unfolding flat_type
named_of_spelled types S E are = spelled_has types S E are (IsNamed S E) (plain _ _ refl) (plain _ _ refl)
    (plain _ _ refl) (plain _ _ refl) (plain _ _ refl) (plain _ _ refl) structure enumeration list

-- ---- one of many

pub told_of : {A B : Type 0} (Told : List A → A → B → Type 0) (front xs : List A) (ys : List B) (k : ℕ) (y : B)
    → AreTold Told front xs ys → slice_get ys k ≡ Some y
    → (x : A) × (slice_get xs k ≡ Some x) × (before : List A) × Told before x y
told_of Told front [] [] k y told at = absurd (cc at)
told_of Told front [] (z ∷ ys) k y told at = absurd told
told_of Told front (x ∷ xs) [] k y told at = absurd told
told_of Told front (x ∷ xs) (z ∷ ys) zero y told at =
    let same : z ≡ y = cc at in (x, refl, front, subst (Told front x) same told.0)
told_of Told front (x ∷ xs) (z ∷ ys) (suc k) y told at = told_of Told (front ++ x ∷ []) xs ys k y told.1 at

pub told_for : {A B : Type 0} (Told : List A → A → B → Type 0) (front xs : List A) (ys : List B) (k : ℕ) (x : A)
    → AreTold Told front xs ys → slice_get xs k ≡ Some x
    → (y : B) × (slice_get ys k ≡ Some y) × (before : List A) × Told before x y
told_for Told front [] [] k x told at = absurd (cc at)
told_for Told front [] (y ∷ ys) k x told at = absurd told
told_for Told front (z ∷ xs) [] k x told at = absurd told
told_for Told front (z ∷ xs) (y ∷ ys) zero x told at =
    let same : z ≡ x = cc at in (y, refl, front, subst (λ w. Told front w y) same told.0)
told_for Told front (z ∷ xs) (y ∷ ys) (suc k) x told at = told_for Told (front ++ z ∷ []) xs ys k x told.1 at

pub one_there : {A : Type 0} (xs : List A) (k : ℕ) (x : A) → slice_get xs k ≡ Some x → IsOneOf x xs
one_there [] k x at = absurd (cc at)
one_there (y ∷ xs) zero x at = let same : y ≡ x = cc at in inl (sym same)
one_there (y ∷ xs) (suc k) x at = inr (one_there xs k x at)

pub entry_named : {A : Type 0} (name_of : A → Text) (xs : List A) (k : ℕ) (w : Text)
    → slice_get (map name_of xs) k ≡ Some w → (x : A) × (slice_get xs k ≡ Some x) × (name_of x ≡ w)
entry_named name_of [] k w at = absurd (cc at)
entry_named name_of (x ∷ xs) zero w at = (x, refl, cc at)
entry_named name_of (x ∷ xs) (suc k) w at = entry_named name_of xs k w at

-- ---- the highest part

pub record IsHighField (height : Ty → ℕ) (k : ℕ) (fs : List Field) : Type 0 where
  pub index : ℕ
  pub field : Field
  pub at : slice_get fs index ≡ Some field
  pub high : k < height field.ty

high_field : (height : Ty → ℕ) (k : ℕ) (fs : List Field) → k < highest_field height fs → IsHighField height k fs
high_field height k [] high = absurd (omega (arith, high))
high_field height k (f ∷ fs) high = by (high_field height k fs) (nat_lt k (height f.ty)) refl
  where
    by : (k < highest_field height fs → IsHighField height k fs) → (b : Bool) → nat_lt k (height f.ty) ≡ b
        → IsHighField height k (f ∷ fs)
    by others true less = record { index = 0; field = f; at = refl; high = grind (arith, nat_tests, less) }
    by others false more =
        let rest = others (grind (arith, nat_tests, high, more)) in
        record { index = suc rest.index; field = rest.field; at = rest.at; high = rest.high }

pub record IsHighContent (height : Ty → ℕ) (k : ℕ) (cs : List Case) : Type 0 where
  pub index : ℕ
  pub case : Case
  pub ty : Ty
  pub at : slice_get cs index ≡ Some case
  pub content : case.content ≡ Some ty
  pub high : k < height ty

high_content : (height : Ty → ℕ) (k : ℕ) (cs : List Case) → k < highest_content height cs → IsHighContent height k cs
high_content height k [] high = absurd (omega (arith, high))
high_content height k (c ∷ cs) high = by (high_content height k cs) c.content refl
  where
    more : (k < highest_content height cs → IsHighContent height k cs) → content_height height c.content ≤ k
        → IsHighContent height k (c ∷ cs)
    more others low =
        let rest = others (omega (arith, high, low)) in record {
          index = suc rest.index;
          case = rest.case;
          ty = rest.ty;
          at = rest.at;
          content = rest.content;
          high = rest.high;
        }

    tested : (k < highest_content height cs → IsHighContent height k cs) → (t : Ty) → c.content ≡ Some t → (b : Bool)
        → nat_lt k (height t) ≡ b → IsHighContent height k (c ∷ cs)
    tested others t is true less =
        record { index = 0; case = c; ty = t; at = refl; content = is; high = grind (arith, nat_tests, less) }
    tested others t is false not_less =
        let same : content_height height c.content ≡ height t = ap (content_height height) is in
        more others (grind (arith, nat_tests, same, not_less))

    by : (k < highest_content height cs → IsHighContent height k cs) → (content : Option Ty) → c.content ≡ content
        → IsHighContent height k (c ∷ cs)
    by others None is = let same : content_height height c.content ≡ 0 = ap (content_height height) is in
        more others (omega (arith, same))
    by others (Some t) is = tested others t is (nat_lt k (height t)) refl

-- the highest is as high as each
field_height : (height : Ty → ℕ) (fs : List Field) (i : ℕ) (f : Field) → slice_get fs i ≡ Some f
    → height f.ty ≤ highest_field height fs
field_height height [] i f at = absurd (cc at)
field_height height (g ∷ fs) zero f at = let same : g ≡ f = cc at in
    let it : height f.ty ≡ height g.ty = ap (λ (x : Field). height x.ty) (sym same) in omega (arith, it)
field_height height (g ∷ fs) (suc i) f at = let rest = field_height height fs i f at in omega (arith, rest)

content_height_at : (height : Ty → ℕ) (cs : List Case) (i : ℕ) (c : Case) (t : Ty) → slice_get cs i ≡ Some c
    → c.content ≡ Some t → height t ≤ highest_content height cs
content_height_at height [] i c t at is = absurd (cc at)
content_height_at height (d ∷ cs) zero c t at is = let same : d ≡ c = cc at in
    let it : content_height height d.content ≡ height t =
    ap (λ (x : Case). content_height height x.content) same ∙ ap (content_height height) is in omega (arith, it)
content_height_at height (d ∷ cs) (suc i) c t at is =
    let rest = content_height_at height cs i c t at is in omega (arith, rest)

-- ---- heights of types without parts

flat_height : (ss : List Structure) (es : List Enumeration) (m : ℕ) (w : Text) (t : Ty) → flat_type w ≡ Some t
    → height_to ss es m t ≡ 1
flat_height ss es zero w t is = height_zero ss es t
flat_height ss es (suc m) w t is = flat_is (λ v u. height_to ss es (suc m) u ≡ 1) (height_Boolean ss es m)
    (height_Integer ss es m) (height_Decimal ss es m) (height_Money ss es m) (height_Date ss es m)
    (height_Duration ss es m) w t is

pub index_of : {A : Type 0} (x : A) (xs : List A) → IsOneOf x xs → (k : ℕ) × (slice_get xs k ≡ Some x)
index_of x [] one = absurd one
index_of x (y ∷ xs) (inl same) = (0, ap Some (sym same))
index_of x (y ∷ xs) (inr more) = let it = index_of x xs more in (suc it.0, it.1)

pub named_at : {A : Type 0} (name_of : A → Text) (xs : List A) (k : ℕ) (x : A) → slice_get xs k ≡ Some x
    → slice_get (map name_of xs) k ≡ Some (name_of x)
named_at name_of [] k x at = absurd (cc at)
named_at name_of (y ∷ xs) zero x at = let same : y ≡ x = cc at in ap (λ z. Some (name_of z)) same
named_at name_of (y ∷ xs) (suc k) x at = named_at name_of xs k x at

-- names that stand once, spelled as they have to be
pub record Apart (tables : ImageTables) : Type 0 where
  pub structures : (i j : ℕ) (w : Text) → slice_get (structures_named tables) i ≡ Some w
      → slice_get (structures_named tables) j ≡ Some w → i ≡ j
  pub enumerations : (i j : ℕ) (w : Text) → slice_get (enumerations_named tables) i ≡ Some w
      → slice_get (enumerations_named tables) j ≡ Some w → i ≡ j
  pub both : (i j : ℕ) (w : Text) → slice_get (structures_named tables) i ≡ Some w
      → slice_get (enumerations_named tables) j ≡ Some w → ⊥
  pub spelled_structures : (i : ℕ) (w : Text) → slice_get (structures_named tables) i ≡ Some w
      → (IsTypeName w → ⊥) → ⊥
  pub spelled_enumerations : (i : ℕ) (w : Text) → slice_get (enumerations_named tables) i ≡ Some w
      → (IsTypeName w → ⊥) → ⊥

-- ---- what is high is higher by its words

module _ (tables : ImageTables) (types : TypeNames) (ss : List Structure) (es : List Enumeration)
    (are : AreNumbered types (structures_named tables) (enumerations_named tables))
    (structures_told : AreTold (λ _. IsStructureOf types) [] tables.structures ss)
    (enumerations_told : AreTold (λ _. IsEnumerationOf types) [] tables.enumerations es) where
  abbrev Named : Text → Ty → Type 0
  Named = IsNamed (structures_named tables) (enumerations_named tables)

  named : (w : Text) (t : Ty) → Spells types w t → Named w t
  named = named_of_spelled types (structures_named tables) (enumerations_named tables) are

  content_named : (text : Option Text) (content : Option Ty) (t : Ty) → IsContentOf types text content
      → content ≡ Some t → (w : Text) × (text ≡ Some w) × Named w t
  content_named None None t told is = absurd (cc is)
  content_named None (Some u) t told is = absurd told
  content_named (Some w) None t told is = absurd told
  content_named (Some w) (Some u) t told is =
      let same : u ≡ t = cc is in (w, refl, subst (Named w) same (named w u told))

  pub higher_of : (k m : ℕ) (w : Text) (t : Ty) → Named w t → k < height_to ss es m t → IsHigher tables k w
  higher_of zero m w t is high = words.any
  higher_of (suc k) zero w t is high = absurd (let it = height_zero ss es t in omega (arith, high, it))
  higher_of (suc k) (suc m) w t (plain v u is) high =
      absurd (let it = flat_height ss es (suc m) v u is in omega (arith, high, it))
  higher_of (suc k) (suc m) w t (list v u is) high =
      words.list (higher_of k m v u is (let it = height_List ss es m u in omega (arith, high, it)))
  higher_of (suc k) (suc m) w t (structure v n at) high =
      let line = entry_named structure_name tables.structures n v at in
      let s = told_for (λ _. IsStructureOf types) [] tables.structures ss n line.0 structures_told line.1 in
      let it = height_Structure ss es m n s.0 s.1 in
      let field = high_field (height_to ss es m) k s.0.fields (omega (arith, high, it)) in
      let own = told_of (λ front. IsFieldOf types (field_names front)) [] line.0.fields s.0.fields field.index
      field.field s.3.fields field.at in
      let part : HasPart tables line.0.name own.0.ty = words.field line.0 own.0
      (one_there tables.structures n line.0 line.1) (one_there line.0.fields field.index own.0 own.1) in
      words.part (subst (λ (x : Text). HasPart tables x own.0.ty) line.2 part)
      (higher_of k m own.0.ty field.field.ty (named own.0.ty field.field.ty own.3.ty) field.high)
  higher_of (suc k) (suc m) w t (enumeration v n at) high =
      let line = entry_named enumeration_name tables.enumerations n v at in
      let e = told_for (λ _. IsEnumerationOf types) [] tables.enumerations es n line.0 enumerations_told line.1 in
      let it = height_Enumeration ss es m n e.0 e.1 in
      let case = high_content (height_to ss es m) k e.0.cases (omega (arith, high, it)) in
      let own = told_of (λ front. IsCaseOf types (case_names front)) [] line.0.cases e.0.cases case.index case.case
      e.3.cases.each case.at in
      let text = content_named own.0.content case.case.content case.ty own.3.content case.content in
      let part : HasPart tables line.0.name text.0 = words.content line.0 own.0 text.0
      (one_there tables.enumerations n line.0 line.1) (one_there line.0.cases case.index own.0 own.1) text.1 in
      words.part (subst (λ (x : Text). HasPart tables x text.0) line.2 part)
      (higher_of k m text.0 case.ty text.2 case.high)

  -- ---- what is higher by its words is high

  module _ (apart : Apart tables) where
    structure_only : (k : ℕ) (w : Text) (t : Ty) → slice_get (structures_named tables) k ≡ Some w → (v : Text) → v ≡ w
        → Named v t → t ≡ flat.Structure k
    structure_only k w t at v same (plain x u is) = absurd (apart.spelled_structures k w at
        (λ typed. no_flat_name x u is (subst IsTypeName (sym same) typed)))
    structure_only k w t at v same (structure x n there) =
        ap flat.Structure (apart.structures n k w (there ∙ ap Some same) at)
    structure_only k w t at v same (enumeration x n there) = absurd (apart.both k n w at (there ∙ ap Some same))
    structure_only k w t at v same (list x u is) =
        absurd (apart.spelled_structures k w at (λ typed. no_named_list w x typed (sym same)))

    enumeration_only : (k : ℕ) (w : Text) (t : Ty) → slice_get (enumerations_named tables) k ≡ Some w → (v : Text)
        → v ≡ w → Named v t → t ≡ flat.Enumeration k
    enumeration_only k w t at v same (plain x u is) = absurd (apart.spelled_enumerations k w at
        (λ typed. no_flat_name x u is (subst IsTypeName (sym same) typed)))
    enumeration_only k w t at v same (structure x n there) = absurd (apart.both n k w (there ∙ ap Some same) at)
    enumeration_only k w t at v same (enumeration x n there) =
        ap flat.Enumeration (apart.enumerations n k w (there ∙ ap Some same) at)
    enumeration_only k w t at v same (list x u is) =
        absurd (apart.spelled_enumerations k w at (λ typed. no_named_list w x typed (sym same)))

    -- a list's text is that of a list
    list_only : (w : Text) (t : Ty) (v : Text) → v ≡ codes "list of " ++ w → Named v t
        → (u : Ty) × (t ≡ ty.List u) × Named w u
    list_only w t v same (plain x u is) = absurd (no_flat_list x w (flat_there x u is) same)
    list_only w t v same (structure x n at) = absurd (apart.spelled_structures n x at
        (λ typed. no_named_list x w typed same))
    list_only w t v same (enumeration x n at) = absurd (apart.spelled_enumerations n x at
        (λ typed. no_named_list x w typed same))
    list_only w t v same (list x u is) =
        let element : x ≡ w = ap (drop 8) same in (u, refl, subst (λ (y : Text). Named y u) element is)

    positive : (m : ℕ) (t : Ty) → 0 < height_to ss es m t
    positive zero t = let it = height_zero ss es t in omega (arith, it)
    positive (suc m) t = let it = height_step ss es m t in omega (arith, it)

    -- the content of a case by its text
    content_told : (text : Option Text) (content : Option Ty) (w : Text) → IsContentOf types text content
        → text ≡ Some w → (t : Ty) × (content ≡ Some t) × Named w t
    content_told None None w told is = absurd (cc is)
    content_told None (Some u) w told is = absurd told
    content_told (Some v) None w told is = absurd told
    content_told (Some v) (Some u) w told is =
        let same : v ≡ w = cc is in (u, refl, subst (λ (x : Text). Named x u) same (named v u told))

    pub high_of : (k m : ℕ) (w : Text) → IsHigher tables k w → (t : Ty) → Named w t → k ≤ m → k < height_to ss es m t
    high_of zero m w high t is less = positive m t
    high_of (suc k) zero w high t is less = absurd (omega (arith, less))
    high_of (suc k) (suc m) w (words.list {text = x} high) t is less =
        let element = list_only x t w refl is in
        let below = high_of k m x high element.0 element.2 (omega (arith, less)) in
        let it = height_List ss es m element.0 in
        let same = ap (height_to ss es (suc m)) element.1 in omega (arith, below, it, same)
    high_of (suc k) (suc m) w (words.part (words.field s f one own) high) t is less =
        let at = index_of s tables.structures one in
        let only = structure_only at.0 s.name t (named_at structure_name tables.structures at.0 s at.1) s.name refl
        is in
        let made = told_for (λ _. IsStructureOf types) [] tables.structures ss at.0 s structures_told at.1 in
        let there = index_of f s.fields own in
        let field = told_for (λ front. IsFieldOf types (field_names front)) [] s.fields made.0.fields there.0 f
        made.3.fields there.1 in
        let below = high_of k m f.ty high field.0.ty (named f.ty field.0.ty field.3.ty) (omega (arith, less)) in
        let part = field_height (height_to ss es m) made.0.fields there.0 field.0 field.1 in
        let it = height_Structure ss es m at.0 made.0 made.1 in
        let same = ap (height_to ss es (suc m)) only in omega (arith, below, part, it, same)
    high_of (suc k) (suc m) w (words.part (words.content e c x one own content) high) t is less =
        let at = index_of e tables.enumerations one in
        let only = enumeration_only at.0 e.name t (named_at enumeration_name tables.enumerations at.0 e at.1) e.name
        refl is in
        let made = told_for (λ _. IsEnumerationOf types) [] tables.enumerations es at.0 e enumerations_told at.1 in
        let there = index_of c e.cases own in
        let case = told_for (λ front. IsCaseOf types (case_names front)) [] e.cases made.0.cases there.0 c
        made.3.cases.each there.1 in
        let ty = content_told c.content case.0.content x case.3.content content in
        let below = high_of k m x high ty.0 ty.2 (omega (arith, less)) in
        let part = content_height_at (height_to ss es m) made.0.cases there.0 case.0 ty.0 case.1 ty.1 in
        let it = height_Enumeration ss es m at.0 made.0 made.1 in
        let same = ap (height_to ss es (suc m)) only in omega (arith, below, part, it, same)
