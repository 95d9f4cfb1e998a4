-- Types of spelled declarations are known, and as low as they are.
use Rattle.std.proofs.Common.{◌≡◌, ◌≤◌, ◌⊎◌, ℕ, zero, suc, IsTrue, List, [], ◌∷◌, ◌++◌, map}
use Rattle.std.proofs.Common.{Option, Some, None, slice_get, inl, inr, refl, sym, ap, ◌∙◌, subst, arith, drop}
use Rattle.std.specs.Prelude.{codes}
use Rattle.std.specs.Char.{is_ascii_uppercase}
use Rattle.cat_lex.specs.Forms.{IsWord}
use Rattle.cat_scope.specs.Names.{IsOneOf}
use Rattle.cat_value.specs.declared.ty.Ty.{Ty}
use Rattle.cat_value.specs.declared.ty.Ty.TheVariants as flat
use Rattle.cat_value.specs.declared.ty.Ty.TheViews as ty
use Rattle.cat_value.specs.declared.declaration.Field.{Field}
use Rattle.cat_value.specs.declared.declaration.Structure.{Structure}
use Rattle.cat_value.specs.declared.declaration.Case.{Case}
use Rattle.cat_value.specs.declared.declaration.Enumeration.{Enumeration}
use Rattle.cat_value.specs.declared.declaration.Scope.{Scope}
use Rattle.cat_value.specs.declared.decls.Decls.{Decls}
use Rattle.cat_value.specs.Declarations.{is_declared, field_is_sound}
use Rattle.cat_value.specs.Heights.{height_to, highest_field, highest_content, content_height}
use Rattle.cat_value.proofs.Exported.{found, is_declared_List, structure_there, enumeration_there, height_zero}
use Rattle.cat_value.proofs.Exported.{height_List, height_Structure, height_Enumeration, fields_declared}
use Rattle.cat_value.proofs.Exported.{content_declared, list_all_at}
use Rattle.cat_value.proofs.Induction.{type_induction}
use Rattle.cat_code.specs.declared.code.Tables.{Tables}
use Rattle.cat_listing.specs.Texts.{type_text, name_at}
use Rattle.cat_listing.proofs.TypeTexts as texts
use Rattle.cat_image.specs.declared.tables.ImageField.{ImageField}
use Rattle.cat_image.specs.declared.tables.ImageStructure.{ImageStructure}
use Rattle.cat_image.specs.declared.tables.ImageCase.{ImageCase}
use Rattle.cat_image.specs.declared.tables.ImageEnumeration.{ImageEnumeration}
use Rattle.cat_image.specs.declared.tables.ImageTables.{ImageTables}
use Rattle.cat_image.specs.Words.{Text}
use Rattle.cat_image.specs.Listed.{words_of, structure_words, enumeration_words, field_words, case_words, content_words}
use Rattle.cat_verify_tables.specs.TypeWords.{IsKnown, IsHigher, HasPart, flat_types}
use Rattle.cat_verify_tables.specs.TypeWords as words
use Rattle.cat_verify_tables.proofs.Exported.{no_flat_list, one_there}
use Rattle.cat_names.proofs.Exported.{in_front, behind}
use Rattle.cat_emitted.specs.Spelled.{AreSpelledDecls}
use Rattle.cat_emitted.proofs.ListFacts.{all_at, at_one, one_mapped, one_unmapped}
use Rattle.cat_emitted.proofs.ListFacts.{apart_left, apart_right, apart_across, apart_places}
use Rattle.cat_emitted.proofs.FirstLetters.{named_no_list, flat_no_name}

-- ---- heights of parts

pub field_below : (height : Ty → ℕ) (fs : List Field) (f : Field) → IsOneOf f fs → height f.ty ≤ highest_field height fs
field_below height [] f one = elim one [ ]
field_below height (g ∷ fs) f (inl is) = let e = ap (λ (x : Field). height x.ty) is in omega (arith, e)
field_below height (g ∷ fs) f (inr one) = let rest = field_below height fs f one in omega (arith, rest)

pub content_below : (height : Ty → ℕ) (cs : List Case) (c : Case) → IsOneOf c cs
    → content_height height c.content ≤ highest_content height cs
content_below height [] c one = elim one [ ]
content_below height (d ∷ cs) c (inl is) =
    let e = ap (λ (x : Case). content_height height x.content) is in omega (arith, e)
content_below height (d ∷ cs) c (inr one) = let rest = content_below height cs c one in omega (arith, rest)

pub same_some : {A : Type 0} (x y : A) → Some x ≡ Some y → x ≡ y
same_some x y h = cc h

module _ (code : Tables) (files : List Text) (spelled : AreSpelledDecls code.decls) where
  abbrev ds : Decls
  ds = code.decls

  abbrev image : ImageTables
  image = words_of code files

  abbrev pub IsDeclared : Ty → Type 0
  IsDeclared t = IsTrue (is_declared ds.structures ds.enumerations t)

  abbrev height : ℕ → Ty → ℕ
  height k t = height_to ds.structures ds.enumerations k t

  -- ---- names

  abbrev pub structure_names : List Text
  structure_names = map (λ (s : Structure). s.name) ds.structures

  abbrev pub enumeration_names : List Text
  enumeration_names = map (λ (e : Enumeration). e.name) ds.enumerations

  pub structures_apart : (k l : ℕ) (s r : Structure) → slice_get ds.structures k ≡ Some s
      → slice_get ds.structures l ≡ Some r → s.name ≡ r.name → s ≡ r
  structures_apart k l s r one other same =
      let apart = apart_left structure_names enumeration_names
      (apart_left (structure_names ++ enumeration_names) (map (λ (c : Scope). c.name) ds.scopes) spelled.apart) in
      let place = apart_places (λ (x : Structure). x.name) ds.structures k l s r apart one other same in
      same_some s r (sym one ∙ ap (slice_get ds.structures) place ∙ other)

  pub enumerations_apart : (k l : ℕ) (d e : Enumeration) → slice_get ds.enumerations k ≡ Some d
      → slice_get ds.enumerations l ≡ Some e → d.name ≡ e.name → d ≡ e
  enumerations_apart k l d e one other same =
      let apart = apart_right structure_names enumeration_names
      (apart_left (structure_names ++ enumeration_names) (map (λ (c : Scope). c.name) ds.scopes) spelled.apart) in
      let place = apart_places (λ (x : Enumeration). x.name) ds.enumerations k l d e apart one other same in
      same_some d e (sym one ∙ ap (slice_get ds.enumerations) place ∙ other)

  pub kinds_apart : (s : Structure) (e : Enumeration) → IsOneOf s ds.structures → IsOneOf e ds.enumerations
      → s.name ≡ e.name → ⊥
  kinds_apart s e one other same =
      apart_across structure_names enumeration_names s.name
      (apart_left (structure_names ++ enumeration_names) (map (λ (c : Scope). c.name) ds.scopes) spelled.apart)
      (one_mapped (λ (x : Structure). x.name) s ds.structures one)
      (subst (λ (t : Text). IsOneOf t enumeration_names) (sym same)
      (one_mapped (λ (x : Enumeration). x.name) e ds.enumerations other))

  pub structure_text : (n : ℕ) (s : Structure) → slice_get ds.structures n ≡ Some s
      → type_text ds (flat.Structure n) ≡ s.name
  structure_text n s at = texts.type_text-Structure ds n ∙ ap (name_at (λ (x : Structure). x.name)) at

  pub enumeration_text : (n : ℕ) (e : Enumeration) → slice_get ds.enumerations n ≡ Some e
      → type_text ds (flat.Enumeration n) ≡ e.name
  enumeration_text n e at = texts.type_text-Enumeration ds n ∙ ap (name_at (λ (x : Enumeration). x.name)) at

  -- ---- known types

  abbrev HasKnown : Ty → Type 0
  HasKnown t = IsDeclared t → IsKnown image (type_text ds t)

  flat_known : (word : Text) (t : Ty) → type_text ds t ≡ word → IsOneOf word flat_types → HasKnown t
  flat_known word t text one declared = words.flat (subst (λ (w : Text). IsOneOf w flat_types) (sym text) one)

  list_known : (t : Ty) → HasKnown t → HasKnown (ty.List t)
  list_known t is declared =
      subst (IsKnown image) (sym (texts.type_text-List ds t))
      (words.list (is (subst IsTrue (is_declared_List ds.structures ds.enumerations t) declared)))

  structure_known : (n : ℕ) → HasKnown (flat.Structure n)
  structure_known n declared =
      let it = found ds.structures n (structure_there ds n declared) in
      words.declared (in_front (type_text ds (flat.Structure n))
      (map (λ (s : ImageStructure). s.name) image.structures)
      (map (λ (e : ImageEnumeration). e.name) image.enumerations)
      (subst (λ (w : Text). IsOneOf w (map (λ (s : ImageStructure). s.name) image.structures))
      (sym (structure_text n it.0 it.1))
      (one_mapped (λ (s : ImageStructure). s.name) (structure_words ds it.0) image.structures
      (one_mapped (structure_words ds) it.0 ds.structures (one_there ds.structures n it.0 it.1)))))

  enumeration_known : (n : ℕ) → HasKnown (flat.Enumeration n)
  enumeration_known n declared =
      let it = found ds.enumerations n (enumeration_there ds n declared) in
      words.declared (behind (type_text ds (flat.Enumeration n))
      (map (λ (s : ImageStructure). s.name) image.structures)
      (map (λ (e : ImageEnumeration). e.name) image.enumerations)
      (subst (λ (w : Text). IsOneOf w (map (λ (e : ImageEnumeration). e.name) image.enumerations))
      (sym (enumeration_text n it.0 it.1))
      (one_mapped (λ (e : ImageEnumeration). e.name) (enumeration_words ds it.0) image.enumerations
      (one_mapped (enumeration_words ds) it.0 ds.enumerations (one_there ds.enumerations n it.0 it.1)))))

  pub type_known : (t : Ty) → HasKnown t
  type_known = type_induction HasKnown
      (flat_known (codes "boolean") flat.Boolean (texts.type_text-Boolean ds) (inl refl))
      (flat_known (codes "integer") flat.Integer (texts.type_text-Integer ds) (inr (inl refl)))
      (flat_known (codes "decimal") flat.Decimal (texts.type_text-Decimal ds) (inr (inr (inl refl))))
      (flat_known (codes "money") flat.Money (texts.type_text-Money ds) (inr (inr (inr (inl refl)))))
      (flat_known (codes "date") flat.Date (texts.type_text-Date ds) (inr (inr (inr (inr (inl refl))))))
      (flat_known (codes "duration") flat.Duration (texts.type_text-Duration ds)
      (inr (inr (inr (inr (inr (inl refl)))))))
      list_known structure_known enumeration_known

  -- ---- parts

  -- what has a part in words has it in declarations
  pub data PartOf (name text : Text) : Type 0 where
    field : (n : ℕ) (s : Structure) (f : Field) → slice_get ds.structures n ≡ Some s → IsOneOf f s.fields
        → name ≡ s.name → text ≡ type_text ds f.ty → PartOf name text
    content : (n : ℕ) (e : Enumeration) (c : Case) (t : Ty) → slice_get ds.enumerations n ≡ Some e
        → IsOneOf c e.cases → c.content ≡ Some t → name ≡ e.name → text ≡ type_text ds t → PartOf name text

  content_told : (c : Case) (text : Text) → content_words ds c.content ≡ Some text
      → (t : Ty) × (c.content ≡ Some t) × (text ≡ type_text ds t)
  content_told c text h = by c.content refl h
    where
      by : (o : Option Ty) → c.content ≡ o → content_words ds o ≡ Some text
          → (t : Ty) × (c.content ≡ Some t) × (text ≡ type_text ds t)
      by None e g = cc g
      by (Some t) e g = (t, e, sym (same_some (type_text ds t) text g))

  pub part_told : (name text : Text) → HasPart image name text → PartOf name text
  part_told name text (words.field s f one other) =
      let made = one_unmapped (structure_words ds) s ds.structures one in
      let own = one_unmapped (field_words ds) f made.0.fields
      (subst (λ (r : ImageStructure). IsOneOf f r.fields) made.2 other) in
      let at = at_one ds.structures made.0 made.1 in
      field at.0 made.0 own.0 at.1 own.1 (ap (λ (r : ImageStructure). r.name) made.2)
      (ap (λ (g : ImageField). g.ty) own.2)
  part_told name text (words.content e c ty one other has) =
      let made = one_unmapped (enumeration_words ds) e ds.enumerations one in
      let own = one_unmapped (case_words ds) c made.0.cases
      (subst (λ (r : ImageEnumeration). IsOneOf c r.cases) made.2 other) in
      let at = at_one ds.enumerations made.0 made.1 in
      let told = content_told own.0 ty (sym (ap (λ (g : ImageCase). g.content) own.2) ∙ has) in
      content at.0 made.0 own.0 told.0 at.1 own.1 told.1 (ap (λ (r : ImageEnumeration). r.name) made.2) told.2

  -- ---- heights

  pub field_declared : (n : ℕ) (s : Structure) (f : Field) → slice_get ds.structures n ≡ Some s → IsOneOf f s.fields
      → IsDeclared f.ty
  field_declared n s f at one =
      let place = at_one s.fields f one in
      list_all_at (field_is_sound ds.structures ds.enumerations) s.fields place.0 f (fields_declared ds n s at) place.1

  pub case_declared : (n : ℕ) (e : Enumeration) (c : Case) (t : Ty) → slice_get ds.enumerations n ≡ Some e
      → IsOneOf c e.cases → c.content ≡ Some t → IsDeclared t
  case_declared n e c t at one is =
      let place = at_one e.cases c one in content_declared ds n place.0 e c t at place.1 is

  -- a type of that height isn't higher
  abbrev IsLowTo : ℕ → Ty → Type 0
  IsLowTo k t = IsDeclared t → height k t ≤ k → IsHigher image k (type_text ds t) → ⊥

  -- a name of a type, or a list
  pub higher_by : (k : ℕ) (w : Text) → IsHigher image (suc k) w
      → ((text : Text) × (w ≡ codes "list of " ++ text) × IsHigher image k text)
      ⊎ ((text : Text) × HasPart image w text × IsHigher image k text)
  higher_by k w (words.list high) = inl (_, refl, high)
  higher_by k w (words.part has high) = inr (_, has, high)

  flat_part : (word text : Text) → IsOneOf word flat_types → PartOf word text → ⊥
  flat_part word text one (field n s f at own name is) =
      flat_no_name word one (subst (IsWord is_ascii_uppercase) (sym name)
      (all_at _ ds.structures n s spelled.structures at).name.word)
  flat_part word text one (content n e c t at own has name is) =
      flat_no_name word one (subst (IsWord is_ascii_uppercase) (sym name)
      (all_at _ ds.enumerations n e spelled.enumerations at).name.word)

  list_part : (word rest text : Text) → word ≡ codes "list of " ++ rest → PartOf word text → ⊥
  list_part word rest text is (field n s f at own name _) =
      named_no_list s.name rest (all_at _ ds.structures n s spelled.structures at).name.word (sym name ∙ is)
  list_part word rest text is (content n e c t at own has name _) =
      named_no_list e.name rest (all_at _ ds.enumerations n e spelled.enumerations at).name.word (sym name ∙ is)

  flat_low : (k : ℕ) (word : Text) (t : Ty) → type_text ds t ≡ word → IsOneOf word flat_types → IsLowTo (suc k) t
  flat_low k word t text one declared low high =
      by (higher_by k word (subst (IsHigher image (suc k)) text high))
    where
      by : ((text : Text) × (word ≡ codes "list of " ++ text) × IsHigher image k text)
          ⊎ ((text : Text) × HasPart image word text × IsHigher image k text) → ⊥
      by (inl it) = no_flat_list word it.0 one it.1
      by (inr it) = flat_part word it.0 one (part_told word it.0 it.1)

  module _ (k : ℕ) (below : (t : Ty) → IsLowTo k t) where
    list_low : (t : Ty) → IsLowTo (suc k) t → IsLowTo (suc k) (ty.List t)
    list_low t is declared low high =
        by (higher_by k (codes "list of " ++ type_text ds t)
        (subst (IsHigher image (suc k)) (texts.type_text-List ds t) high))
      where
        by : ((text : Text) × (codes "list of " ++ type_text ds t ≡ codes "list of " ++ text) × IsHigher image k text)
            ⊎ ((text : Text) × HasPart image (codes "list of " ++ type_text ds t) text × IsHigher image k text) → ⊥
        by (inl it) =
            let same : type_text ds t ≡ it.0 = ap (drop 8) it.1 in
            let count = height_List ds.structures ds.enumerations k t in
            below t (subst IsTrue (is_declared_List ds.structures ds.enumerations t) declared)
            (omega (arith, low, count))
            (subst (IsHigher image k) (sym same) it.2)
        by (inr it) = list_part _ (type_text ds t) it.0 refl (part_told _ it.0 it.1)

    structure_part : (n : ℕ) (s : Structure) (text : Text) → slice_get ds.structures n ≡ Some s
        → height (suc k) (flat.Structure n) ≤ suc k → PartOf s.name text → IsHigher image k text → ⊥
    structure_part n s text at low (field m r f there own name is) high =
        let same : r ≡ s = structures_apart m n r s there at (sym name) in
        let one : IsOneOf f s.fields = subst (λ (x : Structure). IsOneOf f x.fields) same own in
        let count = height_Structure ds.structures ds.enumerations k n s at in
        let part = field_below (height k) s.fields f one in
        below f.ty (field_declared n s f at one) (omega (arith, low, count, part)) (subst (IsHigher image k) is high)
    structure_part n s text at low (content m e c t there own has name is) high =
        kinds_apart s e (one_there ds.structures n s at) (one_there ds.enumerations m e there) name

    structure_low : (n : ℕ) → IsLowTo (suc k) (flat.Structure n)
    structure_low n declared low high =
        let it = found ds.structures n (structure_there ds n declared) in
        by it.0 it.1 (higher_by k it.0.name (subst (IsHigher image (suc k)) (structure_text n it.0 it.1) high))
      where
        by : (s : Structure) → slice_get ds.structures n ≡ Some s
            → ((text : Text) × (s.name ≡ codes "list of " ++ text) × IsHigher image k text)
            ⊎ ((text : Text) × HasPart image s.name text × IsHigher image k text) → ⊥
        by s at (inl it) =
            named_no_list s.name it.0 (all_at _ ds.structures n s spelled.structures at).name.word it.1
        by s at (inr it) = structure_part n s it.0 at low (part_told s.name it.0 it.1) it.2

    enumeration_part : (n : ℕ) (e : Enumeration) (text : Text) → slice_get ds.enumerations n ≡ Some e
        → height (suc k) (flat.Enumeration n) ≤ suc k → PartOf e.name text → IsHigher image k text → ⊥
    enumeration_part n e text at low (field m r f there own name is) high =
        kinds_apart r e (one_there ds.structures m r there) (one_there ds.enumerations n e at) (sym name)
    enumeration_part n e text at low (content m d c t there own has name is) high =
        let same : d ≡ e = enumerations_apart m n d e there at (sym name) in
        let one : IsOneOf c e.cases = subst (λ (x : Enumeration). IsOneOf c x.cases) same own in
        let count = height_Enumeration ds.structures ds.enumerations k n e at in
        let part = content_below (height k) e.cases c one in
        let own_height : content_height (height k) c.content ≡ height k t = ap (content_height (height k)) has in
        below t (case_declared n e c t at one has) (omega (arith, low, count, part, own_height))
        (subst (IsHigher image k) is high)

    enumeration_low : (n : ℕ) → IsLowTo (suc k) (flat.Enumeration n)
    enumeration_low n declared low high =
        let it = found ds.enumerations n (enumeration_there ds n declared) in
        by it.0 it.1 (higher_by k it.0.name (subst (IsHigher image (suc k)) (enumeration_text n it.0 it.1) high))
      where
        by : (e : Enumeration) → slice_get ds.enumerations n ≡ Some e
            → ((text : Text) × (e.name ≡ codes "list of " ++ text) × IsHigher image k text)
            ⊎ ((text : Text) × HasPart image e.name text × IsHigher image k text) → ⊥
        by e at (inl it) =
            named_no_list e.name it.0 (all_at _ ds.enumerations n e spelled.enumerations at).name.word it.1
        by e at (inr it) = enumeration_part n e it.0 at low (part_told e.name it.0 it.1) it.2

    one_more : (t : Ty) → IsLowTo (suc k) t
    one_more = type_induction (IsLowTo (suc k))
        (flat_low k (codes "boolean") flat.Boolean (texts.type_text-Boolean ds) (inl refl))
        (flat_low k (codes "integer") flat.Integer (texts.type_text-Integer ds) (inr (inl refl)))
        (flat_low k (codes "decimal") flat.Decimal (texts.type_text-Decimal ds) (inr (inr (inl refl))))
        (flat_low k (codes "money") flat.Money (texts.type_text-Money ds) (inr (inr (inr (inl refl)))))
        (flat_low k (codes "date") flat.Date (texts.type_text-Date ds) (inr (inr (inr (inr (inl refl))))))
        (flat_low k (codes "duration") flat.Duration (texts.type_text-Duration ds)
        (inr (inr (inr (inr (inr (inl refl)))))))
        list_low structure_low enumeration_low

  pub type_low : (k : ℕ) (t : Ty) → IsLowTo k t
  type_low zero t declared low high = omega (arith, low, height_zero ds.structures ds.enumerations t)
  type_low (suc k) t declared low high = one_more k (type_low k) t declared low high
