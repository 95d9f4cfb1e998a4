-- A text is that of one type, where names of types stand once.
use Rattle.std.proofs.Common.{◌≡◌, ℕ, true, List, [], ◌++◌}
use Rattle.std.proofs.Common.{map, drop, Option, Some, None, slice_get, refl, sym, ap, ◌∙◌, subst, arith, true≢false}
use Rattle.std.specs.Prelude.{codes}
use Rattle.std.proofs.lemmas.Bool.Decides.{nat_tests}
use Rattle.cat_value.specs.declared.ty.Ty.{Ty}
use Rattle.cat_value.specs.declared.ty.Ty.TheVariants as flat
use Rattle.cat_value.specs.declared.ty.Ty.TheViews as ty
use Rattle.cat_value.specs.declared.declaration.Structure.{Structure}
use Rattle.cat_value.specs.declared.declaration.Enumeration.{Enumeration}
use Rattle.cat_value.specs.declared.decls.Decls.{Decls}
use Rattle.cat_value.specs.Declarations.{is_declared}
use Rattle.cat_value.proofs.Exported.{found, is_declared_Enumeration, is_declared_List, is_declared_Structure}
use Rattle.cat_value.proofs.Induction.{type_induction}
use Rattle.cat_listing.specs.Texts.{type_text, name_at}
use Rattle.cat_listing.proofs.TypeTexts as texts
use Rattle.cat_image.specs.declared.tables.ImageTables.{ImageTables}
use Rattle.cat_image.specs.Words.{Text}
use Rattle.cat_verify_tables.specs.TypeWords.{IsTypeName}
use Rattle.cat_verify_tables.specs.inside.DeclaredWords.{enumerations_named, structures_named}
use Rattle.cat_verify_tables.specs.inside.TypeNaming.{flat_type}
use Rattle.cat_verify_tables.proofs.KnownLemmas.{flat_there, no_flat_list, no_flat_name, no_named_list}
use Rattle.cat_verify_tables.proofs.MadeLemmas.{Apart, IsNamed, named_at}
use Rattle.cat_verify_tables.proofs.MadeLemmas as named
use Rattle.cat_verify_tables.proofs.PlainLemmas.{is_plain, not_other_plain}

module _ (tables : ImageTables) (ds : Decls)
    (structures : structures_named tables ≡ map (λ (s : Structure). s.name) ds.structures)
    (enumerations : enumerations_named tables ≡ map (λ (e : Enumeration). e.name) ds.enumerations) where
  abbrev pub Named : Text → Ty → Type 0
  Named = IsNamed (structures_named tables) (enumerations_named tables)

  structure_at : (n : ℕ) (s : Structure) → slice_get ds.structures n ≡ Some s
      → slice_get (structures_named tables) n ≡ Some s.name
  structure_at n s at = ap (λ (ns : List Text). slice_get ns n) structures
      ∙ named_at (λ (r : Structure). r.name) ds.structures n s at

  enumeration_at : (n : ℕ) (e : Enumeration) → slice_get ds.enumerations n ≡ Some e
      → slice_get (enumerations_named tables) n ≡ Some e.name
  enumeration_at n e at = ap (λ (ns : List Text). slice_get ns n) enumerations
      ∙ named_at (λ (r : Enumeration). r.name) ds.enumerations n e at

  -- ---- the text of a type that is declared

  abbrev HasName : Ty → Type 0
  HasName t = is_declared ds.structures ds.enumerations t ≡ true → Named (type_text ds t) t

  moved : (w v : Text) (t : Ty) → w ≡ v → Named v t → Named w t
  moved w v t same is = subst (λ (x : Text). Named x t) (sym same) is

  list_named : (t : Ty) → HasName t → HasName (ty.List t)
  list_named t is declared = moved (type_text ds (ty.List t)) (codes "list of " ++ type_text ds t) (ty.List t)
      (texts.type_text-List ds t)
      (named.list (type_text ds t) t (is (sym (is_declared_List ds.structures ds.enumerations t) ∙ declared)))

  structure_named : (n : ℕ) → HasName (flat.Structure n)
  structure_named n declared =
      let test = sym (is_declared_Structure ds.structures ds.enumerations n) ∙ declared in
      let it = found ds.structures n (grind (arith, nat_tests, test)) in
      moved (type_text ds (flat.Structure n)) it.0.name (flat.Structure n)
      (texts.type_text-Structure ds n ∙ ap (name_at (λ (s : Structure). s.name)) it.1)
      (named.structure it.0.name n (structure_at n it.0 it.1))

  enumeration_named : (n : ℕ) → HasName (flat.Enumeration n)
  enumeration_named n declared =
      let test = sym (is_declared_Enumeration ds.structures ds.enumerations n) ∙ declared in
      let it = found ds.enumerations n (grind (arith, nat_tests, test)) in
      moved (type_text ds (flat.Enumeration n)) it.0.name (flat.Enumeration n)
      (texts.type_text-Enumeration ds n ∙ ap (name_at (λ (e : Enumeration). e.name)) it.1)
      (named.enumeration it.0.name n (enumeration_at n it.0 it.1))

  flat_named : (word : Text) (t : Ty) → type_text ds t ≡ word → flat_type word ≡ Some t → HasName t
  flat_named word t text is declared = moved (type_text ds t) word t text (named.plain word t is)

  pub named_text : (t : Ty) → HasName t
  unfolding flat_type
  named_text = type_induction HasName
      (flat_named (codes "boolean") flat.Boolean (texts.type_text-Boolean ds) refl)
      (flat_named (codes "integer") flat.Integer (texts.type_text-Integer ds) refl)
      (flat_named (codes "decimal") flat.Decimal (texts.type_text-Decimal ds) refl)
      (flat_named (codes "money") flat.Money (texts.type_text-Money ds) refl)
      (flat_named (codes "date") flat.Date (texts.type_text-Date ds) refl)
      (flat_named (codes "duration") flat.Duration (texts.type_text-Duration ds) refl)
      list_named structure_named enumeration_named

  -- ---- no other type has it

  module _ (apart : Apart tables) where
    abbrev IsOnly : Ty → Type 0
    IsOnly u = (w : Text) (t : Ty) → Named w t → type_text ds u ≡ w → u ≡ t

    flat_only : (word : Text) (u : Ty) → type_text ds u ≡ word → flat_type word ≡ Some u → IsOnly u
    flat_only word u text is w t (named.plain v x own) same =
        cc (sym is ∙ ap flat_type (sym text ∙ same) ∙ own)
    flat_only word u text is w t (named.structure v k at) same =
        absurd (apart.spelled_structures k v at (λ typed. no_flat_name v u
        (ap flat_type (sym same ∙ text) ∙ is) typed))
    flat_only word u text is w t (named.enumeration v k at) same =
        absurd (apart.spelled_enumerations k v at (λ typed. no_flat_name v u
        (ap flat_type (sym same ∙ text) ∙ is) typed))
    flat_only word u text is w t (named.list v x own) same =
        absurd (no_flat_list word v (flat_there word u is) (sym text ∙ same))

    list_only : (u : Ty) → IsOnly u → IsOnly (ty.List u)
    list_only u only w t (named.plain v x own) same = absurd (no_flat_list v (type_text ds u) (flat_there v x own)
        (sym same ∙ texts.type_text-List ds u))
    list_only u only w t (named.structure v k at) same =
        absurd (apart.spelled_structures k v at (λ typed. no_named_list v (type_text ds u) typed
        (sym same ∙ texts.type_text-List ds u)))
    list_only u only w t (named.enumeration v k at) same =
        absurd (apart.spelled_enumerations k v at (λ typed. no_named_list v (type_text ds u) typed
        (sym same ∙ texts.type_text-List ds u)))
    list_only u only w t (named.list v x own) same =
        ap ty.List (only v x own (ap (drop 8) (sym (texts.type_text-List ds u) ∙ same)))

    -- a text without bytes is that of no type
    none_named : (w : Text) (t : Ty) → Named w t → [] ≡ w → ⊥
    unfolding flat_type
    none_named w t (named.plain v x own) same = cc (ap flat_type same ∙ own)
    none_named w t (named.structure v k at) same =
        true≢false (sym (not_other_plain v (apart.spelled_structures k v at)) ∙ ap is_plain (sym same))
    none_named w t (named.enumeration v k at) same =
        true≢false (sym (not_other_plain v (apart.spelled_enumerations k v at)) ∙ ap is_plain (sym same))
    none_named w t (named.list v x own) same = cc same

    structure_only : (n : ℕ) → IsOnly (flat.Structure n)
    structure_only n w t is same = by (slice_get ds.structures n) refl w t is
        (sym (texts.type_text-Structure ds n) ∙ same)
      where
        by : (o : Option Structure) → slice_get ds.structures n ≡ o → (w : Text) (t : Ty) → Named w t
            → name_at (λ (s : Structure). s.name) o ≡ w → flat.Structure n ≡ t
        by None at w t is same = absurd (none_named w t is same)
        by (Some s) at w t (named.plain v x own) same =
            absurd (apart.spelled_structures n s.name (structure_at n s at) (λ typed. no_flat_name v x own
            (subst IsTypeName same typed)))
        by (Some s) at w t (named.structure v k there) same =
            ap flat.Structure (apart.structures n k s.name (structure_at n s at) (there ∙ ap Some (sym same)))
        by (Some s) at w t (named.enumeration v k there) same =
            absurd (apart.both n k s.name (structure_at n s at) (there ∙ ap Some (sym same)))
        by (Some s) at w t (named.list v x own) same =
            absurd (apart.spelled_structures n s.name (structure_at n s at)
            (λ typed. no_named_list s.name v typed same))

    enumeration_only : (n : ℕ) → IsOnly (flat.Enumeration n)
    enumeration_only n w t is same = by (slice_get ds.enumerations n) refl w t is
        (sym (texts.type_text-Enumeration ds n) ∙ same)
      where
        by : (o : Option Enumeration) → slice_get ds.enumerations n ≡ o → (w : Text) (t : Ty) → Named w t
            → name_at (λ (e : Enumeration). e.name) o ≡ w → flat.Enumeration n ≡ t
        by None at w t is same = absurd (none_named w t is same)
        by (Some e) at w t (named.plain v x own) same =
            absurd (apart.spelled_enumerations n e.name (enumeration_at n e at) (λ typed. no_flat_name v x own
            (subst IsTypeName same typed)))
        by (Some e) at w t (named.structure v k there) same =
            absurd (apart.both k n e.name (there ∙ ap Some (sym same)) (enumeration_at n e at))
        by (Some e) at w t (named.enumeration v k there) same =
            ap flat.Enumeration (apart.enumerations n k e.name (enumeration_at n e at) (there ∙ ap Some (sym same)))
        by (Some e) at w t (named.list v x own) same =
            absurd (apart.spelled_enumerations n e.name (enumeration_at n e at)
            (λ typed. no_named_list e.name v typed same))

    pub text_only : (u : Ty) → IsOnly u
    unfolding flat_type
    text_only = type_induction IsOnly
        (flat_only (codes "boolean") flat.Boolean (texts.type_text-Boolean ds) refl)
        (flat_only (codes "integer") flat.Integer (texts.type_text-Integer ds) refl)
        (flat_only (codes "decimal") flat.Decimal (texts.type_text-Decimal ds) refl)
        (flat_only (codes "money") flat.Money (texts.type_text-Money ds) refl)
        (flat_only (codes "date") flat.Date (texts.type_text-Date ds) refl)
        (flat_only (codes "duration") flat.Duration (texts.type_text-Duration ds) refl)
        list_only structure_only enumeration_only
