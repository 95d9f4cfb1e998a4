-- No declared type of a tree with declarations is too high.
use Rattle.std.specs.Prelude.{flat_map}
use Rattle.std.proofs.Common.{◌≡◌, ◌≤◌, ℕ, zero, suc, false, List, [], ◌∷◌, Option, Some, None, Ok, slice_get, refl, ap}
use Rattle.std.proofs.Common.{◌∙◌, subst, arith}
use Rattle.cat_value.specs.declared.ty.Ty.{Ty}
use Rattle.cat_value.specs.declared.ty.Ty.TheVariants as flat_ty
use Rattle.cat_value.specs.declared.ty.Ty.TheViews as ty
use Rattle.cat_value.specs.declared.declaration.Field.{Field}
use Rattle.cat_value.specs.declared.declaration.Structure.{Structure}
use Rattle.cat_value.specs.declared.declaration.Case.{Case}
use Rattle.cat_value.specs.declared.declaration.Enumeration.{Enumeration}
use Rattle.cat_value.specs.declared.declaration.Scope.{Scope}
use Rattle.cat_value.specs.declared.decls.Decls.{Decls}
use Rattle.cat_value.specs.Declarations.{highest}
use Rattle.cat_value.specs.Heights.{highest_field, content_height, highest_content, structure_parts, enumeration_parts}
use Rattle.cat_value.specs.Laws.{AreSound, height_of, part_height}
use Rattle.cat_value.proofs.Exported.{height_of_is}
use Rattle.cat_tree.specs.declared.name.Type as written
use Rattle.cat_tree.specs.declared.program.Tree.{Tree}
use Rattle.cat_scope.specs.Names.{AllHave}
use Rattle.cat_names.specs.Found.{each_found}
use Rattle.cat_names.specs.Lookup.{TypeNames, base_type, type_written}
use Rattle.cat_names.specs.Written.{structures_in, enumerations_in, scopes_in, names_of, types_in, scope_names_in}
use Rattle.cat_names.specs.Declarations.{Declared, DeclaredTypes, structure_declared, enumeration_declared, declared_of}
use Rattle.cat_names.specs.Heights.{is_high, is_high_list, high_list, types_written, height_faults}
use Rattle.cat_names.specs.Accepted.{parts_of}
use Rattle.cat_names.proofs.CallLaws.{each_all}
use Rattle.cat_names.proofs.HeightKept.{low_test, structures_named_low, enumerations_named_low}
use Rattle.cat_names.proofs.OkParts.{both_ok}
use Rattle.cat_names.proofs.WrittenKept.{IsLowWritten, LowContent, LowItem, structures_back, enumerations_back}
use Rattle.cat_names.proofs.WrittenKept.{scopes_back, all_written}

-- no field and no content is higher than the highest
field_below : (height : Ty → ℕ) (fs : List Field) (k : ℕ) (f : Field) → slice_get fs k ≡ Some f
    → height f.ty ≤ highest_field height fs
field_below height [] k f e = absurd (cc e)
field_below height (g ∷ fs) zero f e = let is : g ≡ f = cc e in
    subst (λ (x : Field). height x.ty ≤ highest_field height (g ∷ fs)) is (omega arith)
field_below height (g ∷ fs) (suc k) f e = omega (arith, field_below height fs k f e)

content_below : (height : Ty → ℕ) (cs : List Case) (k : ℕ) (c : Case) → slice_get cs k ≡ Some c
    → content_height height c.content ≤ highest_content height cs
content_below height [] k c e = absurd (cc e)
content_below height (b ∷ cs) zero c e = let is : b ≡ c = cc e in
    subst (λ (x : Case). content_height height x.content ≤ highest_content height (b ∷ cs)) is (omega arith)
content_below height (b ∷ cs) (suc k) c e = omega (arith, content_below height cs k c e)

module _ (ds : Decls) (sound : AreSound ds) (names : TypeNames) where
  abbrev Low : Ty → Type 0
  Low t = is_high (parts_of ds) t ≡ false

  fields_low : (n : ℕ) (s : Structure) → slice_get ds.structures n ≡ Some s → AllHave (λ f. Low f.ty) s.fields
  fields_low n s e = each_all (λ (f : Field). Low f.ty) s.fields (λ k f at.
      let parts : part_height ds (ty.out-Ty (flat_ty.Structure n)) ≡ highest_field (height_of ds) s.fields =
      ap (part_height ds) (ty.outs-Structure n) ∙ ap (structure_parts (height_of ds)) e in
      let low = (sound.structures n s e).low in
      low_test (height_of ds f.ty)
      (omega (
        arith,
        height_of_is ds (flat_ty.Structure n) low,
        low,
        parts,
        field_below (height_of ds) s.fields k f
            at,
      )))

  contents_low : (n : ℕ) (d : Enumeration) → slice_get ds.enumerations n ≡ Some d
      → AllHave (λ c. LowContent names Low c.content) d.cases
  contents_low n d e = each_all (λ (c : Case). LowContent names Low c.content) d.cases (λ k c at.
      let parts : part_height ds (ty.out-Ty (flat_ty.Enumeration n)) ≡ highest_content (height_of ds) d.cases =
      ap (part_height ds) (ty.outs-Enumeration n) ∙ ap (enumeration_parts (height_of ds)) e in
      let low = (sound.enumerations n d e).low in
      by c.content
      (omega (
        arith,
        height_of_is ds (flat_ty.Enumeration n) low,
        low,
        parts,
        content_below (height_of ds) d.cases k c
            at,
      )))
    where
      by : (content : Option Ty) → content_height (height_of ds) content ≤ highest → LowContent names Low content
      by None h = tt
      by (Some t) h = low_test (height_of ds t) h

  items_low : (n : ℕ) (s : Scope) → slice_get ds.scopes n ≡ Some s → AllHave (LowItem names Low) s.items
  items_low n s e = each_all (LowItem names Low) s.items (λ k i at. let is = sound.items n k s i e at in record {
    type = low_test (height_of ds i.ty) is.low;
    params = each_all Low i.params (λ m t found. low_test (height_of ds t) (is.params_low m t found));
  })

  high_at : (whole inside : Option Ty) → ((u : Ty) → whole ≡ Some u → Low u) → is_high_list (parts_of ds) whole inside
      ≡ false
  high_at None inside low = refl
  high_at (Some u) None low = refl
  high_at (Some u) (Some v) low = rw (low u refl) refl

  lists_low : (ts : List written.Type) → AllHave (IsLowWritten names Low) ts
      → flat_map (high_list (parts_of ds) names) ts ≡ []
  lists_low [] all = refl
  lists_low (t ∷ ts) all = rw (high_at (type_written names t) (base_type names t.base) all.0) (lists_low ts all.1)

pub heights_kept : (ds : Decls) → AreSound ds → (tree : Tree) → declared_of tree.items ≡ Ok (parts_of ds)
    → height_faults tree (parts_of ds) ≡ []
heights_kept ds sound tree h =
    let names = types_in tree.items in
    let all = both_ok _ _ _ (parts_of ds) h in
    let types = both_ok (each_found (structure_declared names) (structures_in tree.items))
    (each_found (enumeration_declared names) (enumerations_in tree.items)) _ all.0 all.2 in
    let is : record {
      structures = all.0.structures;
      enumerations = all.0.enumerations;
      scopes = all.1;
    } ≡ parts_of ds = cc all.4 in
    let pair : record { structures = types.0; enumerations = types.1 } ≡ all.0 = cc types.4 in
    let structures : types.0 ≡ ds.structures = ap (λ (t : DeclaredTypes). t.structures) pair
    ∙ ap (λ (d : Declared). d.structures) is in
    let enumerations : types.1 ≡ ds.enumerations = ap (λ (t : DeclaredTypes). t.enumerations) pair
    ∙ ap (λ (d : Declared). d.enumerations) is in
    let scopes : all.1 ≡ ds.scopes = ap (λ (d : Declared). d.scopes) is in
    let low = Low ds sound names in
    let written = all_written names low tree.items
    (structures_back names low (structures_in tree.items) ds.structures (types.2 ∙ ap (λ x. Ok x) structures)
    (each_all (λ (d : Structure). AllHave (λ f. low f.ty) d.fields) ds.structures (fields_low ds sound names)))
    (enumerations_back names low (enumerations_in tree.items) ds.enumerations (types.3 ∙ ap (λ x. Ok x) enumerations)
    (each_all (λ (d : Enumeration). AllHave (λ c. LowContent names low c.content) d.cases) ds.enumerations
    (contents_low ds sound names)))
    (scopes_back names low (scope_names_in tree.items) (scopes_in tree.items) ds.scopes
    (all.3 ∙ ap (λ x. Ok x) scopes)
    (each_all (λ (d : Scope). AllHave (LowItem names low) d.items) ds.scopes (items_low ds sound names))) in
    rw (
      structures_named_low ds sound (names_of (structures_in tree.items)),
      enumerations_named_low ds sound (names_of (enumerations_in tree.items)),
    )
    (lists_low ds sound names (flat_map types_written tree.items) written)
