-- What a tree declares is made of what it declares.
use Rattle.std.proofs.Common.{◌≡◌, List, [], ◌∷◌, length, Option, Some, None, Ok, refl, ap, ◌∙◌, arith}
use Rattle.std.specs.Prelude.{flat_map}
use Rattle.cat_value.specs.declared.ty.Ty.{Ty}
use Rattle.cat_value.specs.declared.ty.Ty.TheVariants as flat_ty
use Rattle.cat_tree.specs.declared.name.Name.{Name}
use Rattle.cat_tree.specs.declared.program.Item.{Item}
use Rattle.cat_scope.specs.Names.{AllHave}
use Rattle.cat_names.proofs.ListLaws.{all_any, each_of}
use Rattle.cat_names.specs.declared.typed.Flat.TheVariants as flat
use Rattle.cat_names.specs.Found.{each_found}
use Rattle.cat_names.specs.Lookup.{TypeNames}
use Rattle.cat_names.specs.Written.{names_of, texts, structures_in, enumerations_in, scopes_in, types_in}
use Rattle.cat_names.specs.Written.{scope_names_in}
use Rattle.cat_names.specs.Declarations.{Declared, DeclaredTypes, structure_declared, enumeration_declared}
use Rattle.cat_names.specs.Declarations.{scope_declared, declared_of}
use Rattle.cat_names.specs.Heights.{types_written}
use Rattle.cat_names.proofs.OkParts.{both_ok}
use Rattle.cat_names.proofs.DeclaredForward.{Holds, ContentHas, ItemHas, structures_on, enumerations_on, scopes_on}
use Rattle.cat_names.proofs.DeclaredForward.{structures_written, enumerations_written, scopes_written, as_many}
use Rattle.cat_names.proofs.MadeTypes.{plain, IsMade, HaveNames, AreMade, IsContent, written_made}

-- ---- the parts of what is declared

pub record DeclaredParts (items : List Item) (d : Declared) : Type 0 where
  pub structures : each_found (structure_declared (types_in items)) (structures_in items) ≡ Ok d.structures
  pub enumerations : each_found (enumeration_declared (types_in items)) (enumerations_in items) ≡ Ok d.enumerations
  pub scopes : each_found (scope_declared (types_in items) (scope_names_in items)) (scopes_in items) ≡ Ok d.scopes

pub declared_parts : (items : List Item) (d : Declared) → declared_of items ≡ Ok d → DeclaredParts items d
declared_parts items d h =
    let names = types_in items in
    let all = both_ok _ _ _ d h in
    let types = both_ok (each_found (structure_declared names) (structures_in items))
    (each_found (enumeration_declared names) (enumerations_in items)) _ all.0 all.2 in
    let is : record {
      structures = all.0.structures;
      enumerations = all.0.enumerations;
      scopes = all.1;
    } ≡ d = cc all.4 in
    let pair : record { structures = types.0; enumerations = types.1 } ≡ all.0 = cc types.4 in
    let structures : types.0 ≡ d.structures = ap (λ (t : DeclaredTypes). t.structures) pair
    ∙ ap (λ (x : Declared). x.structures) is in
    let enumerations : types.1 ≡ d.enumerations = ap (λ (t : DeclaredTypes). t.enumerations) pair
    ∙ ap (λ (x : Declared). x.enumerations) is in
    record {
      structures = types.2 ∙ ap (λ x. Ok x) structures;
      enumerations = types.3 ∙ ap (λ x. Ok x) enumerations;
      scopes = all.3 ∙ ap (λ x. Ok x) (ap (λ (x : Declared). x.scopes) is);
    }

pub names_counted : {A : Type 0} (xs : List (Name × A)) → length (texts (names_of xs)) ≡ length xs
names_counted [] = refl
names_counted (x ∷ xs) = omega (arith, names_counted xs)

pub types_counted : (items : List Item) (d : Declared) → DeclaredParts items d
    → HaveNames (length d.structures) (length d.enumerations) (types_in items)
types_counted items d parts = record {
  structures = omega (
    arith,
    names_counted (structures_in items),
    as_many (structure_declared (types_in items)) (structures_in items) d.structures parts.structures,
  );
  enumerations = omega (
    arith,
    names_counted (enumerations_in items),
    as_many (enumeration_declared (types_in items)) (enumerations_in items) d.enumerations parts.enumerations,
  );
}

-- what holds of each written type holds of all that is declared
pub record AllTypes (names : TypeNames) (G : Ty → Type 0) (d : Declared) : Type 0 where
  pub structures : AllHave (λ s. AllHave (λ f. G f.ty) s.fields) d.structures
  pub enumerations : AllHave (λ e. AllHave (λ c. ContentHas names G c.content) e.cases) d.enumerations
  pub scopes : AllHave (λ s. AllHave (ItemHas names G) s.items) d.scopes

pub all_types : (items : List Item) (d : Declared) → DeclaredParts items d → (G : Ty → Type 0) → G flat_ty.Boolean
    → AllHave (Holds (types_in items) G) (flat_map types_written items) → AllTypes (types_in items) G d
all_types items d parts G on all =
    let names = types_in items in let Q = Holds names G in record {
      structures = structures_on names G (structures_in items) d.structures parts.structures
          (structures_written Q items all);
      enumerations = enumerations_on names G (enumerations_in items) d.enumerations parts.enumerations
          (enumerations_written Q items all);
      scopes = scopes_on names G on (scope_names_in items) (scopes_in items) d.scopes parts.scopes
          (scopes_written Q items all);
    }

-- each declared type is made of what is declared
pub all_made : (items : List Item) (d : Declared) → DeclaredParts items d
    → AllTypes (types_in items) (IsMade (length d.structures) (length d.enumerations)) d
all_made items d parts =
    let s = length d.structures in let e = length d.enumerations in let names = types_in items in
    all_types items d parts (IsMade s e)
    (record { lists = 0; base = flat_ty.Boolean; kind = plain flat.Boolean; type_is = refl })
    (all_any (Holds names (IsMade s e)) (λ w. written_made s e names (types_counted items d parts) w)
    (flat_map types_written items))

pub are_made : (items : List Item) (d : Declared) → DeclaredParts items d → AreMade d.structures d.enumerations
are_made items d parts = let all = all_made items d parts in record {
  structures = all.structures;
  enumerations = each_of _ _ (λ e h. each_of _ _ (λ c g. content c.content g) e.cases h) d.enumerations
      all.enumerations;
}
  where
    content : (c : Option Ty) → ContentHas (types_in items) (IsMade (length d.structures) (length d.enumerations)) c
        → IsContent (length d.structures) (length d.enumerations) c
    content None h = tt
    content (Some t) h = h
