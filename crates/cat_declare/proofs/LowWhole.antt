-- Where no declared type is too high, no list of one was cut.
use Rattle.std.proofs.Common.{◌≡◌, ◌∙◌, ℕ, ◌≤◌, false, List, [], ◌∷◌, map, Option, None, Some}
use Rattle.std.proofs.Common.{refl}
use Rattle.std.proofs.Common.{ap, arith}
use Rattle.std.specs.Prelude.{option_map}
use Rattle.std.proofs.lemmas.Bool.Decides.{nat_tests}
use Rattle.cat_value.specs.declared.ty.Ty.{Ty}
use Rattle.cat_value.specs.declared.declaration.Field.{Field}
use Rattle.cat_value.specs.declared.declaration.Case.{Case}
use Rattle.cat_value.specs.declared.declaration.ItemDecl.{ItemDecl}
use Rattle.cat_value.specs.Declarations.{highest}
use Rattle.cat_value.specs.Heights.{height_to}
use Rattle.cat_scope.specs.Names.{AllHave}
use Rattle.cat_tree.specs.declared.name.Name.{Name}
use Rattle.cat_tree.specs.declared.name.Type as written
use Rattle.cat_tree.specs.declared.program.FieldItem.{FieldItem}
use Rattle.cat_tree.specs.declared.program.CaseItem.{CaseItem}
use Rattle.cat_tree.specs.declared.program.Variable.{Variable}
use Rattle.cat_tree.specs.declared.program.Variable.TheVariants as variable
use Rattle.cat_tree.specs.declared.program.Item.{Item}
use Rattle.cat_names.proofs.Exported.{AreLow}
use Rattle.cat_names.specs.Declarations.{Declared, variable_item}
use Rattle.cat_names.specs.Heights.{is_high}
use Rattle.cat_names.specs.Lookup.{TypeNames, nested_list}
use Rattle.cat_names.specs.Written.{structures_in, enumerations_in, scopes_in, types_in, scope_names_in}
use Rattle.cat_declare.specs.inside.Made.{base_made, type_made, field_made, structure_made, case_made}
use Rattle.cat_declare.specs.inside.Made.{enumeration_made, variable_type_made, item_made, scope_made, made, whole, cut}
use Rattle.cat_declare.proofs.SameHeights.{height_positive, nested_height}

module _ (names : TypeNames) (d : Declared) where
  lists_low : (n : ℕ) (b : Ty) → is_high d (nested_list n b) ≡ false → cut n ≡ n
  lists_low n b low =
      let within : height_to d.structures d.enumerations highest (nested_list n b) ≤ highest =
      grind (arith, nat_tests, low) in omega (
        arith,
        within,
        nested_height d.structures d.enumerations highest n b,
        height_positive d.structures d.enumerations highest b,
      )

  type_low : (t : written.Type) → is_high d (type_made whole names t) ≡ false
      → type_made cut names t ≡ type_made whole names t
  type_low t low =
      ap (λ n. nested_list n (base_made names t.base)) (lists_low t.lists (base_made names t.base) low)

  fields_low : (fs : List FieldItem) → AllHave (λ f. is_high d f.ty ≡ false) (map (field_made whole names) fs)
      → map (field_made cut names) fs ≡ map (field_made whole names) fs
  fields_low [] all = refl
  fields_low (f ∷ fs) all =
      ap (λ (t : Ty). record { name = f.name.text; ty = t } ∷ map (field_made cut names) fs) (type_low f.ty all.0)
      ∙ ap (λ gs. field_made whole names f ∷ gs) (fields_low fs all.1)

  structures_low : (xs : List (Name × List FieldItem))
      → AllHave (λ s. AllHave (λ f. is_high d f.ty ≡ false) s.fields) (map (structure_made whole names) xs)
      → map (structure_made cut names) xs ≡ map (structure_made whole names) xs
  structures_low [] all = refl
  structures_low (x ∷ xs) all =
      ap (λ (fs : List Field). record { name = x.0.text; fields = fs } ∷ map (structure_made cut names) xs)
      (fields_low x.1 all.0)
      ∙ ap (λ ys. structure_made whole names x ∷ ys) (structures_low xs all.1)

  module _ (P : Option Ty → Type 0) (on : (t : Ty) → P (Some t) → is_high d t ≡ false) where
    content_low : (t : Option written.Type) → P (option_map (type_made whole names) t)
        → option_map (type_made cut names) t ≡ option_map (type_made whole names) t
    content_low None h = refl
    content_low (Some t) h = ap (λ u. Some u) (type_low t (on (type_made whole names t) h))

    cases_low : (cs : List CaseItem) → AllHave (λ c. P c.content) (map (case_made whole names) cs)
        → map (case_made cut names) cs ≡ map (case_made whole names) cs
    cases_low [] all = refl
    cases_low (c ∷ cs) all =
        ap (λ (t : Option Ty). record { name = c.name.text; content = t } ∷ map (case_made cut names) cs)
        (content_low c.content all.0)
        ∙ ap (λ ys. case_made whole names c ∷ ys) (cases_low cs all.1)

    enumerations_low : (xs : List (Name × List CaseItem))
        → AllHave (λ e. AllHave (λ c. P c.content) e.cases) (map (enumeration_made whole names) xs)
        → map (enumeration_made cut names) xs ≡ map (enumeration_made whole names) xs
    enumerations_low [] all = refl
    enumerations_low (x ∷ xs) all =
        ap (λ (cs : List Case). record { name = x.0.text; cases = cs } ∷ map (enumeration_made cut names) xs)
        (cases_low x.1 all.0)
        ∙ ap (λ ys. enumeration_made whole names x ∷ ys) (enumerations_low xs all.1)

  params_low : (ps : List FieldItem)
      → AllHave (λ t. is_high d t ≡ false) (map (λ f. type_made whole names f.ty) ps)
      → map (λ f. type_made cut names f.ty) ps ≡ map (λ f. type_made whole names f.ty) ps
  params_low [] all = refl
  params_low (p ∷ ps) all = ap (λ t. t ∷ map (λ f. type_made cut names f.ty) ps) (type_low p.ty all.0)
      ∙ ap (λ ts. type_made whole names p.ty ∷ ts) (params_low ps all.1)

  variable_low : (t : Option written.Type) → is_high d (variable_type_made whole names t) ≡ false
      → variable_type_made cut names t ≡ variable_type_made whole names t
  variable_low None low = refl
  variable_low (Some t) low = type_low t low

  module _ (scopes : List (List ℕ)) (P : ItemDecl → Type 0) (type_of : (i : ItemDecl) → P i → is_high d i.ty ≡ false)
      (params_of : (i : ItemDecl) → P i → AllHave (λ t. is_high d t ≡ false) i.params) where
    item_low : (v : Variable) → P (item_made whole names scopes v)
        → item_made cut names scopes v ≡ item_made whole names scopes v
    item_low (variable.Own k p w t params) h = let i = item_made whole names scopes (variable.Own k p w t params) in
        ap (λ u. variable_item k w t u (map (λ f. type_made cut names f.ty) params)) (variable_low t (type_of i h))
        ∙ ap (variable_item k w t (variable_type_made whole names t)) (params_low params (params_of i h))
    item_low (variable.Called w u) h = refl

    items_low : (vs : List Variable) → AllHave P (map (item_made whole names scopes) vs)
        → map (item_made cut names scopes) vs ≡ map (item_made whole names scopes) vs
    items_low [] all = refl
    items_low (v ∷ vs) all = ap (λ i. i ∷ map (item_made cut names scopes) vs) (item_low v all.0)
        ∙ ap (λ is. item_made whole names scopes v ∷ is) (items_low vs all.1)

    scopes_low : (xs : List (Name × List Variable)) → AllHave (λ s. AllHave P s.items)
        (map (scope_made whole names scopes) xs)
        → map (scope_made cut names scopes) xs ≡ map (scope_made whole names scopes) xs
    scopes_low [] all = refl
    scopes_low (x ∷ xs) all =
        ap (λ (is : List ItemDecl). record { name = x.0.text; items = is } ∷ map (scope_made cut names scopes) xs)
        (items_low x.1 all.0)
        ∙ ap (λ ys. scope_made whole names scopes x ∷ ys) (scopes_low xs all.1)

pub nothing_cut : (items : List Item) → AreLow items (made whole items) → made cut items ≡ made whole items
nothing_cut items low =
    let names = types_in items in let scopes = scope_names_in items in let d = made whole items in
    ap (λ ss. record {
      structures = ss;
      enumerations = map (enumeration_made cut names) (enumerations_in items);
      scopes = map (scope_made cut names scopes) (scopes_in items);
    }) (structures_low names d (structures_in items) low.types.structures)
    ∙ ap (λ es. record {
      structures = map (structure_made whole names) (structures_in items);
      enumerations = es;
      scopes = map (scope_made cut names scopes) (scopes_in items);
    }) (enumerations_low names d _ (λ t h. h) (enumerations_in items) low.types.enumerations)
    ∙ ap (λ cs. record {
      structures = map (structure_made whole names) (structures_in items);
      enumerations = map (enumeration_made whole names) (enumerations_in items);
      scopes = cs;
    }) (scopes_low names d scopes _ (λ i h. h.type) (λ i h. h.params) (scopes_in items) low.types.scopes)
