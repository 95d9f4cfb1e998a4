-- What holds of each written type holds of each type that is declared.
use Rattle.std.specs.Prelude.{flat_map, option_to_list}
use Rattle.std.proofs.Common.{◌≡◌, ℕ, List, [], ◌∷◌, length, map, Option, Some, None, Ok, refl, sym, ap, subst, arith}
use Rattle.cat_value.specs.declared.ty.Ty.{Ty}
use Rattle.cat_value.specs.declared.ty.Ty.TheVariants as flat
use Rattle.cat_value.specs.declared.declaration.Field.{Field}
use Rattle.cat_value.specs.declared.declaration.Structure.{Structure}
use Rattle.cat_value.specs.declared.declaration.Case.{Case}
use Rattle.cat_value.specs.declared.declaration.Enumeration.{Enumeration}
use Rattle.cat_value.specs.declared.declaration.ItemDecl.{ItemDecl}
use Rattle.cat_value.specs.declared.declaration.Scope.{Scope}
use Rattle.cat_tree.specs.declared.name.Name.{Name}
use Rattle.cat_tree.specs.declared.name.Type as written
use Rattle.cat_tree.specs.declared.program.FieldItem.{FieldItem}
use Rattle.cat_tree.specs.declared.program.CaseItem.{CaseItem}
use Rattle.cat_tree.specs.declared.program.Variable.{Variable}
use Rattle.cat_tree.specs.declared.program.Variable.TheVariants as variable
use Rattle.cat_tree.specs.declared.program.Item.{Item}
use Rattle.cat_tree.specs.declared.program.Item.TheVariants as item
use Rattle.cat_scope.specs.Names.{AllHave}
use Rattle.cat_names.proofs.ListLaws.{all_left, all_right}
use Rattle.cat_names.specs.declared.fault.Fault.TheVariants.{NameUnknown}
use Rattle.cat_names.specs.Found.{Found, or_fault, each_found}
use Rattle.cat_names.specs.Lookup.{TypeNames, type_written, type_found, first_named}
use Rattle.cat_names.specs.Written.{structures_in, enumerations_in, scopes_in}
use Rattle.cat_names.specs.Declarations.{field_declared, structure_declared, content_declared, case_declared}
use Rattle.cat_names.specs.Declarations.{enumeration_declared, variable_type, variable_item, called_item_of}
use Rattle.cat_names.specs.Declarations.{item_declared, scope_declared}
use Rattle.cat_names.specs.Heights.{variable_types, types_written}
use Rattle.cat_names.proofs.OkParts.{then_ok, both_ok}

-- ---- lists

pub all_flat : {A B : Type 0} (Q : B → Type 0) (f : A → List B) (xs : List A) → AllHave Q (flat_map f xs)
    → AllHave (λ x. AllHave Q (f x)) xs
all_flat Q f [] all = tt
all_flat Q f (x ∷ xs) all =
    (all_left Q (f x) (flat_map f xs) all, all_flat Q f xs (all_right Q (f x) (flat_map f xs) all))

all_map : {A B : Type 0} (Q : B → Type 0) (f : A → B) (xs : List A) → AllHave Q (map f xs) → AllHave (λ x. Q (f x)) xs
all_map Q f [] all = tt
all_map Q f (x ∷ xs) all = (all.0, all_map Q f xs all.1)

-- what each of some things gives keeps what holds of the thing
pub each_on : {A B : Type 0} (f : A → Found B) (P : A → Type 0) (R : B → Type 0)
    → ((x : A) (y : B) → f x ≡ Ok y → P x → R y) → (xs : List A) (ys : List B) → each_found f xs ≡ Ok ys → AllHave P xs
    → AllHave R ys
each_on f P R on [] ys h all = let is : [] ≡ ys = cc h in subst (AllHave R) is tt
each_on f P R on (x ∷ xs) ys h all = let found = both_ok (f x) (each_found f xs) _ ys h in
    let is : found.0 ∷ found.1 ≡ ys = cc found.4 in
    subst (AllHave R) is (on x found.0 found.2 all.0, each_on f P R on xs found.1 found.3 all.1)

pub as_many : {A B : Type 0} (f : A → Found B) (xs : List A) (ys : List B) → each_found f xs ≡ Ok ys
    → length ys ≡ length xs
as_many f [] ys h = let is : [] ≡ ys = cc h in ap length (sym is)
as_many f (x ∷ xs) ys h = let found = both_ok (f x) (each_found f xs) _ ys h in
    let is : found.0 ∷ found.1 ≡ ys = cc found.4 in
    omega (arith, as_many f xs found.1 found.3, ap length is)

-- ---- what is written, by declarations

pub structures_written : (Q : written.Type → Type 0) (items : List Item) → AllHave Q (flat_map types_written items)
    → AllHave (λ s. AllHave (λ f. Q f.ty) s.1) (structures_in items)
structures_written Q [] all = tt
structures_written Q (item.Structure p u fields ∷ more) all =
    let here = map (λ f. f.ty) fields in let rest = flat_map types_written more in
    (all_map Q (λ f. f.ty) fields (all_left Q here rest all), structures_written Q more (all_right Q here rest all))
structures_written Q (item.Enumeration p u cases ∷ more) all =
    structures_written Q more (all_right Q (types_written (item.Enumeration p u cases)) _ all)
structures_written Q (item.Scope p u variables ∷ more) all =
    structures_written Q more (all_right Q (types_written (item.Scope p u variables)) _ all)
structures_written Q (item.Block b ∷ more) all = structures_written Q more all

pub enumerations_written : (Q : written.Type → Type 0) (items : List Item) → AllHave Q (flat_map types_written items)
    → AllHave (λ e. AllHave (λ c. AllHave Q (option_to_list c.content)) e.1) (enumerations_in items)
enumerations_written Q [] all = tt
enumerations_written Q (item.Structure p u fields ∷ more) all =
    enumerations_written Q more (all_right Q (types_written (item.Structure p u fields)) _ all)
enumerations_written Q (item.Enumeration p u cases ∷ more) all =
    let here = types_written (item.Enumeration p u cases) in let rest = flat_map types_written more in (
      all_flat Q (λ c. option_to_list c.content) cases (all_left Q here rest all),
      enumerations_written Q more (all_right Q here rest all),
    )
enumerations_written Q (item.Scope p u variables ∷ more) all =
    enumerations_written Q more (all_right Q (types_written (item.Scope p u variables)) _ all)
enumerations_written Q (item.Block b ∷ more) all = enumerations_written Q more all

pub scopes_written : (Q : written.Type → Type 0) (items : List Item) → AllHave Q (flat_map types_written items)
    → AllHave (λ s. AllHave (λ v. AllHave Q (variable_types v)) s.1) (scopes_in items)
scopes_written Q [] all = tt
scopes_written Q (item.Structure p u fields ∷ more) all =
    scopes_written Q more (all_right Q (types_written (item.Structure p u fields)) _ all)
scopes_written Q (item.Enumeration p u cases ∷ more) all =
    scopes_written Q more (all_right Q (types_written (item.Enumeration p u cases)) _ all)
scopes_written Q (item.Scope p u variables ∷ more) all =
    let here = types_written (item.Scope p u variables) in let rest = flat_map types_written more in (
      all_flat Q variable_types variables (all_left Q here rest all),
      scopes_written Q more (all_right Q here rest all),
    )
scopes_written Q (item.Block b ∷ more) all = scopes_written Q more all

-- ---- what is declared

module _ (names : TypeNames) (G : Ty → Type 0) where
  -- a written type whose type has the property, where it has a type
  abbrev pub Holds : written.Type → Type 0
  Holds w = (t : Ty) → type_written names w ≡ Some t → G t

  type_on : (w : written.Type) (t : Ty) → type_found names w ≡ Ok t → Holds w → G t
  type_on w t h holds = by (type_written names w) refl h
    where
      by : (o : Option Ty) → type_written names w ≡ o → or_fault (NameUnknown w.pos) o ≡ Ok t → G t
      by None e g = cc g
      by (Some u) e g = let is : u ≡ t = cc g in subst G is (holds u e)

  field_on : (f : FieldItem) (g : Field) → field_declared names f ≡ Ok g → Holds f.ty → G g.ty
  field_on f g h holds = let found = then_ok (type_found names f.ty) _ g h in
      let is : record { name = f.name.text; ty = found.0 } ≡ g = cc found.2 in
      subst G (ap (λ (x : Field). x.ty) is) (type_on f.ty found.0 found.1 holds)

  structure_on : (s : Name × List FieldItem) (d : Structure) → structure_declared names s ≡ Ok d
      → AllHave (λ f. Holds f.ty) s.1 → AllHave (λ f. G f.ty) d.fields
  structure_on s d h all = let found = then_ok (each_found (field_declared names) s.1) _ d h in
      let is : record { name = s.0.text; fields = found.0 } ≡ d = cc found.2 in
      subst (AllHave (λ f. G f.ty)) (ap (λ (x : Structure). x.fields) is)
      (each_on (field_declared names) (λ f. Holds f.ty) (λ f. G f.ty) field_on s.1 found.0 found.1 all)

  pub structures_on : (xs : List (Name × List FieldItem)) (ds : List Structure)
      → each_found (structure_declared names) xs ≡ Ok ds → AllHave (λ s. AllHave (λ f. Holds f.ty) s.1) xs
      → AllHave (λ d. AllHave (λ f. G f.ty) d.fields) ds
  structures_on = each_on (structure_declared names) (λ s. AllHave (λ f. Holds f.ty) s.1)
      (λ d. AllHave (λ f. G f.ty) d.fields) structure_on

  abbrev pub ContentHas : Option Ty → Type 0
  ContentHas None = Unit {0}
  ContentHas (Some t) = G t

  content_on : (c : Option written.Type) (d : Option Ty) → content_declared names c ≡ Ok d
      → AllHave Holds (option_to_list c) → ContentHas d
  content_on None d h all = let is : None ≡ d = cc h in subst ContentHas is tt
  content_on (Some w) d h all = let found = then_ok (type_found names w) _ d h in
      let is : Some found.0 ≡ d = cc found.2 in subst ContentHas is (type_on w found.0 found.1 all.0)

  case_on : (c : CaseItem) (d : Case) → case_declared names c ≡ Ok d → AllHave Holds (option_to_list c.content)
      → ContentHas d.content
  case_on c d h all = let found = then_ok (content_declared names c.content) _ d h in
      let is : record { name = c.name.text; content = found.0 } ≡ d = cc found.2 in
      subst ContentHas (ap (λ (x : Case). x.content) is) (content_on c.content found.0 found.1 all)

  enumeration_on : (e : Name × List CaseItem) (d : Enumeration) → enumeration_declared names e ≡ Ok d
      → AllHave (λ c. AllHave Holds (option_to_list c.content)) e.1 → AllHave (λ c. ContentHas c.content) d.cases
  enumeration_on e d h all = let found = then_ok (each_found (case_declared names) e.1) _ d h in
      let is : record { name = e.0.text; cases = found.0 } ≡ d = cc found.2 in
      subst (AllHave (λ c. ContentHas c.content)) (ap (λ (x : Enumeration). x.cases) is)
      (each_on (case_declared names) (λ c. AllHave Holds (option_to_list c.content)) (λ c. ContentHas c.content) case_on
      e.1 found.0 found.1 all)

  pub enumerations_on : (xs : List (Name × List CaseItem)) (ds : List Enumeration)
      → each_found (enumeration_declared names) xs ≡ Ok ds
      → AllHave (λ e. AllHave (λ c. AllHave Holds (option_to_list c.content)) e.1) xs
      → AllHave (λ d. AllHave (λ c. ContentHas c.content) d.cases) ds
  enumerations_on = each_on (enumeration_declared names)
      (λ e. AllHave (λ c. AllHave Holds (option_to_list c.content)) e.1)
      (λ d. AllHave (λ c. ContentHas c.content) d.cases) enumeration_on

  -- an item whose type and parameters have the property
  pub record ItemHas (i : ItemDecl) : Type 0 where
    pub type : G i.ty
    pub params : AllHave G i.params

  module _ (on_boolean : G flat.Boolean) where
    variable_on : (t : Option written.Type) (u : Ty) → variable_type names t ≡ Ok u
        → AllHave Holds (option_to_list t) → G u
    variable_on None u h all = let is : flat.Boolean ≡ u = cc h in subst G is on_boolean
    variable_on (Some t) u h all = type_on t u h all.0

    item_on : (scopes : List (List ℕ)) (v : Variable) (i : ItemDecl) → item_declared names scopes v ≡ Ok i
        → AllHave Holds (variable_types v) → ItemHas i
    item_on scopes (variable.Own k p w t params) i h all =
        let found = both_ok (variable_type names t) (each_found (λ f. type_found names f.ty) params) _ i h in
        let is : variable_item k w t found.0 found.1 ≡ i = cc found.4 in
        let types = map (λ f. f.ty) params in
        subst ItemHas is (record {
          type = variable_on t found.0 found.2 (all_left Holds (option_to_list t) types all);
          params =
              each_on (λ f. type_found names f.ty) (λ f. Holds f.ty) G (λ f u e holds. type_on f.ty u e holds) params
              found.1 found.3
              (all_map Holds (λ f. f.ty) params (all_right Holds (option_to_list t) types all));
        })
    item_on scopes (variable.Called w u) i h all =
        let found = then_ok (or_fault (NameUnknown u.pos) (first_named (λ name. name) u.text scopes)) _ i h in
        let is : called_item_of w found.0.0 ≡ i = cc found.2 in
        subst ItemHas is (record { type = on_boolean; params = tt })

    scope_on : (scopes : List (List ℕ)) (s : Name × List Variable) (d : Scope) → scope_declared names scopes s ≡ Ok d
        → AllHave (λ v. AllHave Holds (variable_types v)) s.1 → AllHave ItemHas d.items
    scope_on scopes s d h all = let found = then_ok (each_found (item_declared names scopes) s.1) _ d h in
        let is : record { name = s.0.text; items = found.0 } ≡ d = cc found.2 in
        subst (AllHave ItemHas) (ap (λ (x : Scope). x.items) is)
        (each_on (item_declared names scopes) (λ v. AllHave Holds (variable_types v)) ItemHas (item_on scopes) s.1
        found.0 found.1 all)

    pub scopes_on : (scopes : List (List ℕ)) (xs : List (Name × List Variable)) (ds : List Scope)
        → each_found (scope_declared names scopes) xs ≡ Ok ds
        → AllHave (λ s. AllHave (λ v. AllHave Holds (variable_types v)) s.1) xs
        → AllHave (λ d. AllHave ItemHas d.items) ds
    scopes_on scopes = each_on (scope_declared names scopes) (λ s. AllHave (λ v. AllHave Holds (variable_types v)) s.1)
        (λ d. AllHave ItemHas d.items) (scope_on scopes)
