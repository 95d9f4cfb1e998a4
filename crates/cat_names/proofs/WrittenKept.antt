-- Each type that is written in a declaration is one that is declared, and so is no higher than types may be.
use Rattle.std.specs.Prelude.{is_none, flat_map, option_to_list}
use Rattle.std.proofs.Common.{◌≡◌, ℕ, List, [], ◌∷◌, map, Option, Some, None, Ok, sym, ap, ◌∙◌, subst}
use Rattle.cat_value.specs.declared.ty.Ty.{Ty}
use Rattle.cat_value.specs.declared.declaration.Field.{Field}
use Rattle.cat_value.specs.declared.declaration.Structure.{Structure}
use Rattle.cat_value.specs.declared.declaration.Case.{Case}
use Rattle.cat_value.specs.declared.declaration.Enumeration.{Enumeration}
use Rattle.cat_value.specs.declared.declaration.ItemDecl.{ItemDecl}
use Rattle.cat_value.specs.declared.declaration.Scope.{Scope}
use Rattle.cat_tree.specs.declared.name.Name.{Name}
use Rattle.cat_tree.specs.declared.name.Type as written
use Rattle.cat_tree.specs.declared.program.FieldItem.{FieldItem}
use Rattle.cat_tree.specs.declared.program.CaseItem.{CaseItem}
use Rattle.cat_tree.specs.declared.program.Variable.{Variable}
use Rattle.cat_tree.specs.declared.program.Variable.TheVariants as variable
use Rattle.cat_tree.specs.declared.program.Item.{Item}
use Rattle.cat_tree.specs.declared.program.Item.TheVariants as item
use Rattle.cat_scope.specs.Names.{AllHave}
use Rattle.cat_scope.proofs.Exported.{all_append}
use Rattle.cat_names.specs.declared.fault.Fault.TheVariants.{NameUnknown}
use Rattle.cat_names.specs.Found.{Found, or_fault, each_found}
use Rattle.cat_names.specs.Lookup.{TypeNames, type_written, type_found}
use Rattle.cat_names.specs.Written.{structures_in, enumerations_in, scopes_in}
use Rattle.cat_names.specs.Declarations.{field_declared, structure_declared, content_declared, case_declared}
use Rattle.cat_names.specs.Declarations.{enumeration_declared, variable_type, item_declared, scope_declared}
use Rattle.cat_names.specs.Declarations.{kind_declared}
use Rattle.cat_names.specs.Heights.{variable_types, types_written}
use Rattle.cat_names.proofs.OkParts.{then_ok, both_ok}

-- what each of some things gives holds back of the things
each_back : {A B : Type 0} (f : A → Found B) (P : A → Type 0) (G : B → Type 0)
    → ((x : A) (y : B) → f x ≡ Ok y → G y → P x) → (xs : List A) (ys : List B) → each_found f xs ≡ Ok ys → AllHave G ys
    → AllHave P xs
each_back f P G back [] ys h all = tt
each_back f P G back (x ∷ xs) ys h all = let found = both_ok (f x) (each_found f xs) _ ys h in
    let is : found.0 ∷ found.1 ≡ ys = cc found.4 in
    let held = subst (AllHave G) (sym is) all in
    (back x found.0 found.2 held.0, each_back f P G back xs found.1 found.3 held.1)

module _ (names : TypeNames) (Low : Ty → Type 0) where
  -- a written type that is low, where it is one
  abbrev pub IsLowWritten : written.Type → Type 0
  IsLowWritten t = (u : Ty) → type_written names t ≡ Some u → Low u

  type_back : (t : written.Type) (u : Ty) → type_found names t ≡ Ok u → Low u → IsLowWritten t
  type_back t u h low v is = by (type_written names t) h is
    where
      by : (o : Option Ty) → or_fault (NameUnknown t.pos) o ≡ Ok u → o ≡ Some v → Low v
      by None g e = cc e
      by (Some w) g e = let one : w ≡ u = cc g in let other : w ≡ v = cc e in subst Low (sym one ∙ other) low

  abbrev pub HasLowFields : Name × List FieldItem → Type 0
  HasLowFields s = AllHave (λ f. IsLowWritten f.ty) s.1

  field_back : (f : FieldItem) (g : Field) → field_declared names f ≡ Ok g → Low g.ty → IsLowWritten f.ty
  field_back f g h low = let found = then_ok (type_found names f.ty) _ g h in
      let is : record { name = f.name.text; ty = found.0 } ≡ g = cc found.2 in
      type_back f.ty found.0 found.1 (subst Low (sym (ap (λ (x : Field). x.ty) is)) low)

  structure_back : (s : Name × List FieldItem) (d : Structure) → structure_declared names s ≡ Ok d
      → AllHave (λ f. Low f.ty) d.fields → HasLowFields s
  structure_back s d h all = let found = then_ok (each_found (field_declared names) s.1) _ d h in
      let is : record { name = s.0.text; fields = found.0 } ≡ d = cc found.2 in
      each_back (field_declared names) (λ f. IsLowWritten f.ty) (λ f. Low f.ty) field_back s.1 found.0 found.1
      (subst (AllHave (λ f. Low f.ty)) (sym (ap (λ (x : Structure). x.fields) is)) all)

  pub structures_back : (xs : List (Name × List FieldItem)) (ds : List Structure)
      → each_found (structure_declared names) xs ≡ Ok ds → AllHave (λ d. AllHave (λ f. Low f.ty) d.fields) ds
      → AllHave HasLowFields xs
  structures_back = each_back (structure_declared names) HasLowFields (λ d. AllHave (λ f. Low f.ty) d.fields)
      structure_back

  abbrev pub IsLowContent : Option written.Type → Type 0
  IsLowContent c = AllHave IsLowWritten (option_to_list c)

  abbrev pub LowContent : Option Ty → Type 0
  LowContent None = Unit {0}
  LowContent (Some t) = Low t

  content_back : (c : Option written.Type) (d : Option Ty) → content_declared names c ≡ Ok d → LowContent d
      → IsLowContent c
  content_back None d h low = tt
  content_back (Some t) d h low = let found = then_ok (type_found names t) _ d h in
      let is : Some found.0 ≡ d = cc found.2 in
      (type_back t found.0 found.1 (subst LowContent (sym is) low), tt)

  abbrev pub HasLowCases : Name × List CaseItem → Type 0
  HasLowCases e = AllHave (λ c. IsLowContent c.content) e.1

  case_back : (c : CaseItem) (d : Case) → case_declared names c ≡ Ok d → LowContent d.content → IsLowContent c.content
  case_back c d h low = let found = then_ok (content_declared names c.content) _ d h in
      let is : record { name = c.name.text; content = found.0 } ≡ d = cc found.2 in
      content_back c.content found.0 found.1 (subst LowContent (sym (ap (λ (x : Case). x.content) is)) low)

  enumeration_back : (e : Name × List CaseItem) (d : Enumeration) → enumeration_declared names e ≡ Ok d
      → AllHave (λ c. LowContent c.content) d.cases → HasLowCases e
  enumeration_back e d h all = let found = then_ok (each_found (case_declared names) e.1) _ d h in
      let is : record { name = e.0.text; cases = found.0 } ≡ d = cc found.2 in
      each_back (case_declared names) (λ c. IsLowContent c.content) (λ c. LowContent c.content) case_back e.1 found.0
      found.1
      (subst (AllHave (λ c. LowContent c.content)) (sym (ap (λ (x : Enumeration). x.cases) is)) all)

  pub enumerations_back : (xs : List (Name × List CaseItem)) (ds : List Enumeration)
      → each_found (enumeration_declared names) xs ≡ Ok ds → AllHave (λ d. AllHave (λ c. LowContent c.content) d.cases)
      ds
      → AllHave HasLowCases xs
  enumerations_back = each_back (enumeration_declared names) HasLowCases
      (λ d. AllHave (λ c. LowContent c.content) d.cases) enumeration_back

  -- an item whose type and parameters are low
  pub record LowItem (i : ItemDecl) : Type 0 where
    pub type : Low i.ty
    pub params : AllHave Low i.params

  abbrev pub IsLowVariable : Variable → Type 0
  IsLowVariable v = AllHave IsLowWritten (variable_types v)

  variable_back : (t : Option written.Type) (u : Ty) → variable_type names t ≡ Ok u → Low u
      → AllHave IsLowWritten (option_to_list t)
  variable_back None u h low = tt
  variable_back (Some t) u h low = (type_back t u h low, tt)

  params_map : (fs : List FieldItem) → AllHave (λ f. IsLowWritten f.ty) fs → AllHave IsLowWritten (map (λ f. f.ty) fs)
  params_map [] all = tt
  params_map (f ∷ fs) all = (all.0, params_map fs all.1)

  item_back : (scopes : List (List ℕ)) (v : Variable) (i : ItemDecl) → item_declared names scopes v ≡ Ok i → LowItem i
      → IsLowVariable v
  item_back scopes (variable.Own k p w t params) i h low =
      let found = both_ok (variable_type names t) (each_found (λ f. type_found names f.ty) params) _ i h in
      let is : record {
        name = w.text;
        pos = w.pos;
        kind = kind_declared k;
        ty = found.0;
        condition = is_none t;
        params = found.1;
      } ≡ i = cc found.4 in
      all_append IsLowWritten (option_to_list t) (map (λ f. f.ty) params)
      (variable_back t found.0 found.2 (subst Low (sym (ap (λ (x : ItemDecl). x.ty) is)) low.type))
      (params_map params (each_back (λ f. type_found names f.ty) (λ f. IsLowWritten f.ty) Low
      (λ f u e l. type_back f.ty u e l) params found.1 found.3
      (subst (AllHave Low) (sym (ap (λ (x : ItemDecl). x.params) is)) low.params)))
  item_back scopes (variable.Called w u) i h low = tt

  abbrev pub HasLowVariables : Name × List Variable → Type 0
  HasLowVariables s = AllHave IsLowVariable s.1

  scope_back : (scopes : List (List ℕ)) (s : Name × List Variable) (d : Scope) → scope_declared names scopes s ≡ Ok d
      → AllHave LowItem d.items → HasLowVariables s
  scope_back scopes s d h all = let found = then_ok (each_found (item_declared names scopes) s.1) _ d h in
      let is : record { name = s.0.text; items = found.0 } ≡ d = cc found.2 in
      each_back (item_declared names scopes) IsLowVariable LowItem (item_back scopes) s.1 found.0 found.1
      (subst (AllHave LowItem) (sym (ap (λ (x : Scope). x.items) is)) all)

  pub scopes_back : (scopes : List (List ℕ)) (xs : List (Name × List Variable)) (ds : List Scope)
      → each_found (scope_declared names scopes) xs ≡ Ok ds → AllHave (λ d. AllHave LowItem d.items) ds
      → AllHave HasLowVariables xs
  scopes_back scopes = each_back (scope_declared names scopes) HasLowVariables (λ d. AllHave LowItem d.items)
      (scope_back scopes)

  -- the types that are written in a tree
  cases_all : (cs : List CaseItem) → AllHave (λ c. IsLowContent c.content) cs
      → AllHave IsLowWritten (flat_map (λ c. option_to_list c.content) cs)
  cases_all [] all = tt
  cases_all (c ∷ cs) all = all_append IsLowWritten (option_to_list c.content) _ all.0 (cases_all cs all.1)

  variables_all : (vs : List Variable) → AllHave IsLowVariable vs → AllHave IsLowWritten (flat_map variable_types vs)
  variables_all [] all = tt
  variables_all (v ∷ vs) all = all_append IsLowWritten (variable_types v) _ all.0 (variables_all vs all.1)

  pub all_written : (items : List Item) → AllHave HasLowFields (structures_in items)
      → AllHave HasLowCases (enumerations_in items)
      → AllHave HasLowVariables (scopes_in items) → AllHave IsLowWritten (flat_map types_written items)
  all_written [] s e v = tt
  all_written (item.Structure p u fields ∷ more) s e v =
      all_append IsLowWritten (map (λ f. f.ty) fields) _ (params_map fields s.0) (all_written more s.1 e v)
  all_written (item.Enumeration p u cases ∷ more) s e v =
      all_append IsLowWritten (flat_map (λ c. option_to_list c.content) cases) _ (cases_all cases e.0)
      (all_written more s e.1 v)
  all_written (item.Scope p u variables ∷ more) s e v =
      all_append IsLowWritten (flat_map variable_types variables) _ (variables_all variables v.0)
      (all_written more s e v.1)
  all_written (item.Block b ∷ more) s e v = all_written more s e v
