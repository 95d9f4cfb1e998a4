-- The types of declarations are low, one by one, and what those of structures and scopes are.
use Rattle.std.proofs.Common.{◌≡◌, ◌≤◌, ℕ, zero, suc, List, [], ◌∷◌, Option, Some, None, slice_get, refl, sym}
use Rattle.std.proofs.Common.{ap, ◌∙◌, arith}
use Rattle.std.specs.Prelude.{IfSome}
use Rattle.cat_value.specs.declared.ty.Ty.{Ty}
use Rattle.cat_value.specs.declared.ty.Ty.TheVariants as flat
use Rattle.cat_value.specs.declared.ty.Ty.TheViews as ty
use Rattle.cat_value.specs.declared.declaration.Structure.{Structure}
use Rattle.cat_value.specs.declared.declaration.Enumeration.{Enumeration}
use Rattle.cat_value.specs.declared.declaration.Field.{Field}
use Rattle.cat_value.specs.declared.declaration.Case.{Case}
use Rattle.cat_value.specs.declared.declaration.ItemDecl.{ItemDecl}
use Rattle.cat_value.specs.declared.declaration.Scope.{Scope}
use Rattle.cat_value.specs.declared.decls.Decls.{Decls}
use Rattle.cat_value.specs.Heights.{height_to, content_height, highest_content, highest_field}
use Rattle.cat_value.specs.Entries.{fields_in}
use Rattle.cat_value.specs.Inputs.{outputs_in}
use Rattle.cat_value.proofs.Exported.{level_cut, height_Structure, height_Enumeration, structure_low, enumeration_low}
use Rattle.cat_value.proofs.Exported.{within}
use Rattle.cat_scope.specs.Names.{AllHave, items_in, scope_items}
use Rattle.cat_code.specs.Forms as code
use Rattle.cat_code.specs.Forms.{form_of, forms_in, structure_form, items_forms, level}
use Rattle.cat_code.proofs.FormLaws.{form_is}
use Rattle.cat_verify_shapes.specs.inside.Senses.{IsLow}
use Rattle.cat_verify_shapes.proofs.DeclLemmas.{slot_low}

fields_below : (ds : Decls) (fs : List Field)
    → highest_field (height_to ds.structures ds.enumerations 63) fs ≤ 63 → AllHave (λ f. IsLow ds f.ty) fs
fields_below ds [] h = tt
fields_below ds (f ∷ fs) h = (
  omega (arith, h, level_cut ds.structures ds.enumerations 63 f.ty),
  fields_below ds fs (omega (arith, h)),
)

pub fields_low : (ds : Decls) (n : ℕ) (s : Structure) → slice_get ds.structures n ≡ Some s
    → AllHave (λ f. IsLow ds f.ty) s.fields
fields_low ds n s e =
    fields_below ds s.fields (omega (
      arith,
      structure_low ds n (within ds.structures n s e),
      height_Structure ds.structures ds.enumerations 63 n s e,
    ))

cases_below : (ds : Decls) (cs : List Case)
    → highest_content (height_to ds.structures ds.enumerations 63) cs ≤ 63
    → AllHave (λ c. IfSome c.content (IsLow ds)) cs
cases_below ds [] h = tt
cases_below ds (c ∷ cs) h = (one c.content (omega (arith, h)), cases_below ds cs (omega (arith, h)))
  where
    one : (o : Option Ty) → content_height (height_to ds.structures ds.enumerations 63) o ≤ 63 → IfSome o (IsLow ds)
    one None h = tt
    one (Some t) h = omega (arith, h, level_cut ds.structures ds.enumerations 63 t)

pub cases_low : (ds : Decls) (n : ℕ) (e : Enumeration) → slice_get ds.enumerations n ≡ Some e
    → AllHave (λ c. IfSome c.content (IsLow ds)) e.cases
cases_low ds n e at =
    cases_below ds e.cases (omega (
      arith,
      enumeration_low ds n (within ds.enumerations n e at),
      height_Enumeration ds.structures ds.enumerations 63 n e at,
    ))

-- a list has what each index has
all_from : {A : Type 0} (Has : A → Type 0) (xs : List A) → ((k : ℕ) (x : A) → slice_get xs k ≡ Some x → Has x)
    → AllHave Has xs
all_from Has [] h = tt
all_from Has (x ∷ xs) h = (h zero x refl, all_from Has xs (λ k y e. h (suc k) y e))

pub items_low : (ds : Decls) (n : ℕ) (scope : Scope) → slice_get ds.scopes n ≡ Some scope
    → AllHave (λ item. IsLow ds item.ty) scope.items
items_low ds n scope e =
    all_from (λ (item : ItemDecl). IsLow ds item.ty) scope.items
    (λ k item at. slot_low ds n k item (ap (λ (o : Option Scope). slice_get (items_in o) k) e ∙ at))

-- an item of a scope by its index
pub item_here : (ds : Decls) (n : ℕ) (scope : Scope) (items : List ItemDecl) (k : ℕ) (item : ItemDecl)
    → slice_get ds.scopes n ≡ Some scope → items ≡ scope.items → slice_get items k ≡ Some item
    → slice_get (scope_items ds n) k ≡ Some item
item_here ds n scope items k item e same at =
    ap (λ (o : Option Scope). slice_get (items_in o) k) e ∙ ap (λ (is : List ItemDecl). slice_get is k) (sym same) ∙ at

-- a structure's type is that of its fields in a row
pub form_Structure : (ds : Decls) (n : ℕ) (s : Structure) → slice_get ds.structures n ≡ Some s
    → form_of ds (flat.Structure n) ≡ code.Fields (forms_in (form_of ds) s.fields)
form_Structure ds n s e =
    form_is ds (flat.Structure n) (structure_low ds n (within ds.structures n s e))
    ∙ ap (level ds (form_of ds)) (ty.outs-Structure n)
    ∙ ap (λ (o : Option Structure). structure_form (form_of ds) (fields_in o)) e

-- what a scope gives is the structure of its outputs
pub outputs_here : (ds : Decls) (n : ℕ) (scope : Scope) → slice_get ds.scopes n ≡ Some scope
    → code.outputs_form ds n ≡ code.Fields (items_forms ds (outputs_in scope.items))
outputs_here ds n scope e =
    ap (λ (o : Option Scope). code.Fields (items_forms ds (outputs_in (items_in o)))) e
