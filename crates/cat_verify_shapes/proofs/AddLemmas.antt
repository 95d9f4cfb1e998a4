-- What is told of numbers, of entries that were put into a table.
use Rattle.std.proofs.Common.{◌≡◌, ℕ, zero, suc, ◌+◌, true, List, [], ◌∷◌, ◌++◌, length, drop, Some}
use Rattle.std.proofs.Common.{slice_get, refl, sym, ap, ◌∙◌, subst, arith}
use Rattle.std.specs.Prelude.{Result, Ok, Err, IfOk, OnOk}
use Rattle.cat_value.specs.declared.ty.Ty.{Ty}
use Rattle.cat_value.specs.declared.declaration.Field.{Field}
use Rattle.cat_value.specs.declared.declaration.ItemDecl.{ItemDecl}
use Rattle.cat_value.specs.declared.declaration.Scope.{Scope}
use Rattle.cat_value.specs.declared.decls.Decls.{Decls}
use Rattle.cat_value.specs.Inputs.{is_output, outputs_in}
use Rattle.cat_code.specs.Forms as code
use Rattle.cat_code.specs.Forms.{form_of, forms_in, items_forms}
use Rattle.cat_verify_shapes.specs.declared.forms.Form.{Form}
use Rattle.cat_verify_shapes.specs.declared.forms.Form.TheVariants as form
use Rattle.cat_verify_shapes.specs.declared.forms.Forms.{Forms}
use Rattle.cat_verify_shapes.specs.inside.Senses.{Stands, Grows, IsTable}
use Rattle.cat_verify_shapes.specs.inside.Growing.{Adds, AddsType, AddsOutput, StandsRow}
use Rattle.cat_verify_shapes.proofs.ListLemmas.{none_some, some_is}
use Rattle.cat_verify_shapes.proofs.PassLemmas.{grows_then, grows_same}
use Rattle.cat_verify_shapes.proofs.GrowLemmas.{stands_on, table_on, outputs_pushed}
use Rattle.cat_verify_shapes.proofs.LowLemmas.{outputs_here}
use Rattle.cat_verify_shapes.proofs.TypeForms.{Found, Stand}
use Rattle.cat_verify_shapes.proofs.TypeRows.{row_on, row_Last, row_More, fields_stand, fields_more, output_in}

module _ (ds : Decls) (before after : Forms) where
  -- an entry was put in, behind others maybe, that stands for a type
  pub adds_more : {E : Type 0} (between : Forms) (r : Result ℕ E) (f : Form) (t : code.Form) → Grows before between
      → IfOk r (Adds between after f) → (Found ds after r f → Stand ds after r t)
      → IfOk r (AddsType ds before after t)
  adds_more between (Ok n) f t grows adds stand =
      record { grows = grows_then before between after grows adds.grows; stands = stand adds.entry }
  adds_more between (Err e) f t grows adds stand = tt

  pub adds_fields : {E : Type 0} (between : Forms) (r : Result ℕ E) (m : ℕ) (ts : code.Forms) → Grows before between
      → StandsRow ds between m ts → IfOk r (Adds between after (form.Fields m))
      → IfOk r (AddsType ds before after (code.Fields ts))
  adds_fields between (Ok n) m ts grows row adds = record {
    grows = grows_then before between after grows adds.grows;
    stands = fields_stand ds after n m ts adds.entry (row_on ds between after m ts adds.grows row);
  }
  adds_fields between (Err e) m ts grows row adds = tt

-- a list of a type that was put in before
pub adds_list : {E : Type 0} (ds : Decls) (before between after : Forms) (r : Result ℕ E) (n : ℕ) (u : Ty)
    (t : code.Form) → AddsType ds before between (form_of ds u) n → IfOk r (Adds between after (form.Many n))
    → (Stands ds after n (form_of ds u) → Found ds after r (form.Many n) → Stand ds after r t)
    → IfOk r (AddsType ds before after t)
adds_list ds before between after (Ok m) n u t one adds stand = record {
  grows = grows_then before between after one.grows adds.grows;
  stands = stand (stands_on ds between after n (form_of ds u) adds.grows one.stands) adds.entry;
}
adds_list ds before between after (Err e) n u t one adds stand = tt

-- a number that stands there already
pub adds_none : {E : Type 0} (ds : Decls) (forms : Forms) (r : Result ℕ E) (t : code.Form) → Stand ds forms r t
    → IfOk r (AddsType ds forms forms t)
adds_none ds forms (Ok n) t stands = record { grows = grows_same forms; stands = stands }
adds_none ds forms (Err e) t stands = tt

-- ---- rows

pub drop_all : {A : Type 0} (xs : List A) → drop (length xs) xs ≡ []
drop_all [] = refl
drop_all (x ∷ xs) = drop_all xs

-- the row of no fields, and of no items
pub fields_none : (ds : Decls) (forms : Forms) (fields : List Field) (n : ℕ)
    → slice_get forms.kinds.keys n ≡ Some form.Last
    → StandsRow ds forms n (forms_in (form_of ds) (drop (length fields) fields))
fields_none ds forms fields n at =
    subst (λ (fs : List Field). StandsRow ds forms n (forms_in (form_of ds) fs)) (sym (drop_all fields))
    (row_Last ds forms n at)

pub items_none : (ds : Decls) (forms : Forms) (items : List ItemDecl) (n : ℕ)
    → slice_get forms.kinds.keys n ≡ Some form.Last
    → StandsRow ds forms n (items_forms ds (outputs_in (drop (length items) items)))
items_none ds forms items n at =
    subst (λ (is : List ItemDecl). StandsRow ds forms n (items_forms ds (outputs_in is))) (sym (drop_all items))
    (row_Last ds forms n at)

-- a field's type was put in front of those behind it
pub fields_next : (ds : Decls) (before between after : Forms) (fields : List Field) (left k n row l : ℕ) (f : Field)
    → left ≡ k + 1 → slice_get fields k ≡ Some f
    → StandsRow ds before row (forms_in (form_of ds) (drop left fields))
    → AddsType ds before between (form_of ds f.ty) n → Adds between after (form.More n row) l
    → StandsRow ds after l (forms_in (form_of ds) (drop k fields))
fields_next ds before between after fields left k n row l f next is stands one adds =
    subst (StandsRow ds after l) (fields_more ds fields k f is)
    (row_More ds after n row l (form_of ds f.ty) (forms_in (form_of ds) (drop (k + 1) fields)) adds.entry
    (stands_on ds between after n (form_of ds f.ty) adds.grows one.stands)
    (row_on ds before after row (forms_in (form_of ds) (drop (k + 1) fields))
    (grows_then before between after one.grows adds.grows)
    (subst (λ (m : ℕ). StandsRow ds before row (forms_in (form_of ds) (drop m fields))) next stands)))

pub adds_output : {E : Type 0} (ds : Decls) (before between after : Forms) (r : Result ℕ E) (item : ItemDecl)
    (row number : ℕ) → is_output item.kind ≡ true → AddsType ds before between (form_of ds item.ty) number
    → IfOk r (Adds between after (form.More number row)) → IfOk r (AddsOutput ds before after item row)
adds_output ds before between after (Ok n) item row number output one adds =
    output_in ds before after item row n number (grows_then before between after one.grows adds.grows) output
    (stands_on ds between after number (form_of ds item.ty) adds.grows one.stands) adds.entry
adds_output ds before between after (Err e) item row number output one adds = tt

-- the items from an index on are the one there and the others
pub drop_at : {A : Type 0} (xs : List A) (k : ℕ) (x : A) → slice_get xs k ≡ Some x
    → drop k xs ≡ x ∷ drop (k + 1) xs
drop_at {A} xs k x e = at xs k e ∙ ap (λ (n : ℕ). x ∷ drop n xs) (one_less k)
  where
    one_less : (k : ℕ) → suc k ≡ k + 1
    one_less k = omega arith

    at : (xs : List A) (k : ℕ) → slice_get xs k ≡ Some x → drop k xs ≡ x ∷ drop (suc k) xs
    at [] k e = absurd (none_some x e)
    at (y ∷ xs) zero e = ap (λ (z : A). z ∷ xs) (some_is y x e)
    at (y ∷ xs) (suc k) e = at xs k e

pub items_next : (ds : Decls) (before after : Forms) (items : List ItemDecl) (left k row n : ℕ) (item : ItemDecl)
    → left ≡ k + 1 → slice_get items k ≡ Some item
    → StandsRow ds before row (items_forms ds (outputs_in (drop left items)))
    → AddsOutput ds before after item row n → StandsRow ds after n (items_forms ds (outputs_in (drop k items)))
items_next ds before after items left k row n item next is stands adds =
    subst (λ (is : List ItemDecl). StandsRow ds after n (items_forms ds (outputs_in is)))
    (sym (drop_at items k item is))
    (adds.stands (drop (k + 1) items)
    (subst (λ (m : ℕ). StandsRow ds before row (items_forms ds (outputs_in (drop m items)))) next stands))

-- ---- scopes

long_more : {A : Type 0} (xs : List A) (x : A) → length (xs ++ x ∷ []) ≡ length xs + 1
long_more [] x = refl
long_more (y ∷ xs) x = omega (arith, long_more xs x)

-- a scope's outputs were added behind those of the scopes in front of it
pub scope_added : {E : Type 0} (ds : Decls) (before between grown : Forms) (r : Result (Unit {0}) E) (scope : Scope)
    (items : List ItemDecl) (n : ℕ) (outputs : List ℕ) → IsTable ds before
    → slice_get ds.scopes (length before.outputs) ≡ Some scope → items ≡ scope.items → Grows before between
    → AddsType ds between grown (code.Fields (items_forms ds (outputs_in items))) n
    → OnOk r (outputs ≡ grown.outputs ++ n ∷ [])
    → OnOk r (IsTable ds (record grown { outputs = outputs }) × (length outputs ≡ length before.outputs + 1))
scope_added ds before between grown (Err e) scope items n outputs table here same grows adds more = tt
scope_added ds before between grown (Ok u) scope items n outputs table here same grows adds more = (
  outputs_pushed ds grown n (items_forms ds (outputs_in items)) outputs (table_on ds before grown all table) adds.stands
      (ap (λ (os : List ℕ). code.outputs_form ds (length os)) all.outputs
      ∙ outputs_here ds (length before.outputs) scope here
      ∙ ap (λ (is : List ItemDecl). code.Fields (items_forms ds (outputs_in is))) (sym same))
      more,
  ap length more ∙ long_more grown.outputs n ∙ ap (λ (os : List ℕ). length os + 1) all.outputs,
)
  where
    all : Grows before grown
    all = grows_then before between grown grows adds.grows
