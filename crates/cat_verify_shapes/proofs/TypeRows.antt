-- Numbers that stand for types in a row, as fields and outputs are added.
use Rattle.std.proofs.Common.{◌≡◌, ℕ, zero, suc, ◌+◌, Bool, true, List, [], ◌∷◌, drop, if◌then◌else◌}
use Rattle.std.proofs.Common.{Some, slice_get}
use Rattle.std.proofs.Common.{sym, ap, ◌∙◌, subst, arith}
use Rattle.cat_value.specs.declared.declaration.Field.{Field}
use Rattle.cat_value.specs.declared.declaration.ItemDecl.{ItemDecl}
use Rattle.cat_value.specs.declared.decls.Decls.{Decls}
use Rattle.cat_value.specs.Inputs.{is_output, outputs_in}
use Rattle.cat_code.specs.Forms as code
use Rattle.cat_code.specs.Forms.{form_of, forms_in, items_forms}
use Rattle.cat_verify_shapes.specs.declared.forms.Form.TheVariants as form
use Rattle.cat_verify_shapes.specs.declared.forms.Forms.{Forms}
use Rattle.cat_verify_shapes.specs.inside.Senses.{Stands, Grows}
use Rattle.cat_verify_shapes.specs.inside.Growing.{StandsRow, AddsOutput}
use Rattle.cat_verify_shapes.proofs.ListLemmas.{none_some, some_is}
use Rattle.cat_verify_shapes.proofs.PassLemmas.{senses_before}

pub row_on : (ds : Decls) (before after : Forms) (n : ℕ) (ts : code.Forms) → Grows before after
    → StandsRow ds before n ts → StandsRow ds after n ts
row_on ds before after n ts grows stands d h = stands d (senses_before ds before after d grows h)

pub row_Last : (ds : Decls) (forms : Forms) (n : ℕ) → slice_get forms.kinds.keys n ≡ Some form.Last
    → StandsRow ds forms n code.Last
row_Last ds forms n at d h = (h.means n form.Last at).0

pub row_More : (ds : Decls) (forms : Forms) (n m l : ℕ) (t : code.Form) (ts : code.Forms)
    → slice_get forms.kinds.keys l ≡ Some (form.More n m) → Stands ds forms n t → StandsRow ds forms m ts
    → StandsRow ds forms l (code.More t ts)
row_More ds forms n m l t ts at one row d h =
    (h.means l (form.More n m) at).0
    ∙ ap (λ (u : code.Form). code.More u (d.row m)) (one d h) ∙ ap (code.More t) (row d h)

pub fields_stand : (ds : Decls) (forms : Forms) (n m : ℕ) (ts : code.Forms)
    → slice_get forms.kinds.keys n ≡ Some (form.Fields m) → StandsRow ds forms m ts → Stands ds forms n (code.Fields ts)
fields_stand ds forms n m ts at row d h = h.means n (form.Fields m) at ∙ ap code.Fields (row d h)

-- ---- fields and outputs in a row

pub fields_more : (ds : Decls) (fields : List Field) (k : ℕ) (f : Field) → slice_get fields k ≡ Some f
    → code.More (form_of ds f.ty) (forms_in (form_of ds) (drop (k + 1) fields))
    ≡ forms_in (form_of ds) (drop k fields)
fields_more ds fields k f is =
    ap (λ (n : ℕ). code.More (form_of ds f.ty) (forms_in (form_of ds) (drop n fields))) (one_more k) ∙ at fields k is
  where
    one_more : (k : ℕ) → k + 1 ≡ suc k
    one_more k = omega arith

    at : (fields : List Field) (k : ℕ) → slice_get fields k ≡ Some f
        → code.More (form_of ds f.ty) (forms_in (form_of ds) (drop (suc k) fields))
        ≡ forms_in (form_of ds) (drop k fields)
    at [] k is = absurd (none_some f is)
    at (g ∷ fields) zero is =
        ap (λ (x : Field). code.More (form_of ds x.ty) (forms_in (form_of ds) fields)) (sym (some_is g f is))
    at (g ∷ fields) (suc k) is = at fields k is

pub output_in : (ds : Decls) (before after : Forms) (item : ItemDecl) (row n number : ℕ) → Grows before after
    → is_output item.kind ≡ true → Stands ds after number (form_of ds item.ty)
    → slice_get after.kinds.keys n ≡ Some (form.More number row) → AddsOutput ds before after item row n
output_in ds before after item row n number grows output stands at = record {
  grows = grows;
  stands = λ items rest.
      subst (StandsRow ds after n)
      (sym (ap (λ (b : Bool). items_forms ds (if b then item ∷ outputs_in items else outputs_in items)) output))
      (row_More ds after number row n (form_of ds item.ty) (items_forms ds (outputs_in items)) at stands
      (row_on ds before after row (items_forms ds (outputs_in items)) grows rest));
}
