-- What is added to a table of types.
use Rattle.std.specs.Prelude.{◌≡◌, ℕ, Bool, true, false, List, ◌∷◌, Some, slice_get}
use Rattle.cat_value.specs.declared.declaration.ItemDecl.{ItemDecl}
use Rattle.cat_value.specs.declared.decls.Decls.{Decls}
use Rattle.cat_value.specs.Inputs.{outputs_in}
use Rattle.cat_code.specs.Forms as code
use Rattle.cat_code.specs.Forms.{items_forms}
use Rattle.cat_verify_shapes.specs.declared.forms.Form.{Form}
use Rattle.cat_verify_shapes.specs.declared.forms.Form.TheVariants as form
use Rattle.cat_verify_shapes.specs.declared.forms.Forms.{Forms}
use Rattle.cat_verify_shapes.specs.inside.FormKinds.{Kind, One, Row, AreKinds, kind_of}
use Rattle.cat_verify_shapes.specs.inside.Senses.{Senses, AreSenses, Grows, Stands}

-- whether an entry stands for types in a row
abbrev pub is_row : Form → Bool
is_row form.Last = true
is_row (form.More n m) = true
is_row _ = false

-- a number stands for a type, or for types in a row
abbrev pub StandsAs : List Kind → ℕ → Bool → Type 0
StandsAs ks n false = (t : code.Form) × (slice_get ks n ≡ Some (One t))
StandsAs ks n true = (ts : code.Forms) × (slice_get ks n ≡ Some (Row ts))

abbrev pub IsNumber : Forms → ℕ → Bool → Type 0
IsNumber forms n row = (ks : List Kind) → AreKinds forms.kinds.keys ks → StandsAs ks n row

-- the parts of an entry are in the table
abbrev pub HasKind : Forms → Form → Type 0
HasKind forms f = (ks : List Kind) → AreKinds forms.kinds.keys ks → (k : Kind) × (kind_of ks f ≡ Some k)

-- a table has an entry more, or had it
pub record Adds (before after : Forms) (f : Form) (n : ℕ) : Type 0 where
  pub grows : Grows before after
  pub entry : slice_get after.kinds.keys n ≡ Some f

-- the number of a type is in the table
pub record AddsType (ds : Decls) (before after : Forms) (t : code.Form) (n : ℕ) : Type 0 where
  pub grows : Grows before after
  pub stands : Stands ds after n t

-- a number stands for types in a row
abbrev pub StandsRow : Decls → Forms → ℕ → code.Forms → Type 0
StandsRow ds forms n ts = (d : Senses) → AreSenses ds forms d → d.row n ≡ ts

-- the type of an output is put in front of a row, that of another item isn't
pub record AddsOutput (ds : Decls) (before after : Forms) (item : ItemDecl) (row n : ℕ) : Type 0 where
  pub grows : Grows before after
  pub stands : (items : List ItemDecl) → StandsRow ds before row (items_forms ds (outputs_in items))
      → StandsRow ds after n (items_forms ds (outputs_in (item ∷ items)))
