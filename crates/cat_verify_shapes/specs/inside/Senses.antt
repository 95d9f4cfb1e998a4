-- What the numbers of types stand for. A table tells it of its own numbers alone, and says no more than that of others:
-- so what holds of all that they may stand for holds still when the table has grown.
use Rattle.std.specs.Prelude.{◌≡◌, ◌≤◌, ℕ, nat_eq, List, ◌++◌, Option, Some, slice_get}
use Rattle.std.specs.Option.{option_map}
use Rattle.cat_value.specs.declared.ty.Ty.{Ty}
use Rattle.cat_value.specs.declared.ty.Ty.TheVariants as ty
use Rattle.cat_value.specs.declared.decls.Decls.{Decls}
use Rattle.cat_value.specs.Declarations.{highest}
use Rattle.cat_value.specs.Heights.{height_to}
use Rattle.cat_code.specs.Forms as code
use Rattle.cat_verify_shapes.specs.declared.forms.Form.{Form}
use Rattle.cat_verify_shapes.specs.declared.forms.Form.TheVariants as form
use Rattle.cat_verify_shapes.specs.declared.forms.Forms.{Forms}
use Rattle.cat_verify_shapes.specs.inside.FormKinds.{Kind, AreKinds, StandsFor}

-- a type for each number, and types in a row
pub record Senses : Type 0 where
  pub one : ℕ → code.Form
  pub row : ℕ → code.Forms

-- the type for which types in a row stand, since each number stands for one: no list and no structure
abbrev pub IsOther : code.Form → Type 0
IsOther t = (n : ℕ) × (t ≡ code.OneOf n)

-- a number stands for what an entry is, whose parts are numbers
abbrev pub Means : Senses → ℕ → Form → Type 0
Means d n form.Truth = d.one n ≡ code.Truth
Means d n form.Whole = d.one n ≡ code.Whole
Means d n form.Fraction = d.one n ≡ code.Fraction
Means d n form.Amount = d.one n ≡ code.Amount
Means d n form.Day = d.one n ≡ code.Day
Means d n form.Span = d.one n ≡ code.Span
Means d n (form.Many m) = d.one n ≡ code.Many (d.one m)
Means d n (form.Fields r) = d.one n ≡ code.Fields (d.row r)
Means d n (form.OneOf e) = d.one n ≡ code.OneOf e
Means d n form.Last = (d.row n ≡ code.Last) × IsOther (d.one n)
Means d n (form.More m r) = (d.row n ≡ code.More (d.one m) (d.row r)) × IsOther (d.one n)

-- what numbers may stand for: two never for one type, and each of the table for its entry
pub record AreSenses (ds : Decls) (forms : Forms) (d : Senses) : Type 0 where
  pub apart : (n m : ℕ) → code.same_form (d.one n) (d.one m) ≡ nat_eq n m
  pub means : (n : ℕ) (f : Form) → slice_get forms.kinds.keys n ≡ Some f → Means d n f
  pub structures : (s n : ℕ) → slice_get forms.structures s ≡ Some (Some n) → d.one n ≡ code.form_of ds (ty.Structure s)
  pub outputs : (s n : ℕ) → slice_get forms.outputs s ≡ Some n → d.one n ≡ code.outputs_form ds s

-- a type that is no higher than types may be
abbrev pub IsLow : Decls → Ty → Type 0
IsLow ds t = height_to ds.structures ds.enumerations highest t ≤ highest

-- a number stands for a type
abbrev pub Stands : Decls → Forms → ℕ → code.Form → Type 0
Stands ds forms n t = (d : Senses) → AreSenses ds forms d → d.one n ≡ t

-- the same of a number and a type that may be missing
abbrev pub StandsIn : Decls → Forms → Option ℕ → Option code.Form → Type 0
StandsIn ds forms n t = (d : Senses) → AreSenses ds forms d → option_map d.one n ≡ t

-- a table has what it had, and maybe more
pub record Grows (before after : Forms) : Type 0 where
  pub kinds : (n : ℕ) (f : Form) → slice_get before.kinds.keys n ≡ Some f → slice_get after.kinds.keys n ≡ Some f
  pub table : (ks : List Kind) → AreKinds before.kinds.keys ks
      → (more : List Kind) × AreKinds after.kinds.keys (ks ++ more)
  pub structures : after.structures ≡ before.structures
  pub outputs : after.outputs ≡ before.outputs

-- the entries of a table stand for types, among them those of structures and of the outputs of scopes
pub record AreTable (ds : Decls) (forms : Forms) (ks : List Kind) : Type 0 where
  pub kinds : AreKinds forms.kinds.keys ks
  pub structures : (s n : ℕ) → slice_get forms.structures s ≡ Some (Some n)
      → StandsFor ks n (code.form_of ds (ty.Structure s))
  pub outputs : (s n : ℕ) → slice_get forms.outputs s ≡ Some n → StandsFor ks n (code.outputs_form ds s)

abbrev pub IsTable : Decls → Forms → Type 0
IsTable ds forms = (ks : List Kind) × AreTable ds forms ks
