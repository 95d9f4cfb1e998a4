-- What operands give that are popped together, and the types of cases.
use Rattle.std.specs.Prelude.{◌≡◌, ℕ, Option, Some, None, slice_get}
use Rattle.std.specs.Option.{option_map}
use Rattle.cat_value.specs.declared.ty.Ty.{Ty}
use Rattle.cat_value.specs.Entries.{content_of}
use Rattle.cat_code.specs.declared.code.CasePlace.{CasePlace}
use Rattle.cat_code.specs.declared.code.Tables.{Tables}
use Rattle.cat_code.specs.Forms as code
use Rattle.cat_code.specs.Shapes as shapes
use Rattle.cat_code.specs.Leads.{Flow, with, pop_all}
use Rattle.cat_verify_shapes.specs.declared.forms.Forms.{Forms}
use Rattle.cat_verify_shapes.specs.declared.forms.Form.TheVariants as form
use Rattle.cat_verify_shapes.specs.declared.making.CaseForm.{CaseForm}
use Rattle.cat_verify_shapes.specs.declared.shape.Shape.{Shape}
use Rattle.cat_verify_shapes.specs.inside.Senses.{Senses, AreSenses}
use Rattle.cat_verify_shapes.specs.inside.Told.{shape_of}

-- n operands were on top, and are gone: their types in a row; or there were too few
abbrev pub PopsRow : Tables → Forms → Shape → Shape → ℕ → Option ℕ → Type 0
PopsRow tables forms before after n row = (d : Senses) → AreSenses tables.decls forms d
    → (go : code.Forms → shapes.Shape → Flow)
    → pop_all n (shape_of d before) (λ ts s. go (code.in_row ts) s)
    ≡ with (option_map d.row row) (λ ts. go ts (shape_of d after))

-- a row is empty, or has a first type and others
abbrev pub IsParted : Forms → ℕ → Option (ℕ × ℕ) → Type 0
IsParted forms row None = slice_get forms.kinds.keys row ≡ Some form.Last
IsParted forms row (Some (first, others)) = slice_get forms.kinds.keys row ≡ Some (form.More first others)

-- the type at an index of a row
abbrev pub IsInRow : Tables → Forms → ℕ → ℕ → Option ℕ → Type 0
IsInRow tables forms row index form = (d : Senses) → AreSenses tables.decls forms d
    → code.form_at (d.row row) index ≡ option_map d.one form

-- the type of a case, and that of its content, where there is such a case
abbrev pub IsCaseOf : Tables → Forms → ℕ → Option CaseForm → Type 0
IsCaseOf tables forms k None = (go : CasePlace → Option Ty → Flow)
    → with (slice_get tables.cases k)
    (λ place. with (content_of tables.decls place.enumeration place.case) (λ content. go place content)) ≡ None
IsCaseOf tables forms k (Some c) = (place : CasePlace) × (content : Option Ty)
    × (slice_get tables.cases k ≡ Some place)
    × (content_of tables.decls place.enumeration place.case ≡ Some content)
    × ((d : Senses) → AreSenses tables.decls forms d → (d.one c.whole ≡ code.OneOf place.enumeration)
    × (option_map d.one c.content ≡ option_map (code.form_of tables.decls) content))
