-- What is taken off shapes.
use Rattle.std.specs.Prelude.{◌≡◌, ◌⊎◌, ℕ, ◌-◌, nat_eq, ◌&&◌, Bool, true, false, List, [], ◌∷◌, ◌++◌, length, map}
use Rattle.std.specs.Prelude.{Option, Some}
use Rattle.std.specs.Prelude.{None, slice_get}
use Rattle.cat_value.specs.declared.ty.Ty.{Ty}
use Rattle.cat_value.specs.declared.decls.Decls.{Decls}
use Rattle.cat_code.specs.declared.code.TargetEntry.{TargetEntry}
use Rattle.cat_code.specs.declared.code.Tables.{Tables}
use Rattle.cat_code.specs.Forms.{Form, form_of}
use Rattle.cat_code.specs.Places.{target_form}
use Rattle.cat_verify_shapes.specs.declared.forms.Forms.{Forms}
use Rattle.cat_verify_shapes.specs.inside.Senses.{Senses, AreSenses}
use Rattle.cat_verify_shapes.specs.declared.shape.Shape.{Shape}
use Rattle.cat_verify_shapes.specs.declared.shape.FrameShape.{FrameShape}
use Rattle.cat_verify_shapes.specs.declared.shape.LoopShape.{LoopShape}

-- a type was on top, and is gone; or another one was there, or none
abbrev pub Takes : Shape → Shape → ℕ → Bool → Type 0
Takes before after n true = before ≡ record after { operands = n ∷ after.operands }
Takes before after n false =
    (before.operands ≡ []) ⊎ ((m : ℕ) × (ms : List ℕ) × (before.operands ≡ m ∷ ms) × (nat_eq m n ≡ false))

-- these types were on top, the first one topmost, and are gone; or they were not
abbrev pub TakesAll : Shape → Shape → List ℕ → Bool → Type 0
TakesAll before after ns true = before ≡ record after { operands = ns ++ after.operands }
TakesAll before after ns false = (below : List ℕ) → before.operands ≡ ns ++ below → ⊥

-- how many frames stood where the innermost loop began
abbrev pub frames_below : List LoopShape → ℕ
frames_below [] = 0
frames_below (l ∷ ls) = l.frames

abbrev pub pending_below : List LoopShape → ℕ
pending_below [] = 0
pending_below (l ∷ ls) = l.pending

-- how many default frames were made inside the innermost loop
abbrev pub own_frames : Shape → ℕ
own_frames s = length s.defaults - frames_below s.loops

-- how many pending frames
abbrev pub own_pending : Shape → ℕ
own_pending s = length s.pending - pending_below s.loops

-- the type of the values of a target, where there is such a target
abbrev pub entry_form : Decls → Option TargetEntry → Option Form
entry_form ds None = None
entry_form ds (Some entry) = target_form ds entry.target

abbrev pub target_at : Tables → ℕ → Option Form
target_at tables v = entry_form tables.decls (slice_get tables.targets v)

-- numbers stand for declared types, one by one
abbrev pub StandFor : Decls → Forms → List ℕ → List Ty → Type 0
StandFor ds forms ns tys = (d : Senses) → AreSenses ds forms d → map d.one ns ≡ map (form_of ds) tys

-- a shape with a default frame more, where it is told whether that was checked
abbrev pub with_frame : FrameShape → Bool → Shape → Shape
with_frame f checked s = record s {
  defaults = record { begun = f.begun; holds = f.holds; checked = checked } ∷ s.defaults;
}

-- whether nothing is open
abbrev pub is_bare : Shape → Bool
is_bare s = nat_eq (length s.operands) 0 && nat_eq (length s.defaults) 0 && nat_eq (length s.loops) 0
    && nat_eq (length s.pending) 0
