-- What loops begin with, collect and leave behind.
use Rattle.std.specs.Prelude.{◌≡◌, ℕ, List, [], ◌∷◌, length, Option, None}
use Rattle.std.specs.Option.{option_map}
use Rattle.cat_code.specs.declared.code.Tables.{Tables}
use Rattle.cat_code.specs.Forms.{Form}
use Rattle.cat_code.specs.Shapes as meant
use Rattle.cat_code.specs.Leads.{Flow, with, pop, elements_of, loop_ended}
use Rattle.cat_code.specs.Told.{collected_by, constant_form}
use Rattle.cat_verify_shapes.specs.declared.forms.Forms.{Forms}
use Rattle.cat_verify_shapes.specs.declared.shape.Shape.{Shape}
use Rattle.cat_verify_shapes.specs.declared.shape.LoopShape.{LoopShape}
use Rattle.cat_verify_shapes.specs.inside.Senses.{Senses, AreSenses}
use Rattle.cat_verify_shapes.specs.inside.Told.{shape_of}

-- a list was on top, and is gone: the type of its elements; or none was there
abbrev pub PopsList : Tables → Forms → Shape → Shape → Option ℕ → Type 0
PopsList tables forms before after n = (d : Senses) → AreSenses tables.decls forms d
    → (go : Form → meant.Shape → Flow)
    → pop (shape_of d before) (λ t s. elements_of t (λ u. go u s))
    ≡ with (option_map d.one n) (λ u. go u (shape_of d after))

-- the type of the elements of a constant that is a list
abbrev pub IsCollected : Tables → Forms → ℕ → Option ℕ → Type 0
IsCollected tables forms k n = (d : Senses) → AreSenses tables.decls forms d → (go : Form → Flow)
    → collected_by (constant_form tables k) go ≡ with (option_map d.one n) go

-- a shape in a loop more
abbrev pub with_loop : ℕ → ℕ → Option ℕ → Shape → Shape
with_loop p element collected s = record s {
  loops = record {
    begun = p;
    element = element;
    collected = collected;
    frames = length s.defaults;
    pending = length s.pending;
  } ∷ s.loops;
}

-- what a loop that collected leaves behind
abbrev pub Ends : Tables → Forms → Shape → Option ℕ → Shape → Type 0
Ends tables forms s collected after = (d : Senses) → AreSenses tables.decls forms d
    → shape_of d after ≡ loop_ended (option_map d.one collected) (shape_of d s)

-- what the innermost loop collects
abbrev pub collected_in : List LoopShape → Option ℕ
collected_in [] = None
collected_in (l ∷ ls) = l.collected
