-- Shapes whose types are numbers, and where an instruction leads from them.
use Rattle.std.specs.Prelude.{◌≡◌, ℕ, ◌+◌, List, [], ◌∷◌, map, Option, Some, None, Result, Ok, Err}
use Rattle.std.specs.Option.{option_map}
use Rattle.cat_code.specs.declared.code.Tables.{Tables}
use Rattle.cat_code.specs.Shapes as code
use Rattle.cat_code.specs.Leads.{Flow}
use Rattle.cat_verify_shapes.specs.declared.forms.Forms.{Forms}
use Rattle.cat_verify_shapes.specs.declared.shape.Shape.{Shape}
use Rattle.cat_verify_shapes.specs.declared.shape.FrameShape.{FrameShape}
use Rattle.cat_verify_shapes.specs.declared.shape.LoopShape.{LoopShape}
use Rattle.cat_verify_shapes.specs.declared.shape.PendingShape.{PendingShape}
use Rattle.cat_verify_shapes.specs.declared.leads.Leads.{Leads}
use Rattle.cat_verify_shapes.specs.declared.leads.Leads.TheVariants as leads
use Rattle.cat_verify_shapes.specs.declared.leads.Stuck.{Stuck}
use Rattle.cat_verify_shapes.specs.declared.leads.Stuck.TheVariants as stuck
use Rattle.cat_verify_shapes.specs.Owned.{owner_of}
use Rattle.cat_verify_shapes.specs.inside.Senses.{Senses, AreSenses}

abbrev pub frame_of : Senses → FrameShape → code.FrameShape
frame_of d f = record { begun = f.begun; holds = d.one f.holds; checked = f.checked }

abbrev pub loop_of : Senses → LoopShape → code.LoopShape
loop_of d l = record {
  begun = l.begun;
  element = d.one l.element;
  collected = option_map d.one l.collected;
  frames = l.frames;
  pending = l.pending;
}

abbrev pub pending_of : PendingShape → code.PendingShape
pending_of p = record { scope = p.scope; passed = p.passed }

-- a shape by what its numbers stand for
abbrev pub shape_of : Senses → Shape → code.Shape
shape_of d s = record {
  owner = owner_of s.owner;
  operands = map d.one s.operands;
  locals = map d.one s.locals;
  filled = s.filled;
  defaults = map (frame_of d) s.defaults;
  loops = map (loop_of d) s.loops;
  pending = map pending_of s.pending;
}

-- the places with their shapes
abbrev pub leads_of : Senses → Leads → List (ℕ × code.Shape)
leads_of d leads.Nowhere = []
leads_of d (leads.One p s) = (p, shape_of d s) ∷ []
leads_of d (leads.Two p s q t) = (p, shape_of d s) ∷ (q, shape_of d t) ∷ []

-- a flow leads to these places, whatever numbers stand for, or lacks what it works on
abbrev pub Comes : Tables → Forms → Result Leads Stuck → (Senses → Flow) → Type 0
Comes tables forms (Ok to) flow = (d : Senses) → AreSenses tables.decls forms d → flow d ≡ Some (leads_of d to)
Comes tables forms (Err stuck.Bad) flow = (d : Senses) → AreSenses tables.decls forms d → flow d ≡ None
Comes tables forms (Err stuck.Memory) flow = Unit {0}

-- the same of a flow from a shape
abbrev pub Tells : Tables → Forms → Result Leads Stuck → (code.Shape → Flow) → Shape → Type 0
Tells tables forms result flow s = Comes tables forms result (λ d. flow (shape_of d s))

-- a type is pushed, where there is one
abbrev pub GivesOne : ℕ → Shape → Option ℕ → Result Leads Stuck → Type 0
GivesOne p s n (Ok to) = (m : ℕ) × (n ≡ Some m) × (to ≡ leads.One (p + 1) (record s { operands = m ∷ s.operands }))
GivesOne p s n (Err stuck.Bad) = n ≡ None
GivesOne p s n (Err stuck.Memory) = Unit {0}
