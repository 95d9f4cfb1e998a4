-- Shapes that are alike, and what two of them have in common; types are numbers.
use Rattle.std.specs.Prelude.{◌≡◌, ◌&&◌, true, List, length}
use Rattle.cat_code.specs.Shapes.{AreFewer, AllMeet}
use Rattle.cat_verify_shapes.specs.declared.shape.Shape.{Shape}
use Rattle.cat_verify_shapes.specs.declared.shape.FrameShape.{FrameShape}
use Rattle.cat_verify_shapes.specs.declared.shape.PendingShape.{PendingShape}
use Rattle.cat_verify_shapes.specs.inside.Zipped.{zipped, both}

-- frames that began at one place and hold one type
abbrev pub AreAlikeFrames : List FrameShape → List FrameShape → Type 0
AreAlikeFrames = AllMeet (λ f g. (f.begun ≡ g.begun) × (f.holds ≡ g.holds))

-- pending frames of the same scopes
abbrev pub AreAlikePending : List PendingShape → List PendingShape → Type 0
AreAlikePending = AllMeet (λ p q. (p.scope ≡ q.scope) × (length p.passed ≡ length q.passed))

-- shapes that differ at most in what is known of them
pub record AreAlike (left right : Shape) : Type 0 where
  pub owner : left.owner ≡ right.owner
  pub operands : left.operands ≡ right.operands
  pub locals : left.locals ≡ right.locals
  pub filled : length left.filled ≡ length right.filled
  pub defaults : AreAlikeFrames left.defaults right.defaults
  pub loops : left.loops ≡ right.loops
  pub pending : AreAlikePending left.pending right.pending

-- each frame that is checked in the first list is checked in the second one
abbrev pub AreChecked : List FrameShape → List FrameShape → Type 0
AreChecked = AllMeet (λ f g. f.checked ≡ true → g.checked ≡ true)

-- what is passed by the first list is passed by the second one
abbrev pub ArePassed : List PendingShape → List PendingShape → Type 0
ArePassed = AllMeet (λ p q. AreFewer p.passed q.passed)

-- no fewer filled slots, passed slots and checked frames
pub record HasNoFewer (left shape : Shape) : Type 0 where
  pub filled : AreFewer shape.filled left.filled
  pub defaults : AreChecked shape.defaults left.defaults
  pub pending : ArePassed shape.pending left.pending

abbrev pub common_frame : FrameShape → FrameShape → FrameShape
common_frame f g = record { begun = f.begun; holds = f.holds; checked = f.checked && g.checked }

abbrev pub common_pending : PendingShape → PendingShape → PendingShape
common_pending p q = record { scope = p.scope; passed = both p.passed q.passed }

-- what is known of both
abbrev pub common : Shape → Shape → Shape
common left right = record left {
  filled = both left.filled right.filled;
  defaults = zipped common_frame left.defaults right.defaults;
  pending = zipped common_pending left.pending right.pending;
}
