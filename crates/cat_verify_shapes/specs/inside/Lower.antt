-- Shapes of which less is known.
use Rattle.std.specs.Prelude.{◌≡◌, ℕ, Some, slice_get}
use Rattle.cat_code.specs.Shapes.{Shape, Meets}
use Rattle.cat_code.specs.Shaped.{Shapes}

-- each shape stays, and maybe less is known of it
abbrev pub Lower : Shapes → Shapes → Type 0
Lower a b = (p : ℕ) (s : Shape) → slice_get a p ≡ Some (Some s)
    → (t : Shape) × (slice_get b p ≡ Some (Some t)) × Meets s t
