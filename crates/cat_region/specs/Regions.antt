-- Regions as the narrowings that were made, and which valuations they admit.
use Rattle.std.specs.Prelude.{◌≡◌, ◌<◌, ℕ, nat_le, Bool, true, false, ◌&&◌, IsTrue, Option, Some, None, List, []}
use Rattle.std.specs.Prelude.{◌∷◌, ◌++◌, length, slice_get, ◌⊎◌, ◌==◌, if◌then◌else◌}
use Rattle.std.specs.List.{list_all}
use Rattle.std.proofs.Math.Bool.{beq}
use Rattle.cat_region.specs.declared.dim.Dim.{Dim}
use Rattle.cat_region.specs.declared.dim.Dim.TheVariants as dim
use Rattle.cat_region.specs.declared.cut.Cut.{Cut}
use Rattle.cat_region.specs.declared.point.Point.{Point}
use Rattle.cat_region.specs.declared.narrowing.Narrowing.{Narrowing}
use Rattle.cat_region.specs.Points.{is_point, is_cut, answer}

-- what contracts see of a region: its dimensions, the narrowings made in it, the oldest first, and for how many more it
-- has room
pub record Constraints : Type 0 where
  pub dims : List Dim
  pub narrowings : List Narrowing
  pub room : ℕ

-- a cut of dimension i with its answer
abbrev pub narrowed_to : ℕ → Cut → Bool → Narrowing
narrowed_to i c b = record { dim = i; cut = c; yes = b }

-- a region with one narrowing more
abbrev pub with_narrowing : Constraints → Narrowing → Constraints
with_narrowing region n =
    record { dims = region.dims; narrowings = region.narrowings ++ n ∷ []; room = region.room }

-- whether a dimension is one that regions have: of at most 128 cases
abbrev pub is_dim : Dim → Bool
is_dim (dim.Cases n) = nat_le n 128
is_dim d = true

-- whether a cut is of the kind of dimension i
abbrev pub is_cut_of : Option Dim → Cut → Bool
is_cut_of None c = false
is_cut_of (Some d) c = is_cut d c

-- a cut of the dimension of that number
abbrev pub is_cut_at : List Dim → ℕ → Cut → Bool
is_cut_at dims i c = is_cut_of (slice_get dims i) c

-- what holds of every region
pub record IsRegion (region : Constraints) : Type 0 where
  pub dims : IsTrue (list_all is_dim region.dims)
  pub narrowings : IsTrue (list_all (λ n. is_cut_at region.dims n.dim n.cut) region.narrowings)

-- a value for each dimension, by its number
abbrev pub Valuation : Type 0
Valuation = ℕ → Point

-- whether a value is one of dimension i
abbrev pub is_point_of : Option Dim → Point → Bool
is_point_of None x = false
is_point_of (Some d) x = is_point d x

-- a value of the dimension of that number
abbrev pub is_point_at : List Dim → ℕ → Point → Bool
is_point_at dims i x = is_point_of (slice_get dims i) x

-- each dimension has one of its values
abbrev pub IsValuation : List Dim → Valuation → Type 0
IsValuation dims v = (i : ℕ) → i < length dims → IsTrue (is_point_at dims i (v i))

-- whether a value of its dimension agrees with a narrowing
abbrev pub agrees : Point → Narrowing → Bool
agrees x n = beq (answer n.cut x) n.yes

-- a region admits the valuations that agree with each of its narrowings
pub record Admits (region : Constraints) (v : Valuation) : Type 0 where
  pub valuation : IsValuation region.dims v
  pub agreeing : IsTrue (list_all (λ n. agrees (v n.dim) n) region.narrowings)

-- no valuation is admitted
abbrev pub IsEmpty : Constraints → Type 0
IsEmpty region = (v : Valuation) → ¬ Admits region v

-- some valuation is admitted
abbrev pub IsInhabited : Constraints → Type 0
IsInhabited region = ∥ ((v : Valuation) × Admits region v) ∥₁

-- some admitted valuation has the answer b
abbrev pub Occurs : Constraints → ℕ → Cut → Bool → Type 0
Occurs region i c b = ∥ ((v : Valuation) × Admits region v × (answer c (v i) ≡ b)) ∥₁

-- each admitted valuation has the answer b
abbrev pub AreAll : Constraints → ℕ → Cut → Bool → Type 0
AreAll region i c b = (v : Valuation) → Admits region v → answer c (v i) ≡ b

-- b is decided of a cut of dimension i: something is admitted, and all of it has the answer b. None is decided where
-- nothing is admitted, or both answers occur
abbrev pub IsDecision : Constraints → ℕ → Cut → Option Bool → Type 0
IsDecision region i c (Some b) = IsInhabited region × AreAll region i c b
IsDecision region i c None = IsEmpty region ⊎ (Occurs region i c true × Occurs region i c false)

-- whether a value of dimension i agrees with each narrowing of that dimension
abbrev pub all_agree : ℕ → Point → List Narrowing → Bool
all_agree i x [] = true
all_agree i x (n ∷ ns) = (if n.dim == i then agrees x n else true) && all_agree i x ns

-- whether a value is admitted in dimension i
abbrev pub is_admitted : Constraints → ℕ → Point → Bool
is_admitted region i x = is_point_at region.dims i x && all_agree i x region.narrowings

-- the last narrowing, by its parts
abbrev pub last_narrowing : List Narrowing → Option (ℕ × Cut × Bool)
last_narrowing [] = None
last_narrowing (n ∷ []) = Some (n.dim, n.cut, n.yes)
last_narrowing (n ∷ m ∷ ns) = last_narrowing (m ∷ ns)
