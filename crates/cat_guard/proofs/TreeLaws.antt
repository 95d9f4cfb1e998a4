-- Closed trees cover what is admitted.
use Rattle.std.proofs.Common.{◌≡◌, ℕ, Bool, true, false, List, [], ◌∷◌, ◌++◌, Option, Some, None, refl, ap}
use Rattle.std.proofs.Common.{slice_get}
use Rattle.std.proofs.Math.Bool.{beq}
use Rattle.cat_region.specs.declared.dim.Dim.{Dim}
use Rattle.cat_region.specs.Points.{answer}
use Rattle.cat_region.specs.Regions.{Constraints, Valuation, IsValuation, Admits, IsEmpty}
use Rattle.cat_region.proofs.Exported.{Admits-with_narrowing, admits_alike}
use Rattle.cat_guard.specs.declared.table.Atom.{Atom}
use Rattle.cat_guard.specs.declared.table.TableTarget.{TableTarget}
use Rattle.cat_guard.specs.declared.tree.TreeNode.{TreeNode}
use Rattle.cat_guard.specs.declared.tree.CitedTree.{CitedTree}
use Rattle.cat_guard.specs.TableJudging.{Covers}
use Rattle.cat_guard.specs.Trees.{Tree, with_answer, answering, Closed, AreClosed, IsCitedClosed}
use Rattle.cat_guard.specs.Trees as tree
use Rattle.cat_guard.specs.Valuations.{holds_at}

-- a valuation is admitted on one of the two sides of an atom
module _ (region : Constraints) (v : Valuation) where
  abbrev On : Option Atom → Bool → Type 0
  On o b = Admits (with_answer region o b) v

  -- the answer of an atom at the valuation, or true where there is no atom
  abbrev pub side : Option Atom → Bool
  side None = true
  side (Some atom) = answer atom.cut (v atom.term)

  same : (b : Bool) → beq b b ≡ true
  same true = refl
  same false = refl

  pub on_side : (o : Option Atom) → Admits region v → On o (side o)
  on_side None admits = admits
  on_side (Some atom) admits =
      (Admits-with_narrowing region
      (record { dim = atom.term; cut = atom.cut; yes = answer atom.cut (v atom.term) }) v).1
      (admits, same (answer atom.cut (v atom.term)))

  pub from_side : (o : Option Atom) (b : Bool) → On o b → Admits region v
  from_side None b admits = admits
  from_side (Some atom) b admits =
      ((Admits-with_narrowing region (record { dim = atom.term; cut = atom.cut; yes = b }) v).0 admits).0

pub empty_closed : (atoms : List Atom) (t : TableTarget) (region : Constraints) (tree : Tree) → IsEmpty region
    → Closed atoms t region tree
empty_closed atoms t region tree.Leaf empty = λ v admits. absurd (empty v admits)
empty_closed atoms t region tree.Rest empty = empty
empty_closed atoms t region (tree.Split a left right) empty = (
  empty_closed atoms t (answering atoms region a true) left
      (λ v admits. empty v (from_side region v (slice_get atoms a) true admits)),
  empty_closed atoms t (answering atoms region a false) right
      (λ v admits. empty v (from_side region v (slice_get atoms a) false admits)),
)

pub closed_covers : (atoms : List Atom) (t : TableTarget) (region : Constraints) (tree : Tree) (v : Valuation)
    → Closed atoms t region tree → Admits region v → Covers t (holds_at atoms v)
closed_covers atoms t region tree.Leaf v closed admits = closed v admits
closed_covers atoms t region tree.Rest v closed admits = absurd (closed v admits)
closed_covers atoms t region (tree.Split a left right) v closed admits =
    by (side region v (slice_get atoms a)) (on_side region v (slice_get atoms a) admits)
    (closed_covers atoms t (answering atoms region a true) left v closed.0)
    (closed_covers atoms t (answering atoms region a false) right v closed.1)
  where
    by : (b : Bool) → Admits (with_answer region (slice_get atoms a) b) v
        → (Admits (answering atoms region a true) v → Covers t (holds_at atoms v))
        → (Admits (answering atoms region a false) v → Covers t (holds_at atoms v)) → Covers t (holds_at atoms v)
    by true on one other = one on
    by false on one other = other on

-- the same answer keeps regions alike
pub answered_dims : (region other : Constraints) (o : Option Atom) (b : Bool) → region.dims ≡ other.dims
    → (with_answer region o b).dims ≡ (with_answer other o b).dims
answered_dims region other None b dims = dims
answered_dims region other (Some atom) b dims = dims

pub answered_narrowings : (region other : Constraints) (o : Option Atom) (b : Bool)
    → region.narrowings ≡ other.narrowings
    → (with_answer region o b).narrowings ≡ (with_answer other o b).narrowings
answered_narrowings region other None b narrowings = narrowings
answered_narrowings region other (Some atom) b narrowings =
    ap (λ ns. ns ++ record { dim = atom.term; cut = atom.cut; yes = b } ∷ []) narrowings

pub closed_alike : (atoms : List Atom) (t : TableTarget) (region other : Constraints) (tree : Tree)
    → region.dims ≡ other.dims → region.narrowings ≡ other.narrowings → Closed atoms t region tree
    → Closed atoms t other tree
closed_alike atoms t region other tree.Leaf dims narrowings closed =
    λ v admits. closed v (admits_alike region other v dims narrowings admits)
closed_alike atoms t region other tree.Rest dims narrowings closed =
    λ v admits. closed v (admits_alike region other v dims narrowings admits)
closed_alike atoms t region other (tree.Split a left right) dims narrowings closed = (
  closed_alike atoms t (answering atoms region a true) (answering atoms other a true) left
      (answered_dims region other (slice_get atoms a) true dims)
      (answered_narrowings region other (slice_get atoms a) true narrowings) closed.0,
  closed_alike atoms t (answering atoms region a false) (answering atoms other a false) right
      (answered_dims region other (slice_get atoms a) false dims)
      (answered_narrowings region other (slice_get atoms a) false narrowings) closed.1,
)

pub nodes_cover : (atoms : List Atom) (t : TableTarget) (region : Constraints) (nodes : List TreeNode) (v : Valuation)
    → AreClosed atoms t region nodes → Admits region v → Covers t (holds_at atoms v)
nodes_cover atoms t region nodes v closed admits = closed_covers atoms t region closed.0 v closed.2 admits

pub cited_cover : (atoms : List Atom) (t : TableTarget) (region : Constraints) (cited : CitedTree) (v : Valuation)
    → IsCitedClosed atoms t region cited → Admits region v → Covers t (holds_at atoms v)
cited_cover atoms t region cited v closed admits = closed_covers atoms t region closed.0 v closed.2 admits

-- what is admitted before any narrowing
pub all_admitted : (dims : List Dim) (room : ℕ) (v : Valuation) → IsValuation dims v
    → Admits (record { dims = dims; narrowings = []; room = room }) v
all_admitted dims room v is = record { valuation = is; agreeing = refl }
