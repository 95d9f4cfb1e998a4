use Rattle.std.proofs.Common.{◌<◌, ℕ}
use Rattle.cat_verify.specs.inside.OwnerNumbers.{IsSharedMark}
use Rattle.cat_verify.proofs.owners.refuse_shared.Given as goal

-- none of the instructions passed so far belongs to several
abbrev pub invariant-loop-at : goal.invariant-loop-at
invariant-loop-at l = (k : ℕ) → k < l.at → IsSharedMark l.marks k → ⊥
