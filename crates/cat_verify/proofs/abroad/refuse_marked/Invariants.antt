use Rattle.std.proofs.Common.{◌<◌, ℕ}
use Rattle.cat_verify.specs.inside.Abroad.{IsAbroad}
use Rattle.cat_verify.proofs.abroad.refuse_marked.Given as goal

-- none of the instructions passed so far calls a function of another scope
abbrev pub invariant-loop-at : goal.invariant-loop-at
invariant-loop-at l = (k : ℕ) → k < l.at → IsAbroad l.functions l.code l.marks k → ⊥
