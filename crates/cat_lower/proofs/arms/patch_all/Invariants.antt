use Rattle.std.proofs.Common.{◌≡◌, ◌<◌, All, length}
use Rattle.cat_lower.specs.Grown.{all_patched}
use Rattle.cat_lower.proofs.arms.patch_all.Given as goal

abbrev pub invariant-loop-at : goal.invariant-loop-at
invariant-loop-at l = record {
  within : All (λ at. at < length l.growing.instructions) l.places;
  whole : all_patched l.places l.instr l.growing ≡ all_patched l.fn.places l.instr l.fn.growing;
}

abbrev pub decreases-loop-at : goal.decreases-loop-at
decreases-loop-at l = length l.places
