use Rattle.std.proofs.Common.{◌≡◌, length}
use Rattle.cat_audit.specs.Findings.{least, derived_in}
use Rattle.cat_audit.specs.inside.Least.{lesser_of}
use Rattle.cat_audit.proofs.cause.least_derived.Given as goal

abbrev pub invariant-loop-number : goal.invariant-loop-number
invariant-loop-number l =
    lesser_of l.least (least (derived_in l.terms l.region.narrowings))
    ≡ least (derived_in l.terms l.fn.region.narrowings)

abbrev pub decreases-loop-number : goal.decreases-loop-number
decreases-loop-number l = length l.region.narrowings
