use Rattle.std.proofs.Common.{◌≡◌, ◌+◌, ◌*◌, max, drop, map}
use denote.Param.Weighed.{most}
use Rattle.cat_calc.specs.declared.term.DefaultTerm.{size-DefaultTerm}
use Rattle.cat_lower.specs.declared.growing.Growing.{Growing}
use Rattle.cat_lower.specs.Grown.{Grown}
use Rattle.cat_lower.specs.Laying.{all_code}
use Rattle.cat_lower.specs.Terms.{term_code}
use Rattle.cat_lower.specs.Told.{term_standing}
use Rattle.cat_lower.proofs.terms.+term.Given as goal

abbrev pub decreases-emit_term : goal.decreases-emit_term
decreases-emit_term l = 8 * size-DefaultTerm l.term.now

abbrev pub decreases-emit_default : goal.decreases-emit_default
decreases-emit_default l = 8 * max (most size-DefaultTerm l.exceptions.now) (size-DefaultTerm l.consequence.now) + 6

abbrev pub decreases-emit_justified : goal.decreases-emit_justified
decreases-emit_justified l = 8 * size-DefaultTerm l.consequence.now + 3

abbrev pub decreases-emit_where : goal.decreases-emit_where
decreases-emit_where l = 8 * size-DefaultTerm l.consequence.now + 2

abbrev pub decreases-emit_checked : goal.decreases-emit_checked
decreases-emit_checked l = 8 * size-DefaultTerm l.consequence.now + 1

abbrev pub decreases-emit_framed : goal.decreases-emit_framed
decreases-emit_framed l = 8 * max (most size-DefaultTerm l.exceptions.now) (size-DefaultTerm l.consequence.now) + 5

abbrev pub decreases-emit_exceptions : goal.decreases-emit_exceptions
decreases-emit_exceptions l = 8 * most size-DefaultTerm l.exceptions.now + 1

abbrev pub decreases-emit_otherwise : goal.decreases-emit_otherwise
decreases-emit_otherwise l = 8 * size-DefaultTerm l.consequence.now + 4

abbrev pub invariant-emit_exceptions-loop-exception : goal.invariant-emit_exceptions-loop-exception
invariant-emit_exceptions-loop-exception l = record {
  grown : (new : Growing)
      → Grown l.growing new (all_code
      (map (term_code (term_standing l.here l.aim l.fn.locals)) (drop l.exception-index l.exceptions)))
      → Grown l.fn.growing new (all_code (map (term_code (term_standing l.here l.aim l.fn.locals)) l.exceptions));
  kept : l.locals ≡ l.fn.locals;
}
