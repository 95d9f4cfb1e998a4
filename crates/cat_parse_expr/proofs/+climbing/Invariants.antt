use Rattle.std.proofs.Common.{◌≤◌, ◌+◌, ◌*◌, ◌-◌, length}
use Rattle.cat_parse_expr.specs.Arms as arms
use Rattle.cat_parse_expr.specs.Parts as parts
use Rattle.cat_parse_expr.specs.Climbing.{operand}
use Rattle.cat_parse_expr.proofs.Common.{goes_on, step}
use Rattle.cat_parse_expr.proofs.Turns.{Stands}
use Rattle.cat_parse_expr.proofs.+climbing.Given as goal

abbrev pub decreases-climbing::operand : goal.decreases-climbing::operand
decreases-climbing::operand l = 8 * l.room

abbrev pub decreases-climbing::primary : goal.decreases-climbing::primary
decreases-climbing::primary l = 8 * l.limits.below + 7

abbrev pub decreases-climbing::climb : goal.decreases-climbing::climb
decreases-climbing::climb l = 8 * l.limits.below + 7

abbrev pub decreases-steps::step : goal.decreases-steps::step
decreases-steps::step l = 8 * l.limits.below + 6

abbrev pub decreases-steps::operated : goal.decreases-steps::operated
decreases-steps::operated l = 8 * l.limits.below + 4

abbrev pub decreases-steps::beside : goal.decreases-steps::beside
decreases-steps::beside l = 8 * l.limits.below + 3

abbrev pub decreases-cases::name : goal.decreases-cases::name
decreases-cases::name l = 8 * l.limits.below + 6

abbrev pub decreases-cases::called : goal.decreases-cases::called
decreases-cases::called l = 8 * l.below + 5

abbrev pub decreases-cases::case : goal.decreases-cases::case
decreases-cases::case l = 8 * l.limits.below + 6

abbrev pub decreases-cases::dotted : goal.decreases-cases::dotted
decreases-cases::dotted l = 8 * l.limits.below + 5

abbrev pub decreases-cases::case_content : goal.decreases-cases::case_content
decreases-cases::case_content l = 8 * l.limits.below + 4

abbrev pub decreases-cases::content : goal.decreases-cases::content
decreases-cases::content l = 8 * l.limits.below + 3

abbrev pub decreases-cases::structure : goal.decreases-cases::structure
decreases-cases::structure l = 8 * l.below + 5

abbrev pub decreases-listed::arguments : goal.decreases-listed::arguments
decreases-listed::arguments l = 8 * l.below + 4

abbrev pub decreases-listed::next_arguments : goal.decreases-listed::next_arguments
decreases-listed::next_arguments l = 8 * l.below + 3

abbrev pub decreases-listed::next_argument : goal.decreases-listed::next_argument
decreases-listed::next_argument l = 8 * l.below + 2

abbrev pub decreases-listed::behind_comma : goal.decreases-listed::behind_comma
decreases-listed::behind_comma l = 8 * l.below + 1

abbrev pub decreases-listed::inner : goal.decreases-listed::inner
decreases-listed::inner l = 8 * l.below + 1

abbrev pub decreases-listed::elements : goal.decreases-listed::elements
decreases-listed::elements l = 8 * l.below + 4

abbrev pub decreases-listed::next_elements : goal.decreases-listed::next_elements
decreases-listed::next_elements l = 8 * l.below + 3

abbrev pub decreases-listed::next_element : goal.decreases-listed::next_element
decreases-listed::next_element l = 8 * l.below + 2

abbrev pub decreases-listed::fields : goal.decreases-listed::fields
decreases-listed::fields l = 8 * l.below + 4

abbrev pub decreases-listed::next_field : goal.decreases-listed::next_field
decreases-listed::next_field l = 8 * l.below + 3

abbrev pub decreases-brackets::parens : goal.decreases-brackets::parens
decreases-brackets::parens l = 8 * l.below + 6

abbrev pub decreases-brackets::list : goal.decreases-brackets::list
decreases-brackets::list l = 8 * l.below + 6

abbrev pub decreases-brackets::scope_call : goal.decreases-brackets::scope_call
decreases-brackets::scope_call l = 8 * l.below + 6

abbrev pub decreases-prefixes::prefixed : goal.decreases-prefixes::prefixed
decreases-prefixes::prefixed l = 8 * l.limits.below + 6

abbrev pub decreases-prefixes::sum : goal.decreases-prefixes::sum
decreases-prefixes::sum l = 8 * l.limits.below + 6

abbrev pub decreases-forms::choice : goal.decreases-forms::choice
decreases-forms::choice l = 8 * l.limits.below + 6

abbrev pub decreases-forms::among : goal.decreases-forms::among
decreases-forms::among l = 8 * l.below + 2

abbrev pub decreases-forms::over_each : goal.decreases-forms::over_each
decreases-forms::over_each l = 8 * l.limits.below + 6

abbrev pub decreases-forms::initially : goal.decreases-forms::initially
decreases-forms::initially l = 8 * l.below + 2

abbrev pub decreases-forms::combined : goal.decreases-forms::combined
decreases-forms::combined l = 8 * l.limits.below + 6

abbrev pub decreases-matches::matched : goal.decreases-matches::matched
decreases-matches::matched l = 8 * l.limits.below + 6

abbrev pub decreases-matches::arms : goal.decreases-matches::arms
decreases-matches::arms l = 8 * l.limits.below + 5

abbrev pub decreases-matches::further_arms : goal.decreases-matches::further_arms
decreases-matches::further_arms l = 8 * l.limits.below + 4

abbrev pub decreases-matches::further_arm : goal.decreases-matches::further_arm
decreases-matches::further_arm l = 8 * l.limits.below + 3

abbrev pub decreases-matches::next_arm : goal.decreases-matches::next_arm
decreases-matches::next_arm l = 8 * l.limits.below + 2

abbrev pub invariant-climbing::climb-loop-alloc : goal.invariant-climbing::climb-loop-alloc
invariant-climbing::climb-loop-alloc l = record {
  stands : Stands (goes_on l.limits.behind l.limits.level)
      (step (operand l.limits.below) l.limits.below l.limits.behind) l.fn.first l.tokens l.at l.place l.left;
  low : l.left.height ≤ l.limits.below + 1;
}

abbrev pub decreases-climbing::climb-loop-alloc : goal.decreases-climbing::climb-loop-alloc
decreases-climbing::climb-loop-alloc l = length l.tokens - l.place

abbrev pub invariant-listed::next_elements-loop-alloc : goal.invariant-listed::next_elements-loop-alloc
invariant-listed::next_elements-loop-alloc l = record {
  stands : Stands (parts.has_element) (parts.next_element (operand l.below)) l.fn.first l.tokens l.at l.place l.found;
  low : l.found.tallest ≤ l.below;
}

abbrev pub decreases-listed::next_elements-loop-alloc : goal.decreases-listed::next_elements-loop-alloc
decreases-listed::next_elements-loop-alloc l = length l.tokens - l.place

abbrev pub invariant-listed::next_arguments-loop-alloc : goal.invariant-listed::next_arguments-loop-alloc
invariant-listed::next_arguments-loop-alloc l = record {
  stands : Stands (parts.has_argument) (parts.next_argument (operand l.below)) l.fn.first l.tokens l.at l.place l.found;
  low : l.found.tallest ≤ l.below;
}

abbrev pub decreases-listed::next_arguments-loop-alloc : goal.decreases-listed::next_arguments-loop-alloc
decreases-listed::next_arguments-loop-alloc l = length l.tokens - l.place

abbrev pub invariant-listed::fields-loop-alloc : goal.invariant-listed::fields-loop-alloc
invariant-listed::fields-loop-alloc l = record {
  stands : Stands (parts.has_field) (parts.next_field (operand l.below)) l.fn.first l.tokens l.at l.place l.found;
  low : l.found.tallest ≤ l.below;
}

abbrev pub decreases-listed::fields-loop-alloc : goal.decreases-listed::fields-loop-alloc
decreases-listed::fields-loop-alloc l = length l.tokens - l.place

abbrev pub invariant-matches::further_arms-loop-alloc : goal.invariant-matches::further_arms-loop-alloc
invariant-matches::further_arms-loop-alloc l = record {
  stands : Stands (arms.has_arm l.limits.behind) (arms.further_arm (operand l.limits.below) l.limits.behind)
      l.fn.first l.tokens l.at l.place
      l.found;
  low : l.found.tallest ≤ l.limits.below;
}

abbrev pub decreases-matches::further_arms-loop-alloc : goal.decreases-matches::further_arms-loop-alloc
decreases-matches::further_arms-loop-alloc l = length l.tokens - l.place
