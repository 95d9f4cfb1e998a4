use Rattle.cat_value.proofs.Examples.{pair_and_choice_are_sound}
use Rattle.cat_value.proofs.tests.sample.Goals as goal

pub from_parts-requires : goal.from_parts-requires
from_parts-requires c =
    rw (
      c.in_ok-push-3.ensures.ok,
      c.new-structures.ensures,
      c.in_ok-push-2.ensures.ok,
      c.in_ok-push.ensures.ok,
      c.new-fields.ensures,
      c.in_ok-new.ensures,
    )
    (rw (
      c.in_ok-push-6.ensures.ok,
      c.new-enumerations.ensures,
      c.in_ok-push-5.ensures.ok,
      c.in_ok-push-4.ensures.ok,
      c.new-cases.ensures,
      c.in_ok-new-2.ensures,
      c.new-3.ensures,
    )
    (pair_and_choice_are_sound _ _ _ _ _ _))
