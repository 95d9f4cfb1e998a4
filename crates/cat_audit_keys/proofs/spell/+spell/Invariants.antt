use Rattle.std.proofs.Common.{◌≡◌, ◌+◌, ◌*◌, ◌++◌, max, drop}
use Rattle.cat_scope.specs.declared.expr.Expr.{size-Expr}
use Rattle.cat_scope.specs.declared.expr.Arm.{size-Arm}
use Rattle.cat_scope.specs.declared.expr.FieldValue.{size-FieldValue}
use denote.Param.Weighed.{most}
use Rattle.cat_audit_keys.specs.Standings.{standing}
use Rattle.cat_audit_keys.specs.inside.Fronts.{keys_of, body_keys, value_keys}
use Rattle.cat_audit_keys.proofs.spell.+spell.Given as goal

abbrev pub decreases-with_key : goal.decreases-with_key
decreases-with_key l = 4 * size-Expr l.expr.now

abbrev pub decreases-one : goal.decreases-one
decreases-one l = 4 * size-Expr l.part.now + 1

abbrev pub decreases-two : goal.decreases-two
decreases-two l = 4 * max (size-Expr l.left.now) (size-Expr l.right.now) + 1

abbrev pub decreases-three : goal.decreases-three
decreases-three l = 4 * max (size-Expr l.first.now) (max (size-Expr l.second.now) (size-Expr l.third.now)) + 1

abbrev pub decreases-each : goal.decreases-each
decreases-each l = 4 * most size-Expr l.parts.now + 2

abbrev pub decreases-with_all : goal.decreases-with_all
decreases-with_all l = 4 * most size-Expr l.parts.now + 1

abbrev pub decreases-with_values : goal.decreases-with_values
decreases-with_values l = 4 * most size-FieldValue l.fields.now + 1

abbrev pub decreases-with_bodies : goal.decreases-with_bodies
decreases-with_bodies l = 4 * most size-Arm l.arms.now + 1

abbrev pub decreases-matched : goal.decreases-matched
decreases-matched l = 4 * max (size-Expr l.of.now) (most size-Arm l.arms.now) + 2

abbrev pub decreases-with_fields : goal.decreases-with_fields
decreases-with_fields l = 4 * most size-FieldValue l.fields.now + 2

abbrev pub decreases-structure : goal.decreases-structure
decreases-structure l = 4 * most size-FieldValue l.fields.now + 3

abbrev pub decreases-call : goal.decreases-call
decreases-call l = 4 * most size-FieldValue l.fields.now + 3

abbrev pub invariant-with_all-loop-part : goal.invariant-with_all-loop-part
invariant-with_all-loop-part l =
    l.longer ++ keys_of (standing l.place.function l.place.params) (drop l.part-index l.parts)
    ≡ l.fn.key ++ keys_of (standing l.place.function l.place.params) l.parts

abbrev pub invariant-with_values-loop-field : goal.invariant-with_values-loop-field
invariant-with_values-loop-field l =
    l.longer ++ value_keys (standing l.place.function l.place.params) (drop l.field-index l.fields)
    ≡ l.fn.key ++ value_keys (standing l.place.function l.place.params) l.fields

abbrev pub invariant-with_bodies-loop-arm : goal.invariant-with_bodies-loop-arm
invariant-with_bodies-loop-arm l =
    l.longer ++ body_keys (standing l.place.function l.place.params) (drop l.arm-index l.arms)
    ≡ l.fn.key ++ body_keys (standing l.place.function l.place.params) l.arms
