use Rattle.std.proofs.Common.{◌≡◌, ◌++◌, drop}
use Rattle.cat_depend.specs.inside.Wanted.{in_each, in_fields, in_arms}
use Rattle.cat_depend.proofs.naming.+named.Given as goal

abbrev pub invariant-add_each-loop-part : goal.invariant-add_each-loop-part
invariant-add_each-loop-part l =
    l.numbers ++ in_each l.wanted (drop l.part-index l.parts) ≡ l.fn.numbers ++ in_each l.wanted l.parts

abbrev pub invariant-add_fields-loop-field : goal.invariant-add_fields-loop-field
invariant-add_fields-loop-field l =
    l.numbers ++ in_fields l.wanted (drop l.field-index l.fields) ≡ l.fn.numbers ++ in_fields l.wanted l.fields

abbrev pub invariant-add_arms-loop-arm : goal.invariant-add_arms-loop-arm
invariant-add_arms-loop-arm l =
    l.numbers ++ in_arms l.wanted (drop l.arm-index l.arms) ≡ l.fn.numbers ++ in_arms l.wanted l.arms
