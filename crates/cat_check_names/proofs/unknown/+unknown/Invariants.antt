use Rattle.std.proofs.Common.{◌≡◌, ◌++◌, take}
use Rattle.std.specs.Prelude.{flat_map}
use Rattle.cat_names.specs.Unknown.{unknown_in, in_pattern, bound_by}
use Rattle.cat_check_names.specs.Tabled.{known_at}
use Rattle.cat_check_names.proofs.unknown.+unknown.Given as goal

abbrev pub invariant-add_all-loop-node : goal.invariant-add_all-loop-node
invariant-add_all-loop-node l = (l.bound ≡ l.fn.bound)
    × (l.faults ≡ l.fn.faults ++ flat_map (λ e. unknown_in (known_at l.here) e l.fn.bound) (take l.node-index l.nodes))

abbrev pub invariant-add_fields-loop-field : goal.invariant-add_fields-loop-field
invariant-add_fields-loop-field l = (l.bound ≡ l.fn.bound)
    × (l.faults ≡ l.initial.faults
    ++ flat_map (λ f. unknown_in (known_at l.here) f.value l.fn.bound) (take l.field-index l.fields))

abbrev pub invariant-add_arms-loop-arm : goal.invariant-add_arms-loop-arm
invariant-add_arms-loop-arm l = (l.bound ≡ l.fn.bound)
    × (l.faults ≡ l.fn.faults ++ flat_map (λ a. in_pattern (known_at l.here) a.pattern
    ++ unknown_in (known_at l.here) a.body (l.fn.bound ++ bound_by a.pattern)) (take l.arm-index l.arms))
