-- Worked examples of which refusal is named first.
use Rattle.std.proofs.Common.{◌≡◌, refl}
use Rattle.cat_pos.specs.declared.pos.Pos.{Pos}
use Rattle.cat_except.specs.declared.refusal.ExceptRefusal.TheVariants as exception
use Rattle.cat_build.specs.inside.Forests.{first_named}

-- a cycle in a scope, and a label in a later one
a_label_is_named_before_a_cycle : (p q : Pos)
    → first_named (exception.ExceptionCycle p) (exception.LabelUnknown q) ≡ exception.LabelUnknown q
a_label_is_named_before_a_cycle p q = refl

-- a cycle in a scope, and a chain in a later one
a_cycle_is_named_before_a_chain : (p q : Pos)
    → first_named (exception.ExceptionCycle p) (exception.TooMany q) ≡ exception.ExceptionCycle p
a_cycle_is_named_before_a_chain p q = refl

-- cycles in two scopes
of_one_kind_the_earlier_is_named : (p q : Pos)
    → first_named (exception.ExceptionCycle p) (exception.ExceptionCycle q) ≡ exception.ExceptionCycle p
of_one_kind_the_earlier_is_named p q = refl
