use Rattle.std.proofs.Common.{◌≡◌, ◌++◌, drop}
use Rattle.cat_names.specs.Definitions.{nameless_params}
use Rattle.cat_check_exprs.proofs.conditions.nameless_params.Given as goal

abbrev pub invariant-loop-ty : goal.invariant-loop-ty
invariant-loop-ty l = l.locals ++ nameless_params (drop l.ty-index l.types) ≡ nameless_params l.types
