use Rattle.std.proofs.Common.{◌≡◌, ◌++◌, drop}
use Rattle.cat_names.specs.Definitions.{named_params}
use Rattle.cat_check_exprs.proofs.conditions.named_params.Given as goal

abbrev pub invariant-loop-name : goal.invariant-loop-name
invariant-loop-name l = l.locals ++ named_params (drop l.name-index l.names) l.types
    ≡ named_params l.fn.names l.fn.types
