use Rattle.std.proofs.Common.{◌≡◌, take}
use Rattle.cat_names.specs.Written.{texts}
use Rattle.cat_check_names.proofs.blocks.names_of.Given as goal

abbrev pub invariant-loop-param : goal.invariant-loop-param
invariant-loop-param l = l.names ≡ texts (take l.param-index l.params)
