use Rattle.std.proofs.Common.{◌≡◌, map, take}
use Rattle.cat_check_forms.specs.Tabled.{required_from}
use Rattle.cat_check.proofs.required.required_inputs.Given as goal

abbrev pub invariant-loop-scope : goal.invariant-loop-scope
invariant-loop-scope l = l.inputs ≡ map (λ s. required_from 0 s.items) (take l.scope-index l.decls.scopes)
