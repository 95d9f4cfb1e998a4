use Rattle.std.proofs.Common.{rules, ◌∙◌}
use Rattle.cat_scope.specs.Fitting.{numbers_in}
use Rattle.cat_check_forms.proofs.AllThere.{call_fields_are, not_differing}
use Rattle.cat_check_forms.proofs.complete.are_call_fields.Goals as goal

pub returns-then-not-differ : goal.returns-then-not-differ
returns-then-not-differ c = not_differing c.args.here.now.decls.now c.args.scope c.as_slice.result.now
    (numbers_in c.args.values.now) (c.as_slice.ensures ∙ c.in_ok-numbers.ensures) (search rules)

pub returns : goal.returns
returns c = call_fields_are c.args.here.now.decls.now c.args.scope c.as_slice.result.now
    (numbers_in c.args.values.now) c.in_ok-given.given c.has_inputs.result
    (c.as_slice.ensures ∙ c.in_ok-numbers.ensures) c.in_ok-given.ensures.same (search rules) c.has_inputs.ensures
