use Rattle.std.proofs.Common.{rules, ◌∙◌}
use Rattle.cat_scope.specs.Fitting.{numbers_in}
use Rattle.cat_check_forms.proofs.AllThere.{fields_are, not_as_many}
use Rattle.cat_check_forms.proofs.complete.are_fields_of.Goals as goal

pub returns-then-len : goal.returns-then-len
returns-then-len c = not_as_many c.args.here.now.decls.now c.args.structure (numbers_in c.args.values.now)
    c.in-Some.declared.now (search rules) (search rules)

pub returns : goal.returns
returns c = fields_are c.args.here.now.decls.now c.args.structure c.as_slice.result.now
    (numbers_in c.args.values.now) c.in_ok-given.given c.in-Some.declared.now c.in_ok-has_below.field-0
    (c.as_slice.ensures ∙ c.in_ok-numbers.ensures) c.in_ok-given.ensures.same (search rules) (search rules)
    (search rules)
