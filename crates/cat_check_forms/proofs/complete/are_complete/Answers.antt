use Rattle.std.proofs.Common.{rules, ◌∙◌}
use Rattle.cat_check_forms.proofs.AllThere.{arms_are}
use Rattle.cat_check_forms.proofs.complete.are_complete.Goals as goal

pub returns : goal.returns
returns c = arms_are c.args.here.now.decls.now c.args.enumeration c.args.arms.now c.as_slice.result.now
    c.in_ok-cases.cases c.in_ok-has_all_cases.field-0 (c.as_slice.ensures ∙ c.in_ok-numbers.ensures)
    c.in_ok-cases.ensures.same (search rules) (search rules) (search rules) (search rules)
