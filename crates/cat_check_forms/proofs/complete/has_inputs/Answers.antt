use Rattle.std.proofs.Common.{rules, ◌∙◌}
use Rattle.cat_check_forms.proofs.AllThere.{inputs_there, no_inputs}
use Rattle.cat_check_forms.proofs.complete.has_inputs.Goals as goal

pub returns-in-Some : goal.returns-in-Some
returns-in-Some c = c.has_each.ensures
    ∙ inputs_there c.args.here.now.decls.now c.args.here.now.inputs.now c.args.scope c.args.given.now
    c.in-Some.required.now c.requires.inputs (search rules)

pub returns-in-None : goal.returns-in-None
returns-in-None c = no_inputs c.args.here.now.decls.now c.args.here.now.inputs.now c.args.scope c.args.given.now
    c.requires.inputs (search rules)
