use Rattle.std.proofs.Common.{◌++◌, ◌∷◌, [], Option, ℕ, ap, sym, ◌∙◌}
use Rattle.cat_value.specs.declared.decls.Decls.{Decls}
use Rattle.cat_code.specs.Logged.{is_function_target}
use Rattle.cat_machine.proofs.LogSteps.{logs_more}
use Rattle.cat_machine.proofs.steps.defaults.log_target.Goals as goal

pub returns-clause-ok : goal.returns-clause-ok
returns-clause-ok c =
    logs_more c.args.code.now.tables c.args.m.now c.in-Some.target c.args.checked c.args.found c.in-Some-get.entry.now
    c.push.new.self c.in-Some.is
    (sym c.in-Some-get.ensures.value)
    (ap (λ (d : Decls). is_function_target d c.in-Some-get.entry.now.target c.in-Some-get.entry.now.target.inner)
    (sym c.get-2.ensures)
    ∙ sym c.is_function_target.ensures ∙ c.if-is_function_target.false)
    c.requires
    (c.in_ok-push.ensures.ok
    ∙ ap (λ (n : Option ℕ). c.args.m.now.log ++ record { target = c.in-Some.target; definition = n } ∷ [])
    c.number_of.ensures)
