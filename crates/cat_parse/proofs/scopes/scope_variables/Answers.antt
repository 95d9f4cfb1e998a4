use Rattle.std.proofs.Common.{[], ◌≡◌, rules, sym, ◌∙◌}
use Rattle.std.proofs.lemmas.Result.{err_from_is_err_and}
use Rattle.cat_parse.proofs.Shorter.{variable_shrinks}
use Rattle.cat_parse.proofs.Turns.{at_none, further, smaller, last, refused}
use Rattle.cat_parse.proofs.scopes.scope_variables.Goals as goal

pub loop-alloc-init : goal.loop-alloc-init
loop-alloc-init c = let made : c.new-variables.result ≡ [] = search rules in at_none c.requires made

pub loop-alloc-preserved : goal.loop-alloc-preserved
loop-alloc-preserved c =
    further c.loop-alloc.invariant variable_shrinks (sym c.is_variable.ensures ∙ c.loop-alloc-test.true)
    c.in_ok-variable.ensures c.in_ok-push.ensures.ok

pub loop-alloc-smaller : goal.loop-alloc-smaller
loop-alloc-smaller c = smaller c.loop-alloc.invariant variable_shrinks c.in_ok-variable.ensures

pub returns : goal.returns
returns c = last c.loop-alloc.invariant (sym c.is_variable.ensures ∙ c.loop-alloc-test.false)

pub returns-in_err-variable : goal.returns-in_err-variable
returns-in_err-variable c =
    let p = err_from_is_err_and c.from_residual.result c.from_residual.ensures.1 in
    rw (p.1, p.2)
    (refused c.in_err-variable.field-0.0 c.loop-alloc.invariant (sym c.is_variable.ensures ∙ c.loop-alloc-test.true)
    c.in_err-variable.ensures)
