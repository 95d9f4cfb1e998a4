use Rattle.std.proofs.Common.{[], ◌≡◌, rules, sym, ◌∙◌}
use Rattle.std.proofs.lemmas.Result.{err_from_is_err_and}
use Rattle.cat_parse.specs.Expression.{expression}
use Rattle.cat_parse.proofs.Shorter.{use_shrinks}
use Rattle.cat_parse.proofs.Turns.{at_none, further, smaller, last, refused}
use Rattle.cat_parse.proofs.blocks.lines.Goals as goal

pub loop-alloc-init : goal.loop-alloc-init
loop-alloc-init c = let made : c.new-lines.result ≡ [] = search rules in at_none c.requires made

pub loop-alloc-preserved : goal.loop-alloc-preserved
loop-alloc-preserved c =
    further c.loop-alloc.invariant (use_shrinks expression c.expressions_are_read_rightly.ensures)
    (sym c.is_line.ensures ∙ c.loop-alloc-test.true) c.in_ok-found.ensures
    c.in_ok-push.ensures.ok

pub loop-alloc-smaller : goal.loop-alloc-smaller
loop-alloc-smaller c =
    smaller c.loop-alloc.invariant (use_shrinks expression c.expressions_are_read_rightly.ensures) c.in_ok-found.ensures

pub returns : goal.returns
returns c = last c.loop-alloc.invariant (sym c.is_line.ensures ∙ c.loop-alloc-test.false)

pub returns-in_err-found : goal.returns-in_err-found
returns-in_err-found c =
    let p = err_from_is_err_and c.from_residual.result c.from_residual.ensures.1 in
    rw (p.1, p.2)
    (refused c.in_err-found.field-0.0 c.loop-alloc.invariant (sym c.is_line.ensures ∙ c.loop-alloc-test.true)
    c.in_err-found.ensures)
