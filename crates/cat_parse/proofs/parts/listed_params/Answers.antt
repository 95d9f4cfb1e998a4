use Rattle.std.proofs.Common.{[], ◌∷◌, ◌≡◌, rules, sym, ◌∙◌}
use Rattle.std.proofs.lemmas.Result.{err_from_is_err_and}
use Rattle.cat_parse.proofs.Common.{typed_name}
use Rattle.cat_parse.proofs.Shorter.{param_shrinks}
use Rattle.cat_parse.proofs.Turns.{at_first, further, smaller, last, refused}
use Rattle.cat_parse.proofs.parts.listed_params.Goals as goal

pub loop-alloc-init : goal.loop-alloc-init
loop-alloc-init c =
    let made : c.push.new.self ≡ c.in_ok-first.first ∷ [] = search rules in
    at_first typed_name c.in_ok-first.ensures made

pub loop-alloc-preserved : goal.loop-alloc-preserved
loop-alloc-preserved c =
    further c.loop-alloc.invariant param_shrinks (sym c.is_next.ensures ∙ c.loop-alloc-test.true) c.in_ok-item.ensures
    c.in_ok-push-2.ensures.ok

pub loop-alloc-smaller : goal.loop-alloc-smaller
loop-alloc-smaller c = smaller c.loop-alloc.invariant param_shrinks c.in_ok-item.ensures

pub returns : goal.returns
returns c = last c.loop-alloc.invariant (sym c.is_next.ensures ∙ c.loop-alloc-test.false)

pub returns-in_err-item : goal.returns-in_err-item
returns-in_err-item c =
    let p = err_from_is_err_and c.from_residual-in_err-item.result c.from_residual-in_err-item.ensures.1 in
    rw (p.1, p.2)
    (refused c.in_err-item.field-0.0 c.loop-alloc.invariant (sym c.is_next.ensures ∙ c.loop-alloc-test.true)
    c.in_err-item.ensures)
