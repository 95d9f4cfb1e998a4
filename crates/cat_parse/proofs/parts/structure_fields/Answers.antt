use Rattle.std.proofs.Common.{[], ◌∷◌, ◌≡◌, rules, sym, ◌∙◌}
use Rattle.cat_parse.proofs.Common.{field}
use Rattle.cat_parse.proofs.Shorter.{field_shrinks}
use Rattle.cat_parse.proofs.Turns.{at_first, further, smaller, last}
use Rattle.cat_parse.proofs.parts.structure_fields.Goals as goal

pub loop-alloc-init : goal.loop-alloc-init
loop-alloc-init c =
    let made : c.push.new.self ≡ c.in_ok-first.first ∷ [] = search rules in
    at_first field c.in_ok-first.ensures made

pub loop-alloc-preserved : goal.loop-alloc-preserved
loop-alloc-preserved c =
    further c.loop-alloc.invariant field_shrinks (sym c.is_next.ensures ∙ c.loop-alloc-test.true) c.in_ok-item.ensures
    c.in_ok-push-2.ensures.ok

pub loop-alloc-smaller : goal.loop-alloc-smaller
loop-alloc-smaller c = smaller c.loop-alloc.invariant field_shrinks c.in_ok-item.ensures

pub returns : goal.returns
returns c = last c.loop-alloc.invariant (sym c.is_next.ensures ∙ c.loop-alloc-test.false)
