use Rattle.std.proofs.Common.{◌≡◌, ◌++◌, ◌+◌, not, map, drop, List, sym, subst, ap, ◌∙◌}
use Rattle.cat_guard.specs.declared.tree.CitedNode.{CitedNode}
use Rattle.cat_walk.specs.Sharing.{body}
use Rattle.cat_walk.specs.inside.Writing.{picked}
use Rattle.cat_walk.proofs.BodyLemmas.{none_made, one_made, all_made}
use Rattle.cat_walk.proofs.writing.bodies.Goals as goal

pub loop-index-preserved-then-is_none : goal.loop-index-preserved-then-is_none
loop-index-preserved-then-is_none c = λ known names knows.
    none_made c.args.classes.now.splits.keys c.args.numbers.now c.requires c.loop-index.index c.loop-index-test.true
    c.loop-index.lists c.loop-index.invariant (c.is_none.ensures ∙ ap not c.if-is_none.true) known names knows

pub loop-index-preserved : goal.loop-index-preserved
loop-index-preserved c = λ known names knows.
    let numbers = c.args.numbers.now in
    let n = c.loop-index.index + 1 in
    subst (λ (ls : List (List CitedNode)). ls ++ map (body names) (picked (drop n known) (drop n numbers))
    ≡ map (body names) (picked known numbers)) (sym c.in_ok-push.ensures.ok)
    (one_made c.args.classes.now.splits.keys numbers c.requires c.loop-index.index c.loop-index-test.true
    c.loop-index.lists c.loop-index.invariant (c.is_none.ensures ∙ ap not c.if-is_none.false) c.in_ok-list.list
    (λ ks ns t has is. c.in_ok-list.ensures ks ns t has is) known names knows)

pub returns : goal.returns
returns c = λ known names knows.
    all_made c.args.numbers.now c.loop-index.index c.loop-index-test.false c.loop-index.lists known names
    (c.loop-index.invariant known names knows)
