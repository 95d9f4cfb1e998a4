use Rattle.std.proofs.Common.{drop, subst, sym, ap, ◌∙◌}
use Rattle.cat_parse_expr.proofs.Common.{Node, IsFront, Found}
use Rattle.cat_parse_expr.proofs.Answered.{within_whole, behind_front, front_again, never_broken, again_found}
use Rattle.cat_parse_expr.proofs.expression.whole.Goals as goal

pub front-requires-clause-order : goal.front-requires-clause-order
front-requires-clause-order c =
    let a = c.args in
    behind_front a.tokens.now a.at c.requires.place a.broken c.requires.broken a.end c.requires.whole
    (within_whole a.tokens.now a.at a.broken a.end c.requires.broken c.requires.whole)

pub unreachable-requires : goal.unreachable-requires
unreachable-requires c =
    let a = c.args in
    let again = rw c.in-Err-Broken.field-0-is at c.in-Err-Broken.ensures in
    never_broken a.tokens.now a.at c.requires.place a.broken c.requires.broken a.end c.requires.whole
    (within_whole a.tokens.now a.at a.broken a.end c.requires.broken c.requires.whole) c.in-Err-Broken.field-0-0 again

pub returns-in-Ok-clause-found : goal.returns-in-Ok-clause-found
returns-in-Ok-clause-found c =
    let a = c.args in
    subst (IsFront a.tokens.now a.at a.end) (sym c.into_inner.ensures)
    (front_again a.tokens.now a.at c.requires.place a.broken c.requires.broken a.end c.requires.whole
    (within_whole a.tokens.now a.at a.broken a.end c.requires.broken c.requires.whole) c.in-Ok.read c.in-Ok.field-0-1
    c.in-Ok.ensures)

pub returns-in-Ok-clause-read : goal.returns-in-Ok-clause-read
returns-in-Ok-clause-read c =
    let a = c.args in
    λ left. again_found a.tokens.now a.at c.requires.place a.broken c.requires.broken a.end c.requires.whole
    (within_whole a.tokens.now a.at a.broken a.end c.requires.broken c.requires.whole) c.in-Ok.read c.in-Ok.field-0-1
    c.in-Ok.ensures left
    ∙ ap (λ (e : Node). Found e (drop a.end a.tokens.now) left) (sym c.into_inner.ensures)
