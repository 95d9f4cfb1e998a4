use Rattle.std.proofs.Common.{Some, None, true, false, drop, refl, subst, sym, ap, ◌∙◌}
use Rattle.cat_parse_expr.proofs.Common.{Node, IsFront, Found, Reads}
use Rattle.cat_parse_expr.proofs.Answered.{within_whole, front_read, longest_front, front_ends, none_longer, too_deep}
use Rattle.cat_parse_expr.proofs.Answered.{reaches, none_reaches, reach_is, reach_broken}
use Rattle.cat_parse_expr.proofs.expression.expr_reach.Goals as goal

pub returns-in-Ok-clause-found : goal.returns-in-Ok-clause-found
returns-in-Ok-clause-found c =
    subst (IsFront c.args.tokens.now c.args.at c.in-Ok.next) (sym c.into_inner.ensures)
    (front_read c.args.tokens.now c.args.at c.requires c.in-Ok.read c.in-Ok.next c.in-Ok.ensures.gives)

pub returns-in-Ok-clause-longest : goal.returns-in-Ok-clause-longest
returns-in-Ok-clause-longest c =
    longest_front c.args.tokens.now c.args.at c.requires c.in-Ok.read c.in-Ok.next c.in-Ok.ensures.gives

pub returns-in-Ok-clause-reach : goal.returns-in-Ok-clause-reach
returns-in-Ok-clause-reach c =
    front_ends c.args.tokens.now c.args.at c.requires c.in-Ok.read c.in-Ok.next c.in-Ok.ensures.gives

pub returns-in-Ok-clause-gives : goal.returns-in-Ok-clause-gives
returns-in-Ok-clause-gives c =
    let rest = drop c.in-Ok.next c.args.tokens.now in
    reach_is (drop c.args.at c.args.tokens.now) (Reads c.in-Ok.read rest) c.in-Ok.ensures.gives.0
    ∙ ap (λ (e : Node). Found e rest rest) (sym c.into_inner.ensures)

pub returns-then-broken-clause-cause : goal.returns-then-broken-clause-cause
returns-then-broken-clause-cause c =
    let gives = rw c.in-Err-Broken.field-0-is at c.in-Err-Broken.ensures.gives in
    rw c.in-Err-Broken.broken-is
    (too_deep c.args.tokens.now c.args.at c.requires c.in-Err-Broken.broken gives
    (rw c.in-Err-Broken.broken-is at c.if-broken.true))

pub returns-then-broken-clause-gives : goal.returns-then-broken-clause-gives
returns-then-broken-clause-gives c =
    let gives = rw c.in-Err-Broken.field-0-is at c.in-Err-Broken.ensures.gives in
    let broken = c.in-Err-Broken.broken in
    rw c.in-Err-Broken.broken-is
    (reach_broken c.args.tokens.now c.args.at broken gives true broken.whole
    (rw c.in-Err-Broken.broken-is at c.if-broken.true) refl)

pub returns-in_ok-whole-in-Some-clause-longest : goal.returns-in_ok-whole-in-Some-clause-longest
returns-in_ok-whole-in-Some-clause-longest c =
    let broken = c.in-Err-Broken.broken in
    let gives = rw c.in-Err-Broken.field-0-is at c.in-Err-Broken.ensures.gives in
    none_longer c.args.tokens.now c.args.at c.requires broken gives c.in-Some.end
    (rw c.in-Err-Broken.broken-is at c.in-Some.is)
    (within_whole c.args.tokens.now c.args.at broken c.in-Some.end gives (rw c.in-Err-Broken.broken-is at c.in-Some.is))

pub returns-in_ok-whole-in-Some-clause-reach : goal.returns-in_ok-whole-in-Some-clause-reach
returns-in_ok-whole-in-Some-clause-reach c =
    let gives = rw c.in-Err-Broken.field-0-is at c.in-Err-Broken.ensures.gives in
    rw c.in-Err-Broken.broken-is
    (reaches c.args.tokens.now c.args.at c.requires c.in-Err-Broken.broken gives
    (rw c.in-Err-Broken.broken-is at c.if-broken.false))

pub returns-in_ok-whole-in-Some-clause-gives : goal.returns-in_ok-whole-in-Some-clause-gives
returns-in_ok-whole-in-Some-clause-gives c =
    let broken = c.in-Err-Broken.broken in
    let gives = rw c.in-Err-Broken.field-0-is at c.in-Err-Broken.ensures.gives in
    rw c.in-Err-Broken.broken-is
    (reach_broken c.args.tokens.now c.args.at broken gives false (Some c.in-Some.end)
    (rw c.in-Err-Broken.broken-is at c.if-broken.false)
    (rw c.in-Err-Broken.broken-is at c.in-Some.is)
    ∙ c.in_ok-whole-in-Some.ensures.read (drop broken.at c.args.tokens.now))

pub returns-in-None-clause-cause : goal.returns-in-None-clause-cause
returns-in-None-clause-cause c =
    let gives = rw c.in-Err-Broken.field-0-is at c.in-Err-Broken.ensures.gives in
    rw c.in-Err-Broken.broken-is
    (none_reaches c.args.tokens.now c.args.at c.requires c.in-Err-Broken.broken gives
    (rw c.in-Err-Broken.broken-is at c.if-broken.false) (rw c.in-Err-Broken.broken-is at c.in-None.is))

pub returns-in-None-clause-gives : goal.returns-in-None-clause-gives
returns-in-None-clause-gives c =
    let broken = c.in-Err-Broken.broken in
    let gives = rw c.in-Err-Broken.field-0-is at c.in-Err-Broken.ensures.gives in
    rw c.in-Err-Broken.broken-is
    (reach_broken c.args.tokens.now c.args.at broken gives false None
    (rw c.in-Err-Broken.broken-is at c.if-broken.false)
    (rw c.in-Err-Broken.broken-is at c.in-None.is))
