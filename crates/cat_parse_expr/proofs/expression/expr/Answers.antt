use Rattle.std.proofs.Common.{subst, sym}
use Rattle.cat_parse_expr.proofs.Common.{IsFront}
use Rattle.cat_parse_expr.proofs.Answered.{within_whole, front_read, longest_front, none_longer, cause_of}
use Rattle.cat_parse_expr.proofs.expression.expr.Goals as goal

pub returns-in-Ok-clause-found : goal.returns-in-Ok-clause-found
returns-in-Ok-clause-found c =
    subst (IsFront c.args.tokens.now c.args.at c.in-Ok.next) (sym c.into_inner.ensures)
    (front_read c.args.tokens.now c.args.at c.requires c.in-Ok.read c.in-Ok.next c.in-Ok.ensures.gives)

pub returns-in-Ok-clause-longest : goal.returns-in-Ok-clause-longest
returns-in-Ok-clause-longest c =
    longest_front c.args.tokens.now c.args.at c.requires c.in-Ok.read c.in-Ok.next c.in-Ok.ensures.gives

pub returns-in_ok-whole-in-Some-clause-longest : goal.returns-in_ok-whole-in-Some-clause-longest
returns-in_ok-whole-in-Some-clause-longest c =
    let broken = c.in-Err-Broken.broken in
    let gives = rw c.in-Err-Broken.field-0-is at c.in-Err-Broken.ensures.gives in
    none_longer c.args.tokens.now c.args.at c.requires broken gives c.in-Some.end
    (rw c.in-Err-Broken.broken-is at c.in-Some.is)
    (within_whole c.args.tokens.now c.args.at broken c.in-Some.end gives (rw c.in-Err-Broken.broken-is at c.in-Some.is))

pub returns-in-None-clause-cause : goal.returns-in-None-clause-cause
returns-in-None-clause-cause c =
    let gives = rw c.in-Err-Broken.field-0-is at c.in-Err-Broken.ensures.gives in
    cause_of c.args.tokens.now c.args.at c.requires c.in-Err-Broken.broken c.refusal_at.result gives
    (rw c.in-Err-Broken.broken-is at c.in-None.is)
    (rw c.in-Err-Broken.broken-is at c.refusal_at.ensures)
