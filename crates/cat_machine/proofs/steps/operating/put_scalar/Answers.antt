use Rattle.std.proofs.Common.{IfOk, subst, sym}
use Rattle.cat_value.specs.declared.value.Value.TheVariants as flat
use Rattle.cat_pool.specs.Nodes.{lone}
use Rattle.cat_scalar.specs.declared.scalar.Scalar.{Scalar}
use Rattle.cat_scalar.specs.Scalars.{scalar_reply}
use Rattle.cat_machine.specs.inside.Putting.{Puts}
use Rattle.cat_machine.proofs.OperatingSteps.{put_result}
use Rattle.cat_machine.proofs.Pushing.{put_more}
use Rattle.cat_machine.proofs.steps.operating.put_scalar.Goals as goal

pub returns-in-Integer-clause-ok : goal.returns-in-Integer-clause-ok
returns-in-Integer-clause-ok c =
    subst (λ (s : Scalar). IfOk c.put.result
    (λ r. IfOk (scalar_reply s) (λ v. Puts c.args.m.now (record c.args.m.now { pool = c.put.new.self }) v r)))
    (sym c.in-Integer.is)
    (put_result c.args.m.now (flat.Integer c.in-Integer.whole) c.put.new.self c.put.result c.requires.truths
    c.put.ensures.ok c.put.ensures.place)

pub returns-in-Integer-clause-pool : goal.returns-in-Integer-clause-pool
returns-in-Integer-clause-pool c =
    put_more c.args.m.now.pool c.put.new.self (lone (flat.Integer c.in-Integer.whole)) c.put.result c.put.ensures.ok
    c.put.ensures.err

pub returns-in-Decimal-clause-ok : goal.returns-in-Decimal-clause-ok
returns-in-Decimal-clause-ok c =
    subst (λ (s : Scalar). IfOk c.put-in-Decimal.result
    (λ r. IfOk (scalar_reply s)
    (λ v. Puts c.args.m.now (record c.args.m.now { pool = c.put-in-Decimal.new.self }) v r)))
    (sym c.in-Decimal.is)
    (put_result c.args.m.now (flat.Decimal c.in-Decimal.frac) c.put-in-Decimal.new.self c.put-in-Decimal.result
    c.requires.truths c.put-in-Decimal.ensures.ok c.put-in-Decimal.ensures.place)

pub returns-in-Decimal-clause-pool : goal.returns-in-Decimal-clause-pool
returns-in-Decimal-clause-pool c =
    put_more c.args.m.now.pool c.put-in-Decimal.new.self (lone (flat.Decimal c.in-Decimal.frac)) c.put-in-Decimal.result
    c.put-in-Decimal.ensures.ok c.put-in-Decimal.ensures.err

pub returns-in-Money-clause-ok : goal.returns-in-Money-clause-ok
returns-in-Money-clause-ok c =
    subst (λ (s : Scalar). IfOk c.put-in-Money.result
    (λ r. IfOk (scalar_reply s) (λ v. Puts c.args.m.now (record c.args.m.now { pool = c.put-in-Money.new.self }) v r)))
    (sym c.in-Money.is)
    (put_result c.args.m.now (flat.Money c.in-Money.money) c.put-in-Money.new.self c.put-in-Money.result
    c.requires.truths c.put-in-Money.ensures.ok c.put-in-Money.ensures.place)

pub returns-in-Money-clause-pool : goal.returns-in-Money-clause-pool
returns-in-Money-clause-pool c =
    put_more c.args.m.now.pool c.put-in-Money.new.self (lone (flat.Money c.in-Money.money)) c.put-in-Money.result
    c.put-in-Money.ensures.ok c.put-in-Money.ensures.err

pub returns-in-Date-clause-ok : goal.returns-in-Date-clause-ok
returns-in-Date-clause-ok c =
    subst (λ (s : Scalar). IfOk c.put-in-Date.result
    (λ r. IfOk (scalar_reply s) (λ v. Puts c.args.m.now (record c.args.m.now { pool = c.put-in-Date.new.self }) v r)))
    (sym c.in-Date.is)
    (put_result c.args.m.now (flat.Date c.in-Date.day) c.put-in-Date.new.self c.put-in-Date.result c.requires.truths
    c.put-in-Date.ensures.ok c.put-in-Date.ensures.place)

pub returns-in-Date-clause-pool : goal.returns-in-Date-clause-pool
returns-in-Date-clause-pool c =
    put_more c.args.m.now.pool c.put-in-Date.new.self (lone (flat.Date c.in-Date.day)) c.put-in-Date.result
    c.put-in-Date.ensures.ok c.put-in-Date.ensures.err

pub returns-in-Duration-clause-ok : goal.returns-in-Duration-clause-ok
returns-in-Duration-clause-ok c =
    subst (λ (s : Scalar). IfOk c.put-in-Duration.result
    (λ r. IfOk (scalar_reply s)
    (λ v. Puts c.args.m.now (record c.args.m.now { pool = c.put-in-Duration.new.self }) v r)))
    (sym c.in-Duration.is)
    (put_result c.args.m.now (flat.Duration c.in-Duration.span) c.put-in-Duration.new.self c.put-in-Duration.result
    c.requires.truths c.put-in-Duration.ensures.ok c.put-in-Duration.ensures.place)

pub returns-in-Duration-clause-pool : goal.returns-in-Duration-clause-pool
returns-in-Duration-clause-pool c =
    put_more c.args.m.now.pool c.put-in-Duration.new.self (lone (flat.Duration c.in-Duration.span))
    c.put-in-Duration.result c.put-in-Duration.ensures.ok c.put-in-Duration.ensures.err
