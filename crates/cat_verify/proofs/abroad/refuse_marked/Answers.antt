use Rattle.cat_verify.specs.inside.Abroad.{IsAbroad}
use Rattle.cat_verify.proofs.WalkLemmas.{none_more}
use Rattle.cat_verify.proofs.AbroadLemmas.{one_abroad, not_abroad, none_abroad}
use Rattle.cat_verify.proofs.abroad.refuse_marked.Goals as goal

pub returns-then-calls_abroad-clause-cause : goal.returns-then-calls_abroad-clause-cause
returns-then-calls_abroad-clause-cause c =
    one_abroad c.args.functions.now c.args.code.now c.args.marks.now c.loop-at.at _ c.requires c.loop-at-test.true
    c.if-calls_abroad.ensures

pub loop-at-preserved : goal.loop-at-preserved
loop-at-preserved c =
    none_more (IsAbroad c.args.functions.now c.args.code.now c.args.marks.now) c.loop-at.at c.loop-at.invariant
    (not_abroad c.args.functions.now c.args.code.now c.args.marks.now c.loop-at.at _ c.if-calls_abroad.ensures)

pub returns-clause-none : goal.returns-clause-none
returns-clause-none c =
    none_abroad c.args.functions.now c.args.code.now c.args.marks.now c.loop-at.at c.loop-at-test.false
    c.loop-at.invariant
