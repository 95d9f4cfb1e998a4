use Rattle.std.proofs.Common.{◌≡◌, ◌∙◌, sym, length, Ok, arith, rules}
use Rattle.std.proofs.lemmas.Bool.Decides.{nat_tests}
use Rattle.cat_weave.proofs.SegmentLemmas.{woven_all}
use Rattle.cat_weave.proofs.WithinLemmas.{woven_within}
use Rattle.cat_weave.proofs.weaver.woven_text.Goals as goal

pub returns-clause-gives : goal.returns-clause-gives
returns-clause-gives c _ =
    let rest = c.loop-rest.rest.now in
    let none : length rest ≡ 0 = first_of (omega arith, search rules, grind (arith, nat_tests)) in
    sym (woven_all c.loop-rest.segments c.args.file c.loop-rest.line rest none) ∙ c.loop-rest.invariant.whole

pub returns-clause-within : goal.returns-clause-within
returns-clause-within c =
    let rest = c.loop-rest.rest.now in
    let none : length rest ≡ 0 = first_of (omega arith, search rules, grind (arith, nat_tests)) in
    woven_within c.args.file c.args.text.now (Ok (record { segments = c.loop-rest.segments }))
    (λ _. sym (woven_all c.loop-rest.segments c.args.file c.loop-rest.line rest none) ∙ c.loop-rest.invariant.whole)
