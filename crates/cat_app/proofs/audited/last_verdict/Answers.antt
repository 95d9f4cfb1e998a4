use Rattle.std.proofs.Common.{◌≤◌, ◌∙◌, length, sym, arith}
use Rattle.cat_app.proofs.Audits.{last_at, last_of}
use Rattle.cat_app.proofs.audited.last_verdict.Goals as goal

pub returns : goal.returns
returns c =
    let sections = c.args.sections.now in
    let all : length sections ≤ c.loop-section.section-index = omega (arith, c.loop-section-test.false) in
    sym (last_at c.loop-section.last c.loop-section.section-index sections all)
    ∙ (c.loop-section.invariant ∙ last_of sections)
