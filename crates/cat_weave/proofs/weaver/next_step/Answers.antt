use Rattle.std.proofs.Common.{sym, subst}
use Rattle.cat_pos.proofs.Packing.{file_kept}
use Rattle.cat_weave.specs.Kinds.{LawLine, OpeningLine, HeadingLine, IncludeLine}
use Rattle.cat_weave.specs.inside.Reading.{law_kinds, block_kinds, IsStep}
use Rattle.cat_weave.specs.declared.weaver.Step.{Step}
use Rattle.cat_weave.proofs.SegmentLemmas.{line_read, law_step, opening_step, heading_step, include_step}
use Rattle.cat_weave.proofs.weaver.next_step.Goals as goal

pub returns-in-Law-clause-gives : goal.returns-in-Law-clause-gives
returns-in-Law-clause-gives c =
    let lines = law_kinds c.args.rest.now in
    let after = c.first_line.result.1.now in
    let first =
    line_read c.args.rest.now c.first_line.result.0.now after c.bare.result.now LawLine c.first_line.ensures.lines
    c.bare.ensures c.in-Law.ensures in
    subst (λ (s : Step). IsStep c.args.file c.args.line lines s.segment s.lines (law_kinds s.after.now))
    (sym c.line_step.ensures) (law_step c.args.file c.args.line lines (law_kinds after) first)

pub returns-in-Opening-clause-gives : goal.returns-in-Opening-clause-gives
returns-in-Opening-clause-gives c =
    let after = c.first_line.result.1.now in
    let first =
    line_read c.args.rest.now c.first_line.result.0.now after c.bare.result.now OpeningLine
    c.first_line.ensures.lines c.bare.ensures c.in-Opening.ensures in
    opening_step c.args.file c.args.line (law_kinds c.args.rest.now) (block_kinds after) c.block_step.result first
    (rw (c.new-pos.ensures, file_kept c.args.file c.args.line 1 c.requires.file) at c.block_step.ensures.gives)

pub returns-in_ok-text-in-Heading-clause-gives : goal.returns-in_ok-text-in-Heading-clause-gives
returns-in_ok-text-in-Heading-clause-gives c =
    let lines = law_kinds c.args.rest.now in
    let after = c.first_line.result.1.now in
    let text = c.in_ok-text-in-Heading.text in
    let first =
    line_read c.args.rest.now c.first_line.result.0.now after c.bare.result.now
    (HeadingLine c.in-Heading.level c.in-Heading.text.now) c.first_line.ensures.lines c.bare.ensures
    c.in-Heading.ensures in
    let step =
    heading_step c.args.file c.args.line c.in-Heading.level text lines (law_kinds after)
    (rw c.in_ok-text-in-Heading.ensures first) in
    subst (λ (s : Step). IsStep c.args.file c.args.line lines s.segment s.lines (law_kinds s.after.now))
    (sym c.line_step-in-Heading.ensures) (rw c.new-pos.ensures step)

pub returns-in_ok-path-in-Include-clause-gives : goal.returns-in_ok-path-in-Include-clause-gives
returns-in_ok-path-in-Include-clause-gives c =
    let lines = law_kinds c.args.rest.now in
    let after = c.first_line.result.1.now in
    let path = c.in_ok-path-in-Include.path in
    let first =
    line_read c.args.rest.now c.first_line.result.0.now after c.bare.result.now
    (IncludeLine c.in-Include.path.now) c.first_line.ensures.lines c.bare.ensures c.in-Include.ensures in
    let step =
    include_step c.args.file c.args.line path lines (law_kinds after) (rw c.in_ok-path-in-Include.ensures first) in
    subst (λ (s : Step). IsStep c.args.file c.args.line lines s.segment s.lines (law_kinds s.after.now))
    (sym c.line_step-in-Include.ensures) (rw c.new-pos.ensures step)
