use Rattle.std.proofs.Common.{◌∙◌, ap, sym, ℕ, List}
use Rattle.cat_weave.specs.Woven.{woven_lines}
use Rattle.cat_weave.specs.inside.Reading.{law_kinds}
use Rattle.cat_weave.proofs.SegmentLemmas.{woven_utf8, woven_not_utf8}
use Rattle.cat_weave.proofs.weaver.weave.Goals as goal

pub returns-in-Ok-clause-gives : goal.returns-in-Ok-clause-gives
returns-in-Ok-clause-gives c other =
    let bytes = c.args.bytes.now in
    let file = c.args.file in
    c.woven_text.ensures.gives other ∙ ap (λ (text : List ℕ). woven_lines file (law_kinds text))
    c.in-Ok.ensures.cases.0 ∙ sym (woven_utf8 bytes file c.in-Ok.ensures.cases.1)

pub returns-in-Err-clause-gives : goal.returns-in-Err-clause-gives
returns-in-Err-clause-gives c _ =
    sym (woven_not_utf8 c.args.bytes.now c.args.file c.valid_up_to.result c.pos_at.result c.in-Err.ensures.cases.0
    (c.valid_up_to.ensures ∙ c.in-Err.ensures.valid_len) c.pos_at.ensures)
